-- Blocks that were left stand for the state that they open to.
use Rattle.std.proofs.Common.{◌≡◌, ◌⊎◌, inl, inr, ⊎_elim, ◌<◌, ◌≤◌, ◌+◌, ◌-◌, ◌*◌, ◌/◌, ◌%◌, ◌==◌, ◌++◌, ℕ, zero, suc, List, [], ◌∷◌, length, map, get_or, replicate, Some, None, refl, sym, ◌∙◌, ap, subst, arith}
use Rattle.std.proofs.Math.Nat.{div-add-mod}
use Rattle.std.proofs.lemmas.Bool.{cases_eq, cases_lt, cond-true, cond-false, eq-eqb, ne_eqb}
use Rattle.std.proofs.lemmas.Nat.{div_below}
use Rattle.std.proofs.lemmas.List.{ext_get_or, get_or_past, get_or_append_left, get_or-append-add, length-append, length-map, length-replicate}
use Rattle.std.proofs.lemmas.List.FromFn.{length-map-range_with_len, get_or-map-range_with_len}
use Rattle.std.specs.List.{AllByRecursion}
use Rattle.rb_base.specs.Blocks.{IsShape}
use Rattle.rb_base.specs.declared.ids.Xid.{Xid}
use Rattle.rb_base.specs.declared.shape.Shape.{Shape}
use Rattle.rb_base.specs.declared.sizes.TheConstants.{ACTIVE, SLOTS}
use Rattle.rb_model.specs.Book.{Book, BookSlot, Owner, book_at, free_slot, fresh_book, slot_owner}
use Rattle.rb_model.specs.Change as model
use Rattle.rb_model.specs.State.{Session, State, no_session, owner_at, session_count, session_own}
use Rattle.rb_model.specs.Rows.{TableRow}
use Rattle.rb_segment.proofs.Fresh.{all_same}
use Rattle.rb_segment.specs.Books.{IsBook}
use Rattle.rb_segment.specs.Header.{Header, Segment}
use Rattle.rb_segment.specs.Segments.{commit_scn}
use Rattle.rb_txntable.specs.declared.slots.TableSlot.{TableSlot}
use Rattle.law_blocks.proofs.Machine.{lives_counted}
use Rattle.law_blocks.proofs.States.{lives_at, lives_owned}
use Rattle.law_blocks.specs.Says.{xid_by}
use Rattle.law_blocks.specs.Standing.{SoundAs, Standing, env_of, segments_of}
use Rattle.law_blocks.specs.States.{BlocksStand, InTables, Owns, lives_of, newest_first, owned, past_of}
use Rattle.law_blocks.specs.Values.{slot_of}
use Rattle.law_home.proofs.Lives.{own_within}
use Rattle.law_home.specs.Walk.{Change, Env, own}
use Rattle.law_opened.proofs.Books.{found_tells, slot_there}
use Rattle.law_opened.proofs.Told.{AreTold, are_told, told_back}
use Rattle.law_opened.specs.Opened.{dead_number, dead_session, found_owner, opened_with, owned_book, owned_books, told_change, told_changes, turns_of}

all_append : {X : Type 0} (P : X → Type 0) (xs : List X) (y : X) → AllByRecursion P xs → P y → AllByRecursion P (xs ++ y ∷ [])
all_append P [] y all last = (last, tt)
all_append P (x ∷ xs) y all last = (all.0, all_append P xs y all.1 last)

told_none : (shape : Shape) (chs : List Change) (c : model.Change) (more : List model.Change) → told_changes shape chs ≡ c ∷ more → (ch : Change) × (rest : List Change) × (chs ≡ ch ∷ rest)
told_none shape [] c more is = absurd cc
told_none shape (ch ∷ rest) c more is = (ch, rest, refl)

told_tables : (shape : Shape) (x : Xid) → 1 ≤ shape.blocks → (chs : List Change) → AreTold shape x chs → InTables shape (told_changes shape chs)
told_tables shape x some [] told = tt
told_tables shape x some (ch ∷ more) told = all_append _ (told_changes shape more) (told_change shape ch) (told_tables shape x some more told.4) (omega arith, within)
  where
    within : ch.home / shape.blocks + 1 ≤ shape.tables
    within = let below : ch.home / shape.blocks < shape.tables = div_below ch.home shape.blocks shape.tables some told.3 in omega (arith, below)

dead_at : (shape : Shape) (l : List (List Change)) (t : ℕ) → (get_or (map (dead_session shape) l) t no_session).own ≡ told_changes shape (own l t)
dead_at shape [] t = refl
dead_at shape (x ∷ l) zero = refl
dead_at shape (x ∷ l) (suc t) = dead_at shape l t

-- the owner of a found slot
owner_some : (h : Header) (n : ℕ) (slot : TableSlot) (o : Owner) → found_owner h n slot ≡ Some o → (slot.state ≡ ACTIVE) × (o.session ≡ n)
owner_some h n slot o is = elim (cases_eq slot.state ACTIVE) [
  | inl active ↦
      let there = cond-true (slot.state == ACTIVE) (Some (let z : Owner = record { session = n; start = slot.start; touched = turns_of h slot.touched } in z)) None (eq-eqb slot.state ACTIVE active) in
      let same : Some (let z : Owner = record { session = n; start = slot.start; touched = turns_of h slot.touched } in z) ≡ Some o = sym there ∙ is in
      let one : (let z : Owner = record { session = n; start = slot.start; touched = turns_of h slot.touched } in z) ≡ o = cc (same) in
      (active, sym (ap (λ (z : Owner). z.session) one))
  | inr idle ↦
      let there = cond-false (slot.state == ACTIVE) (Some (let z : Owner = record { session = n; start = slot.start; touched = turns_of h slot.touched } in z)) None (ne_eqb slot.state ACTIVE idle) in
      let never : None ≡ Some o = sym there ∙ is in
      absurd cc
]

module _ (shape : Shape) (blocks : List (List ℕ)) (number : ℕ) (rows : List TableRow) (in_range : IsShape shape) (left : SoundAs shape blocks number rows) where
  abbrev Segs : ℕ → Segment
  Segs = segments_of shape blocks

  abbrev Lives : List (List Change)
  Lives = left.lives

  abbrev First : State
  First = opened_with shape number rows (owned_books shape blocks) Lives

  abbrev Now : Env
  Now = env_of shape blocks

  stand : Standing shape blocks (record { base = number; rows = rows; list = [] }) Lives
  stand = left.standing

  lives_many : length Lives ≡ SLOTS * shape.segments
  lives_many = stand.stands.slots_counted

  told : (t : ℕ) → t < SLOTS * shape.segments → AreTold shape (xid_by Segs t) (own Lives t)
  told = are_told shape in_range.few_blocks.0 blocks (record { base = number; rows = rows; list = [] }) Lives stand

  books_many : length (owned_books shape blocks) ≡ shape.segments
  books_many = length-map-range_with_len (λ (g : ℕ). owned_book (Segs g).header g) 0 shape.segments

  book_is : (g : ℕ) → g < shape.segments → book_at (owned_books shape blocks) g ≡ owned_book (Segs g).header g
  book_is g there = get_or-map-range_with_len (λ (k : ℕ). owned_book (Segs k).header k) 0 shape.segments g g fresh_book there (omega arith)

  is_book : (g : ℕ) → g < shape.segments → IsBook (Segs g).header (book_at (owned_books shape blocks) g)
  is_book g there =
      let b = left.books g there in
      subst (IsBook (Segs g).header) (sym (book_is g there)) (found_tells (Segs g).header (commit_scn shape blocks) g (stand.stands.in_order g there).header b.0 b.1)

  -- who has a slot
  owner_is : (t : ℕ) → t < SLOTS * shape.segments → owner_at First t ≡ found_owner (Segs (t / SLOTS)).header (dead_number t) (slot_of Segs t)
  owner_is t t_in =
      let parts = div-add-mod t SLOTS in
      let there : t / SLOTS < shape.segments = omega (arith, t_in) in
      let number : 16 * (t / SLOTS) + t % SLOTS ≡ t = omega (arith, parts) in
      let b = left.books (t / SLOTS) there in
      ap (λ (b : Book). slot_owner b (t % SLOTS)) (book_is (t / SLOTS) there)
      ∙ (ap (λ (s : BookSlot). s.owner) (slot_there (Segs (t / SLOTS)).header (commit_scn shape blocks) (t / SLOTS) (stand.stands.in_order (t / SLOTS) there).header b.0 b.1 (t % SLOTS) (omega arith))
      ∙ ap (λ (n : ℕ). found_owner (Segs (t / SLOTS)).header (dead_number n) (slot_of Segs t)) number)

  owner_past : (t : ℕ) → SLOTS * shape.segments ≤ t → owner_at First t ≡ None
  owner_past t past = ap (λ (b : Book). slot_owner b (t % SLOTS)) (get_or_past (owned_books shape blocks) (t / SLOTS) fresh_book (omega (arith, past, books_many))) ∙ ap (λ (s : BookSlot). s.owner) (all_same free_slot SLOTS (t % SLOTS))

  -- an owner is the dead transaction of its slot
  owner_dead : (s t : ℕ) → Owns First s t → (t < SLOTS * shape.segments) × (s ≡ dead_number t)
  owner_dead s t owns = elim (cases_lt t (SLOTS * shape.segments)) [
    | inl t_in ↦ let is = owner_some (Segs (t / SLOTS)).header (dead_number t) (slot_of Segs t) owns.owner (sym (owner_is t t_in) ∙ owns.at) in (t_in, sym owns.session ∙ is.1)
    | inr past ↦ let none : None ≡ Some owns.owner = sym (owner_past t past) ∙ owns.at in absurd cc
  ]

  owns_active : (t : ℕ) → t < SLOTS * shape.segments → (slot_of Segs t).state ≡ ACTIVE → Owns First (dead_number t) t
  owns_active t t_in active = record {
    owner = record { session = dead_number t; start = (slot_of Segs t).start; touched = turns_of (Segs (t / SLOTS)).header (slot_of Segs t).touched };
    at = owner_is t t_in ∙ cond-true ((slot_of Segs t).state == ACTIVE) _ None (eq-eqb (slot_of Segs t).state ACTIVE active);
    session = refl;
  }

  -- the changes of each session
  own_dead : (t : ℕ) → session_own First (dead_number t) ≡ told_changes shape (own Lives t)
  own_dead t =
      let at : dead_number t - 1 ≡ length (replicate session_count no_session) + t = let n = length-replicate session_count no_session in omega (arith, n) in
      ap (λ (z : Session). z.own) (ap (λ (k : ℕ). get_or First.sessions k no_session) at ∙ behind)
      ∙ by_place
    where
      behind : get_or First.sessions (length (replicate session_count no_session) + t) no_session ≡ get_or (map (dead_session shape) Lives) t no_session
      behind = get_or-append-add (replicate session_count no_session) (map (dead_session shape) Lives) t no_session

      by_place : (get_or (map (dead_session shape) Lives) t no_session).own ≡ told_changes shape (own Lives t)
      by_place = dead_at shape Lives t

  own_alive : (s : ℕ) → s ≤ session_count → session_own First s ≡ []
  own_alive s few = ap (λ (z : Session). z.own) (get_or_append_left (replicate session_count no_session) (map (dead_session shape) Lives) no_session (s - 1) (let n = length-replicate session_count no_session in omega (arith, n, few)) ∙ all_same no_session session_count (s - 1))

  sessions_many : length First.sessions ≡ session_count + SLOTS * shape.segments
  sessions_many =
      let all = length-append (replicate session_count no_session) (map (dead_session shape) Lives) in
      let first = length-replicate session_count no_session in
      let dead = length-map Lives (dead_session shape) in
      omega (arith, all, first, dead, lives_many)

  -- each session is one of the sixteen, or dead
  which : (s : ℕ) → (s ≤ session_count) ⊎ ((t : ℕ) × (s ≡ dead_number t))
  which s = elim (cases_lt session_count s) [
    | inl more ↦ inr (s - (session_count + 1), omega (arith, more))
    | inr few ↦ inl few
  ]

  in_tables : (s : ℕ) → InTables shape (session_own First s)
  in_tables s = ⊎_elim
      (λ few. subst (InTables shape) (sym (own_alive s few)) tt)
      (λ dead. subst (λ (z : ℕ). InTables shape (session_own First z)) (sym dead.1) (subst (InTables shape) (sym (own_dead dead.0)) (by_slot dead.0)))
      (which s)
    where
      by_slot : (t : ℕ) → InTables shape (told_changes shape (own Lives t))
      by_slot t = elim (cases_lt t (SLOTS * shape.segments)) [
        | inl t_in ↦ told_tables shape (xid_by Segs t) in_range.few_blocks.0 (own Lives t) (told t t_in)
        | inr past ↦ subst (λ (z : List Change). InTables shape (told_changes shape z)) (sym (get_or_past Lives t [] (omega (arith, past, lives_many)))) tt
      ]

  has_slot : (s : ℕ) (c : model.Change) (more : List model.Change) → 1 ≤ s → session_own First s ≡ c ∷ more → (t : ℕ) × (t < SLOTS * shape.segments) × Owns First s t
  has_slot s c more low is = ⊎_elim
      (λ few. let none = own_alive s few in absurd (cc (none, is)))
      (λ dead.
      let t = dead.0 in
      let some = told_none shape (own Lives t) c more (sym (own_dead t) ∙ (ap (session_own First) (sym dead.1) ∙ is)) in
      let within = own_within Lives t some.0 some.1 some.2 in
      let t_in : t < SLOTS * shape.segments = omega (arith, within, lives_many) in
      elim (cases_eq (slot_of Segs t).state ACTIVE) [
        | inl active ↦ (t, t_in, subst (λ (z : ℕ). Owns First z t) (sym dead.1) (owns_active t t_in active))
        | inr idle ↦ let none = (stand.stands.slots t t_in).idle idle in absurd (cc (none, some.2))
      ])
      (which s)

  -- the live changes that the state names are those that are there
  lives_same : (t : ℕ) → t < SLOTS * shape.segments → own Lives t ≡ own (lives_of First Now) t
  lives_same t t_in = sym (elim (cases_eq (slot_of Segs t).state ACTIVE) [
    | inl active ↦
        lives_owned First Now (dead_number t) t t_in (owns_active t t_in active)
        ∙ (ap (λ (z : List model.Change). newest_first shape (Now.xid t) 1 z []) (own_dead t)
        ∙ told_back shape (xid_by Segs t) (own Lives t) (told t t_in))
    | inr idle ↦
        lives_at First Now t t_in
        ∙ (ap (owned First (Now.xid t)) (owner_is t t_in ∙ cond-false ((slot_of Segs t).state == ACTIVE) _ None (ne_eqb (slot_of Segs t).state ACTIVE idle))
        ∙ sym ((stand.stands.slots t t_in).idle idle))
  ])

  same_lives : Lives ≡ lives_of First Now
  same_lives = ext_get_or [] Lives (lives_of First Now) (lives_many ∙ sym (lives_counted First Now)) (λ t lt. lives_same t (omega (arith, lt, lives_many)))

  pub opens_to : BlocksStand First [] blocks
  opens_to = record {
    tell = record {
      in_range = in_range;
      counted = refl;
      books_counted = books_many;
      books = is_book;
      owner_there = λ s t owns. let is = owner_dead s t owns in (omega (arith, is.1), omega (arith, is.0, is.1, sessions_many));
      one_slot = λ s t u owns also. let a = owner_dead s t owns in let b = owner_dead s u also in omega (arith, a.1, b.1);
      has_slot = has_slot;
      tables = in_tables;
      commit_tables = tt;
      ids_differ = λ i j i_in. absurd (omega (arith, i_in));
      ids_made = λ i i_in. absurd (omega (arith, i_in));
      ids_over = λ i t i_in. absurd (omega (arith, i_in));
      running = left.running;
    };
    standing = subst (Standing shape blocks (past_of First [])) same_lives stand;
  }
