-- The first test of a write that applies to a cleaned home and a header is the machine's.
use Rattle.std.proofs.Common.{◌≡◌, ◌≢◌, ◌⊎◌, inl, inr, ⊎_elim, ◌<◌, ◌≤◌, ◌+◌, ◌*◌, ◌/◌, ◌%◌, ◌==◌, ◌&&◌, ◌||◌, ℕ, zero, suc, Bool, true, false, not, is_some, List, [], ◌∷◌, length, get_or, Option, Some, None, refl, sym, ◌∙◌, ap, subst, arith}
use Rattle.std.proofs.Math.ListN as lists
use Rattle.std.proofs.Math.Nat.{div-add-mod}
use Rattle.std.proofs.lemmas.Bool.{cases_eq, cases_lt, cases_Bool, and_parts, and_from, cond-true, cond-false, eq-eqb, eqb-true, false≢true, ne_eqb, not-true}
use Rattle.std.specs.List.{list_any, list_all}
use Rattle.rb_base.specs.declared.sizes.TheConstants.{SLOTS}
use Rattle.rb_itl.specs.declared.slots.TheConstants.{ENTRIES}
use Rattle.rb_cell.specs.declared.cell.TheConstants.{CELLS}
use Rattle.rb_base.specs.Blocks.{home_block}
use Rattle.rb_base.specs.declared.ids.Xid.{Xid}
use Rattle.rb_model.specs.Book.{Book, is_full}
use Rattle.rb_model.specs.Full.{full_block}
use Rattle.rb_model.specs.State.{State, owner_at}
use Rattle.rb_model.specs.Calls.{rows_now}
use Rattle.rb_model.specs.Rows.{has_row}
use Rattle.rb_model.specs.Tests.{holder, holds, full_slots}
use Rattle.rb_segment.specs.Books.{next_is_full}
use Rattle.rb_segment.specs.Header.{Header, Segment}
use Rattle.law_blocks.specs.Says.{says}
use Rattle.law_blocks.specs.States.{Owns}
use Rattle.law_blocks.proofs.Seen.{one_xid}
use Rattle.law_write.specs.Stood.{Stood, StoodHome, IsClean}
use Rattle.law_write.specs.Verdict.{tested, first_wait, if_other, model_verdict, is_key, keeps_key, shows_key, lock_of_key, is_full_without, session_of_owner, locked_for, same_xid, is_own, is_others, home_verdict, IsOwnId}
use Rattle.law_write.proofs.Finding.{or_right}
use Rattle.law_write.proofs.FullHomes as full
use Rattle.law_write.proofs.FullHomes.{AllTaken}
use Rattle.law_write.proofs.Presence as presence
use Rattle.law_write.proofs.Presence.{HolderOf}
use Rattle.law_write.proofs.Slots as slots
use Rattle.law_write.proofs.Slots.{IsOfOther}
use Rattle.law_home.specs.Kinds.{Status, Free, Open, Exact, Bound, Cell, Empty, Row, Stub}
use Rattle.law_home.specs.Steps.{HeldCell}
use Rattle.law_home.specs.Walk.{Home, Env, entry_at, cell_at, lock_of, row_of, taken, free_entry}
use Rattle.law_home.specs.Writes.{is_open}

bool_same : (a b : Bool) → (a ≡ true → b ≡ true) → (b ≡ true → a ≡ true) → a ≡ b
bool_same true b so back = sym (so refl)
bool_same false true so back = back refl
bool_same false false so back = refl

-- lists by their places

any_get : {X : Type 0} (p : X → Bool) (xs : List X) (d : X) → list_any p xs ≡ true → (i : ℕ) × (i < length xs) × (p (get_or xs i d) ≡ true)
any_get p [] d is = absurd (false≢true is)
any_get p (x ∷ xs) d is = elim (cases_Bool (p x)) [
  | inl here ↦ (0, omega arith, here)
  | inr not_here ↦ let f = any_get p xs d (sym (ap (λ b. b || list_any p xs) not_here) ∙ is) in (suc f.0, let l = f.1 in omega (arith, l), f.2)
]

get_any : {X : Type 0} (p : X → Bool) (xs : List X) (d : X) (i : ℕ) → i < length xs → p (get_or xs i d) ≡ true → list_any p xs ≡ true
get_any p [] d i lt is = absurd (omega (arith, lt))
get_any p (x ∷ xs) d zero lt is = ap (λ b. b || list_any p xs) is
get_any p (x ∷ xs) d (suc i) lt is = or_right (p x) (list_any p xs) (get_any p xs d i (omega (arith, lt)) is)

all_get : {X : Type 0} (p : X → Bool) (xs : List X) (d : X) (i : ℕ) → i < length xs → list_all p xs ≡ true → p (get_or xs i d) ≡ true
all_get p [] d i lt is = absurd (omega (arith, lt))
all_get p (x ∷ xs) d zero lt is = (and_parts (p x) (list_all p xs) is).0
all_get p (x ∷ xs) d (suc i) lt is = all_get p xs d i (omega (arith, lt)) (and_parts (p x) (list_all p xs) is).1

get_all : {X : Type 0} (p : X → Bool) (xs : List X) (d : X) → ((i : ℕ) → i < length xs → p (get_or xs i d) ≡ true) → list_all p xs ≡ true
get_all p [] d each = refl
get_all p (x ∷ xs) d each = and_from (p x) (list_all p xs) (each 0 (omega arith)) (get_all p xs d (λ i lt. each (suc i) (omega (arith, lt))))

-- what the tests of a cell say

keeps_is : (key : ℕ) (x : Cell) → keeps_key key x ≡ true → taken x ≡ Some key
keeps_is key x is = by_key (taken x) is
  where
    by_key : (o : Option ℕ) → is_key key o ≡ true → o ≡ Some key
    by_key None is = absurd (false≢true is)
    by_key (Some k) is = ap (λ (z : ℕ). Some z) (eqb-true k key is)

is_keeps : (key : ℕ) (x : Cell) → taken x ≡ Some key → keeps_key key x ≡ true
is_keeps key x has = ap (is_key key) has ∙ eq-eqb key key refl

some_taken : (o : Option ℕ) → is_some o ≡ true → (k : ℕ) × (o ≡ Some k)
some_taken None is = absurd (false≢true is)
some_taken (Some k) is = (k, refl)

shows_is : (key : ℕ) (x : Cell) → shows_key key x ≡ true → (v : List ℕ) × (row_of x key ≡ Some v)
shows_is key Empty is = absurd (false≢true is)
shows_is key (Row k v lock) is = let same = eqb-true k key is in let test : (key == k) ≡ true = eq-eqb key k (sym same) in (v, cond-true (key == k) (Some v) None test)
shows_is key (Stub k lock) is = absurd (false≢true is)

is_shows : (key : ℕ) (v : List ℕ) (x : Cell) → row_of x key ≡ Some v → shows_key key x ≡ true
is_shows key v Empty shown = absurd cc
is_shows key v (Row k w lock) shown = elim (cases_Bool (key == k)) [
  | inl is ↦ eq-eqb k key (sym (eqb-true key k is))
  | inr not_is ↦ let none : None ≡ Some v = sym (cond-false (key == k) (Some w) None not_is) ∙ shown in absurd cc
]
is_shows key v (Stub k lock) shown = absurd cc

open_is : (s : Status) → is_open s ≡ true → s ≡ Open
open_is Free is = absurd (false≢true is)
open_is Open is = refl
open_is (Exact n) is = absurd (false≢true is)
open_is (Bound n) is = absurd (false≢true is)

-- the lock of a key's cell, or no cell has the key
abbrev LockOf : ℕ → List Cell → Type 0
LockOf key cells = ((lock_of_key key cells ≡ 0) × ((j : ℕ) → taken (get_or cells j Empty) ≢ Some key)) ⊎ ((j : ℕ) × (taken (get_or cells j Empty) ≡ Some key) × (lock_of_key key cells ≡ lock_of (get_or cells j Empty)))

lock_found : (key : ℕ) (cells : List Cell) → LockOf key cells
lock_found key [] = inl (refl, λ j has. cc)
lock_found key (x ∷ cells) = elim (cases_Bool (keeps_key key x)) [
  | inl here ↦ inr (0, keeps_is key x here, cond-true (keeps_key key x) (lock_of x) (lock_of_key key cells) here)
  | inr not_here ↦ ⊎_elim
      (λ none. inl (cond-false (keeps_key key x) (lock_of x) (lock_of_key key cells) not_here ∙ none.0, λ j. other none.1 not_here j))
      (λ some. inr (suc some.0, some.1, cond-false (keeps_key key x) (lock_of x) (lock_of_key key cells) not_here ∙ some.2))
      (lock_found key cells)
]
  where
    other : ((j : ℕ) → taken (get_or cells j Empty) ≢ Some key) → keeps_key key x ≡ false → (j : ℕ) → taken (get_or (x ∷ cells) j Empty) ≢ Some key
    other none not_here zero has = false≢true (sym not_here ∙ is_keeps key x has)
    other none not_here (suc j) has = none j has

lock_cases : (n : ℕ) → (n ≡ 0) ⊎ ((i : ℕ) × (n ≡ suc i))
lock_cases zero = inl refl
lock_cases (suc n) = inr (n, refl)

same_itself : (x : Xid) → same_xid x x ≡ true
same_itself x = and_from (x.seg == x.seg) ((x.slot == x.slot) && (x.wrap == x.wrap)) (eq-eqb x.seg x.seg refl) (and_from (x.slot == x.slot) (x.wrap == x.wrap) (eq-eqb x.slot x.slot refl) (eq-eqb x.wrap x.wrap refl))

is_same : (x y : Xid) → same_xid x y ≡ true → x ≡ y
is_same x y is =
    let a = and_parts (x.seg == y.seg) ((x.slot == y.slot) && (x.wrap == y.wrap)) is in
    let b = and_parts (x.slot == y.slot) (x.wrap == y.wrap) a.1 in
    one_xid x y (eqb-true x.seg y.seg a.0) (eqb-true x.slot y.slot b.0) (eqb-true x.wrap y.wrap b.1)

module _ (h : State) (xids : List Xid) (segments : ℕ → Segment) (homes : ℕ → Home) (stood : Stood h xids segments homes) (s table key : ℕ) (low : 1 ≤ s) (first : 1 ≤ table) (last : table ≤ h.shape.tables)
    (clean : IsClean (says h.shape segments) (homes (home_block h.shape table key))) where
  abbrev env : Env
  env = says h.shape segments

  abbrev b : Home
  b = homes (home_block h.shape table key)

  home : StoodHome h xids segments (home_block h.shape table key) b
  home = presence.home h xids segments homes stood table key first last

  -- who holds the key, by the cell's lock
  locked_is : locked_for h b (lock_of_key key b.cells) ≡ holder h table key
  locked_is = ⊎_elim
      (λ nowhere. ap (locked_for h b) nowhere.0 ∙ sym (no_holder (λ u is t c. nowhere.1 c.cell c.has_key)))
      (λ there. ⊎_elim
      (λ free. ap (locked_for h b) (there.2 ∙ free) ∙ sym (no_holder (λ u is t c.
      let same : c.cell ≡ there.0 = home.unique c.cell there.0 key c.has_key there.1 in
      let lock : lock_of (cell_at b there.0) ≡ suc c.entry.entry = subst (λ z. lock_of (cell_at b z) ≡ suc c.entry.entry) same c.lock in
      omega (arith, free, lock))))
      (λ locked. let open_at = home.locks locked.0 there.0 locked.1 in
      let o : HolderOf h xids segments homes stood table key first last locked.0 = presence.holder_of_lock h xids segments homes stood table key first last locked.0 there.0 (open_at, clean locked.0 open_at) there.1 locked.1 in
      let a = div-add-mod o.slot SLOTS in
      let seg : (entry_at b locked.0).xid.seg ≡ o.slot / SLOTS = ap (λ (x : Xid). x.seg) o.xid in
      let slot : (entry_at b locked.0).xid.slot ≡ o.slot % SLOTS = ap (λ (x : Xid). x.slot) o.xid in
      let at : SLOTS * (entry_at b locked.0).xid.seg + (entry_at b locked.0).xid.slot ≡ o.slot = omega (arith, a, seg, slot) in
      ap (locked_for h b) (there.2 ∙ locked.1) ∙ (ap (λ z. session_of_owner (owner_at h z)) at ∙ (ap session_of_owner o.owned_by ∙ sym o.is)))
      (lock_cases (lock_of (cell_at b there.0))))
      (lock_found key b.cells)
    where
      no_holder : ((u : ℕ) → holder h table key ≡ Some u → (t : ℕ) → HeldCell env b t key → ⊥) → holder h table key ≡ None
      no_holder never = by_find (holder h table key) refl
        where
          by_find : (o : Option ℕ) → holder h table key ≡ o → holder h table key ≡ None
          by_find None is = is
          by_find (Some u) is = let f : (t : ℕ) × Owns h u t × HeldCell env b t key = presence.lock_of_holder h xids segments homes stood table key first last u is in absurd (never u is f.0 f.2)

  present_is : ((u : ℕ) → 1 ≤ u → u ≢ s → holds h u table key ≡ false) → list_any (shows_key key) b.cells ≡ has_row table key (rows_now h s)
  present_is others = bool_same (list_any (shows_key key) b.cells) (has_row table key (rows_now h s))
      (λ is. let f = any_get (shows_key key) b.cells Empty is in
      let v : (v : List ℕ) × (row_of (cell_at b f.0) key ≡ Some v) = shows_is key (cell_at b f.0) f.2 in
      presence.present_sees h xids segments homes stood table key first last s low others f.0 v.0 v.1)
      (λ is. let f : (j : ℕ) × (v : List ℕ) × (row_of (cell_at b j) key ≡ Some v) = presence.sees_present h xids segments homes stood table key first last s low others is in
      let within : f.0 < length b.cells = ⊎_elim (λ lt. lt) (λ le. let out : cell_at b f.0 ≡ Empty = lists.get_or-eq_default b.cells Empty le in let none : None ≡ Some f.1 = sym (ap (λ (x : Cell). row_of x key) out) ∙ f.2 in absurd cc) (cases_lt f.0 (length b.cells)) in
      get_any (shows_key key) b.cells Empty f.0 within (is_shows key f.1 (cell_at b f.0) f.2))

  full_is : is_full_without key b.cells ≡ full_block h table key
  full_is = bool_same (is_full_without key b.cells) (full_block h table key)
      (λ is. full.full_block_when h xids segments homes stood table first last key clean (all_taken (and_parts (not (list_any (keeps_key key) b.cells)) (list_all (λ x. is_some (taken x)) b.cells) is)))
      (λ is. taken_all (full.full_block_then h xids segments homes stood table first last key clean is))
    where
      cells : length b.cells ≡ CELLS
      cells = (stood.sizes (home_block h.shape table key)).1

      all_taken : (not (list_any (keeps_key key) b.cells) ≡ true) × (list_all (λ x. is_some (taken x)) b.cells ≡ true) → AllTaken b key
      all_taken parts = λ j few.
          let lt : j < length b.cells = let c = cells in omega (arith, c, few) in
          let t : (q : ℕ) × (taken (cell_at b j) ≡ Some q) = some_taken (taken (cell_at b j)) (all_get (λ x. is_some (taken x)) b.cells Empty j lt parts.1) in
          (t.0, t.1, λ same. false≢true (sym (not-true (list_any (keeps_key key) b.cells) parts.0) ∙ get_any (keeps_key key) b.cells Empty j lt (is_keeps key (cell_at b j) (t.1 ∙ ap (λ (z : ℕ). Some z) same))))

      taken_all : AllTaken b key → is_full_without key b.cells ≡ true
      taken_all all =
          let none : list_any (keeps_key key) b.cells ≡ false = elim (cases_Bool (list_any (keeps_key key) b.cells)) [
            | inl is ↦
                let f = any_get (keeps_key key) b.cells Empty is in
                let t : (q : ℕ) × (taken (cell_at b f.0) ≡ Some q) × (q ≢ key) = all f.0 (let l = f.1 in let c = cells in omega (arith, l, c)) in
                let both : Some t.0 ≡ Some key = sym t.1 ∙ keeps_is key (cell_at b f.0) f.2 in
                let same : t.0 ≡ key = cc in
                absurd (t.2 same)
            | inr not_is ↦ not_is
          ] in
          and_from (not (list_any (keeps_key key) b.cells)) (list_all (λ x. is_some (taken x)) b.cells) (ap not none)
          (get_all (λ x. is_some (taken x)) b.cells Empty (λ i lt. ap is_some (all i (let c = cells in omega (arith, c, lt))).1))

  slots_is : (own : Option Xid) → IsOwnId h env s own → list_all (is_others own) b.entries ≡ full_slots h s table key
  slots_is own id = bool_same (list_all (is_others own) b.entries) (full_slots h s table key)
      (λ is. slots.full_slots_when h xids segments homes stood s table key first last (λ i few. of_other i (all_get (is_others own) b.entries free_entry i (let c = entries in omega (arith, c, few)) is)))
      (λ is. get_all (is_others own) b.entries free_entry (λ i lt. passes i (slots.full_slots_then h xids segments homes stood s table key first last is i (let c = entries in omega (arith, c, lt)))))
    where
      entries : length b.entries ≡ ENTRIES
      entries = (stood.sizes (home_block h.shape table key)).0

      of_other : (i : ℕ) → is_others own (entry_at b i) ≡ true → IsOfOther h xids segments homes stood s table key first last i
      of_other i is =
          let parts = and_parts (is_open (entry_at b i).status) (not (is_own own (entry_at b i).xid)) is in
          let open_at = open_is (entry_at b i).status parts.0 in
          record {
            active = (open_at, clean i open_at);
            other = λ t owns same.
                let mine : is_own own (entry_at b i).xid ≡ true = ap (λ (o : Option Xid). is_own o (entry_at b i).xid) (id.owns t owns) ∙ (ap (λ (x : Xid). same_xid x (env.xid t)) same ∙ same_itself (env.xid t)) in
                false≢true (sym (not-true (is_own own (entry_at b i).xid) parts.1) ∙ mine);
          }

      passes : (i : ℕ) → IsOfOther h xids segments homes stood s table key first last i → is_others own (entry_at b i) ≡ true
      passes i of =
          let open_at : is_open (entry_at b i).status ≡ true = ap is_open of.active.0 in
          let other : is_own own (entry_at b i).xid ≡ false = not_own own refl in
          and_from (is_open (entry_at b i).status) (not (is_own own (entry_at b i).xid)) open_at (ap not other)
        where
          not_own : (o : Option Xid) → own ≡ o → is_own own (entry_at b i).xid ≡ false
          not_own None is = ap (λ (o : Option Xid). is_own o (entry_at b i).xid) is
          not_own (Some x) is = elim (cases_Bool (is_own own (entry_at b i).xid)) [
            | inl mine ↦
                let f : (t : ℕ) × Owns h s t × (x ≡ env.xid t) = id.owned x is in
                let same : (entry_at b i).xid ≡ x = is_same (entry_at b i).xid x (sym (ap (λ (o : Option Xid). is_own o (entry_at b i).xid) is) ∙ mine) in
                absurd (of.other f.0 f.1 (same ∙ f.2))
            | inr not_mine ↦ not_mine
          ]

  -- The first test of a write that applies to the home and the header is the machine's.
  pub verdict_is : (header : Header) (book : Book) (own : Option Xid) (adds : Bool) → IsOwnId h env s own → next_is_full header ≡ is_full book → home_verdict h b header own s key adds ≡ model_verdict h book s table key adds
  verdict_is header book own adds id ring =
      ap (λ (o : Option ℕ). first_wait (if_other s o) (tested adds (list_any (shows_key key) b.cells) (is_full_without key b.cells) (list_all (is_others own) b.entries) (next_is_full header))) locked_is
      ∙ by_wait (holder h table key) refl
    where
      rest : (holder h table key ≡ None) ⊎ (holder h table key ≡ Some s)
          → tested adds (list_any (shows_key key) b.cells) (is_full_without key b.cells) (list_all (is_others own) b.entries) (next_is_full header)
          ≡ tested adds (has_row table key (rows_now h s)) (full_block h table key) (full_slots h s table key) (is_full book)
      rest nobody = rw (present_is (presence.not_others h xids segments homes stood table key first last s nobody), full_is, slots_is own id, ring) refl

      by_wait : (o : Option ℕ) → holder h table key ≡ o
          → first_wait (if_other s (holder h table key)) (tested adds (list_any (shows_key key) b.cells) (is_full_without key b.cells) (list_all (is_others own) b.entries) (next_is_full header)) ≡ model_verdict h book s table key adds
      by_wait None is = ap (first_wait (if_other s (holder h table key))) (rest (inl is))
      by_wait (Some u) is = elim (cases_eq u s) [
        | inl same ↦ ap (first_wait (if_other s (holder h table key))) (rest (inr (is ∙ ap (λ (z : ℕ). Some z) same)))
        | inr ne ↦
            let other : if_other s (holder h table key) ≡ Some u = ap (if_other s) is ∙ cond-false (u == s) None (Some u) (ne_eqb u s ne) in
            ap (λ (o : Option ℕ). first_wait o (tested adds (list_any (shows_key key) b.cells) (is_full_without key b.cells) (list_all (is_others own) b.entries) (next_is_full header))) other ∙ sym (ap (λ (o : Option ℕ). first_wait o (tested adds (has_row table key (rows_now h s)) (full_block h table key) (full_slots h s table key) (is_full book))) other)
      ]
