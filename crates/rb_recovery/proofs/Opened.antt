-- Blocks in which no transaction runs stand for the machine's state that is opened.
use Rattle.std.proofs.Common.{◌≡◌, ◌≢◌, ◌<◌, ◌+◌, ◌-◌, ◌*◌, ◌/◌, ◌%◌, inl, inr, ℕ, zero, suc, List, [], ◌∷◌, length, map, get_or, None, Some, refl, sym, ◌∙◌, ap, subst, arith}
use Rattle.std.proofs.lemmas.Bool.{cases_lt}
use Rattle.std.proofs.lemmas.List.{ext_get_or, get_or_past}
use Rattle.std.proofs.lemmas.List.FromFn.{length-map-range_with_len, get_or-map-range_with_len}
use Rattle.rb_base.specs.Blocks.{IsShape}
use Rattle.rb_base.specs.declared.shape.Shape.{Shape}
use Rattle.rb_base.specs.declared.sizes.TheConstants.{ACTIVE, SLOTS}
use Rattle.rb_model.specs.Book.{Book, BookSlot, book_at, free_slot, fresh_book, slot_owner}
use Rattle.rb_model.specs.State.{Session, State, no_session, opened, owner_at, session_count, session_own}
use Rattle.rb_model.specs.Rows.{TableRow}
use Rattle.rb_recovery.specs.Opens.{books_of}
use Rattle.rb_restart.specs.Rollback.{AreIdle, SameBooks, found_book}
use Rattle.rb_segment.proofs.FoundBooks.{found_is_book}
use Rattle.rb_segment.proofs.Fresh.{all_same}
use Rattle.rb_segment.proofs.Full.{counted}
use Rattle.rb_segment.specs.Books.{IsBook, book_of, idle_slot, ring_count}
use Rattle.rb_segment.specs.Header.{HeaderInOrder, Segment, segment_of, slot_in}
use Rattle.rb_segment.specs.Segments.{commit_scn}
use Rattle.law_blocks.proofs.Machine.{lives_counted}
use Rattle.law_blocks.proofs.SegmentRead.{header_is}
use Rattle.law_blocks.proofs.States.{lives_at}
use Rattle.law_blocks.specs.Standing.{SoundAs, Standing, env_of, segments_of}
use Rattle.law_blocks.specs.States.{BlocksStand, InTables, Owns, lives_of, owned, past_of}
use Rattle.law_blocks.specs.Values.{Running}
use Rattle.rb_txntable.specs.declared.slots.TableSlot.{TableSlot}
use Rattle.law_home.specs.Walk.{Env, own}

-- no slot of a found book has an owner
no_owner : (slots : List TableSlot) (i : ℕ) → (get_or (map idle_slot slots) i free_slot).owner ≡ None
no_owner [] i = refl
no_owner (s ∷ slots) zero = refl
no_owner (s ∷ slots) (suc i) = no_owner slots i

module _ (shape : Shape) (blocks : List (List ℕ)) (number : ℕ) (rows : List TableRow) (in_range : IsShape shape) (sound : SoundAs shape blocks number rows) (idle : AreIdle shape blocks) where
  abbrev Segs : ℕ → Segment
  Segs = segments_of shape blocks

  abbrev First : State
  First = opened shape number rows (books_of shape blocks) []

  abbrev Now : Env
  Now = env_of shape blocks

  order : (g : ℕ) → g < shape.segments → HeaderInOrder (commit_scn shape blocks) (Segs g).header
  order g there = (sound.standing.stands.in_order g there).header

  idle_at : (g i : ℕ) → g < shape.segments → i < SLOTS → (slot_in (Segs g).header i).state ≢ ACTIVE
  idle_at g i there few runs =
      let t = SLOTS * g + i in
      let seg : t / SLOTS ≡ g = omega (arith, few) in
      let at : t % SLOTS ≡ i = omega (arith, few) in
      idle t (omega (arith, there, few)) (ap (λ (h : ℕ). (slot_in (Segs h).header (t % SLOTS)).state) seg ∙ (ap (λ (j : ℕ). (slot_in (Segs g).header j).state) at ∙ runs))

  -- each header tells the book that is found
  is_book : (g : ℕ) → g < shape.segments → IsBook (Segs g).header (found_book (Segs g).header)
  is_book g there =
      let h = (Segs g).header in
      let o = order g there in
      let ring = o.ring.1 in
      let kept : ring_count h ≡ o.ring.0 = counted h.extents o.ring.0 (omega (arith, ring.few.1, o.extents_counted)) (λ e lt. ring.positive e lt) (λ e low high. ring.others e low (omega (arith, high, o.extents_counted))) in
      subst (λ (k : ℕ). IsBook h (book_of h k)) (sym kept) (found_is_book h (commit_scn shape blocks) o (λ i few. idle_at g i there few))

  many : length (books_of shape blocks) ≡ shape.segments
  many = length-map-range_with_len (λ (g : ℕ). found_book (segment_of shape blocks g).header) 0 shape.segments

  book_is : (g : ℕ) → g < shape.segments → book_at (books_of shape blocks) g ≡ found_book (Segs g).header
  book_is g there = get_or-map-range_with_len (λ (k : ℕ). found_book (segment_of shape blocks k).header) 0 shape.segments g g fresh_book there (omega arith)

  pub unowned : (t : ℕ) → owner_at First t ≡ None
  unowned t = elim (cases_lt (t / SLOTS) shape.segments) [
    | inl there ↦ ap (λ (b : Book). slot_owner b (t % SLOTS)) (book_is (t / SLOTS) there) ∙ no_owner (Segs (t / SLOTS)).header.slots (t % SLOTS)
    | inr past ↦ ap (λ (b : Book). slot_owner b (t % SLOTS)) (get_or_past (books_of shape blocks) (t / SLOTS) fresh_book (omega (arith, past, many))) ∙ ap (λ (s : BookSlot). s.owner) (all_same free_slot SLOTS (t % SLOTS))
  ]

  nobody : (s t : ℕ) → Owns First s t → ⊥
  nobody s t owns = let none = unowned t in let some : owner_at First t ≡ Some owns.owner = owns.at in cc

  no_change : (s : ℕ) → session_own First s ≡ []
  no_change s = ap (λ (z : Session). z.own) (all_same no_session session_count (s - 1))

  -- so there is no live change, neither in the machine nor in the blocks
  lives_none : (t : ℕ) → t < SLOTS * shape.segments → own (lives_of First Now) t ≡ []
  lives_none t t_in = lives_at First Now t t_in ∙ ap (owned First (Now.xid t)) (unowned t)

  same_lives : sound.lives ≡ lives_of First Now
  same_lives =
      let here = sound.standing.stands.slots_counted in
      let there = lives_counted First Now in
      ext_get_or [] sound.lives (lives_of First Now) (here ∙ sym there) (λ t lt.
      let t_in : t < SLOTS * shape.segments = omega (arith, lt, here) in
      (sound.standing.stands.slots t t_in).idle (idle t t_in) ∙ sym (lives_none t t_in))

  running : Running shape Segs
  running t t_in active = absurd (idle t t_in active)

  pub opens_to : BlocksStand First [] blocks
  opens_to = record {
    tell = record {
      in_range = in_range;
      counted = refl;
      books_counted = many;
      books = λ g there. subst (IsBook (Segs g).header) (sym (book_is g there)) (is_book g there);
      owner_there = λ s t owns. absurd (nobody s t owns);
      one_slot = λ s t u owns also. absurd (nobody s t owns);
      has_slot = λ s c more s_in has. let none = no_change s in absurd (cc);
      tables = λ s. subst (InTables shape) (sym (no_change s)) tt;
      commit_tables = tt;
      ids_differ = λ i j i_in. absurd (omega (arith, i_in));
      ids_made = λ i i_in. absurd (omega (arith, i_in));
      ids_over = λ i t i_in. absurd (omega (arith, i_in));
      running = running;
    };
    standing = subst (Standing shape blocks (past_of First [])) same_lives sound.standing;
  }

-- blocks whose headers tell the same books have the same list of them
pub books_same : (shape : Shape) (before now : List (List ℕ)) → SameBooks shape before now → books_of shape now ≡ books_of shape before
books_same shape before now same =
    let told = λ (blocks : List (List ℕ)) (g : ℕ). found_book (segment_of shape blocks g).header in
    let many = λ (blocks : List (List ℕ)). length-map-range_with_len (told blocks) 0 shape.segments in
    let at = λ (blocks : List (List ℕ)) (g : ℕ) (there : g < shape.segments). get_or-map-range_with_len (told blocks) 0 shape.segments g g fresh_book there (omega arith) in
    ext_get_or fresh_book (books_of shape now) (books_of shape before) (many now ∙ sym (many before)) (λ g lt.
    let there : g < shape.segments = omega (arith, lt, many now) in
    at now g there
    ∙ ap found_book (header_is shape now g)
    ∙ same g there
    ∙ ap found_book (sym (header_is shape before g))
    ∙ sym (at before g there))
