-- What a write that is done gives up, where blocks stand for the state before it.
use Rattle.std.proofs.Common.{◌≡◌, ◌⊎◌, inl, inr, ⊎_elim, ◌<◌, ◌≤◌, ◌+◌, ◌*◌, ◌/◌, ◌%◌, ℕ, Bool, true, false, if◌then◌else◌, List, set, refl, sym, ◌∙◌, ap, subst, arith}
use Rattle.std.proofs.lemmas.Bool.{cases_Bool, cases_lt, false≢true}
use Rattle.std.proofs.lemmas.Bool.Decides.{nat_tests}
use Rattle.std.proofs.lemmas.List.{get_or-set_same, get_or-set_other}
use Rattle.rb_base.specs.declared.sizes.TheConstants.{SLOTS}
use Rattle.rb_base.specs.declared.ids.Xid.{Xid}
use Rattle.rb_engine.specs.Retains.{IsOldestSlot, Retains, book_ready}
use Rattle.rb_model.specs.Book.{Book, IsFirstFree, book_at, fresh_book, is_full, is_pinned, marked, needs_turn, taken}
use Rattle.rb_model.specs.BookLaws.{AreSlotsApart, IsBookSound, IsTurnDropped}
use Rattle.rb_model.specs.Calls.{Owned, WritesIn, has_slot}
use Rattle.rb_model.specs.NextState.{written}
use Rattle.rb_model.specs.Change.{Change}
use Rattle.rb_model.specs.State.{State}
use Rattle.rb_model.proofs.BookLemmas.{drops_one, reuses_one, taken_sound}
use Rattle.rb_segment.specs.Books.{IsBook}
use Rattle.law_blocks.specs.Standing.{segments_of}
use Rattle.law_blocks.specs.States.{BlocksStand}
use Rattle.law_write.proofs.Told as told

-- a full book gives nothing up at a record
full_keeps : (i : ℕ) (b : Book) → is_full b ≡ true → (marked i b).lost ≡ b.lost
full_keeps i b full =
    let need : needs_turn b ≡ true = grind (arith, full) in
    let pin : is_pinned b ≡ true = grind (arith, full) in
    rw (need, pin) refl

-- so one that gives something up isn't full
not_full : (i : ℕ) (b : Book) → b.lost < (marked i b).lost → is_full b ≡ false
not_full i b rises = ⊎_elim
    (λ (full : is_full b ≡ true). let same = full_keeps i b full in absurd (omega (arith, same, rises)))
    (λ (room : is_full b ≡ false). room)
    (cases_Bool (is_full b))

drops : (i : ℕ) (b : Book) → IsBookSound b → b.lost < (marked i b).lost → IsTurnDropped b (marked i b) (marked i b).lost
drops i b sound rises = drops_one b sound i (not_full i b rises) rises

-- a record gives back nothing that was given up
no_less : (i : ℕ) (b : Book) → b.lost ≤ (marked i b).lost
no_less i b = ⊎_elim
    (λ (need : needs_turn b ≡ true). ⊎_elim
    (λ (pin : is_pinned b ≡ true). rw (need, pin) (omega arith))
    (λ (free : is_pinned b ≡ false). rw (need, free) (omega arith))
    (cases_Bool (is_pinned b)))
    (λ (none : needs_turn b ≡ false). rw none (omega arith))
    (cases_Bool (needs_turn b))

-- who owns a slot has it
owned_has : (h : State) (s g i : ℕ) → Owned h s g i → has_slot h s g i ≡ true
owned_has h s g i (few, o, at, is) = rw (at, is) (grind (arith, nat_tests))

module _ (h : State) (xids : List Xid) (blocks : List (List ℕ)) (stand : BlocksStand h xids blocks) where
  -- the numbers of the slots of one segment differ
  apart : (g : ℕ) → g < h.shape.segments → AreSlotsApart (book_at h.books g)
  apart g there i j few few2 some same =
      let book : IsBook (segments_of h.shape blocks g).header (book_at h.books g) = stand.tell.books g there in
      let one = book.newest i few in
      let two = book.newest j few2 in
      let first : (SLOTS * g + i) / SLOTS ≡ g = omega (arith, few) in
      let second : (SLOTS * g + j) / SLOTS ≡ g = omega (arith, few2) in
      let i_is : (SLOTS * g + i) % SLOTS ≡ i = omega (arith, few) in
      let j_is : (SLOTS * g + j) % SLOTS ≡ j = omega (arith, few2) in
      let t = stand.standing.stands.apart (SLOTS * g + i) (SLOTS * g + j) (omega (arith, there, few)) (omega (arith, there, few2)) (rw (first, i_is) (omega (arith, some, one))) (rw (first, second, i_is, j_is) (sym one ∙ same ∙ two)) in
      omega (arith, t)

  module _ (s g i : ℕ) (within : WritesIn h s g i) (there : g < h.shape.segments) (few : i < SLOTS) where
    abbrev book : Book
    book = book_at h.books g

    abbrev ready_by : Bool → Book
    ready_by has = if has then book else taken s i book

    -- a session without the slot begins there
    begins : has_slot h s g i ≡ false → IsFirstFree book i
    begins none = ⊎_elim
        (λ (owned : Owned h s g i). absurd (false≢true (sym none ∙ owned_has h s g i owned)))
        (λ free. free.1.slot)
        within

    cause_by : (has : Bool) → has_slot h s g i ≡ has → book.lost < (marked i (ready_by has)).lost
        → IsTurnDropped (ready_by has) (marked i (ready_by has)) (marked i (ready_by has)).lost ⊎ IsOldestSlot book i (marked i (ready_by has)).lost
    cause_by true is rises = inl (drops i book (told.sound h xids blocks stand g there) rises)
    cause_by false is rises =
        let ready = taken s i book in
        let sound : IsBookSound ready = taken_sound s i book (told.sound h xids blocks stand g there) in
        let least = no_less i ready in
        ⊎_elim
        (λ (more : ready.lost < (marked i ready).lost). inl (drops i ready sound more))
        (λ (same : (marked i ready).lost ≤ ready.lost).
        let number : (marked i ready).lost ≡ ready.lost = omega (arith, same, least) in
        let reused = reuses_one s i book (begins is) (omega (arith, rises, number)) in
        inr (subst (λ (c : ℕ). IsOldestSlot book i c) (sym number) (record { number = reused.number; others = reused.apart (apart g there) })))
        (cases_lt ready.lost (marked i ready).lost)

    pub retains : (now : State) (c : Change) → now ≡ written h s g i c → Retains h s now
    retains now c is =
        let ready = book_ready h s g i in
        let books : now.books ≡ set h.books g (marked i ready) = ap (λ (x : State). x.books) is in
        let here : book_at now.books g ≡ marked i ready = ap (λ (l : List Book). book_at l g) books ∙ get_or-set_same h.books g (marked i ready) fresh_book (omega (arith, there, stand.tell.books_counted)) in
        record {
          g = g;
          i = i;
          within = within;
          others = λ k ne. ap (λ (l : List Book). book_at l k) books ∙ get_or-set_other h.books g k (marked i ready) fresh_book ne;
          cause = λ rises. subst (λ (b : Book). IsTurnDropped ready b b.lost ⊎ IsOldestSlot book i b.lost) (sym here)
              (cause_by (has_slot h s g i) refl (subst (λ (b : Book). book.lost < b.lost) here rises));
        }
