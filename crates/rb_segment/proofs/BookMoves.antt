-- Each move of a header is the one of its book.
use Rattle.std.proofs.Common.{◌≡◌, ◌≢◌, inl, inr, ◌<◌, ◌≤◌, ◌==◌, ◌+◌, ◌-◌, ◌*◌, ◌/◌, ◌++◌, ℕ, zero, suc, max, Bool, true, false, if◌then◌else◌, List, [], ◌∷◌, length, get_or, set, Option, Some, None, refl, sym, ◌∙◌, ap, subst, arith}
use Rattle.std.specs.List.{list_any}
use Rattle.std.proofs.lemmas.Bool.{cases_eq, cases_lt}
use Rattle.std.proofs.lemmas.Bool.Decides.{nat_tests}
use Rattle.std.proofs.lemmas.List.{get_or-set_same, get_or-set_other, length-set, get_or_past, length-append}
use Rattle.rb_base.specs.declared.sizes.TheConstants.{SLOTS}
use Rattle.rb_ring.specs.declared.extents.TheConstants.{EXTENTS, EXTENT_RECORDS}
use Rattle.rb_base.specs.declared.ids.Uba.{Uba}
use Rattle.rb_model.specs.Book.{Owner, Book, BookSlot, free_slot, last_turn, oldest_turn, first_turn, is_pinned, needs_turn, is_full, oldest_number, later_numbers, touches, is_touched, numbered, turn_of}
use Rattle.rb_ring.specs.Ring.{IsRing}
use Rattle.rb_ring.specs.Turns.{IsPinned}
use Rattle.rb_ring.specs.declared.extents.Extent.{Extent}
use Rattle.rb_segment.specs.MoveLaws.{with_mark}
use Rattle.rb_segment.specs.Running.{FirstTurns}
use Rattle.rb_segment.proofs.MayTurns.{may_full, may_oldest, may_free, may_forced}
use Rattle.rb_segment.specs.Books.{IsOwner, IsOwned, IsKeptTurn, turn_number, oldest_in, IsBook}
use Rattle.rb_segment.specs.Header.{Header, no_extent, slot_in, extent_in, ord_in, head_turn, extent_with, has_bit, HeaderInOrder}
use Rattle.rb_segment.specs.Moves.{claimed_slot, added_slot, claimed, turned, added, committed, ended, taken_back, Ring, MayTurn, Pins, Also}
use Rattle.rb_txntable.specs.Slots.{no_slot}
use Rattle.rb_txntable.specs.declared.slots.TableSlot.{TableSlot}
use Rattle.rb_segment.proofs.Books.{none_out, wider, get_back, length_back, get_front, get_end, oldest_extent, oldest_least, oldest_is, needs_is, pinned_is, free_is}
use Rattle.rb_segment.proofs.Commits.{stamped_turns, stamped_at, ord_stamped}
use Rattle.rb_segment.proofs.Moments.{has_none}
use Rattle.rb_segment.proofs.Records.{found, finds, turned_others, next_turn}
use Rattle.rb_segment.proofs.Rings.{ring_of, apart_in, reused, joined}
use Rattle.rb_model.specs.Book as model

-- an owner where the turns are the same and the head's is at least what it was
owner_later : (h h2 : Header) (slot slot2 : TableSlot) (o : Owner) → slot2.state ≡ slot.state → slot2.start ≡ slot.start → slot2.touched ≡ slot.touched → ((e : ℕ) → ord_in h2 e ≡ ord_in h e) → head_turn h ≤ head_turn h2 → IsOwner h slot o → IsOwner h2 slot2 o
owner_later h h2 slot slot2 o state start touched ords le is = record {
  state = state ∙ is.state;
  start = start ∙ is.start;
  touched = λ e few. ap (λ (z : ℕ). list_any (λ t. t == z) o.touched) (ords e) ∙ (is.touched e few ∙ ap (λ (z : ℕ). has_bit z e) (sym touched));
  within = wider (first_turn o) (head_turn h) (head_turn h2) o.touched le is.within;
}

owned_later : (h h2 : Header) (slot slot2 : TableSlot) (o : Option Owner) → slot2.state ≡ slot.state → slot2.start ≡ slot.start → slot2.touched ≡ slot.touched → ((e : ℕ) → ord_in h2 e ≡ ord_in h e) → head_turn h ≤ head_turn h2 → IsOwned h slot o → IsOwned h2 slot2 o
owned_later h h2 slot slot2 None state start touched ords le is = λ one. is (sym state ∙ one)
owned_later h h2 slot slot2 (Some o) state start touched ords le is = owner_later h h2 slot slot2 o state start touched ords le is

-- what is said of each slot of a header and of its book, where slot i of both is set
both_set : (P : TableSlot → BookSlot → Type 0) (xs : List TableSlot) (ys : List BookSlot) (i : ℕ) (x : TableSlot) (y : BookSlot) → i < length xs → i < length ys → P x y → ((j : ℕ) → j < SLOTS → j ≢ i → P (get_or xs j no_slot) (get_or ys j free_slot)) → (j : ℕ) → j < SLOTS → P (get_or (set xs i x) j no_slot) (get_or (set ys i y) j free_slot)
both_set P xs ys i x y xs_in ys_in here all j few = elim (cases_eq j i) [
  | inl at ↦ subst (λ (z : ℕ). P (get_or (set xs i x) z no_slot) (get_or (set ys i y) z free_slot)) (sym at) (subst (λ (z : TableSlot). P z (get_or (set ys i y) i free_slot)) (sym (get_or-set_same xs i x no_slot xs_in)) (subst (λ (z : BookSlot). P x z) (sym (get_or-set_same ys i y free_slot ys_in)) here))
  | inr ne ↦ subst (λ (z : TableSlot). P z (get_or (set ys i y) j free_slot)) (sym (get_or-set_other xs i j x no_slot ne)) (subst (λ (z : BookSlot). P (get_or xs j no_slot) z) (sym (get_or-set_other ys i j y free_slot ne)) (all j few ne))
]

turn_number_same : (h h2 : Header) → h2.extents ≡ h.extents → (o : Option ℕ) → turn_number h2 o ≡ turn_number h o
turn_number_same h h2 same None = refl
turn_number_same h h2 same (Some e) = ap (λ (z : List Extent). (get_or z e no_extent).newest) same

module _ (h : Header) (b : Book) (book : IsBook h b) (slots : length h.slots ≡ SLOTS) where
  -- a slot is taken
  pub book_taken : (session i : ℕ) → i < SLOTS → (slot_in h i).state ≢ 1 → IsBook (claimed i h) (model.taken session i b)
  book_taken session i few idle = record {
    writes = book.writes;
    lost = let a = book.newest i few in omega (arith, book.lost, a);
    slots = simp length-set book.slots;
    newest = both_set (λ x y. y.newest ≡ x.newest) h.slots b.slots i (claimed_slot h (slot_in h i)) (let y = get_or b.slots i free_slot in record y { owner = Some (record { session = session; start = b.writes; touched = [] }) }) (omega (arith, few, slots)) (omega (arith, few, book.slots)) (book.newest i few) (λ j j_few ne. book.newest j j_few);
    owners = both_set (λ x y. IsOwned (claimed i h) x y.owner) h.slots b.slots i (claimed_slot h (slot_in h i)) (let y = get_or b.slots i free_slot in record y { owner = Some (record { session = session; start = b.writes; touched = [] }) }) (omega (arith, few, slots)) (omega (arith, few, book.slots)) (record { state = refl; start = sym book.writes; touched = λ e e_few. none e; within = tt }) (λ j j_few ne. owned_later h (claimed i h) (slot_in h j) (slot_in h j) (get_or b.slots j free_slot).owner refl refl refl (λ e. refl) (omega arith) (book.owners j j_few));
    ring = book.ring;
    kept = book.kept;
    turns = λ k lt. let t = book.turns k lt in (t.0, t.1 ∙ sym (turn_number_same h (claimed i h) refl (extent_with h.extents (oldest_in h (length b.turns) + k))));
  }
    where
      none : (e : ℕ) → false ≡ has_bit 0 e
      none e = by (has_bit 0 e) (has_none e)
        where
          by : (b : Bool) → b ≢ true → false ≡ b
          by true not = absurd (not refl)
          by false not = refl

  -- the slot of a transaction that ends without a number
  pub book_left : (i : ℕ) → i < SLOTS → IsBook (ended i h) (model.left i b)
  book_left i few = record {
    writes = book.writes;
    lost = book.lost;
    slots = simp length-set book.slots;
    newest = both_set (λ x y. y.newest ≡ x.newest) h.slots b.slots i (let x = slot_in h i in record x { state = 3 }) (let y = get_or b.slots i free_slot in record y { owner = None }) (omega (arith, few, slots)) (omega (arith, few, book.slots)) (book.newest i few) (λ j j_few ne. book.newest j j_few);
    owners = both_set (λ x y. IsOwned (ended i h) x y.owner) h.slots b.slots i (let x = slot_in h i in record x { state = 3 }) (let y = get_or b.slots i free_slot in record y { owner = None }) (omega (arith, few, slots)) (omega (arith, few, book.slots)) (λ is. three 3 refl is) (λ j j_few ne. owned_later h (ended i h) (slot_in h j) (slot_in h j) (get_or b.slots j free_slot).owner refl refl refl (λ e. refl) (omega arith) (book.owners j j_few));
    ring = book.ring;
    kept = book.kept;
    turns = λ k lt. let t = book.turns k lt in (t.0, t.1 ∙ sym (turn_number_same h (ended i h) refl (extent_with h.extents (oldest_in h (length b.turns) + k))));
  }
    where
      three : (n : ℕ) → n ≡ 3 → n ≡ 1 → ⊥
      three n is one = omega (arith, is, one)

  -- a put back leaves the book
  pub book_back : (i : ℕ) (previous : Uba) → i < SLOTS → IsBook (taken_back i previous h) b
  book_back i previous few = record {
    writes = book.writes;
    lost = book.lost;
    slots = book.slots;
    newest = λ j j_few. elim (cases_eq j i) [
      | inl at ↦ subst (λ (z : ℕ). (get_or b.slots z free_slot).newest ≡ (slot_in (taken_back i previous h) z).newest) (sym at) (book.newest i few ∙ ap (λ (z : TableSlot). z.newest) (sym here))
      | inr ne ↦ book.newest j j_few ∙ ap (λ (z : TableSlot). z.newest) (sym (there j ne))
    ];
    owners = λ j j_few. elim (cases_eq j i) [
      | inl at ↦ subst (λ (z : ℕ). IsOwned (taken_back i previous h) (slot_in (taken_back i previous h) z) (get_or b.slots z free_slot).owner) (sym at) (owned_later h (taken_back i previous h) (slot_in h i) (slot_in (taken_back i previous h) i) (get_or b.slots i free_slot).owner (ap (λ (z : TableSlot). z.state) here) (ap (λ (z : TableSlot). z.start) here) (ap (λ (z : TableSlot). z.touched) here) (λ e. refl) (omega arith) (book.owners i few))
      | inr ne ↦ subst (λ (z : TableSlot). IsOwned (taken_back i previous h) z (get_or b.slots j free_slot).owner) (sym (there j ne)) (owned_later h (taken_back i previous h) (slot_in h j) (slot_in h j) (get_or b.slots j free_slot).owner refl refl refl (λ e. refl) (omega arith) (book.owners j j_few))
    ];
    ring = book.ring;
    kept = book.kept;
    turns = λ k lt. let t = book.turns k lt in (t.0, t.1 ∙ sym (turn_number_same h (taken_back i previous h) refl (extent_with h.extents (oldest_in h (length b.turns) + k))));
  }
    where
      here : slot_in (taken_back i previous h) i ≡ (let x = slot_in h i in record x { live = x.live - 1; newest_at = previous })
      here = get_or-set_same h.slots i (let x = slot_in h i in record x { live = x.live - 1; newest_at = previous }) no_slot (omega (arith, few, slots))

      there : (j : ℕ) → j ≢ i → slot_in (taken_back i previous h) j ≡ slot_in h j
      there j ne = get_or-set_other h.slots i j (let x = slot_in h i in record x { live = x.live - 1; newest_at = previous }) no_slot ne

module _ (h : Header) (b : Book) (book : IsBook h b) (commit : ℕ) (order : HeaderInOrder commit h) (count : h.writes + 2 * EXTENT_RECORDS ≡ EXTENT_RECORDS * head_turn h + h.records) where
  ring_is : Ring h
  ring_is = ring_of h (length b.turns) order.extents_counted book.ring order.records count

  -- a record of slot i is added to the head
  pub book_added : (i : ℕ) (address : Uba) (touched : ℕ) → i < SLOTS → (slot_in h i).state ≡ 1 → (slot_in h i).start ≤ h.writes → h.records < EXTENT_RECORDS → Also (slot_in h i).touched h.head touched → IsBook (added i address touched h) (with_mark i b)
  book_added i address touched few active started room bits = record {
    writes = omega (arith, book.writes);
    lost = book.lost;
    slots = simp length-set book.slots;
    newest = both_set (λ x y. y.newest ≡ x.newest) h.slots b.slots i (Now) (let y = get_or b.slots i free_slot in record y { owner = touches (turn_of (b.writes + 1)) y.owner }) (omega (arith, few, order.slots_counted)) (omega (arith, few, book.slots)) (book.newest i few) (λ j j_few ne. book.newest j j_few);
    owners = both_set (λ x y. IsOwned (added i address touched h) x y.owner) h.slots b.slots i (Now) (let y = get_or b.slots i free_slot in record y { owner = touches (turn_of (b.writes + 1)) y.owner }) (omega (arith, few, order.slots_counted)) (omega (arith, few, book.slots)) (mine (get_or b.slots i free_slot).owner (book.owners i few)) (λ j j_few ne. owned_later h (added i address touched h) (slot_in h j) (slot_in h j) (get_or b.slots j free_slot).owner refl refl refl (λ e. refl) (omega arith) (book.owners j j_few));
    ring = book.ring;
    kept = book.kept;
    turns = λ k lt. let t = book.turns k lt in (t.0, t.1 ∙ sym (turn_number_same h (added i address touched h) refl (extent_with h.extents (oldest_in h (length b.turns) + k))));
  }
    where
      Now : TableSlot
      Now = added_slot (head_turn h) address touched (slot_in h i)

      turn_is : turn_of (b.writes + 1) ≡ head_turn h
      turn_is = ap (λ (z : ℕ). turn_of (z + 1)) book.writes ∙ next_turn h.writes (head_turn h) h.records count room

      mine : (o : Option Owner) → IsOwned h (slot_in h i) o → IsOwned (added i address touched h) Now (touches (turn_of (b.writes + 1)) o)
      mine None owned = absurd (owned active)
      mine (Some o) owned = record {
        state = active;
        start = owned.start;
        touched = λ e e_few. elim (cases_eq e h.head) [
          | inl at ↦
              let test : (turn_of (b.writes + 1) == ord_in h e) ≡ true = let a : ord_in h e ≡ head_turn h = ap (ord_in h) at in grind (arith, nat_tests) in
              rw test (sym (ap (has_bit touched) at ∙ bits.this))
          | inr ne ↦
              let nt : turn_of (b.writes + 1) ≢ ord_in h e = λ is. ne (sym (ring_is.apart h.head e (omega (arith, ring_is.second)) (sym turn_is ∙ is))) in
              let test : (turn_of (b.writes + 1) == ord_in h e) ≡ false = grind (arith, nat_tests) in
              rw test (owned.touched e e_few ∙ sym (bits.others e ne))
        ];
        within = ((omega (arith, le), omega (arith, turn_is)), owned.within);
      }
        where
          le : first_turn o ≤ turn_of (b.writes + 1)
          le = div_le o.start (b.writes + 1 - 1) (let a = owned.start in omega (arith, a, started, book.writes))
            where
              div_le : (x y : ℕ) → x ≤ y → 2 + x / EXTENT_RECORDS ≤ 2 + y / EXTENT_RECORDS
              div_le x y up = omega arith

numbered_at : (n turn : ℕ) (o : Option Owner) (ts : List ℕ) (k : ℕ) → k < length ts → get_or (numbered n turn o ts) k 0 ≡ (if is_touched (turn + k) o then n else get_or ts k 0)
numbered_at n turn o [] k lt = absurd (omega arith)
numbered_at n turn o (m ∷ ts) zero lt = let same : turn + 0 ≡ turn = omega arith in rw same refl
numbered_at n turn o (m ∷ ts) (suc k) lt = let same : turn + suc k ≡ turn + 1 + k = omega arith in rw same (numbered_at n (turn + 1) o ts k (omega arith))

length_numbered : (n turn : ℕ) (o : Option Owner) (ts : List ℕ) → length (numbered n turn o ts) ≡ length ts
length_numbered n turn o [] = refl
length_numbered n turn o (m ∷ ts) = let h : length (numbered n (turn + 1) o ts) ≡ length ts = length_numbered n (turn + 1) o ts in omega arith

module _ (h : Header) (b : Book) (book : IsBook h b) (commit : ℕ) (order : HeaderInOrder commit h) (count : h.writes + 2 * EXTENT_RECORDS ≡ EXTENT_RECORDS * head_turn h + h.records) (begun : h.records ≡ 0 → h.writes ≡ 0) where
  -- the transaction of slot i commits
  module _ (n i : ℕ) (few : i < SLOTS) (active : (slot_in h i).state ≡ 1) where
    abbrev Done : Header
    Done = committed n i h

    abbrev OwnerOf : Option Owner
    OwnerOf = (get_or b.slots i free_slot).owner

    abbrev Turns : List ℕ
    Turns = numbered n (oldest_turn b) OwnerOf b.turns

    ords : (e : ℕ) → ord_in Done e ≡ ord_in h e
    ords e = ord_stamped n (slot_in h i).touched 0 h.extents e

    ords_same : ord_in Done ≡ ord_in h
    ords_same = λ k e. ords e k

    kept_same : length Turns ≡ length b.turns
    kept_same = length_numbered n (oldest_turn b) OwnerOf b.turns

    -- a turn that the owner touched has the extent's bit
    touched_is : (turn e : ℕ) → e < EXTENTS → ord_in h e ≡ turn → is_touched turn OwnerOf ≡ has_bit (slot_in h i).touched e
    touched_is turn e e_few ord = by OwnerOf (book.owners i few)
      where
        by : (o : Option Owner) → IsOwned h (slot_in h i) o → is_touched turn o ≡ has_bit (slot_in h i).touched e
        by None owned = absurd (owned active)
        by (Some o) owned = ap (λ (z : ℕ). list_any (λ t. t == z) o.touched) (sym ord) ∙ owned.touched e e_few

    pub book_finished : IsBook (committed n i h) (model.finished n i b)
    book_finished = record {
      writes = book.writes;
      lost = book.lost;
      slots = simp length-set book.slots;
      newest = both_set (λ x y. y.newest ≡ x.newest) h.slots b.slots i (let x = slot_in h i in record x { state = 2; newest = n }) (record { newest = n; owner = None }) (omega (arith, few, order.slots_counted)) (omega (arith, few, book.slots)) refl (λ j j_few ne. book.newest j j_few);
      owners = both_set (λ x y. IsOwned (committed n i h) x y.owner) h.slots b.slots i (let x = slot_in h i in record x { state = 2; newest = n }) (record { newest = n; owner = None }) (omega (arith, few, order.slots_counted)) (omega (arith, few, book.slots)) (λ is. two 2 refl is) (λ j j_few ne. owned_later h (committed n i h) (slot_in h j) (slot_in h j) (get_or b.slots j free_slot).owner refl refl refl ords (let a = ords h.head in omega (arith, a)) (book.owners j j_few));
      ring = subst (λ (z : ℕ). IsRing (ord_in Done) h.head z) (sym kept_same) (subst (λ (z : ℕ → ℕ). IsRing z h.head (length b.turns)) (sym ords_same) book.ring);
      kept = let a = ords h.head in omega (arith, a, kept_same, book.kept);
      turns = λ k lt. turn_after k (omega (arith, lt, kept_same));
    }
      where
        two : (m : ℕ) → m ≡ 2 → m ≡ 1 → ⊥
        two m is one = omega (arith, is, one)

        turn_after : (k : ℕ) → k < length b.turns → IsKeptTurn Done (oldest_in Done (length Turns) + k) × (get_or Turns k 0 ≡ turn_number Done (extent_with Done.extents (oldest_in Done (length Turns) + k)))
        turn_after k lt =
            let t : IsKeptTurn h (oldest_in h (length b.turns) + k) × (get_or b.turns k 0 ≡ turn_number h (extent_with h.extents (oldest_in h (length b.turns) + k))) = book.turns k lt in
            let head : head_turn Done ≡ head_turn h = ords h.head in
            let old : oldest_in Done (length Turns) ≡ oldest_in h (length b.turns) = omega (arith, head, kept_same) in
            let e = t.0.0 in
            let at : extent_with h.extents (oldest_in h (length b.turns) + k) ≡ Some e = t.0.1 in
            let f : (e < length h.extents) × (ord_in h e ≡ oldest_in h (length b.turns) + k) = found h.extents (oldest_in h (length b.turns) + k) e at in
            let now : extent_with Done.extents (oldest_in Done (length Turns) + k) ≡ Some e = ap (λ (z : ℕ). extent_with Done.extents (z + k)) old ∙ (stamped_turns n (slot_in h i).touched 0 h.extents (oldest_in h (length b.turns) + k) ∙ at) in
            let value : get_or Turns k 0 ≡ (if is_touched (oldest_turn b + k) OwnerOf then n else get_or b.turns k 0) = numbered_at n (oldest_turn b) OwnerOf b.turns k lt in
            let named : is_touched (oldest_turn b + k) OwnerOf ≡ has_bit (slot_in h i).touched e = touched_is (oldest_turn b + k) e (omega (arith, f.0, order.extents_counted)) (f.1 ∙ ap (λ (z : ℕ). z + k) (sym (oldest_is h b book commit order count begun))) in
            let newest : get_or b.turns k 0 ≡ (extent_in h e).newest = t.1 ∙ ap (turn_number h) at in
            let stamp : (extent_in Done e).newest ≡ (if has_bit (slot_in h i).touched e then n else (extent_in h e).newest) = ap (λ (z : Extent). z.newest) (stamped_at n (slot_in h i).touched 0 h.extents e f.0) ∙ (let same : 0 + e ≡ e = omega arith in rw same refl) in
            ((e, now), value ∙ (ap (λ (z : Bool). if z then n else get_or b.turns k 0) named ∙ (ap (λ (z : ℕ). if has_bit (slot_in h i).touched e then n else z) newest ∙ (sym stamp ∙ ap (turn_number Done) (sym now)))))

  -- An extent takes the next turn. Slots with a record have their first turn in the ring, and those without began now.
  module _ (e : ℕ) (may : MayTurn h e) (first : FirstTurns h) where
    abbrev Kept : ℕ
    Kept = length b.turns

    abbrev Oldest : ℕ
    Oldest = oldest_in h Kept

    abbrev Turned : Header
    Turned = turned e h

    ring : Ring h
    ring = ring_of h Kept order.extents_counted book.ring order.records count

    full : h.records ≡ EXTENT_RECORDS
    full = may_full h e may order.records

    needs : needs_turn b ≡ true
    needs = needs_is h b book commit order count begun ∙ (let test : (h.records == EXTENT_RECORDS) ≡ true = grind (arith, nat_tests) in test)

    oldest_at : (f : ℕ) × (extent_with h.extents Oldest ≡ Some f) × (f < Kept) × (ord_in h f ≡ Oldest)
    oldest_at = oldest_extent h b book commit order count begun

    least : (f : ℕ) → 1 ≤ ord_in h f → Oldest ≤ ord_in h f
    least = oldest_least h b book commit order count begun

    ord_here : ord_in Turned e ≡ head_turn h + 1
    ord_here = ap (λ (z : Extent). z.ord) (get_or-set_same h.extents e (record { ord = head_turn h + 1; newest = 0 }) no_extent (omega (arith, may.within, order.extents_counted)))

    newest_here : (extent_in Turned e).newest ≡ 0
    newest_here = ap (λ (z : Extent). z.newest) (get_or-set_same h.extents e (record { ord = head_turn h + 1; newest = 0 }) no_extent (omega (arith, may.within, order.extents_counted)))

    there : (f : ℕ) → f ≢ e → extent_in Turned f ≡ extent_in h f
    there f ne = get_or-set_other h.extents e f (record { ord = head_turn h + 1; newest = 0 }) no_extent ne

    -- what has been kept of a turn, and the next one
    old_turn : (turn n : ℕ) → 1 ≤ turn → turn ≤ head_turn h → turn ≢ ord_in h e → IsKeptTurn h turn → n ≡ turn_number h (extent_with h.extents turn) → IsKeptTurn Turned turn × (n ≡ turn_number Turned (extent_with Turned.extents turn))
    old_turn turn n some le ne kept value =
        let g = kept.0 in
        let at : extent_with h.extents turn ≡ Some g = kept.1 in
        let f : (g < length h.extents) × (ord_in h g ≡ turn) = found h.extents turn g at in
        let ge : g ≢ e = λ is. ne (sym f.1 ∙ ap (ord_in h) is) in
        let now : extent_with Turned.extents turn ≡ Some g = turned_others e h ring may turn some le (Some g) at (λ is. ge (cc)) in
        ((g, now), value ∙ (ap (turn_number h) at ∙ (ap (λ (z : Extent). z.newest) (sym (there g ge)) ∙ ap (turn_number Turned) (sym now))))

    next_at : extent_with Turned.extents (head_turn h + 1) ≡ Some e
    next_at = finds Turned.extents (head_turn h + 1) e (omega (arith, may.within, order.extents_counted, length-set h.extents e (record { ord = head_turn h + 1; newest = 0 }))) ord_here (λ f lt is. elim (cases_eq f e) [
      | inl fe ↦ fe
      | inr ne ↦ let a = ring.highest f in let c : ord_in Turned f ≡ ord_in h f = ap (λ (z : Extent). z.ord) (there f ne) in absurd (omega (arith, a, c, is))
    ])

    next_kept : (turn : ℕ) → turn ≡ head_turn h + 1 → (n : ℕ) → n ≡ 0 → IsKeptTurn Turned turn × (n ≡ turn_number Turned (extent_with Turned.extents turn))
    next_kept turn is n none = let now : extent_with Turned.extents turn ≡ Some e = ap (extent_with Turned.extents) is ∙ next_at in ((e, now), none ∙ (sym newest_here ∙ ap (turn_number Turned) (sym now)))

    -- owners that don't name what e was
    owner_turned : (slot : TableSlot) (o : Owner) → list_any (λ t. t == ord_in h e) o.touched ≡ false → IsOwner h slot o → IsOwner Turned slot o
    owner_turned slot o none is = record {
      state = is.state;
      start = is.start;
      touched = λ f few. elim (cases_eq f e) [
        | inl at ↦ subst (λ (z : ℕ). list_any (λ t. t == ord_in Turned z) o.touched ≡ has_bit slot.touched z) (sym at) (
            ap (λ (z : ℕ). list_any (λ t. t == z) o.touched) ord_here ∙ (none_out (first_turn o) (head_turn h) (head_turn h + 1) o.touched is.within (inr (omega arith)) ∙ (sym none ∙ is.touched e may.within)))
        | inr ne ↦ ap (λ (z : Extent). list_any (λ t. t == z.ord) o.touched) (there f ne) ∙ is.touched f few
      ];
      within = wider (first_turn o) (head_turn h) (head_turn Turned) o.touched (omega (arith, ord_here)) is.within;
    }

    owned_turned : (slot : TableSlot) (o : Option Owner) → ((w : Owner) → IsOwner h slot w → list_any (λ t. t == ord_in h e) w.touched ≡ false) → IsOwned h slot o → IsOwned Turned slot o
    owned_turned slot None none is = is
    owned_turned slot (Some o) none is = owner_turned slot o (none o is) is

    -- the oldest turn goes
    reuse : ord_in h e ≢ 0 → IsBook Turned (record b { lost = max b.lost (oldest_number b.turns); turns = later_numbers b.turns ++ 0 ∷ [] })
    reuse in_ring = record {
      writes = book.writes;
      lost = let test : (ord_in h e == 0) ≡ false = grind (arith, nat_tests) in rw test (omega (arith, book.lost, front_is));
      slots = book.slots;
      newest = book.newest;
      owners = λ j few. owned_turned (slot_in h j) (get_or b.slots j free_slot).owner (unnamed j few) (book.owners j few);
      ring = subst (λ (z : ℕ). IsRing (ord_in Turned) e z) (sym long) (reused h Kept order.extents_counted book.ring e may in_ring);
      kept = omega (arith, long, book.kept, ord_here);
      turns = λ k lt. let turn : oldest_in Turned (length (later_numbers b.turns ++ 0 ∷ [])) + k ≡ Oldest + (k + 1) = omega (arith, ord_here, long, book.kept) in
          subst (λ (z : ℕ). IsKeptTurn Turned z × (get_or (later_numbers b.turns ++ 0 ∷ []) k 0 ≡ turn_number Turned (extent_with Turned.extents z))) (sym turn) (elim (cases_lt (k + 1) Kept) [
            | inl more ↦ let t = book.turns (k + 1) more in old_turn (Oldest + (k + 1)) (get_or (later_numbers b.turns ++ 0 ∷ []) k 0) (omega arith) (omega (arith, more, book.kept)) (λ is. omega (arith, is, ord_e)) t.0 (get_end (later_numbers b.turns) k ∙ (get_back b.turns k ∙ t.1))
            | inr last ↦ next_kept (Oldest + (k + 1)) (omega (arith, last, lt, long, book.kept)) (get_or (later_numbers b.turns ++ 0 ∷ []) k 0) (get_end (later_numbers b.turns) k ∙ (get_back b.turns k ∙ get_or_past b.turns (k + 1) 0 (omega (arith, last))))
          ]);
    }
      where
        two : 2 ≤ Kept
        two = book.ring.few.0

        long : length (later_numbers b.turns ++ 0 ∷ []) ≡ Kept
        long = let a = length-append (later_numbers b.turns) (0 ∷ []) in let c = length_back b.turns in omega (arith, a, c, two)

        ord_e : ord_in h e ≡ Oldest
        ord_e = let a = may_oldest h e may order.extents_counted in_ring oldest_at.0 (omega (arith, oldest_at.3, book.kept)) in let c = least e (omega (arith, in_ring)) in omega (arith, a, c, oldest_at.3)

        e_is : oldest_at.0 ≡ e
        e_is = apart_in h Kept order.extents_counted book.ring oldest_at.0 e (omega (arith, oldest_at.3, book.kept)) (oldest_at.3 ∙ sym ord_e)

        front_is : oldest_number b.turns ≡ (extent_in h e).newest
        front_is =
            let t = (book.turns 0 (omega (arith, two))).1 in
            let same : Oldest + 0 ≡ Oldest = omega arith in
            let value : get_or b.turns 0 0 ≡ turn_number h (extent_with h.extents Oldest) = subst (λ (z : ℕ). get_or b.turns 0 0 ≡ turn_number h (extent_with h.extents z)) same t in
            get_front b.turns ∙ (value ∙ (ap (turn_number h) oldest_at.1 ∙ ap (λ (z : ℕ). (extent_in h z).newest) e_is))

        unnamed : (j : ℕ) → j < SLOTS → (w : Owner) → IsOwner h (slot_in h j) w → list_any (λ t. t == ord_in h e) w.touched ≡ false
        unnamed j few w is = elim (cases_eq (slot_in h j).touched 0) [
          | inl none ↦ is.touched e may.within ∙ (ap (λ (z : ℕ). has_bit z e) none ∙ bit_none (has_bit 0 e) (has_none e))
          | inr some ↦
              let f = first.begun j few is.state some in
              let at : (f.1.0 < length h.extents) × (ord_in h f.1.0 ≡ (slot_in h j).first) = found h.extents (slot_in h j).first f.1.0 f.1.1 in
              let first_is : (slot_in h j).first ≡ turn_of ((slot_in h j).start + 1) = f.0 in
              let up : Oldest ≤ ord_in h f.1.0 = least f.1.0 (omega (arith, at.1, first_is)) in
              let ne = may_free h e may order.slots_counted in_ring j is.state some in
              let back : w.start ≡ (slot_in h j).start + 1 - 1 = let a = is.start in omega (arith, a) in
              let turn : first_turn w ≡ (slot_in h j).first = ap (λ (z : ℕ). 2 + z / EXTENT_RECORDS) back ∙ sym first_is in
              none_out (first_turn w) (head_turn h) (ord_in h e) w.touched is.within (inl (omega (arith, up, at.1, turn, ord_e, ne)))
        ]
          where
            bit_none : (x : Bool) → x ≢ true → x ≡ false
            bit_none true not = absurd (not refl)
            bit_none false not = refl

    -- one extent more
    join : ord_in h e ≡ 0 → IsBook Turned (record b { turns = b.turns ++ 0 ∷ [] })
    join out = record {
      writes = book.writes;
      lost = let test : (ord_in h e == 0) ≡ true = grind (arith, nat_tests) in rw test book.lost;
      slots = book.slots;
      newest = book.newest;
      owners = λ j few. owned_turned (slot_in h j) (get_or b.slots j free_slot).owner (λ w is. none_out (first_turn w) (head_turn h) (ord_in h e) w.touched is.within (inl (omega (arith, out)))) (book.owners j few);
      ring = subst (λ (z : ℕ). IsRing (ord_in Turned) e z) (sym long) (joined h Kept order.extents_counted book.ring e may out);
      kept = omega (arith, long, book.kept, ord_here);
      turns = λ k lt. let turn : oldest_in Turned (length (b.turns ++ 0 ∷ [])) + k ≡ Oldest + k = omega (arith, ord_here, long, book.kept) in
          subst (λ (z : ℕ). IsKeptTurn Turned z × (get_or (b.turns ++ 0 ∷ []) k 0 ≡ turn_number Turned (extent_with Turned.extents z))) (sym turn) (elim (cases_lt k Kept) [
            | inl more ↦ let t = book.turns k more in old_turn (Oldest + k) (get_or (b.turns ++ 0 ∷ []) k 0) (omega (arith, book.kept)) (omega (arith, more, book.kept)) (λ is. omega (arith, is, out, book.kept)) t.0 (get_end b.turns k ∙ t.1)
            | inr last ↦ next_kept (Oldest + k) (omega (arith, last, lt, long, book.kept)) (get_or (b.turns ++ 0 ∷ []) k 0) (get_end b.turns k ∙ get_or_past b.turns k 0 (omega (arith, last)))
          ]);
    }
      where
        long : length (b.turns ++ 0 ∷ []) ≡ Kept + 1
        long = length-append b.turns (0 ∷ [])

    pub book_turned : IsBook (turned e h) (model.turned b)
    book_turned = elim (cases_eq (ord_in h e) 0) [
      | inl out ↦
          let pinned : is_pinned b ≡ true = pinned_is h b book commit order count begun (λ j few active some. (first.begun j few active some).0) (subst (λ (z : ℕ). IsPinned (Pins h) z) oldest_at.3 (may_forced h e may order.extents_counted out oldest_at.0 (omega (arith, oldest_at.3, book.kept)) (λ g some. let a = least g some in omega (arith, a, oldest_at.3)))) in
          rw (needs, pinned) (join out)
      | inr in_ring ↦
          let free : is_pinned b ≡ false = free_is h b book commit order count begun full (λ j few active some. (first.begun j few active some).0) first.new (λ j active some is. may_free h e may order.slots_counted in_ring j active some (is ∙ sym (ord_e in_ring))) in
          rw (needs, free) (reuse in_ring)
    ]
      where
        ord_e : ord_in h e ≢ 0 → ord_in h e ≡ Oldest
        ord_e in_ring = let a = may_oldest h e may order.extents_counted in_ring oldest_at.0 (omega (arith, oldest_at.3, book.kept)) in let c = least e (omega (arith, in_ring)) in omega (arith, a, c, oldest_at.3)
