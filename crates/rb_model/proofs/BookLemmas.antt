-- The moves of a book keep it sound.
use Rattle.std.proofs.Common.{◌≡◌, ◌≢◌, ◌⊎◌, inl, inr, ◌<◌, ◌≤◌, ◌==◌, ◌+◌, ◌-◌, ◌/◌, ◌%◌, ℕ, zero, suc, Bool, true, false, List, [], ◌∷◌, ◌++◌, length, get_or, set, Option, Some, None, refl, sym, ◌∙◌, ap, subst, arith, if◌then◌else◌, max, length-append, ⊎_elim}
use Rattle.std.proofs.lemmas.Bool.{cases_eq}
use Rattle.std.proofs.lemmas.Bool.Decides.{nat_tests}
use Rattle.std.proofs.lemmas.List.{length-set, get_or-set_same, get_or-set_other}
use Rattle.std.specs.List.{list_any}
use Rattle.rb_model.specs.Book.{Book, BookSlot, Owner, free_slot, turn_of, oldest_turn, first_turn, is_pinned, is_pinned_by, needs_turn, is_full, turned, touches, numbered, is_touched, later_numbers, oldest_number, slot_owner, marked, taken, finished, left, book_slot, book_at, begun, fresh_book, IsFirstFree, IsBegun}
use Rattle.std.specs.Prelude.{IsTrue, is_some}
use Rattle.rb_model.specs.BookLaws.{IsOwnerSound, IsBookSound, IsTurnDropped, IsTurnKept, IsSlotReused}

-- whose a slot is after one was set: the new one's, or as before
pub owner_set : (slots : List BookSlot) (i j : ℕ) (s : BookSlot) (o : Owner) → (get_or (set slots i s) j free_slot).owner ≡ Some o
    → (s.owner ≡ Some o) ⊎ ((get_or slots j free_slot).owner ≡ Some o)
owner_set [] i j s o is = inr is
owner_set (x ∷ xs) zero zero s o is = inl is
owner_set (x ∷ xs) zero (suc j) s o is = inr is
owner_set (x ∷ xs) (suc i) zero s o is = inr is
owner_set (x ∷ xs) (suc i) (suc j) s o is = owner_set xs i j s o is

pub length-numbered : (n turn : ℕ) (owner : Option Owner) (turns : List ℕ) → length (numbered n turn owner turns) ≡ length turns
length-numbered n turn owner [] = refl
length-numbered n turn owner (m ∷ turns) = let deep = length-numbered n (turn + 1) owner turns in omega (arith, deep)

-- the turn of the record that comes after w others
pub next_turn : (w : ℕ) → 1 ≤ w → w % 40 ≡ 0 → turn_of (w + 1) ≡ turn_of w + 1
next_turn w some last = omega arith

pub same_turn : (w : ℕ) → (w ≡ 0) ⊎ (w % 40 ≢ 0) → turn_of (w + 1) ≡ turn_of w
same_turn w (inl none) = rw none refl
same_turn w (inr inside) = omega arith

-- it is the turn in which an owner that begins there begins
pub begins_at : (w : ℕ) → turn_of w ≤ 2 + w / 40
begins_at w = omega arith

-- an owner that began in the oldest turn is found
pub pins : (b : Book) (slots : List BookSlot) (i : ℕ) (o : Owner) → (get_or slots i free_slot).owner ≡ Some o → first_turn o ≡ oldest_turn b
    → list_any (λ s. is_pinned_by (oldest_turn b) s.owner) slots ≡ true
pins b [] i o is at = cc
pins b (x ∷ xs) zero o is at = rw is (grind (arith, nat_tests))
pins b (x ∷ xs) (suc i) o is at = let deep = pins b xs i o is at in grind (arith, deep)

abbrev Pinned : ℕ → List BookSlot → Type 0
Pinned turn slots = (i : ℕ) × (o : Owner) × ((get_or slots i free_slot).owner ≡ Some o) × (first_turn o ≡ turn)

pin_here : (turn : ℕ) (x : BookSlot) (xs : List BookSlot) (owner : Option Owner) → x.owner ≡ owner
    → (list_any (λ s. is_pinned_by turn s.owner) xs ≡ true → Pinned turn xs)
    → (is_pinned_by turn owner ≡ false → list_any (λ s. is_pinned_by turn s.owner) xs ≡ true) → Pinned turn (x ∷ xs)
pin_here turn x xs None same deeper rest = let later = deeper (rest refl) in (suc later.0, later.1, later.2, later.3)
pin_here turn x xs (Some o) same deeper rest = elim (cases_eq (first_turn o) turn) [
  | inl at ↦ (0, o, same, at)
  | inr ne ↦ let later = deeper (rest (grind (arith, nat_tests))) in (suc later.0, later.1, later.2, later.3)
]

pub pinned : (turn : ℕ) (slots : List BookSlot) → list_any (λ s. is_pinned_by turn s.owner) slots ≡ true → Pinned turn slots
pinned turn [] is = absurd (cc)
pinned turn (x ∷ xs) is = pin_here turn x xs x.owner refl (pinned turn xs) (λ no_pin. rw no_pin at is)

left_owner : (b : Book) (i j : ℕ) (n : ℕ) (o : Owner)
    → (get_or (set b.slots i (let s : BookSlot = record { newest = n; owner = None } in s)) j free_slot).owner ≡ Some o → slot_owner b j ≡ Some o
left_owner b i j n o is = elim (owner_set b.slots i j (record { newest = n; owner = None }) o is) [ inl none ↦ absurd (cc) | inr was ↦ was ]

pub left_sound : (i : ℕ) (b : Book) → IsBookSound b → IsBookSound (left i b)
left_sound i b sound = record {
  two = sound.two;
  eight = sound.eight;
  from_one = sound.from_one;
  sixteen = length-set b.slots i _ ∙ sound.sixteen;
  owners = λ j o is.
      let was : IsOwnerSound b o = sound.owners j o (left_owner b i j _ o is) in
      record { start = was.start; kept = was.kept; touched = was.touched };
}

pub finished_sound : (n i : ℕ) (b : Book) → IsBookSound b → IsBookSound (finished n i b)
finished_sound n i b sound = record {
  two = omega (arith, long, sound.two);
  eight = omega (arith, long, sound.eight);
  from_one = omega (arith, long, sound.from_one);
  sixteen = length-set b.slots i _ ∙ sound.sixteen;
  owners = λ j o is.
      let was : IsOwnerSound b o = sound.owners j o (left_owner b i j n o is) in
      record { start = was.start; kept = rw long was.kept; touched = was.touched };
}
  where
    long : length (numbered n (oldest_turn b) (slot_owner b i) b.turns) ≡ length b.turns
    long = length-numbered n (oldest_turn b) (slot_owner b i) b.turns

pub taken_sound : (session i : ℕ) (b : Book) → IsBookSound b → IsBookSound (taken session i b)
taken_sound session i b sound = record {
  two = sound.two;
  eight = sound.eight;
  from_one = sound.from_one;
  sixteen = length-set b.slots i _ ∙ sound.sixteen;
  owners = λ j o is. elim (owner_set b.slots i j _ o is) [
    | inl new ↦ subst (λ (z : Owner). IsOwnerSound (taken session i b) z) (some_is _ o new) fresh
    | inr old ↦ let was : IsOwnerSound b o = sound.owners j o old in record { start = was.start; kept = was.kept; touched = was.touched }
  ];
}
  where
    some_is : (p o : Owner) → Some p ≡ Some o → p ≡ o
    some_is p o same = cc

    fresh : IsOwnerSound (taken session i b) (record { session = session; start = b.writes; touched = [] })
    fresh = record { start = omega arith; kept = let t = begins_at b.writes in omega (arith, t, sound.two); touched = λ t is. absurd (cc) }

-- a book that has a turn for its next record
record IsReady (t : Book) : Type 0 where
  two : 2 ≤ length t.turns
  eight : length t.turns ≤ 8
  from_one : length t.turns ≤ turn_of (t.writes + 1)
  sixteen : length t.slots ≡ 16
  start : (j : ℕ) (o : Owner) → slot_owner t j ≡ Some o → o.start ≤ t.writes
  kept : (j : ℕ) (o : Owner) → slot_owner t j ≡ Some o → turn_of (t.writes + 1) + 1 - length t.turns ≤ first_turn o
  touched : (j u : ℕ) (o : Owner) → slot_owner t j ≡ Some o → is_touched u (Some o) ≡ true → (first_turn o ≤ u) × (u ≤ turn_of (t.writes + 1))

-- the record itself, once there is a turn
abbrev recorded : ℕ → Book → Book
recorded i t =
    let s = get_or t.slots i free_slot in
    record t {
      writes = t.writes + 1;
      slots = set t.slots i (record s { owner = touches (turn_of (t.writes + 1)) s.owner });
    }

was_touched : (turn : ℕ) (owner : Option Owner) (o : Owner) → touches turn owner ≡ Some o
    → (p : Owner) × (owner ≡ Some p) × (o ≡ record p { touched = turn ∷ p.touched })
was_touched turn None o is = absurd (cc)
was_touched turn (Some p) o is = (p, refl, cc)

touched_cases : (turn u : ℕ) (xs : List ℕ) → list_any (λ t. t == u) (turn ∷ xs) ≡ true → (turn ≡ u) ⊎ (list_any (λ t. t == u) xs ≡ true)
touched_cases turn u xs is = elim (cases_eq turn u) [ inl at ↦ inl at | inr ne ↦ inr (grind (arith, nat_tests)) ]

recorded_sound : (i : ℕ) (t : Book) → IsReady t → IsBookSound (recorded i t)
recorded_sound i t ready = record {
  two = ready.two;
  eight = ready.eight;
  from_one = ready.from_one;
  sixteen = length-set t.slots i _ ∙ ready.sixteen;
  owners = λ j o is. elim (owner_set t.slots i j _ o is) [
    | inl new ↦
        let p = was_touched (turn_of (t.writes + 1)) (slot_owner t i) o new in
        subst (λ (z : Owner). IsOwnerSound (recorded i t) z) (sym p.2) (toucher p.0 p.1)
    | inr old ↦ record { start = let le = ready.start j o old in omega (arith, le); kept = ready.kept j o old; touched = λ u at. ready.touched j u o old at }
  ];
}
  where
    toucher : (p : Owner) → slot_owner t i ≡ Some p → IsOwnerSound (recorded i t) (record p { touched = turn_of (t.writes + 1) ∷ p.touched })
    toucher p is =
        let le : p.start ≤ t.writes = ready.start i p is in
        record {
          start = omega (arith, le);
          kept = ready.kept i p is;
          touched = λ u at. elim (touched_cases (turn_of (t.writes + 1)) u p.touched at) [
            | inl now ↦ (omega (arith, now, le), omega (arith, now))
            | inr before ↦ ready.touched i u p is before
          ];
        }

-- where a turn is needed, and where not
pub needs : (b : Book) → needs_turn b ≡ true → (1 ≤ b.writes) × (b.writes % 40 ≡ 0)
needs b is = (grind (arith, nat_tests), grind (arith, nat_tests))

needs_none : (b : Book) → needs_turn b ≡ false → (b.writes ≡ 0) ⊎ (b.writes % 40 ≢ 0)
needs_none b is = elim (cases_eq b.writes 0) [ inl none ↦ inl none | inr some ↦ inr (λ whole. absurd (grind (arith, nat_tests))) ]

length-later : (turns : List ℕ) → 1 ≤ length turns → length (later_numbers turns ++ 0 ∷ []) ≡ length turns
length-later [] some = omega arith
length-later (n ∷ turns) some = simp length-append (omega arith)

-- no owner began in the oldest turn
pub not_pinned : (b : Book) → is_pinned b ≡ false → (j : ℕ) (o : Owner) → slot_owner b j ≡ Some o → first_turn o ≢ oldest_turn b
not_pinned b none j o is at = let found = pins b b.slots j o is at in cc

-- the book with a turn for its next record, where one is needed or not and the oldest is in use or not
abbrev turned_as : Bool → Bool → Book → Book
turned_as need pin b =
    if need
    then (if pin then record b { turns = b.turns ++ 0 ∷ [] }
    else record b { lost = max b.lost (oldest_number b.turns); turns = later_numbers b.turns ++ 0 ∷ [] })
    else b

module _ (b : Book) (sound : IsBookSound b) where
  -- what is ready where the turn of the next record is so, with so many turns
  ready_of : (lost : ℕ) (turns : List ℕ) → 2 ≤ length turns → length turns ≤ 8 → length turns ≤ turn_of (b.writes + 1)
      → turn_of b.writes ≤ turn_of (b.writes + 1)
      → ((j : ℕ) (o : Owner) → slot_owner b j ≡ Some o → turn_of (b.writes + 1) + 1 - length turns ≤ first_turn o)
      → IsReady (record b { lost = lost; turns = turns })
  ready_of lost turns two eight from_one later kept = record {
    two = two;
    eight = eight;
    from_one = from_one;
    sixteen = sound.sixteen;
    start = λ j o is. (sound.owners j o is).start;
    kept = kept;
    touched = λ j u o is at. let was = (sound.owners j o is).touched u at in (was.0, omega (arith, was.1, later));
  }

  ready_by : (need pin : Bool) → needs_turn b ≡ need → is_pinned b ≡ pin → is_full b ≡ false
      → IsReady (turned_as need pin b)
  ready_by false pin no_need pin_is full = let same = same_turn b.writes (needs_none b no_need) in
      ready_of b.lost b.turns sound.two sound.eight (omega (arith, same, sound.from_one)) (omega (arith, same)) (λ j o is. let k = (sound.owners j o is).kept in omega (arith, same, k))
  ready_by true true need pin_is full =
      let n = needs b need in
      let next = next_turn b.writes n.0 n.1 in
      let few : length b.turns < 8 = grind (arith, nat_tests, need, pin_is, full) in
      let long : length (b.turns ++ 0 ∷ []) ≡ length b.turns + 1 = simp length-append refl in
      ready_of b.lost (b.turns ++ 0 ∷ []) (omega (arith, long, sound.two)) (omega (arith, long, few)) (omega (arith, long, next, sound.from_one)) (omega (arith, next)) (λ j o is. let k = (sound.owners j o is).kept in omega (arith, long, next, k))
  ready_by true false need pin_is full =
      let n = needs b need in
      let next = next_turn b.writes n.0 n.1 in
      let long : length (later_numbers b.turns ++ 0 ∷ []) ≡ length b.turns = length-later b.turns (omega (arith, sound.two)) in
      ready_of (max b.lost (oldest_number b.turns)) (later_numbers b.turns ++ 0 ∷ []) (omega (arith, long, sound.two)) (omega (arith, long, sound.eight)) (omega (arith, long, next, sound.from_one)) (omega (arith, next))
      (λ j o is. let k = (sound.owners j o is).kept in let ne = not_pinned b pin_is j o is in omega (arith, long, next, k, ne, sound.from_one))

  pub marked_sound : (i : ℕ) → is_full b ≡ false → IsBookSound (marked i b)
  marked_sound i full = recorded_sound i (turned b) (ready_by (needs_turn b) (is_pinned b) refl refl full)

  forty_of : (w r : ℕ) → 1 ≤ w → w % 40 ≡ 0 → w < r + 40 → r ≤ w → turn_of r ≡ turn_of w
  forty_of w r some whole near le = omega arith

  dropped_by : (need pin : Bool) → needs_turn b ≡ need → is_pinned b ≡ pin → (i : ℕ) → b.lost < (turned_as need pin b).lost
      → IsTurnDropped b (recorded i (turned_as need pin b)) (turned_as need pin b).lost
  dropped_by false pin need pin_is i rises = absurd (omega (arith, rises))
  dropped_by true true need pin_is i rises = absurd (omega (arith, rises))
  dropped_by true false need pin_is i rises =
      let n = needs b need in
      let next = next_turn b.writes n.0 n.1 in
      let long : length (later_numbers b.turns ++ 0 ∷ []) ≡ length b.turns = length-later b.turns (omega (arith, sound.two)) in
      record {
        needed = need;
        number = omega (arith, rises);
        dropped = omega (arith, next, long, sound.from_one);
        forty = λ r near le. forty_of b.writes r n.0 n.1 near le;
        before = omega (arith, sound.two, sound.from_one);
        began = began pin_is;
        touched = λ i t o is at. let a = (sound.owners i o is).touched t at in let f = began pin_is i o is in omega (arith, a.0, f);
      }
    where
      began : is_pinned b ≡ false → (i : ℕ) (o : Owner) → slot_owner b i ≡ Some o → oldest_turn b < first_turn o
      began pin_is i o is = let k = (sound.owners i o is).kept in let ne = not_pinned b pin_is i o is in omega (arith, k, ne)

  pub drops_one : (i : ℕ) → is_full b ≡ false → b.lost < (marked i b).lost → IsTurnDropped b (marked i b) (marked i b).lost
  drops_one i full rises = dropped_by (needs_turn b) (is_pinned b) refl refl i rises

  kept_by : (need pin : Bool) → needs_turn b ≡ need → is_pinned b ≡ pin → is_full b ≡ false → (i : ℕ) → IsTurnKept b (recorded i (turned_as need pin b))
  kept_by false pin need pin_is full i = let same = same_turn b.writes (needs_none b need) in record {
    one = omega (arith, same);
    owned = λ j t o is at. let k = (sound.owners j o is).kept in let u = (sound.owners j o is).touched t at in omega (arith, same, k, u.0);
  }
  kept_by true true need pin_is full i =
      let n = needs b need in
      let next = next_turn b.writes n.0 n.1 in
      let long : length (b.turns ++ 0 ∷ []) ≡ length b.turns + 1 = simp length-append refl in
      record {
        one = omega (arith, next, long);
        owned = λ j t o is at. let k = (sound.owners j o is).kept in let u = (sound.owners j o is).touched t at in omega (arith, next, long, k, u.0);
      }
  kept_by true false need pin_is full i =
      let n = needs b need in
      let next = next_turn b.writes n.0 n.1 in
      let long : length (later_numbers b.turns ++ 0 ∷ []) ≡ length b.turns = length-later b.turns (omega (arith, sound.two)) in
      record {
        one = omega (arith, next, long);
        owned = λ j t o is at.
            let k = (sound.owners j o is).kept in
            let u = (sound.owners j o is).touched t at in
            let ne = not_pinned b pin_is j o is in
            omega (arith, next, long, k, ne, u.0);
      }

  pub turns_kept : (i : ℕ) → is_full b ≡ false → IsTurnKept b (marked i b)
  turns_kept i full = kept_by (needs_turn b) (is_pinned b) refl refl full i

  pub full_since : is_full b ≡ true
      → ((i : ℕ) × (o : Owner) × (slot_owner b i ≡ Some o) × (281 ≤ b.writes - o.start))
      × ((i : ℕ) (o : Owner) → slot_owner b i ≡ Some o → b.writes - o.start ≤ 320)
  full_since full =
      let need : needs_turn b ≡ true = grind (arith, full) in
      let pin : is_pinned b ≡ true = grind (arith, full) in
      let long : 8 ≤ length b.turns = grind (arith, nat_tests, full) in
      let n = needs b need in
      let p = pinned (oldest_turn b) b.slots pin in
      let start = (sound.owners p.0 p.1 p.2).start in (
        (p.0, p.1, p.2, omega (arith, n.0, n.1, p.3, start, long, sound.eight, sound.from_one)),
        λ i o is. let k = (sound.owners i o is).kept in omega (arith, n.0, n.1, k, sound.eight),
      )

owned_or_free : (owner : Option Owner) → IsTrue (is_some owner) ⊎ (owner ≡ None)
owned_or_free None = inr refl
owned_or_free (Some o) = inl refl

pub reuses_one : (session i : ℕ) (b : Book) → IsFirstFree b i → b.lost < (taken session i b).lost → IsSlotReused b i (taken session i b).lost
reuses_one session i b free rises = record {
  number = omega (arith, rises);
  others = λ j lt ne. ⊎_elim (λ owned. inl owned) (λ none. inr (let l = free.least j lt none in omega (arith, rises, l))) (owned_or_free (slot_owner b j));
  apart = λ apart j lt ne. ⊎_elim (λ owned. inl owned) (λ none. inr (
      let l = free.least j lt none in
      let differ : (book_slot b i).newest ≢ (book_slot b j).newest = λ same. ne (sym (apart i j free.within lt (omega (arith, rises)) same)) in
      omega (arith, rises, l, differ))) (owned_or_free (slot_owner b j));
}

one_slot : (b : Book) (i j : ℕ) → IsFirstFree b i → IsFirstFree b j → i ≡ j
one_slot b i j a c =
    let at_most = a.least j c.within c.free in
    let at_least = c.least i a.within a.free in
    let below : i < j → ⊥ = λ lt. c.first i lt a.free (omega (arith, at_most, at_least)) in
    let above : j < i → ⊥ = λ lt. a.first j lt c.free (omega (arith, at_most, at_least)) in
    omega (arith, below, above)

pub begins_at_one : (books : List Book) (g h i j : ℕ) → IsBegun books g i → IsBegun books h j → (g ≡ h) × (i ≡ j)
begins_at_one books g h i j a c =
    let at_most = a.least h c.within in
    let at_least = c.least g a.within in
    let below : g < h → ⊥ = λ lt. c.first g lt (omega (arith, at_most, at_least)) in
    let above : h < g → ⊥ = λ lt. a.first h lt (omega (arith, at_most, at_least)) in
    let same : g ≡ h = omega (arith, below, above) in
    (same, one_slot (book_at books g) i j a.slot (subst (λ (z : ℕ). IsFirstFree (book_at books z) j) (sym same) c.slot))

same_slots : (need pin : Bool) (b : Book) → (turned_as need pin b).slots ≡ b.slots
same_slots false pin b = refl
same_slots true true b = refl
same_slots true false b = refl

turned_slots : (b : Book) → (turned b).slots ≡ b.slots
turned_slots b = same_slots (needs_turn b) (is_pinned b) b

pub slots_kept : (session n i j : ℕ) (b : Book) → j ≢ i
    → (book_slot (marked i b) j ≡ book_slot b j) × (book_slot (taken session i b) j ≡ book_slot b j) × (book_slot (finished n i b) j ≡ book_slot b j)
    × (book_slot (left i b) j ≡ book_slot b j)
slots_kept session n i j b ne = (
  get_or-set_other (turned b).slots i j _ free_slot ne
      ∙ ap (λ (z : List BookSlot). get_or z j free_slot) (turned_slots b),
  get_or-set_other b.slots i j _ free_slot ne,
  get_or-set_other b.slots i j _ free_slot ne,
  get_or-set_other b.slots i j _ free_slot ne,
)

-- the newest of a slot that is set with the newest that it had
newest_set : (slots : List BookSlot) (i : ℕ) (owner : Option Owner)
    → (get_or (set slots i (let s : BookSlot = record { newest = (get_or slots i free_slot).newest; owner = owner } in s)) i free_slot).newest ≡ (get_or slots i free_slot).newest
newest_set [] i owner = refl
newest_set (x ∷ xs) zero owner = refl
newest_set (x ∷ xs) (suc i) owner = newest_set xs i owner

pub newest_kept : (session i : ℕ) (b : Book)
    → ((book_slot (marked i b) i).newest ≡ (book_slot b i).newest) × ((book_slot (taken session i b) i).newest ≡ (book_slot b i).newest)
    × ((book_slot (left i b) i).newest ≡ (book_slot b i).newest)
newest_kept session i b = (
  newest_set (turned b).slots i _
      ∙ ap (λ (z : List BookSlot). (get_or z i free_slot).newest) (turned_slots b),
  newest_set b.slots i _,
  newest_set b.slots i _,
)

pub begins_there : (session g h i : ℕ) (books : List Book)
    → (g < length books → book_at (begun session g i books) g ≡ taken session i (book_at books g))
    × (h ≢ g → book_at (begun session g i books) h ≡ book_at books h)
begins_there session g h i books = (λ lt. get_or-set_same books g _ fresh_book lt, λ ne. get_or-set_other books g h _ fresh_book ne)
