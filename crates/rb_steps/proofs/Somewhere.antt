-- A session that is about to write has a slot, or would begin in the segment with the fewest owners. It lacks nothing
-- there but a place for its record where it has its slot, or takes one.
use Rattle.std.proofs.Common.{◌≡◌, ◌≢◌, ◌⊎◌, inl, inr, ◌<◌, ◌≤◌, ◌+◌, ◌-◌, ◌*◌, ◌/◌, ◌%◌, ◌&&◌, ◌||◌, ℕ, zero, suc, Bool, true, false, not, nat_le, List, length, Option, Some, None, refl, sym, ◌∙◌, ap, arith}
use Rattle.std.proofs.Math.ListN as lists
use Rattle.std.proofs.Math.Nat.{div-add-mod}
use Rattle.std.proofs.lemmas.Bool.{and_from, cases_eq, cases_lt, le-leb, lt-leb}
use Rattle.std.proofs.lemmas.List.Folds.{list_any_at}
use Rattle.rb_base.specs.declared.sizes.TheConstants.{SLOTS}
use Rattle.rb_base.specs.declared.ids.Xid.{Xid}
use Rattle.rb_model.specs.Book.{Book, BookSlot, Owner, book_at, free_slot, is_full, owners, slot_owner}
use Rattle.rb_model.specs.Calls.{HasNoSlot, IsFewest, WritesAt, WritesIn, is_owner}
use Rattle.rb_model.specs.Clearing.{has_slot_in, lacks_room}
use Rattle.rb_model.specs.State.{State, owner_at}
use Rattle.rb_write.specs.Asks as asks
use Rattle.rb_write.specs.Refusals.{LacksSlot}
use Rattle.law_blocks.specs.Standing.{env_of}
use Rattle.law_blocks.specs.States.{BlocksStand, Owns}
use Rattle.law_write.proofs.Begun.{owners_are}
use Rattle.rb_steps.specs.Steps.{IsAbout}
use Rattle.rb_steps.proofs.May.{few_owners, slot_is}

-- one of the first n + 1 numbers is the least, and none before it is
first_least : (f : ℕ → ℕ) (n : ℕ) → (g : ℕ) × (g < suc n) × ((k : ℕ) → k < suc n → f g ≤ f k) × ((k : ℕ) → k < g → f k ≢ f g)
first_least f zero = (0, omega arith, λ k lt. (let z : f k ≡ f 0 = ap f (omega (arith, lt)) in omega (arith, z)), λ k lt. absurd (omega (arith, lt)))
first_least f (suc n) =
    let l = first_least f n in
    let within = l.1 in
    elim (cases_lt (f (suc n)) (f l.0)) [
      | inl less ↦ (
        suc n,
        omega arith,
        λ k lt. elim (cases_eq k (suc n)) [
          | inl at ↦ let z : f k ≡ f (suc n) = ap f at in omega (arith, z)
          | inr off ↦ let b = l.2 k (omega (arith, lt, off)) in omega (arith, b, less)
        ],
        λ k lt same. (let b = l.2 k lt in omega (arith, b, less, same)),
      )
      | inr le ↦ (
        l.0,
        omega (arith, within),
        λ k lt. elim (cases_eq k (suc n)) [
          | inl at ↦ let z : f k ≡ f (suc n) = ap f at in omega (arith, z, le)
          | inr off ↦ l.2 k (omega (arith, lt, off))
        ],
        l.3,
      )
    ]

-- where a session writes in a slot, it writes in that segment
pub in_segment : (h : State) (s g i : ℕ) → WritesIn h s g i → WritesAt h s g
in_segment h s g i (inl owned) = inl (i, owned)
in_segment h s g i (inr begins) = inr (begins.0, record { within = begins.1.within; least = begins.1.least; first = begins.1.first })

module _ (h : State) (xids : List Xid) (blocks : List (List ℕ)) (s : ℕ) (own : Option Xid) (about : IsAbout h xids s own blocks) where
  -- a session without an id has no slot
  pub no_slot_is : own ≡ None → HasNoSlot h s
  no_slot_is is t o at same = let some = about.id.owns t (record { owner = o; at = at; session = same }) in let never : None ≡ Some ((env_of h.shape blocks).xid t) = sym is ∙ some in cc

  fewest : (g : ℕ) × IsFewest h.books g
  fewest =
      let counted = about.stand.tell.books_counted in
      let some = about.stand.tell.in_range.few_segments.0 in
      let l = first_least (λ g. owners (book_at h.books g)) (length h.books - 1) in
      let lt = l.1 in
      (l.0, record { within = omega (arith, lt, counted, some); least = λ k k_in. l.2 k (omega (arith, k_in)); first = l.3 })

  pub somewhere : (g : ℕ) × WritesAt h s g
  somewhere = by own refl
    where
      by : (o : Option Xid) → own ≡ o → (g : ℕ) × WritesAt h s g
      by (Some x) is =
          let f : (t : ℕ) × Owns h s t × (x ≡ (env_of h.shape blocks).xid t) = about.id.owned x is in
          let at : SLOTS * (f.0 / SLOTS) + f.0 % SLOTS ≡ f.0 = (let a = div-add-mod f.0 SLOTS in omega (arith, a)) in
          (f.0 / SLOTS, inl (f.0 % SLOTS, (omega arith, f.1.owner, ap (owner_at h) at ∙ f.1.at, f.1.session)))
      by None is = let f = fewest in (f.0, inr (no_slot_is is, f.1))

  -- the segment with the fewest that run has the fewest owners, and each slot has one where all run
  pub no_slot_left : (seg : ℕ) → LacksSlot h.shape blocks seg → IsFewest h.books seg × (nat_le 16 (owners (book_at h.books seg)) ≡ true)
  no_slot_left seg lacks =
      let count = about.stand.tell.books_counted in
      let few : asks.IsFewest h.shape blocks seg = lacks.fewest in
      let within = few.within in
      let here = owners_are h xids blocks about.stand seg within in (
        record {
          within = omega (arith, within, count);
          least = λ k k_in. let k_few : k < h.shape.segments = omega (arith, k_in, count) in let there = owners_are h xids blocks about.stand k k_few in let le = few.least k k_few in omega (arith, here, there, le);
          first = λ k lower same. let l = few.lower k lower in let there = owners_are h xids blocks about.stand k (omega (arith, within, lower)) in omega (arith, l, here, there, same);
        },
        let all = lacks.all_run in le-leb 16 (owners (book_at h.books seg)) (omega (arith, here, all)),
      )

-- no place is lacking, and a slot isn't where the session has one or one is left
has_room : (full has many : Bool) → full ≡ false → (has ≡ true) ⊎ (many ≡ false) → (full || (not has && many)) ≡ false
has_room full has many place (inl is) = rw (place, is) refl
has_room full true many place (inr left) = rw place refl
has_room full false many place (inr left) = rw (place, left) refl

module _ (h : State) (xids : List Xid) (blocks : List (List ℕ)) (stand : BlocksStand h xids blocks) (s g i : ℕ) where
  abbrev Here : Book
  Here = book_at h.books g

  pub slot_is_room : WritesIn h s g i → is_full Here ≡ false → lacks_room s Here ≡ false
  slot_is_room writes place = has_room (is_full Here) (has_slot_in s Here) (nat_le 16 (owners Here)) place (by writes)
    where
      has_there : (o : Owner) → slot_owner Here i ≡ Some o → o.session ≡ s → has_slot_in s Here ≡ true
      has_there o at same = elim (cases_lt i (length Here.slots)) [
        | inl lt ↦
            let mine : is_owner s (Some o) ≡ true = and_from (nat_le o.session s) (nat_le s o.session) (le-leb o.session s (omega (arith, same))) (le-leb s o.session (omega (arith, same))) in
            list_any_at (λ (slot : BookSlot). is_owner s slot.owner) Here.slots i free_slot lt (ap (is_owner s) at ∙ mine)
        | inr out ↦
            let none : None ≡ Some o = sym (ap (λ (slot : BookSlot). slot.owner) (lists.get_or-eq_default Here.slots free_slot out)) ∙ at in
            absurd cc
      ]

      by : WritesIn h s g i → (has_slot_in s Here ≡ true) ⊎ (nat_le 16 (owners Here) ≡ false)
      by (inl owned) = inl (has_there owned.1 (sym (slot_is h g i owned.0) ∙ owned.2) owned.3)
      by (inr begins) =
          let count = stand.tell.books_counted in
          let within = begins.1.within in
          let few = few_owners Here i (stand.tell.books g (omega (arith, within, count))).slots begins.1.slot.within begins.1.slot.free in
          inr (lt-leb 16 (owners Here) (omega (arith, few)))
