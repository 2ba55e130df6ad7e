-- The transaction of a session that is about to write runs, or there is a table slot for it in a segment of which each
-- owner is one of the sixteen sessions: fewer than sixteen others have one.
use Rattle.std.proofs.Common.{◌≡◌, ◌≢◌, ◌⊎◌, inl, inr, ◌<◌, ◌≤◌, ◌+◌, ◌*◌, ◌/◌, ◌%◌, cond, get_or, is_some, ℕ, zero, suc, List, [], ◌∷◌, length, Option, Some, None, refl, sym, ◌∙◌, ap, subst, arith}
use Rattle.std.proofs.Math.Nat.{div-add-mod, mod-lt}
use Rattle.std.proofs.lemmas.Bool.{cases_eq}
use Rattle.std.proofs.lemmas.List.Sums.{count_by-le-length, sum_by-cons}
use Rattle.std.specs.List.{count_by}
use Rattle.rb_base.specs.declared.sizes.TheConstants.{SLOTS}
use Rattle.rb_write.specs.Asks.{MayWrite, header_in}
use Rattle.rb_base.specs.declared.ids.Xid.{Xid}
use Rattle.rb_model.specs.Book.{Book, BookSlot, Owner, book_at, free_slot, owners, slot_owner}
use Rattle.rb_model.specs.State.{State, owner_at}
use Rattle.rb_segment.specs.Calls.{Runs}
use Rattle.rb_segment.specs.Header.{Header, Segment}
use Rattle.rb_segment.proofs.FoundBooks.{onto}
use Rattle.law_blocks.specs.Standing.{env_of, homes_of, segments_of}
use Rattle.law_blocks.specs.States.{Owns}
use Rattle.law_blocks.proofs.SegmentRead.{header_is}
use Rattle.rb_steps.specs.Steps.{IsAbout}
use Rattle.law_write.proofs.Presence.{owner_within}
use Rattle.law_write.proofs.StoodBlocks.{stood_of}
use Rattle.law_write.proofs.Told as told

abbrev session_of : Option Owner → ℕ
session_of None = 0
session_of (Some o) = o.session

-- one of the first numbers is 0, or each is positive
zero_or : (k : ℕ) (f : ℕ → ℕ) → ((e : ℕ) × (e < k) × (f e ≡ 0)) ⊎ ((e : ℕ) → e < k → 1 ≤ f e)
zero_or zero f = inr (λ e lt. absurd (omega (arith, lt)))
zero_or (suc k) f = elim (cases_eq (f k) 0) [
  | inl is ↦ inl (k, omega arith, is)
  | inr ne ↦ elim (zero_or k f) [
    | inl found ↦ let lt = found.1 in inl (found.0, omega (arith, lt), found.2)
    | inr each ↦ inr (λ e lt. elim (cases_eq e k) [
      | inl at ↦ let same : f e ≡ f k = ap f at in omega (arith, same, ne)
      | inr off ↦ each e (omega (arith, lt, off))
    ])
  ]
]

-- a slot of a segment, in its book
pub slot_is : (h : State) (g i : ℕ) → i < SLOTS → owner_at h (SLOTS * g + i) ≡ slot_owner (book_at h.books g) i
slot_is h g i few =
    let seg : (SLOTS * g + i) / SLOTS ≡ g = omega (arith, few) in
    let slot : (SLOTS * g + i) % SLOTS ≡ i = omega (arith, few) in
    ap (λ z. slot_owner (book_at h.books z) ((SLOTS * g + i) % SLOTS)) seg ∙ ap (slot_owner (book_at h.books g)) slot

mark_few : (o : Option Owner) → cond (is_some o) 1 0 ≤ 1
mark_few None = omega arith
mark_few (Some o) = omega arith

-- a slot that none owns isn't counted
one_free : (slots : List BookSlot) (i : ℕ) → i < length slots → (get_or slots i free_slot).owner ≡ None → count_by (λ (slot : BookSlot). is_some slot.owner) slots < length slots
one_free [] i lt free = absurd (omega (arith, lt))
one_free (slot ∷ slots) zero lt free =
    let both = sum_by-cons (λ (z : BookSlot). cond (is_some z.owner) 1 0) slot slots in
    let here : cond {A = ℕ} (is_some slot.owner) 1 0 ≡ 0 = ap (λ (o : Option Owner). cond {A = ℕ} (is_some o) 1 0) free in
    let rest = count_by-le-length (λ (z : BookSlot). is_some z.owner) slots in
    omega (arith, both, here, rest)
one_free (slot ∷ slots) (suc i) lt free =
    let both = sum_by-cons (λ (z : BookSlot). cond (is_some z.owner) 1 0) slot slots in
    let here = mark_few slot.owner in
    let rest = one_free slots i (omega (arith, lt)) free in
    omega (arith, both, here, rest)

pub few_owners : (b : Book) (i : ℕ) → length b.slots ≡ SLOTS → i < SLOTS → slot_owner b i ≡ None → owners b ≤ 15
few_owners b i sixteen lt free = let few = one_free b.slots i (omega (arith, sixteen, lt)) free in omega (arith, few, sixteen)

module _ (h : State) (xids : List Xid) (blocks : List (List ℕ)) (s : ℕ) (own : Option Xid) (about : IsAbout h xids s own blocks) where
  abbrev Segs : ℕ → Segment
  Segs = segments_of h.shape blocks

  sixteen : 0 < SLOTS
  sixteen = omega arith

  pub runs : (x : Xid) → own ≡ Some x → Runs (header_in h.shape blocks x.seg) x
  runs x is =
      let f : (t : ℕ) × Owns h s t × (x ≡ (env_of h.shape blocks).xid t) = about.id.owned x is in
      let t_in = owner_within h xids Segs (homes_of h.shape blocks) (stood_of h xids blocks about.stand) f.0 f.1.owner f.1.at in
      let a = div-add-mod f.0 SLOTS in
      let owner = told.owned h xids blocks about.stand (f.0 / SLOTS) (omega (arith, a, t_in)) (f.0 % SLOTS) f.1.owner f.1.at in
      let here : Runs (Segs (f.0 / SLOTS)).header ((env_of h.shape blocks).xid f.0) = record { slot = mod-lt f.0 sixteen; active = owner.state; wrap = refl } in
      subst (λ (z : Xid). Runs (header_in h.shape blocks z.seg) z) (sym f.2) (subst (λ (z : Header). Runs z ((env_of h.shape blocks).xid f.0)) (header_is h.shape blocks (f.0 / SLOTS)) here)

  -- the session of table slot t, or 0
  abbrev Session : ℕ → ℕ
  Session t = session_of (owner_at h t)

  owns_there : (t : ℕ) → 1 ≤ Session t → Owns h (Session t) t
  owns_there t = by (owner_at h t) refl
    where
      by : (o : Option Owner) → owner_at h t ≡ o → 1 ≤ Session t → Owns h (Session t) t
      by None is some = let none : Session t ≡ 0 = ap session_of is in absurd (omega (arith, some, none))
      by (Some o) is some = record { owner = o; at = is; session = sym (ap session_of is) }

  -- a slot that a session owns has one
  some_session : (t : ℕ) (o : Owner) → owner_at h t ≡ Some o → 1 ≤ Session t
  some_session t o is =
      let there = (about.stand.tell.owner_there o.session t (record { owner = o; at = is; session = refl })).0 in
      let same : Session t ≡ o.session = ap session_of is in
      omega (arith, there, same)

  pub may_write : MayWrite h.shape blocks own
  may_write = runs

  module _ (low : s ≤ 16) (is : own ≡ None) (g : ℕ) (living : (i : ℕ) (o : Owner) → i < 16 → slot_owner (book_at h.books g) i ≡ Some o → o.session ≤ 16) where
    few : (i : ℕ) → i < SLOTS → Session (SLOTS * g + i) ≤ 16
    few i lt = by (slot_owner (book_at h.books g) i) refl
      where
        by : (o : Option Owner) → slot_owner (book_at h.books g) i ≡ o → Session (SLOTS * g + i) ≤ 16
        by None at = let none : Session (SLOTS * g + i) ≡ 0 = ap session_of (slot_is h g i lt ∙ at) in omega (arith, none)
        by (Some o) at = let same : Session (SLOTS * g + i) ≡ o.session = ap session_of (slot_is h g i lt ∙ at) in let l = living i o lt at in omega (arith, same, l)

    -- sixteen slots of a segment that such sessions own would be of each session, also of this one
    all_owned : ((i : ℕ) → i < SLOTS → 1 ≤ Session (SLOTS * g + i)) → ⊥
    all_owned each =
        let up = about.session in
        let at : (i : ℕ) × (i < SLOTS) × (Session (SLOTS * g + i) ≡ s) = onto SLOTS 1 (λ i. Session (SLOTS * g + i)) range apart s up (omega (arith, low)) in
        let mine : Owns h s (SLOTS * g + at.0) = subst (λ (z : ℕ). Owns h z (SLOTS * g + at.0)) at.2 (owns_there (SLOTS * g + at.0) (each at.0 at.1)) in
        let some = about.id.owns (SLOTS * g + at.0) mine in
        let never : None ≡ Some ((env_of h.shape blocks).xid (SLOTS * g + at.0)) = sym is ∙ some in
        cc
      where
        range : (i : ℕ) → i < SLOTS → (1 ≤ Session (SLOTS * g + i)) × (Session (SLOTS * g + i) < 1 + SLOTS)
        range i lt = let high = few i lt in (each i lt, omega (arith, high))

        apart : (i : ℕ) → i < SLOTS → (lower : ℕ) → lower < i → Session (SLOTS * g + lower) ≢ Session (SLOTS * g + i)
        apart i lt lower below same =
            let under : Owns h (Session (SLOTS * g + i)) (SLOTS * g + lower) = subst (λ (z : ℕ). Owns h z (SLOTS * g + lower)) same (owns_there (SLOTS * g + lower) (each lower (omega (arith, lt, below)))) in
            let one = about.stand.tell.one_slot (Session (SLOTS * g + i)) (SLOTS * g + lower) (SLOTS * g + i) under (owns_there (SLOTS * g + i) (each i lt)) in
            omega (arith, one, below)

    -- so one of them is of none
    pub living_leave : g < length h.books → owners (book_at h.books g) ≤ 15
    living_leave within = elim (zero_or SLOTS (λ i. Session (SLOTS * g + i))) [
      | inl free ↦
          let count = about.stand.tell.books_counted in
          few_owners (book_at h.books g) free.0 (about.stand.tell.books g (omega (arith, within, count))).slots free.1 (of_none free.0 free.1 free.2)
      | inr each ↦ absurd (all_owned each)
    ]
      where
        of_none : (i : ℕ) → i < SLOTS → Session (SLOTS * g + i) ≡ 0 → slot_owner (book_at h.books g) i ≡ None
        of_none i lt none = by (slot_owner (book_at h.books g) i) refl
          where
            by : (o : Option Owner) → slot_owner (book_at h.books g) i ≡ o → slot_owner (book_at h.books g) i ≡ None
            by None at = at
            by (Some o) at = let some = some_session (SLOTS * g + i) o (slot_is h g i lt ∙ at) in absurd (omega (arith, some, none))
