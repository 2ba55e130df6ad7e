-- How many records a segment has made since the first of its owners began: by its header as by its book.
use Rattle.std.proofs.Common.{◌*◌, ◌≡◌, ◌≢◌, ◌⊎◌, inl, inr, ◌<◌, ◌≤◌, ◌-◌, ℕ, zero, suc, true, List, [], ◌∷◌, get_or, Option, Some, None, refl, sym, ◌∙◌, ap, subst, arith}
use Rattle.std.proofs.lemmas.Bool.{cases_eq, cases_lt}
use Rattle.std.proofs.lemmas.List.{get_or-set_same}
use Rattle.rb_ring.specs.declared.extents.TheConstants.{EXTENTS, EXTENT_RECORDS}
use Rattle.rb_base.specs.declared.ids.Xid.{Xid}
use Rattle.rb_model.specs.Book.{Owner, Book, BookSlot, free_slot, is_full, slot_owner}
use Rattle.rb_model.specs.State.{State}
use Rattle.rb_model.specs.Tests.{earlier_start, least_start, made_since}
use Rattle.rb_model.proofs.BookLemmas.{full_since}
use Rattle.rb_segment.specs.Calls.{IsSince}
use Rattle.rb_segment.specs.Header.{Header, slot_in}
use Rattle.rb_segment.specs.Moves.{claimed, claimed_slot, MayClaim}
use Rattle.rb_segment.proofs.Recording.{claimed_other}
use Rattle.law_blocks.specs.States.{BlocksStand}
use Rattle.law_blocks.specs.Writing.{IsHeaderReady}
use Rattle.rb_txntable.specs.Slots.{no_slot}
use Rattle.rb_txntable.specs.declared.slots.TableSlot.{TableSlot}
use Rattle.law_write.proofs.Told as told

-- no owner's start is below the least
least_owner : (slots : List BookSlot) (n i : ℕ) (o : Owner) → (get_or slots i free_slot).owner ≡ Some o → least_start slots n ≤ o.start
least_owner [] n i o is = absurd cc
least_owner (s ∷ slots) n zero o is = subst (λ z. earlier_start z (least_start slots n) ≤ o.start) (sym is) (omega arith)
least_owner (s ∷ slots) n (suc i) o is = by s.owner (least_owner slots n i o is)
  where
    by : (x : Option Owner) → least_start slots n ≤ o.start → earlier_start x (least_start slots n) ≤ o.start
    by None le = le
    by (Some p) le = omega (arith, le)

least_up : (slots : List BookSlot) (n : ℕ) → least_start slots n ≤ n
least_up [] n = omega arith
least_up (s ∷ slots) n = by s.owner (least_up slots n)
  where
    by : (x : Option Owner) → least_start slots n ≤ n → earlier_start x (least_start slots n) ≤ n
    by None le = le
    by (Some p) le = omega (arith, le)

-- it is an owner's, or there is none below that number
abbrev IsLeast : List BookSlot → ℕ → ℕ → Type 0
IsLeast slots n least = (least ≡ n) ⊎ ((i : ℕ) × (o : Owner) × ((get_or slots i free_slot).owner ≡ Some o) × (least ≡ o.start))

least_is : (slots : List BookSlot) (n : ℕ) → IsLeast slots n (least_start slots n)
least_is [] n = inl refl
least_is (s ∷ slots) n = by s.owner refl (least_is slots n)
  where
    deeper : IsLeast slots n (least_start slots n) → IsLeast (s ∷ slots) n (least_start slots n)
    deeper (inl none) = inl none
    deeper (inr some) = inr (suc some.0, some.1, some.2, some.3)

    by : (x : Option Owner) → s.owner ≡ x → IsLeast slots n (least_start slots n) → IsLeast (s ∷ slots) n (earlier_start x (least_start slots n))
    by None is rest = deeper rest
    by (Some o) is rest = elim (cases_lt o.start (least_start slots n)) [
      | inl lower ↦ inr (0, o, is, omega (arith, lower))
      | inr above ↦ let same : earlier_start (Some o) (least_start slots n) ≡ least_start slots n = omega (arith, above) in subst (IsLeast (s ∷ slots) n) (sym same) (deeper rest)
    ]

module _ (h : State) (xids : List Xid) (blocks : List (List ℕ)) (stand : BlocksStand h xids blocks) (g : ℕ) (g_in : g < h.shape.segments) where
  abbrev Head : Header
  Head = told.Head h xids blocks stand g g_in

  abbrev Bk : Book
  Bk = told.Bk h xids blocks stand g g_in

  -- a start that no owner's is below, and which is one's or now
  by_least : (start : ℕ) → start ≤ Bk.writes → (start ≡ Bk.writes) ⊎ ((i : ℕ) × (o : Owner) × (slot_owner Bk i ≡ Some o) × (start ≡ o.start))
      → ((i : ℕ) (o : Owner) → slot_owner Bk i ≡ Some o → start ≤ o.start) → Bk.writes - start ≡ made_since Bk
  by_least start up is below =
      let high : least_start Bk.slots Bk.writes ≤ start = elim is [
        | inl now ↦ let l = least_up Bk.slots Bk.writes in omega (arith, l, now)
        | inr one ↦ let l = least_owner Bk.slots Bk.writes one.0 one.1 one.2 in omega (arith, l, one.3)
      ] in
      let low : start ≤ least_start Bk.slots Bk.writes = elim (least_is Bk.slots Bk.writes) [
        | inl none ↦ omega (arith, none, up)
        | inr some ↦ let l = below some.0 some.1 some.2 in omega (arith, l, some.3)
      ] in
      omega (arith, high, low)

  -- the number that RollbackFull tells
  pub since_is : (i since : ℕ) (ready : Header) → IsHeaderReady Head i ready → IsSince ready since → since ≡ made_since Bk
  since_is i since ready (inl same) is = own_since (subst (λ z. IsSince z since) same.1 is)
    where
      own_since : IsSince Head since → since ≡ made_since Bk
      own_since s =
          let one = told.owner_of h xids blocks stand g g_in s.slot s.within s.active in
          let of_owner = told.owned h xids blocks stand g g_in s.slot one.0 one.1 in
          let now = (told.book h xids blocks stand g g_in).writes in
          let same_count : since ≡ Bk.writes - (slot_in Head s.slot).start = omega (arith, s.count, now) in
          same_count ∙ by_least (slot_in Head s.slot).start (let b = told.started h xids blocks stand g g_in s.slot one.0 one.1 in omega (arith, b, of_owner.start)) (inr (s.slot, one.0, one.1, of_owner.start)) (λ j o owner.
          let other = told.owned h xids blocks stand g g_in j o owner in
          let l = s.least j (told.owner_few h xids blocks stand g g_in j o owner) other.state in
          omega (arith, l, other.start))
  since_is i since ready (inr taken) is = taken_since taken.0 (subst (λ z. IsSince z since) taken.1 is)
    where
      taken_since : MayClaim Head i → IsSince (claimed i Head) since → since ≡ made_since Bk
      taken_since may s =
          let now = (told.book h xids blocks stand g g_in).writes in
          let same_count : since ≡ Bk.writes - (slot_in (claimed i Head) s.slot).start = omega (arith, s.count, now) in
          same_count ∙ elim (cases_eq s.slot i) [
            | inl at ↦
                let here : slot_in (claimed i Head) i ≡ claimed_slot Head (slot_in Head i) = get_or-set_same Head.slots i (claimed_slot Head (slot_in Head i)) no_slot (let n = told.slots_counted h xids blocks stand g g_in in let w = may.within in omega (arith, n, w)) in
                let start : (slot_in (claimed i Head) s.slot).start ≡ Bk.writes = ap (λ z. (slot_in (claimed i Head) z).start) at ∙ (ap (λ (x : TableSlot). x.start) here ∙ sym now) in
                by_least (slot_in (claimed i Head) s.slot).start (omega (arith, start)) (inl start) (λ j o owner. least_of may s j o owner)
            | inr ne ↦
                let same : slot_in (claimed i Head) s.slot ≡ slot_in Head s.slot = claimed_other Head i s.slot ne in
                let one = told.owner_of h xids blocks stand g g_in s.slot s.within (ap (λ (x : TableSlot). x.state) (sym same) ∙ s.active) in
                let of_owner = told.owned h xids blocks stand g g_in s.slot one.0 one.1 in
                let start : (slot_in (claimed i Head) s.slot).start ≡ one.0.start = ap (λ (x : TableSlot). x.start) same ∙ of_owner.start in
                by_least (slot_in (claimed i Head) s.slot).start (let b = told.started h xids blocks stand g g_in s.slot one.0 one.1 in omega (arith, b, start)) (inr (s.slot, one.0, one.1, start)) (λ j o owner. least_of may s j o owner)
          ]
        where
          least_of : MayClaim Head i → (s : IsSince (claimed i Head) since) → (j : ℕ) (o : Owner) → slot_owner Bk j ≡ Some o → (slot_in (claimed i Head) s.slot).start ≤ o.start
          least_of may s j o owner =
              let other = told.owned h xids blocks stand g g_in j o owner in
              let ne : j ≢ i = λ at. may.idle (subst (λ z. (slot_in Head z).state ≡ 1) at other.state) in
              let same : slot_in (claimed i Head) j ≡ slot_in Head j = claimed_other Head i j ne in
              let l = s.least j (told.owner_few h xids blocks stand g g_in j o owner) (ap (λ (x : TableSlot). x.state) same ∙ other.state) in
              let start = ap (λ (x : TableSlot). x.start) same in
              omega (arith, l, start, other.start)

  -- is 281 to 320 where the book is full
  pub since_range : is_full Bk ≡ true → (281 ≤ made_since Bk) × (made_since Bk ≤ (EXTENTS * EXTENT_RECORDS))
  since_range full =
      let f = full_since Bk (told.sound h xids blocks stand g g_in) full in
      let low = least_owner Bk.slots Bk.writes f.0.0 f.0.1 f.0.2 in
      let first : 281 ≤ made_since Bk = let a = f.0.3 in omega (arith, low, a) in (
        first,
        elim (least_is Bk.slots Bk.writes) [
          | inl none ↦ omega (arith, none)
          | inr some ↦ let l = f.1 some.0 some.1 some.2 in omega (arith, l, some.3)
        ],
      )
