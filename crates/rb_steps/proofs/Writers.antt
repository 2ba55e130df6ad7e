-- The transaction that writes, by the headers, is that of the session in the machine: it has a slot there, or begins.
use Rattle.std.proofs.Common.{◌≡◌, ◌⊎◌, inl, inr, ◌<◌, ◌+◌, ◌*◌, ◌/◌, ◌%◌, ◌==◌, ℕ, true, false, List, Option, Some, None, is_some, nat_le, refl, sym, ◌∙◌, ap, subst, arith}
use Rattle.std.proofs.Math.Nat.{div-add-mod, mod-lt}
use Rattle.std.proofs.lemmas.Bool.{and_from, and_parts, cases_Bool, eq-eqb, le-leb, leb-true, ne_eqb}
use Rattle.std.proofs.lemmas.List.{get_or-set_same}
use Rattle.rb_base.specs.declared.sizes.TheConstants.{SLOTS}
use Rattle.rb_write.specs.Asks.{IsFewest, IsWriterOf, header_in}
use Rattle.rb_base.specs.declared.ids.Xid.{Xid}
use Rattle.rb_model.specs.Book.{Owner, book_at, slot_owner}
use Rattle.rb_model.specs.Calls.{WritesIn, has_slot, is_owner}
use Rattle.rb_model.specs.State.{State, owner_at}
use Rattle.rb_segment.specs.Header.{Header, Segment, segment_of, slot_in}
use Rattle.rb_segment.specs.Moves.{MayClaim, claimed, claimed_slot}
use Rattle.rb_segment.specs.Segments.{owed_in}
use Rattle.law_blocks.specs.NextStates.{Takes}
use Rattle.law_blocks.specs.Standing.{env_of, homes_of, segments_of}
use Rattle.law_blocks.specs.States.{Owns}
use Rattle.law_blocks.specs.Values.{owed, slot_of}
use Rattle.law_blocks.specs.Writing.{IsHeaderReady}
use Rattle.law_blocks.proofs.SegmentRead.{header_is}
use Rattle.rb_txntable.specs.Slots.{no_slot}
use Rattle.rb_txntable.specs.declared.slots.TableSlot.{TableSlot}
use Rattle.rb_steps.specs.Steps.{IsAbout}
use Rattle.law_write.specs.Stood.{Stood}
use Rattle.law_write.proofs.Begun.{begins_there}
use Rattle.law_write.proofs.Presence.{owner_within}
use Rattle.law_write.proofs.StoodBlocks.{stood_of}
use Rattle.law_write.proofs.Told as told

-- what is owed, as blocks and as segments say it
pub owed_same : (h : State) (blocks : List (List ℕ)) → owed_in h.shape blocks ≡ owed h.shape (segments_of h.shape blocks)
unfolding owed_in segment_of
owed_same h blocks = refl

module _ (h : State) (xids : List Xid) (blocks : List (List ℕ)) (s : ℕ) (own : Option Xid) (about : IsAbout h xids s own blocks) (x : Xid) (ready : Header) (writer : IsWriterOf h.shape blocks own x ready) where
  abbrev pub Segs : ℕ → Segment
  Segs = segments_of h.shape blocks

  abbrev pub Head : Header
  Head = (Segs x.seg).header

  -- its table slot, the slots of all segments counted in order
  abbrev pub At : ℕ
  At = SLOTS * x.seg + x.slot

  stood : Stood h xids Segs (homes_of h.shape blocks)
  stood = stood_of h xids blocks about.stand

  -- The session has that slot,
  pub record HasIt : Type 0 where
    pub own_is : own ≡ Some x
    pub owns : Owns h s At
    pub id : x ≡ (env_of h.shape blocks).xid At
    pub within : x.seg < h.shape.segments
    pub few : x.slot < SLOTS
    pub active : (slot_in Head x.slot).state ≡ 1
    pub same : ready ≡ Head

  -- or none yet, and takes it.
  pub record TakesIt : Type 0 where
    pub own_is : own ≡ None
    pub within : x.seg < h.shape.segments
    pub may : MayClaim Head x.slot
    pub fewest : IsFewest h.shape blocks x.seg
    pub same : ready ≡ claimed x.slot Head
    pub wrap : x.wrap ≡ (slot_in ready x.slot).wrap

  has_it : (y : Xid) → own ≡ Some y → HasIt
  has_it y is =
      let f : (t : ℕ) × Owns h s t × (y ≡ (env_of h.shape blocks).xid t) = about.id.owned y is in
      let w : (x ≡ y) × (ready ≡ header_in h.shape blocks y.seg) = writer.has y is in
      let id : x ≡ (env_of h.shape blocks).xid f.0 = w.0 ∙ f.2 in
      let seg : x.seg ≡ f.0 / SLOTS = ap (λ (z : Xid). z.seg) id in
      let slot : x.slot ≡ f.0 % SLOTS = ap (λ (z : Xid). z.slot) id in
      let a = div-add-mod f.0 SLOTS in
      let m = mod-lt f.0 sixteen in
      let at : f.0 ≡ At = omega (arith, a, seg, slot) in
      let t_in = owner_within h xids Segs (homes_of h.shape blocks) stood f.0 f.1.owner f.1.at in
      let g_in : x.seg < h.shape.segments = omega (arith, a, seg, t_in) in
      let owned : owner_at h At ≡ Some f.1.owner = ap (owner_at h) (sym at) ∙ f.1.at in
      let few : x.slot < SLOTS = omega (arith, m, slot) in
      let here : slot_owner (book_at h.books x.seg) x.slot ≡ Some f.1.owner = slot_is x.seg x.slot few ∙ owned in
      record {
        own_is = is ∙ ap (λ (z : Xid). Some z) (sym w.0);
        owns = record { owner = f.1.owner; at = owned; session = f.1.session };
        id = id ∙ ap (env_of h.shape blocks).xid at;
        within = g_in;
        few = few;
        active = (told.owned h xids blocks about.stand x.seg g_in x.slot f.1.owner here).state;
        same = w.1 ∙ (ap (λ (z : Xid). header_in h.shape blocks z.seg) (sym w.0) ∙ sym (header_is h.shape blocks x.seg));
      }
    where
      sixteen : 0 < SLOTS
      sixteen = omega arith

      slot_is : (g i : ℕ) → i < SLOTS → slot_owner (book_at h.books g) i ≡ owner_at h (SLOTS * g + i)
      slot_is g i few =
          let seg : g ≡ (SLOTS * g + i) / SLOTS = omega (arith, few) in
          let slot : i ≡ (SLOTS * g + i) % SLOTS = omega (arith, few) in
          ap (λ z. slot_owner (book_at h.books z) i) seg ∙ ap (slot_owner (book_at h.books ((SLOTS * g + i) / SLOTS))) slot

  takes_it : own ≡ None → TakesIt
  takes_it is =
      let w : IsFewest h.shape blocks x.seg × MayClaim (header_in h.shape blocks x.seg) x.slot × (ready ≡ claimed x.slot (header_in h.shape blocks x.seg)) × (x.wrap ≡ (slot_in ready x.slot).wrap) = writer.takes is in
      let head = header_is h.shape blocks x.seg in
      record {
        own_is = is;
        within = w.0.within;
        may = subst (λ (z : Header). MayClaim z x.slot) (sym head) w.1;
        fewest = w.0;
        same = w.2 ∙ ap (claimed x.slot) (sym head);
        wrap = w.3;
      }

  pub way : HasIt ⊎ TakesIt
  way = by own refl
    where
      by : (o : Option Xid) → own ≡ o → HasIt ⊎ TakesIt
      by None is = inr (takes_it is)
      by (Some y) is = inl (has_it y is)

  pub within : x.seg < h.shape.segments
  within = elim way [ inl has ↦ has.within | inr takes ↦ takes.within ]

  pub few : x.slot < SLOTS
  few = elim way [ inl has ↦ has.few | inr takes ↦ takes.may.within ]

  pub at_seg : At / SLOTS ≡ x.seg
  at_seg = let f = few in omega (arith, f)

  pub at_slot : At % SLOTS ≡ x.slot
  at_slot = let f = few in omega (arith, f)

  slot_at : (slot_in Head x.slot).state ≡ (slot_of Segs At).state
  slot_at = ap (λ z. (slot_in (Segs z).header x.slot).state) (sym at_seg) ∙ ap (λ z. (slot_in (Segs (At / SLOTS)).header z).state) (sym at_slot)

  pub is_ready : IsHeaderReady Head x.slot ready
  is_ready = elim way [ inl has ↦ inl (has.active, has.same) | inr takes ↦ inr (takes.may, takes.same) ]

  -- a session without an id owns no slot
  owns_none : own ≡ None → (t : ℕ) → Owns h s t → ⊥
  owns_none is t owns = let some = about.id.owns t owns in let never : None ≡ Some ((env_of h.shape blocks).xid t) = sym is ∙ some in cc

  -- each slot that the session owns is of this id
  pub owned_by : (t : ℕ) → Owns h s t → x ≡ (env_of h.shape blocks).xid t
  owned_by t owns = (writer.has ((env_of h.shape blocks).xid t) (about.id.owns t owns)).0

  -- where the session writes,
  pub writes_in : WritesIn h s x.seg x.slot
  writes_in = elim way [
    | inl has ↦ inl (has.few, has.owns.owner, has.owns.at, has.owns.session)
    | inr takes ↦ inr (
      λ t o at same. owns_none takes.own_is t (record { owner = o; at = at; session = same }),
      begins_there h xids blocks about.stand x.seg x.slot (record {
        within = takes.within;
        least = takes.fewest.least;
        first = λ k lower same. let l = takes.fewest.lower k lower in omega (arith, l, same);
      }) takes.may,
    )
  ]

  pub takes_at : Takes h Segs s At
  takes_at = elim way [
    | inl has ↦ inl has.owns
    | inr takes ↦ inr (λ active. takes.may.idle (slot_at ∙ active), owns_none takes.own_is)
  ]

  -- has its slot where it has an id,
  pub has_is : has_slot h s x.seg x.slot ≡ is_some own
  has_is = elim way [
    | inl has ↦ ap (is_owner s) has.owns.at ∙ (owner_same has.owns.owner has.owns.session ∙ sym (ap is_some has.own_is))
    | inr takes ↦ by (owner_at h At) refl (owns_none takes.own_is At) ∙ sym (ap is_some takes.own_is)
  ]
    where
      owner_same : (o : Owner) → o.session ≡ s → is_owner s (Some o) ≡ true
      owner_same o same = and_from (nat_le o.session s) (nat_le s o.session) (le-leb o.session s (omega (arith, same))) (le-leb s o.session (omega (arith, same)))

      by : (o : Option Owner) → owner_at h At ≡ o → (Owns h s At → ⊥) → is_owner s (owner_at h At) ≡ false
      by None at never = ap (is_owner s) at
      by (Some o) at never = elim (cases_Bool (is_owner s (Some o))) [
        | inl is ↦
            let parts = and_parts (nat_le o.session s) (nat_le s o.session) is in
            let low = leb-true o.session s parts.0 in
            let high = leb-true s o.session parts.1 in
            absurd (never (record { owner = o; at = at; session = omega (arith, low, high) }))
        | inr not_is ↦ ap (is_owner s) at ∙ not_is
      ]

  -- as its slot is taken then,
  pub active_is : ((slot_of Segs At).state == 1) ≡ is_some own
  active_is = elim way [
    | inl has ↦ eq-eqb (slot_of Segs At).state 1 (sym slot_at ∙ has.active) ∙ sym (ap is_some has.own_is)
    | inr takes ↦ ne_eqb (slot_of Segs At).state 1 (λ active. takes.may.idle (slot_at ∙ active)) ∙ sym (ap is_some takes.own_is)
  ]

  -- Without a slot its number is above that of each transaction that had the slot before.
  pub wrap_new : own ≡ None → (slot_in Head x.slot).wrap < x.wrap
  wrap_new is = elim way [
    | inl has ↦ let never : None ≡ Some x = sym is ∙ has.own_is in absurd cc
    | inr takes ↦
        let n = told.slots_counted h xids blocks about.stand x.seg takes.within in
        let w = takes.may.within in
        let slot : slot_in (claimed x.slot Head) x.slot ≡ claimed_slot Head (slot_in Head x.slot) = get_or-set_same Head.slots x.slot (claimed_slot Head (slot_in Head x.slot)) no_slot (omega (arith, n, w)) in
        let wrap : x.wrap ≡ (slot_in Head x.slot).wrap + 1 = takes.wrap ∙ (ap (λ (z : Header). (slot_in z x.slot).wrap) takes.same ∙ ap (λ (z : TableSlot). z.wrap) slot) in
        omega (arith, wrap)
  ]
