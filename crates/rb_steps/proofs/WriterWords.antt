-- What a key's cleaned home says of the transaction that writes is what the machine says of its session: whether an entry
-- is left for it, and that nobody else holds the key.
use Rattle.std.proofs.Common.{◌≡◌, ◌≢◌, inl, inr, ◌<◌, ◌≤◌, ℕ, suc, true, false, List, length, Option, Some, None, refl, sym, ◌∙◌, ap, subst, arith}
use Rattle.std.proofs.Math.ListN as lists
use Rattle.std.proofs.lemmas.Bool.{cases_Bool, cases_lt}
use Rattle.std.proofs.lemmas.List.{get_or-map, length-map}
use Rattle.rb_itl.specs.declared.slots.TheConstants.{ENTRIES, OPEN}
use Rattle.rb_write.specs.Asks.{IsWriterOf}
use Rattle.rb_write.specs.Refusals.{AreOpen, LacksEntry}
use Rattle.rb_base.specs.Blocks.{block_of, home_block}
use Rattle.rb_base.specs.declared.ids.Xid.{Xid}
use Rattle.rb_heap.specs.Choices.{HasNoChoice, IsEntryChoice, IsOwnEntry}
use Rattle.rb_heap.specs.Cleaning.{cleaned_entry}
use Rattle.rb_heap.specs.Homes.{Home, home_cell, home_entry, home_of}
use Rattle.rb_heap.proofs.Reading.{entries_counted}
use Rattle.rb_itl.specs.Entries.{free_entry}
use Rattle.rb_itl.specs.declared.slots.Entry as entries
use Rattle.rb_model.specs.State.{State}
use Rattle.rb_model.specs.Tests.{full_slots, holder}
use Rattle.rb_segment.specs.Header.{Header, Segment, slot_in}
use Rattle.law_blocks.specs.Says.{walk_entry, walk_home}
use Rattle.law_blocks.specs.Standing.{env_of, segments_of}
use Rattle.law_blocks.specs.States.{Owns, lives_of, past_of}
use Rattle.law_blocks.specs.Writing.{IsNotHeld}
use Rattle.law_blocks.proofs.CleanedSound as clean
use Rattle.law_blocks.proofs.HomesCleaned.{status_open}
use Rattle.law_blocks.proofs.HomesSound.{keyed_taken, lock_same, open_kind}
use Rattle.rb_steps.specs.Steps.{IsAbout}
use Rattle.rb_steps.proofs.HomeWords as home
use Rattle.rb_steps.proofs.Writers as writers
use Rattle.law_write.specs.Stood.{Stood}
use Rattle.law_write.specs.VerdictLaws.{clean_home}
use Rattle.law_write.proofs.Presence as presence
use Rattle.law_write.proofs.Presence.{HolderOf}
use Rattle.law_write.proofs.Slots as slots
use Rattle.law_write.proofs.Slots.{IsOfOther}
use Rattle.law_home.specs.Kinds.{Free, Open, Entry}
use Rattle.law_home.specs.Walk as walk
use Rattle.law_home.specs.Walk.{IsActive, cell_at, entry_at, lock_of, taken}

-- an entry that is chosen is one
pub chosen_is : (at : ℕ → entries.Entry) (x : Xid) (i : ℕ) → IsEntryChoice at x i → ¬ HasNoChoice at x
chosen_is at x i choice none =
    let this = none i choice.within in
    elim choice.way [
      | inl mine ↦ this.1 mine.own.1
      | inr other ↦ elim other [
        | inl free ↦ let f = free.free in let k = this.0 in omega (arith, f, k)
        | inr told ↦ told.told.1 this.0
      ]
    ]

module _ (h : State) (xids : List Xid) (blocks : List (List ℕ)) (s : ℕ) (own : Option Xid) (about : IsAbout h xids s own blocks) (table key : ℕ) (first : 1 ≤ table) (last : table ≤ h.shape.tables) where
  abbrev Which : ℕ
  Which = home_block h.shape table key

  abbrev pub Cleaned : Home
  Cleaned = home.Cleaned h xids blocks about.stand table key first last

  abbrev Walked : walk.Home
  Walked = clean_home h blocks Which

  abbrev Segs : ℕ → Segment
  Segs = segments_of h.shape blocks

  abbrev Stands : Stood h xids Segs (clean_home h blocks)
  Stands = home.stood h xids blocks about.stand table key first last

  eight : length Cleaned.entries ≡ ENTRIES
  eight = length-map (home_of (block_of blocks Which)).entries (cleaned_entry (env_of h.shape blocks).look) ∙ entries_counted (block_of blocks Which)

  entry_is : (i : ℕ) → i < ENTRIES → entry_at Walked i ≡ walk_entry h.shape (home_entry Cleaned i)
  entry_is i few =
      ap (λ (b : walk.Home). entry_at b i) (sym (home.walked_is h xids blocks about.stand table key first last))
      ∙ get_or-map (walk_entry h.shape) Cleaned.entries i free_entry walk.free_entry (let n = eight in omega (arith, n, few))

  -- no entry is left for the session: each is another's
  pub slots_full : LacksEntry Cleaned own → full_slots h s table key ≡ true
  slots_full lacks = slots.full_slots_when h xids Segs (clean_home h blocks) Stands s table key first last (of_others own refl lacks)
    where
      of_other : (i : ℕ) → i < ENTRIES → (home_entry Cleaned i).kind ≡ OPEN → ((t : ℕ) → Owns h s t → (home_entry Cleaned i).xid ≢ (env_of h.shape blocks).xid t) → IsOfOther h xids Segs (clean_home h blocks) Stands s table key first last i
      of_other i few kind other =
          let e = home_entry Cleaned i in
          let opened : (entry_at Walked i).status ≡ Open = ap (λ (z : Entry). z.status) (entry_is i few) ∙ status_open e.kind e.number kind in
          record {
            active = (opened, home.is_clean_here h xids blocks about.stand table key first last i opened);
            other = λ t owns same. other t owns (sym (ap (λ (z : Entry). z.xid) (entry_is i few)) ∙ same);
          }

      of_others : (o : Option Xid) → own ≡ o → LacksEntry Cleaned o → (i : ℕ) → i < ENTRIES → IsOfOther h xids Segs (clean_home h blocks) Stands s table key first last i
      of_others None is all i few = of_other i few (all i few) (λ t owns same. let never : None ≡ Some ((env_of h.shape blocks).xid t) = sym is ∙ about.id.owns t owns in absurd cc)
      of_others (Some y) is none i few = of_other i few (none i few).0 (λ t owns same.
          let both : Some y ≡ Some ((env_of h.shape blocks).xid t) = sym is ∙ about.id.owns t owns in
          let mine : y ≡ (env_of h.shape blocks).xid t = cc in
          (none i few).1 (same ∙ sym mine))

  others_open : ((i : ℕ) → i < ENTRIES → IsOfOther h xids Segs (clean_home h blocks) Stands s table key first last i) → AreOpen (home_entry Cleaned)
  others_open all j few =
      let e = home_entry Cleaned j in
      open_kind e.kind e.number (sym (ap (λ (z : Entry). z.status) (entry_is j few)) ∙ (all j few).active.0)

  -- one that isn't Open is left for a session that has none
  pub some_left : ¬ AreOpen (home_entry Cleaned) → full_slots h s table key ≡ false
  some_left some = elim (cases_Bool (full_slots h s table key)) [
    | inl is ↦ absurd (some (others_open (slots.full_slots_then h xids Segs (clean_home h blocks) Stands s table key first last is)))
    | inr not_is ↦ not_is
  ]

  -- an entry that is Open is one of the eight
  open_few : (i : ℕ) → (entry_at Walked i).status ≡ Open → i < ENTRIES
  open_few i is = elim (cases_lt i ENTRIES) [
    | inl few ↦ few
    | inr many ↦
        let n = length-map Cleaned.entries (walk_entry h.shape) in
        let k = eight in
        let out : entry_at (walk_home h.shape 0 Cleaned) i ≡ walk.free_entry = lists.get_or-eq_default (walk_home h.shape 0 Cleaned).entries walk.free_entry (omega (arith, n, k, many)) in
        let never : Free ≡ Open = sym (ap (λ (z : Entry). z.status) out) ∙ (ap (λ (b : walk.Home). (entry_at b i).status) (home.walked_is h xids blocks about.stand table key first last) ∙ is) in
        absurd cc
  ]

  module _ (x : Xid) (ready : Header) (writer : IsWriterOf h.shape blocks own x ready) where
    pub slots_free : ¬ HasNoChoice (home_entry Cleaned) x → full_slots h s table key ≡ false
    slots_free some = elim (cases_Bool (full_slots h s table key)) [
      | inl is ↦ absurd (some (none (slots.full_slots_then h xids Segs (clean_home h blocks) Stands s table key first last is)))
      | inr not_is ↦ not_is
    ]
      where
        none : ((i : ℕ) → i < ENTRIES → IsOfOther h xids Segs (clean_home h blocks) Stands s table key first last i) → HasNoChoice (home_entry Cleaned) x
        none all j few =
            let e = home_entry Cleaned j in
            let kind = others_open all j few in (
              kind,
              λ same. elim (writers.way h xids blocks s own about x ready writer) [
                | inl has ↦ (all j few).other (writers.At h xids blocks s own about x ready writer) has.owns (ap (λ (z : Entry). z.xid) (entry_is j few) ∙ (same ∙ has.id))
                | inr takes ↦
                    let sound = (clean.entry_in_order h.shape blocks (past_of h xids) (lives_of h (env_of h.shape blocks)) about.stand.standing Which (home.which_in h xids blocks about.stand table key first last) j few).taken (λ free. omega (arith, kind, free)) in
                    let old : e.xid.wrap ≤ (slot_in (Segs e.xid.seg).header e.xid.slot).wrap = sound.wrap.1 in
                    let here : x.wrap ≤ (slot_in (Segs x.seg).header x.slot).wrap = subst (λ (z : Xid). z.wrap ≤ (slot_in (Segs z.seg).header z.slot).wrap) same old in
                    let new = writers.wrap_new h xids blocks s own about x ready writer takes.own_is in
                    omega (arith, here, new)
              ],
            )

    -- the entry of the session that holds the key is the transaction's own
    own_entry : (i : ℕ) → (entry_at Walked i).status ≡ Open → (o : HolderOf h xids Segs (clean_home h blocks) Stands table key first last i) → o.owner.session ≡ s → IsOwnEntry x (home_entry Cleaned i)
    own_entry i opened o same =
        let at = entry_is i (open_few i opened) in
        let e = home_entry Cleaned i in
        let owns : Owns h s o.slot = record { owner = o.owner; at = o.owned_by; session = same } in (
          open_kind e.kind e.number (sym (ap (λ (z : Entry). z.status) at) ∙ opened),
          sym (ap (λ (z : Entry). z.xid) at) ∙ (o.xid ∙ sym (writers.owned_by h xids blocks s own about x ready writer o.slot owns)),
        )

    -- no other transaction has the key's cell locked
    pub not_held : ((u : ℕ) → holder h table key ≡ Some u → u ≡ s) → IsNotHeld Cleaned x key
    not_held mine c i keyed locked =
        let cell = home.cell_is h xids blocks about.stand table key first last c in
        let lock : lock_of (cell_at Walked c) ≡ suc i = ap lock_of cell ∙ (lock_same (home_cell Cleaned c) ∙ locked) in
        let has : taken (cell_at Walked c) ≡ Some key = ap taken cell ∙ keyed_taken key (home_cell Cleaned c) keyed in
        let opened : (entry_at Walked i).status ≡ Open = (Stands.each Which (home.which_in h xids blocks about.stand table key first last)).locks i c lock in
        let active : IsActive (env_of h.shape blocks) (entry_at Walked i) = (opened, home.is_clean_here h xids blocks about.stand table key first last i opened) in
        let o : HolderOf h xids Segs (clean_home h blocks) Stands table key first last i = presence.holder_of_lock h xids Segs (clean_home h blocks) Stands table key first last i c active has lock in
        own_entry i opened o (mine o.owner.session o.is)
