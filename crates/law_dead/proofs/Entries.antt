-- The entries that dead transactions have in a home.
use Rattle.std.proofs.Common.{◌≡◌, inl, inr, ◌<◌, ◌≤◌, ℕ, true, List, ◌∷◌, Some, None, refl, sym, ◌∙◌, ap, arith}
use Rattle.std.proofs.lemmas.Bool.{cases_lt, cond-true}
use Rattle.std.proofs.lemmas.Bool.Decides.{nat_tests}
use Rattle.rb_base.specs.Blocks.{block_of, home_block}
use Rattle.rb_base.specs.declared.ids.Xid.{Xid}
use Rattle.rb_heap.proofs.Reading.{entry_read}
use Rattle.rb_itl.specs.Entries as itl
use Rattle.rb_itl.specs.declared.slots.Entry as entries
use Rattle.rb_itl.specs.declared.slots.TheConstants.{ENTRIES, OPEN}
use Rattle.rb_model.specs.Book.{Owner}
use Rattle.rb_model.specs.State.{State, owner_at, session_count}
use Rattle.law_blocks.proofs.HomesSound.{entry_here, open_here}
use Rattle.law_blocks.proofs.Seen.{distinct}
use Rattle.law_blocks.specs.Says.{status_of, walk_entry}
use Rattle.law_blocks.specs.Standing.{env_of, homes_of, segments_of}
use Rattle.law_blocks.specs.States.{BlocksStand, Owns}
use Rattle.law_dead.proofs.Cleared.{dead_owns}
use Rattle.rb_model.specs.Dead.{dead_at, dead_owner, is_dead, works_at}
use Rattle.law_dead.specs.Entries.{IsLiving, Runs, entry_of_key}
use Rattle.law_home.proofs.Holding.{entry_of_slot}
use Rattle.law_home.proofs.Lives.{found}
use Rattle.law_home.specs.Kinds as walk_kinds
use Rattle.law_home.specs.Steps.{EntryOf}
use Rattle.law_home.specs.Walk as walk
use Rattle.law_home.specs.Walk.{Change, IsActive, entry_at, own}
use Rattle.law_write.specs.Stood.{Stood, StoodHome}
use Rattle.law_write.proofs.Slots.{Below, home, slot_works, works_slot}
use Rattle.law_write.proofs.StoodBlocks.{stood_of}

open_status : (kind number : ℕ) → kind ≡ OPEN → status_of kind number ≡ walk_kinds.Open
open_status kind number is = rw is refl

module _ (h : State) (xids : List Xid) (blocks : List (List ℕ)) (table key : ℕ) (stand : BlocksStand h xids blocks) (first : 1 ≤ table) (last : table ≤ h.shape.tables) where
  abbrev Which : ℕ
  Which = home_block h.shape table key

  abbrev Walked : walk.Home
  Walked = homes_of h.shape blocks Which

  abbrev Block : List ℕ
  Block = block_of blocks Which

  stood : Stood h xids (segments_of h.shape blocks) (homes_of h.shape blocks)
  stood = stood_of h xids blocks stand

  at_home : StoodHome h xids (segments_of h.shape blocks) Which Walked
  at_home = home h xids (segments_of h.shape blocks) (homes_of h.shape blocks) stood 0 table key first last

  -- the entry in both words
  entry_is : (i : ℕ) → i < ENTRIES → entry_at Walked i ≡ walk_entry h.shape (entry_of_key h blocks table key i)
  entry_is i few = entry_here h.shape Block i few ∙ ap (walk_entry h.shape) (sym (entry_read Block i itl.free_entry few))

  kind_of : (i : ℕ) → (entry_at Walked i).status ≡ walk_kinds.Open → (i < ENTRIES) × ((entry_of_key h blocks table key i).kind ≡ OPEN)
  kind_of i is = let o = open_here h.shape Block i is in (o.0, ap (λ (e : entries.Entry). e.kind) (entry_read Block i itl.free_entry o.0) ∙ o.1)

  xid_is : (i : ℕ) → i < ENTRIES → (entry_at Walked i).xid ≡ (entry_of_key h blocks table key i).xid
  xid_is i few = ap (λ (e : walk_kinds.Entry). e.xid) (entry_is i few)

  pub dead_has : (t d : ℕ) → dead_at h t ≡ Some d → works_at table key h d ≡ true
      → (i : ℕ) × Runs h blocks table key i × ((entry_of_key h blocks table key i).xid ≡ (env_of h.shape blocks).xid t)
      × (IsLiving h blocks (entry_of_key h blocks table key i).xid → ⊥)
  dead_has t d dead works =
      let owns = dead_owns h t d dead in
      let slot : (u : ℕ) × Owns h d u × ((ch : Change) × (more : List Change) × (own _ u ≡ ch ∷ more)) = works_slot h xids (segments_of h.shape blocks) (homes_of h.shape blocks) stood 0 table key first last d (let m = owns.1 in omega (arith, m)) works in
      let same : slot.0 ≡ t = stood.one_slot d slot.0 t slot.1 owns.0 in
      let e : EntryOf (env_of h.shape blocks) Walked slot.0 = entry_of_slot (env_of h.shape blocks) (Below h xids (segments_of h.shape blocks) (homes_of h.shape blocks) stood 0 table key first last) at_home.m _ Walked at_home.tree slot.0 slot.2.0 slot.2.1 slot.2.2 in
      let k = kind_of e.entry e.active.0 in
      let x = xid_is e.entry k.0 in
      let id : (entry_of_key h blocks table key e.entry).xid ≡ (env_of h.shape blocks).xid t = sym x ∙ (e.xid ∙ ap (env_of h.shape blocks).xid same) in
      let runs : Runs h blocks table key e.entry = record { within = k.0; opened = k.1; active = ap (env_of h.shape blocks).look (sym x) ∙ e.active.1 } in (
        e.entry,
        runs,
        id,
        λ living.
            let s = living.0 in
            let v = living.1 in
            let other : Owns h s v = living.4 in
            let ids : (env_of h.shape blocks).xid v ≡ (env_of h.shape blocks).xid t = sym living.5 ∙ id in
            let slots : v ≡ t = distinct h.shape (segments_of h.shape blocks) t v (ap (env_of h.shape blocks).look (sym living.5) ∙ runs.active) ids in
            let there : owner_at h t ≡ Some other.owner = ap (owner_at h) (sym slots) ∙ other.at in
            let both : Some owns.0.owner ≡ Some other.owner = sym owns.0.at ∙ there in
            let one : owns.0.owner ≡ other.owner = cc in
            let numbers : d ≡ s = sym owns.0.session ∙ (ap (λ (o : Owner). o.session) one ∙ other.session) in
            let few = living.3 in
            let many = owns.1 in
            omega (arith, numbers, few, many),
      )

  pub is_dead_one : (i : ℕ) → Runs h blocks table key i → (IsLiving h blocks (entry_of_key h blocks table key i).xid → ⊥)
      → (t : ℕ) × (d : ℕ) × (dead_at h t ≡ Some d) × (works_at table key h d ≡ true)
      × ((entry_of_key h blocks table key i).xid ≡ (env_of h.shape blocks).xid t)
  is_dead_one i runs living_not =
      let at = entry_is i runs.within in
      let active : IsActive (env_of h.shape blocks) (entry_at Walked i) = (
        ap (λ (e : walk_kinds.Entry). e.status) at ∙ open_status (entry_of_key h blocks table key i).kind (entry_of_key h blocks table key i).number runs.opened,
        ap (env_of h.shape blocks).look (xid_is i runs.within) ∙ runs.active,
      ) in
      let f : (t : ℕ) × (ch : Change) × (more : List Change) × (own _ t ≡ ch ∷ more) × ((entry_at Walked i).xid ≡ (env_of h.shape blocks).xid t) = found (env_of h.shape blocks) (Below h xids (segments_of h.shape blocks) (homes_of h.shape blocks) stood 0 table key first last) at_home.m _ Walked i active at_home.tree in
      let g = slot_works h xids (segments_of h.shape blocks) (homes_of h.shape blocks) stood 0 table key first last f.0 f.1 f.2 f.3 in
      let owns : Owns h g.0.session f.0 = record { owner = g.0; at = g.1; session = refl } in
      let id : (entry_of_key h blocks table key i).xid ≡ (env_of h.shape blocks).xid f.0 = sym (xid_is i runs.within) ∙ f.4 in
      elim (cases_lt session_count g.0.session) [
        | inr few ↦ absurd (living_not (g.0.session, f.0, (stood.owners f.0 g.0 g.1).0, few, owns, id))
        | inl more ↦
            let number : is_dead g.0.session ≡ true = grind (arith, nat_tests, more) in
            (f.0, g.0.session, ap dead_owner g.1 ∙ cond-true (is_dead g.0.session) (Some g.0.session) None number, g.2, id)
      ]
