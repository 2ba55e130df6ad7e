-- What all segments say grows older where each segment does.
use Rattle.std.proofs.Common.{◌≡◌, ◌≤◌, ◌/◌, ◌%◌, ℕ, List, Option, Some, None, refl, sym, ◌∙◌, ap, subst, arith}
use Rattle.std.proofs.Math.Nat.{div-add-mod}
use Rattle.rb_base.specs.declared.sizes.TheConstants.{SLOTS}
use Rattle.rb_base.specs.declared.ids.Xid.{Xid}
use Rattle.rb_base.specs.declared.shape.Shape.{Shape}
use Rattle.rb_model.specs.Change.{Place}
use Rattle.rb_segment.specs.Header.{Segment, slot_in, record_in}
use Rattle.rb_segment.specs.Moves.{SegmentAges}
use Rattle.law_blocks.specs.Says.{says, walk_record, walk_undo}
use Rattle.law_blocks.specs.Seen.{Goes}
use Rattle.rb_undoblock.specs.declared.record.UndoRecord.{UndoRecord}
use Rattle.law_home.specs.Kinds.{Undo}
use Rattle.law_home.specs.Steps.{Lives}
use Rattle.law_home.specs.Walk.{Change, Env, LiveAges, Distinct}
use Rattle.rb_segment.proofs.Limits.{limit_rises}
use Rattle.rb_segment.proofs.Records.{made_of}
use Rattle.law_home.proofs.Cleaning.{ages_by_looks}

-- a record as the walk sees it is one of the segment
pub recorded : (shape : Shape) (g : ℕ) (o : Option UndoRecord) (r : Undo) → walk_record shape g o ≡ Some r → (u : UndoRecord) × (o ≡ Some u) × (walk_undo shape g u ≡ r)
recorded shape g None r is = let none : None ≡ Some r = is in absurd (cc)
recorded shape g (Some u) r is = let same : Some (walk_undo shape g u) ≡ Some r = is in (u, refl, cc)

abbrev xid_of : ℕ → ℕ → ℕ → Xid
xid_of seg slot wrap = record { seg = seg; slot = slot; wrap = wrap }

ids : (a b c d e f : ℕ) → a ≡ d → b ≡ e → c ≡ f → xid_of a b c ≡ xid_of d e f
ids a b c d e f one two three = cc

pub one_xid : (x y : Xid) → x.seg ≡ y.seg → x.slot ≡ y.slot → x.wrap ≡ y.wrap → x ≡ y
one_xid x y seg slot wrap = ids x.seg x.slot x.wrap y.seg y.slot y.wrap seg slot wrap

-- a slot is told by its segment and its number there
pub one_slot : (t u : ℕ) → t / SLOTS ≡ u / SLOTS → t % SLOTS ≡ u % SLOTS → t ≡ u
one_slot t u segs slots = let a = div-add-mod t SLOTS in let b = div-add-mod u SLOTS in omega (arith, a, b, segs, slots)

module _ (shape : Shape) (segments : ℕ → Segment) where
  -- an id tells the slot
  pub distinct : Distinct (says shape segments)
  distinct s u active same = one_slot u s (ap (λ (x : Xid). x.seg) same) (ap (λ (x : Xid). x.slot) same)

  -- a record's number is at most the writes
  pub made : (p : Place) (r : Undo) → (says shape segments).store p ≡ Some r → p.index ≤ (segments p.seg).header.writes
  made p r is = let u : (u : UndoRecord) × (record_in (segments p.seg) p.index ≡ Some u) × (walk_undo shape p.seg u ≡ r) = recorded shape p.seg (record_in (segments p.seg) p.index) r is in (made_of (segments p.seg) p.index u.0 u.1).1

module _ (shape : Shape) (segments segments2 : ℕ → Segment) (lives : List (List Change)) (each : (g : ℕ) → SegmentAges (Goes lives g) (segments g) (segments2 g)) where
  abbrev Old : Env
  Old = says shape segments

  abbrev New : Env
  New = says shape segments2

  stays : (t : ℕ) (p : Place) (r : Undo) → Lives lives t → r.xid ≡ Old.xid t → Old.store p ≡ Some r → New.store p ≡ Some r
  stays t p r goes xid is =
      let u : (u : UndoRecord) × (record_in (segments p.seg) p.index ≡ Some u) × (walk_undo shape p.seg u ≡ r) = recorded shape p.seg (record_in (segments p.seg) p.index) r is in
      let x : (walk_undo shape p.seg u.0).xid ≡ Old.xid t = ap (λ (z : Undo). z.xid) u.2 ∙ xid in
      let seg : p.seg ≡ t / SLOTS = ap (λ (z : Xid). z.seg) x in
      let slot : u.0.slot ≡ t % SLOTS = ap (λ (z : Xid). z.slot) x in
      let wrap : u.0.wrap ≡ (slot_in (segments (t / SLOTS)).header (t % SLOTS)).wrap = ap (λ (z : Xid). z.wrap) x in
      let wrap_here : u.0.wrap ≡ (slot_in (segments p.seg).header (t % SLOTS)).wrap = subst (λ (z : ℕ). u.0.wrap ≡ (slot_in (segments z).header (t % SLOTS)).wrap) (sym seg) wrap in
      let now : record_in (segments2 p.seg) p.index ≡ Some u.0 = (each p.seg).kept (t % SLOTS) p.index u.0 (t, sym seg, refl, goes) slot wrap_here u.1 in
      ap (walk_record shape p.seg) now ∙ ap Some u.2

  was : (p : Place) (r : Undo) → p.index ≤ (segments p.seg).header.writes → New.store p ≡ Some r → Old.store p ≡ Some r
  was p r le is =
      let u : (u : UndoRecord) × (record_in (segments2 p.seg) p.index ≡ Some u) × (walk_undo shape p.seg u ≡ r) = recorded shape p.seg (record_in (segments2 p.seg) p.index) r is in
      ap (walk_record shape p.seg) ((each p.seg).records p.index u.0 le u.1) ∙ ap Some u.2

  pub live_ages : LiveAges (Lives lives) (λ g. (segments g).header.writes) Old New
  live_ages = record {
    ages = ages_by_looks Old New (λ g. (each g).lost) (λ x. (each x.seg).looks x.slot x.wrap) (λ g. (segments g).header.writes) was (λ p le. limit_rises (segments p.seg).header (segments2 p.seg).header (each p.seg).lost (each p.seg).writes (each p.seg).limit p.index le);
    store = stays;
    xid = λ t goes. one_xid (New.xid t) (Old.xid t) refl refl ((each (t / SLOTS)).wrap (t % SLOTS) (t, refl, refl, goes));
    goes_on = λ t goes active. (each (t / SLOTS)).goes_on (t % SLOTS) (t, refl, refl, goes) active;
    active = λ x active. (each x.seg).active x.slot x.wrap active;
  }
