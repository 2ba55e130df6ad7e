-- A commit, for all homes at once.
use Rattle.std.proofs.Common.{◌≡◌, ◌≢◌, ◌<◌, ◌≤◌, ◌/◌, ◌%◌, inl, inr, ℕ, List, [], ◌∷◌, length, set, map, Some, refl, sym, ◌∙◌, ap, subst, arith}
use Rattle.std.proofs.lemmas.Bool.{cases_eq}
use Rattle.rb_base.specs.declared.sizes.TheConstants.{SLOTS}
use Rattle.rb_base.specs.declared.ids.Xid.{Xid}
use Rattle.rb_base.specs.declared.shape.Shape.{Shape}
use Rattle.rb_model.specs.Change.{Place}
use Rattle.rb_segment.specs.Header.{limit_made, Segment, slot_in, record_in, limit_in}
use Rattle.rb_segment.specs.Moves.{SegmentAges, SegmentCommits, with_segment}
use Rattle.law_blocks.specs.Says.{says, walk_record, walk_undo}
use Rattle.law_blocks.specs.Values.{Past, HomeStands, HomesStand, rows_here}
use Rattle.law_blocks.specs.Writes.{committed_past}
use Rattle.rb_txntable.specs.Looks.{slot_look}
use Rattle.rb_undoblock.specs.declared.record.UndoRecord.{UndoRecord}
use Rattle.law_home.specs.Homes.{here, narrow}
use Rattle.law_home.specs.Kinds.{Undo}
use Rattle.law_home.specs.Steps.{Stands}
use Rattle.law_home.specs.Walk.{Change, Commit, Home, Env, Rows, Commits, own, last}
use Rattle.rb_segment.proofs.Limits.{limit_rises, limit_of_record}
use Rattle.rb_segment.proofs.Moments.{ages_fewer}
use Rattle.law_blocks.proofs.Homes.{old_later, own_here, length_here}
use Rattle.rb_segment.proofs.WithSegment.{at_segment, off_segment, one_ages}
use Rattle.law_blocks.proofs.Seen.{recorded, one_xid, one_slot, distinct, made}
use Rattle.law_home.proofs.Cleaning.{ages_by_looks}
use Rattle.law_home.proofs.Homes.{lives_here, last_here}
use Rattle.law_home.proofs.Standing.{stands_commit}

-- a home that stands, with what is a law of all segments, and back
pub with_laws : (shape : Shape) (segments : ℕ → Segment) (base : ℕ) (rows : Rows) (list : List Commit) (lives : List (List Change)) (b : Home) → HomeStands (says shape segments) (λ g. (segments g).header.writes) base rows list lives b → Stands (says shape segments) (λ g. (segments g).header.writes) base rows list lives b
with_laws shape segments base rows list lives b stands = record { m = stands.m; tree = stands.tree; distinct = distinct shape segments; unique = stands.unique; locks = stands.locks; old = stands.old; made = made shape segments }

pub without_laws : (env : Env) (w w2 : ℕ → ℕ) (base : ℕ) (rows : Rows) (list : List Commit) (lives : List (List Change)) (b : Home) → ((g : ℕ) → w g ≤ w2 g) → Stands env w base rows list lives b → HomeStands env w2 base rows list lives b
without_laws env w w2 base rows list lives b le stands = record { m = stands.m; tree = stands.tree; unique = stands.unique; locks = stands.locks; old = old_later w w2 le list stands.old }

module _ (shape : Shape) (segments : ℕ → Segment) (t c : ℕ) (s2 : Segment) (done : SegmentCommits (segments (t / SLOTS)) s2 (t % SLOTS) c) where
  abbrev After : ℕ → Segment
  After = with_segment (t / SLOTS) s2 segments

  abbrev Old : Env
  Old = says shape segments

  abbrev New : Env
  New = says shape After

  -- the slots but that one
  abbrev Others : ℕ → ℕ → Type 0
  Others k j = k ≡ t / SLOTS → j ≢ t % SLOTS

  each : (k : ℕ) → SegmentAges (Others k) (segments k) (After k)
  each = one_ages Others segments (t / SLOTS) s2 (ages_fewer (λ j. j ≢ t % SLOTS) (Others (t / SLOTS)) (segments (t / SLOTS)) s2 (λ j other. other refl) done.ages)

  store_same : (p : Place) → New.store p ≡ Old.store p
  store_same p = elim (cases_eq p.seg (t / SLOTS)) [
    | inl at ↦ ap (walk_record shape p.seg) (ap (λ (z : Segment). record_in z p.index) (ap After at ∙ at_segment (t / SLOTS) s2 segments) ∙ (done.records p.index ∙ ap (λ (z : ℕ). record_in (segments z) p.index) (sym at)))
    | inr ne ↦ ap (λ (z : Segment). walk_record shape p.seg (record_in z p.index)) (off_segment (t / SLOTS) p.seg s2 segments ne)
  ]

  wraps_same : (k j : ℕ) → (slot_in (After k).header j).wrap ≡ (slot_in (segments k).header j).wrap
  wraps_same k j = elim (cases_eq k (t / SLOTS)) [
    | inl at ↦ ap (λ (z : Segment). (slot_in z.header j).wrap) (ap After at ∙ at_segment (t / SLOTS) s2 segments) ∙ (done.wrap j ∙ ap (λ (z : ℕ). (slot_in (segments z).header j).wrap) (sym at))
    | inr ne ↦ ap (λ (z : Segment). (slot_in z.header j).wrap) (off_segment (t / SLOTS) k s2 segments ne)
  ]

  own_limit_up : (p : Place) (r : Undo) → Old.store p ≡ Some r → r.xid ≡ Old.xid t → c ≤ New.limit p
  own_limit_up p r is xid =
      let u : (u : UndoRecord) × (record_in (segments p.seg) p.index ≡ Some u) × (walk_undo shape p.seg u ≡ r) = recorded shape p.seg (record_in (segments p.seg) p.index) r is in
      let x : (walk_undo shape p.seg u.0).xid ≡ Old.xid t = ap (λ (z : Undo). z.xid) u.2 ∙ xid in
      let seg : p.seg ≡ t / SLOTS = ap (λ (z : Xid). z.seg) x in
      let slot : u.0.slot ≡ t % SLOTS = ap (λ (z : Xid). z.slot) x in
      let wrap : u.0.wrap ≡ (slot_in (segments (t / SLOTS)).header (t % SLOTS)).wrap = ap (λ (z : Xid). z.wrap) x in
      let there : record_in (segments (t / SLOTS)) p.index ≡ Some u.0 = subst (λ (z : ℕ). record_in (segments z) p.index ≡ Some u.0) seg u.1 in
      let up : c ≤ limit_in s2.header p.index = done.limit p.index u.0 there slot wrap in
      let made : c ≤ limit_made s2.header p.index = subst (λ n. c ≤ n) (sym (limit_of_record s2 p.index u.0 (done.records p.index ∙ there))) up in
      subst (λ (z : Segment). c ≤ limit_made z.header p.index) (sym (ap After seg ∙ at_segment (t / SLOTS) s2 segments)) made

  -- a commit is one for every home at once
  pub commits : Commits (λ g. (segments g).header.writes) Old New t c
  commits = record {
    ages = ages_by_looks Old New (λ g. (each g).lost) (λ x. (each x.seg).looks x.slot x.wrap) (λ g. (segments g).header.writes) (λ p r le is. sym (store_same p) ∙ is) (λ p le. limit_rises (segments p.seg).header (After p.seg).header (each p.seg).lost (each p.seg).writes (each p.seg).limit p.index le);
    store = store_same;
    at = ap (λ (z : Segment). slot_look (slot_in z.header (t % SLOTS)) (slot_in (segments (t / SLOTS)).header (t % SLOTS)).wrap) (at_segment (t / SLOTS) s2 segments) ∙ done.at;
    xid = λ u ne. one_xid (New.xid u) (Old.xid u) refl refl (wraps_same (u / SLOTS) (u % SLOTS));
    goes_on = λ u ne active. (each (u / SLOTS)).goes_on (u % SLOTS) (λ seg slot. ne (one_slot u t seg slot)) active;
    active = λ x active. (each x.seg).active x.slot x.wrap active;
    limit = own_limit_up;
  }

  pub homes_commit : (homes : ℕ → Home) (past : Past) (lives : List (List Change)) → t < length lives → last past.base past.list < c → HomesStand shape segments homes past lives
      → HomesStand shape After homes (committed_past segments t c past lives) (set lives t [])
  homes_commit homes past lives t_in later stand b b_in =
      let rows = rows_here shape b past.rows in
      let list = map (narrow b) past.list in
      let is : Stands Old (λ g. (segments g).header.writes) past.base rows list (map (here b) lives) (homes b) = with_laws shape segments past.base rows list (map (here b) lives) (homes b) (stand b b_in) in
      let after : Stands New (λ g. (segments g).header.writes) past.base rows (record { xid = Old.xid t; number = c; changes = own (map (here b) lives) t } ∷ list) (set (map (here b) lives) t []) (homes b) = stands_commit past.base rows list (λ g. (segments g).header.writes) Old New t c (map (here b) lives) (homes b) (omega (arith, t_in, length_here b lives)) (rw (last_here b past.base past.list) later) commits (distinct shape After) is in
      let changes : own (map (here b) lives) t ≡ here b (own lives t) = own_here b lives t in
      let lists : set (map (here b) lives) t [] ≡ map (here b) (set lives t []) = sym (lives_here b lives t []) in
      without_laws New (λ g. (segments g).header.writes) (λ g. (After g).header.writes) past.base rows (map (narrow b) (committed_past segments t c past lives).list) (map (here b) (set lives t [])) (homes b) (λ g. (each g).writes)
      (subst (λ (z : List (List Change)). Stands New (λ g. (segments g).header.writes) past.base rows (map (narrow b) (committed_past segments t c past lives).list) z (homes b)) lists
      (subst (λ (z : List Change). Stands New (λ g. (segments g).header.writes) past.base rows (record { xid = Old.xid t; number = c; changes = z } ∷ list) (set (map (here b) lives) t []) (homes b)) changes after))
