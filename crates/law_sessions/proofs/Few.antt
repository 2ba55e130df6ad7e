-- A session's transaction has no more changes than its segment has records.
use Rattle.std.proofs.Common.{◌≡◌, ◌<◌, ◌≤◌, ◌+◌, ◌*◌, ◌/◌, ◌%◌, ℕ, List, [], ◌∷◌, length, refl, ◌∙◌, ap, arith}
use Rattle.rb_ring.specs.declared.extents.TheConstants.{EXTENTS, EXTENT_RECORDS}
use Rattle.rb_base.specs.declared.ids.Xid.{Xid}
use Rattle.rb_base.specs.declared.sizes.TheConstants.{ACTIVE, SLOTS}
use Rattle.rb_model.specs.Change as model
use Rattle.rb_model.specs.State.{State, session_own}
use Rattle.rb_segment.specs.Header.{Segment}
use Rattle.rb_segment.specs.Segments.{commit_scn}
use Rattle.rb_segment.proofs.Rooms.{live_few}
use Rattle.law_blocks.specs.Standing.{env_of, homes_of, logged_of, segments_of}
use Rattle.law_blocks.specs.States.{BlocksStand, Owns, lives_of, past_of}
use Rattle.law_blocks.specs.Values.{slot_of}
use Rattle.law_blocks.proofs.Ids.{active_of}
use Rattle.law_blocks.proofs.StandingWritten.{keeps_of, running_of}
use Rattle.law_blocks.proofs.States.{length_newest, lives_owned}
use Rattle.law_write.proofs.Presence.{owner_within}
use Rattle.law_write.proofs.StoodBlocks.{stood_of}
use Rattle.law_home.specs.Walk.{Change, own}

module _ (h : State) (xids : List Xid) (blocks : List (List ℕ)) (stand : BlocksStand h xids blocks) where
  abbrev segments : ℕ → Segment
  segments = segments_of h.shape blocks

  abbrev commit : ℕ
  commit = commit_scn h.shape blocks

  abbrev logged : ℕ
  logged = logged_of h.shape blocks

  -- the changes of a slot's owner are its live records
  pub own_few : (s t : ℕ) → Owns h s t → length (session_own h s) ≤ (EXTENTS * EXTENT_RECORDS)
  own_few s t owns =
      let lt : t < SLOTS * h.shape.segments = owner_within h xids segments (homes_of h.shape blocks) (stood_of h xids blocks stand) t owns.owner owns.at in
      let g : t / SLOTS < h.shape.segments = omega (arith, lt) in
      let state : (slot_of segments t).state ≡ ACTIVE = active_of h segments stand.tell.books t lt owns.owner owns.at in
      let keeps = keeps_of h.shape commit logged segments (homes_of h.shape blocks) (past_of h xids) (lives_of h (env_of h.shape blocks)) stand.standing.stands stand.tell.running (t / SLOTS) g (t % SLOTS) state in
      let runs = running_of h.shape commit logged segments (homes_of h.shape blocks) (past_of h xids) (lives_of h (env_of h.shape blocks)) stand.standing.stands stand.tell.running (t / SLOTS) g (t % SLOTS) state in
      let few = live_few commit logged (segments (t / SLOTS)) (t % SLOTS) (stand.standing.stands.in_order (t / SLOTS) g) keeps runs in
      let count = ((stand.standing.stands.slots t lt).active state).count in
      let own_is : length (own (lives_of h (env_of h.shape blocks)) t) ≡ length (session_own h s) + 0 = ap (λ (l : List Change). length l) (lives_owned h (env_of h.shape blocks) s t lt owns) ∙ length_newest h.shape ((env_of h.shape blocks).xid t) 1 (session_own h s) [] in
      omega (arith, few, count, own_is)

  -- one of no slot has none
  pub session_few : (s : ℕ) → 1 ≤ s → length (session_own h s) ≤ (EXTENTS * EXTENT_RECORDS)
  session_few s low = by (session_own h s) refl
    where
      by : (l : List model.Change) → session_own h s ≡ l → length (session_own h s) ≤ (EXTENTS * EXTENT_RECORDS)
      by [] is = let e = ap (λ (z : List model.Change). length z) is in omega (arith, e)
      by (c ∷ more) is = let slot : (t : ℕ) × (t < SLOTS * h.shape.segments) × Owns h s t = stand.tell.has_slot s c more low is in own_few s slot.0 slot.2
