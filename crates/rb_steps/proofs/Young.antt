-- No number of blocks that stand is near the end of its type.
use Rattle.std.proofs.Common.{◌≡◌, ◌<◌, ◌≤◌, ◌+◌, ◌^◌, ℕ, List, sym, subst, arith}
use Rattle.rb_itl.specs.declared.slots.TheConstants.{ENTRIES}
use Rattle.rb_write.specs.Asks.{AreYoung, IsEntryYoung}
use Rattle.rb_base.specs.Blocks.{block_of, table_blocks}
use Rattle.rb_base.specs.declared.ids.Xid.{Xid}
use Rattle.rb_heap.specs.Homes.{home_entry, home_of}
use Rattle.rb_heap.specs.Soundness.{IsTaken}
use Rattle.rb_heap.proofs.Reading.{entry_read}
use Rattle.rb_itl.specs.Entries.{entry_at, free_entry}
use Rattle.rb_itl.specs.declared.slots.Entry.{Entry}
use Rattle.rb_model.specs.State.{State}
use Rattle.rb_segment.specs.Calls.{IsYoung}
use Rattle.rb_segment.specs.Header.{Segment, SegmentInOrder}
use Rattle.rb_segment.specs.Segments.{commit_scn}
use Rattle.rb_segment.proofs.Rooms.{live_few}
use Rattle.law_blocks.specs.Standing.{env_of, homes_of, logged_of, segments_of}
use Rattle.law_blocks.specs.States.{BlocksStand, lives_of, past_of}
use Rattle.law_blocks.specs.Values.{wraps_of}
use Rattle.law_blocks.proofs.SegmentRead.{header_is}
use Rattle.law_blocks.proofs.StandingWritten.{keeps_of, running_of}

module _ (h : State) (xids : List Xid) (blocks : List (List ℕ)) (stand : BlocksStand h xids blocks) where
  abbrev Segs : ℕ → Segment
  Segs = segments_of h.shape blocks

  abbrev Commit : ℕ
  Commit = commit_scn h.shape blocks

  abbrev Logged : ℕ
  Logged = logged_of h.shape blocks

  logged_few : Logged ≤ 2 ^ 60 + 2 ^ 13
  logged_few = let a = stand.standing.ahead in omega (arith, a)

  header_young : (g : ℕ) → g < h.shape.segments → IsYoung (Segs g).header
  header_young g g_in = record {
    writes = let w = order.numbers.writes in let l = logged_few in omega (arith, w, l);
    wraps = λ i few. let w = (order.numbers.slots i few).wrap in let l = logged_few in omega (arith, w, l);
    lives = λ i few active.
        let keeps = keeps_of h.shape Commit Logged Segs (homes_of h.shape blocks) (past_of h xids) (lives_of h (env_of h.shape blocks)) stand.standing.stands stand.tell.running g g_in i active in
        let runs = running_of h.shape Commit Logged Segs (homes_of h.shape blocks) (past_of h xids) (lives_of h (env_of h.shape blocks)) stand.standing.stands stand.tell.running g g_in i active in
        let n = live_few Commit Logged (Segs g) i order keeps runs in
        omega (arith, n);
    head = let a = order.header.ring.1.head_within in let b = order.header.ring.1.few in omega (arith, a, b);
    turn = let c = order.numbers.count in let w = order.numbers.writes in let l = logged_few in omega (arith, c, w, l);
  }
    where
      order : SegmentInOrder Commit Logged (Segs g)
      order = stand.standing.stands.in_order g g_in

  entry_young : (b i : ℕ) → b < table_blocks h.shape → i < ENTRIES → (entry_at (block_of blocks b) i).kind ≡ 1 → IsEntryYoung h.shape (entry_at (block_of blocks b) i)
  entry_young b i b_in few opened =
      let taken : IsTaken h.shape Commit (wraps_of Segs) (entry_at (block_of blocks b) i) = ((stand.standing.homes_sound b b_in).entries i few).taken (λ free. omega (arith, free, opened)) in
      record { seg = taken.segment; slot = taken.slot; chain = let c = taken.chain.1 in omega (arith, c) }

  pub young : AreYoung h.shape blocks
  young = record {
    headers = λ g g_in. subst IsYoung (header_is h.shape blocks g) (header_young g g_in);
    entries = λ b i b_in few.
        let read : home_entry (home_of (block_of blocks b)) i ≡ entry_at (block_of blocks b) i = entry_read (block_of blocks b) i free_entry few in
        subst (λ (e : Entry). e.kind ≡ 1 → IsEntryYoung h.shape e) (sym read) (entry_young b i b_in few);
  }
