-- The blocks of a file that stand for the machine's state do so as segments and homes; and a file's commit number is at
-- most its log number.
use Rattle.std.proofs.Common.{◌≤◌, ◌/◌, ◌%◌, ℕ, List, arith}
use Rattle.std.proofs.Math.Nat.{div-add-mod}
use Rattle.rb_base.specs.declared.sizes.TheConstants.{SLOTS}
use Rattle.rb_base.specs.declared.ids.Xid.{Xid}
use Rattle.rb_base.specs.declared.shape.Shape.{Shape}
use Rattle.rb_model.specs.State.{State}
use Rattle.rb_segment.specs.Segments.{commit_scn}
use Rattle.law_blocks.specs.Standing.{Standing, logged_of, segments_of, homes_of}
use Rattle.law_blocks.specs.States.{BlocksStand, BlocksStandAs}
use Rattle.law_blocks.specs.Values.{Past}
use Rattle.law_home.specs.Walk.{Change}
use Rattle.law_blocks.proofs.SegmentRead.{scn_least}

pub blocks_as : (h : State) (xids : List Xid) (blocks : List (List ℕ)) → BlocksStand h xids blocks → BlocksStandAs h xids (commit_scn h.shape blocks) (logged_of h.shape blocks) (segments_of h.shape blocks) (homes_of h.shape blocks)
blocks_as h xids blocks stand = record { tell = stand.tell; stands = stand.standing.stands }

-- each slot's newest is at most the log number
pub commit_logged : (shape : Shape) (blocks : List (List ℕ)) (past : Past) (lives : List (List Change)) → Standing shape blocks past lives → commit_scn shape blocks ≤ logged_of shape blocks
commit_logged shape blocks past lives stand = scn_least shape blocks (logged_of shape blocks) (λ t t_in.
    let a = div-add-mod t SLOTS in
    ((stand.stands.in_order (t / SLOTS) (omega (arith, a, t_in))).numbers.slots (t % SLOTS) (omega arith)).newest)
