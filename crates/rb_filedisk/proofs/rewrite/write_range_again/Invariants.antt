-- Each turn goes on by a piece, so less of the range is left. What was gone over is found, as far as all of it was, and
-- behind each fault at most one piece stays lost.
use Rattle.std.proofs.Common.{◌≡◌, ℕ, ◌-◌, ◌≤◌, true, length}
use Rattle.rb_filedisk.specs.Faults.{InPieces, RoseBy, Tells, lost_of}
use Rattle.rb_filedisk.specs.Rests.{Rests}
use Rattle.rb_filedisk.proofs.rewrite.write_range_again.Given as goal

abbrev pub decreases-loop-at : goal.decreases-loop-at
decreases-loop-at g l = l.end - l.at

abbrev pub invariant-loop-at : goal.invariant-loop-at
invariant-loop-at g l =
    let f = g.F.RawFile in
    let gone = lost_of (λ place. l.fn.range.start ≤ place) l.at (f.lost l.file) in
    record {
      rests : f.tells → Rests f l.fn.file l.file;
      begun : l.fn.range.start ≤ l.at;
      wide : length l.piece ≡ 4096;
      found : f.tells → l.all ≡ true → (place : ℕ) → gone place → ⊥;
      counted : f.tells → Tells (f.faults l.fn.file) (f.faults l.file) l.all;
      others : f.tells → (n : ℕ) → RoseBy n (f.faults l.fn.file) (f.faults l.file) → InPieces n gone;
    }
