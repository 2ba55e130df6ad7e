-- The ranges gone over are found, as far as all of them were, and behind each fault at most one piece stays lost.
use Rattle.std.proofs.Common.{◌≡◌, ℕ, true, take}
use Rattle.rb_filedisk.specs.Faults.{InPieces, RoseBy, Tells, lost_of}
use Rattle.rb_filedisk.specs.Rests.{Rests}
use Rattle.rb_filedisk.specs.Unsynced.{ranges_of, HasOne}
use Rattle.rb_filedisk.proofs.unsynced.Unsynced.write_again.Given as goal

abbrev pub invariant-loop-range : goal.invariant-loop-range
invariant-loop-range g l =
    let f = g.F.RawFile in
    let gone = lost_of (HasOne (take l.range-index (ranges_of l.fn.self))) l.fn.len (f.lost l.file) in
    record {
      rests : f.tells → Rests f l.fn.file l.file;
      found : f.tells → l.all ≡ true → (place : ℕ) → gone place → ⊥;
      counted : f.tells → Tells (f.faults l.fn.file) (f.faults l.file) l.all;
      others : f.tells → (n : ℕ) → RoseBy n (f.faults l.fn.file) (f.faults l.file) → InPieces n gone;
    }
