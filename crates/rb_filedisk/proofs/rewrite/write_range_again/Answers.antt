use Rattle.std.proofs.Common.{ℕ, ◌+◌, ◌<◌, ◌≤◌, inl, inr, length, take, ⊎_elim, sym, ◌∙◌, ap, arith, rules}
use Rattle.std.specs.Prelude.{Result, Ok, Err, is_ok, OnOk}
use Rattle.rb_rawfile.specs.RawModel.{IsOf}
use Rattle.rb_filedisk.specs.Unsynced.{Has}
use Rattle.std.proofs.lemmas.Bool.{cases_lt, false≢true}
use Rattle.std.proofs.lemmas.List.{length-append, length-drop, length-take}
use Rattle.rb_filedisk.specs.Faults.{lost_of}
use Rattle.rb_filedisk.proofs.FaultLemmas.{others_piece, pieces_fewer, pieces_none, tells_call, tells_more, tells_none}
use Rattle.rb_filedisk.proofs.KeepLemmas.{rests_none, rests_more, on_ok}
use Rattle.rb_filedisk.proofs.rewrite.write_range_again.Goals.{then-is_ok, else-is_ok}
use Rattle.rb_filedisk.proofs.rewrite.write_range_again.Goals as goal

pub loop-at-init : goal.loop-at-init
loop-at-init g c = record {
  rests = λ told. rests_none g.F.RawFile c.args.file.now;
  begun = omega arith;
  wide = search rules;
  found = λ told all place gone. absurd (omega (arith, gone.0, gone.1));
  counted = λ told. tells_none (g.F.RawFile.faults c.args.file.now);
  others = λ told n rose. pieces_none n _ (λ place gone. absurd (omega (arith, gone.0, gone.1)));
}

pub write_piece_again-requires : goal.write_piece_again-requires
write_piece_again-requires g c told =
    let same = (c.loop-at.invariant.rests told).stays.same in
    omega (arith, length-take c.min-count.result c.loop-at.piece, c.requires told, ap length same)

-- what follows of what is said of an Ok
said : {T E : Type 0} (r : Result T E) (P Q : Type 0) → (P → Q) → OnOk r P → OnOk r Q
said (Ok x) P Q so has = so has
said (Err e) P Q so none = none

pub loop-at-preserved : goal.loop-at-preserved
loop-at-preserved g c =
    let f = g.F.RawFile in
    let was = c.loop-at.invariant in
    let did = c.write_piece_again.ensures in
    let taken = length-take c.min-count.result c.loop-at.piece in
    let before = lost_of (λ place. c.args.range.start ≤ place) c.loop-at.at (f.lost c.loop-at.file) in
    let now = lost_of (λ place. c.args.range.start ≤ place) (c.loop-at.at + c.min-count.result) (f.lost c.write_piece_again.new.file) in
    record {
      rests = λ told. rests_more f _ _ _ (was.rests told) (did.rests told);
      begun = omega arith;
      wide = simp (length-append, length-drop) (omega (arith, c.write_piece_again.auto.piece, taken, was.wide));
      found = λ told all place gone.
          elim c.if-is_ok.branch [
            | then-is_ok w ↦
                ⊎_elim (λ (lt : place < c.loop-at.at). was.found told (sym w.all-is ∙ all) place (gone.0, lt, (did.rests told).losses place gone.2))
                (λ (ge : c.loop-at.at ≤ place).
                on_ok c.write_piece_again.result (sym c.is_ok.ensures.value ∙ w.if-is_ok.true) (did.found told) place (ge, omega (arith, taken, gone.1, was.wide)) gone.2)
                (cases_lt place c.loop-at.at)
            | else-is_ok w ↦ absurd (false≢true (sym (w.all-is ∙ w.if-is_ok.false) ∙ all))
          ];
      counted = λ told.
          tells_more (f.faults c.args.file.now) (f.faults c.loop-at.file) (f.faults c.write_piece_again.new.file) c.loop-at.all (is_ok c.write_piece_again.result) _
          (was.counted told) (tells_call c.write_piece_again.result (f.faults c.loop-at.file) (f.faults c.write_piece_again.new.file) (did.faulted told) (did.no_fault told))
          (λ bad.
          elim c.if-is_ok.branch [
            | then-is_ok w ↦ inl (sym w.all-is ∙ bad)
            | else-is_ok w ↦ inr (sym c.is_ok.ensures.value ∙ w.if-is_ok.false)
          ]);
      others = λ told n rose.
          others_piece c.write_piece_again.result (f.faults c.args.file.now) (f.faults c.loop-at.file) (f.faults c.write_piece_again.new.file) n c.loop-at.at before now
          (was.counted told).no_less (did.faulted told) (did.no_fault told) (was.others told)
          (said c.write_piece_again.result ((place : ℕ) → IsOf c.loop-at.at (length (take c.min-count.result c.loop-at.piece)) place → f.lost c.write_piece_again.new.file place → ⊥)
          ((place : ℕ) → now place → before place)
          (λ found place gone.
          ⊎_elim (λ (lt : place < c.loop-at.at). (gone.0, lt, (did.rests told).losses place gone.2))
          (λ (ge : c.loop-at.at ≤ place). absurd (found place (ge, omega (arith, taken, gone.1, was.wide)) gone.2)) (cases_lt place c.loop-at.at))
          (did.found told))
          (λ place gone.
          ⊎_elim (λ (lt : place < c.loop-at.at). inl (gone.0, lt, (did.rests told).losses place gone.2))
          (λ (ge : c.loop-at.at ≤ place). inr (ge, omega (arith, gone.1))) (cases_lt place c.loop-at.at))
          rose;
    }

pub returns : goal.returns
returns g c =
    let f = g.F.RawFile in
    let was = c.loop-at.invariant in
    record {
      rests = was.rests;
      found = λ told all place gone. was.found told all place (gone.0.0, omega (arith, gone.0.1, gone.1), gone.2);
      counted = was.counted;
      others = λ told n rose.
          pieces_fewer n (lost_of (λ place. c.args.range.start ≤ place) c.loop-at.at (f.lost c.loop-at.file)) (lost_of (Has c.args.range) c.args.len (f.lost c.loop-at.file))
          (λ place gone. (gone.0.0, omega (arith, gone.0.1, gone.1), gone.2)) (was.others told n rose);
    }
