use Rattle.std.proofs.Common.{◌≡◌, ◌≢◌, ℕ, ◌≤◌, [], ◌++◌, length, take, Ok, refl, sym, ◌∙◌, ap, subst, arith}
use Rattle.std.proofs.lemmas.List.{length-take-le}
use Rattle.rb_model.specs.Out.{outside_by}
use Rattle.rb_lines.specs.declared.lines.LinesEnd.{LinesEnd}
use Rattle.rb_lines.specs.declared.lines.LinesEnd.TheVariants.{Done}
use Rattle.rb_lines.specs.declared.runner.StepFault.{StepFault}
use Rattle.rb_lines.specs.declared.runner.StepFault.TheVariants.{Disk, Sink}
use Rattle.rb_lines.specs.Ends.{EndsAs, end_of}
use Rattle.rb_lines.specs.Pieces.{rest_from}
use Rattle.rb_lines.specs.Ran.{Did}
use Rattle.rb_lines.proofs.Dids.{did_as, did_on}
use Rattle.rb_lines.proofs.Parts.{part_start, part_more, part_end, part_whole, part_took, last_fails, piece_fails}
use Rattle.rb_lines.proofs.lines.run_lines.Goals as goal

-- lines that end by a fault didn't come to their end
not_done : (fault : StepFault) (end : LinesEnd) → end ≡ end_of fault → end ≢ Done
not_done Disk end is done = cc
not_done Sink end is done = cc

pub loop-room-init : goal.loop-room-init
loop-room-init g c = record {
  buffer = refl;
  some = c.requires.buffer;
  room = omega arith;
  part = λ t. part_start _ _ c.args.runner.now _ g.K.Sink.tells _ _ _ (λ m is going. g.met.M.LineRunner.since_same c.args.runner.now m is going) c.new-partial.ensures;
  line = [];
  held = c.new-partial.ensures;
  passed = λ m is going. record { now = m; reached = is; passed = g.met.M.LineRunner.since_same c.args.runner.now m is going; ran = going };
  source = refl;
  disk = refl;
  sink = refl;
}

pub returns-in_default-clause-did : goal.returns-in_default-clause-did
returns-in_default-clause-did g c = λ t m is going.
    let p = c.loop-room.invariant.part t in
    let d = part_whole _ _ _ _ m _ g.K.Sink.tells _ _ _ _ _ _ c.loop-room.room p (c.in_default.ensures.none t) is going in
    record { now = d.now; reached = d.reached; passed = d.passed; ran = (p.taken, d.ran) }

pub returns-in-Ok-finish-clause-did : goal.returns-in-Ok-finish-clause-did
returns-in-Ok-finish-clause-did g c = λ t m is going.
    let i = c.loop-room.invariant in
    let p = i.part t in
    part_end _ _ _ _ _ m _ g.K.Sink.tells _ _ _ _ _ _ c.loop-room.room (Ok tt) g.met.M.LineRunner.since_joined p (c.in-Ok.ensures.end t c.if-count-eq0.true) is going
    (λ k reached on. c.in-Ok-finish.ensures.did k (rest_from [] p.taken) reached on p.rest)

pub returns-in-Err-clause-did : goal.returns-in-Err-clause-did
returns-in-Err-clause-did g c = λ t m is going.
    let i = c.loop-room.invariant in
    let p = i.part t in
    let none = c.in-Ok.ensures.end t c.if-count-eq0.true in
    subst (λ (end : LinesEnd). Did g.M.LineRunner.stands g.M.LineRunner.since c.args.runner.now c.finish.new.runner m (λ now. EndsAs (outside_by g.M.LineRunner.worn g.M.LineRunner.back g.M.LineRunner.makes) (length c.args.buffer.now) m now (g.S.Source.left c.args.source.now) (g.S.Source.left c.take_bytes.new.source) g.K.Sink.tells (g.K.Sink.held c.args.sink.now) (g.K.Sink.held c.finish.new.sink) end)) (sym c.from.ensures)
    (last_fails _ _ _ _ _ m _ _ g.K.Sink.tells _ _ _ _ _ _ _ c.loop-room.room c.in-Err.fault g.met.M.LineRunner.since_joined p none (c.in-Ok.ensures.taken t ∙ ap (λ (n : ℕ). take n c.take_bytes.new.buffer ++ g.S.Source.left c.take_bytes.new.source) c.if-count-eq0.true) is going
    (λ k reached on. c.in-Err.ensures.did k (rest_from [] p.taken) reached on p.rest))

pub loop-room-preserved : goal.loop-room-preserved
loop-room-preserved g c =
    let i = c.loop-room.invariant in
    let f = c.in_default-feed.ensures in
    let o = c.in-Ok.ensures in
    let size : length (take c.in-Ok.count c.take_bytes.new.buffer) ≡ c.in-Ok.count = length-take-le c.in-Ok.count c.take_bytes.new.buffer o.buffer in
    record {
      buffer = c.take_bytes.auto.buffer ∙ i.buffer;
      some = omega (arith, c.take_bytes.auto.buffer, i.some);
      room = omega (arith, i.room);
      part = λ t. let p = i.part t in
          part_more _ _ _ _ _ _ g.K.Sink.tells _ _ _ _ _ _ _ _ c.loop-room.room c.in-Ok.count (take c.in-Ok.count c.take_bytes.new.buffer) g.met.M.LineRunner.since_joined p o.room size (o.taken t)
          (λ k reached on. f.did k (rest_from [] p.taken) reached on p.rest) (f.kept (rest_from [] p.taken) p.rest);
      line = rest_from i.line (take c.in-Ok.count c.take_bytes.new.buffer);
      held = f.kept i.line i.held;
      passed = λ m is going. did_on _ _ _ m _ _ _ g.met.M.LineRunner.since_joined (i.passed m is going) (λ n on. on) (λ n reached on. f.did n i.line reached on i.held) (λ n k on so. so.1);
      source = o.counted.still ∙ i.source;
      disk = f.disk.still refl refl ∙ i.disk;
      sink = f.sink.still refl ∙ i.sink;
    }

pub returns-in-Err-feed-clause-did : goal.returns-in-Err-feed-clause-did
returns-in-Err-feed-clause-did g c = λ t m is going.
    let i = c.loop-room.invariant in
    let o = c.in-Ok.ensures in
    let p = i.part t in
    let size : length (take c.in-Ok.count c.take_bytes.new.buffer) ≤ length c.args.buffer.now = omega (arith, length-take-le c.in-Ok.count c.take_bytes.new.buffer o.buffer, o.buffer, c.take_bytes.auto.buffer, i.buffer) in
    subst (λ (end : LinesEnd). Did g.M.LineRunner.stands g.M.LineRunner.since c.args.runner.now c.feed.new.runner m (λ now. EndsAs (outside_by g.M.LineRunner.worn g.M.LineRunner.back g.M.LineRunner.makes) (length c.args.buffer.now) m now (g.S.Source.left c.args.source.now) (g.S.Source.left c.take_bytes.new.source) g.K.Sink.tells (g.K.Sink.held c.args.sink.now) (g.K.Sink.held c.feed.new.sink) end)) (sym c.from-in-Err-feed.ensures)
    (piece_fails _ _ _ _ _ m _ _ g.K.Sink.tells _ _ _ _ _ _ _ c.loop-room.room (take c.in-Ok.count c.take_bytes.new.buffer) c.in-Err-feed.fault g.met.M.LineRunner.since_joined p size (o.taken t) is going
    (λ k reached on. c.in-Err-feed.ensures.did k (rest_from [] p.taken) reached on p.rest))

pub returns-in-Err-feed-clause-took : goal.returns-in-Err-feed-clause-took
returns-in-Err-feed-clause-took g c = λ t.
    let o = c.in-Ok.ensures in
    let size : length (take c.in-Ok.count c.take_bytes.new.buffer) ≤ c.loop-room.room = omega (arith, length-take-le c.in-Ok.count c.take_bytes.new.buffer o.buffer, o.room) in
    part_took _ _ _ _ _ g.K.Sink.tells _ _ _ _ _ _ _ (take c.in-Ok.count c.take_bytes.new.buffer) (c.loop-room.invariant.part t) size (o.taken t)

pub returns-clause-did : goal.returns-clause-did
returns-clause-did g c = λ t m is going.
    let p = c.loop-room.invariant.part t in
    let size : length p.taken ≡ 1000000000 = omega (arith, p.size) in
    let d = part_whole _ _ _ _ m _ g.K.Sink.tells _ _ _ _ _ _ c.loop-room.room p refl is going in
    record { now = d.now; reached = d.reached; passed = d.passed; ran = (p.taken, size, d.ran) }

pub returns-in_default-clause-passed : goal.returns-in_default-clause-passed
returns-in_default-clause-passed g c = λ m is going. did_as _ _ m _ _ (λ n on done. on) (c.loop-room.invariant.passed m is going)

pub returns-in-Ok-finish-clause-passed : goal.returns-in-Ok-finish-clause-passed
returns-in-Ok-finish-clause-passed g c = λ m is going.
    let i = c.loop-room.invariant in
    did_on _ _ _ m _ _ _ g.met.M.LineRunner.since_joined (i.passed m is going) (λ n on. on) (λ n reached on. c.in-Ok-finish.ensures.did n i.line reached on i.held) (λ n k on so done. so.1)

pub returns-in-Err-clause-passed : goal.returns-in-Err-clause-passed
returns-in-Err-clause-passed g c = λ m is going.
    let i = c.loop-room.invariant in
    did_on _ _ _ m _ _ _ g.met.M.LineRunner.since_joined (i.passed m is going) (λ n on. on) (λ n reached on. c.in-Err.ensures.did n i.line reached on i.held) (λ n k on so done. absurd (not_done c.in-Err.fault _ c.from.ensures done))

pub returns-in-Err-feed-clause-passed : goal.returns-in-Err-feed-clause-passed
returns-in-Err-feed-clause-passed g c = λ m is going.
    let i = c.loop-room.invariant in
    did_on _ _ _ m _ _ _ g.met.M.LineRunner.since_joined (i.passed m is going) (λ n on. on) (λ n reached on. c.in-Err-feed.ensures.did n i.line reached on i.held) (λ n k on so done. absurd (not_done c.in-Err-feed.fault _ c.from-in-Err-feed.ensures done))

pub returns-clause-passed : goal.returns-clause-passed
returns-clause-passed g c = λ m is going. did_as _ _ m _ _ (λ n on done. on) (c.loop-room.invariant.passed m is going)
