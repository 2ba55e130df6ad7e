use Rattle.std.proofs.Common.{◌≡◌, ◌↔◌, Bool, true, false, not, refl, subst, [], ◌∙◌}
use Rattle.std.proofs.lemmas.Bool.{iff_false, false≢true}
use Rattle.std.proofs.lemmas.Result.{IfOk-weaker}
use Rattle.std.specs.Result.{is_err}
use Rattle.rb_base.specs.Logs.{more_logs}
use Rattle.rb_segment.specs.Segments.{wrap_in}
use Rattle.rb_base.specs.declared.shape.Shape.{Shape}
use Rattle.rb_sound.specs.Active.{AreActive, CouldStand}
use Rattle.rb_sound.specs.Sound.{AreSound}
use Rattle.rb_sound.proofs.Together.{active_moved, all_sound, homes_by, homes_moved, segments_moved, wraps_moved}
use Rattle.rb_sound.proofs.blocks.blocks_sound.Goals as goal

pub returns-in_err-segments_sound-clause-logs : goal.returns-in_err-segments_sound-clause-logs
returns-in_err-segments_sound-clause-logs g c =
    let s = g.S.Store in
    let old = c.args.store.now in
    let first = c.in_ok-commit.ensures.logs in
    rw c.from_residual-in_err-segments_sound.ensures.0 (more_logs s old c.commit_scn_of.new.store c.segments_sound.new.store [] [] false first c.in_err-segments_sound.ensures.logs)

pub returns-then-not-branch-clause-logs : goal.returns-then-not-branch-clause-logs
returns-then-not-branch-clause-logs g c = more_logs g.S.Store c.args.store.now c.commit_scn_of.new.store c.segments_sound.new.store [] [] true c.in_ok-commit.ensures.logs c.in_ok-segments_sound.ensures.logs

pub returns-in_err-wraps_of-clause-logs : goal.returns-in_err-wraps_of-clause-logs
returns-in_err-wraps_of-clause-logs g c =
    let s = g.S.Store in
    let old = c.args.store.now in
    let first = c.in_ok-commit.ensures.logs in
    let second = more_logs s old c.commit_scn_of.new.store c.segments_sound.new.store [] [] true first c.in_ok-segments_sound.ensures.logs in
    rw c.from_residual-in_err-wraps_of.ensures.0 (more_logs s old c.segments_sound.new.store c.wraps_of.new.store [] [] false second c.in_err-wraps_of.ensures.logs)

pub returns-in_err-homes_sound-clause-logs : goal.returns-in_err-homes_sound-clause-logs
returns-in_err-homes_sound-clause-logs g c =
    let s = g.S.Store in
    let old = c.args.store.now in
    let first = c.in_ok-commit.ensures.logs in
    let second = more_logs s old c.commit_scn_of.new.store c.segments_sound.new.store [] [] true first c.in_ok-segments_sound.ensures.logs in
    let third = more_logs s old c.segments_sound.new.store c.wraps_of.new.store [] [] true second c.in_ok-wraps_of.ensures.logs in
    rw c.from_residual-in_err-homes_sound.ensures.0 (more_logs s old c.wraps_of.new.store c.homes_sound.new.store [] [] false third c.in_err-homes_sound.ensures.logs)

pub returns-then-not-branch-2-clause-logs : goal.returns-then-not-branch-2-clause-logs
returns-then-not-branch-2-clause-logs g c =
    let s = g.S.Store in
    let old = c.args.store.now in
    let first = c.in_ok-commit.ensures.logs in
    let second = more_logs s old c.commit_scn_of.new.store c.segments_sound.new.store [] [] true first c.in_ok-segments_sound.ensures.logs in
    let third = more_logs s old c.segments_sound.new.store c.wraps_of.new.store [] [] true second c.in_ok-wraps_of.ensures.logs in
    more_logs s old c.wraps_of.new.store c.homes_sound.new.store [] [] true third c.in_ok-homes_sound.ensures.logs

pub returns-clause-logs : goal.returns-clause-logs
returns-clause-logs g c =
    let s = g.S.Store in
    let old = c.args.store.now in
    let first = c.in_ok-commit.ensures.logs in
    let second = more_logs s old c.commit_scn_of.new.store c.segments_sound.new.store [] [] true first c.in_ok-segments_sound.ensures.logs in
    let third = more_logs s old c.segments_sound.new.store c.wraps_of.new.store [] [] true second c.in_ok-wraps_of.ensures.logs in
    let fourth = more_logs s old c.wraps_of.new.store c.homes_sound.new.store [] [] true third c.in_ok-homes_sound.ensures.logs in
    more_logs s old c.homes_sound.new.store c.active_sound.new.store [] [] (not (is_err c.active_sound.result)) fourth c.active_sound.ensures.logs

pub returns-then-not-branch-2-clause-told : goal.returns-then-not-branch-2-clause-told
returns-then-not-branch-2-clause-told g c told =
    let s = g.S.Store in
    let old = c.args.store.now in
    let first = c.in_ok-commit.ensures.logs in
    let second = more_logs s old c.commit_scn_of.new.store c.segments_sound.new.store [] [] true first c.in_ok-segments_sound.ensures.logs in
    let third = more_logs s old c.segments_sound.new.store c.wraps_of.new.store [] [] true second c.in_ok-wraps_of.ensures.logs in
    let shape = s.shape_of old in
    let blocks = s.blocks old in
    let commit = c.in_ok-commit.commit in
    let wraps = wrap_in c.in_ok-wraps_of.field-0 in
    let same = wraps_moved wraps _ shape _ blocks second.same_shape (second.blocks told refl) (c.in_ok-wraps_of.ensures.told told) in
    let moved = homes_moved commit wraps c.shape.result shape (s.blocks c.wraps_of.new.store) blocks (c.shape.ensures.shape ∙ second.same_shape) (third.blocks told refl) in (
      λ (e : false ≡ true). absurd (false≢true e),
      λ all. absurd (iff_false (c.in_ok-homes_sound.ensures.told told) c.if-not-branch-2.true (moved.1 (homes_by shape blocks commit wraps (c.in_ok-commit.ensures.told told) same all))),
    )

pub returns-clause-told : goal.returns-clause-told
returns-clause-told g c told =
    let s = g.S.Store in
    let old = c.args.store.now in
    let first = c.in_ok-commit.ensures.logs in
    let second = more_logs s old c.commit_scn_of.new.store c.segments_sound.new.store [] [] true first c.in_ok-segments_sound.ensures.logs in
    let third = more_logs s old c.segments_sound.new.store c.wraps_of.new.store [] [] true second c.in_ok-wraps_of.ensures.logs in
    let fourth = more_logs s old c.wraps_of.new.store c.homes_sound.new.store [] [] true third c.in_ok-homes_sound.ensures.logs in
    let shape = s.shape_of old in
    let blocks = s.blocks old in
    let commit = c.in_ok-commit.commit in
    let wraps = wrap_in c.in_ok-wraps_of.field-0 in
    let same = wraps_moved wraps _ shape _ blocks second.same_shape (second.blocks told refl) (c.in_ok-wraps_of.ensures.told told) in
    let moved = homes_moved commit wraps c.shape.result shape (s.blocks c.wraps_of.new.store) blocks (c.shape.ensures.shape ∙ second.same_shape) (third.blocks told refl) in
    let segments = segments_moved commit _ shape _ blocks first.same_shape (first.blocks told refl) ((c.in_ok-segments_sound.ensures.told told).0 c.if-not-branch.false) in
    let homes = moved.0 ((c.in_ok-homes_sound.ensures.told told).0 c.if-not-branch-2.false) in
    IfOk-weaker c.active_sound.result
    (λ (sound : Bool). sound ≡ true ↔ AreActive (CouldStand c.shape.result commit wraps) (s.shape_of c.homes_sound.new.store) (s.blocks c.homes_sound.new.store))
    (λ (sound : Bool). sound ≡ true ↔ AreSound shape blocks)
    (λ sound is. all_sound shape blocks commit wraps sound (c.in_ok-commit.ensures.told told) same segments homes (subst (λ (z : Shape). sound ≡ true ↔ AreActive (CouldStand z commit wraps) shape blocks) (c.shape.ensures.shape ∙ second.same_shape) (active_moved (CouldStand c.shape.result commit wraps) sound _ shape _ blocks fourth.same_shape (fourth.blocks told refl) is)))
    (c.active_sound.ensures.told told)
