use Rattle.std.proofs.Common.{◌≡◌, ◌∙◌, ℕ, List, [], true, false, refl, sym, subst, below_more}
use Rattle.rb_base.specs.Logs.{more_logs}
use Rattle.rb_dead.specs.Entries.{IsDeadEntry, entry_at}
use Rattle.rb_dead.proofs.Moving.{moved, not_some}
use Rattle.rb_dead.proofs.home.first_dead.Goals as goal

pub returns-in_err-first-clause-logs : goal.returns-in_err-first-clause-logs
returns-in_err-first-clause-logs g c =
    rw c.from_residual.ensures.0 (more_logs g.S.Store c.args.store.now c.loop-i.store c.dead_entry.new.store [] [] false c.loop-i.invariant.logs c.in_err-first.ensures.logs)

pub returns-then-is_some-clause-logs : goal.returns-then-is_some-clause-logs
returns-then-is_some-clause-logs g c = more_logs g.S.Store c.args.store.now c.loop-i.store c.dead_entry.new.store [] [] true c.loop-i.invariant.logs c.in_ok-first.ensures.logs

pub loop-i-preserved : goal.loop-i-preserved
loop-i-preserved g c =
    let s = g.S.Store in
    let old = c.args.store.now in
    let mid = c.loop-i.store in
    let inv = c.loop-i.invariant in
    record {
      logs = more_logs s old mid c.dead_entry.new.store [] [] true inv.logs c.in_ok-first.ensures.logs;
      sessions = refl;
      none = λ told.
          let blocks : s.blocks mid ≡ s.blocks old = inv.logs.blocks told refl in
          let here : ¬ IsDeadEntry c.args.sessions.now (s.shape_of old) (s.blocks old) (entry_at (s.blocks old) c.args.no c.loop-i.i) = subst (λ (b : List (List ℕ)). ¬ IsDeadEntry c.args.sessions.now (s.shape_of old) b (entry_at b c.args.no c.loop-i.i)) blocks
          (λ dead. c.in_ok-first.ensures.none told (not_some c.in_ok-first.first (sym c.is_some.ensures ∙ c.if-is_some.false))
          (moved c.args.sessions.now (s.shape_of old) (s.shape_of mid) (s.blocks mid) (s.blocks mid) (entry_at (s.blocks mid) c.args.no c.loop-i.i) (entry_at (s.blocks mid) c.args.no c.loop-i.i) (sym inv.logs.same_shape) refl refl dead)) in
          below_more (λ (j : ℕ). ¬ IsDeadEntry c.args.sessions.now (s.shape_of old) (s.blocks old) (entry_at (s.blocks old) c.args.no j)) c.loop-i.i (inv.none told) here;
    }
