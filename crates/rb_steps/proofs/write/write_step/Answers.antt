use Rattle.std.proofs.Common.{◌≤◌, Bool, not, sym, ◌∙◌, ap, subst}
use Rattle.rb_write.specs.Asks.{AreYoung, MayWrite}
use Rattle.rb_write.specs.declared.ask.Ask.{Ask}
use Rattle.rb_base.specs.Logs.{Logs, group_of}
use Rattle.rb_base.specs.declared.shape.Shape.{Shape}
use Rattle.law_blocks.specs.Standing.{logged_of}
use Rattle.rb_steps.proofs.Calls.{done, failed_as, makes, refused_as}
use Rattle.rb_steps.proofs.May.{may_write}
use Rattle.rb_steps.proofs.Young.{young}
use Rattle.rb_steps.proofs.write.write_step.Goals as goal

pub returns-clause-gives : goal.returns-clause-gives
returns-clause-gives g c told h xids s about same s_in mine number =
    let s_of = g.S.Store in
    let old = c.args.store.now in
    let ask : Ask = c.args.ask.now in
    let are_young : AreYoung (s_of.shape_of old) (s_of.blocks old) = subst (λ (k : Shape). AreYoung k (s_of.blocks old)) (sym same) (young h xids (s_of.blocks old) about.stand) in
    let last : c.args.ask.now.table ≤ h.shape.tables = subst (λ (k : Shape). c.args.ask.now.table ≤ k.tables) same c.requires.table.1 in
    let call = c.attempt.ensures in
    done s_of told old c.attempt.new.store h xids s ask about same c.requires.table.0 last mine c.attempt.result call.logs.0 s_in number call.logs.1
    (call.written told (number ∙ ap (λ (k : Shape). logged_of k (s_of.blocks old)) (sym same)) are_young)
    (call.takes told are_young) call.numbers

pub returns-clause-refused : goal.returns-clause-refused
returns-clause-refused g c told going h xids s about same s_in mine =
    let s_of = g.S.Store in
    let old = c.args.store.now in
    let ask : Ask = c.args.ask.now in
    let are_young : AreYoung (s_of.shape_of old) (s_of.blocks old) = subst (λ (k : Shape). AreYoung k (s_of.blocks old)) (sym same) (young h xids (s_of.blocks old) about.stand) in
    let last : c.args.ask.now.table ≤ h.shape.tables = subst (λ (k : Shape). c.args.ask.now.table ≤ k.tables) same c.requires.table.1 in
    let may = subst (λ (k : Shape). MayWrite k (s_of.blocks old) c.args.ask.now.own) (sym same) (may_write h xids (s_of.blocks old) s c.args.ask.now.own about) in
    let call = c.attempt.ensures in
    refused_as s_of told old c.attempt.new.store h xids s ask about same c.requires.table.0 last mine c.attempt.result (call.cause told are_young may going)

pub returns-clause-failed : goal.returns-clause-failed
returns-clause-failed g c told fails h xids s about same s_in mine number =
    let s_of = g.S.Store in
    let old = c.args.store.now in
    let ask : Ask = c.args.ask.now in
    let are_young : AreYoung (s_of.shape_of old) (s_of.blocks old) = subst (λ (k : Shape). AreYoung k (s_of.blocks old)) (sym same) (young h xids (s_of.blocks old) about.stand) in
    let last : c.args.ask.now.table ≤ h.shape.tables = subst (λ (k : Shape). c.args.ask.now.table ≤ k.tables) same c.requires.table.1 in
    let group = c.attempt.ensures.group told (number ∙ ap (λ (k : Shape). logged_of k (s_of.blocks old)) (sym same)) are_young in
    failed_as s_of told old c.attempt.new.store h xids s ask about same c.requires.table.0 last mine group.0 (subst (λ (b : Bool). Logs s_of old c.attempt.new.store (group_of group.0) (not b)) fails group.1)
    (makes s_of told old c.attempt.new.store h xids s ask about same c.requires.table.0 last mine group.0 s_in number group.2)
