use Rattle.std.proofs.Common.{◌+◌, ◌<◌, ◌∷◌, ℕ, [], List, arith, ap, subst, sym, ◌∙◌, refl, not}
use Rattle.std.proofs.lemmas.Result.{on_ok_weaker}
use Rattle.std.specs.Result.{is_err}
use Rattle.rb_base.proofs.Each.{all_so}
use Rattle.rb_base.specs.Blocks.{after_group, block_of, shape_blocks, written_to}
use Rattle.rb_base.specs.Groups.{Patch}
use Rattle.rb_base.specs.Logs.{Logs, apply_logs, more_logs}
use Rattle.rb_cleanout.proofs.Grouped.{copy_home, lengths_stay, of_block, one_group, others_stay}
use Rattle.rb_heap.specs.Cleaning.{IsCleanPatch}
use Rattle.rb_heap.specs.Homes.{home_of}
use Rattle.rb_heap.specs.Soundness.{StaysShort}
use Rattle.rb_cleanout.proofs.blocks.clean.Goals as goal

pub apply-requires-clause-within : goal.apply-requires-clause-within
apply-requires-clause-within g c =
    let s = g.S.Store in
    let plan = c.in_ok-plan_clean.ensures in
    let group = plan.some c.if-not-branch.false in
    all_so (IsCleanPatch c.args.no) (λ (p : Patch). p.block < shape_blocks (s.shape_of c.plan_clean.new.store)) c.plan_clean.new.workspace.group
    (λ p is. omega (arith, of_block c.args.no p is, c.requires.there, ap shape_blocks plan.logs.same_shape)) group.2

pub apply-requires-clause-some : goal.apply-requires-clause-some
apply-requires-clause-some g c = (c.in_ok-plan_clean.ensures.some c.if-not-branch.false).0

pub returns-clause-logs : goal.returns-clause-logs
returns-clause-logs g c =
    let s = g.S.Store in
    let old = c.args.store.now in
    let mid = c.plan_clean.new.store in
    let new = c.apply.new.self in
    let group = c.plan_clean.new.workspace.group in
    let plan = c.in_ok-plan_clean.ensures in
    let is = plan.some c.if-not-branch.false in
    let call = c.apply.ensures in
    let applied = apply_logs s mid new group c.apply.result call.shape call.slots call.failed call.counted call.lsn call.blocks call.settles call.any_moment call.holds_back in (
      group,
      is.2,
      subst (λ (l : List (List Patch)). Logs s old new l (not (is_err c.apply.result))) (one_group group is.0) (more_logs s old mid new [] (group ∷ []) (not (is_err c.apply.result)) plan.logs applied),
    )

pub returns-clause-cleaned : goal.returns-clause-cleaned
returns-clause-cleaned g c = λ told.
    let s = g.S.Store in
    let blocks = s.blocks c.args.store.now in
    let plan = c.in_ok-plan_clean.ensures in
    let group = c.plan_clean.new.workspace.group in
    let number = s.lsn c.plan_clean.new.store + 1 in
    on_ok_weaker c.apply.result (λ now. ap (λ (l : List (List ℕ)). home_of (block_of l c.args.no)) (now ∙ ap (after_group number group) (plan.logs.blocks told refl))
    ∙ copy_home number c.args.no group (plan.some c.if-not-branch.false).2 (s.shape_of c.args.store.now) blocks (written_to c.args.no group (block_of blocks c.args.no)) (plan.whole told) (omega (arith, c.requires.there)) (refl {a = written_to c.args.no group (block_of blocks c.args.no)})
    ∙ plan.plans told c.if-not-branch.false) (c.apply.ensures.blocks told)

pub returns-clause-others : goal.returns-clause-others
returns-clause-others g c = λ told.
    let s = g.S.Store in
    let blocks = s.blocks c.args.store.now in
    let plan = c.in_ok-plan_clean.ensures in
    let group = c.plan_clean.new.workspace.group in
    let number = s.lsn c.plan_clean.new.store + 1 in
    on_ok_weaker c.apply.result (λ now b differ. ap (λ (l : List (List ℕ)). block_of l b) (now ∙ ap (after_group number group) (plan.logs.blocks told refl))
    ∙ others_stay number c.args.no group (plan.some c.if-not-branch.false).2 blocks b differ) (c.apply.ensures.blocks told)

pub returns-clause-lengths : goal.returns-clause-lengths
returns-clause-lengths g c = λ told.
    let s = g.S.Store in
    let old = c.args.store.now in
    let plan = c.in_ok-plan_clean.ensures in
    let group = c.plan_clean.new.workspace.group in
    let number = s.lsn c.plan_clean.new.store + 1 in
    on_ok_weaker c.apply.result (λ now. subst (λ (l : List (List ℕ)). StaysShort (block_of (s.blocks old) c.args.no) (block_of l c.args.no)) (sym (now ∙ ap (after_group number group) (plan.logs.blocks told refl)))
    (lengths_stay number c.args.no group (plan.some c.if-not-branch.false).2 (s.shape_of old) (s.blocks old) (plan.whole told) (omega (arith, c.requires.there)))) (c.apply.ensures.blocks told)
