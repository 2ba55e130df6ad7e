use Rattle.std.proofs.Common.{◌≡◌, ◌<◌, ◌+◌, ◌^◌, ◌∷◌, inl, ℕ, not, List, [], refl, sym, ◌∙◌, ap, subst, arith}
use Rattle.std.proofs.lemmas.Result.{on_ok_weaker}
use Rattle.std.specs.Prelude.{OnOk}
use Rattle.std.specs.Result.{is_err}
use Rattle.rb_base.proofs.Each.{all_so}
use Rattle.rb_base.specs.Blocks.{after_group, block_of, shape_blocks, table_blocks}
use Rattle.rb_base.specs.Groups.{Patch}
use Rattle.rb_base.specs.Logs.{Logs, apply_logs, more_logs, no_logs}
use Rattle.rb_base.specs.declared.shape.Shape.{Shape}
use Rattle.rb_cleanout.proofs.Grouped.{of_block}
use Rattle.rb_cleanout.specs.Cleaned.{PlansClean, look_of}
use Rattle.rb_heap.specs.Cleaning.{IsCleanPatch, cleaned_home}
use Rattle.rb_heap.specs.Homes.{home_of}
use Rattle.law_crash.specs.Made.{CleanMade}
use Rattle.rb_model.specs.State.{State}
use Rattle.law_blocks.specs.Standing.{logged_of}
use Rattle.rb_steps.proofs.Cleaned.{clean_made, home_after, home_is_clean}
use Rattle.rb_steps.proofs.Still.{NothingLeft, still_after, still_as}
use Rattle.rb_steps.proofs.clean.clean_step.Given.{Over}
use Rattle.rb_steps.proofs.clean.clean_step.Goals as goal

-- what was planned over a store's shape, over that of the state
of_shape : (shape : Shape) (h : State) (blocks : List (List ℕ)) (b : ℕ) (patches : List Patch) → shape ≡ h.shape → PlansClean (look_of shape blocks) b patches (block_of blocks b) → PlansClean (look_of h.shape blocks) b patches (block_of blocks b)
of_shape shape h blocks b patches same plans = subst (λ (k : Shape). PlansClean (look_of k blocks) b patches (block_of blocks b)) same plans

pub returns-then-logged-ge-WORN-clause-logs : goal.returns-then-logged-ge-WORN-clause-logs
returns-then-logged-ge-WORN-clause-logs g c = ([], no_logs g.S.Store c.args.store.now c.requires.going, omega arith)

-- there was nothing to clean
pub returns-then-not-branch-clause-cleaned : goal.returns-then-not-branch-clause-cleaned
returns-then-not-branch-clause-cleaned g c = λ told h xids shape holds young.
    let s = g.S.Store in
    let blocks = s.blocks c.args.store.now in
    let plan = c.in_ok-plan_clean.ensures in
    let there : c.args.no < table_blocks h.shape = omega (arith, c.requires.there, ap table_blocks shape) in
    let clean : cleaned_home (look_of (s.shape_of c.args.store.now) blocks) (home_of (block_of blocks c.args.no)) ≡ home_of (block_of blocks c.args.no) = plan.none told c.if-not-branch.true in
    ap (λ (l : List (List ℕ)). home_of (block_of l c.args.no)) (plan.logs.blocks told refl)
    ∙ home_is_clean h xids blocks holds.blocks c.args.no there (subst (λ (k : Shape). cleaned_home (look_of k blocks) (home_of (block_of blocks c.args.no)) ≡ home_of (block_of blocks c.args.no)) shape clean)

-- so nothing is left to clean, by the headers as they are read
nothing_left : (g : Over) (c : goal.Then-not-branch g) → g.S.Store.tells → NothingLeft (g.S.Store.shape_of c.plan_clean.new.store) (g.S.Store.blocks c.plan_clean.new.store) c.args.no
nothing_left g c = λ told.
    let s = g.S.Store in
    let plan = c.in_ok-plan_clean.ensures in
    still_as (s.shape_of c.args.store.now) (s.shape_of c.plan_clean.new.store) (s.blocks c.args.store.now) (s.blocks c.plan_clean.new.store) c.args.no plan.logs.same_shape (plan.logs.blocks told refl) (plan.none told c.if-not-branch.true)

-- the group is given
pub apply-requires-clause-within : goal.apply-requires-clause-within
apply-requires-clause-within g c =
    let s = g.S.Store in
    all_so (IsCleanPatch c.args.no) (λ (p : Patch). p.block < shape_blocks (s.shape_of c.plan_clean.new.store)) c.plan_clean.new.workspace.group
    (λ p is. omega (arith, of_block c.args.no p is, c.requires.there, ap shape_blocks c.in_ok-plan_clean.ensures.logs.same_shape)) (c.in_ok-plan_clean.ensures.some c.if-not-branch.false).2

pub apply-requires-clause-some : goal.apply-requires-clause-some
apply-requires-clause-some g c = (c.in_ok-plan_clean.ensures.some c.if-not-branch.false).0

given : (g : Over) (c : goal.After-apply g) → Logs g.S.Store c.args.store.now c.apply.new.self (c.plan_clean.new.workspace.group ∷ []) (not (is_err c.apply.result))
given g c =
    let s = g.S.Store in
    let call = c.apply.ensures in
    more_logs s c.args.store.now c.plan_clean.new.store c.apply.new.self [] (c.plan_clean.new.workspace.group ∷ []) (not (is_err c.apply.result)) c.in_ok-plan_clean.ensures.logs
    (apply_logs s c.plan_clean.new.store c.apply.new.self c.plan_clean.new.workspace.group c.apply.result call.shape call.slots call.failed call.counted call.lsn call.blocks call.settles call.any_moment call.holds_back)

pub returns-clause-logs : goal.returns-clause-logs
returns-clause-logs g c = (c.plan_clean.new.workspace.group ∷ [], given g c, omega arith)

pub returns-clause-gives : goal.returns-clause-gives
returns-clause-gives g c = λ told h xids shape holds.
    let s = g.S.Store in
    let old = c.args.store.now in
    let group = c.plan_clean.new.workspace.group in
    let plan = c.in_ok-plan_clean.ensures in
    let there : c.args.no < table_blocks h.shape = omega (arith, c.requires.there, ap table_blocks shape) in
    let is = plan.some c.if-not-branch.false in
    let plans = plan.plans told c.if-not-branch.false in
    let young : logged_of h.shape (s.blocks old) < 2 ^ 60 = omega (arith, holds.logged, c.logged.ensures, c.if-logged-ge-WORN.false) in
    inl (record {
      groups = group ∷ [];
      logs = given g c;
      few = omega arith;
      one = λ goes. refl;
      made = λ any. subst (λ (n : ℕ). CleanMade h xids c.args.no (s.blocks old) (after_group (n + 1) group (s.blocks old))) (sym holds.logged)
          (clean_made h xids (s.blocks old) holds.blocks c.args.no there group is.2 (of_shape (s.shape_of old) h (s.blocks old) c.args.no group shape plans) is.1 is.0 young);
    })

pub returns-clause-cleaned : goal.returns-clause-cleaned
returns-clause-cleaned g c = λ told h xids shape holds young.
    let s = g.S.Store in
    let old = c.args.store.now in
    let mid = c.plan_clean.new.store in
    let group = c.plan_clean.new.workspace.group in
    let plan = c.in_ok-plan_clean.ensures in
    let there : c.args.no < table_blocks h.shape = omega (arith, c.requires.there, ap table_blocks shape) in
    let is = plan.some c.if-not-branch.false in
    let plans = plan.plans told c.if-not-branch.false in
    on_ok_weaker c.apply.result
    (λ now. ap (λ (l : List (List ℕ)). home_of (block_of l c.args.no)) (now ∙ ap (after_group (s.lsn mid + 1) group) (plan.logs.blocks told refl))
    ∙ home_after h xids (s.blocks old) holds.blocks c.args.no there group is.2 (of_shape (s.shape_of old) h (s.blocks old) c.args.no group shape plans) (s.lsn mid + 1))
    (c.apply.ensures.blocks told)

-- and nothing is left to clean behind it, by the headers as they are read
group_left : (g : Over) (c : goal.After-apply g) → g.S.Store.tells → OnOk c.apply.result (NothingLeft (g.S.Store.shape_of c.apply.new.self) (g.S.Store.blocks c.apply.new.self) c.args.no)
group_left g c = λ told.
    let s = g.S.Store in
    let old = c.args.store.now in
    let new = c.apply.new.self in
    let group = c.plan_clean.new.workspace.group in
    let number = s.lsn c.plan_clean.new.store + 1 in
    let plan = c.in_ok-plan_clean.ensures in
    on_ok_weaker c.apply.result
    (λ now. still_as (s.shape_of old) (s.shape_of new) (after_group number group (s.blocks old)) (s.blocks new) c.args.no (c.apply.ensures.shape ∙ plan.logs.same_shape) (now ∙ ap (after_group number group) (plan.logs.blocks told refl))
    (still_after (s.shape_of old) (s.blocks old) (plan.whole told) c.args.no c.requires.there group (plan.some c.if-not-branch.false).2 (plan.plans told c.if-not-branch.false) number))
    (c.apply.ensures.blocks told)

pub returns-then-not-branch-clause-still : goal.returns-then-not-branch-clause-still
returns-then-not-branch-clause-still g c = λ told young. nothing_left g c told

pub returns-clause-still : goal.returns-clause-still
returns-clause-still g c = λ told young. group_left g c told
