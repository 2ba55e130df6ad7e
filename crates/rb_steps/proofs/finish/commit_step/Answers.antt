use Rattle.std.proofs.Common.{◌≡◌, ◌<◌, ◌≤◌, ◌+◌, ◌++◌, ◌∷◌, ℕ, List, [], length, true, false, not, refl, sym, ◌∙◌, ap, subst, arith}
use Rattle.std.specs.List.{AllByRecursion}
use Rattle.std.specs.Result.{is_err}
use Rattle.rb_base.proofs.Each.{all_so}
use Rattle.rb_base.specs.Blocks.{after_group, block_of, header_block, shape_blocks, written_to}
use Rattle.rb_base.specs.Groups.{Patch}
use Rattle.rb_base.specs.Logs.{Logs, apply_logs, more_logs}
use Rattle.rb_base.specs.declared.ids.Xid.{Xid}
use Rattle.rb_base.specs.declared.shape.Shape.{Shape}
use Rattle.law_crash.specs.Made.{CommitMade}
use Rattle.rb_model.specs.Calls.{Owned}
use Rattle.rb_model.specs.State.{State}
use Rattle.rb_model.specs.Rows.{last_scn}
use Rattle.rb_segment.specs.Calls.{commit_patches, Runs}
use Rattle.rb_segment.specs.Header.{header_of, slot_in}
use Rattle.rb_segment.specs.Moves as moves
use Rattle.law_blocks.specs.Standing.{logged_of}
use Rattle.law_blocks.specs.States.{BlocksStand}
use Rattle.rb_steps.proofs.Finishing.{commit_there, live_is, commits}
use Rattle.rb_steps.proofs.finish.commit_step.Given.{Over}
use Rattle.rb_steps.proofs.finish.commit_step.Goals as goal

-- the header couldn't be loaded
pub returns-in_err-copy_block-clause-logs : goal.returns-in_err-copy_block-clause-logs
returns-in_err-copy_block-clause-logs g c = (
  [],
  rw c.from_residual.ensures.0 c.in_err-copy_block.ensures.logs,
  omega arith,
)

pub returns-in_err-copy_block-clause-gives : goal.returns-in_err-copy_block-clause-gives
returns-in_err-copy_block-clause-gives g c = λ told h xids r stand same owned runs some number next.
    record {
      groups = [];
      logs = rw c.from_residual.ensures.0 c.in_err-copy_block.ensures.logs;
      few = omega arith;
      one = λ goes. (let clash : false ≡ true = sym (ap not c.from_residual.ensures.0) ∙ goes in absurd cc);
      made = λ any. absurd (omega (arith, any));
    }

-- nothing was done
pub returns-then-not-has_live-clause-logs : goal.returns-then-not-has_live-clause-logs
returns-then-not-has_live-clause-logs g c =
    ([], c.in_ok-copy_block.ensures.logs, omega arith)

-- which isn't so of a transaction that runs and has a live change
pub returns-then-not-has_live-clause-gives : goal.returns-then-not-has_live-clause-gives
returns-then-not-has_live-clause-gives g c = λ told h xids r stand same owned runs some number next.
    let s = g.S.Store in
    let old = c.args.store.now in
    let x = c.args.xid in
    let at = header_block h.shape x.seg in
    let block_is : header_block c.shape-shape.result x.seg ≡ at = ap (λ (k : Shape). header_block k x.seg) (c.shape-shape.ensures.shape ∙ same) in
    let read = c.in_ok-copy_block.ensures.copy told ∙ ap (block_of (s.blocks old)) (c.header_block.ensures.number ∙ block_is) in
    let there : x.seg < h.shape.segments = omega (arith, c.requires.there, ap (λ (k : Shape). k.segments) same) in
    let live = live_is h xids (s.blocks old) (s.blocks old) r x stand there c.requires.slot owned runs in
    let is : c.has_live.result ≡ true = c.has_live.ensures.1 (subst (λ (l : List ℕ). Runs (header_of l) x × ((slot_in (header_of l) x.slot).live ≡ 0 → ⊥)) (sym read) (runs, λ none. omega (arith, none, live, some))) in
    let clash : false ≡ true = sym c.if-not-has_live.true ∙ is in
    absurd cc

-- the group was given
applied : (g : Over) (c : goal.After-apply g) → Logs g.S.Store c.args.store.now c.apply.new.self (c.commit.new.group ∷ []) (not (is_err c.apply.result))
applied g c =
    let s = g.S.Store in
    let call = c.apply.ensures in
    more_logs s c.args.store.now c.copy_block.new.store c.apply.new.self [] (c.commit.new.group ∷ []) (not (is_err c.apply.result))
    c.in_ok-copy_block.ensures.logs
    (apply_logs s c.copy_block.new.store c.apply.new.self c.commit.new.group c.apply.result call.shape call.slots call.failed call.counted call.lsn call.blocks call.settles call.any_moment call.holds_back)

-- and the blocks after it stand for the state after the commit
makes : (g : Over) (c : goal.After-apply g) → g.S.Store.tells → (h : State) (xids : List Xid) (r : ℕ) → BlocksStand h xids (g.S.Store.blocks c.args.store.now) → g.S.Store.shape_of c.args.store.now ≡ h.shape → Owned h r c.args.xid.seg c.args.xid.slot
    → g.S.Store.lsn c.args.store.now ≡ logged_of h.shape (g.S.Store.blocks c.args.store.now) → c.args.scn ≡ last_scn h.commits + 1
    → CommitMade h xids r c.args.xid (g.S.Store.blocks c.args.store.now) (after_group (g.S.Store.lsn c.args.store.now + 1) c.commit.new.group (g.S.Store.blocks c.args.store.now))
makes g c told h xids r stand same owned number next =
    let s = g.S.Store in
    let old = c.args.store.now in
    let blocks = s.blocks old in
    let x = c.args.xid in
    let header = c.commit.new.header in
    let group = c.commit.new.group in
    let at = header_block h.shape x.seg in
    let shape_is : c.shape-shape.result ≡ h.shape = c.shape-shape.ensures.shape ∙ same in
    let block_is : header_block c.shape-shape.result x.seg ≡ at = ap (λ (k : Shape). header_block k x.seg) shape_is in
    let read = c.in_ok-copy_block.ensures.copy told ∙ ap (block_of (s.blocks old)) (c.header_block.ensures.number ∙ block_is) in
    let run : Runs (header_of (block_of blocks at)) x = subst (λ (l : List ℕ). Runs (header_of l) x) read (c.has_live.ensures.0 c.if-not-has_live.false).0 in
    let patches : group ≡ commit_patches at x.slot (header_of header) = c.commit.ensures.patches ∙ (ap (λ (l : List Patch). l ++ commit_patches (header_block c.shape-shape.result x.seg) x.slot (header_of header)) c.clear.ensures ∙ ap (λ (b : ℕ). commit_patches b x.slot (header_of header)) block_is) in
    let only : AllByRecursion (λ p. p.block ≡ at) group = subst (AllByRecursion (λ p. p.block ≡ at)) (sym patches) (commit_there at x.slot (header_of header)) in
    let copied : header ≡ written_to at group (block_of blocks at) = c.commit.ensures.copy ∙ (ap (λ (b : ℕ). written_to b (commit_patches b x.slot (header_of header)) c.copy_block.new.copy) block_is ∙ (ap (λ (l : List Patch). written_to at l c.copy_block.new.copy) (sym patches) ∙ ap (written_to at group) read)) in
    let means : header_of header ≡ moves.committed c.args.scn x.slot (header_of (block_of blocks at)) = c.commit.ensures.moved ∙ ap (λ (l : List ℕ). moves.committed c.args.scn x.slot (header_of l)) read in
    let some : 1 ≤ length group = let count = ap length patches in omega (arith, count) in
    let valid = c.patches-count.ensures.valid in
    let there : x.seg < h.shape.segments = omega (arith, c.requires.there, ap (λ (k : Shape). k.segments) same) in
    let now = after_group (s.lsn old + 1) group blocks in
    let made : now ≡ after_group (logged_of h.shape blocks + 1) group blocks = ap (λ (n : ℕ). after_group (n + 1) group blocks) number in
    commits h xids blocks now r x stand there c.requires.slot owned run group some valid only made c.args.scn next header patches copied means

pub returns-clause-logs : goal.returns-clause-logs
returns-clause-logs g c = (c.commit.new.group ∷ [], applied g c, omega arith)

pub returns-clause-gives : goal.returns-clause-gives
returns-clause-gives g c = λ told h xids r stand same owned runs some number next.
    record {
      groups = c.commit.new.group ∷ [];
      logs = applied g c;
      few = omega arith;
      one = λ goes. refl;
      made = λ any. makes g c told h xids r stand same owned number next;
    }

pub apply-requires-clause-some : goal.apply-requires-clause-some
apply-requires-clause-some g c =
    let header = c.commit.new.header in
    let patches = ap length (c.commit.ensures.patches ∙ ap (λ (l : List Patch). l ++ commit_patches (header_block c.shape-shape.result c.args.xid.seg) c.args.xid.slot (header_of header)) c.clear.ensures) in
    omega (arith, patches)

pub apply-requires-clause-within : goal.apply-requires-clause-within
apply-requires-clause-within g c =
    let s = g.S.Store in
    let header = c.commit.new.header in
    let at = header_block c.shape-shape.result c.args.xid.seg in
    let patches : c.commit.new.group ≡ commit_patches at c.args.xid.slot (header_of header) = c.commit.ensures.patches ∙ ap (λ (l : List Patch). l ++ commit_patches at c.args.xid.slot (header_of header)) c.clear.ensures in
    let only : AllByRecursion (λ p. p.block ≡ at) c.commit.new.group = subst (AllByRecursion (λ p. p.block ≡ at)) (sym patches) (commit_there at c.args.xid.slot (header_of header)) in
    let shape_is : c.shape-shape.result ≡ s.shape_of c.copy_block.new.store = c.shape-shape.ensures.shape ∙ sym c.in_ok-copy_block.ensures.logs.same_shape in
    let below : at < shape_blocks (s.shape_of c.copy_block.new.store) = omega (arith, c.requires.there, ap (λ (k : Shape). k.segments) c.shape-shape.ensures.shape, ap shape_blocks shape_is) in
    all_so (λ (p : Patch). p.block ≡ at) (λ (p : Patch). p.block < shape_blocks (s.shape_of c.copy_block.new.store)) c.commit.new.group (λ p is. omega (arith, is, below)) only

-- where it isn't so, no group was given
pub returns-then-not-has_live-clause-nothing : goal.returns-then-not-has_live-clause-nothing
returns-then-not-has_live-clause-nothing g c = λ told none.
    c.in_ok-copy_block.ensures.logs

pub returns-clause-nothing : goal.returns-clause-nothing
returns-clause-nothing g c = λ told none.
    let s = g.S.Store in
    let old = c.args.store.now in
    let x = c.args.xid in
    let at = header_block (s.shape_of old) x.seg in
    let block_is : header_block c.shape-shape.result x.seg ≡ at = ap (λ (k : Shape). header_block k x.seg) c.shape-shape.ensures.shape in
    let read = c.in_ok-copy_block.ensures.copy told ∙ ap (block_of (s.blocks old)) (c.header_block.ensures.number ∙ block_is) in
    absurd (none (subst (λ (l : List ℕ). Runs (header_of l) x × ((slot_in (header_of l) x.slot).live ≡ 0 → ⊥)) read (c.has_live.ensures.0 c.if-not-has_live.false)))
