use Rattle.std.proofs.Common.{ℕ, List, [], true, Ok, Err, sym, ◌∙◌, ap, subst}
use Rattle.std.proofs.lemmas.Bool.{iff_false}
use Rattle.rb_base.specs.Blocks.{block_of}
use Rattle.rb_base.specs.Logs.{Logs, load_logs, no_logs}
use Rattle.rb_segment.specs.Header.{Header, segment_of}
use Rattle.rb_sound.specs.Active.{Fits, IsLive, IsValid}
use Rattle.rb_undoblock.specs.declared.record.UndoRecord.{UndoRecord}
use Rattle.rb_sound.proofs.Chains.{chain_has, chain_next, header_is, named_at}
use Rattle.rb_sound.proofs.active.previous.Given.{Over}
use Rattle.rb_sound.proofs.active.previous.Goals.{After-is_live}
use Rattle.rb_sound.proofs.active.previous.Goals as goal

pub returns-then-not-is_valid-clause-logs : goal.returns-then-not-is_valid-clause-logs
returns-then-not-is_valid-clause-logs g c = no_logs g.S.Store c.args.store.now c.requires.going

pub returns-in_err-load-clause-logs : goal.returns-in_err-load-clause-logs
returns-in_err-load-clause-logs g c =
    let load = c.in_err-load.ensures in
    rw c.from_residual.ensures.0
    (load_logs g.S.Store c.args.store.now c.load.new.self (Err c.in_err-load.field-0.0) load.shape load.slots load.failed load.counted load.lsn load.blocks load.settles load.any_moment load.holds_back)

-- the load that went well
loaded : (g : Over) (c : After-is_live g) → Logs g.S.Store c.args.store.now c.load.new.self [] true
loaded g c =
    let load = c.in_ok-load.ensures in
    load_logs g.S.Store c.args.store.now c.load.new.self (Ok c.in_ok-load.field-0) load.shape load.slots load.failed load.counted load.lsn load.blocks load.settles load.any_moment load.holds_back

pub returns-then-is_live-clause-logs : goal.returns-then-is_live-clause-logs
returns-then-is_live-clause-logs g c = loaded g (goal.at.returns-then-is_live-clause-logs g c).After-is_live

pub returns-else-is_live-clause-logs : goal.returns-else-is_live-clause-logs
returns-else-is_live-clause-logs g c = loaded g (goal.at.returns-else-is_live-clause-logs g c).After-is_live

pub returns-then-not-is_valid-clause-none : goal.returns-then-not-is_valid-clause-none
returns-then-not-is_valid-clause-none g c told chain =
    let x = c.args.xid in
    let s = segment_of c.args.shape (g.S.Store.blocks c.args.store.now) x.seg in
    let first = chain_has (Fits c.args.limits.now) c.args.shape s x c.args.n c.args.at c.requires.some chain in
    let same = header_is c.args.shape (g.S.Store.blocks c.args.store.now) x.seg c.args.header.now (c.requires.told told) in
    iff_false c.is_valid.ensures c.if-not-is_valid.true (subst (λ (h : Header). IsValid c.args.shape x.seg h c.args.at) (sym same) first.0)

pub returns-then-is_live-clause-some : goal.returns-then-is_live-clause-some
returns-then-is_live-clause-some g c told k one =
    let blocks = g.S.Store.blocks c.args.store.now in
    let x = c.args.xid in
    let same = header_is c.args.shape blocks x.seg c.args.header.now (c.requires.told told) in
    let by_header = c.is_valid.ensures.0 c.if-not-is_valid.false in
    let valid = subst (λ (h : Header). IsValid c.args.shape x.seg h c.args.at) same by_header in
    let block = c.block.ensures.block told c.args.at.block c.in_ok-load.ensures.loaded ∙ ap (λ (l : List (List ℕ)). block_of l c.args.at.block) (c.in_ok-load.ensures.blocks told) in
    let read = named_at c.args.shape blocks x.seg (segment_of c.args.shape blocks x.seg).header c.args.at c.block.result.now c.undo_at-undo.result valid block c.undo_at-undo.ensures in
    chain_next (Fits c.args.limits.now) c.args.shape (segment_of c.args.shape blocks x.seg) x c.args.n k c.args.at c.undo_at-undo.result one valid read (c.is_live.ensures.0 c.if-is_live.true)

pub returns-else-is_live-clause-none : goal.returns-else-is_live-clause-none
returns-else-is_live-clause-none g c told chain =
    let blocks = g.S.Store.blocks c.args.store.now in
    let x = c.args.xid in
    let first = chain_has (Fits c.args.limits.now) c.args.shape (segment_of c.args.shape blocks x.seg) x c.args.n c.args.at c.requires.some chain in
    let block = c.block.ensures.block told c.args.at.block c.in_ok-load.ensures.loaded ∙ ap (λ (l : List (List ℕ)). block_of l c.args.at.block) (c.in_ok-load.ensures.blocks told) in
    let read = named_at c.args.shape blocks x.seg (segment_of c.args.shape blocks x.seg).header c.args.at c.block.result.now c.undo_at-undo.result first.0 block c.undo_at-undo.ensures in
    iff_false c.is_live.ensures c.if-is_live.false (subst (λ (r : UndoRecord). IsLive c.args.shape x c.args.n r × Fits c.args.limits.now r) read first.1)
