use Rattle.std.proofs.Common.{◌≡◌, ◌∙◌, List, ℕ, sym, ap, Ok, Err}
use Rattle.rb_base.specs.Blocks.{block_of, header_block}
use Rattle.rb_base.specs.Logs.{load_logs, no_logs}
use Rattle.rb_base.specs.declared.shape.Shape.{Shape}
use Rattle.rb_txntable.specs.Looks.{slot_look}
use Rattle.rb_txntable.specs.Slots.{slot_at}
use Rattle.rb_cr.proofs.Beyond.{look_none, look_out, look_there}
use Rattle.rb_cr.proofs.Loaded.{behind_shape, loaded_is}
use Rattle.rb_cr.proofs.reads.read_look.Goals.{then-xid-shape-via-then-xid-shape, then-xid-shape-via-else-xid-shape+then-xid-ge-SLOTS}
use Rattle.rb_cr.proofs.reads.read_look.Goals as goal

pub returns-then-xid-shape-clause-told : goal.returns-then-xid-shape-clause-told
returns-then-xid-shape-clause-told g c = λ told.
    let s = g.S.Store in
    let old = c.args.store.now in
    let x = c.args.xid in
    c.untold.ensures ∙ sym (elim c.then-xid-shape.branch [
      | then-xid-shape-via-then-xid-shape w ↦ look_none (s.shape_of old) (s.blocks old) x.seg (c.requires.whole told) (behind_shape c.shape-shape.result (s.shape_of old) x.seg c.shape-shape.ensures.shape w.if-xid-shape.true) x
      | then-xid-shape-via-else-xid-shape+then-xid-ge-SLOTS w ↦ look_out (s.shape_of old) (s.blocks old) x w.if-xid-ge-SLOTS.true
    ])

pub returns-clause-told : goal.returns-clause-told
returns-clause-told g c = λ told.
    let s = g.S.Store in
    let old = c.args.store.now in
    let x = c.args.xid in
    let one = c.header_block.result in
    let which = header_block (s.shape_of old) x.seg in
    let at : one ≡ which = c.header_block.ensures.number ∙ ap (λ (z : Shape). header_block z x.seg) c.shape-shape.ensures.shape in
    let block : c.block.result.now ≡ block_of (s.blocks old) which = loaded_is c.block.result.now (s.blocks old) (s.blocks c.load.new.self) one which (c.block.ensures.block told one c.in_ok-load.ensures.loaded) (c.in_ok-load.ensures.blocks told) at in
    c.look.ensures ∙ (ap (λ (z : List ℕ). slot_look (slot_at z x.slot) x.wrap) block ∙ sym (look_there (s.shape_of old) (s.blocks old) x c.if-xid-ge-SLOTS.false))

pub returns-then-xid-shape-clause-logs : goal.returns-then-xid-shape-clause-logs
returns-then-xid-shape-clause-logs g c = no_logs g.S.Store c.args.store.now c.requires.going

pub returns-in_err-load-clause-logs : goal.returns-in_err-load-clause-logs
returns-in_err-load-clause-logs g c =
    let load = c.in_err-load.ensures in
    rw c.from_residual.ensures.0
    (load_logs g.S.Store c.args.store.now c.load.new.self (Err c.in_err-load.field-0.0) load.shape load.slots load.failed load.counted load.lsn load.blocks load.settles load.any_moment load.holds_back)

pub returns-clause-logs : goal.returns-clause-logs
returns-clause-logs g c =
    let load = c.in_ok-load.ensures in
    load_logs g.S.Store c.args.store.now c.load.new.self (Ok c.in_ok-load.field-0) load.shape load.slots load.failed load.counted load.lsn load.blocks load.settles load.any_moment load.holds_back
