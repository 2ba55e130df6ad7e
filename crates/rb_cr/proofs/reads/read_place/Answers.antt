use Rattle.std.proofs.Common.{◌≡◌, ◌+◌, ◌/◌, ◌%◌, ℕ, List, sym, ◌∙◌, ap, Ok, Err}
use Rattle.rb_undoblock.specs.declared.record.TheConstants.{UNDO_RECORDS}
use Rattle.rb_base.specs.Blocks.{block_of, header_block}
use Rattle.rb_base.specs.Logs.{load_logs}
use Rattle.rb_undoblock.specs.Undo.{undo_at}
use Rattle.rb_cr.proofs.Beyond.{place_read}
use Rattle.rb_cr.proofs.Loaded.{loaded_is}
use Rattle.rb_cr.proofs.reads.read_place.Goals as goal

pub returns-clause-told : goal.returns-clause-told
returns-clause-told g c = λ told.
    let s = g.S.Store in
    let shape = c.args.shape.now in
    let seg = c.args.seg in
    let place = c.args.place in
    let blocks = s.blocks c.args.store.now in
    let records = c.from-records.result in
    let ten : records ≡ UNDO_RECORDS = c.from-records.ensures in
    let one : ℕ = c.header_block.result + 1 + place / records in
    let which : ℕ = header_block shape seg + 1 + place / UNDO_RECORDS in
    let at : one ≡ which = ap (λ (z : ℕ). c.header_block.result + 1 + place / z) ten ∙ ap (λ (z : ℕ). z + 1 + place / UNDO_RECORDS) c.header_block.ensures.number in
    let block : c.block.result.now ≡ block_of blocks which = loaded_is c.block.result.now blocks (s.blocks c.load.new.self) one which (c.block.ensures.block told one c.in_ok-load.ensures.loaded) (c.in_ok-load.ensures.blocks told) at in
    c.undo_at.ensures ∙ (ap (λ (z : ℕ). undo_at c.block.result.now (place % z)) ten ∙ (ap (λ (z : List ℕ). undo_at z (place % UNDO_RECORDS)) block ∙ sym (place_read shape blocks seg place c.requires.within)))

pub returns-in_err-load-clause-logs : goal.returns-in_err-load-clause-logs
returns-in_err-load-clause-logs g c =
    let load = c.in_err-load.ensures in
    rw c.from_residual.ensures.0
    (load_logs g.S.Store c.args.store.now c.load.new.self (Err c.in_err-load.field-0.0) load.shape load.slots load.failed load.counted load.lsn load.blocks load.settles load.any_moment load.holds_back)

pub returns-clause-logs : goal.returns-clause-logs
returns-clause-logs g c =
    let load = c.in_ok-load.ensures in
    load_logs g.S.Store c.args.store.now c.load.new.self (Ok c.in_ok-load.field-0) load.shape load.slots load.failed load.counted load.lsn load.blocks load.settles load.any_moment load.holds_back
