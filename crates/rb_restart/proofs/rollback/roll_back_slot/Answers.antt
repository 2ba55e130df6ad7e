use Rattle.std.proofs.Common.{rules, ◌+◌, ◌*◌, ◌^◌, ◌≡◌, true, false, not, Ok, Err, refl, ◌∙◌, ap, arith}
use Rattle.std.specs.Result.{is_err}
use Rattle.rb_base.specs.declared.sizes.TheConstants.{SLOTS}
use Rattle.rb_base.specs.Blocks.{block_of, header_block}
use Rattle.rb_base.specs.Logs.{load_logs}
use Rattle.rb_base.specs.declared.ids.Xid.{Xid}
use Rattle.rb_restart.specs.Steps.{HasLive, IsIdle, Rolls}
use Rattle.rb_restart.proofs.Joined.{fault_rolls, none_rolls, rolls_joined}
use Rattle.rb_restart.proofs.SlotEnded.{Ends, block_read}
use Rattle.rb_restart.proofs.Slots.{idle_read, live_read}
use Rattle.rb_restart.proofs.rollback.roll_back_slot.Goals as goal

pub returns-in_err-load : goal.returns-in_err-load
returns-in_err-load g c =
    let load = c.in_err-load.ensures in
    rw c.from_residual.ensures.0
    (fault_rolls g.S.Store c.args.shape c.args.store.now c.load.new.self (2 ^ 32) (λ now. IsIdle c.args.shape now (SLOTS * c.args.seg + c.args.i))
    (load_logs g.S.Store c.args.store.now c.load.new.self (Err c.in_err-load.field-0.0) load.shape load.slots load.failed load.counted load.lsn load.blocks load.settles load.any_moment load.holds_back))

pub returns-then-slot-ne-ACTIVE : goal.returns-then-slot-ne-ACTIVE
returns-then-slot-ne-ACTIVE g c =
    let s = g.S.Store in
    let old = c.args.store.now in
    let mid = c.load.new.self in
    let shape = c.args.shape in
    let x : Xid = record { seg = c.args.seg; slot = c.args.i; wrap = 0 } in
    let load = c.in_ok-load.ensures in
    none_rolls s shape old mid (2 ^ 32) true (λ now. IsIdle shape now (SLOTS * c.args.seg + c.args.i)) (load_logs s old mid (Ok c.in_ok-load.field-0) load.shape load.slots load.failed load.counted load.lsn load.blocks load.settles load.any_moment load.holds_back)
    (λ told goes number rows may same.
    let read = block_read s old mid c.header_block.result (header_block shape x.seg) c.block.result.now told (load.blocks told) c.block.ensures.block load.loaded c.header_block.ensures.number in
    idle_read shape (s.blocks old) x c.slot_at-slot.result c.block.result.now c.requires.slot read c.slot_at-slot.ensures c.if-slot-ne-ACTIVE.true)

-- the put back of its changes failed
pub returns-in_err-roll_back : goal.returns-in_err-roll_back
returns-in_err-roll_back g c =
    let s = g.S.Store in
    let old = c.args.store.now in
    let loaded = c.load.new.self in
    let shape = c.args.shape in
    let x : Xid = record { seg = c.args.seg; slot = c.args.i; wrap = c.slot_at-slot.result.wrap } in
    let load = c.in_ok-load.ensures in
    let logs = load_logs s old loaded (Ok c.in_ok-load.field-0) load.shape load.slots load.failed load.counted load.lsn load.blocks load.settles load.any_moment load.holds_back in
    let first : Rolls s shape old loaded 0 true (λ now. Unit {0}) = none_rolls s shape old loaded 0 true (λ now. Unit {0}) logs (λ told goes number rows may same. tt) in
    let live = c.slot_at-slot.result.live in
    rw c.from_residual-in_err-roll_back.ensures.0
    (rolls_joined s shape old loaded c.roll_back.new.store 0 live (2 ^ 32) false (λ now. Unit {0}) (λ now. HasLive shape (s.blocks loaded) x live → HasLive shape now x 0) (λ now. IsIdle shape now (SLOTS * c.args.seg + c.args.i)) (search rules) first c.in_err-roll_back.ensures
    (λ told goes number rows may idle first second. let clash : false ≡ true = goes in absurd cc))

pub returns : goal.returns
returns g c =
    let s = g.S.Store in
    let old = c.args.store.now in
    let loaded = c.load.new.self in
    let mid = c.roll_back.new.store in
    let new = c.end_slot.new.store in
    let shape = c.args.shape in
    let x : Xid = record { seg = c.args.seg; slot = c.args.i; wrap = c.slot_at-slot.result.wrap } in
    let load = c.in_ok-load.ensures in
    let logs = load_logs s old loaded (Ok c.in_ok-load.field-0) load.shape load.slots load.failed load.counted load.lsn load.blocks load.settles load.any_moment load.holds_back in
    let first : Rolls s shape old loaded 0 true (λ now. Unit {0}) = none_rolls s shape old loaded 0 true (λ now. Unit {0}) logs (λ told goes number rows may same. tt) in
    let live = c.slot_at-slot.result.live in
    let back : Rolls s shape old mid live true (λ now. HasLive shape now x 0) = rolls_joined s shape old loaded mid 0 live live true (λ now. Unit {0}) (λ now. HasLive shape (s.blocks loaded) x live → HasLive shape now x 0) (λ now. HasLive shape now x 0) (omega arith) first c.in_ok-roll_back.ensures (λ told goes number rows may idle first second.
    let read = c.block.ensures.block told c.header_block.result load.loaded ∙ ap (block_of (s.blocks loaded)) c.header_block.ensures.number in
    second (live_read shape (s.blocks loaded) x c.slot_at-slot.result c.block.result.now c.requires.slot read c.slot_at-slot.ensures c.if-slot-ne-ACTIVE.false refl)) in
    rolls_joined s shape old mid new live 1 (2 ^ 32) (not (is_err c.end_slot.result)) (λ now. HasLive shape now x 0) (Ends s shape x mid new) (λ now. IsIdle shape now (SLOTS * c.args.seg + c.args.i)) (search rules) back c.end_slot.ensures (λ told goes number rows may idle first second. second first)
