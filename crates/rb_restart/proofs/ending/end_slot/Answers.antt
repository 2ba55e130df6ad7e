use Rattle.std.proofs.Common.{◌≡◌, ℕ, List, [], ◌∷◌, ◌++◌, true, false, not, sym, ◌∙◌, ap, subst}
use Rattle.std.specs.Result.{is_err}
use Rattle.rb_base.specs.Blocks.{block_of, header_block, written_to, AreBlocks}
use Rattle.rb_base.specs.Groups.{Patch}
use Rattle.rb_base.specs.Logs.{more_logs, apply_logs}
use Rattle.rb_base.specs.declared.shape.Shape.{Shape}
use Rattle.rb_restart.proofs.SlotEnded.{Ends, end_rolls}
use Rattle.rb_restart.proofs.Joined.{none_rolls, fault_rolls}
use Rattle.rb_segment.specs.Calls.{slot_patches, Runs}
use Rattle.rb_segment.specs.Header.{header_of, slot_in}
use Rattle.rb_segment.specs.Moves.{ended}
use Rattle.rb_restart.proofs.ending.end_slot.Goals as goal

pub returns-in_err-copy_block : goal.returns-in_err-copy_block
returns-in_err-copy_block g c =
    rw c.from_residual.ensures.0
    (fault_rolls g.S.Store c.args.shape c.args.store.now c.copy_block.new.store 1 (Ends g.S.Store c.args.shape c.args.xid c.args.store.now c.copy_block.new.store) c.in_err-copy_block.ensures.logs)

pub returns-then-not-is_rolled_back : goal.returns-then-not-is_rolled_back
returns-then-not-is_rolled_back g c =
    let s = g.S.Store in
    let old = c.args.store.now in
    let mid = c.copy_block.new.store in
    let shape = c.args.shape in
    let x = c.args.xid in
    none_rolls s shape old mid 1 true (Ends s shape x old mid) c.in_ok-copy_block.ensures.logs
    (λ told goes number rows may still live.
    let read = c.in_ok-copy_block.ensures.copy told ∙ ap (block_of (s.blocks old)) c.header_block.ensures.number in
    let is : c.is_rolled_back.result ≡ true = c.is_rolled_back.ensures.1 (subst (λ (l : List ℕ). Runs (header_of l) x × ((slot_in (header_of l) x.slot).live ≡ 0)) (sym read) (live.runs, live.live)) in
    let clash : false ≡ true = sym c.if-not-is_rolled_back.true ∙ is in
    absurd cc)

pub returns : goal.returns
returns g c =
    let s = g.S.Store in
    let old = c.args.store.now in
    let shape = c.args.shape in
    let x = c.args.xid in
    let mid = c.copy_block.new.store in
    let new = c.apply.new.self in
    let header = c.end.new.header in
    let at = header_block shape x.seg in
    let call = c.apply.ensures in
    let group = slot_patches at x.slot (header_of header) in
    let read = λ (told : s.tells). c.in_ok-copy_block.ensures.copy told ∙ ap (block_of (s.blocks old)) c.header_block.ensures.number in
    let rolled = c.is_rolled_back.ensures.0 c.if-not-is_rolled_back.false in
    let logs = more_logs s old mid new [] (c.end.new.group ∷ []) (not (is_err c.apply.result)) c.in_ok-copy_block.ensures.logs
    (apply_logs s mid new c.end.new.group c.apply.result call.shape call.slots call.failed call.counted call.lsn call.blocks call.settles call.any_moment call.holds_back) in
    end_rolls s shape x old new c.end.new.group header (c.end.ensures.patches ∙ ap (λ (l : List Patch). l ++ group) c.clear.ensures)
    (λ told. c.end.ensures.copy ∙ ap (written_to at group) (read told))
    (λ told. c.end.ensures.moved ∙ ap (λ (l : List ℕ). ended x.slot (header_of l)) (read told))
    c.requires.in_range c.requires.there c.requires.slot
    (λ told. subst (λ (z : Shape). AreBlocks z (s.blocks old)) (sym c.requires.shape) (c.in_ok-copy_block.ensures.whole told))
    (λ told. let is = subst (λ (l : List ℕ). Runs (header_of l) x × ((slot_in (header_of l) x.slot).live ≡ 0)) (read told) rolled in record { runs = is.0; live = is.1 })
    (not (is_err c.apply.result)) logs
