use Rattle.std.proofs.Common.{◌≡◌, ◌<◌, ℕ, List, sym, ◌∙◌, ap, subst}
use Rattle.rb_base.specs.Blocks.{block_of, header_block}
use Rattle.rb_base.specs.declared.shape.Shape.{Shape}
use Rattle.rb_dead.proofs.Slots.{InHeader, found_if_none, none_if_idle, none_if_owned, slot_read}
use Rattle.rb_dead.proofs.slot.dead_in_slot.Goals as goal
use Rattle.rb_dead.proofs.slot.dead_in_slot.Goals.{then-slot-ne-ACTIVE-via-then-slot-ne-ACTIVE, then-slot-ne-ACTIVE-via-else-slot-ne-ACTIVE+then-is_some}

pub returns-then-slot-ne-ACTIVE-clause-found : goal.returns-then-slot-ne-ACTIVE-clause-found
returns-then-slot-ne-ACTIVE-clause-found g c = λ told h xids shape stand remembers.
    let s = g.S.Store in
    let old = c.args.store.now in
    let load = c.in_ok-load.ensures in
    let read : c.block.result.now ≡ block_of (s.blocks old) (header_block h.shape c.args.seg) = c.block.ensures.block told c.header_block.result load.loaded
    ∙ (ap (λ (l : List (List ℕ)). block_of l c.header_block.result) (load.blocks told)
    ∙ ap (block_of (s.blocks old)) (c.header_block.ensures.number ∙ ap (λ (z : Shape). header_block z c.args.seg) (c.shape.ensures.shape ∙ shape))) in
    let there : c.args.seg < h.shape.segments = subst (λ (z : Shape). c.args.seg < z.segments) shape c.requires.there in
    let at : InHeader h xids (s.blocks old) stand c.args.seg c.args.i there c.requires.slot ≡ c.slot_at-slot.result = slot_read h xids (s.blocks old) stand c.args.seg c.args.i there c.requires.slot c.slot_at-slot.result c.block.result.now read c.slot_at-slot.ensures in
    elim c.then-slot-ne-ACTIVE.branch [
      | then-slot-ne-ACTIVE-via-then-slot-ne-ACTIVE w ↦ none_if_idle h xids (s.blocks old) stand c.args.seg c.args.i there c.requires.slot c.slot_at-slot.result at w.if-slot-ne-ACTIVE.true
      | then-slot-ne-ACTIVE-via-else-slot-ne-ACTIVE+then-is_some w ↦
          none_if_owned h xids (s.blocks old) stand c.args.seg c.args.i there c.requires.slot c.slot_at-slot.result at c.args.sessions.now remembers w.owner.result (sym w.is_some.ensures ∙ w.if-is_some.true) w.owner.ensures.found
    ]

pub returns-clause-found : goal.returns-clause-found
returns-clause-found g c = λ told h xids shape stand remembers.
    let s = g.S.Store in
    let old = c.args.store.now in
    let load = c.in_ok-load.ensures in
    let read : c.block.result.now ≡ block_of (s.blocks old) (header_block h.shape c.args.seg) = c.block.ensures.block told c.header_block.result load.loaded
    ∙ (ap (λ (l : List (List ℕ)). block_of l c.header_block.result) (load.blocks told)
    ∙ ap (block_of (s.blocks old)) (c.header_block.ensures.number ∙ ap (λ (z : Shape). header_block z c.args.seg) (c.shape.ensures.shape ∙ shape))) in
    let there : c.args.seg < h.shape.segments = subst (λ (z : Shape). c.args.seg < z.segments) shape c.requires.there in
    let at : InHeader h xids (s.blocks old) stand c.args.seg c.args.i there c.requires.slot ≡ c.slot_at-slot.result = slot_read h xids (s.blocks old) stand c.args.seg c.args.i there c.requires.slot c.slot_at-slot.result c.block.result.now read c.slot_at-slot.ensures in
    found_if_none h xids (s.blocks old) stand c.args.seg c.args.i there c.requires.slot c.slot_at-slot.result at c.args.sessions.now remembers c.owner.result (sym c.is_some.ensures ∙ c.if-is_some.false) c.if-slot-ne-ACTIVE.false c.owner.ensures.none
