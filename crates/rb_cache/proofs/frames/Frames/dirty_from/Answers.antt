use Rattle.std.proofs.Common.{◌≡◌, inl, inr, length, arith, ap, ◌∙◌, subst}
use Rattle.std.proofs.lemmas.Bool.{cases_lt}
use Rattle.std.specs.Map.{keys_of}
use Rattle.rb_cache.specs.Frames.{NoneDirty}
use Rattle.rb_cache.specs.Slots.{FramesState, frame_at, held_in}
use Rattle.rb_cache.proofs.GatherLemmas.{none_dirty}
use Rattle.rb_cache.proofs.frames.Frames.dirty_from.Goals as goal

pub returns-clause-none : goal.returns-clause-none
returns-clause-none c = λ first.
    let i = c.self.inside in
    let long : length i.slots.items ≡ length c.args.self.now.slots = ap (λ (s : FramesState). length s.slots) c.self.view_is in
    subst (λ (s : FramesState). NoneDirty (held_in s)) c.self.view_is
    (none_dirty i.slots.items (keys_of i.order.entries) i.places.items c.self.invariant
    (λ k le lt. elim (cases_lt k c.args.from) [
      | inl low ↦ ap (λ (s : FramesState). (frame_at s.slots k).dirty) c.self.view_is ∙ first k le low
      | inr high ↦ ap (λ (s : FramesState). (frame_at s.slots k).dirty) c.self.view_is ∙ c.loop-number.invariant.clean k high (omega arith)
    ]))
