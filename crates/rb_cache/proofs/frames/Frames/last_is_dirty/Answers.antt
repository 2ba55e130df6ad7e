use Rattle.std.proofs.Common.{◌≡◌, ◌-◌, ℕ, List, length, get_or, sym, ap, ◌∙◌, subst}
use Rattle.std.specs.Map.{keys_of}
use Rattle.rb_cache.specs.Frames.{IsLastClean, NoneDirty}
use Rattle.rb_cache.specs.Slots.{AreFrames, FramesState, frame_at, held_in}
use Rattle.rb_cache.specs.declared.frame.Frame.{Frame}
use Rattle.rb_cache.proofs.MemoryLemmas.{memory_in}
use Rattle.rb_cache.proofs.UseLemmas.{at_is, last_below, last_full, last_is_clean, last_some}
use Rattle.rb_cache.proofs.frames.Frames.last_is_dirty.Goals as goal

-- the last number, as it was found
last : (s : FramesState) (slots : List Frame) (order : List ℕ) (v : ℕ) → record { slots = slots; order = order } ≡ s → v ≡ get_or s.order (length s.order - 1) 0 → v ≡ get_or order (length order - 1) 0
last s slots order v view is = is ∙ ap (λ (t : FramesState). get_or t.order (length t.order - 1) 0) (sym view)

-- the frame of that number, as it was read
at_last : (slots : List Frame) (order places : List ℕ) → AreFrames slots order places → (v k : ℕ) (f : Frame) → v ≡ get_or order (length order - 1) 0 → k ≡ v → f ≡ get_or slots k f → (frame_at slots v).dirty ≡ f.dirty
at_last slots order places are v k f found from is =
    ap (λ (g : Frame). g.dirty) (at_is slots v f (last_below slots order places are v found) (is ∙ ap (λ (j : ℕ). get_or slots j f) from))

pub returns-clause-clean : goal.returns-clause-clean
returns-clause-clean c = λ is.
    let i = c.self.inside in let order = keys_of i.order.entries in
    let found = last c.args.self.now i.slots.items order c.last_number.result c.self.view_is c.last_number.ensures in
    let same = at_last i.slots.items order i.places.items c.self.invariant c.last_number.result c.from.result c.index.result.now found c.from.ensures c.index.ensures in
    subst (λ (s : FramesState). IsLastClean (length s.slots) (held_in s)) c.self.view_is (last_is_clean i.slots.items order i.places.items c.self.invariant c.last_number.result found (same ∙ is))

pub returns-clause-full : goal.returns-clause-full
returns-clause-full c = λ is.
    let i = c.self.inside in let order = keys_of i.order.entries in
    let found = last c.args.self.now i.slots.items order c.last_number.result c.self.view_is c.last_number.ensures in
    let same = at_last i.slots.items order i.places.items c.self.invariant c.last_number.result c.from.result c.index.result.now found c.from.ensures c.index.ensures in
    subst (λ (s : FramesState). length (held_in s) ≡ length s.slots) c.self.view_is (last_full i.slots.items order i.places.items c.self.invariant c.last_number.result found (same ∙ is))

pub returns-clause-some : goal.returns-clause-some
returns-clause-some c = λ is.
    let i = c.self.inside in let order = keys_of i.order.entries in
    let found = last c.args.self.now i.slots.items order c.last_number.result c.self.view_is c.last_number.ensures in
    let same = at_last i.slots.items order i.places.items c.self.invariant c.last_number.result c.from.result c.index.result.now found c.from.ensures c.index.ensures in
    subst (λ (s : FramesState). ¬ NoneDirty (held_in s)) c.self.view_is (last_some i.slots.items order i.places.items c.self.invariant c.last_number.result found (same ∙ is))

pub returns-clause-memory : goal.returns-clause-memory
returns-clause-memory c =
    let i = c.self.inside in memory_in c.args.self.now i.slots.items (keys_of i.order.entries) i.places.items c.self.view_is c.self.invariant
