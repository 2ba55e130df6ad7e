use Rattle.std.proofs.Common.{◌≡◌, ◌≢◌, ℕ, List, [], ◌∷◌, get_or, set, ap, sym, ◌∙◌, subst}
use Rattle.std.specs.Map.{keys_of}
use Rattle.law_redo.specs.Rolled.{step}
use Rattle.rb_cache.specs.Frames.{without}
use Rattle.rb_cache.specs.Slots.{FramesState, frame_at, held_in, held_of}
use Rattle.rb_cache.specs.declared.frame.Frame.{Frame}
use Rattle.rb_cache.proofs.MemoryLemmas.{memory_of}
use Rattle.rb_cache.proofs.UseLemmas.{at_is, first_below, first_held, front_changed, front_held}
use Rattle.rb_cache.proofs.frames.Frames.patch_front.Goals as goal

-- the first number, as it was found
first : (s : FramesState) (slots : List Frame) (order : List ℕ) (v k : ℕ) → record { slots = slots; order = order } ≡ s → v ≡ get_or s.order 0 0 → k ≡ v → k ≡ get_or order 0 0
first s slots order v k view is from = from ∙ is ∙ ap (λ (t : FramesState). get_or t.order 0 0) (sym view)

head : (f g : Frame) (rest more : List Frame) → f ∷ rest ≡ g ∷ more → f ≡ g
head f g rest more same = cc

tail : (f g : Frame) (rest more : List Frame) → f ∷ rest ≡ g ∷ more → rest ≡ more
tail f g rest more same = cc

pub invariant_of-self : goal.invariant_of-self
invariant_of-self c =
    let i = c.self.inside in let order = keys_of i.order.entries in
    let found = first c.args.self.now i.slots.items order c.front_number-front.result c.from.result c.self.view_is c.front_number-front.ensures c.from.ensures in
    let some = subst (λ (s : FramesState). held_in s ≢ []) (sym c.self.view_is) c.requires.some in
    let at = at_is i.slots.items c.from.result c.index_mut.result.now (first_below i.slots.items order i.places.items c.self.invariant c.from.result found) c.index_mut.ensures.value in
    front_changed i.slots.items order i.places.items c.self.invariant c.from.result found some c.patch.new.self (c.patch.ensures.block ∙ ap (λ (f : Frame). f.block) (sym at)) c.patch.ensures.unit

pub returns-clause-memory : goal.returns-clause-memory
returns-clause-memory c = memory_of (set c.self.inside.slots.items c.from.result c.patch.new.self) (keys_of c.self.inside.order.entries) c.self.inside.places.items (invariant_of-self c)

pub returns-clause-patched : goal.returns-clause-patched
returns-clause-patched c = λ f rest held.
    let i = c.self.inside in let order = keys_of i.order.entries in
    let found = first c.args.self.now i.slots.items order c.front_number-front.result c.from.result c.self.view_is c.front_number-front.ensures c.from.ensures in
    let some = subst (λ (s : FramesState). held_in s ≢ []) (sym c.self.view_is) c.requires.some in
    let at = at_is i.slots.items c.from.result c.index_mut.result.now (first_below i.slots.items order i.places.items c.self.invariant c.from.result found) c.index_mut.ensures.value in
    let was : frame_at i.slots.items c.from.result ∷ held_of i.slots.items (without c.from.result order) ≡ f ∷ rest =
    sym (first_held i.slots.items order i.places.items c.self.invariant c.from.result found some) ∙ ap held_in c.self.view_is ∙ held in
    let own : c.index_mut.result.now ≡ f = sym at ∙ head (frame_at i.slots.items c.from.result) f (held_of i.slots.items (without c.from.result order)) rest was in
    record {
      frame = c.patch.new.self;
      held_is = front_held i.slots.items order i.places.items c.self.invariant c.from.result found some c.patch.new.self (c.patch.ensures.block ∙ ap (λ (f : Frame). f.block) (sym at)) c.patch.ensures.unit
          ∙ ap (λ (h : List Frame). c.patch.new.self ∷ h) (tail (frame_at i.slots.items c.from.result) f (held_of i.slots.items (without c.from.result order)) rest was);
      block = c.patch.ensures.block ∙ ap (λ (f : Frame). f.block) own;
      bytes = c.patch.ensures.bytes ∙ ap (λ (f : Frame). step c.args.number c.args.group.now f.block f.bytes) own;
      clean = λ is. c.patch.ensures.clean is ∙ own;
    }
