use Rattle.std.proofs.Common.{◌≡◌, ◌≢◌, ℕ, [], List, ◌∷◌, get_or, sym, ap, ◌∙◌, subst}
use Rattle.std.specs.Map.{keys_of}
use Rattle.rb_cache.specs.Slots.{FramesState, frame_at, held_in}
use Rattle.rb_cache.specs.declared.frame.Frame.{Frame}
use Rattle.rb_cache.proofs.UseLemmas.{at_is, first_below, first_held}
use Rattle.rb_cache.proofs.frames.Frames.front.Goals as goal

-- the first of equal lists
first : (f g : Frame) (rest more : List Frame) → f ∷ rest ≡ g ∷ more → f ≡ g
first f g rest more same = cc

pub returns-clause-bytes : goal.returns-clause-bytes
returns-clause-bytes c = λ f rest held.
    let i = c.self.inside in
    let order = keys_of i.order.entries in
    let front : c.front_number.result ≡ get_or order 0 0 = c.front_number.ensures ∙ ap (λ (s : FramesState). get_or s.order 0 0) (sym c.self.view_is) in
    let some = subst (λ (s : FramesState). held_in s ≢ []) (sym c.self.view_is) c.requires.some in
    let here = first_held i.slots.items order i.places.items c.self.invariant c.front_number.result front some in
    let own = first (frame_at i.slots.items c.front_number.result) f _ rest (sym here ∙ ap held_in c.self.view_is ∙ held) in
    let at = at_is i.slots.items c.front_number.result c.index.result.now (first_below i.slots.items order i.places.items c.self.invariant c.front_number.result front)
    (c.index.ensures ∙ ap (λ (j : ℕ). get_or i.slots.items j c.index.result.now) c.from.ensures) in
    ap (λ (g : Frame). g.bytes) (sym at ∙ own)
