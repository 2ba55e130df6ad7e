use Rattle.std.proofs.Common.{◌≡◌, ◌<◌, ◌≤◌, ℕ, List, [], length, replicate, arith, ap, sym, ◌∙◌, subst}
use Rattle.std.proofs.lemmas.List.{length-replicate}
use Rattle.std.specs.List.{AllByRecursion}
use Rattle.rb_cache.specs.Slots.{AreFrames, cache_of}
use Rattle.rb_cache.specs.declared.frame.Frame.{Frame}
use Rattle.rb_cache.proofs.UseLemmas.{all_zero, new_frames, new_held}
use Rattle.rb_cache.proofs.frames.Frames.new.Goals as goal

-- each place leads to the first frame
lead_there : (m n : ℕ) (places : List ℕ) → places ≡ replicate n 0 → 1 ≤ m → AllByRecursion (λ k. k < m) places
lead_there m n places zeros some = subst (λ (ps : List ℕ). AllByRecursion (λ k. k < m) ps) (sym zeros) (all_zero m n some)

so_many : (n : ℕ) (places : List ℕ) → places ≡ replicate n 0 → length places ≡ n
so_many n places zeros = ap length zeros ∙ length-replicate n 0

pub invariant_of-result : goal.invariant_of-result
invariant_of-result c =
    let slots = c.in_ok-slots.slots.items in
    let long = c.in_ok-slots.ensures.count in
    let places = c.in_ok-places.places.items in
    let zeros = c.in_ok-places.ensures.zeros in
    let some : 1 ≤ length slots = omega (arith, long, c.requires.some) in
    subst (λ (ks : List ℕ). AreFrames slots ks places) (sym c.in_ok-order.ensures.numbers)
    (new_frames slots c.args.count long c.in_ok-slots.ensures.empty places c.requires.some c.requires.few (so_many 66064 places zeros) (lead_there (length slots) 66064 places zeros some))

pub returns : goal.returns
returns c =
    let slots = c.in_ok-slots.slots.items in
    subst (λ (ks : List ℕ). cache_of (record { slots = slots; order = ks }) ≡ record { frames = c.args.count; held = [] }) (sym c.in_ok-order.ensures.numbers)
    (ap (λ (h : List Frame). record { frames = length slots; held = h }) (new_held slots c.args.count c.in_ok-slots.ensures.count c.in_ok-slots.ensures.empty)
    ∙ ap (λ (n : ℕ). record { frames = n; held = [] }) c.in_ok-slots.ensures.count)
