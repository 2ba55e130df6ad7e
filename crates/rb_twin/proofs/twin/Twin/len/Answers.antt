use Rattle.std.proofs.Common.{◌∙◌, List, ℕ, length, slice_index, ap, sym, arith}
use Rattle.rb_twin.specs.Twins.{TwinState}
use Rattle.rb_twin.proofs.Images.{counted}
use Rattle.rb_twin.proofs.twin.Twin.len.Goals as goal

pub returns-clause-count : goal.returns-clause-count
returns-clause-count c =
    c.image_count.ensures ∙ ap (λ (bytes : List ℕ). slice_index bytes 1) c.deref.ensures.value ∙ sym (counted c.self.inside.area.items) ∙ ap (λ (s : TwinState). length s.batch) c.self.view_is

pub returns-clause-few : goal.returns-clause-few
returns-clause-few c =
    let seen = c.image_count.ensures ∙ ap (λ (bytes : List ℕ). slice_index bytes 1) c.deref.ensures.value in omega (arith, seen, counted c.self.inside.area.items, c.self.invariant.few)
