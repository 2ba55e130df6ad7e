use Rattle.std.proofs.Common.{◌≡◌, ◌<◌, ◌++◌, ◌∷◌, [], ◌∙◌, List, ℕ, length, drop, ap, sym, subst, arith}
use Rattle.std.proofs.lemmas.List.{take_at}
use Rattle.std.specs.List.{AllByRecursion}
use Rattle.rb_layout.specs.Regions.{block_count}
use Rattle.rb_twin.specs.Batches.{Image, IsNoneOf, Differ, batch_in}
use Rattle.rb_twin.specs.Twins.{TwinState, IsTwinMemory}
use Rattle.rb_twin.proofs.Images.{all_push, differ_push, length-push}
use Rattle.rb_twin.proofs.twin.Twin.put.Goals as goal

pub invariant_of-self : goal.invariant_of-self
invariant_of-self c =
    let a = c.self.inside in
    let i = c.self.invariant in
    let new = c.put_image.new.area in
    let image : Image = record { no = c.args.block; unit = c.args.unit.now } in
    let old : batch_in a.area.items ≡ c.args.self.now.batch = ap (λ (s : TwinState). s.batch) c.self.view_is in
    let layout : c.args.self.now.layout ≡ a.layout = sym (ap (λ (s : TwinState). s.layout) c.self.view_is) in
    let made : batch_in new ≡ batch_in a.area.items ++ image ∷ [] = c.put_image.ensures.batch ∙ ap (λ (bytes : List ℕ). batch_in bytes ++ image ∷ []) c.deref_mut.ensures.value in
    let room : length (batch_in a.area.items) < 8 = omega (arith, c.requires.room, ap length old) in
    let none : IsNoneOf c.args.block (batch_in a.area.items) = subst (λ (images : List Image). IsNoneOf c.args.block images) (sym old) c.requires.differs in
    let within : c.args.block < block_count a.layout = subst (λ l. c.args.block < block_count l) layout c.requires.within in
    let valid : IsTwinMemory a.layout new = record {
      whole = c.put_image.ensures.whole;
      few = omega (arith, ap length made, length-push (batch_in a.area.items) image, room);
      differ = subst Differ (sym made) (differ_push (batch_in a.area.items) image i.differ none);
      within = subst (λ (images : List Image). AllByRecursion (λ x. x.no < block_count a.layout) images) (sym made) (all_push (λ x. x.no < block_count a.layout) (batch_in a.area.items) image i.within within);
      spare = c.put_image.ensures.spare;
    } in
    subst (IsTwinMemory a.layout) (sym (take_at new (drop (length new) a.area.items) a.area.len (omega (arith, c.put_image.ensures.whole, i.whole, c.deref_mut.ensures.len)))) valid
