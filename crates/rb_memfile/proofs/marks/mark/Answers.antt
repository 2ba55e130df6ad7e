use Rattle.std.proofs.Common.{rules, ◌≡◌, length, arith}
use Rattle.std.proofs.lemmas.Grind.{common_steps}
use Rattle.rb_memfile.specs.declared.place.Place.TheVariants.{Settled}
use Rattle.rb_memfile.proofs.Marking.{marked_all}
use Rattle.rb_memfile.proofs.Results.{on_ok}
use Rattle.rb_memfile.proofs.marks.mark.Goals as goal

pub returns-clause-marked : goal.returns-clause-marked
returns-clause-marked c = on_ok c.resize.result _ (λ ok.
    let same : c.deref_mut.result.now ≡ c.args.places.now.items = c.deref_mut.ensures.value in
    let grown = c.resize.ensures.by_index in
    let long : length c.args.places.now.items ≡ c.args.places.now.len = search rules in
    marked_all c.args.at c.min-inside.result c.args.piece.now c.args.bytes.now c.args.places.now.items c.mark_over.new.places c.resize.new.self.items
    c.requires.begins (grind (arith, common_steps)) c.min-inside.ensures
    (λ k from to. rw same at c.mark_over.ensures.over k from to)
    (λ k out. rw same at c.mark_over.ensures.outside k out)
    (grind (arith, common_steps))
    (λ k here. grind (arith, common_steps, grown.0 k Settled))
    (λ k far to. grown.1 k Settled ok (grind (arith, common_steps)) (grind (arith, common_steps))))
