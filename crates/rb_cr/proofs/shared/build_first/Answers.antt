use Rattle.rb_cr.proofs.shared.build_first.Goals as goal

pub returns-in-Some-clause-same : goal.returns-in-Some-clause-same
returns-in-Some-clause-same g c = c.build_from.ensures.same
