use Rattle.std.proofs.lemmas.Result.{on_ok_weaker}
use Rattle.rb_store.proofs.cached_file.CachedFile.clean_all.Goals as goal

pub returns-clause-any_moment : goal.returns-clause-any_moment
returns-clause-any_moment g c told groups = rw (← c.self.view_is) (λ count log. c.clean_all.ensures.any_moment told groups (record { count = count; log = log }))

pub returns-clause-settled : goal.returns-clause-settled
returns-clause-settled g c told = rw (← c.self.view_is) (on_ok_weaker c.clean_all.result (λ s. record { calm = s.calm; clean = s.clean; only = s.only; shut = s.shut }) (c.clean_all.ensures.settled told))
