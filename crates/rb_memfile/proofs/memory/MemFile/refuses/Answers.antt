-- `contains` decides whether the number of the call is listed
use Rattle.std.proofs.Common.{rules, ◌≡◌, ℕ, List, eqb, subst}
use Rattle.std.specs.Prelude.{Contains}
use Rattle.std.specs.Bool.{Decides}
use Rattle.std.proofs.lemmas.Bool.Decides.{Decides-eqb}
use Rattle.std.proofs.lemmas.List.Elements.{contains_decides, Decides-contains}
use Rattle.rb_memfile.specs.MemFile.{IsTold, calls_of, one_more}
use Rattle.rb_memfile.proofs.memory.MemFile.refuses.Goals as goal

pub returns-clause-told : goal.returns-clause-told
returns-clause-told c =
    let number : c.saturating_add-self.result ≡ one_more (calls_of c.args.self.now) = search rules in
    let found = Decides-contains c.deref.result.now c.saturating_add-self.result c.contains.result
    (contains_decides eqb Decides-eqb c.deref.result.now c.saturating_add-self.result c.contains.result c.contains.ensures.cases) in
    let told : Decides c.contains.result (IsTold c.args.self.now) =
    subst (λ (l : List ℕ). Decides c.contains.result (Contains l (one_more (calls_of c.args.self.now)))) c.deref.ensures.value
    (subst (λ (n : ℕ). Decides c.contains.result (Contains c.deref.result.now n)) number found) in
    (told.0, told.1)
