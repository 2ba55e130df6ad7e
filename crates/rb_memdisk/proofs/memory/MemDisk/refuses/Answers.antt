use Rattle.std.proofs.Common.{rules, ◌≡◌, ◌+◌, ℕ, List, length, eqb, inl, ⊎_elim, subst, arith}
use Rattle.std.specs.Prelude.{Contains}
use Rattle.std.specs.Bool.{Decides}
use Rattle.std.proofs.lemmas.Bool.Decides.{Decides-eqb}
use Rattle.std.proofs.lemmas.List.Elements.{contains_decides, Decides-contains}
use Rattle.rb_memdisk.proofs.memory.MemDisk.refuses.Goals as goal

pub returns-else-len-self : goal.returns-else-len-self
returns-else-len-self c =
    let number : c.len-else-len-self.result ≡ length c.args.self.now.calls.items = search rules in
    let made : c.len.result ≡ length c.args.self.now.calls.items = search rules in
    let found = Decides-contains c.deref.result.now (c.len-else-len-self.result + 1) c.contains.result
    (contains_decides eqb Decides-eqb c.deref.result.now (c.len-else-len-self.result + 1) c.contains.result c.contains.ensures.cases) in
    let listed : Decides c.contains.result (Contains c.args.self.now.failing.items (length c.args.self.now.calls.items + 1)) =
    subst (λ (l : List ℕ). Decides c.contains.result (Contains l (length c.args.self.now.calls.items + 1))) c.deref.ensures.value
    (subst (λ (n : ℕ). Decides c.contains.result (Contains c.deref.result.now (n + 1))) number found) in
    (λ yes. inl (listed.0 yes), λ refused. ⊎_elim (λ here. listed.1 here) (λ full. absurd (omega (arith, full, made))) refused)
