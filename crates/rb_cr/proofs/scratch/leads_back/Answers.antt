use Rattle.std.proofs.Common.{◌≡◌, ◌≢◌, ◌==◌, ◌∙◌, true, false, refl, sym, arith}
use Rattle.std.proofs.lemmas.Bool.Decides.{nat_tests}
use Rattle.law_read.specs.Chains.{is_own}
use Rattle.law_blocks.specs.Says.{walk_entry}
use Rattle.rb_cr.proofs.scratch.leads_back.Goals as goal

pub returns-then-is_own : goal.returns-then-is_own
returns-then-is_own c = λ shape. let own : is_own c.args.xid (walk_entry shape c.args.before.now) ≡ true = sym (c.is_own.ensures shape) ∙ c.if-is_own.true in rw (own, c.from.ensures, c.from-then-is_own.ensures) refl

pub returns-then-entry-eq1 : goal.returns-then-entry-eq1
returns-then-entry-eq1 c = λ shape.
    let own : is_own c.args.xid (walk_entry shape c.args.before.now) ≡ false = sym (c.is_own.ensures shape) ∙ c.if-is_own.false in
    let one : c.args.entry.now.length ≡ 1 = c.if-entry-eq1.true in
    let test : (c.args.entry.now.length == 1) ≡ true = grind (arith, nat_tests) in
    rw (own, test) (c.number_falls.ensures shape)

pub returns-else-entry-eq1 : goal.returns-else-entry-eq1
returns-else-entry-eq1 c = λ shape.
    let own : is_own c.args.xid (walk_entry shape c.args.before.now) ≡ false = sym (c.is_own.ensures shape) ∙ c.if-is_own.false in
    let more : c.args.entry.now.length ≢ 1 = c.if-entry-eq1.false in
    let test : (c.args.entry.now.length == 1) ≡ false = grind (arith, nat_tests) in
    rw (own, test) refl
