use Rattle.std.proofs.Common.{rules, ◌≡◌, ℕ, length, inl, inr, ◌∙◌, ap, sym, subst, arith, false}
use Rattle.std.proofs.lemmas.Bool.{cases_eq, cases_lt}
use Rattle.std.proofs.lemmas.List.{get_or_past, length-map}
use Rattle.rb_cr.specs.Scratches.{scratch_home}
use Rattle.law_read.specs.Chains.{is_own}
use Rattle.law_blocks.specs.Says.{walk_entry}
use Rattle.law_home.specs.Walk.{entry_at, free_entry}
use Rattle.rb_cr.proofs.Tops.{entry_is}
use Rattle.rb_cr.proofs.copies.has_entry.Goals as goal

pub loop-i-preserved : goal.loop-i-preserved
loop-i-preserved c = λ shape j up. elim (cases_eq j c.loop-i.i) [
  | inl is ↦
      let es = c.args.scratch.now.entries in
      let eight : length es ≡ 8 = search rules in
      subst (λ (n : ℕ). is_own c.args.xid (entry_at (scratch_home shape c.args.scratch.now) n) ≡ false) (sym is)
      (ap (is_own c.args.xid) (entry_is shape es c.loop-i.i (let lt = c.loop-i-test.true in omega (arith, eight, lt))) ∙ (sym (c.is_own.ensures shape) ∙ c.if-is_own.false))
  | inr ne ↦ c.loop-i.invariant shape j (omega (arith, up, ne))
]

pub returns-then-is_own-clause-some : goal.returns-then-is_own-clause-some
returns-then-is_own-clause-some c = λ yes shape.
    let es = c.args.scratch.now.entries in
    let eight : length es ≡ 8 = search rules in
    (c.loop-i.i, ap (is_own c.args.xid) (entry_is shape es c.loop-i.i (let lt = c.loop-i-test.true in omega (arith, eight, lt))) ∙ (sym (c.is_own.ensures shape) ∙ c.if-is_own.true))

pub returns-clause-none : goal.returns-clause-none
returns-clause-none c = λ no shape j.
    let es = c.args.scratch.now.entries in
    let eight : length es ≡ 8 = search rules in
    elim (cases_lt j 8) [
      | inl lt ↦ c.loop-i.invariant shape j (let past = c.loop-i-test.false in omega (arith, lt, past))
      | inr past ↦ ap (is_own c.args.xid) (get_or_past (scratch_home shape c.args.scratch.now).entries j free_entry (omega (arith, past, length-map es (walk_entry shape), eight)))
    ]
