use Rattle.std.proofs.Common.{rules, ◌+◌, ◌-◌, ◌*◌, ℕ, take, drop, inl, inr, arith, subst}
use Rattle.std.proofs.lemmas.Bool.{cases_lt}
use Rattle.rb_base.specs.Fields.{part}
use Rattle.rb_base.specs.declared.sizes.TheConstants.{UNIT}
use Rattle.rb_store.specs.Meaning.{IsHeaded}
use Rattle.rb_store.proofs.headers.are_headed.Goals as goal

pub returns-then-not-is_headed : goal.returns-then-not-is_headed
returns-then-not-is_headed c = (
  search rules,
  λ all.
      let k = c.loop-k.k in
      let one = all k (omega (arith, c.loop-k-test.true)) in
      let sliced = subst (λ (n : ℕ). IsHeaded c.args.shape c.args.last (c.args.first + k) (take n (drop (UNIT * k) c.args.blocks.now))) {x = UNIT} {y = UNIT * k + UNIT - UNIT * k} (omega arith) one in
      cc (c.is_headed.ensures.1 sliced, c.if-not-is_headed.true),
)

pub loop-k-preserved : goal.loop-k-preserved
loop-k-preserved c = λ j lt. elim (cases_lt j c.loop-k.k) [
  | inl before ↦ c.loop-k.invariant j before
  | inr last ↦
      let k = c.loop-k.k in
      let one = c.is_headed.ensures.0 (cc c.if-not-is_headed.false) in
      let whole = subst (λ (n : ℕ). IsHeaded c.args.shape c.args.last (c.args.first + k) (take n (drop (UNIT * k) c.args.blocks.now))) {x = UNIT * k + UNIT - UNIT * k} {y = UNIT} (omega arith) one in
      subst (λ (i : ℕ). IsHeaded c.args.shape c.args.last (c.args.first + i) (part c.args.blocks.now (UNIT * i) UNIT)) (omega (arith, lt, last)) whole
]
