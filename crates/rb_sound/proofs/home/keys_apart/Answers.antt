use Rattle.std.proofs.Common.{◌≡◌, true, false, refl, arith}
use borrow.Author.Count.{below_more}
use Rattle.std.proofs.lemmas.Bool.{iff_false, false≢true}
use Rattle.rb_heap.specs.Soundness.{IsFirstKeyed}
use Rattle.rb_sound.proofs.Keys.{apart_of_firsts, first_of_apart}
use Rattle.rb_sound.proofs.home.keys_apart.Goals as goal

pub returns-then-not-key_is_first : goal.returns-then-not-key_is_first
returns-then-not-key_is_first c =
    ((λ (e : false ≡ true). absurd (false≢true e)), λ apart. absurd (iff_false c.key_is_first.ensures c.if-not-key_is_first.true (first_of_apart c.args.block.now c.loop-c.c c.loop-c-test.true apart)))

pub loop-c-preserved : goal.loop-c-preserved
loop-c-preserved c = below_more (IsFirstKeyed c.args.block.now) c.loop-c.c c.loop-c.invariant (c.key_is_first.ensures.0 c.if-not-key_is_first.false)

pub returns : goal.returns
returns c = ((λ (e : true ≡ true). apart_of_firsts c.args.block.now (λ k lt. c.loop-c.invariant k (omega arith))), λ _. refl)
