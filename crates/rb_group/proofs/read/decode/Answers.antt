use Rattle.std.proofs.Common.{◌+◌, ◌++◌, ◌∷◌, [], length, arith, ap, sym, ◌∙◌}
use Rattle.std.proofs.lemmas.Bool.{eqb-true, eqb-false}
use Rattle.std.proofs.lemmas.List.{nil_from_length}
use Rattle.rb_base.specs.Groups.{patch}
use Rattle.rb_base.proofs.Groups.{length_pushed}
use Rattle.rb_group.proofs.Reading.{read_more, read_fits, read_stuck, read_at_end, read_ended, read_found, spelled_length}
use Rattle.rb_group.proofs.read.decode.Goals.{then-bytes-lt2-via-then-bytes-lt2, then-bytes-lt2-via-else-bytes-lt2+then-bytes-gt-GROUP_BYTES}
use Rattle.rb_group.proofs.read.decode.Goals as goal

pub returns-then-bytes-lt2-clause-none : goal.returns-then-bytes-lt2-clause-none
returns-then-bytes-lt2-clause-none c _ = λ patches s.
    let l = spelled_length c.args.bytes.now patches s in
    elim c.then-bytes-lt2.branch [
      | then-bytes-lt2-via-then-bytes-lt2 w ↦ absurd (omega (arith, l.0, w.if-bytes-lt2.true))
      | then-bytes-lt2-via-else-bytes-lt2+then-bytes-gt-GROUP_BYTES w ↦ absurd (omega (arith, l.1, w.if-bytes-gt-GROUP_BYTES.true))
    ]

pub returns-in_default-clause-none : goal.returns-in_default-clause-none
returns-in_default-clause-none c _ =
    read_stuck c.u16_at-count.result c.args.bytes.now c.loop.counter c.loop.group c.loop.rest.now (omega arith) c.loop-test.true c.loop.invariant c.in_default.ensures.none

pub push-requires-clause-room : goal.push-requires-clause-room
push-requires-clause-room c =
    let p = patch c.in-Some.patch.block c.in-Some.patch.at c.in-Some.patch.bytes.now in
    let h = read_more c.u16_at-count.result c.args.bytes.now c.loop.counter c.loop.group c.loop.rest.now p c.in-Some.behind.now c.loop.invariant c.in-Some.ensures.valid c.in-Some.ensures.found in
    let f = read_fits c.u16_at-count.result c.args.bytes.now (c.loop.counter + 1) (c.loop.group ++ p ∷ []) c.in-Some.behind.now h in
    omega (arith, f, length_pushed c.loop.group p, c.if-bytes-gt-GROUP_BYTES.false)

pub returns-clause-found : goal.returns-clause-found
returns-clause-found c is =
    let count = c.u16_at-count.result in
    let h = read_at_end count c.args.bytes.now c.loop.counter c.loop.group c.loop.rest.now c.loop.auto.counter-end c.loop-test.false c.loop.invariant in
    read_found count c.args.bytes.now c.loop.group c.loop.rest.now (omega arith) (omega arith) (omega arith) h (nil_from_length c.loop.rest.now (eqb-true _ 0 (sym c.is_empty.ensures ∙ is)))

pub returns-clause-none : goal.returns-clause-none
returns-clause-none c is = λ patches s.
    let count = c.u16_at-count.result in
    let h = read_at_end count c.args.bytes.now c.loop.counter c.loop.group c.loop.rest.now c.loop.auto.counter-end c.loop-test.false c.loop.invariant in
    let ended = read_ended count c.args.bytes.now c.loop.group c.loop.rest.now (omega arith) h patches s in
    eqb-false _ 0 (sym c.is_empty.ensures ∙ is) (ap length ended)
