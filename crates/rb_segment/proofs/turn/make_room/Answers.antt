use Rattle.std.proofs.Common.{[], inl, inr, ⊎_elim, refl, sym, subst, arith}
use Rattle.std.proofs.lemmas.List.{append-nil}
use Rattle.rb_ring.specs.Ring.{extent_ord, head_records}
use Rattle.rb_ring.specs.Turns as ring
use Rattle.rb_ring.specs.Turns.{PinsAt, TurnIs}
use Rattle.rb_ring.specs.declared.turns.Turn.{Turn}
use Rattle.rb_ring.specs.declared.turns.Turn.TheVariants.{Reuse, Grow}
use Rattle.rb_segment.proofs.Parts.{ring_read}
use Rattle.rb_segment.proofs.TurnRead.{may_read, none_read, one_runs}
use Rattle.rb_segment.specs.Calls.{turn_patches}
use Rattle.rb_segment.specs.Header.{header_of}
use Rattle.rb_segment.proofs.turn.make_room.Goals as goal

pub returns-in-Same-clause-room : goal.returns-in-Same-clause-room
returns-in-Same-clause-room c = let r = (ring_read c.args.header.now).1 in let few = c.in-Same.ensures in omega (arith, r, few)

pub returns-in-Same-clause-turned : goal.returns-in-Same-clause-turned
returns-in-Same-clause-turned c =
    let r = (ring_read c.args.header.now).1 in let few = c.in-Same.ensures in
    ([], record { copy = refl; group = sym (append-nil c.args.group.now) }, λ head young. inl (omega (arith, r, few), refl, refl))

pub returns-in-Full-clause-full : goal.returns-in-Full-clause-full
returns-in-Full-clause-full c =
    let none = none_read c.args.header.now c.in-Full.ensures in
    let one = one_runs (header_of c.args.header.now) none in
    (refl, none, c.since.ensures one.0 one.1 one.2, refl, refl)

pub returns-in-Reuse-clause-turned : goal.returns-in-Reuse-clause-turned
returns-in-Reuse-clause-turned c =
    let block = c.args.block in
    let old = c.args.header.now in
    let e = c.in-Reuse.extent in
    let may : ring.MayTurn (head_records old) (extent_ord old) (PinsAt old) e = ⊎_elim
    (λ reuse. let told : TurnIs old (Reuse e) = subst (λ (t : Turn). TurnIs old t) reuse c.next.ensures in told.0)
    (λ grow. let told : TurnIs old (Grow e) = subst (λ (t : Turn). TurnIs old t) grow c.next.ensures in told.0) c.in-Reuse.is in (
      turn_patches block (header_of c.take_turn.new.header),
      record { copy = c.take_turn.ensures.copy; group = c.take_turn.ensures.patches },
      λ head young. inr (e, may_read old e may, c.take_turn.ensures.moved head young, refl),
    )
