use Rattle.std.proofs.Common.{◌≡◌, ◌↔◌, Bool, true, false, refl, sym, ◌∙◌, ap, subst}
use Rattle.std.proofs.lemmas.Bool.{iff_false, false≢true}
use Rattle.std.proofs.lemmas.Result.{IfOk-weaker}
use Rattle.rb_base.specs.Logs.{no_logs}
use Rattle.rb_base.specs.declared.sizes.TheConstants.{ACTIVE}
use Rattle.rb_segment.specs.Header.{Header, segment_of, slot_in}
use Rattle.rb_sound.specs.Active.{Fits, Chain, HasBegun, IsActive}
use Rattle.rb_txntable.specs.declared.slots.TableSlot.{TableSlot}
use Rattle.rb_sound.proofs.Chains.{active_is, header_is, slot_is}
use Rattle.rb_sound.proofs.active.slot_sound.Goals as goal

pub returns-then-slot-ne-ACTIVE-clause-logs : goal.returns-then-slot-ne-ACTIVE-clause-logs
returns-then-slot-ne-ACTIVE-clause-logs g c = no_logs g.S.Store c.args.store.now c.requires.going

pub returns-then-not-has_begun-clause-logs : goal.returns-then-not-has_begun-clause-logs
returns-then-not-has_begun-clause-logs g c = no_logs g.S.Store c.args.store.now c.requires.going

pub returns-then-slot-ne-ACTIVE-clause-told : goal.returns-then-slot-ne-ACTIVE-clause-told
returns-then-slot-ne-ACTIVE-clause-told g c told =
    let same = c.slot_at-slot.ensures ∙ slot_is c.args.shape (g.S.Store.blocks c.args.store.now) c.args.g c.args.i c.args.header.now (c.requires.told told) c.requires.place in
    ((λ (e : true ≡ true) active. absurd (c.if-slot-ne-ACTIVE.true (ap (λ (s : TableSlot). s.state) same ∙ active))), λ _. refl)

pub returns-then-not-has_begun-clause-told : goal.returns-then-not-has_begun-clause-told
returns-then-not-has_begun-clause-told g c told =
    let blocks = g.S.Store.blocks c.args.store.now in
    let header = header_is c.args.shape blocks c.args.g c.args.header.now (c.requires.told told) in
    let same = c.slot_at-slot.ensures ∙ slot_is c.args.shape blocks c.args.g c.args.i c.args.header.now (c.requires.told told) c.requires.place in (
      λ (e : false ≡ true). absurd (false≢true e),
      λ all.
          let begun = (all (ap (λ (s : TableSlot). s.state) (sym same) ∙ c.if-slot-ne-ACTIVE.false)).begun in
          absurd (iff_false c.has_begun.ensures c.if-not-has_begun.true (subst (λ (h : Header). HasBegun h c.slot_at-slot.result) (sym header) (subst (HasBegun (segment_of c.args.shape blocks c.args.g).header) (sym same) begun))),
    )

pub returns-clause-told : goal.returns-clause-told
returns-clause-told g c told =
    let blocks = g.S.Store.blocks c.args.store.now in
    let slot = c.slot_at-slot.result in
    let s = segment_of c.args.shape blocks c.args.g in
    IfOk-weaker c.chain_sound.result
    (λ (sound : Bool). sound ≡ true ↔ Chain (Fits c.args.limits.now) c.args.shape s (record { seg = c.args.g; slot = c.args.i; wrap = slot.wrap }) slot.live slot.newest_at)
    (λ (sound : Bool). sound ≡ true ↔ ((slot_in s.header c.args.i).state ≡ ACTIVE → IsActive (Fits c.args.limits.now) c.args.shape c.args.g s c.args.i))
    (λ sound chain. active_is (Fits c.args.limits.now) c.args.shape blocks c.args.g c.args.i c.args.header.now slot sound (c.requires.told told) c.requires.place c.slot_at-slot.ensures (c.has_begun.ensures.0 c.if-not-has_begun.false) chain c.if-slot-ne-ACTIVE.false)
    (c.chain_sound.ensures.told told)
