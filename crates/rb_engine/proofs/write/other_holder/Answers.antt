use Rattle.std.proofs.Common.{◌≡◌, ℕ, List, Option, Some, sym, ◌∙◌, ap, subst}
use Rattle.rb_base.specs.declared.ids.Xid.{Xid}
use Rattle.rb_engine.specs.Does.{Kept}
use Rattle.rb_sessions.specs.Kept.{KeptSession, kept_at}
use Rattle.law_blocks.specs.Standing.{env_of}
use Rattle.rb_steps.specs.Steps.{IsHolder}
use Rattle.rb_engine.proofs.WriteLemmas.{holder_found, holder_only, holder_there, none_holds, own_holds}
use Rattle.rb_engine.proofs.write.other_holder.Goals as goal
use Rattle.rb_engine.proofs.write.other_holder.Goals.{in-Some, in_default-2, in_default}

pub returns-in-Ok-None-clause-other : goal.returns-in-Ok-None-clause-other
returns-in-Ok-None-clause-other g c = λ told h xids stand shape knows living.
    let s = g.T.Store in
    let held = holder_found s c.args.store.now h xids c.args.table c.args.key c.in-Ok-None.field-0 c.requires.table.0 c.requires.table.1 (c.in-Ok-None.ensures.holder told) stand shape in
    none_holds h c.args.s c.args.table c.args.key (subst (λ (o : Option Xid). IsHolder h (env_of h.shape (s.blocks c.args.store.now)) c.args.table c.args.key o) c.in-Ok-None.field-0-is held)

pub returns-clause-other : goal.returns-clause-other
returns-clause-other g c = λ told h xids stand shape knows living.
    let s = g.T.Store in
    let blocks = s.blocks c.args.store.now in
    let x = c.in-Ok-Some.xid in
    let sessions = c.args.memory.now.sessions in
    let table : c.memory.inside.sessions ≡ sessions = ap (λ (k : Kept). k.sessions) c.memory.view_is in
    let named = holder_found s c.args.store.now h xids c.args.table c.args.key c.in-Ok-Some.field-0 c.requires.table.0 c.requires.table.1 (c.in-Ok-Some.ensures.holder told) stand shape in
    let held : IsHolder h (env_of h.shape blocks) c.args.table c.args.key (Some x) = subst (λ (o : Option Xid). IsHolder h (env_of h.shape blocks) c.args.table c.args.key o) c.in-Ok-Some.field-0-is named in
    let inside : (u : ℕ) → (kept_at c.memory.inside.sessions u).own ≡ Some x → (kept_at sessions u).own ≡ Some x = λ u own. subst (λ (l : List KeptSession). (kept_at l u).own ≡ Some x) table own in
    elim c.match-owner.branch [
      | in-Some w ↦
          let on = w.in-Some.on in
          let its = w.in-Some.ensures.found in
          let only = holder_only h xids blocks sessions knows c.args.table c.args.key x held on its.0 its.1 (inside on its.2) in
          rw w.result-is (held.2 ∙ ap (λ (n : ℕ). Some n) only, w.if-on-s.true)
      | in_default-2 w ↦
          let on = w.in-Some.on in
          let its = w.in-Some.ensures.found in
          let only = holder_only h xids blocks sessions knows c.args.table c.args.key x held on its.0 its.1 (inside on its.2) in
          rw w.result-is (own_holds h c.args.s c.args.table c.args.key held.0 held.2 (only ∙ w.if-on-s.false))
      | in_default w ↦ absurd (holder_there h xids blocks sessions knows c.args.table c.args.key x held stand living (λ u low high own. w.in_default.ensures.none u low high (subst (λ (l : List KeptSession). (kept_at l u).own ≡ Some x) (sym table) own)))
    ]
