use Rattle.std.proofs.Common.{◌≡◌, ◌∙◌, inl, inr, ℕ, sym, ap, subst, arith}
use Rattle.std.proofs.lemmas.Bool.{cases_eq}
use Rattle.rb_cr.specs.Rows.{IsFound, Reaches, kept_key}
use Rattle.rb_cr.specs.Scratches.{shown_over}
use Rattle.rb_cr.proofs.rows.least_kept.Goals as goal

pub loop-i-preserved : goal.loop-i-preserved
loop-i-preserved c =
    let kept = c.args.kept.now in
    let rows = shown_over c.args.cells.now kept in
    let w = c.args.wanted in
    let inv = c.loop-i.invariant in
    let call = c.lesser-least.ensures in
    record {
      found = λ first. call.found (inv.found first);
      stays = λ k first. call.stays k (inv.stays k first);
      reached = λ j lt is. elim (cases_eq j c.loop-i.i) [
        | inl same ↦
            let key : kept_key kept j ≡ c.key.result = ap (kept_key kept) same ∙ sym c.key.ensures in
            subst (λ (z : ℕ). Reaches c.lesser-least.result z) (sym key) (call.lower (subst (λ (z : ℕ). IsFound w.after w.lo w.hi rows z) key is))
        | inr ne ↦ call.stays (kept_key kept j) (inv.reached j (omega (arith, lt, ne)) is)
      ];
    }
