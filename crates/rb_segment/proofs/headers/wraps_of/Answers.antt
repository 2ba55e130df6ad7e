use Rattle.std.proofs.Common.{◌≡◌, ◌<◌, ◌+◌, inl, inr, ℕ, List, [], length, set, slice_index, true, false, refl, sym, ap, ◌∙◌, arith}
use Rattle.std.proofs.lemmas.Bool.{cases_eq}
use Rattle.std.proofs.lemmas.List.{get_or-set_same, get_or-set_other, length-set}
use Rattle.rb_base.specs.declared.sizes.TheConstants.{SLOTS}
use Rattle.rb_base.specs.Logs.{more_logs}
use Rattle.rb_base.specs.declared.shape.Shape.{Shape}
use Rattle.rb_segment.specs.Segments.{wrap_at, wrap_in}
use Rattle.rb_segment.proofs.headers.wraps_of.Goals as goal

-- the wraps of one segment more
wraps_more : (wraps : List (List ℕ)) (g : ℕ) (here : List ℕ) (at : ℕ → ℕ → ℕ) → g < length wraps → ((slot : ℕ) → slot < SLOTS → slice_index here slot ≡ at g slot) → ((seg slot : ℕ) → seg < g → slot < SLOTS → wrap_in wraps seg slot ≡ at seg slot)
    → (seg slot : ℕ) → seg < g + 1 → slot < SLOTS → wrap_in (set wraps g here) seg slot ≡ at seg slot
wraps_more wraps g here at fits is below seg slot lt few = elim (cases_eq seg g) [
  | inl same ↦ ap (λ (k : ℕ). wrap_in (set wraps g here) k slot) same ∙ (ap (λ (l : List ℕ). slice_index l slot) (get_or-set_same wraps g here [] fits) ∙ (is slot few ∙ ap (λ (k : ℕ). at k slot) (sym same)))
  | inr ne ↦ ap (λ (l : List ℕ). slice_index l slot) (get_or-set_other wraps g seg here [] ne) ∙ below seg slot (omega (arith, lt, ne)) few
]

pub returns-in_err-wraps-clause-logs : goal.returns-in_err-wraps-clause-logs
returns-in_err-wraps-clause-logs g c =
    rw c.from_residual.ensures.0 (more_logs g.S.Store c.args.store.now c.loop-g.store c.header_wraps.new.store [] [] false c.loop-g.invariant.logs c.in_err-wraps.ensures.logs)

pub loop-g-preserved : goal.loop-g-preserved
loop-g-preserved g c =
    let s = g.S.Store in
    let old = c.args.store.now in
    let shape = s.shape_of old in
    let so_far = c.loop-g.invariant in
    let n = c.loop-g.g in
    record {
      logs = more_logs s old c.loop-g.store c.header_wraps.new.store [] [] true so_far.logs c.in_ok-wraps.ensures.logs;
      size = length-set c.loop-g.wraps n c.in_ok-wraps.field-0 ∙ so_far.size;
      so_far = λ told.
          wraps_more c.loop-g.wraps n c.in_ok-wraps.field-0 (wrap_at shape (s.blocks old)) (omega (arith, so_far.size, c.loop-g-test.true, c.shape-shape.ensures.in_range.few_segments.1))
          (λ slot few. c.in_ok-wraps.ensures.told told slot few
          ∙ (ap (λ (l : List (List ℕ)). wrap_at c.shape-shape.result l n slot) (so_far.logs.blocks told refl)
          ∙ ap (λ (k : Shape). wrap_at k (s.blocks old) n slot) c.shape-shape.ensures.shape))
          (so_far.so_far told);
    }
