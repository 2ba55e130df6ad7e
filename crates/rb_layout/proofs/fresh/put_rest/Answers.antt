use Rattle.std.proofs.Common.{ap, ◌∙◌, sym, List, ℕ, inl, inr}
use Rattle.rb_base.specs.Blocks.{fresh_rest}
use Rattle.rb_base.specs.Fields.{with_number}
use Rattle.rb_layout.specs.Kinds.{kind_number}
use Rattle.rb_layout.proofs.Turns.{turns_put}
use Rattle.rb_layout.proofs.fresh.put_rest.Goals as goal

pub returns-in-Segment : goal.returns-in-Segment
returns-in-Segment c =
    c.put_u64-in-Segment.ensures
    ∙ ap (λ (l : List ℕ). with_number l 1056 8 1) c.put_u64.ensures
    ∙ turns_put c.args.rest.now c.requires
    ∙ ap (λ k. fresh_rest (kind_number k)) (sym c.in-Segment.is)

pub returns-in-Rows : goal.returns-in-Rows
returns-in-Rows c = elim c.in-Rows.is [
  | inl rows ↦ c.requires ∙ ap (λ k. fresh_rest (kind_number k)) (sym rows)
  | inr undo ↦ c.requires ∙ ap (λ k. fresh_rest (kind_number k)) (sym undo)
]
