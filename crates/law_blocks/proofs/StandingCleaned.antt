-- A cleaning of one home keeps what segments and homes stand for.
use Rattle.std.proofs.Common.{◌≡◌, ◌≢◌, ◌+◌, inl, inr, ℕ, List, map, sym, ◌∙◌, ap, subst, arith}
use Rattle.std.proofs.lemmas.Bool.{cases_eq}
use Rattle.rb_base.specs.declared.shape.Shape.{Shape}
use Rattle.rb_segment.specs.Header.{Segment}
use Rattle.rb_segment.proofs.Later.{numbers_later}
use Rattle.law_blocks.specs.Says.{says}
use Rattle.law_blocks.specs.Values.{Past, HomeStands, HomesStand, StandingAs, made_by, rows_here}
use Rattle.law_blocks.proofs.Commits.{with_laws, without_laws}
use Rattle.law_home.specs.Homes.{here, narrow}
use Rattle.law_home.specs.Steps.{cleaned}
use Rattle.law_home.specs.Walk.{Change, Home}
use Rattle.law_home.proofs.Standing.{stands_clean}

module _ (shape : Shape) (commit logged : ℕ) (segments : ℕ → Segment) (homes : ℕ → Home) (past : Past) (lives : List (List Change)) (stand : StandingAs shape commit logged segments homes past lives) (homes2 : ℕ → Home) (b : ℕ) (is : homes2 b ≡ cleaned (says shape segments) (homes b)) (others : (k : ℕ) → k ≢ b → homes2 k ≡ homes k) where
  abbrev Here : ℕ → Home → Type 0
  Here k home = HomeStands (says shape segments) (made_by segments) past.base (rows_here shape k past.rows) (map (narrow k) past.list) (map (here k) lives) home

  clean_here : (k : ℕ) (home : Home) → Here k home → Here k (cleaned (says shape segments) home)
  clean_here k home stands =
      without_laws (says shape segments) (made_by segments) (made_by segments) past.base (rows_here shape k past.rows) (map (narrow k) past.list) (map (here k) lives) (cleaned (says shape segments) home) (λ g. omega arith)
      (stands_clean past.base (rows_here shape k past.rows) (map (narrow k) past.list) (made_by segments) (says shape segments) (map (here k) lives) home
      (with_laws shape segments past.base (rows_here shape k past.rows) (map (narrow k) past.list) (map (here k) lives) home stands))

  homes_after : HomesStand shape segments homes2 past lives
  homes_after k k_in = elim (cases_eq k b) [
    | inl at ↦ subst (λ (z : Home). Here k z) (sym (ap homes2 at ∙ is ∙ ap (λ (z : ℕ). cleaned (says shape segments) (homes z)) (sym at))) (clean_here k (homes k) (stand.homes_stand k k_in))
    | inr ne ↦ subst (λ (z : Home). Here k z) (sym (others k ne)) (stand.homes_stand k k_in)
  ]

  pub standing_cleaned : StandingAs shape commit (logged + 1) segments homes2 past lives
  standing_cleaned = record {
    slots_counted = stand.slots_counted;
    number = stand.number;
    in_order = λ g g_in. let o = stand.in_order g g_in in record { header = o.header; undo_counted = o.undo_counted; numbers = numbers_later logged (logged + 1) (segments g) (omega arith) o.numbers };
    apart = stand.apart;
    slots = stand.slots;
    homes_stand = homes_after;
  }
