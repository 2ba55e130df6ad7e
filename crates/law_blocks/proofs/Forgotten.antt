-- The past may be forgotten, also while changes are live: the rows after its commits are the new base.
use Rattle.std.proofs.Common.{ℕ, List, [], map, subst}
use Rattle.rb_base.specs.declared.shape.Shape.{Shape}
use Rattle.rb_model.specs.Rows.{TableRow}
use Rattle.rb_segment.specs.Header.{Segment}
use Rattle.law_blocks.specs.Says.{says}
use Rattle.law_blocks.specs.Forgotten.{IsAfter, forgotten_past}
use Rattle.law_blocks.specs.Values.{Past, HomesStand, rows_here, StandingAs}
use Rattle.law_home.specs.Homes.{here, narrow}
use Rattle.law_home.specs.Walk.{Change, Home, Boundary, Walk, rows_of, last, Below, entry_at}
use Rattle.law_home.proofs.Committing.{top}
use Rattle.law_home.proofs.Weaker.{tree_weaker, match_same}
use Rattle.law_home.proofs.Homes.{last_here}

module _ (shape : Shape) (segments : ℕ → Segment) (homes : ℕ → Home) (past : Past) (rows : List TableRow) (is : IsAfter shape past rows) (lives : List (List Change)) where
  pub homes_forgotten : HomesStand shape segments homes past lives → HomesStand shape segments homes (forgotten_past past rows) lives
  homes_forgotten stand b b_in = let h = stand b b_in in record {
    m = h.m;
    tree = tree_weaker (says shape segments) (Walk (says shape segments) past.base (rows_here shape b past.rows) (map (narrow b) past.list)) (Walk (says shape segments) (last past.base past.list) (rows_here shape b rows) []) (λ c walk. let t : Boundary (says shape segments) c (last past.base (map (narrow b) past.list)) (rows_of (rows_here shape b past.rows) (map (narrow b) past.list)) = top (says shape segments) past.base (rows_here shape b past.rows) (map (narrow b) past.list) c walk in record { is = match_same c (rows_of (rows_here shape b past.rows) (map (narrow b) past.list)) (rows_here shape b rows) (λ k. is.same b k b_in) t.is; below = λ i. subst (λ (n : ℕ). Below (says shape segments) (entry_at c i) n) (last_here b past.base past.list) (t.below i) }) h.m (map (here b) lives) (homes b) h.tree;
    unique = h.unique;
    locks = h.locks;
    old = tt;
  }

  pub standing_forgotten : (commit logged : ℕ) → StandingAs shape commit logged segments homes past lives → StandingAs shape commit logged segments homes (forgotten_past past rows) lives
  standing_forgotten commit logged stand = record {
    slots_counted = stand.slots_counted;
    number = stand.number;
    in_order = stand.in_order;
    apart = stand.apart;
    slots = stand.slots;
    homes_stand = homes_forgotten stand.homes_stand;
  }
