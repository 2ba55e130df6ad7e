-- The savepoints of a session at the first place of a name, as the table's view sees them.
use Rattle.std.proofs.Common.{◌≡◌, ◌∙◌, ℕ, zero, suc, ◌+◌, not, List, [], ◌∷◌, map, filter, get_or, take, Some, None, refl, sym, ap, add-one}
use Rattle.std.proofs.lemmas.Bool.{cond-true, cond-false}
use Rattle.std.specs.List.{position}
use Rattle.std.specs.Str.{bytes_eq}
use Rattle.rb_model.specs.Calls.{without_savepoint}
use Rattle.rb_model.specs.NextState.{up_to}
use Rattle.rb_model.specs.State.{savepoint_named}
use Rattle.rb_sessions.specs.declared.named.Named.{Named}
use Rattle.rb_sessions.specs.declared.savepoint.Mark.{Mark}
use Rattle.rb_sessions.specs.Kept.{savepoint_view}
use Rattle.rb_sessions.proofs.Places.{IsNowhere, IsPlace, filter_viewed, has_name, nowhere_of, place_of}

set-at : (name : List ℕ) (savepoints : List (Named Mark)) (i : ℕ) (d : Named Mark) → IsPlace (has_name name) savepoints i → savepoint_named name (map savepoint_view savepoints) ≡ Some (savepoint_view (get_or savepoints i d))
set-at name [] i d at = absurd at
set-at name (p ∷ savepoints) zero d at = cond-true (has_name name p) _ _ at
set-at name (p ∷ savepoints) (suc i) d at = cond-false (has_name name p) _ _ at.0 ∙ set-at name savepoints i d at.1

set-none : (name : List ℕ) (savepoints : List (Named Mark)) → IsNowhere (has_name name) savepoints → savepoint_named name (map savepoint_view savepoints) ≡ None
set-none name [] none = refl
set-none name (p ∷ savepoints) none = cond-false (has_name name p) _ _ none.0 ∙ set-none name savepoints none.1

cut-at : (name : List ℕ) (savepoints : List (Named Mark)) (i : ℕ) → IsPlace (has_name name) savepoints i → up_to name (map savepoint_view savepoints) ≡ map savepoint_view (take (suc i) savepoints)
cut-at name [] i at = absurd at
cut-at name (p ∷ savepoints) zero at = cond-true (has_name name p) _ _ at
cut-at name (p ∷ savepoints) (suc i) at = cond-false (has_name name p) _ _ at.0 ∙ ap (λ ps. savepoint_view p ∷ ps) (cut-at name savepoints i at.1)

-- the same, from what a search of the name tells

pub is_set : (name : List ℕ) (savepoints : List (Named Mark)) (i : ℕ) (d : Named Mark) → position (has_name name) savepoints ≡ Some i → savepoint_named name (map savepoint_view savepoints) ≡ Some (savepoint_view (get_or savepoints i d))
is_set name savepoints i d is = set-at name savepoints i d (place_of (has_name name) savepoints i is)

pub not_set : (name : List ℕ) (savepoints : List (Named Mark)) → position (has_name name) savepoints ≡ None → savepoint_named name (map savepoint_view savepoints) ≡ None
not_set name savepoints is = set-none name savepoints (nowhere_of (has_name name) savepoints is)

-- the savepoints up to it
pub cut : (name : List ℕ) (savepoints : List (Named Mark)) (i : ℕ) → position (has_name name) savepoints ≡ Some i → up_to name (map savepoint_view savepoints) ≡ map savepoint_view (take (i + 1) savepoints)
cut name savepoints i is = cut-at name savepoints i (place_of (has_name name) savepoints i is) ∙ ap (λ n. map savepoint_view (take n savepoints)) (sym (add-one i))

-- those of other names
pub erased : (name : List ℕ) (savepoints : List (Named Mark)) → map savepoint_view (filter (λ p. not (has_name name p)) savepoints) ≡ without_savepoint name (map savepoint_view savepoints)
erased name savepoints = filter_viewed savepoint_view (λ p. not (bytes_eq p.name name)) savepoints
