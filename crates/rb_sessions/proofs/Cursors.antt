-- The cursors of a session at the first place of a name, as the table's view sees them.
use Rattle.std.proofs.Common.{arith, length, ◌<◌, ◌≡◌, ◌∙◌, ℕ, zero, suc, false, not, ◌&&◌, nat_lt, List, [], ◌∷◌, map, filter, get_or, set, Some, None, refl, ap}
use Rattle.std.proofs.lemmas.Bool.{cond-true, cond-false}
use Rattle.std.specs.List.{position, remove}
use Rattle.rb_sessions.specs.declared.cursor.Cursor.{Cursor}
use Rattle.rb_sessions.specs.declared.named.Named.{Named}
use Rattle.rb_sessions.specs.Kept.{IsPlaceOf, cursor_view, left_open, named, passed, with_last, without}
use Rattle.rb_sessions.proofs.Places.{IsNowhere, IsPlace, filter_viewed, has_name, nowhere_of, place_of}

-- the cursor with another last key
abbrev pub given_last : ℕ → Named Cursor → Named Cursor
given_last key n = record n { value = record n.value { last = Some key } }

-- the cursor as one of no present transaction
abbrev pub passed_over : Named Cursor → Named Cursor
passed_over n = record n { value = record n.value { present = false } }

-- the first cursor of that name

named-at : (name : List ℕ) (cursors : List (Named Cursor)) (i : ℕ) (d : Named Cursor) → IsPlace (has_name name) cursors i → named name (map cursor_view cursors) ≡ Some (get_or cursors i d).value
named-at name [] i d at = absurd at
named-at name (c ∷ cursors) zero d at = cond-true (has_name name c) _ _ at
named-at name (c ∷ cursors) (suc i) d at = cond-false (has_name name c) _ _ at.0 ∙ named-at name cursors i d at.1

named-none : (name : List ℕ) (cursors : List (Named Cursor)) → IsNowhere (has_name name) cursors → named name (map cursor_view cursors) ≡ None
named-none name [] none = refl
named-none name (c ∷ cursors) none = cond-false (has_name name c) _ _ none.0 ∙ named-none name cursors none.1

last-at : (name : List ℕ) (key : ℕ) (cursors : List (Named Cursor)) (i : ℕ) (d : Named Cursor) → IsPlace (has_name name) cursors i
    → with_last name key (map cursor_view cursors) ≡ map cursor_view (set cursors i (given_last key (get_or cursors i d)))
last-at name key [] i d at = absurd at
last-at name key (c ∷ cursors) zero d at = cond-true (has_name name c) _ _ at
last-at name key (c ∷ cursors) (suc i) d at = cond-false (has_name name c) _ _ at.0 ∙ ap (λ cs. cursor_view c ∷ cs) (last-at name key cursors i d at.1)

without-at : (name : List ℕ) (cursors : List (Named Cursor)) (i : ℕ) → IsPlace (has_name name) cursors i → without name (map cursor_view cursors) ≡ map cursor_view (remove cursors i)
without-at name [] i at = absurd at
without-at name (c ∷ cursors) zero at = cond-true (has_name name c) _ _ at
without-at name (c ∷ cursors) (suc i) at = cond-false (has_name name c) _ _ at.0 ∙ ap (λ cs. cursor_view c ∷ cs) (without-at name cursors i at.1)

without-none : (name : List ℕ) (cursors : List (Named Cursor)) → IsNowhere (has_name name) cursors → without name (map cursor_view cursors) ≡ map cursor_view cursors
without-none name [] none = refl
without-none name (c ∷ cursors) none = cond-false (has_name name c) _ _ none.0 ∙ ap (λ cs. cursor_view c ∷ cs) (without-none name cursors none.1)

-- the same, from what a search of the name tells

pub found : (name : List ℕ) (cursors : List (Named Cursor)) (i : ℕ) (d : Named Cursor) → position (has_name name) cursors ≡ Some i → named name (map cursor_view cursors) ≡ Some (get_or cursors i d).value
found name cursors i d is = named-at name cursors i d (place_of (has_name name) cursors i is)

pub not_found : (name : List ℕ) (cursors : List (Named Cursor)) → position (has_name name) cursors ≡ None → named name (map cursor_view cursors) ≡ None
not_found name cursors is = named-none name cursors (nowhere_of (has_name name) cursors is)

pub place_viewed : (name : List ℕ) (cursors : List (Named Cursor)) (i : ℕ) → position (has_name name) cursors ≡ Some i → (i < length (map cursor_view cursors)) × IsPlaceOf name (map cursor_view cursors) i
place_viewed name cursors i is = viewed cursors i (place_of (has_name name) cursors i is)
  where
    viewed : (cs : List (Named Cursor)) (i : ℕ) → IsPlace (has_name name) cs i → (i < length (map cursor_view cs)) × IsPlaceOf name (map cursor_view cs) i
    viewed [] i at = absurd at
    viewed (c ∷ cs) zero at = (omega arith, at)
    viewed (c ∷ cs) (suc i) at = let rest = viewed cs i at.1 in ((let lt = rest.0 in omega (arith, lt)), (at.0, rest.1))

seen : (name : List ℕ) (cursors : List (Named Cursor)) (i : ℕ) → IsPlaceOf name (map cursor_view cursors) i → IsPlace (has_name name) cursors i
seen name [] i at = absurd at
seen name (c ∷ cursors) zero at = at
seen name (c ∷ cursors) (suc i) at = (at.0, seen name cursors i at.1)

pub there_at : (name : List ℕ) (cursors : List (Named Cursor)) (i : ℕ) (d : Named Cursor) → IsPlaceOf name (map cursor_view cursors) i → named name (map cursor_view cursors) ≡ Some (get_or cursors i d).value
there_at name cursors i d at = named-at name cursors i d (seen name cursors i at)

pub last_there : (name : List ℕ) (key : ℕ) (cursors : List (Named Cursor)) (i : ℕ) (d : Named Cursor) → IsPlaceOf name (map cursor_view cursors) i
    → with_last name key (map cursor_view cursors) ≡ map cursor_view (set cursors i (given_last key (get_or cursors i d)))
last_there name key cursors i d at = last-at name key cursors i d (seen name cursors i at)

pub without_found : (name : List ℕ) (cursors : List (Named Cursor)) (i : ℕ) → position (has_name name) cursors ≡ Some i → without name (map cursor_view cursors) ≡ map cursor_view (remove cursors i)
without_found name cursors i is = without-at name cursors i (place_of (has_name name) cursors i is)

pub without_not_found : (name : List ℕ) (cursors : List (Named Cursor)) → position (has_name name) cursors ≡ None → without name (map cursor_view cursors) ≡ map cursor_view cursors
without_not_found name cursors is = without-none name cursors (nowhere_of (has_name name) cursors is)

-- the cursors that stay, as the view sees them
pub open_left : (first : ℕ) (cursors : List (Named Cursor))
    → map cursor_view (filter (λ n. not (n.value.present && nat_lt first n.value.upto)) cursors) ≡ left_open first (map cursor_view cursors)
open_left first cursors = filter_viewed cursor_view (λ c. not (c.cursor.present && nat_lt first c.cursor.upto)) cursors

-- the cursors that a transaction leaves as it ends, as the view sees them
pub all_passed : (cursors : List (Named Cursor)) → map cursor_view (map passed_over cursors) ≡ map passed (map cursor_view cursors)
all_passed [] = refl
all_passed (c ∷ cursors) = ap (λ cs. cursor_view (passed_over c) ∷ cs) (all_passed cursors)
