-- Homes that are read in pieces of several units.
use Rattle.std.proofs.Common.{◌≡◌, ℕ, ◌+◌, ◌*◌, ◌-◌, ◌<◌, ◌≤◌, List, take, drop, inl, inr, arith, ap, sym, subst, ◌∙◌}
use Rattle.std.proofs.lemmas.Bool.{cases_lt}
use Rattle.std.proofs.lemmas.List.{drop-take, take-take, drop-drop}
use Rattle.rb_base.specs.Fields.{part}
use Rattle.rb_base.specs.declared.sizes.TheConstants.{UNIT}
use Rattle.rb_layout.specs.Regions.{block_offset, shape_of}
use Rattle.rb_layout.specs.declared.layout.Layout.{Layout}
use Rattle.rb_twin.specs.Twins.{home}
use Rattle.rb_store.specs.Meaning.{AreHomesHeaded, IsHeaded}

-- one home of a piece
pub home_in_piece : (l : Layout) (file bytes : List ℕ) (first count k : ℕ) → bytes ≡ part file (block_offset l first) (UNIT * count) → k < count
    → part bytes (UNIT * k) UNIT ≡ home l file (first + k)
home_in_piece l file bytes first count k is lt =
    let all = drop (block_offset l first) file in
    ap (λ (b : List ℕ). take UNIT (drop (UNIT * k) b)) is
    ∙ sym (drop-take (UNIT * k) UNIT (take (UNIT * count) all))
    ∙ ap (drop (UNIT * k)) (take-take (UNIT * k + UNIT) (UNIT * count) all (omega (arith, lt)))
    ∙ drop-take (UNIT * k) UNIT all
    ∙ ap (take UNIT) (drop-drop (UNIT * k) (block_offset l first) file ∙ ap (λ (i : ℕ). drop i file) (omega arith))

-- the homes so far, and those of a piece
pub headed_more : (l : Layout) (last : ℕ) (file : List ℕ) (first count : ℕ) → AreHomesHeaded l last file first
    → ((k : ℕ) → k < count → IsHeaded (shape_of l) last (first + k) (home l file (first + k))) → AreHomesHeaded l last file (first + count)
headed_more l last file first count before piece k lt = elim (cases_lt k first) [
  | inl low ↦ before k low
  | inr high ↦ subst (λ (i : ℕ). IsHeaded (shape_of l) last i (home l file i)) (omega (arith, high)) (piece (k - first) (omega (arith, lt, high)))
]

-- those of a piece where all are headed
pub piece_headed : (l : Layout) (last : ℕ) (file bytes : List ℕ) (first count end : ℕ) → bytes ≡ part file (block_offset l first) (UNIT * count) → first + count ≤ end
    → ((k : ℕ) → k < end → IsHeaded (shape_of l) last k (home l file k))
    → (k : ℕ) → k < count → IsHeaded (shape_of l) last (first + k) (part bytes (UNIT * k) UNIT)
piece_headed l last file bytes first count end is le all k lt =
    subst (λ (x : List ℕ). IsHeaded (shape_of l) last (first + k) x) (sym (home_in_piece l file bytes first count k is lt)) (all (first + k) (omega (arith, le, lt)))
