-- The rows of a home are those of the changes that concern it.
use Rattle.std.proofs.Common.{◌≡◌, ◌≢◌, inl, inr, ◌==◌, ℕ, true, false, List, [], ◌∷◌, map, set, refl, sym, ◌∙◌, arith}
use Rattle.std.proofs.lemmas.Bool.{cases_eq}
use Rattle.std.proofs.lemmas.Bool.Decides.{nat_tests}
use Rattle.std.proofs.lemmas.List.{map-set}
use Rattle.rb_model.specs.Change.{Kind, Put, Gone, Held}
use Rattle.law_home.specs.Walk.{Change, Commit, Rows, changed, behind, rows_of, last}
use Rattle.law_home.specs.Homes.{here, narrow, Sited, AllSited}
use Rattle.law_home.proofs.Committing.{changed_other}

pub changed_agrees : (kind : Kind) (key : ℕ) (rows rows2 : Rows) (k : ℕ) → rows k ≡ rows2 k → changed kind key rows k ≡ changed kind key rows2 k
changed_agrees (Put v) key rows rows2 k same = rw same refl
changed_agrees Gone key rows rows2 k same = rw same refl
changed_agrees Held key rows rows2 k same = same

module _ (b : ℕ) where
  behind_here : (chs : List Change) (rows rows2 : Rows) (k : ℕ) → Sited b k chs → rows k ≡ rows2 k → behind chs rows k ≡ behind (here b chs) rows2 k
  behind_here [] rows rows2 k sited same = same
  behind_here (ch ∷ more) rows rows2 k sited same =
      let deep : behind more rows k ≡ behind (here b more) rows2 k = behind_here more rows rows2 k (λ x named. sited x (inr named)) same in
      elim (cases_eq ch.home b) [
        | inl is ↦
            let test : (ch.home == b) ≡ true = grind (arith, nat_tests) in
            rw test (changed_agrees ch.kind ch.key (behind more rows) (behind (here b more) rows2) k deep)
        | inr ne ↦
            let test : (ch.home == b) ≡ false = grind (arith, nat_tests) in
            let other : k ≢ ch.key = λ is. ne (sited ch (inl refl) (sym is)) in
            rw test (changed_other ch.kind ch.key (behind more rows) k other ∙ deep)
      ]

  pub rows_here : (rows : Rows) (list : List Commit) (k : ℕ) → AllSited b k list → rows_of rows list k ≡ rows_of rows (map (narrow b) list) k
  rows_here rows [] k sited = refl
  rows_here rows (t ∷ older) k sited =
      behind_here t.changes (rows_of rows older) (rows_of rows (map (narrow b) older)) k sited.0 (rows_here rows older k sited.1)

  pub last_here : (base : ℕ) (list : List Commit) → last base (map (narrow b) list) ≡ last base list
  last_here base [] = refl
  last_here base (t ∷ older) = refl

  -- a change of another home leaves this home's live changes
  pub live_elsewhere : (chs : List Change) (ch : Change) → ch.home ≢ b → here b (ch ∷ chs) ≡ here b chs
  live_elsewhere chs ch ne = let test : (ch.home == b) ≡ false = grind (arith, nat_tests) in rw test refl

  pub live_here : (chs : List Change) (ch : Change) → ch.home ≡ b → here b (ch ∷ chs) ≡ ch ∷ here b chs
  live_here chs ch is = let test : (ch.home == b) ≡ true = grind (arith, nat_tests) in rw test refl

  pub lives_here : (lives : List (List Change)) (s : ℕ) (chs : List Change) → map (here b) (set lives s chs) ≡ set (map (here b) lives) s (here b chs)
  lives_here lives s chs = map-set (here b) lives s chs
