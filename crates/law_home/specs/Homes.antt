-- What of the commits concerns one home.
use Rattle.std.specs.Prelude.{◌≡◌, ◌==◌, ℕ, if◌then◌else◌, List, [], ◌∷◌}
use Rattle.law_home.specs.Walk.{In, Change, Commit}

-- the changes of home b among these
abbrev pub here : ℕ → List Change → List Change
here b [] = []
here b (ch ∷ more) = if ch.home == b then ch ∷ here b more else here b more

abbrev pub narrow : ℕ → Commit → Commit
narrow b t = record { xid = t.xid; number = t.number; changes = here b t.changes }

-- each change of this key is one of home b
abbrev pub Sited : ℕ → ℕ → List Change → Type 0
Sited b k chs = (ch : Change) → In ch chs → ch.key ≡ k → ch.home ≡ b

abbrev pub AllSited : ℕ → ℕ → List Commit → Type 0
AllSited b k [] = Unit {0}
AllSited b k (t ∷ older) = Sited b k t.changes × AllSited b k older
