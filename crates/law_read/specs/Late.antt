-- Which commit is the first above a snapshot to change a key of a home, and which records of a chain change it.
use Rattle.std.specs.Prelude.{◌==◌, ◌&&◌, ◌||◌, ℕ, zero, suc, Bool, false, not, if◌then◌else◌}
use Rattle.std.specs.Prelude.{nat_lt, List, [], ◌∷◌, Option, Some, None}
use Rattle.std.specs.List.{list_any}
use Rattle.rb_base.specs.declared.ids.Xid.{Xid}
use Rattle.rb_model.specs.Late.{is_held}
use Rattle.law_read.specs.Chains.{stepped}
use Rattle.law_read.specs.Keeping as sorts
use Rattle.law_home.specs.Kinds.{Undo}
use Rattle.law_home.specs.Walk.{Change, Commit, Home, Env, entry_at}

-- the change gives the key a row, or takes its row away
abbrev pub changes_key : ℕ → Change → Bool
changes_key key ch = ch.key == key && not (is_held ch.kind)

-- the first one that is there
abbrev pub earlier : Option ℕ → Option ℕ → Option ℕ
earlier None other = other
earlier (Some c) other = Some c

-- The least number above n of a commit that changes the key, also where a later one has changed it back. The newest is
-- the first of the list.
abbrev pub late_above : ℕ → ℕ → List Commit → Option ℕ
late_above n key [] = None
late_above n key (t ∷ older) =
    if nat_lt n t.number
    then earlier (late_above n key older) (if list_any (changes_key key) t.changes then Some t.number else None)
    else None

-- the same of a record, where there is one
abbrev pub touches : ℕ → Option Undo → Bool
touches key None = false
touches key (Some r) = r.key == key && not (sorts.is_held r.sort)

abbrev pub touched_go : Option Home → (Home → Bool) → Bool
touched_go None go = false
touched_go (Some b) go = go b

-- whether one of so many records of entry i's chain changes the key, as they are taken back
abbrev pub touched_after : Env → ℕ → ℕ → ℕ → Xid → Home → Bool
touched_after env key zero i xid b = false
touched_after env key (suc n) i xid b =
    touches key (env.store (entry_at b i).newest) || touched_go (stepped env i xid b) (touched_after env key n i xid)

-- whether one of entry i's whole chain does
abbrev pub touched : Env → ℕ → Home → ℕ → Bool
touched env key b i = touched_after env key (entry_at b i).chain i (entry_at b i).xid b

-- the number of this commit where its chain changes the key, else what was found before
abbrev pub seen_at : ℕ → Bool → Option ℕ → Option ℕ
seen_at c changes least = if changes then Some c else least
