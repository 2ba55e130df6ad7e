-- What becomes of a home as it is cleaned of transactions that have ended, and as a change is put back.
use Rattle.std.specs.Prelude.{◌≡◌, ◌⊎◌, ℕ, ◌<◌, zero, suc, Bool, false, true, ◌&&◌}
use Rattle.std.specs.Prelude.{◌==◌, if◌then◌else◌, map}
use Rattle.rb_base.specs.Groups.{Patch}
use Rattle.rb_base.specs.declared.ids.Xid.{Xid}
use Rattle.rb_cell.specs.Cells.{locked_by, lock_patch}
use Rattle.rb_cell.specs.declared.cell.Cell.{Cell}
use Rattle.rb_cell.specs.declared.cell.TheConstants.{CELLS}
use Rattle.rb_heap.specs.Homes.{Home, home_entry, entry_patch, with_home_cell, with_home_entry}
use Rattle.rb_itl.specs.Entries.{IsEntry}
use Rattle.rb_itl.specs.declared.slots.Entry.{Entry}
use Rattle.rb_itl.specs.declared.slots.TheConstants.{BOUND, ENTRIES, EXACT, OPEN}
use Rattle.rb_txntable.specs.declared.looks.Look.{Look}
use Rattle.rb_txntable.specs.declared.looks.Look.TheVariants.{Active, At, Before}

-- the entry of a transaction that stands so
abbrev pub told_entry : Entry → Look → Entry
told_entry e Active = e
told_entry e (At c) = record e { kind = EXACT; number = c }
told_entry e (Before b) = record e { kind = BOUND; number = b }

abbrev pub has_ended : Look → Bool
has_ended Active = false
has_ended (At c) = true
has_ended (Before b) = true

-- the entry is Open, though its transaction has ended
abbrev pub to_clean : (Xid → Look) → Entry → Bool
to_clean look e = (e.kind == OPEN) && has_ended (look e.xid)

abbrev pub cleaned_entry : (Xid → Look) → Entry → Entry
cleaned_entry look e = if e.kind == OPEN then told_entry e (look e.xid) else e

-- A lock that names an entry which is cleaned is cleared.
abbrev pub cleaned_lock : (Xid → Look) → Home → ℕ → ℕ
cleaned_lock look home zero = 0
cleaned_lock look home (suc i) = if to_clean look (home_entry home i) then 0 else suc i

abbrev pub cleaned_cell : (Xid → Look) → Home → Cell → Cell
cleaned_cell look home cell = locked_by cell (cleaned_lock look home cell.lock)

-- Each entry of a transaction that has ended tells its outcome, the locks that name it are cleared, and all else stays.
abbrev pub cleaned_home : (Xid → Look) → Home → Home
cleaned_home look home = record {
  entries = map (cleaned_entry look) home.entries;
  cells = map (cleaned_cell look home) home.cells;
}

-- the home with an entry and a cell as they were before a change
abbrev pub back_home : ℕ → Entry → ℕ → Cell → Home → Home
back_home i entry c cell home = with_home_entry (with_home_cell home c cell) i entry

-- a patch of a cleaning: a slot entry, or the lock of a cell that is cleared
abbrev pub IsCleanPatch : ℕ → Patch → Type 0
IsCleanPatch block p =
    ((i : ℕ) × (e : Entry) × (i < ENTRIES) × IsEntry e × (p ≡ entry_patch block i e))
    ⊎ ((c : ℕ) × (c < CELLS) × (p ≡ lock_patch block c 0))
