-- A block of rows that holds nothing is in order, whatever its file is.
use Rattle.std.proofs.Common.{◌≡◌, ℕ, ◌<◌, List, true, ◌||◌, ◌&&◌, ◌==◌, not, arith, subst}
use Rattle.rb_base.specs.declared.shape.Shape.{Shape}
use Rattle.rb_cell.specs.declared.cell.TheConstants.{CELLS, EMPTY, ROW}
use Rattle.rb_cell.specs.Cells.{cell_at}
use Rattle.rb_itl.specs.declared.slots.Entry.{Entry}
use Rattle.rb_itl.specs.declared.slots.TheConstants.{FREE}
use Rattle.rb_itl.specs.Entries.{entry_at}
use Rattle.rb_heap.specs.Soundness.{IsEntrySound, AreCellsSound, IsHomeSound}
use Rattle.rb_sound.specs.Empty.{IsEmptyCell, IsEmptyHome}

free_sound : (shape : Shape) (commit : ℕ) (wrap_of : ℕ → ℕ → ℕ) (entry : Entry) → entry.kind ≡ FREE → IsEntrySound shape commit wrap_of entry
free_sound shape commit wrap_of entry free = record {
  kind = omega (arith, free);
  taken = λ other. absurd (other free);
}

-- an empty cell has no key
no_key : (key state lock other : ℕ) → state ≡ EMPTY → lock ≡ 0 → ((state == ROW || not (lock == 0)) && (other == key)) ≡ true → ⊥
no_key key state lock other empty unlocked has =
    let at_state = subst (λ (n : ℕ). ((n == ROW || not (lock == 0)) && (other == key)) ≡ true) empty has in
    let at_both = subst (λ (n : ℕ). ((EMPTY == ROW || not (n == 0)) && (other == key)) ≡ true) unlocked at_state in
    cc

empty_cells : (shape : Shape) (home : ℕ) (block : List ℕ) → ((c : ℕ) → c < CELLS → IsEmptyCell block c) → AreCellsSound shape home block
empty_cells shape home block empty = record {
  each = λ c lt. let e = empty c lt in record {
    state = omega (arith, e.state);
    unlocked = λ _. e.lock;
    key = λ other. absurd (other e.state);
  };
  values = λ c lt. omega (arith, (empty c lt).value);
  locks = λ c lt. let e = empty c lt in record {
    few = omega (arith, e.lock);
    taken = λ other. absurd (other e.lock);
  };
  keys = record {
    one = λ key c other few others has has_too. let e = empty c few in
        absurd (no_key key (cell_at block c).state (cell_at block c).lock (cell_at block c).key e.state e.lock has);
  };
}

pub empty_sound : (shape : Shape) (commit : ℕ) (wrap_of : ℕ → ℕ → ℕ) (home : ℕ) (block : List ℕ) → IsEmptyHome block → IsHomeSound shape commit wrap_of home block
empty_sound shape commit wrap_of home block empty = record {
  entries = λ i lt. free_sound shape commit wrap_of (entry_at block i) (empty.entries i lt);
  cells = empty_cells shape home block empty.cells;
}
