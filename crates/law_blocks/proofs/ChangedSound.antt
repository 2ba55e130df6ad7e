-- The entry and the cell that a write makes are in order.
use Rattle.std.proofs.Common.{◌*◌, ◌≡◌, ◌<◌, ◌≤◌, ◌%◌, ◌+◌, ◌==◌, ◌||◌, ℕ, suc, Bool, true, false, not, if◌then◌else◌, List, [], ◌∷◌, length, sym, ◌∙◌, arith, refl}
use Rattle.std.proofs.lemmas.Bool.{and_parts, false≢true}
use Rattle.std.proofs.lemmas.Bool.Decides.{nat_tests}
use Rattle.rb_base.specs.declared.sizes.TheConstants.{SLOTS}
use Rattle.rb_ring.specs.declared.extents.TheConstants.{EXTENTS, EXTENT_RECORDS}
use Rattle.rb_base.specs.declared.ids.Uba.{Uba}
use Rattle.rb_base.specs.declared.ids.Xid.{Xid}
use Rattle.rb_base.specs.declared.shape.Shape.{Shape}
use Rattle.rb_cell.specs.declared.cell.Cell as cells
use Rattle.rb_cell.specs.declared.cell.TheConstants.{EMPTY, ROW}
use Rattle.rb_heap.specs.Homes.{is_keyed}
use Rattle.rb_heap.specs.Soundness.{IsEntrySound, IsCellSound}
use Rattle.rb_itl.specs.declared.slots.Entry as entries
use Rattle.rb_itl.specs.declared.slots.TheConstants.{OPEN}
use Rattle.rb_model.specs.Change.{Gone, Held, Kind, Put}
use Rattle.law_blocks.specs.Writing.{cell_after, entry_after}
use Rattle.law_home.specs.Homes.{here}
use Rattle.law_home.specs.Walk.{Change}

-- of the changes those of one home are at most all
pub here_few : (b : ℕ) (chs : List Change) → length (here b chs) ≤ length chs
here_few b [] = omega arith
here_few b (ch ∷ more) = by_home (here_few b more) (ch.home == b)
  where
    by_home : length (here b more) ≤ length more → (z : Bool) → length (if z then ch ∷ here b more else here b more) ≤ suc (length more)
    by_home few true = omega (arith, few)
    by_home few false = omega (arith, few)

-- an entry of a transaction whose slot there is, with a chain that the ring has room for
pub entry_made : (shape : Shape) (commit : ℕ) (wraps : ℕ → ℕ → ℕ) (x : Xid) (address : Uba) (e : entries.Entry) → x.seg < shape.segments → x.slot < SLOTS → 1 ≤ x.wrap → x.wrap ≤ wraps x.seg x.slot → (entry_after x address e).length ≤ (EXTENTS * EXTENT_RECORDS) → IsEntrySound shape commit wraps (entry_after x address e)
entry_made shape commit wraps x address e seg slot some given few = record {
  kind = omega arith;
  taken = λ _. record { segment = seg; slot = slot; wrap = (some, given); chain = (counts (e.kind == OPEN), few); number = omega arith };
}
  where
    counts : (z : Bool) → 1 ≤ (if z then e.length + 1 else 1)
    counts true = omega arith
    counts false = omega arith

-- a cell with a key isn't empty
keyed_some : (shape : Shape) (home key : ℕ) (x : cells.Cell) → IsCellSound shape home x → is_keyed key x ≡ true → x.state ≡ EMPTY → ⊥
keyed_some shape home key x sound keyed empty =
    let parts = and_parts ((x.state == ROW) || not (x.lock == 0)) (x.key == key) keyed in
    let state : (x.state == ROW) ≡ false = grind (arith, nat_tests) in
    let unlocked : x.lock ≡ 0 = sound.unlocked empty in
    let lock : (x.lock == 0) ≡ true = grind (arith, nat_tests) in
    let none : ((x.state == ROW) || not (x.lock == 0)) ≡ false = rw (state, lock) refl in
    false≢true (sym none ∙ parts.0)

-- the cell of a key of this home
pub cell_made : (shape : Shape) (home : ℕ) (kind : Kind) (key i : ℕ) (x : cells.Cell) → key % shape.blocks ≡ home → (kind ≡ Held → is_keyed key x ≡ true) → IsCellSound shape home x → IsCellSound shape home (cell_after kind key i x)
cell_made shape home (Put v) key i x here held sound = record { state = omega arith; unlocked = λ is. absurd (omega (arith, is)); key = λ some. here }
cell_made shape home Gone key i x here held sound = record { state = omega arith; unlocked = λ is. absurd (omega (arith, is)); key = λ some. here }
cell_made shape home Held key i x here held sound = record { state = sound.state; unlocked = λ is. absurd (keyed_some shape home key x sound (held refl) is); key = sound.key }
