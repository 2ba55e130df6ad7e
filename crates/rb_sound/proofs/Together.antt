-- What is tested of the headers, and what is tested of the blocks of rows by the numbers that the headers have.
use Rattle.std.proofs.Common.{◌≡◌, ◌↔◌, ℕ, zero, suc, ◌%◌, ◌<◌, ◌≤◌, Bool, true, List, subst, sym, arith}
use Rattle.rb_base.specs.declared.sizes.TheConstants.{SLOTS}
use Rattle.rb_base.specs.declared.shape.Shape.{Shape}
use Rattle.rb_base.specs.Blocks.{block_of}
use Rattle.rb_itl.specs.declared.slots.Entry.{Entry}
use Rattle.rb_heap.specs.Soundness.{IsTaken, IsHomeSound}
use Rattle.rb_segment.specs.Segments.{commit_scn, wrap_at}
use Rattle.rb_base.specs.declared.ids.Uba.{Uba}
use Rattle.rb_base.specs.declared.ids.Xid.{Xid}
use Rattle.rb_segment.specs.Header.{Segment}
use Rattle.rb_undoblock.specs.declared.record.UndoRecord.{UndoRecord}
use Rattle.rb_sound.specs.Active.{AreActive, Chain, CouldStand, undo_named}
use Rattle.rb_sound.specs.Sound.{AreSegmentsSound, AreHomesSound, AreSound}

-- the two are alike at each slot of the segments of a file
abbrev pub AreAlike : Shape → (ℕ → ℕ → ℕ) → (ℕ → ℕ → ℕ) → Type 0
AreAlike shape wrap_of other = (seg slot : ℕ) → seg < shape.segments → slot < SLOTS → wrap_of seg slot ≡ other seg slot

-- what is in order stays so as the commit number rises or stays, and no slot is taken
taken_later : (shape : Shape) (commit later : ℕ) (wrap_of other : ℕ → ℕ → ℕ) (entry : Entry) → commit ≤ later → AreAlike shape wrap_of other → IsTaken shape commit wrap_of entry → IsTaken shape later other entry
taken_later shape commit later wrap_of other entry le same taken = record {
  segment = taken.segment;
  slot = taken.slot;
  wrap = let one = same entry.xid.seg entry.xid.slot taken.segment taken.slot in (taken.wrap.0, omega (arith, one, taken.wrap.1));
  chain = taken.chain;
  number = omega (arith, le, taken.number);
}

pub home_later : (shape : Shape) (commit later : ℕ) (wrap_of other : ℕ → ℕ → ℕ) (home : ℕ) (block : List ℕ) → commit ≤ later → AreAlike shape wrap_of other → IsHomeSound shape commit wrap_of home block → IsHomeSound shape later other home block
home_later shape commit later wrap_of other home block le same sound = record {
  entries = λ i few.
      let entry = sound.entries i few in
      record { kind = entry.kind; taken = λ not_free. taken_later shape commit later wrap_of other _ le same (entry.taken not_free) };
  cells = sound.cells;
}

-- the same of what a record keeps
pub stand_alike : (shape : Shape) (commit : ℕ) (wrap_of other : ℕ → ℕ → ℕ) (r : UndoRecord) → AreAlike shape wrap_of other → CouldStand shape commit wrap_of r → CouldStand shape commit other r
stand_alike shape commit wrap_of other r same stand = record {
  entry = record { kind = stand.entry.kind; taken = λ not_free. taken_later shape commit commit wrap_of other _ (omega arith) same (stand.entry.taken not_free) };
  cell = stand.cell;
  value = stand.value;
}

-- what holds of each live record, and something that follows from it
chain_weaker : (K L : UndoRecord → Type 0) → ((r : UndoRecord) → K r → L r) → (shape : Shape) (s : Segment) (x : Xid) (n : ℕ) (at : Uba) → Chain K shape s x n at → Chain L shape s x n at
chain_weaker K L weaker shape s x zero at chain = chain
chain_weaker K L weaker shape s x (suc n) at chain = (chain.0, (chain.1.0, weaker (undo_named shape x.seg s at) chain.1.1), chain_weaker K L weaker shape s x n (undo_named shape x.seg s at).previous chain.2)

active_weaker : (K L : UndoRecord → Type 0) → ((r : UndoRecord) → K r → L r) → (shape : Shape) (blocks : List (List ℕ)) → AreActive K shape blocks → AreActive L shape blocks
active_weaker K L weaker shape blocks all g i there few runs = let one = all g i there few runs in record { begun = one.begun; chain = chain_weaker K L weaker shape _ _ _ _ one.chain }

homes_alike : (shape : Shape) (commit : ℕ) (wrap_of other : ℕ → ℕ → ℕ) (blocks : List (List ℕ)) → AreAlike shape wrap_of other → AreHomesSound shape commit wrap_of blocks → AreHomesSound shape commit other blocks
homes_alike shape commit wrap_of other blocks same homes which lt = home_later shape commit commit wrap_of other (which % shape.blocks) (block_of blocks which) (omega arith) same (homes which lt)

-- where the headers are, the blocks of rows are in order by a table of the wraps and by the headers alike
pub homes_by : (shape : Shape) (blocks : List (List ℕ)) (commit : ℕ) (wrap_of : ℕ → ℕ → ℕ) → commit ≡ commit_scn shape blocks → AreAlike shape wrap_of (wrap_at shape blocks) → AreSound shape blocks → AreHomesSound shape commit wrap_of blocks
homes_by shape blocks commit wrap_of commit_is same all =
    homes_alike shape commit (wrap_at shape blocks) wrap_of blocks (λ seg slot there few. sym (same seg slot there few)) (subst (λ (number : ℕ). AreHomesSound shape number (wrap_at shape blocks) blocks) (sym commit_is) all.homes)

pub all_sound : (shape : Shape) (blocks : List (List ℕ)) (commit : ℕ) (wrap_of : ℕ → ℕ → ℕ) (sound : Bool) → commit ≡ commit_scn shape blocks → AreAlike shape wrap_of (wrap_at shape blocks) → AreSegmentsSound shape commit blocks → AreHomesSound shape commit wrap_of blocks
    → (sound ≡ true ↔ AreActive (CouldStand shape commit wrap_of) shape blocks) → sound ≡ true ↔ AreSound shape blocks
all_sound shape blocks commit wrap_of sound commit_is same segments homes is = (
  (λ (e : sound ≡ true). record {
    segments = subst (λ (number : ℕ). AreSegmentsSound shape number blocks) commit_is segments;
    homes = subst (λ (number : ℕ). AreHomesSound shape number (wrap_at shape blocks) blocks) commit_is (homes_alike shape commit wrap_of (wrap_at shape blocks) blocks same homes);
    active = subst (λ (number : ℕ). AreActive (CouldStand shape number (wrap_at shape blocks)) shape blocks) commit_is (active_weaker (CouldStand shape commit wrap_of) (CouldStand shape commit (wrap_at shape blocks)) (λ r. stand_alike shape commit wrap_of (wrap_at shape blocks) r same) shape blocks (is.0 e));
  }),
  λ all. is.1 (active_weaker (CouldStand shape commit (wrap_at shape blocks)) (CouldStand shape commit wrap_of) (λ r. stand_alike shape commit (wrap_at shape blocks) wrap_of r (λ seg slot there few. sym (same seg slot there few))) shape blocks (subst (λ (number : ℕ). AreActive (CouldStand shape number (wrap_at shape blocks)) shape blocks) (sym commit_is) all.active)),
)

-- the same of the shape and the blocks that are equal
pub segments_moved : (commit : ℕ) (now shape : Shape) (blocks_now blocks : List (List ℕ)) → now ≡ shape → blocks_now ≡ blocks → AreSegmentsSound now commit blocks_now → AreSegmentsSound shape commit blocks
segments_moved commit now shape blocks_now blocks shape_is blocks_are all =
    subst (λ (s : Shape). AreSegmentsSound s commit blocks) shape_is (subst (λ (b : List (List ℕ)). AreSegmentsSound now commit b) blocks_are all)

pub wraps_moved : (wrap_of : ℕ → ℕ → ℕ) (now shape : Shape) (blocks_now blocks : List (List ℕ)) → now ≡ shape → blocks_now ≡ blocks → AreAlike now wrap_of (wrap_at now blocks_now) → AreAlike shape wrap_of (wrap_at shape blocks)
wraps_moved wrap_of now shape blocks_now blocks shape_is blocks_are same =
    subst (λ (s : Shape). AreAlike s wrap_of (wrap_at s blocks)) shape_is (subst (λ (b : List (List ℕ)). AreAlike now wrap_of (wrap_at now b)) blocks_are same)

pub homes_moved : (commit : ℕ) (wrap_of : ℕ → ℕ → ℕ) (now shape : Shape) (blocks_now blocks : List (List ℕ)) → now ≡ shape → blocks_now ≡ blocks → AreHomesSound now commit wrap_of blocks_now ↔ AreHomesSound shape commit wrap_of blocks
homes_moved commit wrap_of now shape blocks_now blocks shape_is blocks_are =
    subst (λ (s : Shape). AreHomesSound now commit wrap_of blocks_now ↔ AreHomesSound s commit wrap_of blocks) shape_is (subst (λ (b : List (List ℕ)). AreHomesSound now commit wrap_of blocks_now ↔ AreHomesSound now commit wrap_of b) blocks_are (λ a. a, λ a. a))

pub active_moved : (Kept : UndoRecord → Type 0) (sound : Bool) (now shape : Shape) (blocks_now blocks : List (List ℕ)) → now ≡ shape → blocks_now ≡ blocks → (sound ≡ true ↔ AreActive Kept now blocks_now) → sound ≡ true ↔ AreActive Kept shape blocks
active_moved Kept sound now shape blocks_now blocks shape_is blocks_are is =
    subst (λ (s : Shape). sound ≡ true ↔ AreActive Kept s blocks) shape_is (subst (λ (b : List (List ℕ)). sound ≡ true ↔ AreActive Kept now b) blocks_are is)
