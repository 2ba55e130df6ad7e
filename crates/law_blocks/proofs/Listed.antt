-- Entries that are sound, records that could be written back, and lists of these, once numbers rose.
use Rattle.std.proofs.Common.{◌≡◌, ◌≤◌, ℕ, List, [], ◌∷◌, ◌∙◌, arith}
use Rattle.rb_base.specs.declared.ids.Uba.{Uba}
use Rattle.rb_base.specs.declared.ids.Xid.{Xid}
use Rattle.rb_base.specs.declared.shape.Shape.{Shape}
use Rattle.rb_heap.specs.Soundness.{IsTaken, IsEntrySound, IsHomeSound}
use Rattle.rb_itl.specs.Entries.{entry_of, entry_at}
use Rattle.rb_segment.specs.Header.{Segment, slot_in}
use Rattle.rb_segment.specs.Moves.{SegmentAges, IsAddress}
use Rattle.law_blocks.specs.Values.{IsSaved, Listed}
use Rattle.rb_undoblock.specs.declared.record.UndoRecord.{UndoRecord}
use Rattle.law_home.specs.Walk.{Change}
use Rattle.rb_itl.specs.declared.slots.Entry as entries

-- an entry stays sound, once numbers and wraps rose
pub entry_later : (shape : Shape) (commit commit2 : ℕ) (wraps wraps2 : ℕ → ℕ → ℕ) (e : entries.Entry) → commit ≤ commit2 → ((g i : ℕ) → wraps g i ≤ wraps2 g i) → IsEntrySound shape commit wraps e → IsEntrySound shape commit2 wraps2 e
entry_later shape commit commit2 wraps wraps2 e le up sound = record { kind = sound.kind; taken = λ is. later (sound.taken is) }
  where
    later : IsTaken shape commit wraps e → IsTaken shape commit2 wraps2 e
    later t = let h = up e.xid.seg e.xid.slot in record { segment = t.segment; slot = t.slot; wrap = (t.wrap.0, omega (arith, t.wrap.1, h)); chain = t.chain; number = omega (arith, t.number) }

-- so does what could be written back
pub saved_later : (shape : Shape) (commit commit2 : ℕ) (wraps wraps2 : ℕ → ℕ → ℕ) (r : UndoRecord) → commit ≤ commit2 → ((g i : ℕ) → wraps g i ≤ wraps2 g i) → IsSaved shape commit wraps r → IsSaved shape commit2 wraps2 r
saved_later shape commit commit2 wraps wraps2 r le up saved = record {
  there = saved.there;
  entry = saved.entry;
  cell = saved.cell;
  entry_sound = entry_later shape commit commit2 wraps wraps2 (entry_of r.entry_before) le up saved.entry_sound;
  cell_sound = saved.cell_sound;
  value = saved.value;
}

-- and a block of rows
pub home_later : (shape : Shape) (commit commit2 : ℕ) (wraps wraps2 : ℕ → ℕ → ℕ) (home : ℕ) (block : List ℕ) → commit ≤ commit2 → ((g i : ℕ) → wraps g i ≤ wraps2 g i) → IsHomeSound shape commit wraps home block → IsHomeSound shape commit2 wraps2 home block
home_later shape commit commit2 wraps wraps2 home block le up sound = record {
  entries = λ i few. entry_later shape commit commit2 wraps wraps2 (entry_at block i) le up (sound.entries i few);
  cells = sound.cells;
}

-- a slot's live records stay listed where its records stay
pub listed_later : (shape : Shape) (goes : ℕ → Type 0) (s s2 : Segment) (x : Xid) (Saved Saved2 : UndoRecord → Type 0) → SegmentAges goes s s2 → goes x.slot → x.wrap ≡ (slot_in s.header x.slot).wrap → ((r : UndoRecord) → Saved r → Saved2 r) → ((u : Uba) → IsAddress shape x.seg s.header u → IsAddress shape x.seg s2.header u) → (uba : Uba) (chs : List Change) → Listed shape s x Saved uba chs → Listed shape s2 x Saved2 uba chs
listed_later shape goes s s2 x Saved Saved2 ages g wrap up addresses uba [] listed = listed
listed_later shape goes s s2 x Saved Saved2 ages g wrap up addresses uba (ch ∷ more) listed = (
  listed.0,
  addresses uba listed.1,
  listed.2,
  listed.3,
  (
    listed.4.0,
    ages.kept x.slot ch.place.index listed.4.0 g listed.4.2 (listed.4.3 ∙ wrap) listed.4.1,
    listed.4.2,
    listed.4.3,
    listed.4.4,
    listed.4.5,
    up listed.4.0 listed.4.6,
    listed_later shape goes s s2 x Saved Saved2 ages g wrap up addresses listed.4.0.previous more listed.4.7,
  ),
)
