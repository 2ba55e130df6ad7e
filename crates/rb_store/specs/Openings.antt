-- What an opening leaves of a file, done or not.
use Rattle.std.specs.Prelude.{◌≡◌, ◌≢◌, ◌⊎◌, ℕ, List, length}
use Rattle.rb_disk.specs.DiskModel.{Only}
use Rattle.rb_disk.specs.Moments.{Leaves, Rests}
use Rattle.rb_disk.specs.Ranges.{SameBut}
use Rattle.rb_disk.specs.declared.disk.Disk.{Ghosts}
use Rattle.rb_layout.specs.Regions.{block_count, file_length, twin_offset}
use Rattle.rb_layout.specs.declared.layout.Layout.{Layout}
use Rattle.rb_twin.specs.Twins.{home, kept, twin_gate, IsTwin}
use Rattle.rb_store.specs.CachedFiles.{CachedState}
use Rattle.rb_store.specs.Meaning.{AreHomesHeaded, Means, OpensAt}
use Rattle.rb_store.specs.StoreStates.{IsQuietAt, IsStableAt, blocks_by}

-- The batch in the twin area was brought home: each home is what the file found kept, and is headed.
pub record IsRepaired {D : Type 0} (d : Ghosts D) (l : Layout) (last : ℕ) (old new : D) : Type 0 where
  pub twin : IsTwin l (d.content old)
  pub shut : twin_gate l (d.content new) ≢ 1
  pub homes : (which : ℕ) → home l (d.content new) which ≡ kept l (d.content old) which
  pub outside : SameBut (twin_offset l 0) (file_length l) (d.content old) (d.content new)
  pub only : Only (d.content new) (d.image new)
  pub whole : length (d.content new) ≡ file_length l
  pub headed : AreHomesHeaded l last (d.content new) (block_count l)

-- A file that is opened. It is quiet, what it reads is stable, and the file found opens to it.
pub record HasOpened {D : Type 0} (d : Ghosts D) (s : CachedState) (last : ℕ) (old new : D) : Type 0 where
  pub quiet : IsQuietAt s.layout s.head s.used last s.held (d.content new) (d.image new)
  pub found : OpensAt s.layout (d.content old) (blocks_by s.layout (d.content new) s.held) last
  pub stable : IsStableAt s.layout s.head s.used s.pending last (blocks_by s.layout (d.content new) s.held)
      (d.content new) (d.image new) (blocks_by s.layout (d.content new) s.held) last

-- a file that means nothing by any layout
abbrev pub MeansNothing : List ℕ → Type 0
MeansNothing file = (l : Layout) (b : List (List ℕ)) (n : ℕ) → Means l file b n → ⊥

-- The same by one layout: what the file means is left, at each moment, and where it means nothing nothing is done.
pub record LeavesMeaning {D : Type 0} (d : Ghosts D) (l : Layout) (old new : D) : Type 0 where
  pub file : (b : List (List ℕ)) (n : ℕ) → Means l (d.content old) b n → Means l (d.content new) b n
  pub images : (b : List (List ℕ)) (n : ℕ) → Means l (d.content old) b n
      → Leaves d old new (λ c. d.image old c ⊎ Means l c b n)
  pub none : ((b : List (List ℕ)) (n : ℕ) → Means l (d.content old) b n → ⊥) → Rests d old new

-- An opening leaves what a file means, at each moment; and a file that means nothing is left as it is.
pub record LeftAlone {D : Type 0} (d : Ghosts D) (old new : D) : Type 0 where
  pub file : (l : Layout) (b : List (List ℕ)) (n : ℕ) → Means l (d.content old) b n
      → Means l (d.content new) b n
  pub images : (l : Layout) (b : List (List ℕ)) (n : ℕ) → Means l (d.content old) b n
      → Leaves d old new (λ c. d.image old c ⊎ Means l c b n)
  pub none : MeansNothing (d.content old) → Rests d old new
