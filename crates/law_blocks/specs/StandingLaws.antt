-- What holds of segments and homes that stand: each kind of group keeps it, as values and with the machine's state.
use Rattle.std.specs.Prelude.{◌≡◌, ◌<◌, ◌≤◌, ◌==◌, ◌+◌, ◌*◌, ◌++◌, ℕ}
use Rattle.std.specs.Prelude.{if◌then◌else◌, List, [], ◌∷◌, length, set, Some}
use Rattle.rb_base.specs.Blocks.{IsShape, block_of, table_blocks}
use Rattle.rb_base.specs.declared.ids.Uba.{Uba}
use Rattle.rb_base.specs.declared.ids.Xid.{Xid}
use Rattle.rb_base.specs.declared.shape.Shape.{Shape}
use Rattle.rb_base.specs.declared.sizes.TheConstants.{ACTIVE}
use Rattle.rb_model.specs.Change as model
use Rattle.rb_model.specs.Change.{Kind}
use Rattle.rb_model.specs.State.{State, Session, Cursor, session_own}
use Rattle.rb_model.specs.Rows.{TableRow}
use Rattle.rb_ring.specs.declared.extents.TheConstants.{EXTENT_RECORDS}
use Rattle.rb_segment.specs.Books.{fresh_segment}
use Rattle.rb_segment.specs.Header.{Header, Segment, record_in}
use Rattle.rb_segment.specs.Moves.{Ring, next_address}
use Rattle.rb_segment.specs.Segments.{commit_scn}
use Rattle.law_blocks.specs.Forgotten.{IsAfter, forgotten_past}
use Rattle.law_blocks.specs.Fresh.{IsFresh, fresh_home, fresh_state, no_past}
use Rattle.law_blocks.specs.NextStates.{Takes, SameChange, after_write, after_commit, after_end}
use Rattle.rb_model.specs.NextState.{with_own}
use Rattle.law_blocks.specs.Says.{says, place_of, xid_by}
use Rattle.law_blocks.specs.Standing.{Standing, segments_of, homes_of, logged_of}
use Rattle.law_blocks.specs.States.{Owns, BlocksStand, BlocksStandAs, lives_of}
use Rattle.law_blocks.specs.Values.{Past, HomesStand, IsSaved, Listed, StandingAs, Running, slot_of, owed}
use Rattle.law_blocks.specs.Writes.{Reads, Chooses, IsWriter, Written, PutBack, change_made, committed_past}
use Rattle.law_blocks.specs.Writes.{committed_segments, ended_segments}
use Rattle.rb_undoblock.specs.Undo.{undo_at}
use Rattle.rb_undoblock.specs.declared.record.UndoRecord.{UndoRecord}
use Rattle.law_home.specs.Kinds.{Undo}
use Rattle.law_home.specs.Steps.{cleaned}
use Rattle.law_home.specs.Walk.{Change, Home, AllEmpty, own}

-- what segments and homes stand for in an engine that runs
pub record RunningAs (shape : Shape) (commit logged : ℕ) (segments : ℕ → Segment)
    (homes : ℕ → Home) (past : Past) (lives : List (List Change)) : Type 0 where
  pub stands : StandingAs shape commit logged segments homes past lives
  pub running : Running shape segments

-- A write of slot t: its change is the newest live one.
abbrev pub WriteStands : Type 0
WriteStands = (shape : Shape) (commit logged t : ℕ) (segments after : ℕ → Segment) (homes homes2 : ℕ → Home)
    (past : Past) (lives : List (List Change)) (kind : Kind) (address : Uba) (u : UndoRecord)
    → t < 16 * shape.segments → RunningAs shape commit logged segments homes past lives
    → Written shape commit segments after homes homes2 lives t kind address u
    → RunningAs shape commit (logged + 1) after homes2 past
    (set lives t (change_made shape t kind address u ∷ own lives t))

-- The put back of the newest live change of slot t, also where no engine runs.
abbrev pub BackStands : Type 0
BackStands = (shape : Shape) (commit logged t : ℕ) (segments after : ℕ → Segment) (homes homes2 : ℕ → Home)
    (past : Past) (lives : List (List Change)) (u : UndoRecord) (ch : Change) (more : List Change)
    → t < 16 * shape.segments → StandingAs shape commit logged segments homes past lives
    → PutBack shape segments after homes homes2 t u → own lives t ≡ ch ∷ more
    → StandingAs shape commit (logged + 1) after homes2 past (set lives t more)
    × (Running shape segments → Running shape after)

-- A commit of slot t at a greater number: its live changes are the newest commit.
abbrev pub CommitStands : Type 0
CommitStands = (shape : Shape) (commit logged t c : ℕ) (segments : ℕ → Segment)
    (homes : ℕ → Home) (past : Past) (lives : List (List Change)) → t < 16 * shape.segments
    → RunningAs shape commit logged segments homes past lives → (slot_of segments t).state ≡ ACTIVE
    → commit < c → c ≤ logged + 1
    → RunningAs shape c (logged + 1) (committed_segments c t segments) homes
    (committed_past segments t c past lives) (set lives t [])

-- The end of slot t, which has no live change, also where no engine runs.
abbrev pub EndStands : Type 0
EndStands = (shape : Shape) (commit logged t : ℕ) (segments : ℕ → Segment) (homes : ℕ → Home) (past : Past)
    (lives : List (List Change)) → t < 16 * shape.segments
    → StandingAs shape commit logged segments homes past lives → (slot_of segments t).state ≡ ACTIVE
    → own lives t ≡ []
    → StandingAs shape commit (logged + 1) (ended_segments t segments) homes past (set lives t [])
    × (Running shape segments → Running shape (ended_segments t segments))

-- The same with the machine's state, its books among it: a change of session s in slot t,
abbrev pub WriteKeepsState : Type 0
WriteKeepsState = (h : State) (xids : List Xid) (commit logged s t : ℕ) (segments after : ℕ → Segment)
    (homes homes2 : ℕ → Home) (c : model.Change) (kind : Kind) (address : Uba) (u : UndoRecord)
    → BlocksStandAs h xids commit logged segments homes → t < 16 * h.shape.segments
    → 1 ≤ s → s ≤ length h.sessions → Takes h segments s t
    → Written h.shape commit segments after homes homes2 (lives_of h (says h.shape segments)) t kind address u
    → SameChange h.shape c kind address u
    → BlocksStandAs (after_write h s t (slot_of segments t).state c) xids commit (logged + 1) after homes2

-- the put back of its last change,
abbrev pub BackKeepsState : Type 0
BackKeepsState = (h : State) (xids : List Xid) (commit logged s t : ℕ) (segments after : ℕ → Segment)
    (homes homes2 : ℕ → Home) (u : UndoRecord) (front : List model.Change) (c : model.Change)
    → BlocksStandAs h xids commit logged segments homes → t < 16 * h.shape.segments → Owns h s t
    → PutBack h.shape segments after homes homes2 t u → session_own h s ≡ front ++ c ∷ []
    → BlocksStandAs (with_own h s front) xids commit (logged + 1) after homes2

-- its commit at the next number,
abbrev pub CommitKeepsState : Type 0
CommitKeepsState = (h : State) (xids : List Xid) (commit logged s t : ℕ) (segments : ℕ → Segment)
    (homes : ℕ → Home) (cursors : List Cursor) → BlocksStandAs h xids commit logged segments homes
    → t < 16 * h.shape.segments → Owns h s t → commit ≤ logged
    → BlocksStandAs (after_commit h s t (commit + 1) cursors) (xids ++ xid_by segments t ∷ []) (commit + 1)
    (logged + 1) (committed_segments (commit + 1) t segments) homes

-- and its end without a change.
abbrev pub EndKeepsState : Type 0
EndKeepsState = (h : State) (xids : List Xid) (commit logged s t : ℕ) (segments : ℕ → Segment)
    (homes : ℕ → Home)
    → BlocksStandAs h xids commit logged segments homes → t < 16 * h.shape.segments → Owns h s t
    → session_own h s ≡ []
    → BlocksStandAs (after_end h t) xids commit (logged + 1) (ended_segments t segments) homes

-- Any past may be forgotten: the rows after it are the new base.
abbrev pub ForgottenStands : Type 0
ForgottenStands = (shape : Shape) (commit logged : ℕ) (segments : ℕ → Segment)
    (homes : ℕ → Home) (past : Past) (rows : List TableRow) (lives : List (List Change)) → IsAfter shape past rows
    → StandingAs shape commit logged segments homes past lives
    → StandingAs shape commit logged segments homes (forgotten_past past rows) lives

-- A new file stands for no commit and no change, and for the machine's first state. There are such segments and homes.
abbrev pub FreshStands : Type 0
FreshStands = (shape : Shape) (segments : ℕ → Segment) (homes : ℕ → Home) (lives : List (List Change))
    → IsFresh shape segments homes → length lives ≡ 16 * shape.segments → AllEmpty lives
    → RunningAs shape 0 0 segments homes no_past lives

abbrev pub FreshStateStands : Type 0
FreshStateStands = (shape : Shape) (segments : ℕ → Segment) (homes : ℕ → Home) (sessions : List Session)
    → IsFresh shape segments homes → IsShape shape
    → ((s : ℕ) → session_own (fresh_state shape sessions) s ≡ [])
    → BlocksStandAs (fresh_state shape sessions) [] 0 0 segments homes

abbrev pub FreshIsMet : Type 0
FreshIsMet = (shape : Shape) → IsFresh shape (λ g. fresh_segment) fresh_home

-- What is owed rises by one for the record of a write, and by one for a slot that it takes.
abbrev pub OwedRises : Type 0
OwedRises = (shape : Shape) (commit logged t : ℕ) (segments after : ℕ → Segment) (homes homes2 : ℕ → Home)
    (past : Past) (lives : List (List Change)) (kind : Kind) (address : Uba) (u : UndoRecord)
    → t < 16 * shape.segments → RunningAs shape commit logged segments homes past lives
    → Written shape commit segments after homes homes2 lives t kind address u
    → owed shape after ≡ owed shape segments + (if (slot_of segments t).state == ACTIVE then 1 else 2)

-- It falls by one as a record is put back, and as a slot ends,
abbrev pub OwedFallsByBack : Type 0
OwedFallsByBack = (shape : Shape) (commit logged t : ℕ) (segments after : ℕ → Segment)
    (homes homes2 : ℕ → Home)
    (past : Past) (lives : List (List Change)) (u : UndoRecord) (ch : Change) (more : List Change)
    → t < 16 * shape.segments → StandingAs shape commit logged segments homes past lives
    → PutBack shape segments after homes homes2 t u → own lives t ≡ ch ∷ more
    → owed shape after + 1 ≡ owed shape segments

abbrev pub OwedFallsByEnd : Type 0
OwedFallsByEnd = (shape : Shape) (commit logged t : ℕ) (segments : ℕ → Segment)
    (homes : ℕ → Home) (past : Past) (lives : List (List Change)) → t < 16 * shape.segments
    → StandingAs shape commit logged segments homes past lives → (slot_of segments t).state ≡ ACTIVE
    → own lives t ≡ [] → owed shape (ended_segments t segments) + 1 ≡ owed shape segments

-- and by all that its slot owed at a commit.
abbrev pub OwedFallsByCommit : Type 0
OwedFallsByCommit = (shape : Shape) (commit logged t c : ℕ) (segments : ℕ → Segment) (homes : ℕ → Home)
    (past : Past) (lives : List (List Change)) → t < 16 * shape.segments
    → StandingAs shape commit logged segments homes past lives → (slot_of segments t).state ≡ ACTIVE
    → owed shape (committed_segments c t segments) + length (own lives t) + 1 ≡ owed shape segments

-- What a write chooses in a home that stands, once it is cleaned, is what keeps the home.
abbrev pub ChosenReads : Type 0
ChosenReads = (shape : Shape) (segments : ℕ → Segment) (homes : ℕ → Home) (past : Past)
    (lives : List (List Change)) → HomesStand shape segments homes past lives → (b : ℕ)
    → b < table_blocks shape → (x : Xid) → IsWriter segments x → (kind : Kind) (r : Undo)
    → Chooses kind r x (cleaned (says shape segments) (homes b))
    → Reads kind r x (cleaned (says shape segments) (homes b))

-- The address of a segment's next record tells its place.
abbrev pub AddressTellsPlace : Type 0
AddressTellsPlace = (shape : Shape) (g : ℕ) (h : Header) → Ring h → h.records < EXTENT_RECORDS
    → place_of shape (next_address shape g h) ≡ record { seg = g; index = h.writes + 1 }

-- In the blocks of a file a listed address reads, by its block and the position in it, the record that the list names.
abbrev pub AddressReadsRecord : Type 0
AddressReadsRecord = (shape : Shape) (blocks : List (List ℕ)) (commit : ℕ) (wraps : ℕ → ℕ → ℕ) (x : Xid)
    (uba : Uba) (ch : Change) (more : List Change) (r : UndoRecord)
    → Listed shape (segments_of shape blocks x.seg) x (IsSaved shape commit wraps) uba (ch ∷ more)
    → record_in (segments_of shape blocks x.seg) ch.place.index ≡ Some r
    → undo_at (block_of blocks uba.block) uba.rec ≡ r

-- Blocks that stand do so as values, and their commit number is at most their log number.
abbrev pub BlocksStandAsValues : Type 0
BlocksStandAsValues = (h : State) (xids : List Xid) (blocks : List (List ℕ)) → BlocksStand h xids blocks
    → BlocksStandAs h xids (commit_scn h.shape blocks) (logged_of h.shape blocks) (segments_of h.shape blocks)
    (homes_of h.shape blocks)

abbrev pub CommitIsLogged : Type 0
CommitIsLogged = (shape : Shape) (blocks : List (List ℕ)) (past : Past) (lives : List (List Change))
    → Standing shape blocks past lives → commit_scn shape blocks ≤ logged_of shape blocks
