-- What holds of the blocks of a file that stand: each kind of group keeps it, with the machine's state and without.
use Rattle.std.specs.Prelude.{◌≡◌, ◌<◌, ◌≤◌, ◌==◌, ◌*◌, ◌+◌, ◌/◌, ◌%◌}
use Rattle.std.specs.Prelude.{◌^◌, ◌++◌, ℕ, Bool, if◌then◌else◌, List, [], ◌∷◌, length, set, Some}
use Rattle.rb_base.specs.Blocks.{IsShape, block_of, table_blocks}
use Rattle.rb_base.specs.declared.shape.Shape.{Shape}
use Rattle.rb_base.specs.declared.ids.Uba.{Uba}
use Rattle.rb_base.specs.declared.ids.Xid.{Xid}
use Rattle.rb_base.specs.declared.sizes.TheConstants.{ACTIVE}
use Rattle.rb_heap.specs.Cleaning.{cleaned_home}
use Rattle.rb_heap.specs.Homes.{home_of}
use Rattle.rb_model.specs.Change as model
use Rattle.rb_model.specs.Change.{Kind}
use Rattle.rb_model.specs.State.{State, Cursor, session_own}
use Rattle.rb_segment.specs.Header.{record_in}
use Rattle.rb_segment.specs.Segments.{commit_scn}
use Rattle.law_blocks.specs.Groups.{IsCleaned, IsPutBack, IsCommitted, IsEnded}
use Rattle.law_blocks.specs.NextStates.{Takes, SameChange, after_write, after_commit, after_end}
use Rattle.rb_model.specs.NextState.{with_own}
use Rattle.law_blocks.specs.Says.{xid_by}
use Rattle.law_blocks.specs.Standing.{Standing, env_of, logged_of, segments_of}
use Rattle.law_blocks.specs.States.{BlocksStand, Owns}
use Rattle.law_blocks.specs.Values.{Past, Running, owed, slot_of}
use Rattle.law_blocks.specs.Writes.{committed_past}
use Rattle.law_blocks.specs.Writing.{IsNotHeld, IsWritten}
use Rattle.rb_undoblock.specs.declared.record.UndoRecord.{UndoRecord}
use Rattle.law_home.specs.Walk.{Change, own}

-- one more group may be logged beside those that put back what is under way
abbrev pub HasNext : Shape → List (List ℕ) → Type 0
HasNext shape blocks = logged_of shape blocks + 1 + owed shape (segments_of shape blocks) ≤ 2 ^ 60 + 2 ^ 13

-- and one record more, with its slot where slot t isn't taken yet
abbrev pub HasRoomFor : Shape → List (List ℕ) → ℕ → Type 0
HasRoomFor shape blocks t = logged_of shape blocks + 1 + owed shape (segments_of shape blocks)
    + (if (slot_of (segments_of shape blocks) t).state == ACTIVE then 1 else 2) ≤ 2 ^ 60 + 2 ^ 13

-- A cleaning of a block of rows leaves what the blocks stand for.
abbrev pub CleanKeepsBlocks : Type 0
CleanKeepsBlocks = (shape : Shape) (before now : List (List ℕ)) (past : Past) (lives : List (List Change)) (b : ℕ)
    → IsShape shape → b < table_blocks shape → HasNext shape before → Standing shape before past lives
    → IsCleaned shape b before now
    → Standing shape now past lives
    × (Running shape (segments_of shape before) → Running shape (segments_of shape now))

-- The put back of the newest live change of slot t, also where no engine runs.
abbrev pub BackKeepsBlocks : Type 0
BackKeepsBlocks = (shape : Shape) (before now : List (List ℕ)) (past : Past) (lives : List (List Change)) (t : ℕ)
    (u : UndoRecord) (ch : Change) (more : List Change)
    → IsShape shape → t < 16 * shape.segments → Standing shape before past lives → own lives t ≡ ch ∷ more
    → record_in (segments_of shape before (t / 16)) ch.place.index ≡ Some u → IsPutBack shape t u before now
    → Standing shape now past (set lives t more)
    × (Running shape (segments_of shape before) → Running shape (segments_of shape now))

-- A commit of slot t at a greater number.
abbrev pub CommitKeepsBlocks : Type 0
CommitKeepsBlocks = (shape : Shape) (before now : List (List ℕ)) (past : Past) (lives : List (List Change))
    (t c : ℕ) → IsShape shape → t < 16 * shape.segments → Standing shape before past lives
    → Running shape (segments_of shape before) → (slot_of (segments_of shape before) t).state ≡ ACTIVE
    → commit_scn shape before < c → c ≤ logged_of shape before + 1 → IsCommitted shape t c before now
    → Standing shape now (committed_past (segments_of shape before) t c past lives) (set lives t [])
    × Running shape (segments_of shape now)

-- The end of slot t, which has no live change, also where no engine runs.
abbrev pub EndKeepsBlocks : Type 0
EndKeepsBlocks = (shape : Shape) (before now : List (List ℕ)) (past : Past) (lives : List (List Change)) (t : ℕ)
    → IsShape shape → t < 16 * shape.segments → Standing shape before past lives
    → (slot_of (segments_of shape before) t).state ≡ ACTIVE → own lives t ≡ [] → IsEnded shape t before now
    → Standing shape now past (set lives t [])
    × (Running shape (segments_of shape before) → Running shape (segments_of shape now))

-- The same with the machine's state: a cleaning changes none,
abbrev pub CleanKeepsMachine : Type 0
CleanKeepsMachine = (h : State) (xids : List Xid) (before now : List (List ℕ)) (b : ℕ)
    → b < table_blocks h.shape → HasNext h.shape before → BlocksStand h xids before
    → IsCleaned h.shape b before now → BlocksStand h xids now

-- a put back takes the session's last change away,
abbrev pub BackKeepsMachine : Type 0
BackKeepsMachine = (h : State) (xids : List Xid) (before now : List (List ℕ)) (s t : ℕ) (u : UndoRecord)
    (front : List model.Change) (c : model.Change)
    → t < 16 * h.shape.segments → BlocksStand h xids before → Owns h s t → session_own h s ≡ front ++ c ∷ []
    → record_in (segments_of h.shape before (t / 16)) c.place.index ≡ Some u → IsPutBack h.shape t u before now
    → BlocksStand (with_own h s front) xids now

-- a commit adds its changes to the commits,
abbrev pub CommitKeepsMachine : Type 0
CommitKeepsMachine = (h : State) (xids : List Xid) (before now : List (List ℕ)) (s t : ℕ) (cursors : List Cursor)
    → t < 16 * h.shape.segments → BlocksStand h xids before → Owns h s t
    → IsCommitted h.shape t (commit_scn h.shape before + 1) before now
    → BlocksStand (after_commit h s t (commit_scn h.shape before + 1) cursors)
    (xids ++ xid_by (segments_of h.shape before) t ∷ []) now

-- and an end without a change leaves its slot without an owner.
abbrev pub EndKeepsMachine : Type 0
EndKeepsMachine = (h : State) (xids : List Xid) (before now : List (List ℕ)) (s t : ℕ)
    → t < 16 * h.shape.segments → BlocksStand h xids before → Owns h s t → session_own h s ≡ []
    → IsEnded h.shape t before now → BlocksStand (after_end h t) xids now

-- A change of session s, which has table slot t or takes it, is its newest live one. No other session holds the key.
abbrev pub WriteKeepsMachine : Type 0
WriteKeepsMachine = (h : State) (xids : List Xid) (before now : List (List ℕ)) (s t : ℕ) (adds : Bool)
    (c : model.Change) (kind : Kind) (address : Uba) (u : UndoRecord)
    → t < 16 * h.shape.segments → 1 ≤ s → s ≤ length h.sessions → BlocksStand h xids before
    → Takes h (segments_of h.shape before) s t → u.home < table_blocks h.shape
    → IsNotHeld (cleaned_home (env_of h.shape before).look (home_of (block_of before u.home)))
    (record { seg = t / 16; slot = t % 16; wrap = u.wrap }) u.key
    → IsWritten h.shape t adds kind address u before now → SameChange h.shape c kind address u
    → HasRoomFor h.shape before t
    → BlocksStand (after_write h s t (slot_of (segments_of h.shape before) t).state c) xids now
