-- What the engine's calls make of homes that are kept in memory, by what they make of the blocks of a file.
use Rattle.std.specs.Prelude.{◌≡◌, ◌<◌, ◌≤◌, ◌++◌, ℕ, List, [], ◌∷◌}
use Rattle.law_aging.specs.Kept.{SegmentsAge}
use Rattle.rb_base.specs.Blocks.{table_blocks}
use Rattle.rb_base.specs.declared.ids.Xid.{Xid}
use Rattle.rb_copies.specs.Copies.{KeptHomes}
use Rattle.rb_cr.specs.Copies as build
use Rattle.rb_cr.specs.Copies.{IsReadWith, Keeps}
use Rattle.rb_cr.specs.declared.scratch.Snapshot.{Snapshot}
use Rattle.law_crash.specs.Made.{BackMade, CommitMade, EndMade, WriteMade}
use Rattle.rb_model.specs.Calls.{Action, Owned}
use Rattle.rb_model.specs.Change.{Change}
use Rattle.rb_model.specs.NextState.{committed}
use Rattle.rb_model.specs.State.{State}
use Rattle.law_copies.specs.Copies.{CopiesStand, TellsOf}
use Rattle.law_read.specs.Reading.{History}
use Rattle.law_blocks.specs.Standing.{env_of, segments_of}
use Rattle.law_blocks.specs.States.{BlocksStand}
use Rattle.law_home.specs.Walk.{last}

-- At first nothing is kept.
abbrev pub NoneStand : Type 0
NoneStand = (h : State) (xids : List Xid) (blocks : List (List ℕ)) → CopiesStand h xids blocks []

-- Kept homes stand over a call that leaves the segments as they are: one without a group, or a reader's cleaning.
abbrev pub SameKeeps : Type 0
SameKeeps = (h h2 : State) (xids : List Xid) (blocks blocks2 : List (List ℕ)) (kept : KeptHomes)
    → h2.shape ≡ h.shape → h2.commits ≡ h.commits → segments_of h.shape blocks2 ≡ segments_of h.shape blocks
    → CopiesStand h xids blocks kept → CopiesStand h2 xids blocks2 kept

-- They stand as the segments grow older and the commits stay, however many groups that takes.
abbrev pub AgesKeep : Type 0
AgesKeep = (h h2 : State) (xids : List Xid) (before now : List (List ℕ)) (kept : KeptHomes)
    → BlocksStand h xids before → SegmentsAge (segments_of h.shape before) (segments_of h.shape now)
    → h2.shape ≡ h.shape → h2.commits ≡ h.commits
    → CopiesStand h xids before kept → CopiesStand h2 xids now kept

-- The put back of a change leaves the segments older,
abbrev pub BackAges : Type 0
BackAges = (h : State) (xids : List Xid) (s : ℕ) (front : List Change) (before now : List (List ℕ))
    → BlocksStand h xids before → BackMade h xids s front before now
    → SegmentsAge (segments_of h.shape before) (segments_of h.shape now)

-- and so does the end of a transaction.
abbrev pub EndAges : Type 0
EndAges = (h : State) (xids : List Xid) (s : ℕ) (x : Xid) (before now : List (List ℕ))
    → BlocksStand h xids before → Owned h s x.seg x.slot → EndMade h xids s x before now
    → SegmentsAge (segments_of h.shape before) (segments_of h.shape now)

-- Kept homes stand over a write of session s,
abbrev pub WriteKeeps : Type 0
WriteKeeps = (h h2 : State) (xids : List Xid) (s table key : ℕ) (action : Action) (x : Xid)
    (before now : List (List ℕ)) (kept : KeptHomes)
    → BlocksStand h xids before → 1 ≤ table → table ≤ h.shape.tables
    → WriteMade h xids s table key action x before now
    → h2.shape ≡ h.shape → h2.commits ≡ h.commits
    → CopiesStand h xids before kept → CopiesStand h2 xids now kept

-- over the put back of its last change,
abbrev pub BackKeeps : Type 0
BackKeeps = (h h2 : State) (xids : List Xid) (s : ℕ) (front : List Change) (before now : List (List ℕ))
    (kept : KeptHomes)
    → BlocksStand h xids before → BackMade h xids s front before now
    → h2.shape ≡ h.shape → h2.commits ≡ h.commits
    → CopiesStand h xids before kept → CopiesStand h2 xids now kept

-- over its commit, after which there is one id more,
abbrev pub CommitKeeps : Type 0
CommitKeeps = (h h2 : State) (xids : List Xid) (s : ℕ) (x : Xid) (before now : List (List ℕ)) (kept : KeptHomes)
    → BlocksStand h xids before → Owned h s x.seg x.slot → CommitMade h xids s x before now
    → h2.shape ≡ h.shape → h2.commits ≡ (committed h s x.seg x.slot).commits
    → CopiesStand h xids before kept → CopiesStand h2 (xids ++ x ∷ []) now kept

-- and over the end of its transaction without one.
abbrev pub EndKeeps : Type 0
EndKeeps = (h h2 : State) (xids : List Xid) (s : ℕ) (x : Xid) (before now : List (List ℕ)) (kept : KeptHomes)
    → BlocksStand h xids before → Owned h s x.seg x.slot → EndMade h xids s x before now
    → h2.shape ≡ h.shape → h2.commits ≡ h.commits
    → CopiesStand h xids before kept → CopiesStand h2 xids now kept

-- They stand once a reader has built block b at its snapshot, whichever home was put and whichever went.
abbrev pub BuildKeeps : Type 0
BuildKeeps = (h : State) (xids : List Xid) (blocks : List (List ℕ)) (kept kept2 : KeptHomes) (b : ℕ)
    (hist : History) (snap : Snapshot)
    → b < table_blocks h.shape → TellsOf h xids b hist → IsReadWith h.shape blocks kept b hist snap
    → snap.scn ≤ last hist.base hist.list → Keeps h.shape blocks b snap kept kept2
    → CopiesStand h xids blocks kept → CopiesStand h xids blocks kept2

-- What is kept of block b stands for a reader's history, as a build asks for it.
abbrev pub StandsFor : Type 0
StandsFor = (h : State) (xids : List Xid) (blocks : List (List ℕ)) (kept : KeptHomes) (b : ℕ) (hist : History)
    → TellsOf h xids b hist → CopiesStand h xids blocks kept
    → build.CopiesStand (env_of h.shape blocks) h.shape hist kept b
