-- What holds of the definitions of this crate: blocks that stand for a state have it, a later state keeps what an
-- earlier one had, and what blocks have bounds what an opening finds in them.
use Rattle.std.specs.Prelude.{◌≡◌, ◌≤◌, ◌<◌, ℕ, List}
use Rattle.rb_base.specs.declared.ids.Xid.{Xid}
use Rattle.law_crash.specs.Between.{Extends}
use Rattle.law_crash.specs.Images.{HasState}
use Rattle.rb_model.specs.Book.{Book, book_at}
use Rattle.rb_model.specs.Rows.{last_scn, rows_at}
use Rattle.rb_model.specs.State.{State}
use Rattle.law_blocks.specs.Standing.{SoundAs, logged_of, segments_of}
use Rattle.law_blocks.specs.States.{BlocksStand}

-- Blocks that stand for a state have all its commits, and its marks.
abbrev pub StandingHasState : Type 0
StandingHasState = (h : State) (xids : List Xid) (blocks : List (List ℕ)) (lsn : ℕ)
    → BlocksStand h xids blocks → lsn ≡ logged_of h.shape blocks
    → HasState h h.books (last_scn h.commits) blocks lsn

-- What blocks have of a state at a number, they have of each later one.
abbrev pub LaterHasState : Type 0
LaterHasState = (h h2 : State) (n : ℕ) (blocks : List (List ℕ)) (lsn : ℕ) → Extends h h2
    → n ≤ last_scn h.commits → HasState h h.books n blocks lsn → HasState h2 h2.books n blocks lsn

-- A later state has all commits of the earlier one, with their numbers, and no mark that is less, and it acknowledges
-- no fewer.
abbrev pub LaterHasCommits : Type 0
LaterHasCommits = (h h2 : State) → Extends h h2 → (last_scn h.commits ≤ last_scn h2.commits)
    × (h.safe ≤ h2.safe)
    × ((n : ℕ) → n ≤ last_scn h.commits
    → rows_at h2.shape.blocks h2.commits n ≡ rows_at h.shape.blocks h.commits n)
    × ((g : ℕ) → g < h.shape.segments → ((book_at h.books g).writes ≤ (book_at h2.books g).writes)
    × ((book_at h.books g).lost ≤ (book_at h2.books g).lost))

-- Blocks that have a state at a number lead to its rows there, and in no segment were more records made, or was a
-- greater number given up, than the books say.
abbrev pub StateIsSeen : Type 0
StateIsSeen = (h : State) (books : List Book) (n : ℕ) (blocks : List (List ℕ)) (lsn : ℕ)
    → HasState h books n blocks lsn
    → SoundAs h.shape blocks n (rows_at h.shape.blocks h.commits n)
    × ((g : ℕ) → g < h.shape.segments
    → ((segments_of h.shape blocks g).header.writes ≤ (book_at books g).writes)
    × ((segments_of h.shape blocks g).header.lost ≤ (book_at books g).lost))
