-- An attempt's answer is the machine's: a refusal is the first of its tests that applies, and a write that is done is
-- one that no test refuses, after which the blocks stand for the machine's next state. Who holds a key is who does in
-- the machine. A session that is about to write has a segment for it, where the living leave a slot.
use Rattle.std.specs.Prelude.{◌≡◌, ◌<◌, ◌≤◌, ◌+◌, ◌*◌, ℕ, false, List, length}
use Rattle.std.specs.Prelude.{Option, None, Some}
use Rattle.rb_write.specs.Asks.{adds_for, kind_of, IsWriterOf}
use Rattle.rb_write.specs.Holding.{holder_in}
use Rattle.rb_write.specs.Refusals.{HasCause, TakesAsk}
use Rattle.rb_write.specs.declared.ask.Ask.{Ask}
use Rattle.rb_write.specs.declared.ask.AttemptFault.{AttemptFault}
use Rattle.rb_base.specs.Blocks.{home_block}
use Rattle.rb_base.specs.declared.ids.Uba.{Uba}
use Rattle.rb_base.specs.declared.ids.Xid.{Xid}
use Rattle.rb_base.specs.declared.sizes.TheConstants.{WORN}
use Rattle.rb_model.specs.Book.{Owner, book_at, is_full, owners, slot_owner}
use Rattle.rb_model.specs.Calls.{Done, WritesAt, WritesIn, first_of, write_tests}
use Rattle.rb_model.specs.Clearing.{lacks_room}
use Rattle.rb_model.specs.State.{State}
use Rattle.rb_model.specs.NextState.{change_in, written}
use Rattle.rb_segment.specs.Header.{Header}
use Rattle.law_blocks.specs.Standing.{env_of, logged_of}
use Rattle.law_blocks.specs.States.{BlocksStand}
use Rattle.law_blocks.specs.Writing.{IsWritten}
use Rattle.rb_undoblock.specs.declared.record.UndoRecord.{UndoRecord}
use Rattle.rb_model.specs.Answers.{action_by}
use Rattle.rb_steps.specs.Steps.{IsAbout, IsHolder, IsRefusedAs, MayWrite}

-- the record is that of the ask, by that transaction
pub record IsAsked (h : State) (ask : Ask) (x : Xid) (u : UndoRecord) : Type 0 where
  pub table : u.table ≡ ask.table
  pub key : u.key ≡ ask.key
  pub wrap : u.wrap ≡ x.wrap
  pub home : u.home ≡ home_block h.shape ask.table ask.key

-- A refusal of a session's write is the answer of the machine's first test that applies, or tells that no slot is left.
abbrev pub RefusedAsMachine : Type 0
RefusedAsMachine = (h : State) (xids : List Xid) (blocks : List (List ℕ)) (s logged : ℕ) (ask : Ask)
    (fault : AttemptFault)
    → IsAbout h xids s ask.own blocks → 1 ≤ ask.table → ask.table ≤ h.shape.tables
    → MayWrite h s ask.table ask.key → HasCause h.shape blocks ask logged fault
    → IsRefusedAs h logged s ask.table ask.key (action_by ask.op) fault

-- A write that is done is one that no test of the machine refuses, and the blocks stand for the state after it.
abbrev pub DoneAsMachine : Type 0
DoneAsMachine = (h : State) (xids : List Xid) (before now : List (List ℕ)) (s : ℕ) (ask : Ask) (x : Xid)
    (ready : Header) (address : Uba) (u : UndoRecord)
    → IsAbout h xids s ask.own before → s ≤ length h.sessions → 1 ≤ ask.table
    → ask.table ≤ h.shape.tables → MayWrite h s ask.table ask.key → IsWriterOf h.shape before ask.own x ready
    → IsAsked h ask x u → TakesAsk h.shape before ask
    → IsWritten h.shape (16 * x.seg + x.slot) (adds_for h.shape before ask) (kind_of ask.op) address u before now
    → logged_of h.shape before < WORN
    → WritesIn h s x.seg x.slot
    × (first_of (write_tests h (logged_of h.shape before) x.seg s ask.table ask.key (action_by ask.op))
    Done ≡ Done)
    × BlocksStand (written h s x.seg x.slot (change_in h x.seg ask.table ask.key (action_by ask.op))) xids now

-- Who holds a key by its home, as it is, and by the headers, is who holds it in the machine.
abbrev pub HolderIsMachines : Type 0
HolderIsMachines = (h : State) (xids : List Xid) (blocks : List (List ℕ)) (table key : ℕ)
    → BlocksStand h xids blocks → 1 ≤ table → table ≤ h.shape.tables
    → IsHolder h (env_of h.shape blocks) table key (holder_in h.shape blocks table key)

-- A session writes in the segment of its slot, or would begin in one.
abbrev pub WritesAtSome : Type 0
WritesAtSome = (h : State) (xids : List Xid) (blocks : List (List ℕ)) (s : ℕ) (own : Option Xid)
    → IsAbout h xids s own blocks → (g : ℕ) × WritesAt h s g

-- A session that has no slot finds one in a segment where each owner is one of the sixteen: at most fifteen others are.
abbrev pub LivingLeaveSlot : Type 0
LivingLeaveSlot = (h : State) (xids : List Xid) (blocks : List (List ℕ)) (s : ℕ) (own : Option Xid)
    → IsAbout h xids s own blocks → s ≤ 16 → own ≡ None → (g : ℕ) → g < length h.books
    → ((i : ℕ) (o : Owner) → i < 16 → slot_owner (book_at h.books g) i ≡ Some o → o.session ≤ 16)
    → owners (book_at h.books g) ≤ 15

-- A session that has its slot, or takes one, lacks nothing there but a place for its record.
abbrev pub SlotIsRoom : Type 0
SlotIsRoom = (h : State) (xids : List Xid) (blocks : List (List ℕ)) (s g i : ℕ)
    → BlocksStand h xids blocks → WritesIn h s g i → is_full (book_at h.books g) ≡ false
    → lacks_room s (book_at h.books g) ≡ false
