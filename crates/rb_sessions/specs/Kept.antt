-- What a contract sees of the table of sessions, and how its calls change it.
use Rattle.std.specs.Prelude.{◌≡◌, ℕ, zero, suc, true, ◌+◌, ◌-◌, ◌^◌, false, not}
use Rattle.std.specs.Prelude.{◌&&◌, nat_lt, min, cond}
use Rattle.std.specs.Prelude.{List, [], ◌∷◌, ◌++◌, map, filter, get_or, set, Option, None, Some}
use Rattle.std.specs.Option.{option_map}
use Rattle.std.specs.Str.{bytes_eq}
use Rattle.rb_base.specs.declared.ids.Xid.{Xid}
use Rattle.rb_model.specs.Change.{Action, Asked}
use Rattle.rb_model.specs.Change as change
use Rattle.rb_model.specs.NextState as machine
use Rattle.rb_model.specs.State.{Savepoint}
use Rattle.rb_model.specs.declared.mode.Isolation.{Isolation}
use Rattle.rb_model.specs.declared.mode.Isolation.TheVariants.{ReadCommitted}
use Rattle.rb_sessions.specs.declared.cursor.Cursor.{Cursor}
use Rattle.rb_sessions.specs.declared.row.SessionRow.{SessionRow}
use Rattle.rb_sessions.specs.declared.named.Named.{Named}
use Rattle.rb_sessions.specs.declared.pending.Pending.{Pending}
use Rattle.rb_sessions.specs.declared.pending.PendingOp.{PendingOp}
use Rattle.rb_sessions.specs.declared.pending.PendingOp.TheVariants.{Insert, Update, Put, Delete, Lock}
use Rattle.rb_sessions.specs.declared.savepoint.Mark.{Mark}

-- a cursor under its name
pub record KeptCursor : Type 0 where
  pub name : List ℕ
  pub cursor : Cursor

-- a session: how its transaction reads, the id of that, where it has a table slot, how many live changes it has, its
-- savepoints in order of setting, the open cursors in order of opening, and the write with which the session waits, or
-- has waited last
pub record KeptSession : Type 0 where
  pub isolation : Isolation
  pub own : Option Xid
  pub count : ℕ
  pub savepoints : List Savepoint
  pub cursors : List KeptCursor
  pub asked : Option Asked

abbrev pub cursor_view : Named Cursor → KeptCursor
cursor_view n = record { name = n.name.items; cursor = n.value }

abbrev pub savepoint_view : Named Mark → Savepoint
savepoint_view n = record { name = n.name.items; kept = n.value.kept }

-- what a write that waits does, as the machine's action
abbrev pub pending_action : PendingOp → Action
pending_action (Insert value) = change.Insert value.items
pending_action (Update value) = change.Update value.items
pending_action (Put value) = change.Upsert value.items
pending_action Delete = change.Delete
pending_action Lock = change.Lock

-- the write as a session asks the machine for it
abbrev pub asked_of_pending : Pending → Asked
asked_of_pending p = record { table = p.table; key = p.key; action = pending_action p.op }

abbrev pub session_view : SessionRow → KeptSession
session_view e = record {
  isolation = e.isolation;
  own = e.own;
  count = e.count;
  savepoints = map savepoint_view e.savepoints.items;
  cursors = map cursor_view e.cursors.items;
  asked = option_map asked_of_pending e.asked;
}

-- a session without a transaction and without a cursor, which has never waited
abbrev pub fresh : KeptSession
fresh = record {
  isolation = ReadCommitted;
  own = None;
  count = 0;
  savepoints = [];
  cursors = [];
  asked = None;
}

-- the session of a number, from 1 on
abbrev pub kept_at : List KeptSession → ℕ → KeptSession
kept_at sessions s = get_or sessions (s - 1) fresh

-- the table with another one in its place
abbrev pub with_kept : List KeptSession → ℕ → KeptSession → List KeptSession
with_kept sessions s k = set sessions (s - 1) k

-- reading so
abbrev pub isolated : Isolation → KeptSession → KeptSession
isolated isolation k = record k { isolation = isolation }

-- one change more, of the transaction of that id
abbrev pub wrote : Xid → KeptSession → KeptSession
wrote x k = record k { own = Some x; count = min (k.count + 1) (2 ^ 32 - 1) }

-- the cursor as one of no present transaction
abbrev pub passed : KeptCursor → KeptCursor
passed c = record c { cursor = record c.cursor { present = false } }

-- the cursors that stay as the changes behind the first `kept` go: those of the present transaction that see more close
abbrev pub left_open : ℕ → List KeptCursor → List KeptCursor
left_open kept cursors = filter (λ c. not (c.cursor.present && nat_lt kept c.cursor.upto)) cursors

-- without a transaction, its mode and savepoints, with these cursors, which are of no present one
abbrev pub ended : List KeptCursor → KeptSession → KeptSession
ended cursors k = record k {
  isolation = ReadCommitted;
  own = None;
  count = 0;
  savepoints = [];
  cursors = map passed cursors;
}

abbrev pub committed : KeptSession → KeptSession
committed k = ended k.cursors k

abbrev pub rolled_back : KeptSession → KeptSession
rolled_back k = ended (left_open 0 k.cursors) k

-- waiting with that write
abbrev pub holding : Asked → KeptSession → KeptSession
holding asked k = record k { asked = Some asked }

-- a savepoint of that name set now
abbrev pub with_savepoint : List ℕ → KeptSession → KeptSession
with_savepoint name k = record k { savepoints = machine.with_savepoint name k.count k.savepoints }

-- how many changes a savepoint keeps
abbrev pub kept_by : Option Savepoint → Option ℕ
kept_by None = None
kept_by (Some p) = Some p.kept

-- with the changes up to the savepoint of that name, which keeps so many
abbrev pub rolled_to : List ℕ → ℕ → KeptSession → KeptSession
rolled_to name kept k = record k {
  count = min k.count kept;
  savepoints = machine.up_to name k.savepoints;
  cursors = left_open kept k.cursors;
}

-- back at a savepoint of that name, where there is one
abbrev pub back_at : List ℕ → Option Savepoint → KeptSession → KeptSession
back_at name None k = k
back_at name (Some p) k = rolled_to name p.kept k

abbrev pub with_cursors : KeptSession → List KeptCursor → KeptSession
with_cursors k cursors = record k { cursors = cursors }

-- one cursor more
abbrev pub with_cursor : List ℕ → Cursor → KeptSession → KeptSession
with_cursor name c k = with_cursors k (k.cursors ++ record { name = name; cursor = c } ∷ [])

-- the first cursor of that name
abbrev pub named : List ℕ → List KeptCursor → Option Cursor
named name [] = None
named name (c ∷ cursors) = cond (bytes_eq c.name name) (Some c.cursor) (named name cursors)

-- the place of the first cursor of that name
abbrev pub IsPlaceOf : List ℕ → List KeptCursor → ℕ → Type 0
IsPlaceOf name [] i = ⊥
IsPlaceOf name (c ∷ cursors) zero = bytes_eq c.name name ≡ true
IsPlaceOf name (c ∷ cursors) (suc i) = (bytes_eq c.name name ≡ false) × IsPlaceOf name cursors i

-- the cursors with that key as the last one of the first cursor of that name, and without it
abbrev pub with_last : List ℕ → ℕ → List KeptCursor → List KeptCursor
with_last name key [] = []
with_last name key (c ∷ cursors) = cond (bytes_eq c.name name)
    (record c { cursor = record c.cursor { last = Some key } } ∷ cursors) (c ∷ with_last name key cursors)

abbrev pub without : List ℕ → List KeptCursor → List KeptCursor
without name [] = []
without name (c ∷ cursors) = cond (bytes_eq c.name name) cursors (c ∷ without name cursors)
