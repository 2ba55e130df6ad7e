-- The tests of a call that need memory and a file's shape alone, and what they refuse.
use Rattle.std.specs.Prelude.{◌≡◌, ◌≢◌, ◌==◌, ◌&&◌, ℕ, Bool, true, false, List, Result}
use Rattle.rb_base.specs.Counts.{err_is}
use Rattle.rb_model.specs.Calls.{Answer, Done, Refused, first_of, is_disk_fault, none_applies}
use Rattle.rb_model.specs.Isolation.{is_read_committed}
use Rattle.rb_model.specs.declared.activity.Wait.{Wait}
use Rattle.rb_model.specs.declared.activity.Wait.TheVariants as wait
use Rattle.rb_model.specs.declared.refusal.Refusal.{Refusal}
use Rattle.rb_model.specs.declared.refusal.Refusal.TheVariants.{TooOld}
use Rattle.rb_sessions.specs.declared.row.Session.{Session}

-- the first of these tests that applies refuses so
abbrev pub Refuses : List (Bool × Answer) → Refusal → Type 0
Refuses tests why = (none_applies tests ≡ false) × (Refused why ≡ first_of tests Done)

-- a result that tells of a fault of the disk
abbrev pub err_faults : {T : Type 0} → Result T Refusal → Bool
err_faults result = err_is is_disk_fault result

-- a refusal that tells of no snapshot that is too old
abbrev pub NotOld : Refusal → Type 0
NotOld why = (scn lost : ℕ) → why ≢ TooOld scn lost

-- the transaction of a session in the table has neither a mode of its own nor changes nor savepoints
abbrev pub is_idle : Session → Bool
is_idle session = is_read_committed session.isolation && (session.length == 0 && session.savepoints == 0)

abbrev pub is_free : Wait → Bool
is_free wait.Free = true
is_free (wait.On session) = false
is_free wait.Ready = false

-- and the session has no cursor, and no place in the queue
abbrev pub has_nothing : Session → Wait → Bool
has_nothing session wait = is_idle session && (session.cursors == 0 && is_free wait)
