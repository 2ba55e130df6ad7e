-- What acknowledges commits, and that nothing takes that back.
use Rattle.std.specs.Prelude.{◌≡◌, ◌⊎◌, ℕ, ◌+◌, ◌≤◌, List}
use Rattle.rb_model.specs.Calls.{Answer, Call, Checkpoint, CommitLater, Committed, Done, Flushed, MayAnswer, Numbered}
use Rattle.rb_model.specs.NextState.{After}
use Rattle.rb_model.specs.Out.{Logged, Out, Outside}
use Rattle.rb_model.specs.Rows.{last_scn}
use Rattle.rb_model.specs.State.{State}

-- each commit that is acknowledged was made
abbrev pub SafeIsMade : State → Type 0
SafeIsMade h = h.safe ≤ last_scn h.commits

-- What is acknowledged stays so over a call, and was made.
abbrev pub KeepsSafe : Type 0
KeepsSafe = (h h2 : State) (call : Call) (r : Answer) → SafeIsMade h → After h call r h2
    → (h.safe ≤ h2.safe) × SafeIsMade h2

-- An answer that tells the number of a commit that lasts tells that of the last one, and all are acknowledged.
abbrev pub ToldIsSafe : Type 0
ToldIsSafe = (h h2 : State) (logged n : ℕ) (call : Call) (r : Answer) → (r ≡ Committed n) ⊎ (r ≡ Flushed n)
    → MayAnswer h logged call r → After h call r h2 → (h2.safe ≡ n) × (last_scn h2.commits ≡ n)

-- So they are behind a checkpoint.
abbrev pub CheckpointIsSafe : Type 0
CheckpointIsSafe = (h h2 : State) → After h Checkpoint Done h2 → h2.safe ≡ last_scn h2.commits

-- A later commit takes the next number, and acknowledges nothing.
abbrev pub LaterIsNotSafe : Type 0
LaterIsNotSafe = (h h2 : State) (logged n s : ℕ) → MayAnswer h logged (CommitLater s) (Numbered n)
    → After h (CommitLater s) (Numbered n) h2
    → (n ≡ last_scn h.commits + 1) × (last_scn h2.commits ≡ n) × (h2.safe ≡ h.safe)

-- What is acknowledged stays so over the lines of a script, whatever else answers hang on.
abbrev pub LinesKeepSafe : Outside → Type 0
LinesKeepSafe outside = (m m2 : Logged) (lines : List (List ℕ)) (out : List ℕ) → SafeIsMade m.state
    → Out m outside lines out m2 → (m.state.safe ≤ m2.state.safe) × SafeIsMade m2.state
