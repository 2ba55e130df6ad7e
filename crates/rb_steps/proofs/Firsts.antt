-- The first of a write's tests that applies, by what the tests before the log's are.
use Rattle.std.proofs.Common.{◌≡◌, ◌++◌, ◌&&◌, ℕ, Bool, true, false, not, List, [], ◌∷◌, Option, Some, None, nat_le, refl, ◌∙◌, ap, arith}
use Rattle.std.proofs.lemmas.Bool.{and_from, le-leb}
use Rattle.std.proofs.lemmas.List.{append_assoc}
use Rattle.rb_write.specs.Asks.{adds_row, kind_of}
use Rattle.rb_base.specs.declared.sizes.TheConstants.{WORN}
use Rattle.rb_model.specs.Book.{book_at, is_full}
use Rattle.rb_model.specs.Calls as calls
use Rattle.rb_model.specs.declared.refusal.Refusal.TheVariants as refusals
use Rattle.rb_model.specs.Calls.{Action, Answer, Done, Refused, first_of, key_tests, none_applies, room_tests, serial_tests, waited, write_tests}
use Rattle.rb_model.specs.Full.{full_block}
use Rattle.rb_model.specs.Queue.{Waiter}
use Rattle.rb_model.specs.State.{State, isolation_of}
use Rattle.rb_model.specs.NextState.{kind_by}
use Rattle.rb_model.specs.Calls.{adds, adds_now, rows_now}
use Rattle.rb_model.specs.Rows.{has_row}
use Rattle.rb_model.specs.Tests.{full_slots, holder, made_since}
use Rattle.rb_model.specs.declared.op.Op.{Op}
use Rattle.rb_model.specs.declared.op.Op.TheVariants.{Insert, Update, Put, Delete}
use Rattle.rb_model.specs.Answers.{action_by}
use Rattle.law_write.specs.Verdict as verdict
use Rattle.law_write.specs.Verdict.{Verdict, tested}

-- an operation, or the lock without one, adds a row or not, and is of a kind, in both words
pub adds_is : (op : Option Op) (present : Bool) → adds (action_by op) present ≡ adds_row op present
adds_is (Some (Insert value)) present = refl
adds_is (Some (Update value)) present = refl
adds_is (Some (Put value)) present = refl
adds_is (Some Delete) present = refl
adds_is None present = refl

pub kind_is : (op : Option Op) → kind_by (action_by op) ≡ kind_of op
kind_is (Some (Insert value)) = refl
kind_is (Some (Update value)) = refl
kind_is (Some (Put value)) = refl
kind_is (Some Delete) = refl
kind_is None = refl

-- nobody is waited for where no other session holds the key
nobody_waits : (queue : List Waiter) (s : ℕ) (o : Option ℕ) (tests : List (Bool × Answer)) → ((u : ℕ) → o ≡ Some u → u ≡ s) → first_of (waited queue s o ++ tests) Done ≡ first_of tests Done
nobody_waits queue s None tests own = refl
nobody_waits queue s (Some u) tests own =
    let same : u ≡ s = own u refl in
    let test : (nat_le u s && nat_le s u) ≡ true = and_from (nat_le u s) (nat_le s u) (le-leb u s (omega (arith, same))) (le-leb s u (omega (arith, same))) in
    rw test refl

-- and so none of these tests applies
none_waits : (queue : List Waiter) (s : ℕ) (o : Option ℕ) (tests : List (Bool × Answer)) → ((u : ℕ) → o ≡ Some u → u ≡ s) → none_applies (waited queue s o ++ tests) ≡ none_applies tests
none_waits queue s None tests own = refl
none_waits queue s (Some u) tests own =
    let same : u ≡ s = own u refl in
    let test : (nat_le u s && nat_le s u) ≡ true = and_from (nat_le u s) (nat_le s u) (le-leb u s (omega (arith, same))) (le-leb s u (omega (arith, same))) in
    rw test refl

-- the answer that goes with what those tests find
abbrev pub answer_of : Verdict → ℕ → ℕ → Answer → Answer
answer_of (verdict.Waits u) g since later = calls.Waits u
answer_of verdict.Duplicate g since later = Refused refusals.Duplicate
answer_of verdict.NotFound g since later = Refused refusals.NotFound
answer_of verdict.BlockFull g since later = Refused refusals.BlockFull
answer_of verdict.SlotsFull g since later = Refused refusals.SlotsFull
answer_of verdict.RollbackFull g since later = Refused (refusals.RollbackFull g since)
answer_of verdict.Fine g since later = later

first_tested : (a p f e r : Bool) (g since : ℕ) (tests : List (Bool × Answer))
    → first_of ((a && p, Refused refusals.Duplicate) ∷ (not a && not p, Refused refusals.NotFound) ∷ (a && f, Refused refusals.BlockFull) ∷ (e, Refused refusals.SlotsFull) ∷ (r, Refused (refusals.RollbackFull g since)) ∷ tests) Done
    ≡ answer_of (tested a p f e r) g since (first_of tests Done)
first_tested true true f e r g since tests = refl
first_tested true false true e r g since tests = refl
first_tested true false false true r g since tests = refl
first_tested true false false false true g since tests = refl
first_tested true false false false false g since tests = refl
first_tested false true f true r g since tests = refl
first_tested false true f false true g since tests = refl
first_tested false true f false false g since tests = refl
first_tested false false f e r g since tests = refl

none_tested : (a p f e : Bool) → tested a p f e false ≡ verdict.Fine
    → none_applies ((a && p, Refused refusals.Duplicate) ∷ (not a && not p, Refused refusals.NotFound) ∷ (a && f, Refused refusals.BlockFull) ∷ (e, Refused refusals.SlotsFull) ∷ []) ≡ true
none_tested true true f e is = absurd cc
none_tested true false true e is = absurd cc
none_tested true false false true is = absurd cc
none_tested true false false false is = refl
none_tested false true f true is = absurd cc
none_tested false true f false is = refl
none_tested false false f e is = absurd cc

-- the tests of the log
abbrev pub log_tests : ℕ → List (Bool × Answer)
log_tests logged = (nat_le WORN logged, Refused refusals.WornOut) ∷ []

-- those of the key and its home
abbrev home_tests : State → (s table key : ℕ) → Action → List (Bool × Answer)
home_tests h s table key action =
    (adds_now h s table key action && has_row table key (rows_now h s), Refused refusals.Duplicate)
    ∷ (not (adds_now h s table key action) && not (has_row table key (rows_now h s)), Refused refusals.NotFound)
    ∷ (adds_now h s table key action && full_block h table key, Refused refusals.BlockFull)
    ∷ (full_slots h s table key, Refused refusals.SlotsFull) ∷ []

-- the tests of a write that waits for nobody and doesn't come too late
abbrev pub row_tests : State → (logged g i s table key : ℕ) → Action → List (Bool × Answer)
row_tests h logged g i s table key action =
    (adds_now h s table key action && has_row table key (rows_now h s), Refused refusals.Duplicate)
    ∷ (not (adds_now h s table key action) && not (has_row table key (rows_now h s)), Refused refusals.NotFound)
    ∷ (adds_now h s table key action && full_block h table key, Refused refusals.BlockFull)
    ∷ (full_slots h s table key, Refused refusals.SlotsFull)
    ∷ (is_full (book_at h.books g), Refused (refusals.RollbackFull g (made_since (book_at h.books g))))
    ∷ log_tests logged

pub split_tests : (h : State) (logged g i s table key : ℕ) (action : Action)
    → write_tests h logged g s table key action ≡ waited h.queue s (holder h table key) ++ (serial_tests h.commits (isolation_of h s) table key ++ row_tests h logged g i s table key action)
split_tests h logged g i s table key action =
    append_assoc (waited h.queue s (holder h table key) ++ serial_tests h.commits (isolation_of h s) table key) (home_tests h s table key action) (room_tests h logged g)
    ∙ append_assoc (waited h.queue s (holder h table key)) (serial_tests h.commits (isolation_of h s) table key) (row_tests h logged g i s table key action)

-- where no other session holds the key, only a late commit comes before those
pub first_serial : (h : State) (logged g i s table key : ℕ) (action : Action) → ((u : ℕ) → holder h table key ≡ Some u → u ≡ s)
    → first_of (write_tests h logged g s table key action) Done ≡ first_of (serial_tests h.commits (isolation_of h s) table key ++ row_tests h logged g i s table key action) Done
first_serial h logged g i s table key action own =
    ap (λ (l : List (Bool × Answer)). first_of l Done) (split_tests h logged g i s table key action)
    ∙ nobody_waits h.queue s (holder h table key) (serial_tests h.commits (isolation_of h s) table key ++ row_tests h logged g i s table key action) own

module _ (h : State) (s table key g i : ℕ) (op : Option Op) where
  -- what the tests before the log find
  abbrev pub Found : Verdict
  Found = tested (adds_now h s table key (action_by op)) (has_row table key (rows_now h s)) (full_block h table key) (full_slots h s table key) (is_full (book_at h.books g))

  pub first_found : (logged : ℕ) → ((u : ℕ) → holder h table key ≡ Some u → u ≡ s) → serial_tests h.commits (isolation_of h s) table key ≡ []
      → first_of (write_tests h logged g s table key (action_by op)) Done
      ≡ answer_of Found g (made_since (book_at h.books g)) (first_of (log_tests logged) Done)
  first_found logged own timely =
      first_serial h logged g i s table key (action_by op) own
      ∙ (ap (λ (l : List (Bool × Answer)). first_of (l ++ row_tests h logged g i s table key (action_by op)) Done) timely
      ∙ first_tested (adds_now h s table key (action_by op)) (has_row table key (rows_now h s)) (full_block h table key) (full_slots h s table key) (is_full (book_at h.books g)) g (made_since (book_at h.books g)) (log_tests logged))

-- no test of the key and its home applies where these find none
pub none_before : (h : State) (s table key : ℕ) (op : Option Op) → ((u : ℕ) → holder h table key ≡ Some u → u ≡ s) → serial_tests h.commits (isolation_of h s) table key ≡ []
    → tested (adds_now h s table key (action_by op)) (has_row table key (rows_now h s)) (full_block h table key) (full_slots h s table key) false ≡ verdict.Fine
    → none_applies (key_tests h s table key (action_by op)) ≡ true
none_before h s table key op own timely is =
    ap none_applies (append_assoc (waited h.queue s (holder h table key)) (serial_tests h.commits (isolation_of h s) table key) (home_tests h s table key (action_by op)))
    ∙ (none_waits h.queue s (holder h table key) (serial_tests h.commits (isolation_of h s) table key ++ home_tests h s table key (action_by op)) own
    ∙ (ap (λ (l : List (Bool × Answer)). none_applies (l ++ home_tests h s table key (action_by op))) timely
    ∙ none_tested (adds_now h s table key (action_by op)) (has_row table key (rows_now h s)) (full_block h table key) (full_slots h s table key) is))
