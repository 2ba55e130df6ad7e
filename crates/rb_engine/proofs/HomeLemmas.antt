-- A home of which the dead are gone: no dead transaction has a change there, and so none holds its keys.
use Rattle.std.proofs.Common.{◌≡◌, ◌<◌, ◌≤◌, ◌*◌, ◌∷◌, inl, ℕ, Bool, true, false, List, [], Option, Some, Result, Ok, Err, IfErr, IfOk, refl, sym, ◌∙◌, ap, subst, arith}
use Rattle.std.proofs.lemmas.Bool.{false≢true}
use Rattle.std.specs.List.{list_any}
use Rattle.rb_base.specs.declared.ids.Xid.{Xid}
use Rattle.rb_base.specs.declared.shape.Shape.{Shape}
use Rattle.law_blocks.specs.States.{BlocksStand, Owns}
use Rattle.law_dead.proofs.Cleared.{alive_holds, cleared_is_clear}
use Rattle.law_dead.specs.Laws.{OwnsOne}
use Rattle.rb_dead.proofs.Homes.{owns_one}
use Rattle.rb_engine.specs.Behind.{HasClearHome}
use Rattle.rb_engine.specs.Lateness.{IsRefusedLate}
use Rattle.rb_model.specs.Answers.{write_answer}
use Rattle.rb_model.specs.Calls.{Refused}
use Rattle.rb_model.specs.Clearing.{Readies}
use Rattle.rb_model.specs.declared.refusal.Refusal.{Refusal}
use Rattle.rb_model.specs.declared.refusal.Refusal.TheVariants as refusals
use Rattle.rb_model.specs.declared.wrote.Wrote.{Wrote}
use Rattle.rb_model.specs.declared.wrote.Wrote.TheVariants as wrotes
use Rattle.rb_model.proofs.DeadLemmas.{home_rest}
use Rattle.rb_model.specs.Change.{Change}
use Rattle.rb_model.specs.Dead.{dead_at, home_cleared, works_at}
use Rattle.rb_model.specs.State.{State, session_count, session_own}
use Rattle.rb_model.specs.Tests.{holder, is_in_home}

-- a session that works in a home has changes
some_change : (p : Change → Bool) (l : List Change) → list_any p l ≡ true → (c : Change) × (more : List Change) × (l ≡ c ∷ more)
some_change p [] any = absurd (false≢true any)
some_change p (c ∷ more) any = (c, more, refl)

pub clear_home : (h : State) (xids xids2 : List Xid) (blocks blocks2 : List (List ℕ)) (table key : ℕ) → BlocksStand h xids blocks → BlocksStand (home_cleared table key h) xids2 blocks2 → HasClearHome (home_cleared table key h) table key
clear_home h xids xids2 blocks blocks2 table key before now =
    let h2 : State = home_cleared table key h in
    let rest = home_rest table key h in record {
      none = λ t d within at. let same = ap (λ (z : Shape). z.segments) rest.shape in cleared_is_clear table key h t d (owns_one h xids blocks before) (omega (arith, within, same)) at;
      owned = λ u low works. let some = some_change (is_in_home h2.shape table key) (session_own h2 u) works in now.tell.has_slot u some.0 some.1 low some.2;
    }

pub living_holds : (h : State) (table key : ℕ) → HasClearHome h table key → (u : ℕ) → holder h table key ≡ Some u → u ≤ session_count
living_holds h table key clear u held = alive_holds h table key u clear.none clear.owned held

-- A write that waits, or comes too late, asks for no room.
pub waits_ready : (h : State) (s u : ℕ) (r : Result Wrote Refusal) → IfErr r (λ why. why ≡ refusals.Deadlock u) → IfOk r (λ w. w ≡ wrotes.Waits u) → Readies s h (write_answer r) h
waits_ready h s u (Ok w) ring waits = subst (λ (x : Wrote). Readies s h (write_answer (Ok x)) h) (sym waits) refl
waits_ready h s u (Err why) ring waits = subst (λ (x : Refusal). Readies s h (Refused x) h) (sym ring) refl

pub late_ready : (h : State) (xids : List Xid) (blocks : List (List ℕ)) (s table key : ℕ) (why : Refusal) → IsRefusedLate h xids blocks s table key why → Readies s h (Refused why) h
late_ready h xids blocks s table key (refusals.TooOld scn lost) late = refl
late_ready h xids blocks s table key (refusals.CantSerialize scn by) late = refl
late_ready h xids blocks s table key refusals.DiskFault late = inl refl
late_ready h xids blocks s table key _ late = absurd late
