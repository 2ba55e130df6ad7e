-- What a write or a fetch leaves of slot entries that were Open tells the looks.
use Rattle.std.proofs.Common.{◌≡◌, inl, inr, ℕ, true, false, List, [], Result, Ok, Err, refl, sym, ap, subst, arith}
use Rattle.rb_base.specs.Counts.{err_is}
use Rattle.rb_base.specs.Logs.{Logs}
use Rattle.rb_base.specs.declared.ids.Xid.{Xid}
use Rattle.rb_base.specs.declared.shape.Shape.{Shape}
use Rattle.rb_base.specs.declared.store.Store.{Ghosts}
use Rattle.rb_engine.specs.Cleaning.{CleansRead, HasLooked}
use Rattle.rb_engine.specs.Does.{EngineView}
use Rattle.law_crash.proofs.Tells.{tells_cleaned, tells_same}
use Rattle.law_crash.specs.Made.{GivesOne, TellsLooks, WriteMade}
use Rattle.rb_engine.specs.Getting.{KeyRead}
use Rattle.rb_engine.specs.Makes.{Makes}
use Rattle.rb_model.specs.Answers.{get_answer}
use Rattle.rb_model.specs.Calls.{Action, Get, is_disk_fault}
use Rattle.rb_model.specs.State.{State}
use Rattle.rb_model.specs.declared.refusal.Refusal.{Refusal}
use Rattle.rb_model.specs.declared.refusal.Refusal.TheVariants as refusals
use Rattle.rb_model.specs.declared.row.Fetched.{Fetched}
use Rattle.rb_model.specs.declared.row.Fetched.TheVariants as fetched
use Rattle.rb_model.specs.declared.row.Row.{Row}

module _ {S : Type 0} (s : Ghosts S) (told : s.tells) where
  -- calls that gave no group leave all entries
  pub tells_logged : (shape : Shape) (old new : S) → Logs s old new [] true → TellsLooks shape (s.blocks old) (s.blocks new)
  tells_logged shape old new logs = tells_same shape (s.blocks old) (s.blocks new) (logs.blocks told refl)

  -- a write that is done
  pub tells_written : (h : State) (xids : List Xid) (who table key : ℕ) (action : Action) (x : Xid) (old new : S) → GivesOne s old new true (λ now. WriteMade h xids who table key action x (s.blocks old) now)
      → TellsLooks h.shape (s.blocks old) (s.blocks new)
  tells_written h xids who table key action x old new one =
      let single = one.one refl in
      subst (TellsLooks h.shape (s.blocks old)) (sym (one.logs.blocks told refl)) (one.made (omega (arith, single))).tells

-- A fetch that looked for its row has cleaned blocks; one that was refused before has none.
module _ {S : Type 0} (s : Ghosts S) (h : State) where
  tells_read : {old : EngineView S} {who : ℕ} {name : List ℕ} {well : Type 0} (new : S) → CleansRead s h old who name well new → TellsLooks h.shape (s.blocks old.store) (s.blocks new)
  tells_read {old = old} new cleans = tells_cleaned h.shape (s.blocks old.store) (s.blocks new) (λ b b_in. elim (cleans.only.each b) [
    | inl same ↦ inl same
    | inr clean ↦ inr clean.1
  ])

  pub tells_fetched : {old : EngineView S} {who : ℕ} {name : List ℕ} {well : Type 0} (new : S) (r : Result Fetched Refusal) → (HasLooked r → CleansRead s h old who name well new)
      → ((HasLooked r → ⊥) → err_is is_disk_fault r ≡ false → new ≡ old.store) → err_is is_disk_fault r ≡ false → TellsLooks h.shape (s.blocks old.store) (s.blocks new)
  tells_fetched new (Ok found) looked idle fine = tells_read new (looked tt)
  tells_fetched new (Err (refusals.TooOld scn lost)) looked idle fine = tells_read new (looked tt)
  tells_fetched {old = old} new (Err _) looked idle fine = tells_same h.shape (s.blocks old.store) (s.blocks new) (ap s.blocks (idle (λ no. no) fine))

-- A read of one key has cleaned its block, or none.
module _ (h : State) (who table key lsn : ℕ) (before now : List (List ℕ)) where
  tells_key : {well : Type 0} → KeyRead h table key well lsn before now → TellsLooks h.shape before now
  tells_key read = tells_cleaned h.shape before now (λ b b_in. elim (read.only.each b) [
    | inl same ↦ inl same
    | inr clean ↦ inr clean.1
  ])

  pub tells_got : (r : Result Fetched Refusal) (row : Row) → err_is is_disk_fault r ≡ false → Makes h (Get who table key) (get_answer r row) lsn before now → TellsLooks h.shape before now
  tells_got (Ok fetched.Row) row fine read = tells_key read
  tells_got (Ok fetched.End) row fine read = tells_key read
  tells_got (Err (refusals.TooOld scn lost)) row fine read = tells_key read
  tells_got (Err _) row fine same = tells_same h.shape before now same
