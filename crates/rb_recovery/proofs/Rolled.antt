-- What a rollback says of the store behind the tests, it says of the store before them; and what an opening says by it.
use Rattle.std.proofs.Common.{◌≡◌, ◌≤◌, ◌+◌, ◌^◌, ℕ, zero, suc, true, false, not, List, [], length, Result, Err, IsErrOf, OnOk, refl, sym, ◌∙◌, ap, subst, arith}
use Rattle.std.proofs.lemmas.List.{take_all}
use Rattle.std.proofs.lemmas.Result.{err_from_is_err_and}
use Rattle.std.specs.Result.{IsErrAnd}
use Rattle.rb_base.specs.Blocks.{after_groups, IsShape}
use Rattle.rb_base.specs.Counts.{err_is, is_failed}
use Rattle.rb_base.specs.Groups.{Patch}
use Rattle.rb_base.specs.Logs.{Logs}
use Rattle.rb_base.specs.declared.faults.Failed as calls
use Rattle.rb_base.specs.declared.faults.OpenFault.{OpenFault}
use Rattle.rb_base.specs.declared.faults.OpenFault.TheVariants.{Failed, NotAStore}
use Rattle.rb_base.specs.declared.shape.Shape.{Shape}
use Rattle.rb_base.specs.declared.store.Store.{Ghosts}
use Rattle.rb_model.specs.Book.{Book}
use Rattle.rb_model.specs.State.{opened}
use Rattle.rb_model.specs.Rows.{TableRow}
use Rattle.rb_recovery.proofs.Opened.{books_same, opens_to}
use Rattle.rb_recovery.specs.Opens.{books_of}
use Rattle.rb_restart.specs.Rollback.{RolledBack, StaySound}
use Rattle.law_blocks.specs.Standing.{SoundAs, logged_of}
use Rattle.law_blocks.specs.States.{BlocksStand}

-- the groups of a rollback, and what they leave
abbrev pub Rolled : Shape → ℕ → List (List ℕ) → List (List Patch) → Result (Unit {0}) calls.Failed → List (List ℕ) → Type 0
Rolled shape lsn blocks groups result now =
    (number : ℕ) (rows : List TableRow) → lsn ≡ logged_of shape blocks → SoundAs shape blocks number rows
    → StaySound shape number rows lsn groups blocks × OnOk result (RolledBack shape groups blocks now)

pub moved : {S : Type 0} (s : Ghosts S) (old mid : S) (groups : List (List Patch)) (result : Result (Unit {0}) calls.Failed) (now : List (List ℕ)) → Logs s old mid [] true → s.tells
    → Rolled (s.shape_of mid) (s.lsn mid) (s.blocks mid) groups result now → Rolled (s.shape_of old) (s.lsn old) (s.blocks old) groups result now
moved s old mid groups result now loads told rolled =
    let by_shape = subst (λ (shape : Shape). Rolled shape (s.lsn mid) (s.blocks mid) groups result now) loads.same_shape rolled in
    let by_lsn = subst (λ (lsn : ℕ). Rolled (s.shape_of old) lsn (s.blocks mid) groups result now) (omega (arith, loads.number refl)) by_shape in
    subst (λ (blocks : List (List ℕ)). Rolled (s.shape_of old) (s.lsn old) blocks groups result now) (loads.blocks told refl) by_lsn

-- no group leaves the blocks as they were
pub none_sound : (shape : Shape) (number : ℕ) (rows : List TableRow) (lsn : ℕ) (blocks : List (List ℕ)) → SoundAs shape blocks number rows → StaySound shape number rows lsn [] blocks
none_sound shape number rows lsn blocks sound zero le = record { sound = sound; logged = omega arith; owed = omega arith; back = refl; books = λ g there. refl }
none_sound shape number rows lsn blocks sound (suc count) le = absurd (omega arith)

-- what an opening says of its groups, and that it does where a call failed
abbrev pub Opening : {S : Type 0} → Ghosts S → S → S → Result (Unit {0}) OpenFault → Type 0
Opening s old new result =
    (groups : List (List Patch)) × Logs s old new groups (not (err_is is_failed result)) × (IsErrOf result NotAStore → groups ≡ []) × (length groups ≤ 2 ^ 40)
    × ((number : ℕ) (rows : List TableRow) → s.tells → s.lsn old ≡ logged_of (s.shape_of old) (s.blocks old) → SoundAs (s.shape_of old) (s.blocks old) number rows
    → StaySound (s.shape_of old) number rows (s.lsn old) groups (s.blocks old) × OnOk result (RolledBack (s.shape_of old) groups (s.blocks old) (s.blocks new)))

pub failed : {S : Type 0} (s : Ghosts S) (old new : S) (result : Result (Unit {0}) OpenFault) (groups : List (List Patch)) → IsErrAnd result (λ (fault : OpenFault). fault ≡ Failed) → Logs s old new groups false → length groups ≤ 2 ^ 40
    → ((number : ℕ) (rows : List TableRow) → s.tells → s.lsn old ≡ logged_of (s.shape_of old) (s.blocks old) → SoundAs (s.shape_of old) (s.blocks old) number rows → StaySound (s.shape_of old) number rows (s.lsn old) groups (s.blocks old))
    → Opening s old new result
failed s old new result groups fault logs few stay =
    let p = err_from_is_err_and result fault in
    subst (Opening s old new) (sym (p.1 ∙ ap (λ (x : OpenFault). Err x) p.2)) (groups, logs, other, few, λ number rows told logged sound. (stay number rows told logged sound, tt))
  where
    other : (let r : Result (Unit {0}) OpenFault = Err Failed in r) ≡ Err NotAStore → groups ≡ []
    other is = cc

-- where a call of the store failed before any group
pub failed_first : {S : Type 0} (s : Ghosts S) (old new : S) (result : Result (Unit {0}) OpenFault) → IsErrAnd result (λ (fault : OpenFault). fault ≡ Failed) → Logs s old new [] false → Logs s old new [] (not (err_is is_failed result))
failed_first s old new result fault logs =
    let p = err_from_is_err_and result fault in
    subst (λ (r : Result (Unit {0}) OpenFault). Logs s old new [] (not (err_is is_failed r))) (sym (p.1 ∙ ap (λ (x : OpenFault). Err x) p.2)) logs

-- the machine's state that they leave
pub opened_by : {S : Type 0} (s : Ghosts S) (old new : S) (groups : List (List Patch)) → Logs s old new groups true → s.tells → (number : ℕ) (rows : List TableRow) → IsShape (s.shape_of old) → s.lsn old ≡ logged_of (s.shape_of old) (s.blocks old)
    → StaySound (s.shape_of old) number rows (s.lsn old) groups (s.blocks old) → RolledBack (s.shape_of old) groups (s.blocks old) (s.blocks new)
    → BlocksStand (opened (s.shape_of old) number rows (books_of (s.shape_of old) (s.blocks old)) []) [] (s.blocks new) × (s.lsn new ≡ logged_of (s.shape_of old) (s.blocks new))
opened_by s old new groups logs told number rows in_range logged stay rolled =
    let shape = s.shape_of old in
    let made = logs.blocks told refl ∙ ap (λ (l : List (List Patch)). after_groups (s.lsn old + 1) l (s.blocks old)) (sym (take_all (length groups) groups (omega arith))) in
    let sound = subst (λ (blocks : List (List ℕ)). SoundAs shape blocks number rows) (sym made) (stay (length groups) (omega arith)).sound in
    let stands = opens_to shape (s.blocks new) number rows in_range sound rolled.idle in
    let books = books_same shape (s.blocks old) (s.blocks new) rolled.books in
    (subst (λ (there : List Book). BlocksStand (opened shape number rows there []) [] (s.blocks new)) books stands, omega (arith, logs.number refl, logged, rolled.logged))
