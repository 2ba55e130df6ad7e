-- What the table of sessions says of the mode of a transaction, as the machine sees it.
use Rattle.std.proofs.Common.{◌≡◌, ◌==◌, false, List, [], ◌∷◌, length, refl, arith}
use Rattle.std.proofs.lemmas.Bool.Decides.{nat_tests}
use Rattle.rb_engine.specs.Checks.{is_idle}
use Rattle.rb_engine.specs.Does.{EngineView, KnowsModes, Stands}
use Rattle.rb_base.specs.declared.store.Store.{Ghosts}
use Rattle.rb_model.specs.Calls.{is_empty, is_unbegun}
use Rattle.rb_model.specs.Change.{Change}
use Rattle.rb_model.specs.State as machine
use Rattle.rb_model.specs.State.{Savepoint, State}
use Rattle.rb_sessions.specs.declared.row.Session.{Session}

no_change : (own : List Change) → (length own == 0) ≡ is_empty own
no_change [] = refl
no_change (c ∷ own) = let test : (length (c ∷ own) == 0) ≡ false = grind (arith, nat_tests) in test

no_savepoint : (savepoints : List Savepoint) → (length savepoints == 0) ≡ is_empty savepoints
no_savepoint [] = refl
no_savepoint (p ∷ savepoints) = let test : (length (p ∷ savepoints) == 0) ≡ false = grind (arith, nat_tests) in test

-- A session in the table is idle where its transaction hasn't begun.
pub idle_is : (session : Session) (x : machine.Session) → session.isolation ≡ x.isolation → session.length ≡ length x.own → session.savepoints ≡ length x.savepoints → is_idle session ≡ is_unbegun x
idle_is session x isolation own savepoints = rw (isolation, own, savepoints, no_change x.own, no_savepoint x.savepoints) refl

-- an engine that stands for a state knows how each transaction reads
pub knows_modes : {S : Type 0} (s : Ghosts S) (h : State) (e : EngineView S) → Stands s h e → KnowsModes h e.memory
knows_modes s h e st going u low high = ((st.goes going).remembers.each u low high).isolation
