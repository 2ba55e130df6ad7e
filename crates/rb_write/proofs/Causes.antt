-- Why a write is refused, from what its parts say.
use Rattle.std.proofs.Common.{◌≡◌, ℕ, Bool, true, false, List, [], not, Option, None, Some, is_some, Result, Err, refl, sym, ap, subst, ◌∙◌}
use Rattle.rb_base.specs.Logs.{Logs}
use Rattle.rb_base.specs.declared.ids.Xid.{Xid}
use Rattle.rb_base.specs.declared.shape.Shape.{Shape}
use Rattle.rb_base.specs.declared.store.Store.{Ghosts}
use Rattle.rb_heap.specs.Choices.{HasNoChoice, IsEntryChoice}
use Rattle.rb_heap.specs.Homes.{Home, home_entry}
use Rattle.rb_write.proofs.Choices.{chosen_not_none}
use Rattle.rb_segment.specs.Header.{Header}
use Rattle.rb_write.specs.Asks.{IsWriterOf}
use Rattle.rb_write.specs.Refusals.{has_failed, AreOpen, HasCause, HomeRefusesAsk, LacksEntry, TakesWrite, TakesWriter}
use Rattle.rb_write.specs.declared.ask.Ask.{Ask}
use Rattle.rb_write.specs.declared.ask.AttemptFault.{AttemptFault}
use Rattle.rb_write.specs.declared.ask.AttemptFault.TheVariants.{Failed, Duplicate, NotFound, BlockFull, SlotsFull, NoSlot, RollbackFull, WornOut}

-- a fact on a store's shape and blocks, where both are the same
pub both_ways : (P : Shape → List (List ℕ) → Type 0) (a b : Shape) (l k : List (List ℕ)) → a ≡ b → l ≡ k → P a l → P b k
both_ways P a b l k shapes blocks is = subst (λ (x : Shape). P x k) shapes (subst (P a) blocks is)

pub takes_writer : (home : Home) (adds : Bool) (key : ℕ) (x : Xid) (i : ℕ) → TakesWrite home adds key → IsEntryChoice (home_entry home) x i → TakesWriter home adds key x
takes_writer home adds key x i takes choice = record { takes = takes; entry = chosen_not_none (home_entry home) x i choice }

-- what the home refuses isn't made
pub by_home : (shape : Shape) (blocks : List (List ℕ)) (ask : Ask) (logged : ℕ) (fault : AttemptFault) → HomeRefusesAsk shape blocks ask fault → HasCause shape blocks ask logged fault
by_home shape blocks ask logged Failed never = never
by_home shape blocks ask logged Duplicate why = why
by_home shape blocks ask logged NotFound why = why
by_home shape blocks ask logged BlockFull why = why
by_home shape blocks ask logged SlotsFull never = absurd never
by_home shape blocks ask logged (NoSlot seg) never = absurd never
by_home shape blocks ask logged (RollbackFull seg since) never = absurd never
by_home shape blocks ask logged WornOut never = absurd never

-- a transaction to which no entry is left, once it writes, had none before
pub no_entry : (shape : Shape) (blocks : List (List ℕ)) (home : Home) (own : Option Xid) (x : Xid) (ready : Header) → IsWriterOf shape blocks own x ready → HasNoChoice (home_entry home) x → LacksEntry home own
no_entry shape blocks home None x ready writer none = λ j lt. (none j lt).0
no_entry shape blocks home (Some y) x ready writer none = subst (HasNoChoice (home_entry home)) (writer.has y refl).0 none

-- one that is still to be lacks one exactly where each is Open
pub open_lacks : (home : Home) (own : Option Xid) → is_some own ≡ false → AreOpen (home_entry home) → LacksEntry home own
open_lacks home None none all = all
open_lacks home (Some y) none all = let never : true ≡ false = none in absurd cc

-- whatever the call would have answered
pub fails_same : (T U : Type 0) (fault : AttemptFault) → has_failed {T = T} (Err fault) ≡ has_failed {T = U} (Err fault)
fails_same T U Failed = refl
fails_same T U Duplicate = refl
fails_same T U NotFound = refl
fails_same T U BlockFull = refl
fails_same T U SlotsFull = refl
fails_same T U (NoSlot seg) = refl
fails_same T U (RollbackFull seg since) = refl
fails_same T U WornOut = refl

-- where a fault of a call goes on, the same groups were logged
pub logs_on : {S : Type 0} (s : Ghosts S) (old new : S) (T U : Type 0) (result : Result T AttemptFault) (fault : AttemptFault) → result ≡ Err fault → Logs s old new [] (not (has_failed {T = U} (Err fault))) → Logs s old new [] (not (has_failed result))
logs_on s old new T U result fault is logs =
    subst (λ (b : Bool). Logs s old new [] (not b)) (sym (ap (λ (r : Result T AttemptFault). has_failed r) is ∙ fails_same T U fault)) logs
