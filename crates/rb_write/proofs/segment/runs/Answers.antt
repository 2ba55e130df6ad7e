use Rattle.std.proofs.Common.{◌≡◌, ◌<◌, ◌↔◌, ℕ, List, Option, None, Some, MatchOption, IsTrue, refl, subst}
use Rattle.std.proofs.lemmas.Bool.{false≢true}
use Rattle.std.specs.Option.{is_some}
use Rattle.rb_base.specs.declared.sizes.TheConstants.{SLOTS}
use Rattle.rb_base.specs.declared.ids.Xid.{Xid}
use Rattle.rb_segment.proofs.Parts.{has_slot, runs_read}
use Rattle.rb_segment.specs.Calls.{Runs}
use Rattle.rb_segment.specs.Header.{header_of}
use Rattle.rb_txntable.specs.Looks.{IsRunning}
use Rattle.rb_txntable.specs.Slots.{slot_at}
use Rattle.rb_txntable.specs.declared.slots.TableSlot.{TableSlot}
use Rattle.rb_write.proofs.segment.runs.Goals as goal

-- where a slot was found, it is that of the transaction
by_slot : (header : List ℕ) (x : Xid) (found : Option TableSlot) → x.slot < SLOTS → MatchOption found (¬ IsRunning (slot_at header x.slot) x.wrap) (λ slot. (slot ≡ slot_at header x.slot) × IsRunning slot x.wrap) → IsTrue (is_some found) ↔ Runs (header_of header) x
by_slot header x None few none = (λ clash. absurd (false≢true clash), λ runs. absurd (none (has_slot header x runs)))
by_slot header x (Some slot) few is = (λ _. runs_read header x few (subst (λ (s : TableSlot). IsRunning s x.wrap) is.0 is.1), λ _. refl)

pub returns : goal.returns
returns c = rw c.is_some.ensures (by_slot c.args.header.now c.args.xid c.running.result c.requires.slot c.running.ensures)
