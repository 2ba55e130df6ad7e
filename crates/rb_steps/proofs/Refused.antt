-- A refusal is the first of the machine's tests that applies, or there is no slot, and none applies to a write that is
-- taken.
use Rattle.std.proofs.Common.{◌≡◌, ◌<◌, ◌≤◌, ℕ, true, false, List, nat_le, refl, sym, ◌∙◌, ap, arith}
use Rattle.std.proofs.lemmas.Bool.Decides.{nat_tests}
use Rattle.rb_write.specs.Asks.{IsWriterOf, adds_for, home_for}
use Rattle.rb_write.specs.Refusals.{HasCause, Refuses, TakesWriter}
use Rattle.rb_write.specs.declared.ask.Ask.{Ask}
use Rattle.rb_write.specs.declared.ask.AttemptFault.{AttemptFault}
use Rattle.rb_write.specs.declared.ask.AttemptFault.TheVariants as faults
use Rattle.rb_base.specs.declared.ids.Xid.{Xid}
use Rattle.rb_base.specs.declared.sizes.TheConstants.{WORN}
use Rattle.rb_model.specs.Book.{book_at}
use Rattle.rb_model.specs.declared.refusal.Refusal.TheVariants as refusals
use Rattle.rb_model.specs.Calls.{Answer, Done, Refused, WritesAt, first_of, write_tests}
use Rattle.rb_model.specs.State.{State}
use Rattle.rb_model.specs.Tests.{made_since}
use Rattle.rb_segment.specs.Header.{Header}
use Rattle.rb_segment.specs.Moves.{NoneMayTurn}
use Rattle.rb_model.specs.Answers.{action_by}
use Rattle.rb_steps.specs.Steps.{IsAbout, IsFirst, IsRefusedAs, MayWrite}
use Rattle.rb_steps.proofs.Firsts.{answer_of, first_found, log_tests}
use Rattle.rb_steps.proofs.Found as found
use Rattle.rb_steps.proofs.Somewhere.{no_slot_is, no_slot_left, somewhere}
use Rattle.rb_steps.proofs.Writers as writers
use Rattle.law_write.specs.Verdict as verdict
use Rattle.law_write.specs.Verdict.{Verdict}
use Rattle.law_write.proofs.Since.{since_is}

-- what the test of the log answers
worn_out : (logged : ℕ) → WORN ≤ logged → first_of (log_tests logged) Done ≡ Refused refusals.WornOut
worn_out logged worn = let test : nat_le WORN logged ≡ true = grind (arith, nat_tests) in rw test refl

log_fine : (logged : ℕ) → logged < WORN → first_of (log_tests logged) Done ≡ Done
log_fine logged young = let test : nat_le WORN logged ≡ false = grind (arith, nat_tests) in rw test refl

module _ (h : State) (xids : List Xid) (blocks : List (List ℕ)) (s logged : ℕ) (ask : Ask) (about : IsAbout h xids s ask.own blocks) (first : 1 ≤ ask.table) (last : ask.table ≤ h.shape.tables) (mine : MayWrite h s ask.table ask.key) where
  abbrev Log : Answer
  Log = first_of (log_tests logged) Done

  abbrev First : ℕ → Answer
  First g = first_of (write_tests h logged g s ask.table ask.key (action_by ask.op)) Done

  answered : (g i : ℕ) (v : Verdict) → found.Found h xids blocks s ask about first last mine g i ≡ v → First g ≡ answer_of v g (made_since (book_at h.books g)) Log
  answered g i v is = first_found h s ask.table ask.key g i ask.op logged mine.0 mine.1 ∙ ap (λ (z : Verdict). answer_of z g (made_since (book_at h.books g)) Log) is

  module _ (x : Xid) (ready : Header) (writer : IsWriterOf h.shape blocks ask.own x ready) where
    abbrev Since : ℕ
    Since = made_since (book_at h.books x.seg)

    pub full_there : (seg since : ℕ) → Refuses (faults.RollbackFull seg since) (home_for h.shape blocks ask) (adds_for h.shape blocks ask) ask.key x ready logged
        → IsFirst h logged x.seg s ask.table ask.key (action_by ask.op) (faults.RollbackFull seg since)
    full_there seg since why =
        let told : since ≡ Since = since_is h xids blocks about.stand x.seg (writers.within h xids blocks s ask.own about x ready writer) x.slot since ready (writers.is_ready h xids blocks s ask.own about x ready writer) why.3 in
        answered x.seg x.slot verdict.RollbackFull (found.rollback_full h xids blocks s ask about first last mine x ready writer why.0 why.1)
        ∙ (ap (λ (n : ℕ). Refused (refusals.RollbackFull n Since)) (sym why.2) ∙ ap (λ (n : ℕ). Refused (refusals.RollbackFull seg n)) (sym told))

    pub worn_there : Refuses faults.WornOut (home_for h.shape blocks ask) (adds_for h.shape blocks ask) ask.key x ready logged
        → IsFirst h logged x.seg s ask.table ask.key (action_by ask.op) faults.WornOut
    worn_there why =
        answered x.seg x.slot verdict.Fine (found.fine h xids blocks s ask about first last mine x ready writer why.0 why.1) ∙ worn_out logged why.2

    -- no test applies to a write that the home, the segment and the log take
    pub not_refused : TakesWriter (home_for h.shape blocks ask) (adds_for h.shape blocks ask) ask.key x → ¬ NoneMayTurn ready → logged < WORN → First x.seg ≡ Done
    not_refused takes some young = answered x.seg x.slot verdict.Fine (found.fine h xids blocks s ask about first last mine x ready writer takes some) ∙ log_fine logged young

  -- the segment in which the session has its slot, or would begin
  at : (g : ℕ) × WritesAt h s g
  at = somewhere h xids blocks s ask.own about

  pub refused : (fault : AttemptFault) → HasCause h.shape blocks ask logged fault → IsRefusedAs h logged s ask.table ask.key (action_by ask.op) fault
  refused faults.Failed never = absurd never
  refused faults.Duplicate why = (at.0, at.1, answered at.0 0 verdict.Duplicate (found.duplicate h xids blocks s ask about first last mine at.0 0 why.0 why.1))
  refused faults.NotFound why = (at.0, at.1, answered at.0 0 verdict.NotFound (found.not_found h xids blocks s ask about first last mine at.0 0 why.0 why.1))
  refused faults.BlockFull why = (at.0, at.1, answered at.0 0 verdict.BlockFull (found.block_full h xids blocks s ask about first last mine at.0 0 why.0 why.1 why.2))
  refused faults.SlotsFull why = (at.0, at.1, answered at.0 0 verdict.SlotsFull (found.slots_full h xids blocks s ask about first last mine at.0 0 why.0 why.1))
  refused (faults.NoSlot seg) why =
      let left = no_slot_left h xids blocks s ask.own about seg why.3 in
      (no_slot_is h xids blocks s ask.own about why.0, left.0, left.1, found.none_found h xids blocks s ask about first last mine why.1 why.2)
  refused (faults.RollbackFull seg since) why = (why.0, writers.writes_in h xids blocks s ask.own about why.0 why.1 why.2, full_there why.0 why.1 why.2 seg since why.3)
  refused faults.WornOut why = (why.0, writers.writes_in h xids blocks s ask.own about why.0 why.1 why.2, worn_there why.0 why.1 why.2 why.3)
