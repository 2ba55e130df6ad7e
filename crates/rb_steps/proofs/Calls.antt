-- What an attempt over a store tells of a write is the machine's answer, and its next state.
use Rattle.std.proofs.Common.{◌≡◌, ◌<◌, ◌≤◌, ◌+◌, ◌*◌, ℕ, Bool, true, false, not, List, [], ◌∷◌, length, Result, Ok, Err, IfOk, IfErr, OnOk, refl, sym, ap, subst, arith}
use Rattle.rb_write.specs.Asks.{IsWriterOf, adds_for, kind_of}
use Rattle.rb_write.specs.Making.{MakesIfAny}
use Rattle.rb_write.specs.Refusals.{HasCause, TakesAsk, has_failed}
use Rattle.rb_write.specs.declared.ask.Ask.{Ask}
use Rattle.rb_write.specs.declared.ask.AttemptFault.{AttemptFault}
use Rattle.rb_base.specs.Blocks.{after_group, home_block, table_blocks}
use Rattle.rb_base.specs.Groups.{Patch}
use Rattle.rb_base.specs.Logs.{Logs, group_of}
use Rattle.rb_base.specs.declared.ids.Uba.{Uba}
use Rattle.rb_base.specs.declared.ids.Xid.{Xid}
use Rattle.rb_base.specs.declared.shape.Shape.{Shape}
use Rattle.rb_base.specs.declared.sizes.TheConstants.{SLOTS, WORN}
use Rattle.rb_base.specs.declared.store.Store.{Ghosts}
use Rattle.law_crash.specs.Made.{GivesOne, WriteMade}
use Rattle.rb_model.specs.Change.{Kind}
use Rattle.rb_model.specs.Calls.{adds_now}
use Rattle.rb_model.specs.State.{State}
use Rattle.rb_segment.specs.Header.{Header}
use Rattle.law_blocks.specs.Standing.{homes_of, logged_of, segments_of}
use Rattle.law_blocks.specs.Writing.{IsWritten}
use Rattle.rb_undoblock.specs.declared.record.UndoRecord.{UndoRecord}
use Rattle.rb_steps.specs.StepLaws.{IsAsked}
use Rattle.rb_model.specs.Answers.{action_by}
use Rattle.rb_steps.specs.Steps.{IsAbout, IsRefusedAs, MayWrite}
use Rattle.rb_steps.proofs.Firsts.{kind_is}
use Rattle.rb_steps.proofs.Found.{adds_same}
use Rattle.rb_steps.proofs.Done.{answered, id_is, ids_are, stands}
use Rattle.rb_steps.proofs.HomeWords.{which_in}
use Rattle.rb_steps.proofs.Logged.{write_logged}
use Rattle.rb_steps.proofs.Refused.{refused}
use Rattle.rb_steps.proofs.Told.{write_tells}
use Rattle.rb_steps.proofs.Writers as writers
use Rattle.law_write.proofs.Presence.{owner_within}
use Rattle.law_write.proofs.StoodBlocks.{stood_of}

-- the ask is made by transaction x
abbrev pub IsAskMade : Shape → List (List ℕ) → List (List ℕ) → Ask → Xid → Type 0
IsAskMade shape before now ask x = (address : Uba) × (u : UndoRecord) × (ready : Header)
    × IsWriterOf shape before ask.own x ready × (u.table ≡ ask.table) × (u.key ≡ ask.key) × (u.wrap ≡ x.wrap)
    × (u.home ≡ home_block shape ask.table ask.key)
    × IsWritten shape (SLOTS * x.seg + x.slot) (adds_for shape before ask) (kind_of ask.op) address u before now

module _ {S : Type 0} (store : Ghosts S) (told : store.tells) (old new : S) (h : State) (xids : List Xid) (s : ℕ) (ask : Ask) (about : IsAbout h xids s ask.own (store.blocks old)) (same : store.shape_of old ≡ h.shape) (first : 1 ≤ ask.table) (last : ask.table ≤ h.shape.tables) (mine : MayWrite h s ask.table ask.key) where
  abbrev Before : List (List ℕ)
  Before = store.blocks old

  abbrev Now : List (List ℕ)
  Now = store.blocks new

  abbrev pub IsRefused : AttemptFault → Type 0
  IsRefused fault = IsRefusedAs h (store.lsn old) s ask.table ask.key (action_by ask.op) fault

  -- blocks in which the write that was asked for is made, and which no test of it refused
  module _ (x : Xid) (now : List (List ℕ)) (s_in : s ≤ length h.sessions) (number : store.lsn old ≡ logged_of h.shape Before) (w : IsAskMade h.shape Before now ask x)
      (takes : TakesAsk h.shape Before ask) (young : store.lsn old < WORN) where
    asked : IsAsked h ask x w.1
    asked = record { table = w.4; key = w.5; wrap = w.6; home = w.7 }

    early : logged_of h.shape Before < WORN
    early = omega (arith, number, young)

    home_in : (w.1).home < table_blocks h.shape
    home_in = subst (λ (b : ℕ). b < table_blocks h.shape) (sym w.7) (which_in h xids Before about.stand ask.table ask.key first last)

    t_in : SLOTS * x.seg + x.slot < SLOTS * h.shape.segments
    t_in =
        let g = writers.within h xids Before s ask.own about x w.2 w.3 in
        let i = writers.few h xids Before s ask.own about x w.2 w.3 in
        omega (arith, g, i)

    -- the write, as it is made
    pub write_made : WriteMade h xids s ask.table ask.key (action_by ask.op) x Before now
    write_made =
        let more = write_logged h xids Before now (SLOTS * x.seg + x.slot) (adds_for h.shape Before ask) (kind_of ask.op) w.0 w.1 about.stand t_in home_in w.8 in
        record {
          in_slot = writers.writes_in h xids Before s ask.own about x w.2 w.3;
          granted = answered h xids Before now s ask about s_in first last mine x w.2 w.3 w.0 w.1 asked takes w.8 early;
          stand = stands h xids Before now s ask about s_in first last mine x w.2 w.3 w.0 w.1 asked takes w.8 early;
          last = more;
          ids = λ r t owns. ids_are h xids Before now s ask about s_in first last mine x w.2 w.3 w.0 w.1 asked takes w.8 early t owns.owner (owner_within h xids (segments_of h.shape Before) (homes_of h.shape Before) (stood_of h xids Before about.stand) t owns.owner owns.at) owns.at;
          id = id_is h xids Before now s ask about s_in first last mine x w.2 w.3 w.0 w.1 asked takes w.8 early;
          tells = write_tells h xids Before now (SLOTS * x.seg + x.slot) (adds_for h.shape Before ask) (kind_of ask.op) w.0 w.1 about.stand t_in w.8;
          address = w.0;
          undo = w.1;
          of_table = w.4;
          of_key = w.5;
          of_home = w.7;
          group =
              subst (λ (k : Kind). IsWritten h.shape (SLOTS * x.seg + x.slot) (adds_now h s ask.table ask.key (action_by ask.op)) k w.0 w.1 Before now) (sym (kind_is ask.op))
              (subst (λ (b : Bool). IsWritten h.shape (SLOTS * x.seg + x.slot) b (kind_of ask.op) w.0 w.1 Before now) (adds_same h xids Before s ask about first last mine) w.8);
        }

  -- what a group makes, where one is given
  pub makes : (patches : List Patch) → s ≤ length h.sessions → store.lsn old ≡ logged_of h.shape Before → MakesIfAny (store.shape_of old) Before ask (store.lsn old) patches
      → 0 < length patches → (x : Xid) × WriteMade h xids s ask.table ask.key (action_by ask.op) x Before (after_group (store.lsn old + 1) patches Before)
  makes patches s_in number made some =
      let m = subst (λ (k : Shape). MakesIfAny k Before ask (store.lsn old) patches) same made some in
      let now = after_group (store.lsn old + 1) patches Before in
      let may = m.0 in
      (m.1.0, write_made m.1.0 now s_in number m.1.1 may.takes may.numbers)

  -- a write that is done
  done_one : (x : Xid) (patches : List Patch) → s ≤ length h.sessions → store.lsn old ≡ logged_of h.shape Before → Logs store old new (group_of patches) true
      → IsAskMade h.shape Before Now ask x → TakesAsk h.shape Before ask → store.lsn old < WORN
      → GivesOne store old new true (λ now. WriteMade h xids s ask.table ask.key (action_by ask.op) x Before now)
  done_one x patches s_in number logs w takes young =
      let made = write_made x Now s_in number w takes young in
      by patches logs made
    where
      by : (l : List Patch) → Logs store old new (group_of l) true → WriteMade h xids s ask.table ask.key (action_by ask.op) x Before Now → GivesOne store old new true (λ now. WriteMade h xids s ask.table ask.key (action_by ask.op) x Before now)
      by [] logs made =
          let still : logged_of h.shape Now ≡ logged_of h.shape Before = ap (logged_of h.shape) (logs.blocks told refl) in
          absurd (let last = made.last in omega (arith, still, last))
      by (p ∷ l) logs made = record {
        groups = (p ∷ l) ∷ [];
        logs = logs;
        few = omega arith;
        one = λ goes. refl;
        made = λ some. subst (λ (b : List (List ℕ)). WriteMade h xids s ask.table ask.key (action_by ask.op) x Before b) (logs.blocks told refl) made;
      }

  pub done : (r : Result Xid AttemptFault) (patches : List Patch) → s ≤ length h.sessions → store.lsn old ≡ logged_of h.shape Before → Logs store old new (group_of patches) (not (has_failed r))
      → IfOk r (IsAskMade (store.shape_of old) Before Now ask) → OnOk r (TakesAsk (store.shape_of old) Before ask) → OnOk r (store.lsn old < WORN)
      → IfOk r (λ x. GivesOne store old new true (λ now. WriteMade h xids s ask.table ask.key (action_by ask.op) x Before now))
  done (Ok x) patches s_in number logs made takes young =
      done_one x patches s_in number logs
      (subst (λ (k : Shape). IsAskMade k Before Now ask x) same made)
      (subst (λ (k : Shape). TakesAsk k Before ask) same takes)
      young
  done (Err fault) patches s_in number logs made takes young = tt

  -- a call of the store failed, with the group or before it
  pub failed_as : (patches : List Patch) → Logs store old new (group_of patches) false → (0 < length patches → (x : Xid) × WriteMade h xids s ask.table ask.key (action_by ask.op) x Before (after_group (store.lsn old + 1) patches Before))
      → (x : Xid) × GivesOne store old new false (λ now. WriteMade h xids s ask.table ask.key (action_by ask.op) x Before now)
  failed_as [] logs made = (
    record { seg = 0; slot = 0; wrap = 0 },
    record {
      groups = [];
      logs = logs;
      few = omega arith;
      one = λ goes. (let clash : false ≡ true = goes in absurd cc);
      made = λ some. absurd (omega (arith, some));
    },
  )
  failed_as (p ∷ l) logs made =
      let m = made (omega arith) in (
        m.0,
        record {
          groups = (p ∷ l) ∷ [];
          logs = logs;
          few = omega arith;
          one = λ goes. refl;
          made = λ some. m.1;
        },
      )

  pub refused_as : (r : Result Xid AttemptFault) → IfErr r (HasCause (store.shape_of old) Before ask (store.lsn old)) → IfErr r IsRefused
  refused_as (Ok x) why = tt
  refused_as (Err fault) why =
      refused h xids Before s (store.lsn old) ask about first last mine fault (subst (λ (k : Shape). HasCause k Before ask (store.lsn old) fault) same why)
