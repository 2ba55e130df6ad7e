-- What the calls of a line say, one after another, and what becomes of it where the replies are sent.
use Rattle.std.proofs.Common.{append_assoc, ◌≡◌, ◌∙◌, inr, ⊎_elim, refl, sym, ap, subst, arith, ℕ, suc, ◌+◌, ◌-◌, ◌<◌, ◌≤◌, Bool, true, false, List, [], ◌++◌, length, Result, Ok, Err, min}
use Rattle.std.proofs.lemmas.Bool.{cases_Bool, false≢true}
use Rattle.std.proofs.lemmas.List.{append-nil}
use Rattle.std.specs.Bool.{MatchBool}
use Rattle.std.specs.Prelude.{Option}
use Rattle.rb_base.specs.Counts.{err_is}
use Rattle.rb_calls.proofs.CallLemmas.{on_no_fault}
use Rattle.rb_lines.specs.Faults.{is_sink}
use Rattle.rb_lines.specs.Ran.{CallsBegun, CutShort, LineBegun}
use Rattle.rb_lines.specs.declared.runner.StepFault.{StepFault}
use Rattle.rb_lines.specs.declared.runner.StepFault.TheVariants.{Disk, Sink}
use Rattle.rb_model.specs.Answers.{answer_of}
use Rattle.rb_model.specs.declared.outcome.Outcome as code
use Rattle.rb_model.specs.declared.row.Row.{Row}
use Rattle.rb_model.specs.Calls.{Answer, Call, is_fault}
use Rattle.rb_model.specs.Lines.{Command, Spells, call_of, caller, most_calls, reply_text, without_return}
use Rattle.rb_model.specs.Out.{Logged, CallOut, CallsOut, CommandOut, LineSaid, command, goes_on, Outside}
use Rattle.rb_model.specs.State.{State}
use Rattle.rb_model.proofs.DeadLemmas.{clears_rest}
use Rattle.rb_model.proofs.Stops.{after_stops, fine_stays}
use Rattle.rb_shell.proofs.SentLemmas.{added_holds, lost_holds, take_within}
use Rattle.rb_shell.specs.Steps.{Added, CalledOnce, Calls, Lost, Said, SaidAs, SaidSoFar, Told}

-- calls one after another

once_more : (m mid end : Logged) (outside : Outside) (c : Command) (k more : ℕ) (r : Answer) (rest : List ℕ) → CallOut m outside (call_of c k) r mid → goes_on r ≡ true → CallsOut mid outside c (suc k) more rest end → CallsOut m outside c k (suc more) (reply_text (caller c) r ++ rest) end
once_more m mid end outside c k more r rest once gives f =
    (r, rest, mid, once, refl, subst (λ (b : Bool). MatchBool b (CallsOut mid outside c (suc k) more rest end) ((rest ≡ []) × (end ≡ mid))) (sym gives) f)

once_last : (m mid : Logged) (outside : Outside) (c : Command) (k more : ℕ) (r : Answer) → CallOut m outside (call_of c k) r mid → goes_on r ≡ false → CallsOut m outside c k (suc more) (reply_text (caller c) r) mid
once_last m mid outside c k more r once gives =
    let none : ◌≡◌ {A = List ℕ} [] [] = refl in
    (r, [], mid, once, sym (append-nil (reply_text (caller c) r)), subst (λ (b : Bool). MatchBool b (CallsOut mid outside c (suc k) more [] mid) (◌≡◌ {A = List ℕ} [] [] × (mid ≡ mid))) (sym gives) (none, refl))

-- with none after it, whatever it answers
once_only : (m mid : Logged) (outside : Outside) (c : Command) (k : ℕ) (r : Answer) → CallOut m outside (call_of c k) r mid → CallsOut m outside c k 1 (reply_text (caller c) r) mid
once_only m mid outside c k r once =
    let none : ◌≡◌ {A = List ℕ} [] [] = refl in
    (r, [], mid, once, sym (append-nil (reply_text (caller c) r)), elim (goes_on r) as (λ b. MatchBool b (CallsOut mid outside c (suc k) 0 [] mid) (◌≡◌ {A = List ℕ} [] [] × (mid ≡ mid))) [ true ↦ (none, refl) | false ↦ (none, refl) ])

-- calls of a line, each of which goes on

pub so_far_none : (m : Logged) (outside : Outside) (c : Command) (tells : Type 0) (before waiting : List ℕ) → waiting ≡ [] → m.state.stopped ≡ false → SaidSoFar m outside c 0 m tells before before waiting
so_far_none m outside c tells before waiting none going = record {
  out = [];
  goes_on = λ more rest end f. subst (λ (n : ℕ). CallsOut m outside c 0 n rest end) (omega arith) f;
  sent = 0;
  few = omega arith;
  holds = λ told. sym (append-nil before);
  waits = none;
  going = going;
}

-- from the next call on
next_on : (mid end : Logged) (outside : Outside) (c : Command) (count more : ℕ) (rest : List ℕ) → CallsOut mid outside c (count + 1) more rest end → CallsOut mid outside c (suc count) more rest end
next_on mid end outside c count more rest f = subst (λ (k : ℕ). CallsOut mid outside c k more rest end) (omega arith) f

pub so_far_more : (start m mid : Logged) (outside : Outside) (c : Command) (count : ℕ) (r : Answer) (tells : Type 0) (before held waiting held2 waiting2 : List ℕ) → SaidSoFar start outside c count m tells before held waiting
    → CalledOnce m outside (caller c) (call_of c count) r mid tells held waiting held2 waiting2 → goes_on r ≡ true → mid.state.stopped ≡ false → SaidSoFar start outside c (count + 1) mid tells before held2 waiting2
so_far_more start m mid outside c count r tells before held waiting held2 waiting2 so once gives going =
    let text = reply_text (caller c) r in
    let a = added_holds tells before held waiting held2 waiting2 so.out text so.sent so.few so.holds so.waits once.added in
    record {
      out = so.out ++ text;
      goes_on = λ more rest end f.
          subst (λ (n : ℕ). CallsOut start outside c 0 n ((so.out ++ text) ++ rest) end) (omega arith)
          (subst (λ (xs : List ℕ). CallsOut start outside c 0 (count + suc more) xs end) (sym (append_assoc so.out text rest))
          (so.goes_on (suc more) (text ++ rest) end (once_more m mid end outside c count more r rest once.made gives (next_on mid end outside c count more rest f))));
      sent = a.0;
      few = a.1.0;
      holds = a.1.1;
      waits = a.1.2;
      going = going;
    }

so_far_last : (start m mid : Logged) (outside : Outside) (c : Command) (count all : ℕ) (r : Answer) (tells : Type 0) (before held waiting : List ℕ) (so : SaidSoFar start outside c count m tells before held waiting) → count < all
    → CallOut m outside (call_of c count) r mid → goes_on r ≡ false → CallsOut start outside c 0 all (so.out ++ reply_text (caller c) r) mid
so_far_last start m mid outside c count all r tells before held waiting so lt once gives =
    subst (λ (n : ℕ). CallsOut start outside c 0 n (so.out ++ reply_text (caller c) r) mid) (omega (arith, lt)) (so.goes_on (suc (all - (count + 1))) (reply_text (caller c) r) mid (once_last m mid outside c count (all - (count + 1)) r once gives))

-- one was the last
pub so_far_stop : (start m mid : Logged) (outside : Outside) (c : Command) (count all : ℕ) (r : Answer) (tells : Type 0) (before held waiting held2 waiting2 : List ℕ) → SaidSoFar start outside c count m tells before held waiting → count < all
    → CalledOnce m outside (caller c) (call_of c count) r mid tells held waiting held2 waiting2 → goes_on r ≡ false → Said (CallsOut start outside c 0 all) mid tells before held2 waiting2
so_far_stop start m mid outside c count all r tells before held waiting held2 waiting2 so lt once gives =
    let a = added_holds tells before held waiting held2 waiting2 so.out (reply_text (caller c) r) so.sent so.few so.holds so.waits once.added in
    record { out = so.out ++ reply_text (caller c) r; reply = so_far_last start m mid outside c count all r tells before held waiting so lt once.made gives; sent = a.0; few = a.1.0; holds = a.1.1; waits = a.1.2 }

-- all went on
pub so_far_all : (start m : Logged) (outside : Outside) (c : Command) (count : ℕ) (tells : Type 0) (before held waiting : List ℕ) → SaidSoFar start outside c count m tells before held waiting → Said (CallsOut start outside c 0 count) m tells before held waiting
so_far_all start m outside c count tells before held waiting so = record {
  out = so.out;
  reply = subst (λ (n : ℕ). CallsOut start outside c 0 n so.out m) (omega arith)
      (subst (λ (xs : List ℕ). CallsOut start outside c 0 (count + 0) xs m) (append-nil so.out) (so.goes_on 0 [] m (refl, refl)));
  sent = so.sent;
  few = so.few;
  holds = so.holds;
  waits = so.waits;
}

-- The sink failed at one that isn't the first, and it is the last.
pub so_far_cut : (start m mid : Logged) (outside : Outside) (c : Command) (count : ℕ) (r : Answer) (tells : Type 0) (before held waiting held2 : List ℕ) → SaidSoFar start outside c count m tells before held waiting → (count ≡ 0 → ⊥) → count < most_calls start.state.shape c
    → CallOut m outside (call_of c count) r mid → Lost tells held waiting held2 → tells → CutShort (CallsBegun start outside c) mid before held2
so_far_cut start m mid outside c count r tells before held waiting held2 so some lt once lost t =
    let text = reply_text (caller c) r in
    let l = lost_holds tells before held waiting held2 so.out so.sent so.holds so.waits lost t in
    record {
      out = so.out ++ text;
      reply = (count + 1, omega (arith, some), omega (arith, lt), so.goes_on 1 text mid (once_only m mid outside c count r once));
      size = min l.0 (length so.out);
      written = l.1 ∙ ap (λ (xs : List ℕ). before ++ xs) (sym (take_within l.0 so.out text));
    }

-- a line without a call

pub said_nothing : (R : List ℕ → Logged → Type 0) (m : Logged) (tells : Type 0) (held waiting : List ℕ) → R [] m → waiting ≡ [] → Said R m tells held held waiting
said_nothing R m tells held waiting r none = record { out = []; reply = r; sent = 0; few = omega arith; holds = λ t. sym (append-nil held); waits = none }

-- a line that is no command, whose reply is the first one
pub bad_said : (m : Logged) (outside : Outside) (line text : List ℕ) (tells : Type 0) (held waiting held2 waiting2 : List ℕ) (result : Result (Unit {0}) StepFault) → LineSaid m outside line text m → m.state.stopped ≡ false → waiting ≡ []
    → Told text false tells held waiting held2 waiting2 result → err_is is_sink result ≡ false → SaidAs (LineSaid m outside line) (LineBegun m outside line) m tells held held2 waiting2 result
bad_said m outside line text tells held waiting held2 waiting2 (Ok done) r going none told first =
    let a = added_holds tells held held waiting held2 waiting2 [] text 0 (omega arith) (λ t. sym (append-nil held)) none told.1 in
    (record { out = text; reply = r; sent = a.0; few = a.1.0; holds = a.1.1; waits = a.1.2 }, going)
bad_said m outside line text tells held waiting held2 waiting2 (Err Disk) r going none told first = absurd (false≢true told.0)
bad_said m outside line text tells held waiting held2 waiting2 (Err Sink) r going none told first = absurd (false≢true (sym first))

-- a command is what its line does itself
pub command_said : (m now : Logged) (outside : Outside) (line : List ℕ) (c : Command) (tells : Type 0) (before held waiting : List ℕ) (result : Result (Unit {0}) StepFault)
    → length line ≤ 512 → Spells (without_return line) c
    → SaidAs (CommandOut m outside c) (CallsBegun m outside c) now tells before held waiting result → SaidAs (LineSaid m outside line) (LineBegun m outside line) now tells before held waiting result
command_said m now outside line c tells before held waiting (Ok done) short spells (said, going) =
    (record { out = said.out; reply = command short c spells said.reply; sent = said.sent; few = said.few; holds = said.holds; waits = said.waits }, going)
command_said m now outside line c tells before held waiting (Err Disk) short spells (said, stopped) =
    (record { out = said.out; reply = command short c spells said.reply; sent = said.sent; few = said.few; holds = said.holds; waits = said.waits }, stopped)
command_said m now outside line c tells before held waiting (Err Sink) short spells cut = λ t.
    let w = cut t in
    record { out = w.out; reply = inr (short, c, spells, w.reply); size = w.size; written = w.written }

-- an answer that tells of no fault of the disk leaves the machine going
goes_yet : (m now : Logged) (outside : Outside) (c : Call) (r : Answer) → is_fault r ≡ false → m.state.stopped ≡ false → CallOut m outside c r now → now.state.stopped ≡ false
goes_yet m now outside c r fine going once =
    (fine_stays once.ready.state now.state c r fine once.made.state).stopped
    ∙ (clears_rest m.state once.ready.state c r once.readied.state).stopped
    ∙ going

-- what a call ends with, by what became of its reply
abbrev pub MatchTold : Result (Unit {0}) StepFault → code.Outcome → Result code.Outcome StepFault → Type 0
MatchTold (Ok done) answer result = result ≡ Ok answer
MatchTold (Err fault) answer result = result ≡ Err fault

-- its answer was told
pub calls_as : (m now : Logged) (outside : Outside) (t : Option ℕ) (c : Call) (answer : code.Outcome) (row : Row) (text : List ℕ) (fault : Bool) (tells : Type 0) (held waiting held2 waiting2 : List ℕ) (told : Result (Unit {0}) StepFault)
    → m.state.stopped ≡ false → CallOut m outside c (answer_of answer row) now → text ≡ reply_text t (answer_of answer row) → fault ≡ is_fault (answer_of answer row)
    → Told text fault tells held waiting held2 waiting2 told → (result : Result code.Outcome StepFault) → MatchTold told answer result → Calls m outside t c row now tells held waiting held2 waiting2 result
calls_as m now outside t c answer row text fault tells held waiting held2 waiting2 (Ok done) going once is f (fine, added) result e =
    subst (λ (x : Result code.Outcome StepFault). Calls m outside t c row now tells held waiting held2 waiting2 x) (sym e)
    (record { made = once; added = subst (λ (xs : List ℕ). Added xs tells held waiting held2 waiting2) is added }, goes_yet m now outside c (answer_of answer row) (sym f ∙ fine) going once)
calls_as m now outside t c answer row text fault tells held waiting held2 waiting2 (Err Disk) going once is f (fine, added) result e =
    subst (λ (x : Result code.Outcome StepFault). Calls m outside t c row now tells held waiting held2 waiting2 x) (sym e)
    (answer_of answer row, record { made = once; added = subst (λ (xs : List ℕ). Added xs tells held waiting held2 waiting2) is added }, ap (λ (x : State). x.stopped) (after_stops once.ready.state now.state c (answer_of answer row) (sym f ∙ fine) once.made.state))
calls_as m now outside t c answer row text fault tells held waiting held2 waiting2 (Err Sink) going once is f lost result e =
    subst (λ (x : Result code.Outcome StepFault). Calls m outside t c row now tells held waiting held2 waiting2 x) (sym e) (answer_of answer row, once, lost)

-- calls as they end

module _ (start m now : Logged) (outside : Outside) (c : Command) (count : ℕ) (row : Row) (tells : Type 0) (before held waiting held2 waiting2 : List ℕ)
    (so : SaidSoFar start outside c count m tells before held waiting) where
  abbrev Here : Result code.Outcome StepFault → Type 0
  Here result = Calls m outside (caller c) (call_of c count) row now tells held waiting held2 waiting2 result

  pub calls_more : (answer : code.Outcome) → goes_on (answer_of answer row) ≡ true → Here (Ok answer) → SaidSoFar start outside c (count + 1) now tells before held2 waiting2
  calls_more answer gives here = so_far_more start m now outside c count (answer_of answer row) tells before held waiting held2 waiting2 so here.0 gives here.1

  pub calls_stop : (answer : code.Outcome) → count < most_calls start.state.shape c → goes_on (answer_of answer row) ≡ false → Here (Ok answer)
      → SaidAs (CommandOut start outside c) (CallsBegun start outside c) now tells before held2 waiting2 (Ok tt)
  calls_stop answer lt other here =
      (so_far_stop start m now outside c count (most_calls start.state.shape c) (answer_of answer row) tells before held waiting held2 waiting2 so lt here.0 other, here.1)

  pub calls_fault : (fault : StepFault) → (count ≡ 0 → is_sink fault ≡ false) → count < most_calls start.state.shape c → Here (Err fault)
      → SaidAs (CommandOut start outside c) (CallsBegun start outside c) now tells before held2 waiting2 (Err fault)
  calls_fault Disk first lt here =
      let r = here.0 in
      ⊎_elim
      (λ (gives : goes_on r ≡ true). absurd (false≢true (sym (goes_yet m now outside (call_of c count) r (on_no_fault r gives) so.going here.1.made) ∙ here.2)))
      (λ (gives : goes_on r ≡ false). (so_far_stop start m now outside c count (most_calls start.state.shape c) r tells before held waiting held2 waiting2 so lt here.1 gives, here.2))
      (cases_Bool (goes_on r))
  calls_fault Sink first lt here = λ t.
      so_far_cut start m now outside c count here.0 tells before held waiting held2 so (λ zero. false≢true (sym (first zero))) lt here.1 here.2 t

pub calls_end : (start m : Logged) (outside : Outside) (c : Command) (count : ℕ) (tells : Type 0) (before held waiting : List ℕ) → count ≡ most_calls start.state.shape c → SaidSoFar start outside c count m tells before held waiting
    → SaidAs (CommandOut start outside c) (CallsBegun start outside c) m tells before held waiting (Ok tt)
calls_end start m outside c count tells before held waiting is so =
    (subst (λ (n : ℕ). Said (CallsOut start outside c 0 n) m tells before held waiting) is (so_far_all start m outside c count tells before held waiting so), so.going)
