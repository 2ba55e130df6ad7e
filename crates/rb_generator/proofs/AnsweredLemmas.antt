-- Answers one after another: those of a command's calls, of writes that are tried again, and of commands.
use Rattle.std.proofs.Common.{append_assoc, ◌≡◌, ◌∙◌, inl, ⊎_elim, refl, sym, ap, subst, arith, ℕ, suc, ◌+◌, ◌-◌, ◌*◌, ◌<◌, ◌≤◌, Bool, true, false, List, [], ◌∷◌, ◌++◌, length, map, Err, Ok}
use Rattle.std.proofs.lemmas.Bool.{cases_Bool, false≢true}
use Rattle.std.proofs.lemmas.List.{append-nil}
use Rattle.std.specs.Bool.{MatchBool}
use Rattle.std.specs.Fmt.{decimal}
use Rattle.std.specs.List.{range_with_len}
use Rattle.rb_base.specs.declared.faults.Failed.{Failed}
use Rattle.rb_base.specs.declared.shape.Shape.{Shape}
use Rattle.rb_calls.proofs.CallLemmas.{on_no_fault}
use Rattle.rb_calls.specs.Resumes.{AllHeard, AllResumed, HasResumed}
use Rattle.rb_generator.proofs.CountLemmas.{counted_on, plus_none, none_plus}
use Rattle.rb_generator.specs.Answered.{CallsAnswered, CommandAnswered, CommandsAnswered, ResumesAnswered}
use Rattle.rb_generator.specs.Counted.{HasCountedOne, counts_of, no_counts, plus, told}
use Rattle.rb_generator.specs.Draws.{commands_of, drawn, state_after}
use Rattle.rb_generator.specs.Ends.{EndsInFault, HasCounted, HasGenerated, StopsBy}
use Rattle.rb_generator.specs.declared.counts.Counts.{Counts}
use Rattle.rb_model.proofs.DeadLemmas.{clears_rest}
use Rattle.rb_model.proofs.Stops.{after_stops, fine_stays, the_fault}
use Rattle.rb_model.specs.Calls.{Answer, Done, Waits, Committed, Numbered, Flushed, Swept, Given, End, Absent, Marked, Shown, Idle, Refused, is_fault}
use Rattle.rb_model.specs.Lines.{Command, call_of, most_calls}
use Rattle.rb_model.specs.Out.{Logged, CallOut, goes_on, Outside}
use Rattle.rb_model.specs.State.{State}
use Rattle.rb_model.specs.declared.refusal.Refusal.TheVariants.{DiskFault}

-- the answer that tells of a fault
fault_is : (r : Answer) → is_fault r ≡ true → r ≡ Refused DiskFault
fault_is Done e = absurd (false≢true e)
fault_is (Waits on) e = absurd (false≢true e)
fault_is (Committed n) e = absurd (false≢true e)
fault_is (Numbered n) e = absurd (false≢true e)
fault_is (Flushed n) e = absurd (false≢true e)
fault_is (Swept n) e = absurd (false≢true e)
fault_is (Given key value) e = absurd (false≢true e)
fault_is End e = absurd (false≢true e)
fault_is Absent e = absurd (false≢true e)
fault_is (Marked seg writes lost) e = absurd (false≢true e)
fault_is (Shown s activity) e = absurd (false≢true e)
fault_is Idle e = absurd (false≢true e)
fault_is (Refused why) e = ap Refused (the_fault why e)

-- the last answer says how the state is
stops_by : (front : List Answer) (r : Answer) (now : Logged) → now.state.stopped ≡ is_fault r → StopsBy (is_fault r) (front ++ r ∷ []) now
stops_by front r now stopped = ⊎_elim
    (λ (e : is_fault r ≡ true). subst (λ (v : Bool). StopsBy v (front ++ r ∷ []) now) (sym e) ((front, ap (λ (x : Answer). front ++ x ∷ []) (fault_is r e)), stopped ∙ e))
    (λ (e : is_fault r ≡ false). subst (λ (v : Bool). StopsBy v (front ++ r ∷ []) now) (sym e) (stopped ∙ e))
    (cases_Bool (is_fault r))

-- calls of a command

-- Calls were made, each of which goes on: what goes on from here goes on from the start.
pub record CallsSoFar (start : Logged) (outside : Outside) (c : Command) (most k : ℕ) (now : Logged) (before counts : Counts) : Type 0 where
  pub answers : List Answer
  pub goes_on : (rest : List Answer) (end : Logged) → CallsAnswered now outside c most k rest end → CallsAnswered start outside c most 0 (answers ++ rest) end
  pub counted : counts ≡ plus before (counts_of answers)
  pub going : now.state.stopped ≡ false

pub calls_none : (m : Logged) (outside : Outside) (c : Command) (most : ℕ) (before : Counts) → m.state.stopped ≡ false → CallsSoFar m outside c most 0 m before before
calls_none m outside c most before going = record { answers = []; goes_on = λ rest end f. f; counted = sym (plus_none before); going = going }

module _ (start m mid : Logged) (outside : Outside) (c : Command) (most k : ℕ) (r : Answer) (before counts counts2 : Counts)
    (so : CallsSoFar start outside c most k m before counts) (lt : k < most) (made : CallOut m outside (call_of c k) r mid) (counted : counts2 ≡ plus counts (counts_of (r ∷ []))) where
  stopped : mid.state.stopped ≡ is_fault r
  stopped = ⊎_elim
      (λ (e : is_fault r ≡ true). ap (λ (x : State). x.stopped) (after_stops made.ready.state mid.state (call_of c k) r e made.made.state) ∙ sym e)
      (λ (e : is_fault r ≡ false). (fine_stays made.ready.state mid.state (call_of c k) r e made.made.state).stopped ∙ (clears_rest m.state made.ready.state (call_of c k) r made.readied.state).stopped ∙ so.going ∙ sym e)
      (cases_Bool (is_fault r))

  pub calls_more : goes_on r ≡ true → CallsSoFar start outside c most (k + 1) mid before counts2
  calls_more gives = record {
    answers = so.answers ++ r ∷ [];
    goes_on = λ rest end f.
        subst (λ (xs : List Answer). CallsAnswered start outside c most 0 xs end) (sym (append_assoc so.answers (r ∷ []) rest))
        (so.goes_on (r ∷ rest) end (lt, mid, made, subst (λ (b : Bool). MatchBool b (CallsAnswered mid outside c most (k + 1) rest end) ((rest ≡ []) × (end ≡ mid))) (sym gives) f));
    counted = counted_on before counts counts2 so.answers (r ∷ []) so.counted counted;
    going = stopped ∙ on_no_fault r gives;
  }

  -- the last
  pub calls_last : goes_on r ≡ false → HasCounted (CallsAnswered start outside c most 0) mid before counts2 (is_fault r)
  calls_last gives =
      let none : ◌≡◌ {A = List Answer} [] [] = refl in
      record {
        answers = so.answers ++ r ∷ [];
        allowed = so.goes_on (r ∷ []) mid (lt, mid, made, subst (λ (b : Bool). MatchBool b (CallsAnswered mid outside c most (k + 1) [] mid) (◌≡◌ {A = List Answer} [] [] × (mid ≡ mid))) (sym gives) (none, refl));
        counted = counted_on before counts counts2 so.answers (r ∷ []) so.counted counted;
        stops = stops_by so.answers r mid stopped;
      }

  pub calls_fault : is_fault r ≡ true → HasCounted (CallsAnswered start outside c most 0) mid before counts2 true
  calls_fault e = subst (λ (v : Bool). HasCounted (CallsAnswered start outside c most 0) mid before counts2 v) e (⊎_elim
      (λ (gives : goes_on r ≡ true). absurd (false≢true (sym (on_no_fault r gives) ∙ e)))
      (λ (gives : goes_on r ≡ false). calls_last gives)
      (cases_Bool (goes_on r)))

-- all went on
pub calls_all : (start m : Logged) (outside : Outside) (c : Command) (most k : ℕ) (before counts : Counts) → k ≡ most → CallsSoFar start outside c most k m before counts → HasCounted (CallsAnswered start outside c most 0) m before counts false
calls_all start m outside c most k before counts is so = record {
  answers = so.answers;
  allowed = subst (λ (xs : List Answer). CallsAnswered start outside c most 0 xs m) (append-nil so.answers) (so.goes_on [] m (is, refl));
  counted = so.counted;
  stops = so.going;
}

-- writes that are tried again

-- their answers, whichever sessions they are told to
abbrev only_answers : List (ℕ × Answer) → List Answer
only_answers [] = []
only_answers (r ∷ more) = r.1 ∷ only_answers more

resumes_answered : (rs : List (ℕ × Answer)) (m now : Logged) (outside : Outside) → AllResumed m outside rs now → ResumesAnswered m outside (only_answers rs) now
resumes_answered [] m now outside all = all
resumes_answered (r ∷ more) m now outside (middle, going, again, rest) =
    (r.0, again.asked, middle, going, again.ready, again.known, again.resumed, resumes_answered more middle now outside rest)

resumes_counted : (rs : List (ℕ × Answer)) (before after : Counts) → AllHeard HasCountedOne before rs after → after ≡ plus before (counts_of (only_answers rs))
resumes_counted [] before after is = is ∙ sym (plus_none before)
resumes_counted (r ∷ more) before after (middle, one, rest) =
    counted_on before middle after (r.1 ∷ []) (only_answers more) one.0 (resumes_counted more middle after rest)

-- each counts one at most
pub resumes_few : (rs : List (ℕ × Answer)) (before after : Counts) → AllHeard HasCountedOne before rs after → told after ≤ told before + length rs
resumes_few [] before after is = let same = ap told is in omega (arith, same)
resumes_few (r ∷ more) before after (middle, one, rest) =
    let few = resumes_few more middle after rest in omega (arith, few, one.1)

-- where it is stopped, the last answer tells why
resumes_fault : (rs : List (ℕ × Answer)) (m now : Logged) (outside : Outside) → AllResumed m outside rs now → m.state.stopped ≡ false → now.state.stopped ≡ true → EndsInFault (only_answers rs)
resumes_fault [] m now outside (settled, is) going stopped = absurd (false≢true (sym going ∙ ap (λ (x : Logged). x.state.stopped) (sym is) ∙ stopped))
resumes_fault (r ∷ []) m now outside (middle, going, again, (settled, is)) before stopped =
    ([], ap (λ (x : Answer). x ∷ []) (fault_is r.1 (sym again.stopped ∙ ap (λ (x : Logged). x.state.stopped) (sym is) ∙ stopped)))
resumes_fault (r ∷ q ∷ more) m now outside (middle, going, again, rest) before stopped =
    let ends = resumes_fault (q ∷ more) middle now outside rest rest.1 stopped in
    (r.1 ∷ ends.0, ap (λ (xs : List Answer). r.1 ∷ xs) ends.1)

resumes_stop : (fault : Bool) (rs : List (ℕ × Answer)) (m now : Logged) (outside : Outside) → AllResumed m outside rs now → m.state.stopped ≡ false → now.state.stopped ≡ fault → StopsBy fault (only_answers rs) now
resumes_stop true rs m now outside all going stopped = (resumes_fault rs m now outside all going stopped, stopped)
resumes_stop false rs m now outside all going stopped = stopped

resumes_end : (m now : Logged) (outside : Outside) (before after : Counts) (fault : Bool) → m.state.stopped ≡ false → HasResumed HasCountedOne m outside now before after fault → HasCounted (ResumesAnswered m outside) now before after fault
resumes_end m now outside before after fault going has = record {
  answers = only_answers has.answers;
  allowed = resumes_answered has.answers m now outside has.resumed;
  counted = resumes_counted has.answers before after has.all_heard;
  stops = resumes_stop fault has.answers m now outside has.resumed going has.stopped;
}

-- a command and what it has made ready

-- where answers end in a fault, so do they behind others
ends_on : (xs ys : List Answer) → EndsInFault ys → EndsInFault (xs ++ ys)
ends_on xs ys (front, is) = (xs ++ front, ap (λ (l : List Answer). xs ++ l) is ∙ sym (append_assoc xs front (Refused DiskFault ∷ [])))

stops_on : (fault : Bool) (xs ys : List Answer) (now : Logged) → StopsBy fault ys now → StopsBy fault (xs ++ ys) now
stops_on true xs ys now (ends, stopped) = (ends_on xs ys ends, stopped)
stops_on false xs ys now going = going

pub command_fails : (m now : Logged) (outside : Outside) (c : Command) (before counts : Counts) → HasCounted (CallsAnswered m outside c (most_calls m.state.shape c) 0) now before counts true → HasCounted (CommandAnswered m outside c) now before counts true
command_fails m now outside c before counts has = record {
  answers = has.answers;
  allowed = (has.answers, [], now, has.allowed, sym (append-nil has.answers), (inl has.stops.1, refl));
  counted = has.counted;
  stops = has.stops;
}

pub command_ends : (m mid now : Logged) (outside : Outside) (c : Command) (before counts counts2 : Counts) (fault : Bool) → HasCounted (CallsAnswered m outside c (most_calls m.state.shape c) 0) mid before counts false
    → HasResumed HasCountedOne mid outside now counts counts2 fault → HasCounted (CommandAnswered m outside c) now before counts2 fault
command_ends m mid now outside c before counts counts2 fault own has =
    let resumed = resumes_end mid now outside counts counts2 fault own.stops has in
    record {
      answers = own.answers ++ resumed.answers;
      allowed = (own.answers, resumed.answers, mid, own.allowed, refl, resumed.allowed);
      counted = counted_on before counts counts2 own.answers resumed.answers own.counted resumed.counted;
      stops = stops_on fault own.answers resumed.answers now resumed.stops;
    }

-- one command after another

-- the i-th command of a run of n, from 0 on, and those from it on

abbrev pub command_at : Shape → ℕ → ℕ → Command
command_at shape n i = drawn shape (state_after n (4 * i)) (decimal (i + 1))

abbrev commands_from : Shape → ℕ → ℕ → List Command
commands_from shape n i = map (command_at shape n) (range_with_len i (n - i))

one_from : (shape : Shape) (n i : ℕ) → i < n → commands_from shape n i ≡ command_at shape n i ∷ commands_from shape n (i + 1)
one_from shape n i lt =
    let more : n - i ≡ suc (n - (i + 1)) = omega (arith, lt) in
    ap (λ (count : ℕ). map (command_at shape n) (range_with_len i count)) more

-- The first i were made, and the disk never failed.
pub record CommandsSoFar (start : Logged) (outside : Outside) (n i : ℕ) (now : Logged) (counts : Counts) : Type 0 where
  pub answers : List Answer
  pub goes_on : (rest : List Answer) (end : Logged) → CommandsAnswered now outside (commands_from start.state.shape n i) rest end → CommandsAnswered start outside (commands_of start.state.shape n) (answers ++ rest) end
  pub counted : counts ≡ counts_of answers
  pub going : now.state.stopped ≡ false

pub commands_none : (m : Logged) (outside : Outside) (n : ℕ) → m.state.stopped ≡ false → CommandsSoFar m outside n 0 m no_counts
commands_none m outside n going =
    let all : n - 0 ≡ n = omega arith in
    record {
      answers = [];
      goes_on = λ rest end f. subst (λ (count : ℕ). CommandsAnswered m outside (map (command_at m.state.shape n) (range_with_len 0 count)) rest end) all f;
      counted = refl;
      going = going;
    }

module _ (start m mid : Logged) (outside : Outside) (n i : ℕ) (counts counts2 : Counts) (so : CommandsSoFar start outside n i m counts) (lt : i < n) where
  abbrev Here : Bool → Type 0
  Here fault = HasCounted (CommandAnswered m outside (command_at start.state.shape n i)) mid counts counts2 fault

  -- it and what follows it
  turn_on : (fault : Bool) (has : Here fault) (rest : List Answer) (end : Logged) → MatchBool mid.state.stopped ((rest ≡ []) × (end ≡ mid)) (CommandsAnswered mid outside (commands_from start.state.shape n (i + 1)) rest end)
      → CommandsAnswered start outside (commands_of start.state.shape n) (so.answers ++ (has.answers ++ rest)) end
  turn_on fault has rest end f =
      so.goes_on (has.answers ++ rest) end (subst (λ (cs : List Command). CommandsAnswered m outside cs (has.answers ++ rest) end) (sym (one_from start.state.shape n i lt)) (has.answers, rest, mid, has.allowed, refl, f))

  counts_on : (fault : Bool) (has : Here fault) → counts2 ≡ counts_of (so.answers ++ has.answers)
  counts_on fault has = counted_on no_counts counts counts2 so.answers has.answers (so.counted ∙ sym (none_plus (counts_of so.answers))) has.counted ∙ none_plus (counts_of (so.answers ++ has.answers))

  pub commands_more : Here false → CommandsSoFar start outside n (i + 1) mid counts2
  commands_more has = record {
    answers = so.answers ++ has.answers;
    goes_on = λ rest end f.
        subst (λ (xs : List Answer). CommandsAnswered start outside (commands_of start.state.shape n) xs end) (sym (append_assoc so.answers has.answers rest))
        (turn_on false has rest end (subst (λ (b : Bool). MatchBool b ((rest ≡ []) × (end ≡ mid)) (CommandsAnswered mid outside (commands_from start.state.shape n (i + 1)) rest end)) (sym has.stops) f));
    counted = counts_on false has;
    going = has.stops;
  }

  pub commands_fail : (failed : Failed) → Here true → HasGenerated start outside n mid (Err failed)
  commands_fail failed has =
      let none : ◌≡◌ {A = List Answer} [] [] = refl in
      record {
        answers = so.answers ++ (has.answers ++ []);
        answered = turn_on true has [] mid (subst (λ (b : Bool). MatchBool b (◌≡◌ {A = List Answer} [] [] × (mid ≡ mid)) (CommandsAnswered mid outside (commands_from start.state.shape n (i + 1)) [] mid)) (sym has.stops.1) (none, refl));
        ends = (ends_on so.answers (has.answers ++ []) (subst EndsInFault (sym (append-nil has.answers)) has.stops.0), has.stops.1);
      }

pub commands_all : (start m : Logged) (outside : Outside) (n i : ℕ) (counts : Counts) → i ≡ n → CommandsSoFar start outside n i m counts → HasGenerated start outside n m (Ok counts)
commands_all start m outside n i counts is so =
    let none : n - i ≡ 0 = omega (arith, is) in
    let nil : ◌≡◌ {A = List Answer} [] [] = refl in
    record {
      answers = so.answers;
      answered = subst (λ (xs : List Answer). CommandsAnswered start outside (commands_of start.state.shape n) xs m) (append-nil so.answers)
          (so.goes_on [] m (subst (λ (k : ℕ). CommandsAnswered m outside (map (command_at start.state.shape n) (range_with_len i k)) [] m) (sym none) (nil, refl)));
      ends = (so.counted, so.going);
    }
