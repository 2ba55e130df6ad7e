-- What answers hang on besides the machine's state may be forgotten.
use Rattle.std.proofs.Common.{inl, inr, ⊎_elim, ℕ, zero, suc, Bool, true, false, List, [], ◌∷◌, ◌++◌}
use Rattle.std.specs.Prelude.{MatchBool}
use Rattle.rb_shell.specs.Over.{plain}
use Rattle.rb_lines.specs.Cut.{CutOff}
use Rattle.rb_lines.specs.Ends.{Halted}
use Rattle.rb_lines.specs.Ran.{LineBegun, Ran}
use Rattle.rb_lines.specs.Whole.{whole_lines}
use Rattle.rb_model.specs.Calls.{Answer, Call, Write}
use Rattle.rb_model.specs.Change.{Asked}
use Rattle.rb_model.specs.Lines.{Command}
use Rattle.rb_model.specs.Out.{CallMade, CallOut, CallsOut, LineOut, LineSaid, Logged, Out, Outside, Readied, Resumed, ResumesOut, bad, command, goes_on, left_queue, skipped, too_long}

either : (v : Bool) (P Q P2 Q2 : Type 0) → (P → P2) → (Q → Q2) → MatchBool v P Q → MatchBool v P2 Q2
either true P Q P2 Q2 f g p = f p
either false P Q P2 Q2 f g q = g q

module _ (o : Outside) where
  readied : (m : Logged) (c : Call) (r : Answer) (ready : Logged) → Readied m o c r ready → Readied m plain c r ready
  readied m c r ready x = record { state = x.state; lsn = x.lsn; fault = x.fault; back = tt }

  made : (m : Logged) (c : Call) (r : Answer) (m2 : Logged) → CallMade m o c r m2 → CallMade m plain c r m2
  made m c r m2 x = record {
    reply = x.reply;
    worn = λ snapshot lost is. tt;
    state = x.state;
    fault = x.fault;
    groups = x.groups;
    grows = x.grows;
    lsn = x.lsn;
    makes = λ on. tt;
  }

  call : (m : Logged) (c : Call) (r : Answer) (m2 : Logged) → CallOut m o c r m2 → CallOut m plain c r m2
  call m c r m2 x = record { ready = x.ready; readied = readied m c r x.ready x.readied; made = made x.ready c r m2 x.made; few = x.few }

  calls : (count k : ℕ) (m : Logged) (c : Command) (out : List ℕ) (m2 : Logged) → CallsOut m o c k count out m2 → CallsOut m plain c k count out m2
  calls zero k m c out m2 x = x
  calls (suc count) k m c out m2 (r, rest, middle, one, is, more) =
      (r, rest, middle, call m _ r middle one, is, either (goes_on r) _ _ _ _ (λ p. calls count (suc k) middle c rest m2 p) (λ q. q) more)

  resumed : (m : Logged) (s : ℕ) (a : Asked) (r : Answer) (m2 : Logged) → Resumed m o s a r m2 → Resumed m plain s a r m2
  resumed m s a r m2 x = record {
    ready = x.ready;
    readied = readied (left_queue m s) (Write s a.table a.key a.action) r x.ready x.readied;
    reply = x.reply;
    worn = λ snapshot lost is. tt;
    state = x.state;
    fault = x.fault;
    groups = x.groups;
    grows = x.grows;
    few = x.few;
    lsn = x.lsn;
    makes = λ on. tt;
  }

  resumes : (count : ℕ) (m : Logged) (out : List ℕ) (m2 : Logged) → ResumesOut m o count out m2 → ResumesOut m plain count out m2
  resumes zero m out m2 x = x
  resumes (suc count) m out m2 (s, a, r, rest, middle, going, ready, known, one, is, more) =
      (s, a, r, rest, middle, going, ready, known, resumed m s a r middle one, is, resumes count middle rest m2 more)

  said : (m : Logged) (line out : List ℕ) (m2 : Logged) → LineSaid m o line out m2 → LineSaid m plain line out m2
  said m line out m2 (too_long long is same) = too_long long is same
  said m line out m2 (skipped short r is same) = skipped short r is same
  said m line out m2 (bad short r none is same) = bad short r none is same
  said m line out m2 (command short c spells does) = command short c spells (calls _ 0 m c out m2 does)

  whole_line : (m : Logged) (line out : List ℕ) (m2 : Logged) → LineOut m o line out m2 → LineOut m plain line out m2
  whole_line m line out m2 (itself, again, between, count, says, joined, tried) =
      (itself, again, between, count, said m line itself between says, joined, resumes count between again m2 tried)

  lines : (ls : List (List ℕ)) (m : Logged) (out : List ℕ) (m2 : Logged) → Out m o ls out m2 → Out m plain ls out m2
  lines [] m out m2 x = x
  lines (line ∷ ls) m out m2 (first, rest, middle, does, is, more) = (
    first,
    rest,
    middle,
    whole_line m line first middle does,
    is,
    either middle.state.stopped _ _ _ _ (λ p. p) (λ q. lines ls middle rest m2 q) more,
  )

  pub ran_plain : (m m2 : Logged) (ls : List (List ℕ)) (tells : Type 0) (before held : List ℕ) → Ran o m m2 ls tells before held → Ran plain m m2 ls tells before held
  ran_plain m m2 ls tells before held x = record { out = x.out; replies = lines ls m x.out m2 x.replies; written = x.written }

  pub halted_plain : (m m2 : Logged) (most : ℕ) (left left2 : List ℕ) (tells : Type 0) (before held : List ℕ) → Halted o most m m2 left left2 tells before held → Halted plain most m m2 left left2 tells before held
  halted_plain m m2 most left left2 tells before held x = record {
    taken = x.taken;
    piece = x.piece;
    few = x.few;
    split = x.split;
    middle = x.middle;
    held = x.held;
    done = ran_plain m x.middle (whole_lines x.taken) tells before x.held x.done;
    going = x.going;
    rest = x.rest;
    lines = x.lines;
    fault = ran_plain x.middle m2 x.rest tells x.held held x.fault;
    stopped = x.stopped;
  }

  begun : (m : Logged) (line out : List ℕ) (m2 : Logged) → LineBegun m o line out m2 → LineBegun m plain line out m2
  begun m line out m2 x = ⊎_elim
      (λ whole. inl (whole_line m line out m2 whole))
      (λ first. inr (first.0, first.1, first.2, (first.3.0, first.3.1, first.3.2, calls first.3.0 0 m first.1 out m2 first.3.3)))
      x

  pub cut_plain : (m m2 : Logged) (most : ℕ) (left left2 before held : List ℕ) → CutOff o most m m2 left left2 before held → CutOff plain most m m2 left left2 before held
  cut_plain m m2 most left left2 before held x = record {
    taken = x.taken;
    piece = x.piece;
    few = x.few;
    split = x.split;
    done = x.done;
    line = x.line;
    more = x.more;
    lines = x.lines;
    here = x.here;
    middle = x.middle;
    held = x.held;
    ran = ran_plain m x.middle (whole_lines x.taken ++ x.done) (Unit {0}) before x.held x.ran;
    going = x.going;
    cut = record { out = x.cut.out; reply = begun x.middle x.line x.cut.out m2 x.cut.reply; size = x.cut.size; written = x.cut.written };
  }
