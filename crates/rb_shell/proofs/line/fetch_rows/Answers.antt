use Rattle.std.proofs.Common.{◌≡◌, ◌≤◌, ◌+◌, ℕ, false, List, [], length, Result, Err, Option, None, Some, IfSome, refl, sym, ◌∙◌, ap, subst, arith}
use Rattle.std.proofs.lemmas.Result.{err_from_is_err_and}
use Rattle.rb_base.specs.Counts.{err_is}
use Rattle.rb_lines.proofs.Dids.{did_as, did_on}
use Rattle.rb_lines.specs.Faults.{is_sink}
use Rattle.rb_lines.specs.Ran.{CallsBegun}
use Rattle.rb_lines.specs.declared.runner.StepFault.{StepFault}
use Rattle.rb_model.specs.Out.{CommandOut, Logged}
use Rattle.rb_model.specs.declared.outcome.Outcome as code
use Rattle.rb_model.specs.Calls as machine
use Rattle.rb_model.specs.Lines as lines
use Rattle.rb_model.specs.Names.{name_text}
use Rattle.rb_engine.specs.Ahead.{RowsAhead}
use Rattle.rb_engine.specs.Does.{EngineView}
use Rattle.rb_calls.specs.Since.{IsSince, StandsAs, since_same, since_joined, engine_outside}
use Rattle.rb_shell.specs.Steps.{Calls, SaidAs}
use Rattle.rb_shell.proofs.SaidLemmas.{calls_more, calls_stop, calls_fault, calls_end, so_far_none}
use Rattle.rb_shell.proofs.line.fetch_rows.Given.{Over}
use Rattle.rb_shell.proofs.line.fetch_rows.Goals as goal
use Rattle.rb_shell.proofs.line.fetch_rows.Goals.{then-n-gt1, else-n-gt1}

-- where no call is made yet, the store stays
still : (g : Over) (e : EngineView g.row.T.Denot) (m : Logged) → StandsAs g.T.Store e m → m.state.stopped ≡ false → IsSince g.T.Store e e m m
still g e m is going = since_same e m (λ kept. record {
  stable_left = g.met.T.Store.stable_left;
  stable_numbered = g.met.T.Store.stable_numbered;
  stable_patched = g.met.T.Store.stable_patched;
  now_counts = g.met.T.Store.now_counts;
  only_now = g.met.T.Store.only_now;
  holds_back_same = g.met.T.Store.holds_back_same;
  holds_back_joined = g.met.T.Store.holds_back_joined;
}) is going

-- nothing that waits has room
few_wait : {waiting : List ℕ} → waiting ≡ [] → length waiting ≤ 65536
few_wait {waiting} none = let e = ap length none in omega (arith, e)

-- nothing is asked where nothing is known
if_none : {A : Type 0} (P : A → Type 0) (o : Option A) → o ≡ None → IfSome o P
if_none P None is = tt
if_none P (Some x) is = (let clash : Some x ≡ None = is in absurd cc)

pub loop-k-init : goal.loop-k-init
loop-k-init g c = record {
  ahead = if_none _ c.if-n-gt1.ahead.rows (elim c.if-n-gt1.branch [
    | then-n-gt1 w ↦ ap (λ (a : RowsAhead). a.rows) w.ahead-is ∙ w.of_many-ahead.ensures
    | else-n-gt1 w ↦ ap (λ (a : RowsAhead). a.rows) w.ahead-is ∙ w.of_one-ahead.ensures
  ]);
  so_far = λ m is going. record {
    now = m;
    reached = is;
    passed = still g c.args.engine.now m is going;
    ran = so_far_none m _ _ g.K.Sink.tells _ _ c.requires going;
  };
  room = few_wait c.requires;
  first = λ zero. c.requires;
  same = record { shape = refl; slots = refl };
  disk = refl;
  sink = refl;
}

pub loop-k-preserved : goal.loop-k-preserved
loop-k-preserved g c =
    let i = c.loop-k.invariant in
    let o = c.in_ok-answer.ensures in
    record {
      ahead = o.ahead;
      so_far = λ m is going. did_on c.args.engine.now c.loop-k.engine c.fetch_once.new.engine m _ _ _ (λ a b d h n k. since_joined a b d h n k) (i.so_far m is going) (λ n so. so.going)
          (λ n reached on. o.did n reached on)
          (λ n k so calls. calls_more m n k _ _ c.loop-k._k c.fetch_once.new.row g.K.Sink.tells _ _ _ _ _ so _ (sym (c.goes_on.ensures c.fetch_once.new.row) ∙ c.if-not-goes_on.false)
          calls);
      room = o.room;
      first = λ zero. absurd (let more : ◌≡◌ {A = ℕ} (c.loop-k._k + 1) 0 = zero in omega (arith, more));
      same = record { shape = o.same.shape ∙ i.same.shape; slots = o.same.slots ∙ i.same.slots };
      disk = o.disk.still refl refl ∙ i.disk;
      sink = o.sink.still refl ∙ i.sink;
    }

pub returns-then-not-goes_on : goal.returns-then-not-goes_on
returns-then-not-goes_on g c =
    let i = c.loop-k.invariant in
    let o = c.in_ok-answer.ensures in
    record {
      did = λ m is going. did_on c.args.engine.now c.loop-k.engine c.fetch_once.new.engine m _ _ _ (λ a b d h n k. since_joined a b d h n k) (i.so_far m is going) (λ n so. so.going)
          (λ n reached on. o.did n reached on)
          (λ n k so calls. calls_stop m n k _ _ c.loop-k._k c.fetch_once.new.row g.K.Sink.tells _ _ _ _ _ so _ c.loop-k-test.true (sym (c.goes_on.ensures c.fetch_once.new.row) ∙ c.if-not-goes_on.true) calls);
      room = o.room;
      same = record { shape = o.same.shape ∙ i.same.shape; slots = o.same.slots ∙ i.same.slots };
      disk = record { no_less = omega (arith, o.disk.still refl refl, i.disk); cause = λ fault. cc; still = λ a b. o.disk.still refl refl ∙ i.disk };
      sink = record { no_less = omega (arith, o.sink.still refl, i.sink); cause = λ fault. cc; still = λ a. o.sink.still refl ∙ i.sink };
    }

pub returns-in_err-answer-clause-did : goal.returns-in_err-answer-clause-did
returns-in_err-answer-clause-did g c = λ m is going.
    let i = c.loop-k.invariant in
    let p = err_from_is_err_and c.from_residual.result c.from_residual.ensures.1 in
    did_on c.args.engine.now c.loop-k.engine c.fetch_once.new.engine m _ _ _ (λ a b d h n k. since_joined a b d h n k) (i.so_far m is going) (λ n so. so.going)
    (λ n reached on. c.fetch_once.ensures.did n reached on)
    (λ n k so calls.
    let fault : c.fetch_once.result ≡ Err p.0 = c.in_err-answer.was ∙ sym (ap (λ (x : StepFault). Err x) p.2) in
    let here = subst (λ (r : Result code.Outcome StepFault). Calls n engine_outside (Some c.args.s) (machine.Fetch c.args.s (name_text c.args.name.now)) c.fetch_once.new.row k g.K.Sink.tells (g.K.Sink.held c.loop-k.sink) c.loop-k.waiting.bytes.items (g.K.Sink.held c.fetch_once.new.sink) c.fetch_once.new.waiting.bytes.items r) fault calls in
    subst (λ (r : Result (Unit {0}) StepFault). SaidAs (CommandOut m engine_outside (lines.FetchLine c.args.s (name_text c.args.name.now) c.args.n)) (CallsBegun m engine_outside (lines.FetchLine c.args.s (name_text c.args.name.now) c.args.n)) k g.K.Sink.tells (g.K.Sink.held c.args.sink.now) (g.K.Sink.held c.fetch_once.new.sink) c.fetch_once.new.waiting.bytes.items r) (sym p.1)
    (calls_fault m n k _ _ c.loop-k._k c.fetch_once.new.row g.K.Sink.tells _ _ _ _ _ so p.0 (λ zero. sym (ap (λ (r : Result code.Outcome StepFault). err_is is_sink r) fault) ∙ c.fetch_once.ensures.first (i.first zero)) c.loop-k-test.true here))

pub returns-clause-did : goal.returns-clause-did
returns-clause-did g c = λ m is going.
    let ended : c.loop-k._k ≡ c.args.n = omega arith in
    did_as c.args.engine.now c.loop-k.engine m _ _ (λ n so. calls_end m n _ _ c.loop-k._k g.K.Sink.tells _ _ _ ended so) (c.loop-k.invariant.so_far m is going)
