use Rattle.std.proofs.Common.{inl, ◌<◌, ◌-◌, arith, Option, MatchOption, IfSome, length, ◌≡◌, ℕ, Bool, true, false, not, List, None, Some, Result, Ok, Err, refl, sym, ◌∙◌, ap, subst}
use Rattle.std.proofs.lemmas.Result.{err_from_is_err_and}
use Rattle.rb_base.specs.Logs.{Laws, Logs}
use Rattle.rb_cr.specs.Faults.{is_fault}
use Rattle.rb_base.specs.declared.ids.Xid.{Xid}
use Rattle.rb_base.specs.declared.store.Store.{Ghosts}
use Rattle.rb_cr.specs.declared.faults.CrFault.{CrFault}
use Rattle.rb_cr.specs.declared.faults.CrFault.TheVariants as faults
use Rattle.rb_engine.specs.Ahead.{IsAheadOf, IsAt, behind_key}
use Rattle.rb_engine.specs.Cleaning.{Cleans, ReadIn}
use Rattle.rb_model.specs.State.{State}
use Rattle.law_copies.specs.Copies.{CopiesStand}
use Rattle.rb_engine.specs.Does.{with_copies, EngineView, Kept}
use Rattle.rb_engine.proofs.AheadLemmas.{ahead_of, at_moved, named_moved, of_ahead, place_ahead}
use Rattle.rb_engine.proofs.CopyLemmas.{knows_copies}
use Rattle.rb_engine.proofs.DoesLemmas.{does_fault_known, does_refused, does_refused_late, knows_stop}
use Rattle.rb_engine.proofs.FetchLemmas.{answer_by, cleans_read, does_end, does_old, does_row, needs_lost, not_old, read_by, same_old, serves}
use Rattle.rb_engine.proofs.StepLemmas.{few_young, fit_at, fit_taken, in_step_moved, in_step_young, named_in, queue_moved}
use Rattle.rb_model.specs.Calls as machine
use Rattle.rb_model.specs.Calls.{Answer, Refused, MayAnswer, early_tests, none_applies, next_row}
use Rattle.rb_model.specs.Names.{name_text}
use Rattle.rb_model.specs.declared.refusal.Refusal.TheVariants.{NoCursor, TooOld}
use Rattle.rb_model.specs.declared.row.Fetched.{Fetched}
use Rattle.rb_sessions.specs.Kept.{IsPlaceOf, KeptSession, kept_at, named, with_kept, with_last}
use Rattle.rb_sessions.specs.Kept as table
use Rattle.law_sessions.proofs.Cursors.{named_is}
use Rattle.rb_engine.proofs.MakesLemmas.{makes_refused}
use Rattle.rb_engine.proofs.fetch.do_fetch.Given.{Over}
use Rattle.rb_engine.proofs.fetch.do_fetch.Goals as goal

laws_of : (g : Over) → Laws g.T.Store
laws_of g = record {
  stable_left = λ store b n i keeps stable here. g.met.T.Store.stable_left store b n i keeps stable here;
  stable_numbered = λ store b n keeps stable. g.met.T.Store.stable_numbered store b n keeps stable;
  stable_patched = λ store b n keeps stable. g.met.T.Store.stable_patched store b n keeps stable;
  now_counts = λ store t i keeps le here. g.met.T.Store.now_counts store t i keeps le here;
  only_now = λ store i keeps here. g.met.T.Store.only_now store i keeps here;
  holds_back_same = λ store. g.met.T.Store.holds_back_same store;
  holds_back_joined = λ a b c first second. g.met.T.Store.holds_back_joined a b c first second;
}

-- what is left where a search was refused
by_fault : {S : Type 0} (s : Ghosts S) (h : State) (xids : List Xid) (May : ℕ → Type 0) (most : ℕ) (old new : S) (going : Bool) (fault other : CrFault) → fault ≡ other → not (is_fault other) ≡ going
    → Cleans s h xids May (λ b. ⊥) most old new (not (is_fault fault)) → Cleans s h xids May (λ b. ⊥) most old new going
by_fault s h xids May most old new going fault other is goes clean = subst (λ (b : Bool). Cleans s h xids May (λ b. ⊥) most old new b) (ap (λ (f : CrFault). not (is_fault f)) is ∙ goes) clean

pub returns-in_err-check_session-clause-did : goal.returns-in_err-check_session-clause-did
returns-in_err-check_session-clause-did g c =
    let p = err_from_is_err_and c.from_residual.result c.from_residual.ensures.1 in
    rw (p.1, p.2) (λ h st.
    does_refused g.T.Store (laws_of g) h (machine.Fetch c.args.s (name_text c.args.name.now)) c.in_err-check_session.field-0.0 (record { memory = c.args.memory.now; store = c.args.store.now }) st c.requires.step.going
    (c.in_err-check_session.ensures.refused h st.knows) c.in_err-check_session.ensures.other)

pub returns-in_default-clause-did : goal.returns-in_default-clause-did
returns-in_default-clause-did g c = λ h st.
    let s = g.T.Store in
    let name = name_text c.args.name.now in
    let call = machine.Fetch c.args.s name in
    let kept = c.args.memory.now in
    let e = c.in_ok-check_session.ensures in
    let going : h.stopped ≡ false = sym st.knows.stopped ∙ e.going in
    let goes = st.goes going in
    let table_is : c.memory.inside.sessions ≡ kept.sessions = ap (λ (k : Kept). k.sessions) c.memory.view_is in
    let nothing : named name (kept_at kept.sessions c.args.s).cursors ≡ None =
    ap (λ (l : List KeptSession). named name (kept_at l c.args.s).cursors) (sym table_is) ∙ (subst (λ (o : Option ℕ). MatchOption o (named name (kept_at c.memory.inside.sessions c.args.s).cursors ≡ None) (λ place. (place < length (kept_at c.memory.inside.sessions c.args.s).cursors) × IsPlaceOf name (kept_at c.memory.inside.sessions c.args.s).cursors place)) c.in_default.is c.place_of.ensures) in
    let none = (named_is h goes.xids _ c.args.s name kept.sessions goes.remembers e.session.0 e.session.1).0 nothing in
    does_refused_late s (laws_of g) h call NoCursor (record { memory = kept; store = c.args.store.now }) st c.requires.step.going
    (MayAnswer.later (machine.name_tests h call) (e.granted h st.knows) refl (answer_by h c.args.s name None (Refused NoCursor) none refl)) (λ clash. cc)

pub next_row-requires-clause-table : goal.next_row-requires-clause-table
next_row-requires-clause-table g c =
    let s = g.T.Store in
    let kept = c.args.memory.now in
    let name = name_text c.args.name.now in
    let table_is : c.memory.inside.sessions ≡ kept.sessions = ap (λ (k : Kept). k.sessions) c.memory.view_is in
    named_in (s.shape_of c.args.store.now) name (kept_at kept.sessions c.args.s).cursors c.cursor_at-cursor.result (c.requires.step.tables c.args.s)
    (ap (λ (l : List KeptSession). named name (kept_at l c.args.s).cursors) (sym table_is) ∙ (c.cursor_at-cursor.ensures (name_text c.args.name.now) c.in-Some.ensures.1))

pub place_of-requires-clause-ahead : goal.place_of-requires-clause-ahead
place_of-requires-clause-ahead g c =
    let kept = c.args.memory.now in
    let name = name_text c.args.name.now in
    subst (λ (k : Kept). IfSome c.args.ahead.now.rows (λ rows. IsAt name (kept_at k.sessions c.args.s).cursors c.args.ahead.now.place)) (sym c.memory.view_is) (place_ahead g.T.Store kept c.args.store.now c.args.s name c.args.ahead.now c.requires.ahead)

pub next_row-requires-clause-ahead : goal.next_row-requires-clause-ahead
next_row-requires-clause-ahead g c =
    let kept = c.args.memory.now in
    let name = name_text c.args.name.now in
    let table_is : c.memory.inside.sessions ≡ kept.sessions = ap (λ (k : Kept). k.sessions) c.memory.view_is in
    let is_named = ap (λ (l : List KeptSession). named name (kept_at l c.args.s).cursors) (sym table_is) ∙ (c.cursor_at-cursor.ensures (name_text c.args.name.now) c.in-Some.ensures.1) in
    subst (λ (k : Kept). IsAheadOf g.T.Store c.cursor_at-cursor.result k.copies.kept c.args.store.now c.args.ahead.now) (sym c.memory.view_is)
    (of_ahead g.T.Store kept c.args.store.now c.args.s name c.cursor_at-cursor.result c.args.ahead.now is_named c.requires.ahead)

-- the table with the row's key as the cursor's last one
moved_by : (g : Over) (c : goal.After-took_at g) → c.took_at.new.self ≡ with_kept c.args.memory.now.sessions c.args.s
    (table.with_cursors (kept_at c.args.memory.now.sessions c.args.s) (with_last (name_text c.args.name.now) c.next_row.new.row.key (kept_at c.args.memory.now.sessions c.args.s).cursors))
moved_by g c =
    subst (λ (l : List KeptSession). c.took_at.new.self ≡ with_kept l c.args.s (table.with_cursors (kept_at l c.args.s) (with_last (name_text c.args.name.now) c.next_row.new.row.key (kept_at l c.args.s).cursors)))
    (ap (λ (k : Kept). k.sessions) c.memory.view_is) (c.took_at.ensures (name_text c.args.name.now) c.in-Some.ensures.1)

pub returns-in-Ok-Row-clause-step : goal.returns-in-Ok-Row-clause-step
returns-in-Ok-Row-clause-step g c =
    let s = g.T.Store in
    let kept = c.args.memory.now in
    let old = c.args.store.now in
    let new = c.next_row.new.store in
    let now : Kept = record { sessions = c.took_at.new.self; waits = c.memory.inside.waits; scn = c.memory.inside.scn; stopped = c.memory.inside.stopped; copies = c.next_row.new.copies; dead = c.memory.inside.dead } in
    let logs = c.in-Ok-Row.ensures.logs.1 in
    let step = c.requires.step in
    let at = kept_at kept.sessions c.args.s in
    let name = name_text c.args.name.now in
    let key = c.next_row.new.row.key in
    let k : KeptSession = table.with_cursors at (with_last name key at.cursors) in
    let fit = fit_taken (s.shape_of old) name key at (fit_at s kept old step c.args.s) in
    let there = c.in_ok-check_session.ensures.session in
    let moved = moved_by g c in
    in_step_moved s kept now old new step logs.same_shape (ap (λ (k : Kept). k.dead) c.memory.view_is) c.args.s there k fit moved
    (queue_moved s kept now old new step logs.same_shape (ap (λ (k : Kept). k.dead) c.memory.view_is) c.args.s there k fit moved refl (inl (ap (λ (k : Kept). k.waits) c.memory.view_is)))
    (λ _. (logs.failed, few_young s kept now old new step logs.same_shape (ap (λ (k : Kept). k.dead) c.memory.view_is) c.args.s there k fit moved c.in_ok-check_session.ensures.going (fit.small) refl (c.in-Ok-Row.ensures.young refl)))

pub returns-in-Ok-Row-clause-ahead : goal.returns-in-Ok-Row-clause-ahead
returns-in-Ok-Row-clause-ahead g c =
    let kept = c.args.memory.now in
    let name = name_text c.args.name.now in
    let key = c.next_row.new.row.key in
    let m = c.cursor_at-cursor.result in
    let table_is : c.memory.inside.sessions ≡ kept.sessions = ap (λ (k : Kept). k.sessions) c.memory.view_is in
    let is_named = ap (λ (l : List KeptSession). named name (kept_at l c.args.s).cursors) (sym table_is) ∙ (c.cursor_at-cursor.ensures (name_text c.args.name.now) c.in-Some.ensures.1) in
    let there = c.in_ok-check_session.ensures.session in
    let in_table : c.args.s - 1 < length kept.sessions = let n = c.requires.step.counted in omega (arith, n, there) in
    let now : Kept = record { sessions = c.took_at.new.self; waits = c.memory.inside.waits; scn = c.memory.inside.scn; stopped = c.memory.inside.stopped; copies = c.next_row.new.copies; dead = c.memory.inside.dead } in
    ahead_of g.T.Store now c.next_row.new.store c.args.s name (behind_key key m) (record { place = c.in-Some.place; home = c.ahead.inside.home; rows = c.ahead.inside.page })
    (subst (λ (l : List KeptSession). named name (kept_at l c.args.s).cursors ≡ Some (behind_key key m)) (sym (moved_by g c)) (named_moved kept.sessions c.args.s name key m in_table is_named))
    (subst (λ (l : List KeptSession). IsAt name (kept_at l c.args.s).cursors c.in-Some.place) (sym (moved_by g c)) (at_moved kept.sessions c.args.s name key c.in-Some.place in_table (subst (λ (l : List KeptSession). IsAt name (kept_at l c.args.s).cursors c.in-Some.place) table_is c.in-Some.ensures)))
    (subst (IsAheadOf g.T.Store (behind_key key m) c.next_row.new.copies.kept c.next_row.new.store) (sym c.ahead.view_is) (c.in-Ok-Row.ensures.ahead c.in-Ok-Row.field-0-is))

pub returns-in-Ok-Row-clause-did : goal.returns-in-Ok-Row-clause-did
returns-in-Ok-Row-clause-did g c = λ h st.
    let s = g.T.Store in
    let kept = c.args.memory.now in
    let name = name_text c.args.name.now in
    let e = c.in_ok-check_session.ensures in
    let logs = c.in-Ok-Row.ensures.logs.1 in
    let table_is : c.memory.inside.sessions ≡ kept.sessions = ap (λ (k : Kept). k.sessions) c.memory.view_is in
    let is_named = ap (λ (l : List KeptSession). named name (kept_at l c.args.s).cursors) (sym table_is) ∙ (c.cursor_at-cursor.ensures (name_text c.args.name.now) c.in-Some.ensures.1) in
    does_row s (laws_of g) h (record { memory = kept; store = c.args.store.now }) st (sym st.knows.stopped ∙ e.going) c.args.s e.session name (e.granted h st.knows) c.cursor_at-cursor.result is_named
    (record { memory = record { sessions = c.took_at.new.self; waits = c.memory.inside.waits; scn = c.memory.inside.scn; stopped = c.memory.inside.stopped; copies = c.next_row.new.copies; dead = c.memory.inside.dead }; store = c.next_row.new.store })
    (record { shape = logs.same_shape; slots = logs.same_slots }) logs.failed c.next_row.new.row (Ok c.in-Ok-Row.field-0)
    (λ xids serves copies. c.in-Ok-Row.ensures.found st.told h xids serves (subst (λ (k : Kept). CopiesStand h xids (s.blocks c.args.store.now) k.copies.kept) (sym c.memory.view_is) copies)) (λ xids serves copies. c.in-Ok-Row.ensures.cleans st.told h xids serves (subst (λ (k : Kept). CopiesStand h xids (s.blocks c.args.store.now) k.copies.kept) (sym c.memory.view_is) copies)) (λ xids serves copies. c.in-Ok-Row.ensures.copies st.told h xids serves (subst (λ (k : Kept). CopiesStand h xids (s.blocks c.args.store.now) k.copies.kept) (sym c.memory.view_is) copies) refl) (ap (λ (f : Fetched). let r : Result Fetched CrFault = Ok f in r) c.in-Ok-Row.field-0-is)
    (ap (λ (k : Kept). k.stopped) c.memory.view_is) (ap (λ (k : Kept). k.scn) c.memory.view_is) (ap (λ (k : Kept). k.waits) c.memory.view_is) (ap (λ (k : Kept). k.dead) c.memory.view_is) (moved_by g c)

pub returns-in-Ok-End-clause-did : goal.returns-in-Ok-End-clause-did
returns-in-Ok-End-clause-did g c = λ h st.
    let s = g.T.Store in
    let kept = c.args.memory.now in
    let name = name_text c.args.name.now in
    let e = c.in_ok-check_session.ensures in
    let logs = c.in-Ok-End.ensures.logs.1 in
    let old : EngineView _ = record { memory = kept; store = c.args.store.now } in
    let table_is : c.memory.inside.sessions ≡ kept.sessions = ap (λ (k : Kept). k.sessions) c.memory.view_is in
    let is_named = ap (λ (l : List KeptSession). named name (kept_at l c.args.s).cursors) (sym table_is) ∙ (c.cursor_at-cursor.ensures (name_text c.args.name.now) c.in-Some.ensures.1) in
    let going : h.stopped ≡ false = sym st.knows.stopped ∙ e.going in
    let early = e.granted h st.knows in
    does_end s (laws_of g) h old st going c.args.s e.session name early c.cursor_at-cursor.result is_named (record { memory = record { sessions = c.memory.inside.sessions; waits = c.memory.inside.waits; scn = c.memory.inside.scn; stopped = c.memory.inside.stopped; copies = c.next_row.new.copies; dead = c.memory.inside.dead }; store = c.next_row.new.store })
    (record { shape = logs.same_shape; slots = logs.same_slots }) logs.failed c.next_row.new.row (Ok c.in-Ok-End.field-0)
    (λ xids serves copies. c.in-Ok-End.ensures.found st.told h xids serves (subst (λ (k : Kept). CopiesStand h xids (s.blocks c.args.store.now) k.copies.kept) (sym c.memory.view_is) copies)) (λ xids serves copies. c.in-Ok-End.ensures.cleans st.told h xids serves (subst (λ (k : Kept). CopiesStand h xids (s.blocks c.args.store.now) k.copies.kept) (sym c.memory.view_is) copies)) (λ xids serves copies. c.in-Ok-End.ensures.copies st.told h xids serves (subst (λ (k : Kept). CopiesStand h xids (s.blocks c.args.store.now) k.copies.kept) (sym c.memory.view_is) copies) refl) (ap (λ (f : Fetched). let r : Result Fetched CrFault = Ok f in r) c.in-Ok-End.field-0-is) (ap (with_copies c.next_row.new.copies) c.memory.view_is)

pub returns-in-Err-TooOld-clause-did : goal.returns-in-Err-TooOld-clause-did
returns-in-Err-TooOld-clause-did g c = λ h st.
    let s = g.T.Store in
    let kept = c.args.memory.now in
    let name = name_text c.args.name.now in
    let e = c.in_ok-check_session.ensures in
    let logs = subst (λ (f : CrFault). Logs s c.args.store.now c.next_row.new.store c.in-Err-TooOld.ensures.logs.0 (not (is_fault f))) c.in-Err-TooOld.field-0-is c.in-Err-TooOld.ensures.logs.1 in
    let old : EngineView _ = record { memory = kept; store = c.args.store.now } in
    let table_is : c.memory.inside.sessions ≡ kept.sessions = ap (λ (k : Kept). k.sessions) c.memory.view_is in
    let is_named = ap (λ (l : List KeptSession). named name (kept_at l c.args.s).cursors) (sym table_is) ∙ (c.cursor_at-cursor.ensures (name_text c.args.name.now) c.in-Some.ensures.1) in
    let going : h.stopped ≡ false = sym st.knows.stopped ∙ e.going in
    let early = e.granted h st.knows in
    does_old s (laws_of g) h old st going c.args.s e.session name early c.cursor_at-cursor.result is_named (record { memory = record { sessions = c.memory.inside.sessions; waits = c.memory.inside.waits; scn = c.memory.inside.scn; stopped = c.memory.inside.stopped; copies = c.next_row.new.copies; dead = c.memory.inside.dead }; store = c.next_row.new.store })
    (record { shape = logs.same_shape; slots = logs.same_slots }) logs.failed c.next_row.new.row (Err c.in-Err-TooOld.field-0)
    (λ xids serves copies. c.in-Err-TooOld.ensures.found st.told h xids serves (subst (λ (k : Kept). CopiesStand h xids (s.blocks c.args.store.now) k.copies.kept) (sym c.memory.view_is) copies)) (λ xids serves copies. by_fault s h xids (ReadIn h xids (s.blocks c.args.store.now) c.cursor_at-cursor.result) h.shape.blocks c.args.store.now c.next_row.new.store true c.in-Err-TooOld.field-0 (faults.TooOld c.in-Err-TooOld.scn c.in-Err-TooOld.lost) c.in-Err-TooOld.field-0-is refl (c.in-Err-TooOld.ensures.cleans st.told h xids serves (subst (λ (k : Kept). CopiesStand h xids (s.blocks c.args.store.now) k.copies.kept) (sym c.memory.view_is) copies))) (λ xids serves copies. c.in-Err-TooOld.ensures.copies st.told h xids serves (subst (λ (k : Kept). CopiesStand h xids (s.blocks c.args.store.now) k.copies.kept) (sym c.memory.view_is) copies) (ap is_fault c.in-Err-TooOld.field-0-is)) c.in-Err-TooOld.scn c.in-Err-TooOld.lost (ap (λ (f : CrFault). let r : Result Fetched CrFault = Err f in r) c.in-Err-TooOld.field-0-is) (ap (with_copies c.next_row.new.copies) c.memory.view_is)

pub returns-in-Err-Failed-clause-did : goal.returns-in-Err-Failed-clause-did
returns-in-Err-Failed-clause-did g c = rw c.fail.ensures.answer (λ h st.
    let s = g.T.Store in
    let kept = c.args.memory.now in
    let e = c.in_ok-check_session.ensures in
    let logs = subst (λ (f : CrFault). Logs s c.args.store.now c.next_row.new.store c.in-Err-Failed.ensures.logs.0 (not (is_fault f))) c.in-Err-Failed.field-0-is c.in-Err-Failed.ensures.logs.1 in
    let old : EngineView _ = record { memory = kept; store = c.args.store.now } in
    let going : h.stopped ≡ false = sym st.knows.stopped ∙ e.going in
    let name = name_text c.args.name.now in
    let m = c.cursor_at-cursor.result in
    let table_is : c.memory.inside.sessions ≡ kept.sessions = ap (λ (k : Kept). k.sessions) c.memory.view_is in
    let is_named = ap (λ (l : List KeptSession). named name (kept_at l c.args.s).cursors) (sym table_is) ∙ (c.cursor_at-cursor.ensures (name_text c.args.name.now) c.in-Some.ensures.1) in
    let copies = c.next_row.new.copies in
    let stops : c.fail.new.self ≡ record (with_copies copies kept) { stopped = true } = c.fail.ensures.stopped ∙ ap (λ (k : Kept). record (with_copies copies k) { stopped = true }) c.memory.view_is in
    does_fault_known s st.told (laws_of g) h (machine.Fetch c.args.s (name_text c.args.name.now)) old (record { memory = c.fail.new.self; store = c.next_row.new.store }) st (e.granted h st.knows)
    (knows_stop h (with_copies copies kept) c.fail.new.self (knows_copies h kept copies st.knows) stops)
    (record { shape = logs.same_shape; slots = logs.same_slots })
    (λ keeps. by_fault s h (st.goes going).xids (ReadIn h (st.goes going).xids (s.blocks old.store) m) h.shape.blocks old.store c.next_row.new.store false c.in-Err-Failed.field-0 faults.Failed c.in-Err-Failed.field-0-is refl
    (c.in-Err-Failed.ensures.cleans st.told h (st.goes going).xids (serves s (laws_of g) h old st going c.args.s e.session name (e.granted h st.knows) m is_named) (subst (λ (k : Kept). CopiesStand h (st.goes going).xids (s.blocks c.args.store.now) k.copies.kept) (sym c.memory.view_is) (st.goes going).copies)) (Some (machine.Fetch c.args.s name)) keeps))

pub returns-in_err-check_session-clause-lost : goal.returns-in_err-check_session-clause-lost
returns-in_err-check_session-clause-lost g c =
    let p = err_from_is_err_and c.from_residual.result c.from_residual.ensures.1 in
    rw (p.1, p.2) (λ h st scn lost is. absurd (not_old h c.args.s c.in_err-check_session.field-0.0 scn lost (c.in_err-check_session.ensures.refused h st.knows) (let same : c.in_err-check_session.field-0.0 ≡ TooOld scn lost = cc in same)))

pub returns-in-Err-TooOld-clause-lost : goal.returns-in-Err-TooOld-clause-lost
returns-in-Err-TooOld-clause-lost g c = λ h st scn lost is.
    let s = g.T.Store in
    let kept = c.args.memory.now in
    let name = name_text c.args.name.now in
    let m = c.cursor_at-cursor.result in
    let e = c.in_ok-check_session.ensures in
    let old : EngineView _ = record { memory = kept; store = c.args.store.now } in
    let table_is : c.memory.inside.sessions ≡ kept.sessions = ap (λ (k : Kept). k.sessions) c.memory.view_is in
    let is_named = ap (λ (l : List KeptSession). named name (kept_at l c.args.s).cursors) (sym table_is) ∙ (c.cursor_at-cursor.ensures (name_text c.args.name.now) c.in-Some.ensures.1) in
    let numbers = same_old c.in-Err-TooOld.scn c.in-Err-TooOld.lost scn lost is in
    needs_lost s (laws_of g) h old st (sym st.knows.stopped ∙ e.going) c.args.s e.session name (e.granted h st.knows) m is_named c.in-Err-TooOld.field-0 scn lost
    (c.in-Err-TooOld.field-0-is ∙ rw (numbers.0, numbers.1) refl)
    (λ xids serves copies. c.in-Err-TooOld.ensures.found st.told h xids serves (subst (λ (k : Kept). CopiesStand h xids (s.blocks c.args.store.now) k.copies.kept) (sym c.memory.view_is) copies))

-- the search may have given the log groups
pub returns-in-Ok-End-clause-step : goal.returns-in-Ok-End-clause-step
returns-in-Ok-End-clause-step g c =
    let e = c.in-Ok-End.ensures in
    in_step_young g.T.Store c.args.memory.now (record { sessions = c.memory.inside.sessions; waits = c.memory.inside.waits; scn = c.memory.inside.scn; stopped = c.memory.inside.stopped; copies = c.next_row.new.copies; dead = c.memory.inside.dead }) c.args.store.now c.next_row.new.store c.requires.step e.logs.1.same_shape (ap (λ (k : Kept). k.dead) c.memory.view_is)
    (ap (λ (k : Kept). k.sessions) c.memory.view_is) (ap (λ (k : Kept). k.waits) c.memory.view_is) (λ going. (e.logs.1.failed, e.young refl, sym (ap (λ (k : Kept). k.stopped) c.memory.view_is) ∙ going))

pub returns-in-Err-TooOld-clause-step : goal.returns-in-Err-TooOld-clause-step
returns-in-Err-TooOld-clause-step g c =
    let e = c.in-Err-TooOld.ensures in
    let s = g.T.Store in
    let old_one : is_fault c.in-Err-TooOld.field-0 ≡ false = ap is_fault c.in-Err-TooOld.field-0-is in
    let logs = subst (λ (f : CrFault). Logs s c.args.store.now c.next_row.new.store e.logs.0 (not (is_fault f))) c.in-Err-TooOld.field-0-is e.logs.1 in
    in_step_young s c.args.memory.now (record { sessions = c.memory.inside.sessions; waits = c.memory.inside.waits; scn = c.memory.inside.scn; stopped = c.memory.inside.stopped; copies = c.next_row.new.copies; dead = c.memory.inside.dead }) c.args.store.now c.next_row.new.store c.requires.step logs.same_shape (ap (λ (k : Kept). k.dead) c.memory.view_is)
    (ap (λ (k : Kept). k.sessions) c.memory.view_is) (ap (λ (k : Kept). k.waits) c.memory.view_is) (λ going. (logs.failed, e.young old_one, sym (ap (λ (k : Kept). k.stopped) c.memory.view_is) ∙ going))

-- What it cleaned.
pub returns-in-Ok-Row-clause-cleans : goal.returns-in-Ok-Row-clause-cleans
returns-in-Ok-Row-clause-cleans g c = λ h st looked.
    let s = g.T.Store in
    let kept = c.args.memory.now in
    let name = name_text c.args.name.now in
    let e = c.in_ok-check_session.ensures in
    let table_is : c.memory.inside.sessions ≡ kept.sessions = ap (λ (k : Kept). k.sessions) c.memory.view_is in
    let is_named = ap (λ (l : List KeptSession). named name (kept_at l c.args.s).cursors) (sym table_is) ∙ (c.cursor_at-cursor.ensures (name_text c.args.name.now) c.in-Some.ensures.1) in
    cleans_read g.T.Store (laws_of g) h (record { memory = kept; store = c.args.store.now }) st (sym st.knows.stopped ∙ e.going) c.args.s e.session name (e.granted h st.knows) c.cursor_at-cursor.result is_named
    (false ≡ false) c.next_row.new.store (Ok c.in-Ok-Row.field-0) (λ fine. (c.in-Ok-Row.field-0, refl)) (λ xids serves copies. c.in-Ok-Row.ensures.cleans st.told h xids serves (subst (λ (k : Kept). CopiesStand h xids (s.blocks c.args.store.now) k.copies.kept) (sym c.memory.view_is) copies))

pub returns-in-Ok-End-clause-cleans : goal.returns-in-Ok-End-clause-cleans
returns-in-Ok-End-clause-cleans g c = λ h st looked.
    let s = g.T.Store in
    let kept = c.args.memory.now in
    let name = name_text c.args.name.now in
    let e = c.in_ok-check_session.ensures in
    let table_is : c.memory.inside.sessions ≡ kept.sessions = ap (λ (k : Kept). k.sessions) c.memory.view_is in
    let is_named = ap (λ (l : List KeptSession). named name (kept_at l c.args.s).cursors) (sym table_is) ∙ (c.cursor_at-cursor.ensures (name_text c.args.name.now) c.in-Some.ensures.1) in
    cleans_read g.T.Store (laws_of g) h (record { memory = kept; store = c.args.store.now }) st (sym st.knows.stopped ∙ e.going) c.args.s e.session name (e.granted h st.knows) c.cursor_at-cursor.result is_named
    (false ≡ false) c.next_row.new.store (Ok c.in-Ok-End.field-0) (λ fine. (c.in-Ok-End.field-0, refl)) (λ xids serves copies. c.in-Ok-End.ensures.cleans st.told h xids serves (subst (λ (k : Kept). CopiesStand h xids (s.blocks c.args.store.now) k.copies.kept) (sym c.memory.view_is) copies))

pub returns-in-Err-TooOld-clause-cleans : goal.returns-in-Err-TooOld-clause-cleans
returns-in-Err-TooOld-clause-cleans g c = λ h st looked.
    let s = g.T.Store in
    let kept = c.args.memory.now in
    let name = name_text c.args.name.now in
    let m = c.cursor_at-cursor.result in
    let e = c.in_ok-check_session.ensures in
    let table_is : c.memory.inside.sessions ≡ kept.sessions = ap (λ (k : Kept). k.sessions) c.memory.view_is in
    let is_named = ap (λ (l : List KeptSession). named name (kept_at l c.args.s).cursors) (sym table_is) ∙ (c.cursor_at-cursor.ensures (name_text c.args.name.now) c.in-Some.ensures.1) in
    cleans_read s (laws_of g) h (record { memory = kept; store = c.args.store.now }) st (sym st.knows.stopped ∙ e.going) c.args.s e.session name (e.granted h st.knows) m is_named
    (true ≡ false) c.next_row.new.store (Err c.in-Err-TooOld.field-0) (λ clash. (let clash2 : true ≡ false = clash in absurd cc))
    (λ xids serves copies. by_fault s h xids (ReadIn h xids (s.blocks c.args.store.now) m) h.shape.blocks c.args.store.now c.next_row.new.store true c.in-Err-TooOld.field-0 (faults.TooOld c.in-Err-TooOld.scn c.in-Err-TooOld.lost) c.in-Err-TooOld.field-0-is refl (c.in-Err-TooOld.ensures.cleans st.told h xids serves (subst (λ (k : Kept). CopiesStand h xids (s.blocks c.args.store.now) k.copies.kept) (sym c.memory.view_is) copies)))

-- And so what it makes of the blocks.
pub returns-in_err-check_session-clause-makes : goal.returns-in_err-check_session-clause-makes
returns-in_err-check_session-clause-makes g c =
    let p = err_from_is_err_and c.from_residual.result c.from_residual.ensures.1 in
    rw (p.1, p.2) (λ h st fine.
    let s = g.T.Store in
    let store = c.args.store.now in
    makes_refused h (machine.Fetch c.args.s (name_text c.args.name.now)) (s.lsn store) (s.blocks store) (s.blocks store) refl c.in_err-check_session.field-0.0
    (λ scn lost is. absurd (not_old h c.args.s c.in_err-check_session.field-0.0 scn lost (c.in_err-check_session.ensures.refused h st.knows) is)))

pub returns-in-Ok-Row-clause-makes : goal.returns-in-Ok-Row-clause-makes
returns-in-Ok-Row-clause-makes g c = λ h st fine.
    let s = g.T.Store in
    let kept = c.args.memory.now in
    let name = name_text c.args.name.now in
    let e = c.in_ok-check_session.ensures in
    let table_is : c.memory.inside.sessions ≡ kept.sessions = ap (λ (k : Kept). k.sessions) c.memory.view_is in
    let is_named = ap (λ (l : List KeptSession). named name (kept_at l c.args.s).cursors) (sym table_is) ∙ (c.cursor_at-cursor.ensures (name_text c.args.name.now) c.in-Some.ensures.1) in
    read_by s (laws_of g) h (record { memory = kept; store = c.args.store.now }) st (sym st.knows.stopped ∙ e.going) c.args.s e.session name (e.granted h st.knows) c.cursor_at-cursor.result is_named
    (Unit {0}) c.next_row.new.store (Ok c.in-Ok-Row.field-0) (λ well. (c.in-Ok-Row.field-0, refl)) (λ xids serves copies. c.in-Ok-Row.ensures.cleans st.told h xids serves (subst (λ (k : Kept). CopiesStand h xids (s.blocks c.args.store.now) k.copies.kept) (sym c.memory.view_is) copies))

pub returns-in-Ok-End-clause-makes : goal.returns-in-Ok-End-clause-makes
returns-in-Ok-End-clause-makes g c = λ h st fine.
    let s = g.T.Store in
    let kept = c.args.memory.now in
    let name = name_text c.args.name.now in
    let e = c.in_ok-check_session.ensures in
    let table_is : c.memory.inside.sessions ≡ kept.sessions = ap (λ (k : Kept). k.sessions) c.memory.view_is in
    let is_named = ap (λ (l : List KeptSession). named name (kept_at l c.args.s).cursors) (sym table_is) ∙ (c.cursor_at-cursor.ensures (name_text c.args.name.now) c.in-Some.ensures.1) in
    read_by s (laws_of g) h (record { memory = kept; store = c.args.store.now }) st (sym st.knows.stopped ∙ e.going) c.args.s e.session name (e.granted h st.knows) c.cursor_at-cursor.result is_named
    (Unit {0}) c.next_row.new.store (Ok c.in-Ok-End.field-0) (λ well. (c.in-Ok-End.field-0, refl)) (λ xids serves copies. c.in-Ok-End.ensures.cleans st.told h xids serves (subst (λ (k : Kept). CopiesStand h xids (s.blocks c.args.store.now) k.copies.kept) (sym c.memory.view_is) copies))

pub returns-in-Err-TooOld-clause-makes : goal.returns-in-Err-TooOld-clause-makes
returns-in-Err-TooOld-clause-makes g c = λ h st fine.
    let s = g.T.Store in
    let kept = c.args.memory.now in
    let name = name_text c.args.name.now in
    let e = c.in_ok-check_session.ensures in
    let table_is : c.memory.inside.sessions ≡ kept.sessions = ap (λ (k : Kept). k.sessions) c.memory.view_is in
    let is_named = ap (λ (l : List KeptSession). named name (kept_at l c.args.s).cursors) (sym table_is) ∙ (c.cursor_at-cursor.ensures (name_text c.args.name.now) c.in-Some.ensures.1) in
    let m = c.cursor_at-cursor.result in
    read_by s (laws_of g) h (record { memory = kept; store = c.args.store.now }) st (sym st.knows.stopped ∙ e.going) c.args.s e.session name (e.granted h st.knows) m is_named
    ⊥ c.next_row.new.store (Err c.in-Err-TooOld.field-0) (λ clash. absurd clash)
    (λ xids serves copies. by_fault s h xids (ReadIn h xids (s.blocks c.args.store.now) m) h.shape.blocks c.args.store.now c.next_row.new.store true c.in-Err-TooOld.field-0 (faults.TooOld c.in-Err-TooOld.scn c.in-Err-TooOld.lost) c.in-Err-TooOld.field-0-is refl (c.in-Err-TooOld.ensures.cleans st.told h xids serves (subst (λ (k : Kept). CopiesStand h xids (s.blocks c.args.store.now) k.copies.kept) (sym c.memory.view_is) copies)))

pub returns-in_err-check_session-clause-holds_back : goal.returns-in_err-check_session-clause-holds_back
returns-in_err-check_session-clause-holds_back g c =
    let p = err_from_is_err_and c.from_residual.result c.from_residual.ensures.1 in
    rw (p.1, p.2) (λ fine. g.met.T.Store.holds_back_same c.args.store.now)

pub returns-in_default-clause-holds_back : goal.returns-in_default-clause-holds_back
returns-in_default-clause-holds_back g c = λ fine. g.met.T.Store.holds_back_same c.args.store.now

pub returns-in-Ok-Row-clause-holds_back : goal.returns-in-Ok-Row-clause-holds_back
returns-in-Ok-Row-clause-holds_back g c = λ fine. c.in-Ok-Row.ensures.logs.1.between refl (laws_of g)

pub returns-in-Ok-End-clause-holds_back : goal.returns-in-Ok-End-clause-holds_back
returns-in-Ok-End-clause-holds_back g c = λ fine. c.in-Ok-End.ensures.logs.1.between refl (laws_of g)

pub returns-in-Err-TooOld-clause-holds_back : goal.returns-in-Err-TooOld-clause-holds_back
returns-in-Err-TooOld-clause-holds_back g c = λ fine.
    let e = c.in-Err-TooOld.ensures in
    let s = g.T.Store in
    let logs = subst (λ (f : CrFault). Logs s c.args.store.now c.next_row.new.store e.logs.0 (not (is_fault f))) c.in-Err-TooOld.field-0-is e.logs.1 in
    logs.between refl (laws_of g)

pub returns-in-Err-Failed-clause-holds_back : goal.returns-in-Err-Failed-clause-holds_back
returns-in-Err-Failed-clause-holds_back g c = rw c.fail.ensures.answer (λ fine. (let clash : true ≡ false = fine in absurd cc))
