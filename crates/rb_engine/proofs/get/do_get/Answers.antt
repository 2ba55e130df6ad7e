use Rattle.std.proofs.Common.{◌≡◌, ◌≤◌, ◌%◌, ◌&&◌, nat_le, ℕ, true, false, not, [], Some, refl, sym, ◌∙◌, ap, subst}
use Rattle.std.proofs.lemmas.Bool.{and_from, le-leb}
use Rattle.std.proofs.lemmas.Result.{err_from_is_err_and}
use Rattle.rb_base.specs.Logs.{Laws, Logs}
use Rattle.rb_base.specs.declared.shape.Shape.{Shape}
use Rattle.rb_cr.specs.Faults.{is_fault}
use Rattle.rb_cr.specs.declared.faults.CrFault.{CrFault}
use Rattle.rb_cr.specs.declared.faults.CrFault.TheVariants as faults
use Rattle.rb_engine.specs.Cleaning.{Cleans, HasCleaned, IsHere}
use Rattle.rb_engine.specs.Does.{EngineView, Kept, with_copies}
use Rattle.rb_engine.specs.Scanning.{IsBehind}
use Rattle.rb_engine.proofs.CopyLemmas.{knows_copies}
use Rattle.rb_engine.proofs.DoesLemmas.{does_fault_known, does_refused, knows_stop}
use Rattle.rb_engine.proofs.FetchLemmas.{same_old}
use Rattle.rb_engine.proofs.GetLemmas.{does_absent, does_old, does_row, key_read, needs_lost, opened_at, serves}
use Rattle.rb_engine.proofs.StepLemmas.{in_step_young}
use Rattle.rb_engine.proofs.MakesLemmas.{makes_refused}
use Rattle.law_copies.specs.Copies.{CopiesStand}
use Rattle.law_sessions.specs.Laws.{cursor_opened}
use Rattle.rb_model.specs.Calls as machine
use Rattle.rb_model.specs.State.{State, is_table}
use Rattle.rb_model.specs.declared.refusal.Refusal.TheVariants.{TooOld}
use Rattle.rb_sessions.specs.Kept.{kept_at}
use Rattle.rb_engine.proofs.get.do_get.Given.{Over}
use Rattle.rb_engine.proofs.get.do_get.Goals as goal

laws_of : (g : Over) → Laws g.T.Store
laws_of g = record {
  stable_left = λ store b n i keeps stable here. g.met.T.Store.stable_left store b n i keeps stable here;
  stable_numbered = λ store b n keeps stable. g.met.T.Store.stable_numbered store b n keeps stable;
  stable_patched = λ store b n keeps stable. g.met.T.Store.stable_patched store b n keeps stable;
  now_counts = λ store t i keeps le here. g.met.T.Store.now_counts store t i keeps le here;
  only_now = λ store i keeps here. g.met.T.Store.only_now store i keeps here;
  holds_back_same = λ store. g.met.T.Store.holds_back_same store;
  holds_back_joined = λ a b c first second. g.met.T.Store.holds_back_joined a b c first second;
}

-- the table is one that there is, also as the machine tests it
in_tables : (h : State) (shape : Shape) (table : ℕ) → shape ≡ h.shape → (1 ≤ table) × (table ≤ shape.tables) → is_table h table ≡ true
in_tables h shape table same there = subst (λ (z : Shape). nat_le 1 table && nat_le table z.tables ≡ true) same (and_from (nat_le 1 table) (nat_le table shape.tables) (le-leb 1 table there.0) (le-leb table shape.tables there.1))

pub returns-in_err-check_table-clause-did : goal.returns-in_err-check_table-clause-did
returns-in_err-check_table-clause-did g c =
    let p = err_from_is_err_and c.from_residual.result c.from_residual.ensures.1 in
    rw (p.1, p.2) (λ h st.
    does_refused g.T.Store (laws_of g) h (machine.Get c.args.s c.args.table c.args.key) c.in_err-check_table.field-0.0 (record { memory = c.args.memory.now; store = c.args.store.now }) st c.requires.step.going
    (c.in_err-check_table.ensures.refused h [] c.args.key c.args.key st.knows (c.shape-shape.ensures.shape ∙ st.shape)) c.in_err-check_table.ensures.other)

pub returns-in-Ok-true-clause-did : goal.returns-in-Ok-true-clause-did
returns-in-Ok-true-clause-did g c = λ h st.
    let s = g.T.Store in
    let kept = c.args.memory.now in
    let e = c.in_ok-check_table.ensures in
    let old : EngineView _ = record { memory = kept; store = c.args.store.now } in
    let going : h.stopped ≡ false = sym st.knows.stopped ∙ e.going in
    let goes = st.goes going in
    let shape_is : c.shape-shape.result ≡ h.shape = c.shape-shape.ensures.shape ∙ st.shape in
    let there = in_tables h c.shape-shape.result c.args.table shape_is e.table in
    let early = e.granted h [] c.args.key c.args.key st.knows shape_is in
    let m = c.cursor_over-cursor.result in
    let m_is : m ≡ cursor_opened h (kept_at kept.sessions c.args.s) c.args.table c.args.key c.args.key = c.cursor_over-cursor.ensures ∙ opened_at h kept c.args.s c.args.table c.args.key c.args.key st.knows.scn in
    let home = c.home_of-home.result in
    let home_is : home ≡ c.args.key % h.shape.blocks = c.home_of-home.ensures.home ∙ ap (λ (z : Shape). c.args.key % z.blocks) shape_is in
    let served = serves s h old st going c.args.s e.session c.args.table c.args.key there early m m_is home home_is in
    let copies = subst (λ (k : Kept). CopiesStand h goes.xids (s.blocks c.args.store.now) k.copies.kept) (sym c.memory.view_is) goes.copies in
    let now : Kept = record { sessions = c.memory.inside.sessions; waits = c.memory.inside.waits; scn = c.memory.inside.scn; stopped = c.memory.inside.stopped; copies = c.next_in.new.copies; dead = c.memory.inside.dead } in
    let new : EngineView _ = record { memory = now; store = c.next_in.new.store } in
    let a = c.in-Ok-true.ensures in
    let clean : HasCleaned s h goes.xids (IsHere h.shape m home) (IsHere h.shape m home) 1 c.args.store.now c.next_in.new.store = a.cleans st.told h goes.xids served in
    does_row s h old st going c.args.s e.session c.args.table c.args.key there early m m_is home home_is new (record { shape = a.logs.1.same_shape; slots = a.logs.1.same_slots }) clean (a.copies st.told h goes.xids served copies refl) (ap (with_copies c.next_in.new.copies) c.memory.view_is) c.next_in.new.row
    ((a.told st.told h goes.xids served copies).0 c.in-Ok-true.field-0-test)

pub returns-in-Ok-true-clause-makes : goal.returns-in-Ok-true-clause-makes
returns-in-Ok-true-clause-makes g c = λ h st fine.
    let s = g.T.Store in
    let kept = c.args.memory.now in
    let e = c.in_ok-check_table.ensures in
    let old : EngineView _ = record { memory = kept; store = c.args.store.now } in
    let going : h.stopped ≡ false = sym st.knows.stopped ∙ e.going in
    let goes = st.goes going in
    let shape_is : c.shape-shape.result ≡ h.shape = c.shape-shape.ensures.shape ∙ st.shape in
    let there = in_tables h c.shape-shape.result c.args.table shape_is e.table in
    let early = e.granted h [] c.args.key c.args.key st.knows shape_is in
    let m = c.cursor_over-cursor.result in
    let m_is : m ≡ cursor_opened h (kept_at kept.sessions c.args.s) c.args.table c.args.key c.args.key = c.cursor_over-cursor.ensures ∙ opened_at h kept c.args.s c.args.table c.args.key c.args.key st.knows.scn in
    let home = c.home_of-home.result in
    let home_is : home ≡ c.args.key % h.shape.blocks = c.home_of-home.ensures.home ∙ ap (λ (z : Shape). c.args.key % z.blocks) shape_is in
    let served = serves s h old st going c.args.s e.session c.args.table c.args.key there early m m_is home home_is in
    let copies = subst (λ (k : Kept). CopiesStand h goes.xids (s.blocks c.args.store.now) k.copies.kept) (sym c.memory.view_is) goes.copies in
    let now : Kept = record { sessions = c.memory.inside.sessions; waits = c.memory.inside.waits; scn = c.memory.inside.scn; stopped = c.memory.inside.stopped; copies = c.next_in.new.copies; dead = c.memory.inside.dead } in
    let new : EngineView _ = record { memory = now; store = c.next_in.new.store } in
    let a = c.in-Ok-true.ensures in
    let clean : HasCleaned s h goes.xids (IsHere h.shape m home) (IsHere h.shape m home) 1 c.args.store.now c.next_in.new.store = a.cleans st.told h goes.xids served in
    key_read s h old st going c.args.s e.session c.args.table c.args.key there early m m_is home home_is c.next_in.new.store clean (Unit {0})

pub returns-in-Ok-true-clause-step : goal.returns-in-Ok-true-clause-step
returns-in-Ok-true-clause-step g c =
    let a = c.in-Ok-true.ensures in
    in_step_young g.T.Store c.args.memory.now (record { sessions = c.memory.inside.sessions; waits = c.memory.inside.waits; scn = c.memory.inside.scn; stopped = c.memory.inside.stopped; copies = c.next_in.new.copies; dead = c.memory.inside.dead }) c.args.store.now c.next_in.new.store c.requires.step a.logs.1.same_shape (ap (λ (k : Kept). k.dead) c.memory.view_is)
    (ap (λ (k : Kept). k.sessions) c.memory.view_is) (ap (λ (k : Kept). k.waits) c.memory.view_is) (λ going. (a.logs.1.failed, a.young refl, sym (ap (λ (k : Kept). k.stopped) c.memory.view_is) ∙ going))

pub returns-in-Ok-true-clause-holds_back : goal.returns-in-Ok-true-clause-holds_back
returns-in-Ok-true-clause-holds_back g c = λ fine. c.in-Ok-true.ensures.logs.1.between refl (laws_of g)

pub returns-in-Ok-false-clause-did : goal.returns-in-Ok-false-clause-did
returns-in-Ok-false-clause-did g c = λ h st.
    let s = g.T.Store in
    let kept = c.args.memory.now in
    let e = c.in_ok-check_table.ensures in
    let old : EngineView _ = record { memory = kept; store = c.args.store.now } in
    let going : h.stopped ≡ false = sym st.knows.stopped ∙ e.going in
    let goes = st.goes going in
    let shape_is : c.shape-shape.result ≡ h.shape = c.shape-shape.ensures.shape ∙ st.shape in
    let there = in_tables h c.shape-shape.result c.args.table shape_is e.table in
    let early = e.granted h [] c.args.key c.args.key st.knows shape_is in
    let m = c.cursor_over-cursor.result in
    let m_is : m ≡ cursor_opened h (kept_at kept.sessions c.args.s) c.args.table c.args.key c.args.key = c.cursor_over-cursor.ensures ∙ opened_at h kept c.args.s c.args.table c.args.key c.args.key st.knows.scn in
    let home = c.home_of-home.result in
    let home_is : home ≡ c.args.key % h.shape.blocks = c.home_of-home.ensures.home ∙ ap (λ (z : Shape). c.args.key % z.blocks) shape_is in
    let served = serves s h old st going c.args.s e.session c.args.table c.args.key there early m m_is home home_is in
    let copies = subst (λ (k : Kept). CopiesStand h goes.xids (s.blocks c.args.store.now) k.copies.kept) (sym c.memory.view_is) goes.copies in
    let now : Kept = record { sessions = c.memory.inside.sessions; waits = c.memory.inside.waits; scn = c.memory.inside.scn; stopped = c.memory.inside.stopped; copies = c.next_in.new.copies; dead = c.memory.inside.dead } in
    let new : EngineView _ = record { memory = now; store = c.next_in.new.store } in
    let a = c.in-Ok-false.ensures in
    let clean : HasCleaned s h goes.xids (IsHere h.shape m home) (IsHere h.shape m home) 1 c.args.store.now c.next_in.new.store = a.cleans st.told h goes.xids served in
    does_absent s h old st going c.args.s e.session c.args.table c.args.key there early m m_is home home_is new (record { shape = a.logs.1.same_shape; slots = a.logs.1.same_slots }) clean (a.copies st.told h goes.xids served copies refl) (ap (with_copies c.next_in.new.copies) c.memory.view_is)
    ((a.told st.told h goes.xids served copies).1 c.in-Ok-false.field-0-test)

pub returns-in-Ok-false-clause-makes : goal.returns-in-Ok-false-clause-makes
returns-in-Ok-false-clause-makes g c = λ h st fine.
    let s = g.T.Store in
    let kept = c.args.memory.now in
    let e = c.in_ok-check_table.ensures in
    let old : EngineView _ = record { memory = kept; store = c.args.store.now } in
    let going : h.stopped ≡ false = sym st.knows.stopped ∙ e.going in
    let goes = st.goes going in
    let shape_is : c.shape-shape.result ≡ h.shape = c.shape-shape.ensures.shape ∙ st.shape in
    let there = in_tables h c.shape-shape.result c.args.table shape_is e.table in
    let early = e.granted h [] c.args.key c.args.key st.knows shape_is in
    let m = c.cursor_over-cursor.result in
    let m_is : m ≡ cursor_opened h (kept_at kept.sessions c.args.s) c.args.table c.args.key c.args.key = c.cursor_over-cursor.ensures ∙ opened_at h kept c.args.s c.args.table c.args.key c.args.key st.knows.scn in
    let home = c.home_of-home.result in
    let home_is : home ≡ c.args.key % h.shape.blocks = c.home_of-home.ensures.home ∙ ap (λ (z : Shape). c.args.key % z.blocks) shape_is in
    let served = serves s h old st going c.args.s e.session c.args.table c.args.key there early m m_is home home_is in
    let copies = subst (λ (k : Kept). CopiesStand h goes.xids (s.blocks c.args.store.now) k.copies.kept) (sym c.memory.view_is) goes.copies in
    let now : Kept = record { sessions = c.memory.inside.sessions; waits = c.memory.inside.waits; scn = c.memory.inside.scn; stopped = c.memory.inside.stopped; copies = c.next_in.new.copies; dead = c.memory.inside.dead } in
    let new : EngineView _ = record { memory = now; store = c.next_in.new.store } in
    let a = c.in-Ok-false.ensures in
    let clean : HasCleaned s h goes.xids (IsHere h.shape m home) (IsHere h.shape m home) 1 c.args.store.now c.next_in.new.store = a.cleans st.told h goes.xids served in
    key_read s h old st going c.args.s e.session c.args.table c.args.key there early m m_is home home_is c.next_in.new.store clean (Unit {0})

pub returns-in-Ok-false-clause-step : goal.returns-in-Ok-false-clause-step
returns-in-Ok-false-clause-step g c =
    let a = c.in-Ok-false.ensures in
    in_step_young g.T.Store c.args.memory.now (record { sessions = c.memory.inside.sessions; waits = c.memory.inside.waits; scn = c.memory.inside.scn; stopped = c.memory.inside.stopped; copies = c.next_in.new.copies; dead = c.memory.inside.dead }) c.args.store.now c.next_in.new.store c.requires.step a.logs.1.same_shape (ap (λ (k : Kept). k.dead) c.memory.view_is)
    (ap (λ (k : Kept). k.sessions) c.memory.view_is) (ap (λ (k : Kept). k.waits) c.memory.view_is) (λ going. (a.logs.1.failed, a.young refl, sym (ap (λ (k : Kept). k.stopped) c.memory.view_is) ∙ going))

pub returns-in-Ok-false-clause-holds_back : goal.returns-in-Ok-false-clause-holds_back
returns-in-Ok-false-clause-holds_back g c = λ fine. c.in-Ok-false.ensures.logs.1.between refl (laws_of g)

pub returns-in-Err-TooOld-clause-did : goal.returns-in-Err-TooOld-clause-did
returns-in-Err-TooOld-clause-did g c = λ h st.
    let s = g.T.Store in
    let kept = c.args.memory.now in
    let e = c.in_ok-check_table.ensures in
    let old : EngineView _ = record { memory = kept; store = c.args.store.now } in
    let going : h.stopped ≡ false = sym st.knows.stopped ∙ e.going in
    let goes = st.goes going in
    let shape_is : c.shape-shape.result ≡ h.shape = c.shape-shape.ensures.shape ∙ st.shape in
    let there = in_tables h c.shape-shape.result c.args.table shape_is e.table in
    let early = e.granted h [] c.args.key c.args.key st.knows shape_is in
    let m = c.cursor_over-cursor.result in
    let m_is : m ≡ cursor_opened h (kept_at kept.sessions c.args.s) c.args.table c.args.key c.args.key = c.cursor_over-cursor.ensures ∙ opened_at h kept c.args.s c.args.table c.args.key c.args.key st.knows.scn in
    let home = c.home_of-home.result in
    let home_is : home ≡ c.args.key % h.shape.blocks = c.home_of-home.ensures.home ∙ ap (λ (z : Shape). c.args.key % z.blocks) shape_is in
    let served = serves s h old st going c.args.s e.session c.args.table c.args.key there early m m_is home home_is in
    let copies = subst (λ (k : Kept). CopiesStand h goes.xids (s.blocks c.args.store.now) k.copies.kept) (sym c.memory.view_is) goes.copies in
    let now : Kept = record { sessions = c.memory.inside.sessions; waits = c.memory.inside.waits; scn = c.memory.inside.scn; stopped = c.memory.inside.stopped; copies = c.next_in.new.copies; dead = c.memory.inside.dead } in
    let new : EngineView _ = record { memory = now; store = c.next_in.new.store } in
    let logs = subst (λ (f : CrFault). Logs s c.args.store.now c.next_in.new.store c.in-Err-TooOld.ensures.logs.0 (not (is_fault f))) c.in-Err-TooOld.field-0-is c.in-Err-TooOld.ensures.logs.1 in
    let behind : IsBehind h goes.xids (s.blocks c.args.store.now) m home (faults.TooOld c.in-Err-TooOld.scn c.in-Err-TooOld.lost) = subst (IsBehind h goes.xids (s.blocks c.args.store.now) m home) c.in-Err-TooOld.field-0-is (c.in-Err-TooOld.ensures.old st.told h goes.xids served copies).1 in
    let clean : HasCleaned s h goes.xids (IsHere h.shape m home) (IsHere h.shape m home) 1 c.args.store.now c.next_in.new.store = subst (λ (f : CrFault). Cleans s h goes.xids (IsHere h.shape m home) (IsHere h.shape m home) 1 c.args.store.now c.next_in.new.store (not (is_fault f))) c.in-Err-TooOld.field-0-is (c.in-Err-TooOld.ensures.cleans st.told h goes.xids served) in
    does_old s h old st going c.args.s e.session c.args.table c.args.key there early m m_is home home_is new (record { shape = logs.same_shape; slots = logs.same_slots }) clean (c.in-Err-TooOld.ensures.copies st.told h goes.xids served copies (ap is_fault c.in-Err-TooOld.field-0-is)) (ap (with_copies c.next_in.new.copies) c.memory.view_is)
    c.in-Err-TooOld.scn c.in-Err-TooOld.lost behind

pub returns-in-Err-TooOld-clause-makes : goal.returns-in-Err-TooOld-clause-makes
returns-in-Err-TooOld-clause-makes g c = λ h st fine.
    let s = g.T.Store in
    let kept = c.args.memory.now in
    let e = c.in_ok-check_table.ensures in
    let old : EngineView _ = record { memory = kept; store = c.args.store.now } in
    let going : h.stopped ≡ false = sym st.knows.stopped ∙ e.going in
    let goes = st.goes going in
    let shape_is : c.shape-shape.result ≡ h.shape = c.shape-shape.ensures.shape ∙ st.shape in
    let there = in_tables h c.shape-shape.result c.args.table shape_is e.table in
    let early = e.granted h [] c.args.key c.args.key st.knows shape_is in
    let m = c.cursor_over-cursor.result in
    let m_is : m ≡ cursor_opened h (kept_at kept.sessions c.args.s) c.args.table c.args.key c.args.key = c.cursor_over-cursor.ensures ∙ opened_at h kept c.args.s c.args.table c.args.key c.args.key st.knows.scn in
    let home = c.home_of-home.result in
    let home_is : home ≡ c.args.key % h.shape.blocks = c.home_of-home.ensures.home ∙ ap (λ (z : Shape). c.args.key % z.blocks) shape_is in
    let served = serves s h old st going c.args.s e.session c.args.table c.args.key there early m m_is home home_is in
    let copies = subst (λ (k : Kept). CopiesStand h goes.xids (s.blocks c.args.store.now) k.copies.kept) (sym c.memory.view_is) goes.copies in
    let now : Kept = record { sessions = c.memory.inside.sessions; waits = c.memory.inside.waits; scn = c.memory.inside.scn; stopped = c.memory.inside.stopped; copies = c.next_in.new.copies; dead = c.memory.inside.dead } in
    let new : EngineView _ = record { memory = now; store = c.next_in.new.store } in
    let clean : HasCleaned s h goes.xids (IsHere h.shape m home) (IsHere h.shape m home) 1 c.args.store.now c.next_in.new.store = subst (λ (f : CrFault). Cleans s h goes.xids (IsHere h.shape m home) (IsHere h.shape m home) 1 c.args.store.now c.next_in.new.store (not (is_fault f))) c.in-Err-TooOld.field-0-is (c.in-Err-TooOld.ensures.cleans st.told h goes.xids served) in
    key_read s h old st going c.args.s e.session c.args.table c.args.key there early m m_is home home_is c.next_in.new.store clean ⊥

pub returns-in-Err-TooOld-clause-lost : goal.returns-in-Err-TooOld-clause-lost
returns-in-Err-TooOld-clause-lost g c = λ h st scn lost same.
    let s = g.T.Store in
    let kept = c.args.memory.now in
    let e = c.in_ok-check_table.ensures in
    let old : EngineView _ = record { memory = kept; store = c.args.store.now } in
    let going : h.stopped ≡ false = sym st.knows.stopped ∙ e.going in
    let goes = st.goes going in
    let shape_is : c.shape-shape.result ≡ h.shape = c.shape-shape.ensures.shape ∙ st.shape in
    let there = in_tables h c.shape-shape.result c.args.table shape_is e.table in
    let early = e.granted h [] c.args.key c.args.key st.knows shape_is in
    let m = c.cursor_over-cursor.result in
    let m_is : m ≡ cursor_opened h (kept_at kept.sessions c.args.s) c.args.table c.args.key c.args.key = c.cursor_over-cursor.ensures ∙ opened_at h kept c.args.s c.args.table c.args.key c.args.key st.knows.scn in
    let home = c.home_of-home.result in
    let home_is : home ≡ c.args.key % h.shape.blocks = c.home_of-home.ensures.home ∙ ap (λ (z : Shape). c.args.key % z.blocks) shape_is in
    let served = serves s h old st going c.args.s e.session c.args.table c.args.key there early m m_is home home_is in
    let copies = subst (λ (k : Kept). CopiesStand h goes.xids (s.blocks c.args.store.now) k.copies.kept) (sym c.memory.view_is) goes.copies in
    let now : Kept = record { sessions = c.memory.inside.sessions; waits = c.memory.inside.waits; scn = c.memory.inside.scn; stopped = c.memory.inside.stopped; copies = c.next_in.new.copies; dead = c.memory.inside.dead } in
    let new : EngineView _ = record { memory = now; store = c.next_in.new.store } in
    let behind : IsBehind h goes.xids (s.blocks c.args.store.now) m home (faults.TooOld c.in-Err-TooOld.scn c.in-Err-TooOld.lost) = subst (IsBehind h goes.xids (s.blocks c.args.store.now) m home) c.in-Err-TooOld.field-0-is (c.in-Err-TooOld.ensures.old st.told h goes.xids served copies).1 in
    let numbers = same_old c.in-Err-TooOld.scn c.in-Err-TooOld.lost scn lost same in
    needs_lost s h old st going c.args.s e.session c.args.table c.args.key there early m m_is home home_is scn lost (rw (sym numbers.0, sym numbers.1) behind)

pub returns-in-Err-TooOld-clause-step : goal.returns-in-Err-TooOld-clause-step
returns-in-Err-TooOld-clause-step g c =
    let s = g.T.Store in
    let a = c.in-Err-TooOld.ensures in
    let old_one : is_fault c.in-Err-TooOld.field-0 ≡ false = ap is_fault c.in-Err-TooOld.field-0-is in
    let logs = subst (λ (f : CrFault). Logs s c.args.store.now c.next_in.new.store c.in-Err-TooOld.ensures.logs.0 (not (is_fault f))) c.in-Err-TooOld.field-0-is c.in-Err-TooOld.ensures.logs.1 in
    in_step_young s c.args.memory.now (record { sessions = c.memory.inside.sessions; waits = c.memory.inside.waits; scn = c.memory.inside.scn; stopped = c.memory.inside.stopped; copies = c.next_in.new.copies; dead = c.memory.inside.dead }) c.args.store.now c.next_in.new.store c.requires.step logs.same_shape (ap (λ (k : Kept). k.dead) c.memory.view_is)
    (ap (λ (k : Kept). k.sessions) c.memory.view_is) (ap (λ (k : Kept). k.waits) c.memory.view_is) (λ going. (logs.failed, a.young old_one, sym (ap (λ (k : Kept). k.stopped) c.memory.view_is) ∙ going))

pub returns-in-Err-TooOld-clause-holds_back : goal.returns-in-Err-TooOld-clause-holds_back
returns-in-Err-TooOld-clause-holds_back g c = λ fine.
    let s = g.T.Store in
    let logs = subst (λ (f : CrFault). Logs s c.args.store.now c.next_in.new.store c.in-Err-TooOld.ensures.logs.0 (not (is_fault f))) c.in-Err-TooOld.field-0-is c.in-Err-TooOld.ensures.logs.1 in
    logs.between refl (laws_of g)

pub returns-in-Err-Failed-clause-did : goal.returns-in-Err-Failed-clause-did
returns-in-Err-Failed-clause-did g c = rw c.fail.ensures.answer (λ h st.
    let s = g.T.Store in
    let kept = c.args.memory.now in
    let e = c.in_ok-check_table.ensures in
    let old : EngineView _ = record { memory = kept; store = c.args.store.now } in
    let going : h.stopped ≡ false = sym st.knows.stopped ∙ e.going in
    let goes = st.goes going in
    let shape_is : c.shape-shape.result ≡ h.shape = c.shape-shape.ensures.shape ∙ st.shape in
    let there = in_tables h c.shape-shape.result c.args.table shape_is e.table in
    let early = e.granted h [] c.args.key c.args.key st.knows shape_is in
    let m = c.cursor_over-cursor.result in
    let m_is : m ≡ cursor_opened h (kept_at kept.sessions c.args.s) c.args.table c.args.key c.args.key = c.cursor_over-cursor.ensures ∙ opened_at h kept c.args.s c.args.table c.args.key c.args.key st.knows.scn in
    let home = c.home_of-home.result in
    let home_is : home ≡ c.args.key % h.shape.blocks = c.home_of-home.ensures.home ∙ ap (λ (z : Shape). c.args.key % z.blocks) shape_is in
    let served = serves s h old st going c.args.s e.session c.args.table c.args.key there early m m_is home home_is in
    let copies = subst (λ (k : Kept). CopiesStand h goes.xids (s.blocks c.args.store.now) k.copies.kept) (sym c.memory.view_is) goes.copies in
    let now : Kept = record { sessions = c.memory.inside.sessions; waits = c.memory.inside.waits; scn = c.memory.inside.scn; stopped = c.memory.inside.stopped; copies = c.next_in.new.copies; dead = c.memory.inside.dead } in
    let new : EngineView _ = record { memory = now; store = c.next_in.new.store } in
    let logs = subst (λ (f : CrFault). Logs s c.args.store.now c.next_in.new.store c.in-Err-Failed.ensures.logs.0 (not (is_fault f))) c.in-Err-Failed.field-0-is c.in-Err-Failed.ensures.logs.1 in
    let kept_now = c.next_in.new.copies in
    let stops : c.fail.new.self ≡ record (with_copies kept_now kept) { stopped = true } = c.fail.ensures.stopped ∙ ap (λ (k : Kept). record (with_copies kept_now k) { stopped = true }) c.memory.view_is in
    does_fault_known s st.told (laws_of g) h (machine.Get c.args.s c.args.table c.args.key) old (record { memory = c.fail.new.self; store = c.next_in.new.store }) st early
    (knows_stop h (with_copies kept_now kept) c.fail.new.self (knows_copies h kept kept_now st.knows) stops)
    (record { shape = logs.same_shape; slots = logs.same_slots })
    (λ keeps. subst (λ (f : CrFault). Cleans s h goes.xids (IsHere h.shape m home) (IsHere h.shape m home) 1 c.args.store.now c.next_in.new.store (not (is_fault f))) c.in-Err-Failed.field-0-is (c.in-Err-Failed.ensures.cleans st.told h goes.xids served) (Some (machine.Get c.args.s c.args.table c.args.key)) keeps))

pub returns-in-Err-Failed-clause-holds_back : goal.returns-in-Err-Failed-clause-holds_back
returns-in-Err-Failed-clause-holds_back g c = rw c.fail.ensures.answer (λ fine. (let clash : true ≡ false = fine in absurd cc))

pub returns-in_err-check_table-clause-lost : goal.returns-in_err-check_table-clause-lost
returns-in_err-check_table-clause-lost g c =
    let p = err_from_is_err_and c.from_residual.result c.from_residual.ensures.1 in
    rw (p.1, p.2) (λ h st scn lost is. absurd (c.in_err-check_table.ensures.young scn lost (let same : c.in_err-check_table.field-0.0 ≡ TooOld scn lost = cc in same)))

pub returns-in_err-check_table-clause-makes : goal.returns-in_err-check_table-clause-makes
returns-in_err-check_table-clause-makes g c =
    let p = err_from_is_err_and c.from_residual.result c.from_residual.ensures.1 in
    rw (p.1, p.2) (λ h st fine.
    let s = g.T.Store in
    let store = c.args.store.now in
    makes_refused h (machine.Get c.args.s c.args.table c.args.key) (s.lsn store) (s.blocks store) (s.blocks store) refl c.in_err-check_table.field-0.0
    (λ scn lost is. absurd (c.in_err-check_table.ensures.young scn lost is)))

pub returns-in_err-check_table-clause-holds_back : goal.returns-in_err-check_table-clause-holds_back
returns-in_err-check_table-clause-holds_back g c =
    let p = err_from_is_err_and c.from_residual.result c.from_residual.ensures.1 in
    rw (p.1, p.2) (λ fine. g.met.T.Store.holds_back_same c.args.store.now)

pub returns-in-Err-Failed-clause-step : goal.returns-in-Err-Failed-clause-step
returns-in-Err-Failed-clause-step g c =
    in_step_young g.T.Store c.args.memory.now c.fail.new.self c.args.store.now c.next_in.new.store c.requires.step c.in-Err-Failed.ensures.logs.1.same_shape (ap (λ (k : Kept). k.dead) c.fail.ensures.stopped ∙ ap (λ (k : Kept). k.dead) c.memory.view_is)
    (ap (λ (k : Kept). k.sessions) c.fail.ensures.stopped ∙ ap (λ (k : Kept). k.sessions) c.memory.view_is) (ap (λ (k : Kept). k.waits) c.fail.ensures.stopped ∙ ap (λ (k : Kept). k.waits) c.memory.view_is)
    (λ going. (let clash : true ≡ false = sym (ap (λ (k : Kept). k.stopped) c.fail.ensures.stopped) ∙ going in absurd cc))
