use Rattle.std.proofs.Common.{◌≡◌, ◌≤◌, ◌<◌, ℕ, Bool, true, false, List, [], Some, Result, Err, Ok, inl, refl, sym, ◌∙◌, ap, subst, arith}
use Rattle.std.proofs.lemmas.Result.{err_from_is_err_and}
use Rattle.rb_base.specs.Logs.{Laws, Logs}
use Rattle.rb_base.specs.declared.shape.Shape.{Shape}
use Rattle.rb_engine.specs.Behind.{Behind, Led, LedOr, LessDead, Tried}
use Rattle.rb_engine.specs.Does.{EngineView, Kept, Stands}
use Rattle.rb_model.specs.Answers.{action_by, write_answer}
use Rattle.rb_model.specs.Calls as machine
use Rattle.rb_model.specs.Calls.{Refused, is_disk_fault}
use Rattle.rb_model.specs.Clearing.{Readies}
use Rattle.rb_model.specs.Dead.{dead_owed, segment_cleared}
use Rattle.rb_model.specs.State.{State}
use Rattle.rb_model.specs.declared.refusal.Refusal.{Refusal}
use Rattle.rb_model.specs.declared.refusal.Refusal.TheVariants.{DiskFault, RollbackFull}
use Rattle.rb_model.specs.declared.wrote.Wrote.{Wrote}
use Rattle.rb_engine.proofs.BehindLemmas.{behind_after, behind_plain, led_loaded, led_on}
use Rattle.rb_engine.proofs.DoesLemmas.{does_fault}
use Rattle.rb_engine.proofs.LateLemmas.{young_not_old}
use Rattle.rb_engine.proofs.TwiceLemmas.{calm_ready, cut_by, early_cleared, may_cleared, once_answers, second_ready, segment_in}
use Rattle.rb_engine.proofs.WriteLemmas.{stands_loaded}
use Rattle.rb_engine.proofs.write.write_with_room.Given.{Over}
use Rattle.rb_engine.proofs.write.write_with_room.Goals as goal
use Rattle.rb_engine.proofs.write.write_with_room.Goals.{then-memory-eq0-via-then-memory-eq0, then-memory-eq0-via-else-memory-eq0+then-seg-shape}

laws_of : (g : Over) → Laws g.T.Store
laws_of g = record {
  stable_left = λ store b n i keeps stable here. g.met.T.Store.stable_left store b n i keeps stable here;
  stable_numbered = λ store b n keeps stable. g.met.T.Store.stable_numbered store b n keeps stable;
  stable_patched = λ store b n keeps stable. g.met.T.Store.stable_patched store b n keeps stable;
  now_counts = λ store t i keeps le here. g.met.T.Store.now_counts store t i keeps le here;
  only_now = λ store i keeps here. g.met.T.Store.only_now store i keeps here;
  holds_back_same = λ store. g.met.T.Store.holds_back_same store;
  holds_back_joined = λ a b c first second. g.met.T.Store.holds_back_joined a b c first second;
}

-- IT ISN'T FULL: the first try is all.

pub returns-in-Ok-clause-did : goal.returns-in-Ok-clause-did
returns-in-Ok-clause-did g c = λ h st early may clear.
    let s = g.T.Store in
    let store = c.args.store.now in
    let action = action_by c.args.op in
    let call = machine.Write c.args.s c.args.table c.args.key action in
    let old : EngineView _ = record { memory = c.args.memory.now; store = store } in
    let mid : EngineView _ = record { memory = c.write_once.new.memory; store = c.write_once.new.store } in
    let on : h.stopped ≡ false = sym st.knows.stopped ∙ c.requires.going in
    let there = c.requires.session in
    once_answers s (laws_of g) h old st on c.args.s c.args.table c.args.key action there early clear mid (Ok c.in-Ok.wrote) (λ seg since is. cc) (c.in-Ok.ensures.did h st early may)

pub returns-in_default-clause-did : goal.returns-in_default-clause-did
returns-in_default-clause-did g c = λ h st early may clear.
    let s = g.T.Store in
    let store = c.args.store.now in
    let action = action_by c.args.op in
    let call = machine.Write c.args.s c.args.table c.args.key action in
    let old : EngineView _ = record { memory = c.args.memory.now; store = store } in
    let mid : EngineView _ = record { memory = c.write_once.new.memory; store = c.write_once.new.store } in
    let on : h.stopped ≡ false = sym st.knows.stopped ∙ c.requires.going in
    let there = c.requires.session in
    once_answers s (laws_of g) h old st on c.args.s c.args.table c.args.key action there early clear mid (Err c.in-Err.why)
    (λ seg since is. c.in_default.ensures.none refl seg since (let same : c.in-Err.why ≡ RollbackFull seg since = cc in same)) (c.in-Err.ensures.did h st early may)

-- NONE IS DEAD

pub returns-then-memory-eq0-clause-did : goal.returns-then-memory-eq0-clause-did
returns-then-memory-eq0-clause-did g c = λ h st early may clear.
    let s = g.T.Store in
    let store = c.args.store.now in
    let action = action_by c.args.op in
    let call = machine.Write c.args.s c.args.table c.args.key action in
    let old : EngineView _ = record { memory = c.args.memory.now; store = store } in
    let mid : EngineView _ = record { memory = c.write_once.new.memory; store = c.write_once.new.store } in
    let on : h.stopped ≡ false = sym st.knows.stopped ∙ c.requires.going in
    let there = c.requires.session in
    let seg = c.in-Some.seg in
    let since = c.in-Some.ensures.some.0 in
    let full : c.in-Err.why ≡ RollbackFull seg since = c.in-Some.ensures.some.1 in
    let tried : Tried s h c.args.s c.args.table c.args.key action (Err (RollbackFull seg since)) old mid = subst (λ (w : Refusal). Tried s h c.args.s c.args.table c.args.key action (Err w) old mid) full (c.in-Err.ensures.did h st early may) in
    let still = c.in-Err.ensures.stays (ap is_disk_fault full) in
    let cut = cut_by s (laws_of g) h old st on c.args.s c.args.table c.args.key action there early clear mid seg since tried in
    subst (λ (w : Refusal). Behind s (Readies c.args.s h (Refused w)) h call (Refused w) old mid) (sym full)
    (elim c.then-memory-eq0.branch [
      | then-memory-eq0-via-then-memory-eq0 w ↦
          let calm : dead_owed h ≡ 0 = sym (st.owes on) ∙ (ap (λ (k : Kept). k.dead) (sym still.0) ∙ (ap (λ (k : Kept). k.dead) (sym c.memory.view_is) ∙ w.if-memory-eq0.true)) in
          calm_ready s (laws_of g) h old st on c.args.s c.args.table c.args.key action there early clear calm mid seg since tried
      | then-memory-eq0-via-else-memory-eq0+then-seg-shape w ↦
          let within = segment_in s (laws_of g) h old st on c.args.s c.args.table c.args.key action there early clear seg cut.at in
          let shape = ap (λ (z : Shape). z.segments) (w.shape.ensures.shape ∙ (still.1.same_shape ∙ st.shape)) in
          let over = w.if-seg-shape.true in
          absurd (omega (arith, within, shape, over))
    ])

-- THE SEGMENT couldn't be cleared.

pub returns-in_err-free_segment-clause-did : goal.returns-in_err-free_segment-clause-did
returns-in_err-free_segment-clause-did g c =
    let p = err_from_is_err_and c.from_residual.result c.from_residual.ensures.1 in
    rw (p.1, p.2, c.in_err-free_segment.ensures.fault) (λ h st early may clear.
    let s = g.T.Store in
    let store = c.args.store.now in
    let action = action_by c.args.op in
    let call = machine.Write c.args.s c.args.table c.args.key action in
    let old : EngineView _ = record { memory = c.args.memory.now; store = store } in
    let mid : EngineView _ = record { memory = c.write_once.new.memory; store = c.write_once.new.store } in
    let on : h.stopped ≡ false = sym st.knows.stopped ∙ c.requires.going in
    let there = c.requires.session in
    let seg = c.in-Some.seg in
    let since = c.in-Some.ensures.some.0 in
    let full : c.in-Err.why ≡ RollbackFull seg since = c.in-Some.ensures.some.1 in
    let tried : Tried s h c.args.s c.args.table c.args.key action (Err (RollbackFull seg since)) old mid = subst (λ (w : Refusal). Tried s h c.args.s c.args.table c.args.key action (Err w) old mid) full (c.in-Err.ensures.did h st early may) in
    let still = c.in-Err.ensures.stays (ap is_disk_fault full) in
    let cut = cut_by s (laws_of g) h old st on c.args.s c.args.table c.args.key action there early clear mid seg since tried in
    let loads : Logs s store c.write_once.new.store [] true = still.1 in
    let here : Stands s h mid = stands_loaded s st.told (laws_of g) h old mid st still.0 loads in
    let led1 : Led s h h old mid = led_loaded s (laws_of g) h old mid st still.0 loads in
    let new : EngineView _ = record { memory = c.free_segment.new.memory; store = c.free_segment.new.store } in
    let failed : is_disk_fault c.in_err-free_segment.field-0.0 ≡ true = ap is_disk_fault c.in_err-free_segment.ensures.fault in
    let fails = subst (λ (b : Bool). LedOr s h (segment_cleared seg h) mid new b) failed (c.in_err-free_segment.ensures.led h here) in
    let stops = subst (λ (b : Bool). LessDead b c.write_once.new.memory c.free_segment.new.memory) failed c.in_err-free_segment.ensures.less in
    behind_after s (laws_of g) h h c.args.s c.args.table c.args.key action (Refused DiskFault) old mid new st on led1
    (behind_plain s (laws_of g) h call (Refused DiskFault) mid new here (λ going. c.in-Err.ensures.step.going (here.knows.stopped ∙ going)) (let is : Readies c.args.s h (Refused DiskFault) h = inl refl in is)
    (does_fault s st.told (laws_of g) h call mid new here on early stops c.in_err-free_segment.ensures.same (λ keeps. fails (Some call) keeps))
    (λ fine. let clash : true ≡ false = fine in absurd cc) (λ w fine. let clash : true ≡ false = fine in absurd cc) (λ scn lost is. cc))
    (λ x is. is))

-- IT IS TRIED ONCE MORE

pub returns-clause-did : goal.returns-clause-did
returns-clause-did g c = λ h st early may clear.
    let s = g.T.Store in
    let store = c.args.store.now in
    let action = action_by c.args.op in
    let call = machine.Write c.args.s c.args.table c.args.key action in
    let old : EngineView _ = record { memory = c.args.memory.now; store = store } in
    let mid : EngineView _ = record { memory = c.write_once.new.memory; store = c.write_once.new.store } in
    let on : h.stopped ≡ false = sym st.knows.stopped ∙ c.requires.going in
    let there = c.requires.session in
    let seg = c.in-Some.seg in
    let since = c.in-Some.ensures.some.0 in
    let full : c.in-Err.why ≡ RollbackFull seg since = c.in-Some.ensures.some.1 in
    let tried : Tried s h c.args.s c.args.table c.args.key action (Err (RollbackFull seg since)) old mid = subst (λ (w : Refusal). Tried s h c.args.s c.args.table c.args.key action (Err w) old mid) full (c.in-Err.ensures.did h st early may) in
    let still = c.in-Err.ensures.stays (ap is_disk_fault full) in
    let cut = cut_by s (laws_of g) h old st on c.args.s c.args.table c.args.key action there early clear mid seg since tried in
    let loads : Logs s store c.write_once.new.store [] true = still.1 in
    let here : Stands s h mid = stands_loaded s st.told (laws_of g) h old mid st still.0 loads in
    let led1 : Led s h h old mid = led_loaded s (laws_of g) h old mid st still.0 loads in
    let mid2 : EngineView _ = record { memory = c.free_segment.new.memory; store = c.free_segment.new.store } in
    let new : EngineView _ = record { memory = c.write_once-2.new.memory; store = c.write_once-2.new.store } in
    let now : State = segment_cleared seg h in
    let led2 : Led s h now mid mid2 = c.in_ok-free_segment.ensures.led h here in
    let again = c.write_once-2.ensures.did now led2.stands (early_cleared s (laws_of g) h old st on c.args.s c.args.table c.args.key action there early clear seg cut) (may_cleared s (laws_of g) h old st on c.args.s c.args.table c.args.key action there early clear seg cut may) in
    behind_after s (laws_of g) h now c.args.s c.args.table c.args.key action (write_answer c.write_once-2.result) old mid2 new st on (led_on s (laws_of g) h h now old mid mid2 on led1 led2)
    (second_ready s (laws_of g) h old st on c.args.s c.args.table c.args.key action there early clear seg cut mid2 new led2.stands c.write_once-2.result (λ scn lost is. young_not_old c.write_once-2.result c.write_once-2.ensures.young scn lost is) again)
    (λ x is. is)
