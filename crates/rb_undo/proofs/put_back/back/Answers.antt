use Rattle.std.proofs.Common.{◌≡◌, ◌+◌, ◌∷◌, [], ℕ, List, false, true, not, inl, inr, refl, ap, sym, subst, ◌∙◌, arith}
use Rattle.std.proofs.lemmas.Result.{IfOk-from_err}
use Rattle.std.specs.Result.{is_err}
use Rattle.rb_base.specs.Blocks.{after_group, block_of, header_block, written_to, IsShape}
use Rattle.rb_base.specs.Groups.{Patch}
use Rattle.rb_base.specs.Logs.{Logs, more_logs, apply_logs}
use Rattle.rb_base.specs.declared.shape.Shape.{Shape}
use Rattle.rb_cell.specs.Cells.{cell_of, IsCell}
use Rattle.rb_itl.specs.Entries.{entry_of, IsEntry}
use Rattle.rb_segment.specs.Calls.{slot_patches}
use Rattle.rb_segment.specs.Header.{header_of}
use Rattle.rb_segment.specs.Moves.{taken_back}
use Rattle.rb_undo.proofs.TakenBack.{home_short, group_made, is_group, takes_back, on_ok, logs_ok, plus_none}
use Rattle.rb_undo.proofs.put_back.back.Given.{Over}
use Rattle.rb_undo.specs.Backs.{back_patches, header_for, newest_record, ArePutBack, CanBack, TakesBack}
use Rattle.rb_undoblock.specs.declared.record.UndoRecord.{UndoRecord}
use Rattle.rb_undo.proofs.put_back.back.Goals as goal

-- a fault of the first load
pub returns-in_err-copy_block-clause-logs : goal.returns-in_err-copy_block-clause-logs
returns-in_err-copy_block-clause-logs g c = (
  [],
  rw c.from_residual.ensures.0
      c.in_err-copy_block.ensures.logs,
  λ told. inl refl,
  omega arith,
)

-- and of the second one
pub returns-in_err-undo-clause-logs : goal.returns-in_err-undo-clause-logs
returns-in_err-undo-clause-logs g c = (
  [],
  rw c.from_residual-in_err-undo.ensures.0
      (more_logs g.S.Store c.args.store.now c.copy_block.new.store c.newest.new.store [] [] false
      c.in_ok-copy_block.ensures.logs
      c.in_err-undo.ensures.logs),
  λ told. inl refl,
  omega arith,
)

-- no record was found
pub returns-in_default-clause-logs : goal.returns-in_default-clause-logs
returns-in_default-clause-logs g c = (
  [],
  more_logs g.S.Store c.args.store.now c.copy_block.new.store c.newest.new.store [] [] true
      c.in_ok-copy_block.ensures.logs
      c.in_ok-undo.ensures.logs,
  λ told. inl refl,
  omega arith,
)

pub returns-in_default-clause-nothing : goal.returns-in_default-clause-nothing
returns-in_default-clause-nothing g c told not =
    more_logs g.S.Store c.args.store.now c.copy_block.new.store c.newest.new.store [] [] true
    c.in_ok-copy_block.ensures.logs
    c.in_ok-undo.ensures.logs

pub take_back-requires-clause-room : goal.take_back-requires-clause-room
take_back-requires-clause-room g c = home_short _ _ _ _ _ _ _ c.clear.ensures c.change.ensures.patches c.change.ensures.cell_sound

-- the loads don't change the number of the last group
number_kept : (g : Over) (c : goal.After-apply-arg-1 g) → g.S.Store.lsn c.newest.new.store ≡ g.S.Store.lsn c.args.store.now
number_kept g c = plus_none (g.S.Store.lsn c.newest.new.store) (g.S.Store.lsn c.copy_block.new.store) (c.in_ok-undo.ensures.logs.number refl) ∙ plus_none (g.S.Store.lsn c.copy_block.new.store) (g.S.Store.lsn c.args.store.now) (c.in_ok-copy_block.ensures.logs.number refl)

pub apply-requires-clause-going : goal.apply-requires-clause-going
apply-requires-clause-going g c = c.in_ok-undo.ensures.logs.failed

pub apply-requires-clause-few : goal.apply-requires-clause-few
apply-requires-clause-few g c = rw (number_kept g c) c.requires.few

-- the copy is of the header's block
copied : (g : Over) (c : goal.After-apply g) → g.S.Store.tells → c.copy_block.new.copy ≡ block_of (g.S.Store.blocks c.args.store.now) (header_block (g.S.Store.shape_of c.args.store.now) c.args.xid.seg)
copied g c told =
    let no = c.header_block.ensures.number ∙ ap (λ (shape : Shape). header_block shape c.args.xid.seg) c.shape-shape.ensures.shape in
    c.in_ok-copy_block.ensures.copy told ∙ ap (block_of (g.S.Store.blocks c.args.store.now)) no

-- the record is the newest one
found : (g : Over) (c : goal.After-apply g) → g.S.Store.tells → c.in-Some.undo ≡ newest_record (g.S.Store.shape_of c.args.store.now) (g.S.Store.blocks c.args.store.now) c.args.xid
found g c told =
    let is = rw c.in-Some.is at (c.in_ok-undo.ensures.found told) in
    is.1 ∙ ap (λ (shape : Shape). newest_record shape (g.S.Store.blocks c.copy_block.new.store) c.args.xid) c.shape-shape.ensures.shape
    ∙ ap (λ (blocks : List (List ℕ)). newest_record (g.S.Store.shape_of c.args.store.now) blocks c.args.xid) (c.in_ok-copy_block.ensures.logs.blocks told refl)

-- so the group is the one that the contract says
group_is : (g : Over) (c : goal.After-apply g) → g.S.Store.tells → c.take_back.new.group ≡ back_patches (g.S.Store.shape_of c.args.store.now) c.args.xid (newest_record (g.S.Store.shape_of c.args.store.now) (g.S.Store.blocks c.args.store.now) c.args.xid) (header_for (g.S.Store.shape_of c.args.store.now) (g.S.Store.blocks c.args.store.now) c.args.xid)
group_is g c told =
    let shape = g.S.Store.shape_of c.args.store.now in
    let h = header_for shape (g.S.Store.blocks c.args.store.now) c.args.xid in
    group_made _ c.args.xid c.in-Some.undo _ _ _ _ _ _ _
    c.clear.ensures c.change.ensures.patches c.take_back.ensures.patches c.cell_from-cell.ensures c.entry_from-entry.ensures c.take_back.ensures.moved
    ∙ ap (λ (s : Shape). back_patches s c.args.xid c.in-Some.undo (header_of c.copy_block.new.copy)) c.shape-shape.ensures.shape
    ∙ ap (λ (l : List ℕ). back_patches shape c.args.xid c.in-Some.undo (header_of l)) (copied g c told)
    ∙ ap (λ (u : UndoRecord). back_patches shape c.args.xid u h) (found g c told)

-- the loads, and then the group
applied : (g : Over) (c : goal.After-apply g) → Logs g.S.Store c.args.store.now c.apply.new.self (c.take_back.new.group ∷ []) (not (is_err c.apply.result))
applied g c =
    let s = g.S.Store in
    let old = c.args.store.now in
    let mid = c.newest.new.store in
    let call = c.apply.ensures in
    more_logs s old mid c.apply.new.self [] (c.take_back.new.group ∷ []) (not (is_err c.apply.result)) (more_logs s old c.copy_block.new.store mid [] [] true c.in_ok-copy_block.ensures.logs c.in_ok-undo.ensures.logs)
    (apply_logs s mid c.apply.new.self c.take_back.new.group c.apply.result call.shape call.slots call.failed call.counted call.lsn call.blocks call.settles call.any_moment call.holds_back)

-- it can be put back
can : (g : Over) (c : goal.After-apply g) → g.S.Store.tells → CanBack (g.S.Store.shape_of c.args.store.now) (g.S.Store.blocks c.args.store.now) c.args.xid
can g c told =
    let is = rw c.in-Some.is at (c.in_ok-undo.ensures.found told) in
    subst (λ (shape : Shape). CanBack shape (g.S.Store.blocks c.args.store.now) c.args.xid) c.shape-shape.ensures.shape
    (subst (λ (blocks : List (List ℕ)). CanBack c.shape-shape.result blocks c.args.xid) (c.in_ok-copy_block.ensures.logs.blocks told refl) is.0)

-- and the group is one that does
makes : (g : Over) (c : goal.After-apply g) → (told : g.S.Store.tells) → ArePutBack (g.S.Store.shape_of c.args.store.now) c.args.xid (g.S.Store.lsn c.args.store.now) (g.S.Store.blocks c.args.store.now) (c.take_back.new.group ∷ [])
makes g c told =
    let s = g.S.Store in
    let old = c.args.store.now in
    let shape = s.shape_of old in
    let blocks = s.blocks old in
    let x = c.args.xid in
    let u = newest_record shape blocks x in
    let header = c.take_back.new.header in
    let may = can g c told in
    let are = c.in_ok-copy_block.ensures.whole told in
    let is = found g c told in
    let cell_sound = subst IsCell (c.cell_from-cell.ensures ∙ ap (λ (u : UndoRecord). cell_of u.cell_before) is) c.change.ensures.cell_sound in
    let entry_sound = subst IsEntry (c.entry_from-entry.ensures ∙ ap (λ (u : UndoRecord). entry_of u.entry_before) is) c.change.ensures.entry_sound in
    let in_range = subst IsShape c.shape-shape.ensures.shape c.shape-shape.ensures.in_range in
    let copy = c.take_back.ensures.copy
    ∙ ap (λ (s : Shape). written_to (header_block s x.seg) (slot_patches (header_block s x.seg) x.slot (header_of header)) c.copy_block.new.copy) c.shape-shape.ensures.shape
    ∙ ap (written_to (header_block shape x.seg) (slot_patches (header_block shape x.seg) x.slot (header_of header))) (copied g c told) in
    let moved = c.take_back.ensures.moved
    ∙ ap (λ (l : List ℕ). taken_back x.slot c.in-Some.undo.previous (header_of l)) (copied g c told)
    ∙ ap (λ (u : UndoRecord). taken_back x.slot u.previous (header_for shape blocks x)) is in
    let group = group_is g c told in
    let back = takes_back shape x u (s.lsn old + 1) blocks header are c.requires.there c.requires.slot may.home may.entry may.cell cell_sound entry_sound copy moved in
    record {
      can = may;
      one = ap (λ (l : List Patch). l ∷ []) group;
      valid = is_group shape x u (s.lsn old + 1) blocks header are c.requires.there c.requires.slot may.home may.entry may.cell cell_sound entry_sound in_range;
      takes = subst (λ (l : List Patch). TakesBack shape x u blocks (after_group (s.lsn old + 1) l blocks)) (sym group) back;
    }

pub returns-clause-logs : goal.returns-clause-logs
returns-clause-logs g c = (c.take_back.new.group ∷ [], applied g c, λ told. inr (makes g c told), omega arith)

pub returns-clause-put_back : goal.returns-clause-put_back
returns-clause-put_back g c told can =
    logs_ok g.S.Store c.args.store.now c.apply.new.self _ c.apply.result
    (subst (λ (group : List Patch). Logs g.S.Store c.args.store.now c.apply.new.self (group ∷ []) (not (is_err c.apply.result))) (group_is g c told) (applied g c))

pub returns-clause-means : goal.returns-clause-means
returns-clause-means g c told can =
    let s = g.S.Store in
    let old = c.args.store.now in
    let new = c.apply.new.self in
    let shape = s.shape_of old in
    let u = newest_record shape (s.blocks old) c.args.xid in
    on_ok c.apply.result
    (λ (logs : Logs s old new (c.take_back.new.group ∷ []) true). subst (TakesBack shape c.args.xid u (s.blocks old)) (sym (logs.blocks told refl)) (makes g c told).takes)
    (logs_ok s old new (c.take_back.new.group ∷ []) c.apply.result (applied g c))

pub returns-clause-nothing : goal.returns-clause-nothing
returns-clause-nothing g c told none = absurd (none (can g c told))

pub returns-in_err-copy_block-clause-put_back : goal.returns-in_err-copy_block-clause-put_back
returns-in_err-copy_block-clause-put_back g c told may = IfOk-from_err c.from_residual.result _ c.from_residual.ensures.0

pub returns-in_err-copy_block-clause-means : goal.returns-in_err-copy_block-clause-means
returns-in_err-copy_block-clause-means g c told may = IfOk-from_err c.from_residual.result _ c.from_residual.ensures.0

pub returns-in_err-copy_block-clause-nothing : goal.returns-in_err-copy_block-clause-nothing
returns-in_err-copy_block-clause-nothing g c told none = IfOk-from_err c.from_residual.result _ c.from_residual.ensures.0

pub returns-in_err-undo-clause-put_back : goal.returns-in_err-undo-clause-put_back
returns-in_err-undo-clause-put_back g c told may = IfOk-from_err c.from_residual-in_err-undo.result _ c.from_residual-in_err-undo.ensures.0

pub returns-in_err-undo-clause-means : goal.returns-in_err-undo-clause-means
returns-in_err-undo-clause-means g c told may = IfOk-from_err c.from_residual-in_err-undo.result _ c.from_residual-in_err-undo.ensures.0

pub returns-in_err-undo-clause-nothing : goal.returns-in_err-undo-clause-nothing
returns-in_err-undo-clause-nothing g c told none = IfOk-from_err c.from_residual-in_err-undo.result _ c.from_residual-in_err-undo.ensures.0
