use Rattle.std.proofs.Common.{◌≡◌, ◌+◌, ◌<◌, ◌^◌, ℕ, Bool, List, [], ◌++◌, true, false, not, None, is_some, Result, Err, IfErr, refl, ap, sym, subst, ◌∙◌, arith}
use Rattle.std.proofs.lemmas.Result.{err_from_is_err_and, IfOk-from_err}
use Rattle.rb_write.proofs.Causes.{both_ways, by_home, logs_on, no_entry, open_lacks, takes_writer}
use Rattle.rb_write.proofs.Choices.{chain_short, choice_agrees, none_agrees}
use Rattle.rb_write.proofs.Headers.{ready_is, turned_may, young_at}
use Rattle.rb_write.proofs.Written.{made_by, ready_blocks, Prepared}
use Rattle.rb_write.specs.Asks.{adds_in, home_for, AreYoung, IsWriterOf, MayWrite}
use Rattle.rb_write.specs.Making.{Changes}
use Rattle.rb_write.specs.Refusals.{has_failed, AreOpen, HasCause, HomeRefuses, LacksEntry, LacksSlot, TakesWrite, TakesWriter}
use Rattle.rb_write.specs.declared.ask.AttemptFault.{AttemptFault}
use Rattle.rb_write.specs.declared.ask.AttemptFault.TheVariants.{NoSlot, RollbackFull}
use Rattle.rb_write.specs.declared.home.Place.{Place}
use Rattle.rb_base.proofs.Each.{all_so}
use Rattle.rb_base.specs.Blocks.{block_of, header_block, home_block, shape_blocks, table_blocks, written_to, AreWithin}
use Rattle.rb_base.specs.Groups.{Patch}
use Rattle.rb_base.specs.Logs.{Logs, more_logs}
use Rattle.rb_base.specs.declared.ids.Xid.{Xid}
use Rattle.rb_base.specs.declared.shape.Shape.{Shape}
use Rattle.rb_cleanout.proofs.Copies.{all_joined}
use Rattle.rb_cleanout.proofs.Grouped.{of_block}
use Rattle.rb_heap.proofs.Reading.{entry_read}
use Rattle.rb_heap.specs.Cleaning.{cleaned_home, IsCleanPatch}
use Rattle.rb_heap.specs.Homes.{Home, home_entry, home_of}
use Rattle.rb_itl.specs.Entries.{entry_at, free_entry}
use Rattle.rb_segment.specs.Header.{header_of}
use Rattle.law_blocks.specs.Standing.{env_of}
use Rattle.law_blocks.specs.Writing.{AreOfReady}
use Rattle.rb_write.proofs.change.prepare.Goals as goal
use Rattle.rb_write.proofs.change.prepare.Goals.{else-is_none-via-then-is_none+else-are_open, else-is_none-via-else-is_none}

plus_none : (a b : ℕ) → a ≡ b + 0 → a ≡ b
plus_none a b is = omega (arith, is)

pub returns-in_err-cell-clause-cause : goal.returns-in_err-cell-clause-cause
returns-in_err-cell-clause-cause g c told young may going =
    let s = g.S.Store in
    let old = c.args.store.now in
    let shape = s.shape_of old in
    let blocks = s.blocks old in
    let ask = c.args.ask.now in
    let fault = c.in_err-cell.field-0.0 in
    let number = c.home_block-block.ensures.number ∙ ap (λ (k : Shape). home_block k ask.table ask.key) c.shape-shape.ensures.shape in
    let home : home_of c.clean_home.new.home ≡ home_for shape blocks ask = c.in_ok-clean_home.ensures.cleaned told young
    ∙ ap (λ (b : ℕ). cleaned_home (env_of shape blocks).look (home_of (block_of blocks b))) number in
    let logged = s.lsn old in
    let p = err_from_is_err_and c.from_residual-in_err-cell.result c.from_residual-in_err-cell.ensures.1 in
    let is : c.from_residual-in_err-cell.result ≡ Err fault = p.1 ∙ ap (λ (f : AttemptFault). Err f) p.2 in
    subst (λ (r : Result Xid AttemptFault). IfErr r (HasCause shape blocks ask logged)) (sym is)
    (by_home shape blocks ask logged fault (subst (λ (h : Home). HomeRefuses fault h (adds_in h ask) ask.key) home c.in_err-cell.ensures.refused))

pub returns-then-are_open-clause-cause : goal.returns-then-are_open-clause-cause
returns-then-are_open-clause-cause g c told young may going =
    let s = g.S.Store in
    let old = c.args.store.now in
    let shape = s.shape_of old in
    let blocks = s.blocks old in
    let ask = c.args.ask.now in
    let copy = c.clean_home.new.home in
    let number = c.home_block-block.ensures.number ∙ ap (λ (k : Shape). home_block k ask.table ask.key) c.shape-shape.ensures.shape in
    let home : home_of copy ≡ home_for shape blocks ask = c.in_ok-clean_home.ensures.cleaned told young
    ∙ ap (λ (b : ℕ). cleaned_home (env_of shape blocks).look (home_of (block_of blocks b))) number in
    let none : is_some ask.own ≡ false = c.is_none.ensures ∙ ap not c.if-is_none.true in
    subst (λ (h : Home). TakesWrite h (adds_in h ask) ask.key × LacksEntry h ask.own) home
    (c.in_ok-cell.ensures.takes, open_lacks (home_of copy) ask.own none (c.are_open.ensures.open c.if-are_open.true))

pub returns-in_err-xid-clause-cause : goal.returns-in_err-xid-clause-cause
returns-in_err-xid-clause-cause g c told young may going =
    let s = g.S.Store in
    let old = c.args.store.now in
    let mid = c.clean_home.new.store in
    let shape = s.shape_of old in
    let blocks = s.blocks old in
    let ask = c.args.ask.now in
    let fault = c.in_err-xid.field-0.0 in
    let copy = c.clean_home.new.home in
    let logs = c.in_ok-clean_home.ensures.logs in
    let number = c.home_block-block.ensures.number ∙ ap (λ (k : Shape). home_block k ask.table ask.key) c.shape-shape.ensures.shape in
    let home : home_of copy ≡ home_for shape blocks ask = c.in_ok-clean_home.ensures.cleaned told young
    ∙ ap (λ (b : ℕ). cleaned_home (env_of shape blocks).look (home_of (block_of blocks b))) number in
    let logged = s.lsn old in
    let p = err_from_is_err_and c.from_residual-in_err-xid.result c.from_residual-in_err-xid.ensures.1 in
    let is : c.from_residual-in_err-xid.result ≡ Err fault = p.1 ∙ ap (λ (f : AttemptFault). Err f) p.2 in
    let goes : has_failed {T = Xid} (Err fault) ≡ false = sym (ap (λ (r : Result Xid AttemptFault). has_failed r) is) ∙ going in
    let may_mid = both_ways (λ (k : Shape) (l : List (List ℕ)). MayWrite k l ask.own) shape (s.shape_of mid) blocks (s.blocks mid) (sym logs.same_shape) (sym (logs.blocks told refl)) may in
    let why : (seg : ℕ) × (fault ≡ NoSlot seg) × (ask.own ≡ None) × LacksSlot (s.shape_of mid) (s.blocks mid) seg = c.in_err-xid.ensures.refused told may_mid goes in
    let lacks = both_ways (λ (k : Shape) (l : List (List ℕ)). LacksSlot k l why.0) (s.shape_of mid) shape (s.blocks mid) blocks logs.same_shape (logs.blocks told refl) why.3 in
    let some : ¬ AreOpen (home_entry (home_of copy)) = elim c.else-is_none.branch [
      | else-is_none-via-then-is_none+else-are_open w ↦ w.are_open.ensures.other w.if-are_open.false
      | else-is_none-via-else-is_none w ↦
          let has : is_some ask.own ≡ true = c.is_none.ensures ∙ ap not w.if-is_none.false in
          let never : false ≡ true = sym (ap is_some why.2) ∙ has in
          absurd cc
    ] in
    let left : ¬ LacksEntry (home_for shape blocks ask) None = subst (λ (h : Home). ¬ LacksEntry h None) home some in
    let takes = subst (λ (h : Home). TakesWrite h (adds_in h ask) ask.key) home c.in_ok-cell.ensures.takes in
    subst (λ (r : Result Xid AttemptFault). IfErr r (HasCause shape blocks ask logged)) (sym is)
    (subst (HasCause shape blocks ask logged) (sym why.1) (why.2, takes, left, lacks))

pub returns-in_default-clause-cause : goal.returns-in_default-clause-cause
returns-in_default-clause-cause g c told young may going =
    let s = g.S.Store in
    let old = c.args.store.now in
    let mid = c.clean_home.new.store in
    let shape = s.shape_of old in
    let blocks = s.blocks old in
    let ask = c.args.ask.now in
    let x = c.in_ok-xid.xid in
    let copy = c.clean_home.new.home in
    let ready = header_of c.writer.new.header in
    let logs = c.in_ok-clean_home.ensures.logs in
    let number = c.home_block-block.ensures.number ∙ ap (λ (k : Shape). home_block k ask.table ask.key) c.shape-shape.ensures.shape in
    let home : home_of copy ≡ home_for shape blocks ask = c.in_ok-clean_home.ensures.cleaned told young
    ∙ ap (λ (b : ℕ). cleaned_home (env_of shape blocks).look (home_of (block_of blocks b))) number in
    let young_mid = both_ways AreYoung shape (s.shape_of mid) blocks (s.blocks mid) (sym logs.same_shape) (sym (logs.blocks told refl)) young in
    let writer = both_ways (λ (k : Shape) (l : List (List ℕ)). IsWriterOf k l ask.own x ready) (s.shape_of mid) shape (s.blocks mid) blocks logs.same_shape (logs.blocks told refl) (c.in_ok-xid.ensures.writer told young_mid) in
    let none = none_agrees (entry_at copy) (home_entry (home_of copy)) (λ j lt. sym (entry_read copy j free_entry lt)) x c.in_default.ensures in
    subst (λ (h : Home). TakesWrite h (adds_in h ask) ask.key × LacksEntry h ask.own) home
    (c.in_ok-cell.ensures.takes, no_entry shape blocks (home_of copy) ask.own x ready writer none)

pub returns-in_err-put_change-clause-cause : goal.returns-in_err-put_change-clause-cause
returns-in_err-put_change-clause-cause g c told young may going =
    let s = g.S.Store in
    let old = c.args.store.now in
    let mid = c.clean_home.new.store in
    let shape = s.shape_of old in
    let blocks = s.blocks old in
    let ask = c.args.ask.now in
    let x = c.in_ok-xid.xid in
    let i = c.in-Some.entry in
    let copy = c.clean_home.new.home in
    let ready = header_of c.writer.new.header in
    let logs = c.in_ok-clean_home.ensures.logs in
    let number = c.home_block-block.ensures.number ∙ ap (λ (k : Shape). home_block k ask.table ask.key) c.shape-shape.ensures.shape in
    let home : home_of copy ≡ home_for shape blocks ask = c.in_ok-clean_home.ensures.cleaned told young
    ∙ ap (λ (b : ℕ). cleaned_home (env_of shape blocks).look (home_of (block_of blocks b))) number in
    let young_mid = both_ways AreYoung shape (s.shape_of mid) blocks (s.blocks mid) (sym logs.same_shape) (sym (logs.blocks told refl)) young in
    let writer = both_ways (λ (k : Shape) (l : List (List ℕ)). IsWriterOf k l ask.own x ready) (s.shape_of mid) shape (s.blocks mid) blocks logs.same_shape (logs.blocks told refl) (c.in_ok-xid.ensures.writer told young_mid) in
    let choice = choice_agrees (entry_at copy) (home_entry (home_of copy)) (λ j lt. sym (entry_read copy j free_entry lt)) x i c.in-Some.ensures in
    let takes = subst (λ (h : Home). TakesWriter h (adds_in h ask) ask.key x) home (takes_writer (home_of copy) (adds_in (home_of copy) ask) ask.key x i c.in_ok-cell.ensures.takes choice) in
    let fault = c.in_err-put_change.field-0.0 in
    let full = c.in_err-put_change.ensures.full in
    let logged = s.lsn old in
    let p = err_from_is_err_and c.from_residual-in_err-put_change.result c.from_residual-in_err-put_change.ensures.1 in
    let is : c.from_residual-in_err-put_change.result ≡ Err fault = p.1 ∙ ap (λ (f : AttemptFault). Err f) p.2 in
    subst (λ (r : Result Xid AttemptFault). IfErr r (HasCause shape blocks ask logged)) (sym is)
    (subst (HasCause shape blocks ask logged) (sym full.1) (x, ready, writer, (takes, full.2, refl, full.3)))

pub returns-then-logged-ge-WORN-clause-cause : goal.returns-then-logged-ge-WORN-clause-cause
returns-then-logged-ge-WORN-clause-cause g c told young may going =
    let s = g.S.Store in
    let old = c.args.store.now in
    let mid = c.clean_home.new.store in
    let shape = s.shape_of old in
    let blocks = s.blocks old in
    let ask = c.args.ask.now in
    let x = c.in_ok-xid.xid in
    let i = c.in-Some.entry in
    let copy = c.clean_home.new.home in
    let ready = header_of c.writer.new.header in
    let logs = c.in_ok-clean_home.ensures.logs in
    let number = c.home_block-block.ensures.number ∙ ap (λ (k : Shape). home_block k ask.table ask.key) c.shape-shape.ensures.shape in
    let home : home_of copy ≡ home_for shape blocks ask = c.in_ok-clean_home.ensures.cleaned told young
    ∙ ap (λ (b : ℕ). cleaned_home (env_of shape blocks).look (home_of (block_of blocks b))) number in
    let young_mid = both_ways AreYoung shape (s.shape_of mid) blocks (s.blocks mid) (sym logs.same_shape) (sym (logs.blocks told refl)) young in
    let writer = both_ways (λ (k : Shape) (l : List (List ℕ)). IsWriterOf k l ask.own x ready) (s.shape_of mid) shape (s.blocks mid) blocks logs.same_shape (logs.blocks told refl) (c.in_ok-xid.ensures.writer told young_mid) in
    let choice = choice_agrees (entry_at copy) (home_entry (home_of copy)) (λ j lt. sym (entry_read copy j free_entry lt)) x i c.in-Some.ensures in
    let takes = subst (λ (h : Home). TakesWriter h (adds_in h ask) ask.key x) home (takes_writer (home_of copy) (adds_in (home_of copy) ask) ask.key x i c.in_ok-cell.ensures.takes choice) in
    let late = c.writer.new.store in
    let logs_late = more_logs s old mid late [] [] true logs c.in_ok-xid.ensures.logs in
    let seg : x.seg < shape.segments = omega (arith, c.in_ok-xid.ensures.there, ap (λ (k : Shape). k.segments) logs.same_shape) in
    let young_ready = young_at shape blocks x ready seg ask.own c.in_ok-xid.ensures.runs young writer in
    let look = (env_of shape blocks).look in
    let P : Home → Type 0 = λ h. (home_entry h i).kind ≡ 1 → (home_entry h i).length < 2 ^ 31 in
    let there : c.home_block-block.result < table_blocks shape = omega (arith, c.home_block-block.ensures.there, ap table_blocks c.shape-shape.ensures.shape) in
    let chain : P (home_of copy) = subst P (sym (c.in_ok-clean_home.ensures.cleaned told young)) (chain_short shape blocks look c.home_block-block.result i young there c.in-Some.ensures.within) in
    let made = c.in_ok-put_change.ensures.made young_ready chain in
    let turns = turned_may (header_block c.shape-shape.result x.seg) ready made.recorded.room made.recorded.before made.recorded.has_turned in
    let logged = s.lsn old in
    let same_lsn : s.lsn late ≡ logged = omega (arith, logs_late.number refl) in
    let number_late = c.logged.ensures in (
      x,
      ready,
      writer,
      (takes, turns, omega (arith, same_lsn, number_late, c.if-logged-ge-WORN.true)),
    )

pub returns-clause-within : goal.returns-clause-within
returns-clause-within g c =
    let s = g.S.Store in
    let old = c.args.store.now in
    let shape = s.shape_of old in
    let same = c.shape-shape.ensures.shape in
    let x = c.in_ok-xid.xid in
    let block = c.home_block-block.result in
    let taking = c.in_ok-xid.ensures.patches in
    let all = shape_blocks c.shape-shape.result in
    let segments : x.seg < c.shape-shape.result.segments = omega (arith, c.in_ok-xid.ensures.there, ap (λ (k : Shape). k.segments) (c.in_ok-clean_home.ensures.logs.same_shape ∙ sym same)) in
    let header : header_block (s.shape_of c.clean_home.new.store) x.seg ≡ header_block c.shape-shape.result x.seg = ap (λ (k : Shape). header_block k x.seg) (c.in_ok-clean_home.ensures.logs.same_shape ∙ sym same) in
    let cleaning : AreWithin c.shape-shape.result c.clean_home.new.group = all_so (IsCleanPatch block) (λ (p : Patch). p.block < all) c.clean_home.new.group
    (λ p is. omega (arith, of_block block p is, c.home_block-block.ensures.there)) c.in_ok-clean_home.ensures.patches in
    let taken : AreWithin c.shape-shape.result taking.0 = all_so (λ (p : Patch). p.block ≡ header_block (s.shape_of c.clean_home.new.store) x.seg) (λ (p : Patch). p.block < all) taking.0
    (λ p is. omega (arith, is, header, segments)) (ready_blocks (header_block (s.shape_of c.clean_home.new.store) x.seg) x.slot (header_of c.writer.new.header) taking.0 taking.2) in
    let before : AreWithin c.shape-shape.result c.writer.new.group = subst (AreWithin c.shape-shape.result) (sym taking.1) (all_joined (λ (p : Patch). p.block < all) c.clean_home.new.group taking.0 cleaning taken) in
    subst (λ (k : Shape). AreWithin k c.put_change.new.group) same (c.in_ok-put_change.ensures.within before)

pub returns-clause-made : goal.returns-clause-made
returns-clause-made g c told young =
    let s = g.S.Store in
    let old = c.args.store.now in
    let mid = c.clean_home.new.store in
    let shape = s.shape_of old in
    let blocks = s.blocks old in
    let ask = c.args.ask.now in
    let x = c.in_ok-xid.xid in
    let i = c.in-Some.entry in
    let copy = c.clean_home.new.home in
    let ready = header_of c.writer.new.header in
    let logs = c.in_ok-clean_home.ensures.logs in
    let number = c.home_block-block.ensures.number ∙ ap (λ (k : Shape). home_block k ask.table ask.key) c.shape-shape.ensures.shape in
    let home : home_of copy ≡ home_for shape blocks ask = c.in_ok-clean_home.ensures.cleaned told young
    ∙ ap (λ (b : ℕ). cleaned_home (env_of shape blocks).look (home_of (block_of blocks b))) number in
    let young_mid = both_ways AreYoung shape (s.shape_of mid) blocks (s.blocks mid) (sym logs.same_shape) (sym (logs.blocks told refl)) young in
    let writer = both_ways (λ (k : Shape) (l : List (List ℕ)). IsWriterOf k l ask.own x ready) (s.shape_of mid) shape (s.blocks mid) blocks logs.same_shape (logs.blocks told refl) (c.in_ok-xid.ensures.writer told young_mid) in
    let choice = choice_agrees (entry_at copy) (home_entry (home_of copy)) (λ j lt. sym (entry_read copy j free_entry lt)) x i c.in-Some.ensures in
    let takes = subst (λ (h : Home). TakesWriter h (adds_in h ask) ask.key x) home (takes_writer (home_of copy) (adds_in (home_of copy) ask) ask.key x i c.in_ok-cell.ensures.takes choice) in
    let same = c.shape-shape.ensures.shape in
    let look = (env_of shape blocks).look in
    let block = c.home_block-block.result in
    let group = c.put_change.new.group in
    let seg : x.seg < shape.segments = omega (arith, c.in_ok-xid.ensures.there, ap (λ (k : Shape). k.segments) logs.same_shape) in
    let young_ready = young_at shape blocks x ready seg ask.own c.in_ok-xid.ensures.runs young writer in
    let P : Home → Type 0 = λ h. (home_entry h i).kind ≡ 1 → (home_entry h i).length < 2 ^ 31 in
    let there : block < table_blocks shape = omega (arith, c.home_block-block.ensures.there, ap table_blocks same) in
    let cleaned = c.in_ok-clean_home.ensures.cleaned told young in
    let chain : P (home_of copy) = subst P (sym cleaned) (chain_short shape blocks look block i young there c.in-Some.ensures.within) in
    let taking = c.in_ok-xid.ensures.patches in
    let same_shape = logs.same_shape in
    let same_blocks = logs.blocks told refl in
    let changes = c.in_ok-put_change.ensures.made young_ready chain in
    let place : Place = record { block = block; entry = i; cell = c.in_ok-cell.cell } in
    let prepared : Prepared shape blocks ask place group x = record {
      are = c.in_ok-clean_home.ensures.whole told;
      there = number;
      of_rows = there;
      entry = c.in-Some.ensures.within;
      cell = c.in_ok-cell.ensures.within;
      seg = seg;
      valid = c.in_ok-put_change.ensures.valid.each;
      copy = copy;
      cleaning = c.clean_home.new.group;
      cleans = c.in_ok-clean_home.ensures.patches;
      copied = c.in_ok-clean_home.ensures.copy told;
      long = c.in_ok-clean_home.ensures.length;
      cleaned = cleaned;
      header = c.writer.new.header;
      taking = taking.0;
      takes = subst (λ (k : Shape). AreOfReady (header_block k x.seg) x.slot (header_of c.writer.new.header) taking.0) same_shape taking.2;
      taken = both_ways (λ (k : Shape) (l : List (List ℕ)). c.writer.new.header ≡ written_to (header_block k x.seg) taking.0 (block_of l (header_block k x.seg))) (s.shape_of mid) shape (s.blocks mid) blocks same_shape same_blocks (taking.3 told);
      runs = c.in_ok-xid.ensures.runs;
      ready = ready_is shape blocks x ready seg ask.own c.in_ok-xid.ensures.runs writer;
      young = young_ready;
      header2 = c.put_change.new.header;
      changes = subst (λ (k : Shape). Changes k ask x place copy c.writer.new.header c.put_change.new.header (c.clean_home.new.group ++ taking.0) group) same
          (subst (λ (held : List Patch). Changes c.shape-shape.result ask x place copy c.writer.new.header c.put_change.new.header held group) taking.1 changes);
      choice = choice;
      place = c.in_ok-cell.ensures.cell;
    } in
    let made = made_by shape blocks ask place group x prepared in
    (made.address, made.undo, ready, writer, made.table, made.key, made.wrap, made.home, made.is_written)

pub returns-clause-takes : goal.returns-clause-takes
returns-clause-takes g c told young =
    let s = g.S.Store in
    let old = c.args.store.now in
    let shape = s.shape_of old in
    let blocks = s.blocks old in
    let ask = c.args.ask.now in
    let copy = c.clean_home.new.home in
    let number = c.home_block-block.ensures.number ∙ ap (λ (k : Shape). home_block k ask.table ask.key) c.shape-shape.ensures.shape in
    let home : home_of copy ≡ home_for shape blocks ask = c.in_ok-clean_home.ensures.cleaned told young
    ∙ ap (λ (b : ℕ). cleaned_home (env_of shape blocks).look (home_of (block_of blocks b))) number in
    subst (λ (h : Home). TakesWrite h (adds_in h ask) ask.key) home c.in_ok-cell.ensures.takes

pub returns-in_err-xid-clause-logs : goal.returns-in_err-xid-clause-logs
returns-in_err-xid-clause-logs g c =
    let s = g.S.Store in
    let old = c.args.store.now in
    let fault = c.in_err-xid.field-0.0 in
    let p = err_from_is_err_and c.from_residual-in_err-xid.result c.from_residual-in_err-xid.ensures.1 in
    logs_on s old c.writer.new.store Xid Xid c.from_residual-in_err-xid.result fault (p.1 ∙ ap (λ (f : AttemptFault). Err f) p.2)
    (more_logs s old c.clean_home.new.store c.writer.new.store [] [] (not (has_failed {T = Xid} (Err fault))) c.in_ok-clean_home.ensures.logs c.in_err-xid.ensures.logs)

pub returns-then-logged-ge-WORN-clause-logs : goal.returns-then-logged-ge-WORN-clause-logs
returns-then-logged-ge-WORN-clause-logs g c = more_logs g.S.Store c.args.store.now c.clean_home.new.store c.writer.new.store [] [] true c.in_ok-clean_home.ensures.logs c.in_ok-xid.ensures.logs

-- the segment has no room
pub returns-in_err-put_change-clause-logs : goal.returns-in_err-put_change-clause-logs
returns-in_err-put_change-clause-logs g c =
    let s = g.S.Store in
    let old = c.args.store.now in
    let full = c.in_err-put_change.ensures.full in
    let p = err_from_is_err_and c.from_residual-in_err-put_change.result c.from_residual-in_err-put_change.ensures.1 in
    logs_on s old c.writer.new.store Xid Xid c.from_residual-in_err-put_change.result (RollbackFull c.in_ok-xid.xid.seg full.0) (p.1 ∙ ap (λ (f : AttemptFault). Err f) (p.2 ∙ full.1))
    (more_logs s old c.clean_home.new.store c.writer.new.store [] [] true c.in_ok-clean_home.ensures.logs c.in_ok-xid.ensures.logs)

pub returns-in_default-clause-logs : goal.returns-in_default-clause-logs
returns-in_default-clause-logs g c = more_logs g.S.Store c.args.store.now c.clean_home.new.store c.writer.new.store [] [] true c.in_ok-clean_home.ensures.logs c.in_ok-xid.ensures.logs

pub returns-clause-logs : goal.returns-clause-logs
returns-clause-logs g c =
    let s = g.S.Store in
    let old = c.args.store.now in
    more_logs s old c.clean_home.new.store c.writer.new.store [] [] true c.in_ok-clean_home.ensures.logs c.in_ok-xid.ensures.logs

pub returns-in_err-cell-clause-logs : goal.returns-in_err-cell-clause-logs
returns-in_err-cell-clause-logs g c =
    let s = g.S.Store in
    let fault = c.in_err-cell.field-0.0 in
    let p = err_from_is_err_and c.from_residual-in_err-cell.result c.from_residual-in_err-cell.ensures.1 in
    logs_on s c.args.store.now c.clean_home.new.store Xid ℕ c.from_residual-in_err-cell.result fault (p.1 ∙ ap (λ (f : AttemptFault). Err f) p.2)
    (subst (λ (b : Bool). Logs s c.args.store.now c.clean_home.new.store [] (not b)) (sym c.in_err-cell.ensures.going) c.in_ok-clean_home.ensures.logs)

pub returns-in_err-cell-clause-made : goal.returns-in_err-cell-clause-made
returns-in_err-cell-clause-made g c told young = IfOk-from_err c.from_residual-in_err-cell.result _ c.from_residual-in_err-cell.ensures.0

pub returns-in_err-cell-clause-takes : goal.returns-in_err-cell-clause-takes
returns-in_err-cell-clause-takes g c told young = IfOk-from_err c.from_residual-in_err-cell.result _ c.from_residual-in_err-cell.ensures.0

pub returns-in_err-xid-clause-made : goal.returns-in_err-xid-clause-made
returns-in_err-xid-clause-made g c told young = IfOk-from_err c.from_residual-in_err-xid.result _ c.from_residual-in_err-xid.ensures.0

pub returns-in_err-xid-clause-takes : goal.returns-in_err-xid-clause-takes
returns-in_err-xid-clause-takes g c told young = IfOk-from_err c.from_residual-in_err-xid.result _ c.from_residual-in_err-xid.ensures.0

pub returns-in_err-put_change-clause-made : goal.returns-in_err-put_change-clause-made
returns-in_err-put_change-clause-made g c told young = IfOk-from_err c.from_residual-in_err-put_change.result _ c.from_residual-in_err-put_change.ensures.0

pub returns-in_err-put_change-clause-takes : goal.returns-in_err-put_change-clause-takes
returns-in_err-put_change-clause-takes g c told young = IfOk-from_err c.from_residual-in_err-put_change.result _ c.from_residual-in_err-put_change.ensures.0

pub returns-clause-numbers : goal.returns-clause-numbers
returns-clause-numbers g c =
    let s = g.S.Store in
    let old = c.args.store.now in
    let late = c.writer.new.store in
    let logs = more_logs s old c.clean_home.new.store late [] [] true c.in_ok-clean_home.ensures.logs c.in_ok-xid.ensures.logs in
    let number : s.lsn late ≡ s.lsn old = plus_none (s.lsn late) (s.lsn old) (logs.number refl) in
    omega (arith, number, c.logged.ensures, c.if-logged-ge-WORN.false)
