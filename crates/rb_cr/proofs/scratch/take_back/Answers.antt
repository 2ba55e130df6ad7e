use Rattle.std.proofs.Common.{◌≡◌, ◌∙◌, ◌||◌, ℕ, Some, ap}
use Rattle.rb_base.specs.declared.shape.Shape.{Shape}
use Rattle.rb_cr.specs.Records.{record_of}
use Rattle.rb_cr.specs.declared.records.SegmentRecord.{SegmentRecord}
use Rattle.rb_cr.specs.declared.watch.Watch.{Watch}
use Rattle.law_read.specs.Late.{touches}
use Rattle.rb_cr.proofs.scratch.take_back.Goals as goal

pub returns-then-wanted-clause-home : goal.returns-then-wanted-clause-home
returns-then-wanted-clause-home c = λ shape. c.back-cell.ensures.home shape c.args.found.now.seg

pub returns-clause-home : goal.returns-clause-home
returns-clause-home c = λ shape. c.back-cell.ensures.home shape c.args.found.now.seg

-- the record says as much to a watch that is as it was
noted : (shape : Shape) (found : SegmentRecord) (was is after : Watch) → is ≡ was
    → ((key : ℕ) → is.key ≡ Some key → after.seen ≡ is.seen || touches key (Some (record_of shape found)))
    → (key : ℕ) → was.key ≡ Some key → after.seen ≡ was.seen || touches key (Some (record_of shape found))
noted shape found was is after same sees key watched =
    sees key (ap (λ (w : Watch). w.key) same ∙ watched)
    ∙ ap (λ (w : Watch). w.seen || touches key (Some (record_of shape found))) same

pub returns-then-wanted-clause-seen : goal.returns-then-wanted-clause-seen
returns-then-wanted-clause-seen c = λ shape key watched. noted shape c.args.found.now c.args.scratch.now.watch c.back-cell.new.scratch.watch c.note.new.self c.back-cell.ensures.watch (λ key2. c.note.ensures.seen shape c.args.found.now.seg key2) key watched

pub returns-clause-seen : goal.returns-clause-seen
returns-clause-seen c = λ shape key watched. noted shape c.args.found.now c.args.scratch.now.watch c.back-cell.new.scratch.watch c.note.new.self c.back-cell.ensures.watch (λ key2. c.note.ensures.seen shape c.args.found.now.seg key2) key watched
