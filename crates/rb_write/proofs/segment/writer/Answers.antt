use Rattle.std.proofs.Common.{IfOk, Option, inr, sym, subst}
use Rattle.std.proofs.lemmas.Result.{IfOk-weaker}
use Rattle.rb_base.specs.declared.ids.Xid.{Xid}
use Rattle.rb_segment.specs.Header.{header_of}
use Rattle.rb_write.specs.Asks.{IsWriterOf}
use Rattle.rb_write.proofs.segment.writer.Goals as goal

pub returns-in-None-clause-writer : goal.returns-in-None-clause-writer
returns-in-None-clause-writer g c told young =
    let s = g.S.Store in
    let old = c.args.store.now in
    let header = header_of c.new_writer.new.header in
    subst (λ (own : Option Xid). IfOk c.new_writer.result (λ x. IsWriterOf (s.shape_of old) (s.blocks old) own x header)) (sym c.in-None.is) (c.new_writer.ensures.writer told young)

pub returns-in-None-clause-patches : goal.returns-in-None-clause-patches
returns-in-None-clause-patches g c = IfOk-weaker c.new_writer.result _ _
    (λ x told. (told.0, told.1, inr told.2, told.3)) c.new_writer.ensures.patches
