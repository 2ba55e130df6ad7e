use Rattle.std.proofs.Common.{◌*◌, ◌≡◌, ◌<◌, ℕ, List, [], true, false, Option, Some, IfSome, get_or, refl, ◌∙◌, ap, subst}
use Rattle.rb_ring.specs.declared.extents.TheConstants.{EXTENTS, EXTENT_RECORDS}
use Rattle.rb_base.specs.Logs.{more_logs}
use Rattle.rb_segment.specs.Header.{record_in}
use Rattle.law_blocks.specs.Says.{place_of}
use Rattle.law_blocks.specs.Standing.{segments_of}
use Rattle.rb_undoblock.specs.Undo.{no_undo}
use Rattle.rb_cr.proofs.Found.{found_is, gone_is}
use Rattle.rb_cr.proofs.reads.read_record.Goals as goal

pub returns-in_default-clause-told : goal.returns-in_default-clause-told
returns-in_default-clause-told g c = λ told.
    let s = g.S.Store in
    let old = c.args.store.now in
    gone_is c.shape-shape.result (s.shape_of old) (s.blocks old) c.args.address c.shape-shape.ensures.shape (c.requires.whole told) c.in_default.ensures.none

pub returns-in_err-undo-clause-logs : goal.returns-in_err-undo-clause-logs
returns-in_err-undo-clause-logs g c =
    rw c.from_residual-in_err-undo.ensures.0 (more_logs g.S.Store c.args.store.now c.find_place.new.store c.read_place.new.store [] [] false c.in_ok-place.ensures.logs c.in_err-undo.ensures.logs)

pub returns-clause-logs : goal.returns-clause-logs
returns-clause-logs g c = more_logs g.S.Store c.args.store.now c.find_place.new.store c.read_place.new.store [] [] true c.in_ok-place.ensures.logs c.in_ok-undo.ensures.logs

pub returns-clause-told : goal.returns-clause-told
returns-clause-told g c = λ told.
    let s = g.S.Store in
    let old = c.args.store.now in
    let mid = c.find_place.new.store in
    let shape = c.shape-shape.result in
    let seg = c.in-Some.seg in
    let at = c.in-Some-2.place in
    let u = c.args.address in
    let there : (at < (EXTENTS * EXTENT_RECORDS)) × (record_in (segments_of shape (s.blocks old) seg) (place_of shape u).index ≡ Some (get_or (segments_of shape (s.blocks old) seg).undo at no_undo)) =
    subst (λ (o : Option ℕ). IfSome o (λ at. (at < (EXTENTS * EXTENT_RECORDS)) × (record_in (segments_of shape (s.blocks old) seg) (place_of shape u).index ≡ Some (get_or (segments_of shape (s.blocks old) seg).undo at no_undo)))) c.in-Some-2.is (c.in_ok-place.ensures.some told) in
    let undo : c.in_ok-undo.undo ≡ get_or (segments_of shape (s.blocks old) seg).undo at no_undo =
    c.in_ok-undo.ensures.told told ∙ ap (λ (z : List (List ℕ)). get_or (segments_of shape z seg).undo at no_undo) (c.in_ok-place.ensures.logs.blocks told refl) in
    found_is shape (s.shape_of old) (s.blocks old) u c.shape-shape.ensures.shape seg at c.in_ok-undo.undo c.in-Some.ensures.some.1 there.1 undo
