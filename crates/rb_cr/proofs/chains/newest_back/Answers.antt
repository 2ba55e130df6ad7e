use Rattle.std.proofs.Common.{rules, ◌≡◌, inl, length, get_or, Some, ◌∙◌, ap, sym}
use Rattle.rb_cell.specs.declared.cell.TheConstants.{CELLS}
use Rattle.rb_cr.specs.Records.{walk_found}
use Rattle.rb_itl.specs.Entries.{free_entry as zero_entry}
use Rattle.law_blocks.specs.Says.{place_of}
use Rattle.rb_cr.proofs.Stepping.{noted, took, unfit}
use Rattle.rb_cr.proofs.chains.newest_back.Goals as goal

pub returns-then-not-fits-clause-told : goal.returns-then-not-fits-clause-told
returns-then-not-fits-clause-told g c = λ told.
    let said = g.S.Segments.says c.args.segments.now in
    let scratch = c.args.scratch.now in
    let eight : length scratch.entries ≡ 8 = search rules in
    let sixteen : length scratch.cells ≡ CELLS = search rules in
    let here : walk_found said.shape (Some c.in-Some.found) ≡ said.env.store (place_of said.shape (get_or scratch.entries c.args.i zero_entry).newest) = ap (walk_found said.shape) (sym c.in-Some.is) ∙ c.in_ok-found.ensures.told told in
    inl (unfit said.shape said.env scratch c.args.i c.args.xid eight sixteen c.requires.there c.in-Some.found here (sym (c.fits.ensures.told said.shape) ∙ c.if-not-fits.true))

pub returns-clause-told : goal.returns-clause-told
returns-clause-told g c = λ told.
    let said = g.S.Segments.says c.args.segments.now in
    let scratch = c.args.scratch.now in
    let eight : length scratch.entries ≡ 8 = search rules in
    let sixteen : length scratch.cells ≡ CELLS = search rules in
    let here : walk_found said.shape (Some c.in-Some.found) ≡ said.env.store (place_of said.shape (get_or scratch.entries c.args.i zero_entry).newest) = ap (walk_found said.shape) (sym c.in-Some.is) ∙ c.in_ok-found.ensures.told told in
    took said.shape said.env scratch c.args.i c.args.xid eight sixteen c.requires.there c.in-Some.found here (sym (c.fits.ensures.told said.shape) ∙ c.if-not-fits.false) c.args.snapshot.now c.take_back.result c.take_back.new.scratch (c.take_back.ensures.home said.shape) c.take_back.ensures.kept c.take_back.ensures.full

pub returns-clause-seen : goal.returns-clause-seen
returns-clause-seen g c = λ told key watched whole.
    let said = g.S.Segments.says c.args.segments.now in
    let scratch = c.args.scratch.now in
    let eight : length scratch.entries ≡ 8 = search rules in
    let sixteen : length scratch.cells ≡ CELLS = search rules in
    let here : walk_found said.shape (Some c.in-Some.found) ≡ said.env.store (place_of said.shape (get_or scratch.entries c.args.i zero_entry).newest) = ap (walk_found said.shape) (sym c.in-Some.is) ∙ c.in_ok-found.ensures.told told in
    noted said.shape said.env scratch c.args.i c.args.xid eight sixteen c.requires.there c.in-Some.found here key scratch.watch.seen c.take_back.new.scratch.watch.seen (c.take_back.ensures.seen said.shape key watched)
