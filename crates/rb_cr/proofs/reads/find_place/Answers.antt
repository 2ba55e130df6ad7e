use Rattle.std.proofs.Common.{◌*◌, ◌≡◌, ◌<◌, ℕ, List, Option, Some, None, IfSome, IfNone, get_or, sym, ◌∙◌, ap, arith, Ok, Err}
use Rattle.rb_ring.specs.declared.extents.TheConstants.{EXTENTS, EXTENT_RECORDS}
use Rattle.rb_base.specs.Blocks.{block_of, header_block}
use Rattle.rb_base.specs.Logs.{load_logs}
use Rattle.rb_segment.specs.Header.{Segment, header_of, record_in}
use Rattle.law_blocks.specs.Says.{place_of}
use Rattle.law_blocks.specs.Standing.{segments_of}
use Rattle.rb_undoblock.specs.Undo.{no_undo}
use Rattle.rb_cr.proofs.Beyond.{header_read}
use Rattle.rb_cr.proofs.Extents.{none_behind}
use Rattle.rb_cr.proofs.Loaded.{loaded_is}
use Rattle.rb_cr.proofs.reads.find_place.Goals as goal

-- the place that was found is that of the record
place_is : (s : Segment) (header : List ℕ) (index k : ℕ) (o : Option ℕ) → s.header ≡ header_of header → index ≡ k
    → IfSome o (λ at. (at < (EXTENTS * EXTENT_RECORDS)) × ((s : Segment) → s.header ≡ header_of header → record_in s index ≡ Some (get_or s.undo at no_undo)))
    → IfSome o (λ at. (at < (EXTENTS * EXTENT_RECORDS)) × (record_in s k ≡ Some (get_or s.undo at no_undo)))
place_is s header index k None same is found = found
place_is s header index k (Some at) same is found = (found.0, sym (ap (record_in s) is) ∙ found.1 s same)

none_is : (s : Segment) (header : List ℕ) (index k : ℕ) (o : Option ℕ) → s.header ≡ header_of header → index ≡ k
    → IfNone o ((s : Segment) → s.header ≡ header_of header → record_in s index ≡ None)
    → IfNone o (record_in s k ≡ None)
none_is s header index k None same is gone = sym (ap (record_in s) is) ∙ gone s same
none_is s header index k (Some at) same is gone = gone

pub returns-in-Some-clause-some : goal.returns-in-Some-clause-some
returns-in-Some-clause-some g c = λ told.
    let s = g.S.Store in
    let shape = c.args.shape.now in
    let seg = c.args.seg in
    let blocks = s.blocks c.args.store.now in
    let block : c.block-header.result.now ≡ block_of blocks (header_block shape seg) = loaded_is c.block-header.result.now blocks (s.blocks c.load.new.self) c.header_block.result (header_block shape seg) (c.block-header.ensures.block told c.header_block.result c.in_ok-load.ensures.loaded) (c.in_ok-load.ensures.blocks told) c.header_block.ensures.number in
    place_is (segments_of shape blocks seg) c.block-header.result.now c.in-Some.index (place_of shape c.args.address).index c.record_place.result (header_read shape blocks seg c.block-header.result.now block) c.in-Some.ensures.some.0 c.record_place.ensures.some

pub returns-in-Some-clause-none : goal.returns-in-Some-clause-none
returns-in-Some-clause-none g c = λ told.
    let s = g.S.Store in
    let shape = c.args.shape.now in
    let seg = c.args.seg in
    let blocks = s.blocks c.args.store.now in
    let block : c.block-header.result.now ≡ block_of blocks (header_block shape seg) = loaded_is c.block-header.result.now blocks (s.blocks c.load.new.self) c.header_block.result (header_block shape seg) (c.block-header.ensures.block told c.header_block.result c.in_ok-load.ensures.loaded) (c.in_ok-load.ensures.blocks told) c.header_block.ensures.number in
    none_is (segments_of shape blocks seg) c.block-header.result.now c.in-Some.index (place_of shape c.args.address).index c.record_place.result (header_read shape blocks seg c.block-header.result.now block) c.in-Some.ensures.some.0 c.record_place.ensures.none

pub returns-in-None-clause-none : goal.returns-in-None-clause-none
returns-in-None-clause-none g c = λ told.
    let s = g.S.Store in
    let shape = c.args.shape.now in
    let seg = c.args.seg in
    let blocks = s.blocks c.args.store.now in
    let block : c.block-header.result.now ≡ block_of blocks (header_block shape seg) = loaded_is c.block-header.result.now blocks (s.blocks c.load.new.self) c.header_block.result (header_block shape seg) (c.block-header.ensures.block told c.header_block.result c.in_ok-load.ensures.loaded) (c.in_ok-load.ensures.blocks told) c.header_block.ensures.number in
    none_behind c.block-header.result.now (place_of shape c.args.address).index (segments_of shape blocks seg) (header_read shape blocks seg c.block-header.result.now block) (omega (arith, c.writes.ensures, c.in-None.ensures.none))

pub returns-in_err-load-clause-logs : goal.returns-in_err-load-clause-logs
returns-in_err-load-clause-logs g c =
    let load = c.in_err-load.ensures in
    rw c.from_residual.ensures.0
    (load_logs g.S.Store c.args.store.now c.load.new.self (Err c.in_err-load.field-0.0) load.shape load.slots load.failed load.counted load.lsn load.blocks load.settles load.any_moment load.holds_back)

pub returns-in-Some-clause-logs : goal.returns-in-Some-clause-logs
returns-in-Some-clause-logs g c =
    let load = c.in_ok-load.ensures in
    load_logs g.S.Store c.args.store.now c.load.new.self (Ok c.in_ok-load.field-0) load.shape load.slots load.failed load.counted load.lsn load.blocks load.settles load.any_moment load.holds_back

pub returns-in-None-clause-logs : goal.returns-in-None-clause-logs
returns-in-None-clause-logs g c =
    let load = c.in_ok-load.ensures in
    load_logs g.S.Store c.args.store.now c.load.new.self (Ok c.in_ok-load.field-0) load.shape load.slots load.failed load.counted load.lsn load.blocks load.settles load.any_moment load.holds_back
