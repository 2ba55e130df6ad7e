use Rattle.std.proofs.Common.{◌≡◌, ◌+◌, ◌*◌, ◌<◌, ◌∙◌, ℕ, List, length, arith, subst, sym, ap}
use Rattle.rb_base.specs.Fields.{part}
use Rattle.rb_base.specs.declared.shape.Shape.{Shape}
use Rattle.rb_base.specs.declared.sizes.TheConstants.{UNIT}
use Rattle.rb_layout.specs.Regions.{block_count, block_offset, shape_of}
use Rattle.rb_store.specs.Meaning.{IsHeaded}
use Rattle.rb_store.proofs.HeaderLemmas.{home_in_piece, piece_headed}
use Rattle.rb_store.proofs.headers.check_piece.Goals as goal

pub block_at-requires : goal.block_at-requires
block_at-requires g c = omega (arith, c.requires.there, c.requires.some)

pub returns-then-not-are_headed-clause-none : goal.returns-then-not-are_headed-clause-none
returns-then-not-are_headed-clause-none g c told is all =
    let l = c.args.layout.now in
    let file = g.D.Disk.content c.args.disk.now in
    let bytes : c.read_at.new.into ≡ part file (block_offset l c.args.first) (UNIT * c.args.count) =
    c.in_ok-read_at.ensures.value told ∙ ap (λ (a : ℕ). part file a (length c.args.buffer.now)) c.block_at.ensures ∙ ap (part file (block_offset l c.args.first)) c.requires.buffer in
    let piece = piece_headed l c.args.last file c.read_at.new.into c.args.first c.args.count (block_count l) bytes c.requires.there all in
    let shaped = subst (λ (s : Shape). (k : ℕ) → k < c.args.count → IsHeaded s c.args.last (c.args.first + k) (part c.read_at.new.into (UNIT * k) UNIT)) (sym c.shape.ensures.shape) piece in
    cc (c.are_headed.ensures.1 shaped, c.if-not-are_headed.true)

pub returns-clause-headed : goal.returns-clause-headed
returns-clause-headed g c = λ told k lt.
    let l = c.args.layout.now in
    let file = g.D.Disk.content c.args.disk.now in
    let bytes : c.read_at.new.into ≡ part file (block_offset l c.args.first) (UNIT * c.args.count) =
    c.in_ok-read_at.ensures.value told ∙ ap (λ (a : ℕ). part file a (length c.args.buffer.now)) c.block_at.ensures ∙ ap (part file (block_offset l c.args.first)) c.requires.buffer in
    let all = c.are_headed.ensures.0 (cc c.if-not-are_headed.false) in
    let piece = subst (λ (s : Shape). (k : ℕ) → k < c.args.count → IsHeaded s c.args.last (c.args.first + k) (part c.read_at.new.into (UNIT * k) UNIT)) c.shape.ensures.shape all in
    subst (λ (x : List ℕ). IsHeaded (shape_of l) c.args.last (c.args.first + k) x) (home_in_piece l file c.read_at.new.into c.args.first c.args.count k bytes lt) (piece k lt)
