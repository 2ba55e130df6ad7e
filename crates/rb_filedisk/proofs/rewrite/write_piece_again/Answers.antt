use Rattle.std.proofs.Common.{◌≡◌, ◌+◌, ◌≤◌, List, ℕ, length, sym, subst}
use Rattle.rb_base.specs.Fields.{part}
use Rattle.rb_filedisk.proofs.KeepLemmas.{began, one_rest, rests_more, written_again}
use Rattle.rb_filedisk.proofs.rewrite.write_piece_again.Goals as goal

-- what was read is written again
pub returns-clause-rests : goal.returns-clause-rests
returns-clause-rests g c told =
    let f = g.F.RawFile in
    let old = c.args.file.now in
    let mid = c.read_at.new.self in
    let new = c.write_at.new.self in
    let at = c.args.at in
    let count = length c.args.piece.now in
    let bytes = c.read_at.new.into in
    let same = c.read_at.ensures.content told in
    rests_more f old mid new
    (one_rest f old mid same (c.read_at.ensures.images told) (c.read_at.ensures.time told) (c.read_at.ensures.places told) (c.read_at.ensures.losses told))
    (written_again f mid new at count bytes (subst (λ (file : List ℕ). at + count ≤ length file) (sym same) (c.requires told))
    (subst (λ (file : List ℕ). bytes ≡ part file at count) (sym same) (c.in_ok-read_at.ensures.value told)) c.read_at.auto.into
    (began c.write_at.result at bytes (f.content mid) (f.content new) (f.lost mid) (f.lost new) (c.write_at.ensures.written told) (c.write_at.ensures.begun told))
    (c.write_at.ensures.same told) (c.write_at.ensures.time told) (c.write_at.ensures.same_places told))
