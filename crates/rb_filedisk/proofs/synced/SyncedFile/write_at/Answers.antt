use Rattle.std.proofs.Common.{◌≤◌, List, length, subst}
use Rattle.std.specs.Prelude.{All}
use Rattle.rb_filedisk.specs.Unsynced.{ranges_of, written}
use Rattle.rb_filedisk.specs.declared.unsynced.Range.{Range}
use Rattle.rb_filedisk.proofs.ByteLemmas.{all_within, remembers_all}
use Rattle.rb_filedisk.proofs.KeepLemmas.{began}
use Rattle.rb_filedisk.proofs.SyncLemmas.{began_is_torn, in_step_written}
use Rattle.rb_filedisk.proofs.synced.SyncedFile.write_at.Goals as goal

pub returns-clause-in_step : goal.returns-clause-in_step
returns-clause-in_step g c told =
    let f = g.F.RawFile in
    let s = c.args.self.now in
    let new = c.write_at.new.self in
    let at = c.args.at in
    let bytes = c.args.bytes.now in
    let now = ranges_of c.add.new.self in
    in_step_written f s.file new s.synced (ranges_of s.unsynced) now s.stale at bytes (c.requires.in_step told)
    (c.requires.begins told) (g.met.F.RawFile.fits s.file told) (g.met.F.RawFile.fits new told) (g.met.F.RawFile.reads_an_image s.file told)
    (began c.write_at.result at bytes (f.content s.file) (f.content new) (f.lost s.file) (f.lost new) (c.write_at.ensures.written told)
    (c.write_at.ensures.begun told))
    (c.write_at.ensures.images told) (c.write_at.ensures.places told)
    (remembers_all at (length bytes) s.unsynced c.add.new.self c.add.ensures)
    (λ count all.
    all_within _ (written at (length bytes)) (ranges_of s.unsynced) count
    (subst (λ (ranges : List Range). All (λ range. range.end ≤ count) ranges) c.add.ensures all))

pub returns-clause-torn : goal.returns-clause-torn
returns-clause-torn g c told =
    let f = g.F.RawFile in
    let old = c.args.self.now.file in
    let new = c.write_at.new.self in
    let at = c.args.at in
    let bytes = c.args.bytes.now in
    began_is_torn at bytes (f.content old) (f.content new) (f.lost old) (f.lost new) (c.requires.begins told)
    (began c.write_at.result at bytes (f.content old) (f.content new) (f.lost old) (f.lost new) (c.write_at.ensures.written told)
    (c.write_at.ensures.begun told))
