use Rattle.rb_layout.specs.Regions.{file_version}
use Rattle.std.proofs.Common.{List, ℕ, ◌++◌, drop, codes, refl, arith, ap}
use Rattle.byteorder.specs.Endian.{big_bytes}
use Rattle.rb_base.proofs.Written.{Written, number_next}
use Rattle.rb_layout.proofs.layout.Layout.put_identity.Goals as goal

pub returns-clause-bytes : goal.returns-clause-bytes
returns-clause-bytes c =
    let mark = codes "RBS7FILE" in
    let l = c.args.self.now in
    let a = c.args.into.now in
    let long = c.requires in
    let marked : Written a _ mark 8 = record { whole = ap (λ (l : List ℕ). l ++ drop 8 a) c.copy_from_slice.ensures.after; long = refl; within = omega (arith, long) } in
    let version = number_next a _ mark _ 8 4 file_version marked c.put_u32.ensures (omega (arith, long)) in
    let tables = number_next a _ (mark ++ big_bytes 4 file_version) _ 12 2 l.tables version c.put_u16.ensures (omega (arith, long)) in
    let segments = number_next a _ (mark ++ big_bytes 4 file_version ++ big_bytes 2 l.tables) _ 14 2 l.segments tables c.put_u16-2.ensures (omega (arith, long)) in
    let blocks = number_next a _ (mark ++ big_bytes 4 file_version ++ big_bytes 2 l.tables ++ big_bytes 2 l.segments) _ 16 4 l.blocks segments c.put_u32-2.ensures (omega (arith, long)) in
    (number_next a _ (mark ++ big_bytes 4 file_version ++ big_bytes 2 l.tables ++ big_bytes 2 l.segments ++ big_bytes 4 l.blocks) _ 20 4 l.log blocks c.put_u32-3.ensures (omega (arith, long))).whole
