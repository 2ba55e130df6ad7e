use Rattle.std.proofs.Common.{◌∙◌, refl, arith}
use Rattle.rb_log.proofs.SpareUnits.{piece_is}
use Rattle.rb_log.proofs.waiting.put_body.Goals as goal

pub returns : goal.returns
returns c =
    piece_is c.args.bytes.now c.encode-length.new.into c.fill.new.self _ c.put_u16.new.bytes c.put_u64.new.bytes c.args.group.now c.from-before.result c.encode-length.result c.max-end.result _ c.args.number c.requires.whole c.requires.spare
    c.requires.valid c.encode-length.ensures.length (c.from-before.ensures ∙ c.u16_at.ensures) (omega (arith, c.max-end.ensures)) c.encode-length.ensures.into (omega arith) (c.fill.ensures.after (λ y e. e)) refl c.put_u16.ensures c.put_u64.ensures
