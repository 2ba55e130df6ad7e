-- A write that was done, or a first part of it, tears each image, and adds none where the bytes are there already.
use Rattle.std.proofs.Common.{length, take, arith}
use Rattle.std.proofs.lemmas.List.{length-take}
use Rattle.rb_memfile.specs.Laws.{front_is_there, stays_in_time, stored_follows, stored_grows, stored_same, stored_same_places, stored_wrote}
use Rattle.rb_memfile.specs.MemFile.{seen_of}
use Rattle.rb_memfile.proofs.memory.MemFileRawFile.write_at.Goals as goal

pub returns-clause-images : goal.returns-clause-images
returns-clause-images c =
    let part = c.write_part.ensures.part in
    let left = c.args.self.now.left in
    stored_follows c.args.at (take part.0 c.args.bytes.now) (seen_of c.args.self.now) (seen_of c.write_part.new.self) c.requires part.2
    (length c.args.bytes.now) (omega (arith, length-take part.0 c.args.bytes.now)) (omega (arith, left.no_shorter, left.no_longer))

pub returns-clause-time : goal.returns-clause-time
returns-clause-time c =
    let part = c.write_part.ensures.part in
    stays_in_time (seen_of c.args.self.now) (seen_of c.write_part.new.self) part.2.past
    (stored_grows c.args.at (take part.0 c.args.bytes.now) (seen_of c.args.self.now) (seen_of c.write_part.new.self) c.requires part.2)

pub returns-clause-same : goal.returns-clause-same
returns-clause-same c same =
    let part = c.write_part.ensures.part in
    stored_same c.args.at (take part.0 c.args.bytes.now) (seen_of c.args.self.now) (seen_of c.write_part.new.self) c.requires part.2
    (front_is_there c.args.at part.0 c.args.bytes.now c.args.self.now.bytes.items c.requires same)

pub returns-clause-same_places : goal.returns-clause-same_places
returns-clause-same_places c same =
    let part = c.write_part.ensures.part in
    stored_same_places c.args.at (take part.0 c.args.bytes.now) (seen_of c.args.self.now) (seen_of c.write_part.new.self) c.requires part.2
    (front_is_there c.args.at part.0 c.args.bytes.now c.args.self.now.bytes.items c.requires same)

pub returns-clause-losses : goal.returns-clause-losses
returns-clause-losses c =
    let part = c.write_part.ensures.part in
    (stored_wrote c.args.at (take part.0 c.args.bytes.now) (seen_of c.args.self.now) (seen_of c.write_part.new.self) c.requires part.2).no_more
