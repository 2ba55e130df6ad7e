-- Where it has no room it writes none, and where it has and wasn't told to fail all.
use Rattle.std.proofs.Common.{rules, ◌≡◌, ◌∙◌, List, ℕ, length, take, sym, subst, arith}
use Rattle.std.proofs.lemmas.List.{take_all}
use Rattle.rb_memfile.specs.Images.{IsStored, Seen}
use Rattle.rb_memfile.specs.Laws.{stores_none}
use Rattle.rb_memfile.specs.MemFile.{bytes_of, places_of, seen_of}
use Rattle.rb_memfile.proofs.memory.MemFile.write_part.Goals as goal

pub returns-then-lacks_room-clause-part : goal.returns-then-lacks_room-clause-part
returns-then-lacks_room-clause-part c =
    let one : length (places_of c.args.self.now) ≡ length (bytes_of c.args.self.now) = search rules in
    stores_none c.args.at c.args.bytes.now (seen_of c.args.self.now) (seen_of c.fail.new.self) c.requires one
    (c.fail.ensures.untouched.seen ∙ c.refuses-told.ensures.untouched.seen)

pub returns-clause-part : goal.returns-clause-part
returns-clause-part c =
    let same : seen_of c.refuses-told.new.self ≡ seen_of c.args.self.now = c.refuses-told.ensures.untouched.seen in
    let whole : c.args.bytes.now ≡ take (length c.args.bytes.now) c.args.bytes.now = sym (take_all (length c.args.bytes.now) c.args.bytes.now (omega arith)) in (
      length c.args.bytes.now,
      omega arith,
      subst (λ (piece : List ℕ). IsStored c.args.at piece (seen_of c.args.self.now) (seen_of c.store-2.new.self)) whole
          (subst (λ (seen : Seen). IsStored c.args.at c.args.bytes.now seen (seen_of c.store-2.new.self)) same c.store-2.ensures.stored),
    )
