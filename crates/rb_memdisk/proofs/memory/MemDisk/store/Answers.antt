use Rattle.std.proofs.Common.{rules, ◌≡◌, [], ◌∷◌, ◌++◌, length, refl, true}
use Rattle.rb_base.specs.Fields.{overwritten}
use Rattle.rb_memdisk.specs.declared.call.Call.TheVariants.{Write}
use Rattle.rb_memdisk.proofs.Steps.{by_one, stored_reads_more, stored_fits_more, stored_left_more}
use Rattle.rb_memdisk.proofs.memory.MemDisk.store.Goals as goal

pub invariant_of-self-clause-reads : goal.invariant_of-self-clause-reads
invariant_of-self-clause-reads c =
    let added : c.push.new.self.items ≡ c.args.self.now.calls.items ++ Write c.args.at (length c.args.piece.now) true ∷ [] = search rules in
    let more : c.extend_from_slice.new.self.items ≡ c.args.self.now.written.items ++ c.args.piece.now = search rules in
    let is : c.overwrite.new.file.items ≡ overwritten c.args.self.now.bytes.items c.args.at c.args.piece.now = search rules in
    stored_reads_more c.args.self.now c.args.at c.args.piece.now c.push.new.self.items c.extend_from_slice.new.self.items added more c.overwrite.new.file.items is

pub invariant_of-self-clause-fitting : goal.invariant_of-self-clause-fitting
invariant_of-self-clause-fitting c =
    let added : c.push.new.self.items ≡ c.args.self.now.calls.items ++ Write c.args.at (length c.args.piece.now) true ∷ [] = search rules in
    let more : c.extend_from_slice.new.self.items ≡ c.args.self.now.written.items ++ c.args.piece.now = search rules in
    stored_fits_more c.args.self.now c.args.at c.args.piece.now c.push.new.self.items c.extend_from_slice.new.self.items added more c.requires.begins

pub invariant_of-self-clause-used_up : goal.invariant_of-self-clause-used_up
invariant_of-self-clause-used_up c =
    let added : c.push.new.self.items ≡ c.args.self.now.calls.items ++ Write c.args.at (length c.args.piece.now) true ∷ [] = search rules in
    let more : c.extend_from_slice.new.self.items ≡ c.args.self.now.written.items ++ c.args.piece.now = search rules in
    stored_left_more c.args.self.now c.args.at c.args.piece.now c.push.new.self.items c.extend_from_slice.new.self.items added more

pub returns-clause-on : goal.returns-clause-on
returns-clause-on c =
    let added : c.push.new.self.items ≡ c.args.self.now.calls.items ++ Write c.args.at (length c.args.piece.now) true ∷ [] = search rules in
    let more : c.extend_from_slice.new.self.items ≡ c.args.self.now.written.items ++ c.args.piece.now = search rules in
    by_one c.args.self.now _ (Write c.args.at (length c.args.piece.now) true) c.args.piece.now refl added more
