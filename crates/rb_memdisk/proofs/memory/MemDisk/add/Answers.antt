use Rattle.std.proofs.Common.{rules, ◌≡◌, [], ◌∷◌, ◌++◌, sym, refl}
use Rattle.std.proofs.lemmas.List.{append-nil}
use Rattle.rb_memdisk.proofs.Steps.{by_one, idle_reads_more, idle_fits_more, idle_left_more}
use Rattle.rb_memdisk.proofs.memory.MemDisk.add.Goals as goal

pub invariant_of-self-clause-reads : goal.invariant_of-self-clause-reads
invariant_of-self-clause-reads c =
    let added : c.push.new.self.items ≡ c.args.self.now.calls.items ++ c.args.call ∷ [] = search rules in
    idle_reads_more c.args.self.now c.args.call c.push.new.self.items added c.requires.idle

pub invariant_of-self-clause-fitting : goal.invariant_of-self-clause-fitting
invariant_of-self-clause-fitting c =
    let added : c.push.new.self.items ≡ c.args.self.now.calls.items ++ c.args.call ∷ [] = search rules in
    idle_fits_more c.args.self.now c.args.call c.push.new.self.items added c.requires.idle

pub invariant_of-self-clause-used_up : goal.invariant_of-self-clause-used_up
invariant_of-self-clause-used_up c =
    let added : c.push.new.self.items ≡ c.args.self.now.calls.items ++ c.args.call ∷ [] = search rules in
    idle_left_more c.args.self.now c.args.call c.push.new.self.items added c.requires.idle

pub returns-clause-on : goal.returns-clause-on
returns-clause-on c =
    let added : c.push.new.self.items ≡ c.args.self.now.calls.items ++ c.args.call ∷ [] = search rules in
    by_one c.args.self.now _ c.args.call [] refl added (sym (append-nil c.args.self.now.written.items))
