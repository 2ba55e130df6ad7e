use Rattle.std.proofs.Common.{rules, ◌≡◌, List, ℕ, take, sym, subst}
use Rattle.std.specs.Prelude.{IfOk}
use Rattle.std.proofs.lemmas.Result.{IfOk-weaker}
use Rattle.rb_memdisk.specs.Record.{MayLeave, picked_after_all}
use Rattle.rb_memdisk.specs.Replays.{picked_may_be_left}
use Rattle.rb_memdisk.proofs.memory.MemDisk.image.Goals as goal

pub returns-clause-possible : goal.returns-clause-possible
returns-clause-possible c =
    let picked : IfOk c.map_err.result (λ image. image.items ≡ picked_after_all c.args.pick c.args.self.now.first.items c.args.self.now.first.items (take c.args.k c.args.self.now.calls.items) c.args.self.now.written.items) = search rules in
    IfOk-weaker c.map_err.result _ _
    (λ image is. subst (λ (d : List ℕ). MayLeave c.args.self.now.first.items c.args.self.now.calls.items c.args.self.now.written.items c.args.k d) (sym is)
    (picked_may_be_left c.args.pick c.args.self.now.first.items c.args.self.now.calls.items c.args.self.now.written.items c.args.k c.args.self.now.fitting))
    picked
