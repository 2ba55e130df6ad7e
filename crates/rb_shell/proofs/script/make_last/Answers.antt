use Rattle.std.proofs.Common.{refl}
use Rattle.rb_base.specs.Logs.{Laws}
use Rattle.rb_shell.proofs.LastLemmas.{made_last, not_made}
use Rattle.rb_shell.specs.declared.status.Status.TheVariants.{DiskFault}
use Rattle.rb_shell.specs.declared.status.Status.TheVariants as ends
use Rattle.rb_shell.proofs.script.make_last.Given.{Over}
use Rattle.rb_shell.proofs.script.make_last.Goals as goal

laws_of : (g : Over) → Laws g.T.Store
laws_of g = record {
  stable_left = λ store b n i keeps stable here. g.met.T.Store.stable_left store b n i keeps stable here;
  stable_numbered = λ store b n keeps stable. g.met.T.Store.stable_numbered store b n keeps stable;
  stable_patched = λ store b n keeps stable. g.met.T.Store.stable_patched store b n keeps stable;
  now_counts = λ store t i keeps le here. g.met.T.Store.now_counts store t i keeps le here;
  only_now = λ store i keeps here. g.met.T.Store.only_now store i keeps here;
  holds_back_same = λ store. g.met.T.Store.holds_back_same store;
  holds_back_joined = λ a b c first second. g.met.T.Store.holds_back_joined a b c first second;
}

pub returns-in_default-clause-lasts : goal.returns-in_default-clause-lasts
returns-in_default-clause-lasts g c = λ m is going.
    let e = c.in_default.ensures in
    made_last g.T.Store (laws_of g) m c.args.engine.now c.checkpoint.new.self is going (e.did m.state is.engine) e.same (e.makes m.state is.engine refl) (e.leaves m.state is.engine going) (λ kept. e.nothing_waits kept) ends.Done

pub returns-then-eq-clause-lasts : goal.returns-then-eq-clause-lasts
returns-then-eq-clause-lasts g c = λ m is going.
    not_made g.T.Store (laws_of g) m c.args.engine.now c.checkpoint.new.self is going (c.in-Err.ensures.leaves m.state is.engine going) DiskFault (λ done. cc)
