use Rattle.std.proofs.Common.{true}
use Rattle.rb_base.specs.Logs.{Laws, no_logs}
use Rattle.rb_engine.proofs.OpenLemmas.{unchanged_stays}
use Rattle.rb_engine.proofs.engine.Engine.open.Given.{Over}
use Rattle.rb_engine.proofs.engine.Engine.open.Goals as goal

laws_of : (g : Over) → Laws g.T.Store
laws_of g = record {
  stable_left = λ store b n i keeps stable here. g.met.T.Store.stable_left store b n i keeps stable here;
  stable_numbered = λ store b n keeps stable. g.met.T.Store.stable_numbered store b n keeps stable;
  stable_patched = λ store b n keeps stable. g.met.T.Store.stable_patched store b n keeps stable;
  now_counts = λ store t i keeps le here. g.met.T.Store.now_counts store t i keeps le here;
  only_now = λ store i keeps here. g.met.T.Store.only_now store i keeps here;
  holds_back_same = λ store. g.met.T.Store.holds_back_same store;
  holds_back_joined = λ a b c first second. g.met.T.Store.holds_back_joined a b c first second;
}

pub returns-in-Err-clause-stays : goal.returns-in-Err-clause-stays
returns-in-Err-clause-stays g c = λ told h opens. unchanged_stays g.T.Store (laws_of g) told h c.args.store opens c.args.store true (no_logs g.T.Store c.args.store c.requires.going)
