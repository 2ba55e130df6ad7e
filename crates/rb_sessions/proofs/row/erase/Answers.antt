use Rattle.std.proofs.Common.{not, ap, ◌∙◌, map, rules}
use Rattle.arrayvec.proofs.ArrayVecLemmas.{filter-from_retain}
use Rattle.rb_sessions.specs.Kept.{savepoint_view}
use Rattle.rb_sessions.proofs.Places.{has_name}
use Rattle.rb_sessions.proofs.Savepoints.{erased}
use Rattle.rb_sessions.proofs.row.erase.Goals as goal

pub returns : goal.returns
returns c =
    ap (map savepoint_view) (filter-from_retain _ (λ n. not (has_name c.args.name.now n)) _ (λ x b f' y k. (search rules, search rules, search rules)) _ _ c.retain.ensures.filtered)
    ∙ erased c.args.name.now c.args.savepoints.now.items
