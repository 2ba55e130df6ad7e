use Rattle.std.proofs.Common.{not, ◌&&◌, nat_lt, ap, ◌∙◌, map, rules}
use Rattle.arrayvec.proofs.ArrayVecLemmas.{filter-from_retain}
use Rattle.rb_sessions.specs.Kept.{cursor_view}
use Rattle.rb_sessions.proofs.Cursors.{open_left}
use Rattle.rb_sessions.proofs.row.close_seeing.Goals as goal

pub returns : goal.returns
returns c =
    ap (map cursor_view) (filter-from_retain _ (λ n. not (n.value.present && nat_lt c.args.first n.value.upto)) _ (λ x b f' y k. (search rules, search rules, search rules)) _ _ c.retain.ensures.filtered)
    ∙ open_left c.args.first c.args.cursors.now.items
