use Rattle.std.proofs.Common.{◌∙◌, List, get_or, Some, sym, ap}
use Rattle.rb_model.specs.Names.{name_text}
use Rattle.rb_sessions.specs.Kept.{kept_by}
use Rattle.rb_sessions.specs.declared.named.Named.{Named}
use Rattle.rb_sessions.specs.declared.savepoint.Mark.{Mark}
use Rattle.rb_sessions.proofs.Places.{search_is}
use Rattle.rb_sessions.proofs.Savepoints.{is_set, not_set}
use Rattle.rb_sessions.proofs.row.SessionRow.savepoint.Goals as goal

pub returns-in_err-place : goal.returns-in_err-place
returns-in_err-place c =
    c.from_residual.ensures
    ∙ ap kept_by (sym (not_set (name_text c.args.name.now) c.args.self.now.savepoints.items
    (search_is c.position_of.result _ _ _ _ _ c.position_of.ensures c.as_slice-savepoints.ensures.value c.as_bytes.ensures.text c.in_err-place.was)))

pub returns : goal.returns
returns c =
    let d = c.index-savepoints-place.result in
    ap (λ (xs : List (Named Mark)). Some (get_or xs c.in_ok-place.place d).value.kept) c.as_slice-savepoints.ensures.value
    ∙ ap kept_by (sym (is_set (name_text c.args.name.now) c.args.self.now.savepoints.items c.in_ok-place.place d
    (search_is c.position_of.result _ _ _ _ _ c.position_of.ensures c.as_slice-savepoints.ensures.value c.as_bytes.ensures.text c.in_ok-place.was)))
