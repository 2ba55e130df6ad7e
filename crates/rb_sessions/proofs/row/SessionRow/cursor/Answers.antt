use Rattle.std.proofs.Common.{◌∙◌, List, get_or, Some, sym, ap}
use Rattle.rb_model.specs.Names.{name_text}
use Rattle.rb_sessions.specs.declared.cursor.Cursor.{Cursor}
use Rattle.rb_sessions.specs.declared.named.Named.{Named}
use Rattle.rb_sessions.proofs.Cursors.{found, not_found}
use Rattle.rb_sessions.proofs.Places.{search_is}
use Rattle.rb_sessions.proofs.row.SessionRow.cursor.Goals as goal

pub returns-in_err-place : goal.returns-in_err-place
returns-in_err-place c =
    c.from_residual.ensures
    ∙ sym (not_found (name_text c.args.name.now) c.args.self.now.cursors.items
    (search_is c.position_of.result _ _ _ _ _ c.position_of.ensures c.as_slice-cursors.ensures.value c.as_bytes.ensures.text c.in_err-place.was))

pub returns : goal.returns
returns c =
    let d = c.index-cursors-place.result in
    ap (λ (xs : List (Named Cursor)). Some (get_or xs c.in_ok-place.place d).value) c.as_slice-cursors.ensures.value
    ∙ sym (found (name_text c.args.name.now) c.args.self.now.cursors.items c.in_ok-place.place d
    (search_is c.position_of.result _ _ _ _ _ c.position_of.ensures c.as_slice-cursors.ensures.value c.as_bytes.ensures.text c.in_ok-place.was))
