use Rattle.std.proofs.Common.{◌∙◌, sym, ap, map}
use Rattle.rb_model.specs.Names.{name_text}
use Rattle.rb_sessions.specs.Kept.{cursor_view, session_view, with_cursors}
use Rattle.rb_sessions.proofs.Cursors.{without_found, without_not_found}
use Rattle.rb_sessions.proofs.Places.{search_is}
use Rattle.rb_sessions.proofs.row.SessionRow.close_cursor.Goals as goal

pub returns-in-Some : goal.returns-in-Some
returns-in-Some c =
    ap (with_cursors (session_view c.args.self.now)) (ap (map cursor_view) c.remove.ensures.items
    ∙ sym (without_found (name_text c.args.name.now) c.args.self.now.cursors.items c.in-Some.place
    (search_is c.position_of.result _ _ _ _ _ c.position_of.ensures c.as_slice.ensures.value c.as_bytes.ensures.text c.in-Some.is)))

pub returns-in_default : goal.returns-in_default
returns-in_default c =
    ap (with_cursors (session_view c.args.self.now)) (sym (without_not_found (name_text c.args.name.now) c.args.self.now.cursors.items
    (search_is c.position_of.result _ _ _ _ _ c.position_of.ensures c.as_slice.ensures.value c.as_bytes.ensures.text c.in_default.is)))
