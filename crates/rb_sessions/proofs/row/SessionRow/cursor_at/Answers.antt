use Rattle.std.proofs.Common.{◌∙◌, List, get_or, Some, ap, sym}
use Rattle.rb_sessions.specs.declared.cursor.Cursor.{Cursor}
use Rattle.rb_sessions.specs.declared.named.Named.{Named}
use Rattle.rb_sessions.proofs.Cursors.{there_at}
use Rattle.rb_sessions.proofs.row.SessionRow.cursor_at.Goals as goal

pub returns : goal.returns
returns c = λ name at.
    let d = c.index-as_slice-place.result in
    there_at name c.args.self.now.cursors.items c.args.place d at
    ∙ ap (λ (xs : List (Named Cursor)). Some (get_or xs c.args.place d).value) (sym c.as_slice.ensures.value)
