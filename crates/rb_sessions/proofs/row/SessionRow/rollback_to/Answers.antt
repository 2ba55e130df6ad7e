use Rattle.std.proofs.Common.{◌≡◌, ◌∙◌, ℕ, List, get_or, map, Option, Some, sym, ap}
use Rattle.std.specs.List.{position}
use Rattle.rb_base.specs.declared.ids.Xid.{Xid}
use Rattle.rb_model.specs.Change.{Asked}
use Rattle.rb_model.specs.Names.{name_text}
use Rattle.rb_model.specs.State.{Savepoint, savepoint_named}
use Rattle.rb_model.specs.declared.mode.Isolation.{Isolation}
use Rattle.rb_sessions.specs.declared.named.Named.{Named}
use Rattle.rb_sessions.specs.declared.savepoint.Mark.{Mark}
use Rattle.rb_sessions.specs.Kept.{KeptCursor, KeptSession, back_at, savepoint_view, session_view}
use Rattle.rb_sessions.proofs.Places.{has_name, search_is}
use Rattle.rb_sessions.proofs.Savepoints.{cut, is_set, not_set}
use Rattle.rb_sessions.proofs.row.SessionRow.rollback_to.Goals as goal

abbrev kept_as : Isolation → Option Xid → Option Asked → ℕ → List Savepoint → List KeptCursor → KeptSession
kept_as isolation own asked count savepoints cursors = record { isolation = isolation; own = own; count = count; savepoints = savepoints; cursors = cursors; asked = asked }

same_parts : (isolation : Isolation) (own : Option Xid) (asked : Option Asked) {m n : ℕ} {ps qs : List Savepoint} {cs ds : List KeptCursor} → m ≡ n → ps ≡ qs → cs ≡ ds → kept_as isolation own asked m ps cs ≡ kept_as isolation own asked n qs ds
same_parts isolation own asked count savepoints cursors = λ i. kept_as isolation own asked (count i) (savepoints i) (cursors i)

pub returns-in_default : goal.returns-in_default
returns-in_default c =
    ap (λ p. back_at (name_text c.args.name.now) p (session_view c.args.self.now)) (sym (not_set (name_text c.args.name.now) c.args.self.now.savepoints.items
    (search_is c.position_of.result _ _ _ _ _ c.position_of.ensures c.as_slice-savepoints.ensures.value c.as_bytes.ensures.text c.in_default.is)))

pub returns : goal.returns
returns c =
    let name : List ℕ = name_text c.args.name.now in
    let savepoints : List (Named Mark) = c.args.self.now.savepoints.items in
    let place : ℕ = c.in-Some.place in
    let d : Named Mark = c.index-savepoints-place.result in
    let found : position (has_name name) savepoints ≡ Some place =
    search_is c.position_of.result _ _ _ _ _ c.position_of.ensures c.as_slice-savepoints.ensures.value c.as_bytes.ensures.text c.in-Some.is in
    let at : savepoint_named name (map savepoint_view savepoints) ≡ Some (savepoint_view (get_or c.as_slice-savepoints.result.now place d)) =
    is_set name savepoints place d found ∙ ap (λ (xs : List (Named Mark)). Some (savepoint_view (get_or xs place d))) (sym c.as_slice-savepoints.ensures.value) in
    same_parts c.args.self.now.isolation c.args.self.now.own (session_view c.args.self.now).asked c.min-self.ensures (ap (map savepoint_view) c.truncate.ensures.items ∙ sym (cut name savepoints place found)) c.close_seeing.ensures
    ∙ ap (λ p. back_at name p (session_view c.args.self.now)) (sym at)
