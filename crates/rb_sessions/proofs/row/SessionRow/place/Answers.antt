use Rattle.std.proofs.Common.{◌≡◌, ℕ, List, Option, Some, None, length, map, refl, MatchOption, ◌<◌}
use Rattle.std.specs.List.{position}
use Rattle.rb_model.specs.Names.{name_text}
use Rattle.rb_sessions.specs.Kept.{IsPlaceOf, cursor_view, named}
use Rattle.rb_sessions.specs.declared.cursor.Cursor.{Cursor}
use Rattle.rb_sessions.specs.declared.named.Named.{Named}
use Rattle.rb_sessions.proofs.Cursors.{not_found, place_viewed}
use Rattle.rb_sessions.proofs.Places.{has_name, search_is}
use Rattle.rb_sessions.proofs.row.SessionRow.place.Goals as goal

by : (name : List ℕ) (cursors : List (Named Cursor)) (r : Option ℕ) → position (has_name name) cursors ≡ r
    → MatchOption r (named name (map cursor_view cursors) ≡ None) (λ place. (place < length (map cursor_view cursors)) × IsPlaceOf name (map cursor_view cursors) place)
by name cursors None is = not_found name cursors is
by name cursors (Some place) is = place_viewed name cursors place is

pub returns : goal.returns
returns c = by (name_text c.args.name.now) c.args.self.now.cursors.items c.position_of.result
    (search_is c.position_of.result _ _ _ _ _ c.position_of.ensures c.as_slice.ensures.value c.as_bytes.ensures.text refl)
