use Rattle.std.proofs.Common.{◌≡◌, ◌∙◌, ◌-◌, ◌<◌, List, length, get_or, sym, ap, subst, rules}
use Rattle.std.proofs.lemmas.List.{get_or-map}
use Rattle.rb_sessions.specs.Kept as kept
use Rattle.rb_sessions.proofs.Table.{changed_at}
use Rattle.rb_sessions.proofs.sessions.Sessions.took_at.Goals as goal

pub returns : goal.returns
returns c = λ name at.
    let items = c.self.inside.entries.items in
    let d = c.index_mut.result.now in
    let within : c.args.s - 1 < length items = search rules in
    let here : kept.kept_at c.args.self.now c.args.s ≡ kept.session_view d =
    ap (λ (t : List kept.KeptSession). get_or t (c.args.s - 1) kept.fresh) (sym c.self.view_is) ∙ get_or-map kept.session_view items (c.args.s - 1) d kept.fresh within
    ∙ ap kept.session_view (sym c.index_mut.ensures.value) in
    changed_at items (c.args.s - 1) c.take_at.new.self d (λ k. kept.with_cursors k (kept.with_last name c.args.key k.cursors)) c.args.self.now c.self.invariant (search rules) c.self.view_is c.index_mut.ensures.value
    (c.take_at.ensures name (subst (λ (k : kept.KeptSession). kept.IsPlaceOf name k.cursors c.args.place) here at))
