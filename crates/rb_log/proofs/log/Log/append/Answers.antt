use Rattle.std.proofs.Common.{◌≡◌, ◌+◌, ◌-◌, ◌*◌, ◌∙◌, true, ◌++◌, [], ◌∷◌, ℕ, List, length, take, drop, set, ap, sym, subst, arith}
use Rattle.std.proofs.lemmas.List.{length-map, length-append, get_or_default}
use Rattle.std.specs.List.{AllByRecursion}
use Rattle.rb_base.specs.Groups.{Patch}
use Rattle.rb_base.specs.Blocks.{AreWithin}
use Rattle.rb_base.specs.declared.sizes.TheConstants.{UNIT}
use Rattle.rb_layout.specs.Regions.{shape_of}
use Rattle.rb_base.proofs.Each.{all_push}
use Rattle.rb_log.specs.GroupSlots.{IsLoggable, LogState, group_unit}
use Rattle.rb_log.specs.WaitingUnits.{body_of, bodies_of, group_of_body, groups_of, AreSpelled, IsSpare}
use Rattle.rb_log.specs.declared.sizes.TheConstants.{FLUSH_BYTES}
use Rattle.rb_log.proofs.GroupUnits.{piece}
use Rattle.rb_log.proofs.SpareUnits.{spare_at, filled_spare}
use Rattle.rb_log.proofs.WaitingLemmas.{one_more, more_groups, more_spelled}
use Rattle.rb_log.proofs.log.Log.append.Goals.{After-put_body}
use Rattle.rb_log.proofs.log.Log.append.Goals as goal

-- the bodies, and then their groups
bodies : (c : After-put_body) → bodies_of (take (c.self.inside.waiting + 1) (set c.reach.new.units.items c.self.inside.waiting c.put_body.new.bytes)) ≡ bodies_of (take c.self.inside.waiting c.self.inside.units.items) ++ drop 1 (group_unit 0 (c.self.inside.head.number + (c.self.inside.used + c.self.inside.waiting)) c.args.group.now) ∷ []
bodies c =
    let a = c.self.inside in
    one_more a.units.items c.reach.new.units.items a.waiting (a.head.number + (a.used + a.waiting)) c.put_body.new.bytes c.args.group.now c.reach.ensures.kept c.reach.ensures.there c.patches-place.ensures.valid (c.put_body.ensures ∙ ap (λ (n : ℕ). piece n c.args.group.now 0) (omega (arith, c.from.ensures)))

groups : (c : After-put_body) → groups_of (bodies_of (take (c.self.inside.waiting + 1) (set c.reach.new.units.items c.self.inside.waiting c.put_body.new.bytes))) ≡ groups_of (bodies_of (take c.self.inside.waiting c.self.inside.units.items)) ++ c.args.group.now ∷ []
groups c =
    let a = c.self.inside in
    ap groups_of (bodies c) ∙ more_groups (bodies_of (take a.waiting a.units.items)) (a.head.number + (a.used + a.waiting)) c.args.group.now c.patches-place.ensures.valid

pub put_body-requires-clause-spare : goal.put_body-requires-clause-spare
put_body-requires-clause-spare c = subst (λ (unit : List ℕ). IsSpare (body_of unit)) (get_or_default c.reach.new.units.items c.self.inside.waiting [] c.index_mut.result.now c.reach.ensures.there ∙ sym c.index_mut.ensures.value) (spare_at c.reach.new.units.items c.self.inside.waiting c.reach.ensures.there (c.reach.ensures.spare c.self.invariant.spare))

pub invariant_of-self : goal.invariant_of-self
invariant_of-self c =
    let a = c.self.inside in
    let i = c.self.invariant in
    let old = bodies_of (take a.waiting a.units.items) in
    let number = a.head.number + (a.used + a.waiting) in
    let group = c.args.group.now in
    let here = (goal.at.invariant_of-self c).After-put_body in
    let new = bodies here in
    let room = ap (λ (s : LogState). s.used + length s.pending + 1) c.self.view_is in
    let many = length-map old group_of_body in
    let scanned : a.scanned ≡ true = ap (λ (s : LogState). s.scanned) c.self.view_is ∙ c.requires.scanned in
    let logged : IsLoggable a.layout group = record { valid = c.patches-place.ensures.valid; some = c.requires.some; within = subst (λ (s : LogState). AreWithin (shape_of s.layout) group) (sym c.self.view_is) c.requires.within } in
    record {
      slot = i.slot;
      small = omega (arith, c.requires.number, ap (λ (s : LogState). s.head.number + (s.used + length s.pending)) c.self.view_is, many, i.counts);
      below = omega (arith, c.requires.room, room, ap (λ (s : LogState). s.layout.log) c.self.view_is, many, i.counts);
      enough = omega (arith, i.enough, c.reach.ensures.capacity);
      counts = ap length new ∙ omega (arith, length-append old (drop 1 (group_unit 0 number group) ∷ []), i.counts);
      each = subst (λ (gs : List (List Patch)). AllByRecursion (IsLoggable a.layout) gs) (sym (groups here)) (all_push (IsLoggable a.layout) (groups_of old) group i.each logged);
      spelled = subst (AreSpelled (a.head.number + a.used)) (sym new) (more_spelled old (a.head.number + a.used) number group c.patches-place.ensures.valid (omega (arith, i.counts)) i.spelled);
      spare = filled_spare c.reach.new.units.items a.waiting number c.put_body.new.bytes group (c.reach.ensures.spare i.spare) c.patches-place.ensures.valid (c.put_body.ensures ∙ ap (λ (n : ℕ). piece n group 0) (omega (arith, c.from.ensures)));
      none = λ is. absurd (cc (scanned, is));
      units = i.units;
      few = i.few;
      within = i.within;
      in_line = i.in_line;
      ended = i.ended;
    }

pub returns : goal.returns
returns c =
    let a = c.self.inside in
    ap (λ (gs : List (List Patch)). record { layout = a.layout; head = a.head; used = a.used; pending = gs; scanned = a.scanned; ahead = drop (FLUSH_BYTES - UNIT * a.ahead) a.buffer.items }) (groups (goal.at.returns c).After-put_body) ∙ ap (λ (s : LogState). record s { pending = s.pending ++ c.args.group.now ∷ [] }) c.self.view_is
