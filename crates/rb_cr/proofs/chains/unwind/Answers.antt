use Rattle.std.proofs.Common.{⊎_elim, inl, inr, ◌||◌, ◌<◌, ◌∙◌, ◌+◌, ◌-◌, Bool, true, false, length, Some, refl, sym, ap, subst, arith}
use Rattle.rb_cr.specs.Calls.{Said}
use Rattle.rb_cr.specs.Clauses.{StepsBack}
use Rattle.rb_cr.specs.Late.{SeesStep}
use Rattle.rb_cr.specs.Parts.{Took}
use Rattle.rb_cr.specs.Reads.{more_reads}
use Rattle.rb_cr.specs.Scratches.{scratch_home}
use Rattle.law_read.specs.Keeping.{kept_room, Kept}
use Rattle.law_read.specs.Late.{touched_after, touches}
use Rattle.law_home.specs.Walk.{entry_at}
use Rattle.rb_cr.proofs.Rooms.{room_fails}
use Rattle.law_read.proofs.Keeping.{kept_on}
use Rattle.law_read.proofs.Unwinding.{step_on, unwound_more}
use Rattle.rb_cr.proofs.Seeing.{or_later, touched_on}
use Rattle.rb_cr.proofs.chains.unwind.Goals as goal

pub returns-then-not-branch-clause-told : goal.returns-then-not-branch-clause-told
returns-then-not-branch-clause-told g c = λ told.
    let said = g.S.Segments.says c.args.segments.now in
    let snap = c.args.snapshot.now in
    let inv = c.loop-k.invariant in
    let b = scratch_home said.shape c.loop-k.scratch in
    let b2 = scratch_home said.shape c.newest_back.new.scratch in
    let kept = c.loop-k.scratch.kept in
    let kept2 = c.newest_back.new.scratch.kept in
    let here : StepsBack said snap c.args.i c.args.xid c.loop-k.scratch c.newest_back.new.scratch c.in_ok-newest_back.field-0 = subst (λ (z : Said). StepsBack z snap c.args.i c.args.xid c.loop-k.scratch c.newest_back.new.scratch c.in_ok-newest_back.field-0) (inv.reads.same told refl) (c.in_ok-newest_back.ensures.told told) in
    let took : Took said.env snap.own snap.upto c.args.i c.args.xid b kept b2 kept2 false = subst (λ (z : Bool). Took said.env snap.own snap.upto c.args.i c.args.xid b kept b2 kept2 z) c.if-not-branch.true here in
    ⊎_elim (λ none. inl (c.loop-k._k, c.loop-k-test.true, inv.count, (b, inv.back told, none)))
    (λ full. inr (subst (λ (z : Kept). kept_room < length z) (inv.kept told) (room_fails said.env snap.own snap.upto c.args.count c.loop-k._k c.args.i c.args.xid b kept c.loop-k-test.true full))) took

pub loop-k-preserved : goal.loop-k-preserved
loop-k-preserved g c =
    let s = g.S.Segments in
    let said = s.says c.args.segments.now in
    let snap = c.args.snapshot.now in
    let inv = c.loop-k.invariant in
    let b = scratch_home said.shape c.loop-k.scratch in
    let b2 = scratch_home said.shape c.newest_back.new.scratch in
    let kept = c.loop-k.scratch.kept in
    let kept2 = c.newest_back.new.scratch.kept in
    let took = λ (told : s.tells).
    (let here : StepsBack said snap c.args.i c.args.xid c.loop-k.scratch c.newest_back.new.scratch c.in_ok-newest_back.field-0 = subst (λ (z : Said). StepsBack z snap c.args.i c.args.xid c.loop-k.scratch c.newest_back.new.scratch c.in_ok-newest_back.field-0) (inv.reads.same told refl) (c.in_ok-newest_back.ensures.told told) in
    let whole : Took said.env snap.own snap.upto c.args.i c.args.xid b kept b2 kept2 true = subst (λ (z : Bool). Took said.env snap.own snap.upto c.args.i c.args.xid b kept b2 kept2 z) c.if-not-branch.false here in
    whole) in
    record {
      reads = more_reads s c.args.segments.now c.loop-k.segments c.newest_back.new.segments true g.met.S.Segments.more_calls inv.reads c.in_ok-newest_back.ensures.reads;
      block = c.in_ok-newest_back.ensures.block ∙ inv.block;
      count = omega (arith, c.tick.ensures, inv.count);
      rest = λ told. sym (step_on said.env c.args.count c.loop-k._k c.args.i c.args.xid b (Some b2) c.loop-k-test.true (took told).0) ∙ inv.rest told;
      back = λ told. unwound_more said.env c.loop-k._k c.args.i c.args.xid (scratch_home said.shape c.args.scratch.now) b (Some b2) (inv.back told) (took told).0;
      kept = λ told. sym (kept_on said.env snap.own snap.upto c.args.count c.loop-k._k c.args.i c.args.xid b b2 kept kept2 c.loop-k-test.true (took told).0 (took told).1) ∙ inv.kept told;
      stays = (c.in_ok-newest_back.ensures.stays.0 ∙ inv.stays.0, c.in_ok-newest_back.ensures.stays.1 ∙ inv.stays.1);
      seen = λ told key watched.
          let sees : SeesStep said c.args.i c.loop-k.scratch c.newest_back.new.scratch c.in_ok-newest_back.field-0 = subst (λ (z : Said). SeesStep z c.args.i c.loop-k.scratch c.newest_back.new.scratch c.in_ok-newest_back.field-0) (inv.reads.same told refl) (c.in_ok-newest_back.ensures.seen told) in
          let now = touches key (said.env.store (entry_at b c.args.i).newest) in
          let later = touched_after said.env key (c.args.count - (c.loop-k._k + 1)) c.args.i c.args.xid b2 in
          ap (λ (z : Bool). z || later) (sees key (inv.stays.0 ∙ watched) c.if-not-branch.false) ∙ or_later c.loop-k.scratch.watch.seen now later
          ∙ ap (λ (z : Bool). c.loop-k.scratch.watch.seen || z) (sym (touched_on said.env key c.args.count c.loop-k._k c.args.i c.args.xid b b2 c.loop-k-test.true (took told).0)) ∙ inv.seen told key watched;
    }
