use Rattle.std.proofs.Common.{◌≡◌, ◌<◌, ℕ, true, false, List, ◌∷◌, length, arith, ap, sym, ◌∙◌, subst}
use Rattle.std.proofs.lemmas.Result.{on_ok_weaker}
use Rattle.rb_layout.specs.Regions.{block_count}
use Rattle.rb_twin.specs.Twins.{home}
use Rattle.rb_cache.specs.Calls.{IsDone, IsShutBehind, Leaving, SeenAt}
use Rattle.rb_cache.specs.Frames.{AreBelow, AreClean, CacheState, NoneDirty, brought, frame_in, has_number, numbers_of, others_of, room_made, seen}
use Rattle.rb_cache.specs.Slots.{held_in, no_frame}
use Rattle.rb_cache.specs.declared.frame.Frame.{Frame}
use Rattle.rb_cache.proofs.CallLemmas.{all_moved, all_room, below_by, brought_order, calm_on, done_on, either_way, leaves_on, moved_order, only_on, room_lacks, seen_room}
use Rattle.rb_cache.proofs.FrameLemmas.{seen_brought, seen_moved}
use Rattle.rb_cache.proofs.RoomLemmas.{stays_leaves}
use Rattle.rb_cache.proofs.cache.Cache.get.Goals as goal

pub returns-then-touch-clause-order : goal.returns-then-touch-clause-order
returns-then-touch-clause-order g c = ap numbers_of (subst (λ (h : List Frame). held_in c.touch.new.self ≡ frame_in c.args.no no_frame h ∷ others_of c.args.no h) (ap (λ (s : CacheState). s.held) c.self.view_is) (c.touch.ensures.moved c.if-touch.true)) ∙ moved_order c.args.self.now.frames c.args.no no_frame c.args.self.now.held (subst (λ (h : List Frame). has_number c.args.no (numbers_of h) ≡ true) (ap (λ (s : CacheState). s.held) c.self.view_is) (sym c.touch.ensures.held ∙ c.if-touch.true))

pub returns-then-touch-clause-seen : goal.returns-then-touch-clause-seen
returns-then-touch-clause-seen g c = λ told k. ap (λ (h : List Frame). seen c.args.layout.now (g.D.Disk.content c.args.disk.now) h k) (subst (λ (h : List Frame). held_in c.touch.new.self ≡ frame_in c.args.no no_frame h ∷ others_of c.args.no h) (ap (λ (s : CacheState). s.held) c.self.view_is) (c.touch.ensures.moved c.if-touch.true))
    ∙ seen_moved c.args.layout.now (g.D.Disk.content c.args.disk.now) c.args.self.now.held no_frame c.args.no k (subst (λ (h : List Frame). has_number c.args.no (numbers_of h) ≡ true) (ap (λ (s : CacheState). s.held) c.self.view_is) (sym c.touch.ensures.held ∙ c.if-touch.true))

pub returns-then-touch-clause-settled : goal.returns-then-touch-clause-settled
returns-then-touch-clause-settled g c = λ told. record {
  calm = c.requires.calm told;
  clean = subst (AreClean c.args.layout.now (g.D.Disk.content c.args.disk.now)) (sym (subst (λ (h : List Frame). held_in c.touch.new.self ≡ frame_in c.args.no no_frame h ∷ others_of c.args.no h) (ap (λ (s : CacheState). s.held) c.self.view_is) (c.touch.ensures.moved c.if-touch.true)))
      (all_moved (λ f. f.dirty ≡ false → f.bytes ≡ home c.args.layout.now (g.D.Disk.content c.args.disk.now) f.block) c.args.no no_frame c.args.self.now.held (c.requires.clean told) (subst (λ (h : List Frame). has_number c.args.no (numbers_of h) ≡ true) (ap (λ (s : CacheState). s.held) c.self.view_is) (sym c.touch.ensures.held ∙ c.if-touch.true)));
  only = λ was. was;
  shut = λ was. was;
}

pub returns-then-touch-clause-any_moment : goal.returns-then-touch-clause-any_moment
returns-then-touch-clause-any_moment g c = λ told. stays_leaves g.D.Disk (λ disk t im le here. g.met.D.Disk.now_counts disk t im told le here) (λ disk im left. g.met.D.Disk.only_now disk im told left) c.args.layout.now c.args.log.now c.requires.head c.args.disk.now (c.requires.calm told) c.args.self.now.held

pub returns-then-touch-clause-within : goal.returns-then-touch-clause-within
returns-then-touch-clause-within g c = subst (AreBelow (block_count c.args.layout.now)) (sym (subst (λ (h : List Frame). held_in c.touch.new.self ≡ frame_in c.args.no no_frame h ∷ others_of c.args.no h) (ap (λ (s : CacheState). s.held) c.self.view_is) (c.touch.ensures.moved c.if-touch.true)))
    (all_moved (λ f. f.block < block_count c.args.layout.now) c.args.no no_frame c.args.self.now.held c.requires.within (subst (λ (h : List Frame). has_number c.args.no (numbers_of h) ≡ true) (ap (λ (s : CacheState). s.held) c.self.view_is) (sym c.touch.ensures.held ∙ c.if-touch.true)))

pub returns-in_err-make_room-clause-within : goal.returns-in_err-make_room-clause-within
returns-in_err-make_room-clause-within g c = below_by (block_count c.args.layout.now) c.args.self.now.held (held_in c.make_room.new.frames) (c.make_room.ensures.order ∙ ap numbers_of (ap held_in (c.touch.ensures.stays c.if-touch.false) ∙ (ap (λ (s : CacheState). s.held) c.self.view_is))) c.requires.within

pub returns-clause-order : goal.returns-clause-order
returns-clause-order g c = on_ok_weaker c.bring.result (λ b. ap numbers_of b.held_is ∙ brought_order (length c.make_room.new.frames.slots) c.args.no b.frame (held_in c.make_room.new.frames) b.block (ap (has_number c.args.no) (c.make_room.ensures.order ∙ ap numbers_of (ap held_in (c.touch.ensures.stays c.if-touch.false) ∙ (ap (λ (s : CacheState). s.held) c.self.view_is))) ∙ subst (λ (h : List Frame). has_number c.args.no (numbers_of h) ≡ false) (ap (λ (s : CacheState). s.held) c.self.view_is) (sym c.touch.ensures.held ∙ c.if-touch.false))
    ∙ ap (λ (n : ℕ). brought n c.args.no (numbers_of (held_in c.make_room.new.frames))) (c.make_room.ensures.count ∙ ap length c.touch.ensures.slots ∙ ap (λ (s : CacheState). s.frames) c.self.view_is) ∙ ap (brought c.args.self.now.frames c.args.no) (c.make_room.ensures.order ∙ ap numbers_of (ap held_in (c.touch.ensures.stays c.if-touch.false) ∙ (ap (λ (s : CacheState). s.held) c.self.view_is)))) c.bring.ensures.brought

pub returns-clause-seen : goal.returns-clause-seen
returns-clause-seen g c = λ told. on_ok_weaker c.bring.result (λ b k.
    ap (λ (h : List Frame). seen c.args.layout.now (g.D.Disk.content c.bring.new.disk) h k) b.held_is
    ∙ ap (λ (file : List ℕ). seen c.args.layout.now file (b.frame ∷ room_made (length c.make_room.new.frames.slots) (held_in c.make_room.new.frames)) k) (let still = c.bring.ensures.same told in still.same)
    ∙ seen_brought c.args.layout.now (g.D.Disk.content c.make_room.new.disk) (room_made (length c.make_room.new.frames.slots) (held_in c.make_room.new.frames)) b.frame k
    (ap (λ (w : ℕ). has_number w (numbers_of (room_made (length c.make_room.new.frames.slots) (held_in c.make_room.new.frames)))) b.block ∙ room_lacks (length c.make_room.new.frames.slots) c.args.no (held_in c.make_room.new.frames) (ap (has_number c.args.no) (c.make_room.ensures.order ∙ ap numbers_of (ap held_in (c.touch.ensures.stays c.if-touch.false) ∙ (ap (λ (s : CacheState). s.held) c.self.view_is))) ∙ subst (λ (h : List Frame). has_number c.args.no (numbers_of h) ≡ false) (ap (λ (s : CacheState). s.held) c.self.view_is) (sym c.touch.ensures.held ∙ c.if-touch.false))) (b.bytes told ∙ ap (home c.args.layout.now (g.D.Disk.content c.make_room.new.disk)) (sym b.block))
    ∙ seen_room c.args.layout.now (g.D.Disk.content c.make_room.new.disk) (length c.make_room.new.frames.slots) (held_in c.make_room.new.frames) k c.in_ok-make_room.ensures.last (let settled = c.in_ok-make_room.ensures.settled told in settled.clean)
    ∙ c.in_ok-make_room.ensures.seen told k
    ∙ ap (λ (h : List Frame). seen c.args.layout.now (g.D.Disk.content c.args.disk.now) h k) (ap held_in (c.touch.ensures.stays c.if-touch.false) ∙ (ap (λ (s : CacheState). s.held) c.self.view_is))) c.bring.ensures.brought

pub returns-clause-settled : goal.returns-clause-settled
returns-clause-settled g c = λ told. on_ok_weaker c.bring.result (λ b.
    let settled = c.in_ok-make_room.ensures.settled told in
    let still = c.bring.ensures.same told in
    record {
      calm = calm_on g.D.Disk (λ disk t im le here. g.met.D.Disk.now_counts disk t im told le here) (λ disk im left. g.met.D.Disk.only_now disk im told left) c.args.layout.now c.args.log.now c.make_room.new.log c.args.disk.now c.make_room.new.disk c.bring.new.disk (SeenAt c.args.layout.now (g.D.Disk.content c.args.disk.now) c.args.self.now.held) (c.bring.ensures.same told) settled.calm;
      clean = subst (AreClean c.args.layout.now (g.D.Disk.content c.bring.new.disk)) (sym b.held_is)
          (subst (λ (file : List ℕ). AreClean c.args.layout.now file (b.frame ∷ room_made (length c.make_room.new.frames.slots) (held_in c.make_room.new.frames))) (sym still.same) (
            (λ is. b.bytes told ∙ ap (home c.args.layout.now (g.D.Disk.content c.make_room.new.disk)) (sym b.block)),
            all_room (λ f. f.dirty ≡ false → f.bytes ≡ home c.args.layout.now (g.D.Disk.content c.make_room.new.disk) f.block) (length c.make_room.new.frames.slots) (held_in c.make_room.new.frames) settled.clean,
          ));
      only = λ was. only_on g.D.Disk (λ disk t im le here. g.met.D.Disk.now_counts disk t im told le here) (λ disk im left. g.met.D.Disk.only_now disk im told left) c.args.layout.now c.args.log.now c.make_room.new.log c.args.disk.now c.make_room.new.disk c.bring.new.disk (SeenAt c.args.layout.now (g.D.Disk.content c.args.disk.now) c.args.self.now.held) (c.bring.ensures.same told) (settled.only was);
      shut = λ was. subst (IsShutBehind c.args.layout.now c.make_room.new.log) (sym still.same) (settled.shut was);
    }) c.bring.ensures.brought

pub returns-clause-done : goal.returns-clause-done
returns-clause-done g c = λ told. on_ok_weaker c.bring.result (λ b. done_on g.D.Disk (λ disk t im le here. g.met.D.Disk.now_counts disk t im told le here) (λ disk im left. g.met.D.Disk.only_now disk im told left) c.args.layout.now c.args.log.now c.make_room.new.log c.args.disk.now c.make_room.new.disk c.bring.new.disk (SeenAt c.args.layout.now (g.D.Disk.content c.args.disk.now) c.args.self.now.held) (c.bring.ensures.same told)
    (subst (λ (h : List Frame). IsDone g.D.Disk c.args.layout.now c.args.log.now c.make_room.new.log c.args.disk.now c.make_room.new.disk (SeenAt c.args.layout.now (g.D.Disk.content c.args.disk.now) h)) (ap held_in (c.touch.ensures.stays c.if-touch.false) ∙ (ap (λ (s : CacheState). s.held) c.self.view_is))
    (c.in_ok-make_room.ensures.done told))) c.bring.ensures.brought

pub returns-clause-any_moment : goal.returns-clause-any_moment
returns-clause-any_moment g c = λ told. leaves_on g.D.Disk (λ disk t im le here. g.met.D.Disk.now_counts disk t im told le here) (λ disk im left. g.met.D.Disk.only_now disk im told left) c.args.layout.now c.args.log.now c.make_room.new.log c.args.disk.now c.make_room.new.disk c.bring.new.disk (SeenAt c.args.layout.now (g.D.Disk.content c.args.disk.now) c.args.self.now.held) (c.bring.ensures.same told)
    (subst (λ (h : List Frame). Leaving g.D.Disk c.args.layout.now c.args.log.now c.args.disk.now c.make_room.new.disk (SeenAt c.args.layout.now (g.D.Disk.content c.args.disk.now) h)) (ap held_in (c.touch.ensures.stays c.if-touch.false) ∙ (ap (λ (s : CacheState). s.held) c.self.view_is))
    (c.make_room.ensures.any_moment told))

pub returns-clause-within : goal.returns-clause-within
returns-clause-within g c =
    let below = below_by (block_count c.args.layout.now) c.args.self.now.held (held_in c.make_room.new.frames) (c.make_room.ensures.order ∙ ap numbers_of (ap held_in (c.touch.ensures.stays c.if-touch.false) ∙ (ap (λ (s : CacheState). s.held) c.self.view_is))) c.requires.within in
    let room = all_room (λ f. f.block < block_count c.args.layout.now) (length c.make_room.new.frames.slots) (held_in c.make_room.new.frames) below in
    either_way c.bring.result
    (λ b. subst (AreBelow (block_count c.args.layout.now)) (sym b.held_is) (subst (λ (w : ℕ). w < block_count c.args.layout.now) (sym b.block) c.requires.there, room))
    (λ same. subst (AreBelow (block_count c.args.layout.now)) (sym same) room) c.bring.ensures.brought c.bring.ensures.failed

pub returns-in_err-make_room-clause-room : goal.returns-in_err-make_room-clause-room
returns-in_err-make_room-clause-room g c = λ less. c.make_room.ensures.room (omega (arith, less, ap length (ap held_in (c.touch.ensures.stays c.if-touch.false) ∙ ap (λ (s : CacheState). s.held) c.self.view_is), ap length c.touch.ensures.slots ∙ ap (λ (s : CacheState). s.frames) c.self.view_is))

pub returns-in_err-make_room-clause-quiet : goal.returns-in_err-make_room-clause-quiet
returns-in_err-make_room-clause-quiet g c = λ none. c.make_room.ensures.quiet (subst NoneDirty (sym (ap held_in (c.touch.ensures.stays c.if-touch.false) ∙ ap (λ (s : CacheState). s.held) c.self.view_is)) none)

pub returns-in_err-make_room-clause-held : goal.returns-in_err-make_room-clause-held
returns-in_err-make_room-clause-held g c = λ has. cc (
  has,
  subst (λ (h : List Frame). has_number c.args.no (numbers_of h) ≡ false) (ap (λ (s : CacheState). s.held) c.self.view_is) (sym c.touch.ensures.held ∙ c.if-touch.false),
)

pub returns-clause-room : goal.returns-clause-room
returns-clause-room g c = λ less. c.make_room.ensures.room (omega (arith, less, ap length (ap held_in (c.touch.ensures.stays c.if-touch.false) ∙ ap (λ (s : CacheState). s.held) c.self.view_is), ap length c.touch.ensures.slots ∙ ap (λ (s : CacheState). s.frames) c.self.view_is))

pub returns-clause-quiet : goal.returns-clause-quiet
returns-clause-quiet g c = λ none. c.make_room.ensures.quiet (subst NoneDirty (sym (ap held_in (c.touch.ensures.stays c.if-touch.false) ∙ ap (λ (s : CacheState). s.held) c.self.view_is)) none)

pub returns-clause-held : goal.returns-clause-held
returns-clause-held g c = λ has. cc (
  has,
  subst (λ (h : List Frame). has_number c.args.no (numbers_of h) ≡ false) (ap (λ (s : CacheState). s.held) c.self.view_is) (sym c.touch.ensures.held ∙ c.if-touch.false),
)
