use Rattle.rb_store.proofs.Settled.{still_moments, still_settles}
use Rattle.rb_store.proofs.store.LogStore.make_room.Goals as goal

pub returns-then-room-clause-settles : goal.returns-then-room-clause-settles
returns-then-room-clause-settles g c told b n st = still_settles g.D.Disk c.args.self.now b n st

pub returns-then-room-clause-any_moment : goal.returns-then-room-clause-any_moment
returns-then-room-clause-any_moment g c told b n st = still_moments g.D.Disk c.args.self.now b n st (λ image left. g.met.D.Disk.only_now c.args.self.now.disk image told left)

pub returns-clause-settles : goal.returns-clause-settles
returns-clause-settles g c told = rw (← c.self.view_is) (c.clear_log.ensures.settles told)

pub returns-clause-any_moment : goal.returns-clause-any_moment
returns-clause-any_moment g c told b n = rw (← c.self.view_is) (λ st.
    let x = c.clear_log.ensures.any_moment told b n st in record { later = x.later; each = x.each; earlier = x.earlier })
