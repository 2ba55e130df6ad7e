use Rattle.std.proofs.Common.{ℕ, ◌+◌, List, [], ◌∷◌, ◌++◌, Some, take, subst}
use Rattle.rb_base.specs.Blocks.{after_groups}
use Rattle.std.proofs.lemmas.Result.{on_ok_weaker}
use Rattle.rb_base.specs.Groups.{Patch}
use Rattle.rb_base.specs.Moments.{joined, weaker}
use Rattle.rb_base.specs.Settling.{settles_joined, some_front, some_later}
use Rattle.rb_base.specs.Stores.{OpensToSome}
use Rattle.rb_layout.specs.Regions.{shape_of}
use Rattle.rb_layout.specs.declared.layout.Layout.{Layout}
use Rattle.rb_store.specs.Meaning.{Opens}
use Rattle.rb_store.specs.StoreLaws.{held_back_joined}
use Rattle.rb_store.specs.StoreStates.{StoreState, IsStable}
use Rattle.rb_store.proofs.store.LogStoreStore.apply.Goals as goal

pub returns-in_err-make_room-clause-any_moment : goal.returns-in_err-make_room-clause-any_moment
returns-in_err-make_room-clause-any_moment g c told b n st =
    let moment = λ (x : StoreState g.row.D.Denot). g.D.Disk.moment x.disk in
    let since = λ (x : StoreState g.row.D.Denot) (t : ℕ) (i : List ℕ). g.D.Disk.image_since x.disk t i in
    let old = c.args.self.now in
    let opens = λ (i : List ℕ). Opens (shape_of old.layout) (Some old.layout.log) i in
    weaker moment since old c.make_room.new.self (OpensToSome opens n old.pending b) (OpensToSome opens n (old.pending ++ c.args.group.now ∷ []) b)
    (λ i some. some_front opens n old.pending (c.args.group.now ∷ []) b i some) (c.make_room.ensures.any_moment told b n st)

pub returns-clause-holds_back : goal.returns-clause-holds_back
returns-clause-holds_back g c = on_ok_weaker c.take_group.result (λ two. held_back_joined c.args.self.now c.make_room.new.self c.take_group.new.self c.in_ok-make_room.ensures.holds_back two) c.take_group.ensures.holds_back

pub returns-clause-settles : goal.returns-clause-settles
returns-clause-settles g c told = on_ok_weaker c.take_group.result (λ two b n st.
    let one = c.in_ok-make_room.ensures.settles told b n st in
    settles_joined n c.args.self.now.pending (c.args.group.now ∷ []) b (IsStable g.D.Disk c.make_room.new.self) (IsStable g.D.Disk c.take_group.new.self) c.make_room.new.self.pending c.take_group.new.self.pending one (two _ _ one.settled))
    (c.take_group.ensures.settles told)

pub returns-clause-any_moment : goal.returns-clause-any_moment
returns-clause-any_moment g c told b n st =
    let moment = λ (x : StoreState g.row.D.Denot). g.D.Disk.moment x.disk in
    let since = λ (x : StoreState g.row.D.Denot) (t : ℕ) (i : List ℕ). g.D.Disk.image_since x.disk t i in
    let old = c.args.self.now in
    let mid = c.make_room.new.self in
    let new = c.take_group.new.self in
    let more : List (List Patch) = c.args.group.now ∷ [] in
    let opens = λ (i : List ℕ). Opens (shape_of old.layout) (Some old.layout.log) i in
    let P : List ℕ → Type 0 = OpensToSome opens n (old.pending ++ more) b in
    let one = c.in_ok-make_room.ensures.settles told b n st in
    let b1 = after_groups (n + 1) (take one.count old.pending) b in
    let n1 = n + one.count in
    joined moment since old mid new P
    (weaker moment since old mid (OpensToSome opens n old.pending b) P (λ i some. some_front opens n old.pending more b i some) (c.make_room.ensures.any_moment told b n st))
    (weaker moment since mid new (OpensToSome (λ (i : List ℕ). Opens (shape_of mid.layout) (Some mid.layout.log) i) n1 (mid.pending ++ more) b1) P
    (λ i some. some_later opens n old.pending more b (IsStable g.D.Disk mid) mid.pending i one
    (subst (λ (l : Layout). OpensToSome (λ (i : List ℕ). Opens (shape_of l) (Some l.log) i) n1 (mid.pending ++ more) b1 i) c.make_room.ensures.layout some))
    (c.take_group.ensures.any_moment told b1 n1 one.settled))
