-- What blocks have of a state, they have of one with another queue, and other acknowledged commits: no block tells of these.
use Rattle.std.proofs.Common.{◌≡◌, ◌*◌, ℕ, List, length, map, Option, Some, None, refl, sym, ap, subst}
use Rattle.std.specs.List.{range_with_len}
use Rattle.rb_base.specs.declared.ids.Xid.{Xid}
use Rattle.rb_base.specs.declared.sizes.TheConstants.{SLOTS}
use Rattle.law_blocks.specs.Standing.{Standing, env_of}
use Rattle.law_blocks.specs.States.{BlocksStand, lives_of, owned, past_of}
use Rattle.law_crash.specs.Images.{HasState}
use Rattle.law_home.specs.Walk as walk
use Rattle.law_home.specs.Walk.{Env}
use Rattle.rb_model.specs.Book.{Book, Owner}
use Rattle.rb_model.specs.Change.{Asked}
use Rattle.rb_model.specs.Queue.{Waiter}
use Rattle.rb_model.specs.State.{State, owner_at}

module _ (h : State) (queue : List Waiter) (asked : List (Option Asked)) (safe : ℕ) where
  abbrev pub Next : State
  Next = record h { queue = queue; asked = asked; safe = safe }

  owned_same : (x : Xid) (o : Option Owner) → owned Next x o ≡ owned h x o
  owned_same x None = refl
  owned_same x (Some o) = refl

  lives_same : (env : Env) → lives_of Next env ≡ lives_of h env
  lives_same env =
      let each : (λ (t : ℕ). owned Next (env.xid t) (owner_at h t)) ≡ (λ (t : ℕ). owned h (env.xid t) (owner_at h t)) = λ i t. owned_same (env.xid t) (owner_at h t) i in
      ap (λ (f : ℕ → List walk.Change). map f (range_with_len 0 (SLOTS * h.shape.segments))) each

  pub blocks_stand : (xids : List Xid) (blocks : List (List ℕ)) → BlocksStand h xids blocks → BlocksStand Next xids blocks
  blocks_stand xids blocks stand = record {
    tell = record {
      in_range = stand.tell.in_range;
      counted = stand.tell.counted;
      books_counted = stand.tell.books_counted;
      books = stand.tell.books;
      owner_there = λ r t owns. stand.tell.owner_there r t (record { owner = owns.owner; at = owns.at; session = owns.session });
      one_slot = λ r t v one two. stand.tell.one_slot r t v (record { owner = one.owner; at = one.at; session = one.session }) (record { owner = two.owner; at = two.at; session = two.session });
      has_slot = λ r c more r_in is. let f = stand.tell.has_slot r c more r_in is in (f.0, f.1, record { owner = f.2.owner; at = f.2.at; session = f.2.session });
      tables = stand.tell.tables;
      commit_tables = stand.tell.commit_tables;
      ids_differ = stand.tell.ids_differ;
      ids_made = stand.tell.ids_made;
      ids_over = stand.tell.ids_over;
      running = stand.tell.running;
    };
    standing = subst (λ (l : List (List walk.Change)). Standing h.shape blocks (past_of h xids) l) (sym (lives_same (env_of h.shape blocks))) stand.standing;
  }

  pub has_beside : (books : List Book) (n : ℕ) (blocks : List (List ℕ)) (lsn : ℕ) → HasState h books n blocks lsn → HasState Next books n blocks lsn
  has_beside books n blocks lsn has = record { logged = has.logged; sound = has.sound; marks = has.marks }
