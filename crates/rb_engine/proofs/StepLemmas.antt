-- The engine stays in order as one session of its table moves.
use Rattle.std.proofs.Common.{◌≡◌, ◌⊎◌, inl, inr, ◌<◌, ◌≤◌, ◌+◌, ◌-◌, ◌*◌, ◌^◌, ℕ, suc, Bool, false, not, ◌&&◌, nat_lt, List, [], ◌∷◌, ◌++◌, length, map, filter, set, get_or, Option, Some, None, refl, sym, ◌∙◌, ap, subst, arith}
use Rattle.std.proofs.lemmas.Bool.{cases_eq, cond_both}
use Rattle.std.proofs.lemmas.List.{get_or-set_same, get_or-set_other, length-set}
use Rattle.std.proofs.lemmas.List.Sums.{sum_by-cons, sum_by-set}
use Rattle.std.specs.List.{AllByRecursion}
use Rattle.std.specs.Str.{bytes_eq}
use Rattle.rb_base.specs.declared.sizes.TheConstants.{SLOTS}
use Rattle.rb_sessions.specs.declared.sessions.TheConstants.{SESSIONS}
use Rattle.rb_base.specs.declared.ids.Xid.{Xid}
use Rattle.rb_base.specs.declared.shape.Shape.{Shape}
use Rattle.rb_base.specs.declared.store.Store.{Ghosts}
use Rattle.rb_engine.specs.Does.{InTables, IsInStep, IsQueue, Kept, owed_by, owed_kept, slots_had}
use Rattle.rb_engine.proofs.QueueLemmas.{asked_set, queue_freed, queue_same}
use Rattle.rb_model.specs.Change.{Asked}
use Rattle.rb_model.specs.Queue.{freed_by}
use Rattle.rb_model.specs.declared.mode.Isolation.{Isolation}
use Rattle.rb_sessions.specs.Kept.{KeptCursor, KeptSession, committed, ended, fresh, holding, isolated, kept_at, left_open, named, passed, rolled_back, rolled_to, with_cursor, with_cursors, with_savepoint, with_kept, with_last, without, wrote}
use Rattle.rb_sessions.specs.declared.cursor.Cursor.{Cursor}

-- Cursors stay cursors of tables that there are.

abbrev pub IsIn : Shape → KeptCursor → Type 0
IsIn shape c = (1 ≤ c.cursor.table) × (c.cursor.table ≤ shape.tables)

all_passed : (shape : Shape) (l : List KeptCursor) → AllByRecursion (IsIn shape) l → AllByRecursion (IsIn shape) (map passed l)
all_passed shape [] all = tt
all_passed shape (c ∷ l) all = (all.0, all_passed shape l all.1)

all_filter : (shape : Shape) (p : KeptCursor → Bool) (l : List KeptCursor) → AllByRecursion (IsIn shape) l → AllByRecursion (IsIn shape) (filter p l)
all_filter shape p [] all = tt
all_filter shape p (c ∷ l) all = cond_both (p c) (c ∷ filter p l) (filter p l) (AllByRecursion (IsIn shape)) (λ yes. (all.0, all_filter shape p l all.1)) (λ no. all_filter shape p l all.1)

all_append : (shape : Shape) (l : List KeptCursor) (c : KeptCursor) → AllByRecursion (IsIn shape) l → IsIn shape c → AllByRecursion (IsIn shape) (l ++ c ∷ [])
all_append shape [] c all here = (here, tt)
all_append shape (x ∷ l) c all here = (all.0, all_append shape l c all.1 here)

all_last : (shape : Shape) (name : List ℕ) (key : ℕ) (l : List KeptCursor) → AllByRecursion (IsIn shape) l → AllByRecursion (IsIn shape) (with_last name key l)
all_last shape name key [] all = tt
all_last shape name key (c ∷ l) all = cond_both (bytes_eq c.name name) (record c { cursor = record c.cursor { last = Some key } } ∷ l) (c ∷ with_last name key l) (AllByRecursion (IsIn shape)) (λ yes. (all.0, all.1)) (λ no. (all.0, all_last shape name key l all.1))

all_without : (shape : Shape) (name : List ℕ) (l : List KeptCursor) → AllByRecursion (IsIn shape) l → AllByRecursion (IsIn shape) (without name l)
all_without shape name [] all = tt
all_without shape name (c ∷ l) all = cond_both (bytes_eq c.name name) l (c ∷ without name l) (AllByRecursion (IsIn shape)) (λ yes. all.1) (λ no. (all.0, all_without shape name l all.1))

pub named_in : (shape : Shape) (name : List ℕ) (l : List KeptCursor) (m : Cursor) → AllByRecursion (IsIn shape) l → named name l ≡ Some m → (1 ≤ m.table) × (m.table ≤ shape.tables)
named_in shape name [] m all is = (let clash : None ≡ Some m = is in absurd cc)
named_in shape name (c ∷ l) m all is =
    cond_both (bytes_eq c.name name) (Some c.cursor) (named name l) (λ (o : Option Cursor). o ≡ Some m → (1 ≤ m.table) × (m.table ≤ shape.tables))
    (λ yes e. let same : c.cursor ≡ m = cc in subst (λ (x : Cursor). (1 ≤ x.table) × (x.table ≤ shape.tables)) same all.0) (λ no e. named_in shape name l m all.1 e) is

-- How many groups end all transactions.

one_slot : (own : Option Xid) → slots_had own ≤ 1
one_slot None = omega arith
one_slot (Some x) = omega arith

owed_few : (l : List KeptSession) → ((i : ℕ) → (get_or l i fresh).count < 2 ^ 32) → owed_kept l ≤ 2 ^ 32 * length l
owed_few [] small = omega arith
owed_few (x ∷ l) small =
    let here = small 0 in
    let slot = one_slot x.own in
    let all = sum_by-cons owed_by x l in
    let rest = owed_few l (λ i. small (suc i)) in
    omega (arith, here, slot, all, rest)

-- one session's part of what is in order
pub record IsFit (shape : Shape) (k : KeptSession) : Type 0 where
  pub tables : InTables shape k
  pub own : (x : Xid) → k.own ≡ Some x → (x.seg < shape.segments) × (x.slot < SLOTS)
  pub small : k.count < 2 ^ 32
  pub idle : k.own ≡ None → k.count ≡ 0

pub fit_at : {S : Type 0} (s : Ghosts S) (kept : Kept) (store : S) → IsInStep s kept store → (u : ℕ) → IsFit (s.shape_of store) (kept_at kept.sessions u)
fit_at s kept store is u = record { tables = is.tables u; own = is.own u; small = is.small u; idle = is.idle u }

pub fit_wrote : (shape : Shape) (x : Xid) (k : KeptSession) → IsFit shape k → (x.seg < shape.segments) × (x.slot < SLOTS) → IsFit shape (wrote x k)
fit_wrote shape x k fit here = record {
  tables = fit.tables;
  own = λ y is. let same : x ≡ y = cc in subst (λ (z : Xid). (z.seg < shape.segments) × (z.slot < SLOTS)) same here;
  small = omega arith;
  idle = λ none. (let clash : Some x ≡ None = none in absurd cc);
}

fit_ended : (shape : Shape) (cursors : List KeptCursor) (k : KeptSession) → AllByRecursion (IsIn shape) cursors → IsFit shape (ended cursors k)
fit_ended shape cursors k all = record {
  tables = all_passed shape cursors all;
  own = λ x is. (let clash : None ≡ Some x = is in absurd cc);
  small = omega arith;
  idle = λ none. refl;
}

pub fit_committed : (shape : Shape) (k : KeptSession) → IsFit shape k → IsFit shape (committed k)
fit_committed shape k fit = fit_ended shape k.cursors k fit.tables

pub fit_rolled_back : (shape : Shape) (k : KeptSession) → IsFit shape k → IsFit shape (rolled_back k)
fit_rolled_back shape k fit = fit_ended shape (left_open 0 k.cursors) k (all_filter shape (λ c. not (c.cursor.present && nat_lt 0 c.cursor.upto)) k.cursors fit.tables)

fit_cursors : (shape : Shape) (k : KeptSession) (cursors : List KeptCursor) → IsFit shape k → AllByRecursion (IsIn shape) cursors → IsFit shape (with_cursors k cursors)
fit_cursors shape k cursors fit all = record { tables = all; own = fit.own; small = fit.small; idle = fit.idle }

pub fit_held : (shape : Shape) (a : Asked) (k : KeptSession) → IsFit shape k → IsFit shape (holding a k)
fit_held shape a k fit = record { tables = fit.tables; own = fit.own; small = fit.small; idle = fit.idle }

pub fit_isolated : (shape : Shape) (i : Isolation) (k : KeptSession) → IsFit shape k → IsFit shape (isolated i k)
fit_isolated shape i k fit = record { tables = fit.tables; own = fit.own; small = fit.small; idle = fit.idle }

pub fit_savepoint : (shape : Shape) (name : List ℕ) (k : KeptSession) → IsFit shape k → IsFit shape (with_savepoint name k)
fit_savepoint shape name k fit = record { tables = fit.tables; own = fit.own; small = fit.small; idle = fit.idle }

pub fit_rolled_to : (shape : Shape) (name : List ℕ) (first : ℕ) (k : KeptSession) → IsFit shape k → IsFit shape (rolled_to name first k)
fit_rolled_to shape name first k fit = record {
  tables = all_filter shape (λ c. not (c.cursor.present && nat_lt first c.cursor.upto)) k.cursors fit.tables;
  own = fit.own;
  small = let less = fit.small in omega (arith, less);
  idle = λ none. let empty = fit.idle none in omega (arith, empty);
}

pub fit_opened : (shape : Shape) (name : List ℕ) (c : Cursor) (k : KeptSession) → IsFit shape k → (1 ≤ c.table) × (c.table ≤ shape.tables) → IsFit shape (with_cursor name c k)
fit_opened shape name c k fit here = fit_cursors shape k (k.cursors ++ record { name = name; cursor = c } ∷ []) fit (all_append shape k.cursors (record { name = name; cursor = c }) fit.tables here)

pub fit_taken : (shape : Shape) (name : List ℕ) (key : ℕ) (k : KeptSession) → IsFit shape k → IsFit shape (with_cursors k (with_last name key k.cursors))
fit_taken shape name key k fit = fit_cursors shape k (with_last name key k.cursors) fit (all_last shape name key k.cursors fit.tables)

pub fit_closed : (shape : Shape) (name : List ℕ) (k : KeptSession) → IsFit shape k → IsFit shape (with_cursors k (without name k.cursors))
fit_closed shape name k fit = fit_cursors shape k (without name k.cursors) fit (all_without shape name k.cursors fit.tables)

module _ {S : Type 0} (s : Ghosts S) where
  module _ (kept now : Kept) (old new : S) (is : IsInStep s kept old) (shape : s.shape_of new ≡ s.shape_of old) (dead : now.dead ≡ kept.dead) where
    -- how many groups end all transactions
    owed_all : owed_kept kept.sessions ≤ 2 ^ 32 * length kept.sessions
    owed_all = owed_few kept.sessions (λ i. subst (λ (j : ℕ). (get_or kept.sessions j fresh).count < 2 ^ 32) (let e : i + 1 - 1 ≡ i = omega arith in e) (is.small (i + 1)))

    -- The table is as it was.
    in_step_of : now.sessions ≡ kept.sessions → IsQueue now → (now.stopped ≡ false → (s.failed new ≡ false) × (s.lsn new + owed_kept now.sessions + now.dead ≤ 2 ^ 61 + 2 ^ 60)) → IsInStep s now new
    in_step_of same queue goes =
        let at : (u : ℕ) → kept_at now.sessions u ≡ kept_at kept.sessions u = λ u. ap (λ (l : List KeptSession). kept_at l u) same in
        record {
          counted = ap (λ (l : List KeptSession). length l) same ∙ is.counted;
          tables = λ u. subst (λ (h : Shape). InTables h (kept_at now.sessions u)) (sym shape) (subst (InTables (s.shape_of old)) (sym (at u)) (is.tables u));
          own = λ u x mine. subst (λ (h : Shape). (x.seg < h.segments) × (x.slot < SLOTS)) (sym shape) (is.own u x (ap (λ (k : KeptSession). k.own) (sym (at u)) ∙ mine));
          small = λ u. let same_count = ap (λ (k : KeptSession). k.count) (at u) in let less = is.small u in omega (arith, same_count, less);
          idle = λ u none. ap (λ (k : KeptSession). k.count) (at u) ∙ is.idle u (ap (λ (k : KeptSession). k.own) (sym (at u)) ∙ none);
          queue = queue;
          going = λ going. (goes going).0;
          few = λ going. (goes going).1;
          owed = let owed = is.owed in omega (arith, dead, owed);
        }

    -- and the queue may be another one
    pub in_step_queue : now.sessions ≡ kept.sessions → IsQueue now → (now.stopped ≡ false → (s.failed new ≡ false) × (s.lsn new ≤ s.lsn old) × (kept.stopped ≡ false)) → IsInStep s now new
    in_step_queue same queue goes = in_step_of same queue (λ going.
        let w = goes going in
        let before = is.few w.2 in
        let sum : owed_kept now.sessions ≡ owed_kept kept.sessions = ap owed_kept same in
        (w.0, omega (arith, w.1, before, sum, dead)))

    -- Nothing in memory is.
    pub in_step_same : now.sessions ≡ kept.sessions → now.waits ≡ kept.waits → (now.stopped ≡ false → (s.failed new ≡ false) × (s.lsn new ≤ s.lsn old) × (kept.stopped ≡ false)) → IsInStep s now new
    in_step_same same waits goes = in_step_queue same (queue_same kept now is.queue waits (λ u. ap (λ (l : List KeptSession). (kept_at l u).asked) same)) goes

    -- The log may have grown, but not to its end.
    pub in_step_young : now.sessions ≡ kept.sessions → now.waits ≡ kept.waits → (now.stopped ≡ false → (s.failed new ≡ false) × ((s.lsn new ≤ 2 ^ 60) ⊎ (s.lsn new ≡ s.lsn old)) × (kept.stopped ≡ false)) → IsInStep s now new
    in_step_young same waits goes = in_step_of same (queue_same kept now is.queue waits (λ u. ap (λ (l : List KeptSession). (kept_at l u).asked) same)) (λ going. let w = goes going in (w.0, by w.1 w.2))
      where
        by : (s.lsn new ≤ 2 ^ 60) ⊎ (s.lsn new ≡ s.lsn old) → kept.stopped ≡ false → s.lsn new + owed_kept now.sessions + now.dead ≤ 2 ^ 61 + 2 ^ 60
        by (inl low) on = let sum = ap owed_kept same in let few = owed_all in let owed = is.owed in omega (arith, low, sum, few, is.counted, owed, dead)
        by (inr as_before) on = let sum = ap owed_kept same in let before = is.few on in omega (arith, as_before, sum, before, dead)

    -- Session u of the table is another one.
    module _ (u : ℕ) (there : (1 ≤ u) × (u ≤ SESSIONS)) (k : KeptSession) (fit : IsFit (s.shape_of old) k) (moved : now.sessions ≡ with_kept kept.sessions u k) where
      within : u - 1 < length kept.sessions
      within = omega (arith, there, is.counted)

      at_it : (r : ℕ) → r - 1 ≡ u - 1 → kept_at now.sessions r ≡ k
      at_it r here = ap (λ (l : List KeptSession). kept_at l r) moved ∙ (ap (λ (i : ℕ). get_or (set kept.sessions (u - 1) k) i fresh) here ∙ get_or-set_same kept.sessions (u - 1) k fresh within)

      other : (r : ℕ) → (r - 1 ≡ u - 1 → ⊥) → kept_at now.sessions r ≡ kept_at kept.sessions r
      other r off = ap (λ (l : List KeptSession). kept_at l r) moved ∙ get_or-set_other kept.sessions (u - 1) (r - 1) k fresh off

      fit_now : (r : ℕ) → IsFit (s.shape_of new) (kept_at now.sessions r)
      fit_now r = subst (λ (h : Shape). IsFit h (kept_at now.sessions r)) (sym shape) (elim (cases_eq (r - 1) (u - 1)) [
        | inl here ↦ subst (IsFit (s.shape_of old)) (sym (at_it r here)) fit
        | inr off ↦ subst (IsFit (s.shape_of old)) (sym (other r off)) (fit_at s kept old is r)
      ])

      pub sum_moved : owed_kept now.sessions + owed_by (kept_at kept.sessions u) ≡ owed_kept kept.sessions + owed_by k
      sum_moved = ap (λ (l : List KeptSession). owed_kept l + owed_by (kept_at kept.sessions u)) moved ∙ sum_by-set owed_by kept.sessions (u - 1) k fresh within

      -- the writes that sessions wait with stay
      asked_stays : k.asked ≡ (kept_at kept.sessions u).asked → (r : ℕ) → (kept_at now.sessions r).asked ≡ (kept_at kept.sessions r).asked
      asked_stays same r = ap (λ (l : List KeptSession). (kept_at l r).asked) moved ∙ asked_set kept.sessions (u - 1) (r - 1) k same

      -- so the queue is in order, as it was, or with those ready that waited for the session
      pub queue_moved : k.asked ≡ (kept_at kept.sessions u).asked → (now.waits ≡ kept.waits) ⊎ (now.waits ≡ freed_by u kept.waits) → IsQueue now
      queue_moved same (inl waits) = queue_same kept now is.queue waits (asked_stays same)
      queue_moved same (inr waits) = queue_freed kept now u is.queue waits (asked_stays same)

      pub in_step_moved : IsQueue now → (now.stopped ≡ false → (s.failed new ≡ false) × (s.lsn new + owed_kept now.sessions + now.dead ≤ 2 ^ 61 + 2 ^ 60)) → IsInStep s now new
      in_step_moved queue goes = record {
        counted = ap (λ (l : List KeptSession). length l) moved ∙ (length-set kept.sessions (u - 1) k ∙ is.counted);
        tables = λ r. (fit_now r).tables;
        own = λ r. (fit_now r).own;
        small = λ r. (fit_now r).small;
        idle = λ r. (fit_now r).idle;
        queue = queue;
        going = λ going. (goes going).0;
        few = λ going. (goes going).1;
        owed = let owed = is.owed in omega (arith, dead, owed);
      }

      -- A change more, behind a log number that isn't worn out.
      pub few_wrote : s.lsn new ≤ 2 ^ 60 → k.count < 2 ^ 32 → s.lsn new + owed_kept now.sessions + now.dead ≤ 2 ^ 61 + 2 ^ 60
      few_wrote low small =
          let sum = sum_moved in
          let slot = one_slot k.own in
          let few = owed_all in
          let owed = is.owed in
          omega (arith, low, small, slot, sum, few, is.counted, owed, dead)

      -- As many groups end them all as before, or fewer by as many as were given.
      pub few_less : kept.stopped ≡ false → s.lsn new + owed_by k ≤ s.lsn old + owed_by (kept_at kept.sessions u) → s.lsn new + owed_kept now.sessions + now.dead ≤ 2 ^ 61 + 2 ^ 60
      few_less going less = let sum = sum_moved in let before = is.few going in omega (arith, less, sum, before, dead)

      -- The log may have grown, but not to its end.
      pub few_young : kept.stopped ≡ false → k.count < 2 ^ 32 → owed_by k ≡ owed_by (kept_at kept.sessions u) → (s.lsn new ≤ 2 ^ 60) ⊎ (s.lsn new ≡ s.lsn old) → s.lsn new + owed_kept now.sessions + now.dead ≤ 2 ^ 61 + 2 ^ 60
      few_young going small owed (inl low) = few_wrote low small
      few_young going small owed (inr same) = few_less going (omega (arith, same, owed))
