-- What the put back of a transaction's changes leaves, change by change, from the groups of its steps.
use Rattle.std.proofs.Common.{◌≡◌, ◌<◌, ◌≤◌, ◌+◌, ◌-◌, ◌*◌, ◌^◌, ◌∷◌, ◌++◌, ⊎_elim, ℕ, zero, suc, Bool, true, false, not, List, [], length, length-append, map, set, take, Option, Some, None, Result, Ok, Err, OnOk, refl, sym, ◌∙◌, ap, subst, arith}
use Rattle.rb_base.specs.declared.sizes.TheConstants.{SLOTS}
use Rattle.law_copies.proofs.Ages.{back_ages, end_ages}
use Rattle.law_aging.proofs.Aging as aging
use Rattle.law_aging.specs.Kept.{SegmentsAge}
use Rattle.std.proofs.Math.Nat.{div-add-mod}
use Rattle.std.proofs.lemmas.Bool.{cases_lt}
use Rattle.std.proofs.lemmas.List.{set-set, take_all}
use Rattle.std.specs.Result.{is_err}
use Rattle.rb_write.specs.Asks.{header_in}
use Rattle.rb_base.specs.Blocks.{after_groups}
use Rattle.rb_base.specs.Counts.{IsCounted}
use Rattle.rb_base.specs.Groups.{Patch}
use Rattle.rb_base.specs.Logs.{Laws, Logs, LogsBy, more_logs, no_logs}
use Rattle.rb_base.specs.declared.ids.Xid.{Xid}
use Rattle.rb_base.specs.declared.shape.Shape.{Shape}
use Rattle.rb_base.specs.declared.store.Store.{Ghosts}
use Rattle.law_crash.specs.Between.{MarksGrow}
use Rattle.law_crash.specs.Crash.{Survives}
use Rattle.law_crash.specs.Holds.{Holds}
use Rattle.law_crash.specs.Images.{HasSome}
use Rattle.law_crash.specs.Made.{BackMade, BackOver, EndMade, GivesOne, KeepsIds}
use Rattle.law_crash.proofs.Crashes.{extends_same, grow_same, has_later, has_state, some_last, some_later, survives_on}
use Rattle.law_crash.proofs.Marks.{shrinks_left}
use Rattle.law_crash.proofs.Owners.{OwnedBy, owned_by, same_owners}
use Rattle.law_crash.proofs.Steps.{keeps_on, none_each, read_has, survives_going}
use Rattle.law_crash.proofs.StepsHeld.{few_each, holds_back, holds_ended}
use Rattle.rb_model.specs.Book.{Book}
use Rattle.rb_model.specs.Calls.{Call, Owned}
use Rattle.rb_model.specs.Change.{Change}
use Rattle.rb_model.specs.NextState.{ended, not_present, without_owner}
use Rattle.rb_model.specs.Rows.{last_scn}
use Rattle.rb_model.specs.State.{Session, State, no_session, session_own, with_changes}
use Rattle.rb_segment.specs.Calls.{Runs}
use Rattle.law_blocks.proofs.SegmentRead.{header_is}
use Rattle.law_blocks.specs.Groups.{IsPutBack, last_record}
use Rattle.rb_model.specs.NextState.{with_own}
use Rattle.rb_undoblock.specs.declared.record.UndoRecord.{UndoRecord}
use Rattle.law_blocks.specs.Standing.{env_of, logged_of, segments_of}
use Rattle.law_blocks.specs.States.{BlocksStand, Owns}
use Rattle.rb_steps.proofs.LeftOwn.{last_of, own_again, own_all, own_left}
use Rattle.law_write.specs.Verdict.{IsOwnId}
use Rattle.law_home.specs.Walk.{Env, own}
use Rattle.rb_rollback.specs.Backs.{Fails, PutsAllBack, PutsBack, SameIds, SameStore}

-- the header of a segment, read as the steps read it
pub runs_in : (h : State) (blocks : List (List ℕ)) (x : Xid) → Runs (segments_of h.shape blocks x.seg).header x → Runs (header_in h.shape blocks x.seg) x
runs_in h blocks x runs = subst (λ k. Runs k x) (header_is h.shape blocks x.seg) runs

module _ {S : Type 0} (s : Ghosts S) (told : s.tells) (laws : Laws s) where
  -- Calls that gave no group leave a state with the same commits, books and acknowledgements.
  pub survives_same : {Between : S → S → Type 0} {fault : Option Call} → (h h2 : State) (xids : List Xid) (old new : S) (going : Bool) → s.shape_of old ≡ h.shape → h2.shape ≡ h.shape → h2.commits ≡ h.commits → h2.books ≡ h.books → h2.safe ≡ h.safe → Holds s h xids old
      → LogsBy s Between old new [] going → s.keeps → Survives s (s.slots old) fault h h2 old new
  survives_same h h2 xids old new going shape shapes commits books safe holds logs keeps =
      let P : List (List ℕ) → ℕ → Type 0 = HasSome h h.books in
      let grow = subst (λ l. MarksGrow h.shape h.books l) (sym books) (grow_same h.shape h.books) in
      let stays = extends_same h h2 shapes commits grow (omega (arith, safe)) in
      survives_going s laws keeps h h2 old new [] shape stays (omega (arith, safe)) (holds.images keeps) going logs
      (none_each s laws keeps (HasSome h2 h2.books) (s.blocks old) (s.lsn old) (some_later h h2 h.books h2.books (s.blocks old) (s.lsn old) stays (omega (arith, safe)) grow (read_has s laws keeps P old (holds.images keeps))))

  -- Calls that gave no group and went well leave what the store has.
  pub holds_logged : {Between : S → S → Type 0} (h : State) (xids : List Xid) (old new : S) → Holds s h xids old → LogsBy s Between old new [] true → Holds s h xids new
  holds_logged h xids old new holds logs =
      let P : List (List ℕ) → ℕ → Type 0 = HasSome h h.books in
      let same : s.blocks new ≡ s.blocks old = logs.blocks told refl in
      let number : s.lsn new ≡ s.lsn old = omega (arith, logs.number refl) in record {
        blocks = subst (BlocksStand h xids) (sym same) holds.blocks;
        logged = number ∙ holds.logged ∙ ap (logged_of h.shape) (sym same);
        images = λ keeps. keeps_on s laws keeps P P (λ b n has. has) old new [] (holds.images keeps) logs
            (none_each s laws keeps P (s.blocks old) (s.lsn old) (read_has s laws keeps P old (holds.images keeps)));
      }

-- An id stays its session's over a step that changes no owner.
pub id_kept : (h h2 : State) (env env2 : Env) (who : ℕ) (own : Option Xid) → h2.books ≡ h.books → KeepsIds h env env2 → IsOwnId h env who own → IsOwnId h2 env2 who own
id_kept h h2 env env2 who own books ids id = record {
  owns = λ t o.
      let was : Owns h who t = record { owner = o.owner; at = sym (same_owners h h2 t books) ∙ o.at; session = o.session } in
      id.owns t was ∙ ap (λ (y : Xid). Some y) (sym (ids who t was));
  owned = λ x is.
      let f : (t : ℕ) × Owns h who t × (x ≡ env.xid t) = id.owned x is in
      (f.0, record { owner = f.1.owner; at = same_owners h h2 f.0 books ∙ f.1.at; session = f.1.session }, f.2 ∙ sym (ids who f.0 f.1));
}

ids_on : (h m : State) (a b c : Env) → m.books ≡ h.books → KeepsIds h a b → KeepsIds m b c → KeepsIds h a c
ids_on h m a b c books one two u t owns = two u t (record { owner = owns.owner; at = same_owners h m t books ∙ owns.at; session = owns.session }) ∙ one u t owns

-- what is left of a list behind so many items that all but `kept` go
take_kept : (l : List Change) (kept : ℕ) → take (length l - (length l - kept)) l ≡ take kept l
take_kept l kept = ⊎_elim
    (λ (few : kept < length l). ap (λ (n : ℕ). take n l) (let same : length l - (length l - kept) ≡ kept = omega (arith, few) in same))
    (λ (all : length l ≤ kept). take_all (length l - (length l - kept)) l (omega (arith, all)) ∙ sym (take_all kept l all))
    (cases_lt kept (length l))

-- one more is put back, behind all others
back_more : (shape : Shape) (t n : ℕ) (a b c : List (List ℕ)) → BackOver shape t n a b → IsPutBack shape t (last_record shape b t) b c → BackOver shape t (suc n) a c
back_more shape t zero a b c same last = (c, subst (λ (z : List (List ℕ)). IsPutBack shape t (last_record shape z t) z c) same last, refl)
back_more shape t (suc n) a b c (middle, first, rest) last = (middle, first, back_more shape t n middle b c rest last)

-- the slot that a session owns, as its id names it
slot_named : (h : State) (env : Env) (who t : ℕ) (x : Xid) → IsOwnId h env who (Some x) → Owns h who t → x ≡ env.xid t
slot_named h env who t x id owns = let same : Some x ≡ Some (env.xid t) = id.owns t owns in cc

module _ {S : Type 0} (s : Ghosts S) where
  -- The state with these changes left is what the store has, so many groups later, and of a crash no more is left.
  pub record IsLeft (h : State) (xids : List Xid) (who : ℕ) (x : Xid) (left : List Change) (turn : ℕ) (old now : S) : Type 0 where
    pub holds : Holds s (with_own h who left) xids now
    pub ids : SameIds s h old now
    pub id : IsOwnId (with_own h who left) (env_of h.shape (s.blocks now)) who (Some x)
    pub lsn : s.lsn now ≡ s.lsn old + turn
    pub survives : (before : Option Call) → s.keeps → Survives s (s.slots old) before h (with_own h who left) old now
    pub back : BackOver h.shape (SLOTS * x.seg + x.slot) turn (s.blocks old) (s.blocks now)
    pub ages : SegmentsAge (segments_of h.shape (s.blocks old)) (segments_of h.shape (s.blocks now))

  -- a state that a rollback of so many changes starts from
  pub record Starts (h : State) (xids : List Xid) (who : ℕ) (x : Xid) (count : ℕ) (old : S) : Type 0 where
    pub shape : s.shape_of old ≡ h.shape
    pub holds : Holds s h xids old
    pub low : 1 ≤ who
    pub high : who ≤ length h.sessions
    pub id : IsOwnId h (env_of h.shape (s.blocks old)) who (Some x)
    pub going : h.stopped ≡ false
    pub own : count ≤ length (session_own h who)

  -- As many of `count` changes are put back.
  pub record PutBacks (x : Xid) (count turn : ℕ) (old now : S) : Type 0 where
    pub groups : List (List Patch)
    pub logs : Logs s old now groups true
    pub few : length groups ≤ turn
    pub left : s.tells → (h : State) (xids : List Xid) (who : ℕ) → Starts h xids who x count old → IsLeft h xids who x (take (length (session_own h who) - turn) (session_own h who)) turn old now

  -- what groups are to a count of faults, and to the store's shape
  pub logs_counted : {T E : Type 0} (old new : S) (groups : List (List Patch)) (r : Result T E) → Logs s old new groups (not (is_err r)) → IsCounted (s.faults old) (s.faults new) r
  logs_counted old new groups (Ok value) logs = record { no_less = logs.no_less; cause = tt; still = logs.still refl }
  logs_counted old new groups (Err fault) logs = record { no_less = logs.no_less; cause = logs.cause refl; still = tt }

  pub logs_same : (old new : S) (groups : List (List Patch)) (going : Bool) → Logs s old new groups going → SameStore s old new
  logs_same old new groups going logs = record { shape = logs.same_shape; slots = logs.same_slots }

  pub logs_number : {T E : Type 0} (old new : S) (groups : List (List Patch)) (n : ℕ) (r : Result T E) → Logs s old new groups (not (is_err r)) → length groups ≤ n + 1 → OnOk r (s.lsn new ≤ s.lsn old + n + 1)
  logs_number old new groups n (Ok value) logs few = omega (arith, few, logs.number refl)
  logs_number old new groups n (Err fault) logs few = tt

  module _ (told : s.tells) (laws : Laws s) where
    -- A step that failed, whose group leaves the commits and no more marks: whatever changes the sessions have left.
    step_fails : {fault : Option Call} → (m : State) (xids : List Xid) (old new : S) (all left : List Session) (books : List Book) (Is : List (List ℕ) → Type 0) → s.shape_of old ≡ m.shape → Holds s m xids old → MarksGrow m.shape books m.books
        → ((now : List (List ℕ)) → Is now → BlocksStand (record m { sessions = left; books = books }) xids now × (logged_of m.shape now ≡ logged_of m.shape (s.blocks old) + 1))
        → GivesOne s old new false Is → s.keeps → Survives s (s.slots old) fault m (record m { sessions = all; stopped = true }) old new
    step_fails m xids old new all left books Is shape holds marks is one keeps =
        let P : List (List ℕ) → ℕ → Type 0 = HasSome m m.books in
        let h2 : State = record m { sessions = all; stopped = true } in
        let h3 : State = record m { sessions = left; books = books } in
        let Q : List (List ℕ) → ℕ → Type 0 = HasSome h2 h2.books in
        let stays = extends_same m h2 refl refl (grow_same m.shape m.books) (omega arith) in
        let was = read_has s laws keeps P old (holds.images keeps) in
        let now = after_groups (s.lsn old + 1) one.groups (s.blocks old) in
        let after : 1 ≤ length one.groups → Q now (s.lsn old + 1) = λ some.
        let k = is now (one.made some) in
        some_last h2 h2.books now (s.lsn old + 1) (omega (arith, was.acknowledged, was.made))
        (has_later h3 h2 books m.books (last_scn m.commits) now (s.lsn old + 1) refl refl marks
        (has_state h3 xids now (s.lsn old + 1) k.0 (ap (λ (n : ℕ). n + 1) holds.logged ∙ sym k.1))) in
        survives_going s laws keeps m h2 old new one.groups shape stays (omega arith) (holds.images keeps) false one.logs
        (few_each s told laws Q one.groups (s.blocks old) (s.lsn old) keeps one.few (some_later m h2 m.books h2.books (s.blocks old) (s.lsn old) stays (omega arith) (grow_same m.shape m.books) was) after)

    -- the slot that the transaction has, with some changes left
    id_left : (h : State) (xids : List Xid) (who : ℕ) (x : Xid) (left : List Change) (turn : ℕ) (old now : S) → (is : IsLeft h xids who x left turn old now) → OwnedBy (with_own h who left) (s.blocks now) who x
    id_left h xids who x left turn old now is = owned_by (with_own h who left) xids (s.blocks now) who x is.holds.blocks is.id

    module _ (h : State) (xids : List Xid) (who : ℕ) (x : Xid) (count : ℕ) (old mid new : S) (st : Starts h xids who x count old) (same : SameStore s old mid) where
      -- the calls before, and a step that failed
      fails_on : (fault : Option Call) (a : List Change) (turn : ℕ) → IsLeft h xids who x a turn old mid → (s.keeps → Survives s (s.slots mid) fault (with_own h who a) (record h { stopped = true }) mid new) → Fails s fault h old new
      fails_on fault a turn left step keeps = survives_on s (s.slots old) h (with_own h who a) (record h { stopped = true }) old mid new st.going (left.survives fault keeps)
          (subst (λ (k : Option ℕ). Survives s k fault (with_own h who a) (record h { stopped = true }) mid new) same.slots (step keeps))

      module _ (a front : List Change) (turn : ℕ) (left : IsLeft h xids who x a turn old mid) where
        pub back_fails : GivesOne s mid new false (λ now. BackMade (with_own h who a) xids who front (s.blocks mid) now) → (fault : Option Call) → Fails s fault h old new
        back_fails one fault =
            let m : State = with_own h who a in
            fails_on fault a turn left (step_fails m xids mid new h.sessions (set m.sessions (who - 1) (with_changes m who front)) m.books (λ now. BackMade m xids who front (s.blocks mid) now) (same.shape ∙ st.shape) left.holds (grow_same m.shape m.books)
            (λ now made. (made.stand, made.last)) one)

        pub back_done : GivesOne s mid new true (λ now. BackMade (with_own h who a) xids who front (s.blocks mid) now) → IsLeft h xids who x front (turn + 1) old new
        back_done one =
            let m : State = with_own h who a in
            let all : (before : Option Call) → Holds s (with_own m who front) xids new × (s.keeps → Survives s (s.slots mid) before m (with_own m who front) mid new) = λ before. holds_back s told laws m xids who mid new front (same.shape ∙ st.shape) left.holds before one in
            let again : with_own m who front ≡ with_own h who front = own_again h who st.low st.high a front in
            let made : BackMade m xids who front (s.blocks mid) (s.blocks new) = subst (λ b. BackMade m xids who front (s.blocks mid) b) (sym (one.logs.blocks told refl)) (one.made (let k = one.one refl in omega (arith, k))) in
            record {
              holds = subst (λ (z : State). Holds s z xids new) again (all None).0;
              ids = ids_on h m (env_of h.shape (s.blocks old)) (env_of h.shape (s.blocks mid)) (env_of h.shape (s.blocks new)) refl left.ids made.ids;
              id = id_kept m (with_own h who front) (env_of h.shape (s.blocks mid)) (env_of h.shape (s.blocks new)) who (Some x) refl made.ids left.id;
              lsn = let n = one.logs.number refl in let k = one.one refl in omega (arith, n, k, left.lsn);
              survives = λ before keeps. subst (λ (z : State). Survives s (s.slots old) before h z old new) again
                  (survives_on s (s.slots old) h m (with_own m who front) old mid new st.going (left.survives before keeps) (subst (λ (k : Option ℕ). Survives s k before m (with_own m who front) mid new) same.slots ((all before).1 keeps)));
              back =
                  let named = slot_named m (env_of h.shape (s.blocks mid)) who made.slot x left.id made.owns in
                  let parts = div-add-mod made.slot SLOTS in
                  let at : made.slot ≡ SLOTS * x.seg + x.slot = omega (arith, parts, ap (λ (z : Xid). z.seg) named, ap (λ (z : Xid). z.slot) named) in
                  let put : IsPutBack h.shape (SLOTS * x.seg + x.slot) (last_record h.shape (s.blocks mid) (SLOTS * x.seg + x.slot)) (s.blocks mid) (s.blocks new) =
                  subst (λ (t : ℕ). IsPutBack h.shape t (last_record h.shape (s.blocks mid) t) (s.blocks mid) (s.blocks new)) at
                  (subst (λ (u : UndoRecord). IsPutBack h.shape made.slot u (s.blocks mid) (s.blocks new)) (sym made.newest) made.group) in
                  let next : suc turn ≡ turn + 1 = omega arith in
                  subst (λ (n : ℕ). BackOver h.shape (SLOTS * x.seg + x.slot) n (s.blocks old) (s.blocks new)) next (back_more h.shape (SLOTS * x.seg + x.slot) turn (s.blocks old) (s.blocks mid) (s.blocks new) left.back put);
              ages = aging.joined (segments_of h.shape (s.blocks old)) (segments_of h.shape (s.blocks mid)) (segments_of h.shape (s.blocks new)) left.ages (back_ages m xids (s.blocks mid) (s.blocks new) left.holds.blocks who front made);
            }

      -- the end of the slot, once no change is left
      pub ends_all : length (session_own h who) ≡ count → (left : IsLeft h xids who x [] count old mid) (going : Bool) → GivesOne s mid new going (λ now. EndMade (with_own h who []) xids who x (s.blocks mid) now) → PutsAllBack s h xids who x old new going
      ends_all whole left true one = λ cursors.
          let m : State = with_own h who [] in
          let all : (before : Option Call) → Holds s (without_owner x.seg x.slot (ended m who cursors)) xids new × (s.keeps → Survives s (s.slots mid) before m (without_owner x.seg x.slot (ended m who cursors)) mid new) = λ before. holds_ended s told laws m xids who x mid new (same.shape ∙ st.shape) left.holds before cursors one in
          let made : EndMade m xids who x (s.blocks mid) (s.blocks new) = subst (λ b. EndMade m xids who x (s.blocks mid) b) (sym (one.logs.blocks told refl)) (one.made (let k = one.one refl in omega (arith, k))) in
          let again : without_owner x.seg x.slot (ended m who cursors) ≡ without_owner x.seg x.slot (ended h who cursors) =
          ap (λ (z : List Session). without_owner x.seg x.slot (record h { sessions = z })) (set-set h.sessions (who - 1) (with_changes h who []) (record no_session { cursors = map not_present cursors })) in (
            subst (λ (z : State). Holds s z xids new) again (all None).0,
            ids_on h m (env_of h.shape (s.blocks old)) (env_of h.shape (s.blocks mid)) (env_of h.shape (s.blocks new)) refl left.ids made.ids,
            (let n = one.logs.number refl in let k = one.one refl in omega (arith, n, k, left.lsn, whole)),
            λ before keeps. subst (λ (z : State). Survives s (s.slots old) before h z old new) again
                (survives_on s (s.slots old) h m (without_owner x.seg x.slot (ended m who cursors)) old mid new st.going (left.survives before keeps)
                (subst (λ (k : Option ℕ). Survives s k before m (without_owner x.seg x.slot (ended m who cursors)) mid new) same.slots ((all before).1 keeps))),
            (s.blocks mid, subst (λ (n : ℕ). BackOver h.shape (SLOTS * x.seg + x.slot) n (s.blocks old) (s.blocks mid)) (sym whole) left.back, made.group),
            aging.joined (segments_of h.shape (s.blocks old)) (segments_of h.shape (s.blocks mid)) (segments_of h.shape (s.blocks new)) left.ages (end_ages m xids (s.blocks mid) (s.blocks new) left.holds.blocks who x (id_left h xids who x [] count old mid left).owned made),
          )
      ends_all whole left false one = λ fault.
          let m : State = with_own h who [] in
          let id = id_left h xids who x [] count old mid left in
          let ends : State = without_owner x.seg x.slot (ended m who []) in
          fails_on fault [] count left (step_fails m xids mid new h.sessions ends.sessions ends.books (λ now. EndMade m xids who x (s.blocks mid) now) (same.shape ∙ st.shape) left.holds (shrinks_left m.shape m.books x.seg x.slot left.holds.blocks.tell.books_counted)
          (λ now made. (made.stand [], made.last)) one)

  -- Before the first.
  pub none_back : (laws : Laws s) (x : Xid) (count : ℕ) (old : S) → s.failed old ≡ false → PutBacks x count 0 old old
  none_back laws x count old runs = record {
    groups = [];
    logs = no_logs s old runs;
    few = omega arith;
    left = λ told h xids who st.
        let all : h ≡ with_own h who (take (length (session_own h who) - 0) (session_own h who)) = sym (ap (with_own h who) (take_all (length (session_own h who) - 0) (session_own h who) (omega arith)) ∙ own_all h who) in
        record {
          holds = subst (λ (z : State). Holds s z xids old) all st.holds;
          ids = λ u t owns. refl;
          id = subst (λ (z : State). IsOwnId z (env_of h.shape (s.blocks old)) who (Some x)) all st.id;
          lsn = omega arith;
          survives = λ before keeps. subst (λ (z : State). Survives s (s.slots old) before h z old old) all
              (survives_same s told laws h h xids old old true st.shape refl refl refl refl st.holds (no_logs s old runs) keeps);
          back = refl;
          ages = aging.same (segments_of h.shape (s.blocks old));
        };
  }

  -- What a step of one change, and the end of the slot, say of the state that they are called for.
  abbrev pub BackGives : S → S → Xid → Bool → Type 0
  BackGives old new x going = s.tells → (h : State) (xids : List Xid) (who : ℕ) (front : List Change) (c : Change) → BlocksStand h xids (s.blocks old) → s.shape_of old ≡ h.shape → Owned h who x.seg x.slot → Runs (header_in h.shape (s.blocks old) x.seg) x
      → session_own h who ≡ front ++ c ∷ [] → s.lsn old ≡ logged_of h.shape (s.blocks old) → GivesOne s old new going (BackMade h xids who front (s.blocks old))

  abbrev pub EndGives : S → S → Xid → Bool → Type 0
  EndGives old new x going = s.tells → (h : State) (xids : List Xid) (who : ℕ) → BlocksStand h xids (s.blocks old) → s.shape_of old ≡ h.shape → Owned h who x.seg x.slot → Runs (header_in h.shape (s.blocks old) x.seg) x
      → session_own h who ≡ [] → s.lsn old ≡ logged_of h.shape (s.blocks old) → GivesOne s old new going (EndMade h xids who x (s.blocks old))

  module _ (x : Xid) (count turn : ℕ) (old mid : S) (first : PutBacks x count turn old mid) where
    same : SameStore s old mid
    same = record { shape = first.logs.same_shape; slots = first.logs.same_slots }

    -- the groups of one call more, also of one that fails
    pub groups_more : (new : S) (going : Bool) → (groups : List (List Patch)) × Logs s mid new groups going × (length groups ≤ 1) → (groups : List (List Patch)) × Logs s old new groups going × (length groups ≤ turn + 1)
    groups_more new going second = (first.groups ++ second.0, more_logs s old mid new first.groups second.0 going first.logs second.1, (let f = first.few in let l = length-append first.groups second.0 in let w = second.2 in omega (arith, f, l, w)))

    pub there : x.seg < (s.shape_of old).segments → x.seg < (s.shape_of mid).segments
    there is = subst (λ (z : Shape). x.seg < z.segments) (sym first.logs.same_shape) is

    pub few_left : turn ≤ count → s.lsn old + count < 2 ^ 62 → s.lsn mid < 2 ^ 62
    few_left turns is = let n = first.logs.number refl in let f = first.few in omega (arith, is, n, f, turns)

    module _ (laws : Laws s) (more : turn < count) where
      -- what the next call is about
      about : (told : s.tells) (h : State) (xids : List Xid) (who : ℕ) (st : Starts h xids who x count old) (new : S) (going : Bool) → BackGives mid new x going
          → (a : List Change) × (left : IsLeft h xids who x a turn old mid) × GivesOne s mid new going (λ now. BackMade (with_own h who a) xids who (take (length (session_own h who) - (turn + 1)) (session_own h who)) (s.blocks mid) now)
      about told h xids who st new going gives =
          let mine = session_own h who in
          let m = length mine - (turn + 1) in
          let a = take (length mine - turn) mine in
          let left = first.left told h xids who st in
          let id = id_left told laws h xids who x a turn old mid left in
          let last : (c : Change) × (take (suc m) mine ≡ take m mine ++ c ∷ []) = last_of mine m (omega (arith, st.own, more)) in
          let count_is : length mine - turn ≡ suc m = omega (arith, st.own, more) in
          let front : a ≡ take m mine ++ last.0 ∷ [] = ap (λ (n : ℕ). take n mine) count_is ∙ last.1 in (
            a,
            left,
            gives told (with_own h who a) xids who (take m mine) last.0 left.holds.blocks (same.shape ∙ st.shape) id.owned (runs_in (with_own h who a) (s.blocks mid) x id.runs)
                (own_left h who st.low st.high a ∙ front) left.holds.logged,
          )

      pub one_fails : (new : S) → BackGives mid new x false → s.tells → (h : State) (xids : List Xid) (who : ℕ) → Starts h xids who x count old → (fault : Option Call) → Fails s fault h old new
      one_fails new gives told h xids who st fault = let w = about told h xids who st new false gives in back_fails told laws h xids who x count old mid new st same w.0 (take (length (session_own h who) - (turn + 1)) (session_own h who)) turn w.1 w.2 fault

      pub one_more : (new : S) → (groups : List (List Patch)) × Logs s mid new groups true × (length groups ≤ 1) → BackGives mid new x true → PutBacks x count (turn + 1) old new
      one_more new second gives =
          let g = groups_more new true second in record {
            groups = g.0;
            logs = g.1;
            few = g.2;
            left = λ told h xids who st. let w = about told h xids who st new true gives in back_done told laws h xids who x count old mid new st same w.0 (take (length (session_own h who) - (turn + 1)) (session_own h who)) turn w.1 w.2;
          }

    -- As many are as were asked for.
    pub some_back : turn ≡ count → s.tells → (h : State) (xids : List Xid) (who kept : ℕ) → count ≡ length (session_own h who) - kept → Starts h xids who x count old → PutsBack s h xids who kept x old mid true
    some_back is told h xids who kept count_is st =
        let mine = session_own h who in
        let l : IsLeft h xids who x (take (length mine - turn) mine) turn old mid = first.left told h xids who st in
        let front : take (length mine - turn) mine ≡ take kept mine = ap (λ (n : ℕ). take (length mine - n) mine) (is ∙ count_is) ∙ take_kept mine kept in
        let left : IsLeft h xids who x (take kept mine) turn old mid = subst (λ (c : List Change). IsLeft h xids who x c turn old mid) front l in (
          left.holds,
          left.ids,
          (let n = left.lsn in omega (arith, n, is, count_is)),
          left.survives,
          subst (λ (n : ℕ). BackOver h.shape (SLOTS * x.seg + x.slot) n (s.blocks old) (s.blocks mid)) (is ∙ count_is) left.back,
          left.ages,
        )

    -- All are.
    pub all_back : Laws s → turn ≡ count → (new : S) (going : Bool) → EndGives mid new x going → s.tells → (h : State) (xids : List Xid) (who : ℕ) → length (session_own h who) ≡ count → Starts h xids who x count old → PutsAllBack s h xids who x old new going
    all_back laws is new going gives told h xids who whole st =
        let none : take (length (session_own h who) - turn) (session_own h who) ≡ [] = ap (λ (n : ℕ). take n (session_own h who)) (let z : length (session_own h who) - turn ≡ 0 = omega (arith, is, whole) in z) in
        let left : IsLeft h xids who x [] count old mid = subst (λ (n : ℕ). IsLeft h xids who x [] n old mid) is (subst (λ (l : List Change). IsLeft h xids who x l turn old mid) none (first.left told h xids who st)) in
        let id = id_left told laws h xids who x [] count old mid left in
        ends_all told laws h xids who x count old mid new st same whole left going
        (gives told (with_own h who []) xids who left.holds.blocks (same.shape ∙ st.shape) id.owned (runs_in (with_own h who []) (s.blocks mid) x id.runs) (own_left h who st.low st.high []) left.holds.logged)

module _ {S : Type 0} (s : Ghosts S) where
  -- What calls that put back so many changes and went well say of it, as the next step asks for it.
  pub put_back_as : (x : Xid) (count : ℕ) (old mid : S) → (groups : List (List Patch)) × Logs s old mid groups true × (length groups ≤ count)
      → (s.tells → (h : State) (xids : List Xid) (who kept : ℕ) → s.shape_of old ≡ h.shape → Holds s h xids old → 1 ≤ who → who ≤ length h.sessions → IsOwnId h (env_of h.shape (s.blocks old)) who (Some x) → h.stopped ≡ false → count ≡ length (session_own h who) - kept → PutsBack s h xids who kept x old mid true)
      → PutBacks s x count count old mid
  put_back_as x count old mid all puts = record {
    groups = all.0;
    logs = all.1;
    few = all.2;
    left = λ told h xids who st.
        let mine = session_own h who in
        let kept = length mine - count in
        let p = puts told h xids who kept st.shape st.holds st.low st.high st.id st.going (let own = st.own in omega (arith, own)) in
        record {
          holds = p.0;
          ids = p.1;
          id = id_kept h (with_own h who (take kept mine)) (env_of h.shape (s.blocks old)) (env_of h.shape (s.blocks mid)) who (Some x) refl p.1 st.id;
          lsn = let n = p.2 in let own = st.own in omega (arith, n, own);
          survives = p.3;
          back = let n : length mine - kept ≡ count = let own = st.own in omega (arith, own) in subst (λ (k : ℕ). BackOver h.shape (SLOTS * x.seg + x.slot) k (s.blocks old) (s.blocks mid)) n p.4;
          ages = p.5;
        };
  }

-- what holds where a call went well
pub ok_by : {T E : Type 0} {P : Type 0} (r : Result T E) → (not (is_err r) ≡ true → P) → OnOk r P
ok_by (Ok value) so = so refl
ok_by (Err error) so = tt
