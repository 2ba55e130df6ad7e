-- A write that is done is one that no test refuses, and after it the blocks stand for the machine's next state.
use Rattle.std.proofs.Common.{◌≡◌, inl, inr, ◌<◌, ◌≤◌, ◌+◌, ◌-◌, ◌*◌, ◌/◌, ◌%◌, ◌^◌, ◌==◌, ◌++◌, if◌then◌else◌, ℕ, Bool, true, false, List, [], ◌∷◌, length, set, Some, is_some, sym, ◌∙◌, ap, subst, arith}
use Rattle.rb_write.specs.Asks.{IsWriterOf, adds_for, home_for, kind_of}
use Rattle.rb_write.specs.Refusals.{TakesAsk}
use Rattle.rb_write.specs.declared.ask.Ask.{Ask}
use Rattle.rb_base.specs.Blocks.{block_of, table_blocks}
use Rattle.rb_base.specs.declared.ids.Uba.{Uba}
use Rattle.rb_base.specs.declared.ids.Xid.{Xid}
use Rattle.rb_base.specs.declared.sizes.TheConstants.{SLOTS, WORN}
use Rattle.rb_heap.specs.Choices.{HasNoChoice, IsEntryChoice}
use Rattle.rb_heap.specs.Cleaning.{cleaned_home}
use Rattle.rb_heap.specs.Homes.{Home, home_entry, home_of}
use Rattle.rb_model.specs.Book.{Book, Owner, book_at, marked, taken}
use Rattle.rb_model.specs.Calls.{Done, first_of, has_slot, write_tests}
use Rattle.rb_model.specs.Change.{Change, Place}
use Rattle.rb_model.specs.State.{State, owner_at, session_own, with_changes}
use Rattle.rb_model.specs.NextState.{change_in, written}
use Rattle.rb_segment.specs.Header.{Header, Segment, SegmentInOrder}
use Rattle.rb_segment.specs.Moves.{NoneMayTurn}
use Rattle.rb_segment.specs.Segments.{commit_scn, owed_in}
use Rattle.rb_segment.proofs.Recording.{RoomIs}
use Rattle.law_blocks.specs.BlockLaws.{HasRoomFor}
use Rattle.law_blocks.specs.NextStates.{SameChange, after_write}
use Rattle.law_blocks.specs.Says.{place_of}
use Rattle.law_blocks.specs.Standing.{env_of, logged_of, segments_of}
use Rattle.law_blocks.specs.States.{BlocksStand, Owns}
use Rattle.law_blocks.specs.Values.{slot_of}
use Rattle.law_blocks.specs.Writing.{HasHeaderRoom, IsHeaderReady, IsNotHeld, IsWritten}
use Rattle.law_blocks.proofs.Addresses.{next_place_is}
use Rattle.law_blocks.proofs.Seen.{one_xid}
use Rattle.law_blocks.proofs.SegmentRead.{header_is}
use Rattle.law_blocks.proofs.SegmentRecorded as segment
use Rattle.law_blocks.proofs.WriteMachine.{id_after, ids_after, owns_after, write_keeps_machine}
use Rattle.rb_undoblock.specs.declared.record.UndoRecord.{UndoRecord}
use Rattle.rb_steps.specs.StepLaws.{IsAsked}
use Rattle.rb_model.specs.Answers.{action_by}
use Rattle.rb_steps.specs.Steps.{IsAbout, MayWrite}
use Rattle.rb_steps.proofs.Firsts.{kind_is}
use Rattle.rb_steps.proofs.HomeWords as home
use Rattle.rb_steps.proofs.Owed.{after_few}
use Rattle.rb_steps.proofs.Refused.{not_refused}
use Rattle.rb_steps.proofs.WriterWords as words
use Rattle.rb_steps.proofs.Writers as writers
use Rattle.rb_steps.proofs.Writers.{owed_same}
use Rattle.law_write.specs.Verdict.{IsOwnId}
use Rattle.law_write.proofs.Told as told

-- the book of segment g once slot i is the session's
abbrev ready_book : State → ℕ → Bool → ℕ → ℕ → Book
ready_book h s has g i = if has then book_at h.books g else taken s i (book_at h.books g)

-- a header with room, or with an extent that may take the next turn, isn't full
has_place : (ready room : Header) → HasHeaderRoom ready room → ¬ NoneMayTurn ready
has_place ready room (inl few) none = let a = few.0 in let b = none.full in omega (arith, a, b)
has_place ready room (inr (e, may, is)) none =
    let kept = none.kept e may.within in
    let pinned = none.pinned e (may.oldest (λ out. omega (arith, out, kept))) in
    may.free (λ out. omega (arith, out, kept)) pinned.0 pinned.1 pinned.2

module _ (h : State) (xids : List Xid) (before now : List (List ℕ)) (s : ℕ) (ask : Ask) (about : IsAbout h xids s ask.own before) (s_in : s ≤ length h.sessions) (first : 1 ≤ ask.table) (last : ask.table ≤ h.shape.tables) (mine : MayWrite h s ask.table ask.key)
    (x : Xid) (ready : Header) (writer : IsWriterOf h.shape before ask.own x ready) (address : Uba) (u : UndoRecord) (asked : IsAsked h ask x u) (takes : TakesAsk h.shape before ask)
    (is : IsWritten h.shape (SLOTS * x.seg + x.slot) (adds_for h.shape before ask) (kind_of ask.op) address u before now) (young : logged_of h.shape before < WORN) where
  abbrev At : ℕ
  At = SLOTS * x.seg + x.slot

  abbrev Segs : ℕ → Segment
  Segs = segments_of h.shape before

  abbrev Cleaned : Home
  Cleaned = home_for h.shape before ask

  abbrev Made : Change
  Made = change_in h x.seg ask.table ask.key (action_by ask.op)

  g_in : x.seg < h.shape.segments
  g_in = writers.within h xids before s ask.own about x ready writer

  i_few : x.slot < SLOTS
  i_few = writers.few h xids before s ask.own about x ready writer

  seg_is : At / SLOTS ≡ x.seg
  seg_is = writers.at_seg h xids before s ask.own about x ready writer

  slot_is : At % SLOTS ≡ x.slot
  slot_is = writers.at_slot h xids before s ask.own about x ready writer

  xid_is : x ≡ record { seg = At / SLOTS; slot = At % SLOTS; wrap = u.wrap }
  xid_is = one_xid x (record { seg = At / SLOTS; slot = At % SLOTS; wrap = u.wrap }) (sym seg_is) (sym slot_is) (sym asked.wrap)

  -- the home of the record is that of the ask
  home_is : cleaned_home (env_of h.shape before).look (home_of (block_of before u.home)) ≡ Cleaned
  home_is = ap (λ (b : ℕ). cleaned_home (env_of h.shape before).look (home_of (block_of before b))) asked.home

  -- it had an entry for the transaction,
  entry_there : ¬ HasNoChoice (home_entry Cleaned) x
  entry_there = words.chosen_is (home_entry Cleaned) x u.entry
      (subst (λ (z : Home). IsEntryChoice (home_entry z) x u.entry) home_is (subst (λ (z : Xid). IsEntryChoice (home_entry (cleaned_home (env_of h.shape before).look (home_of (block_of before u.home)))) z u.entry) (is.xid_is ∙ sym xid_is) is.keeps.entry))

  -- and the segment a place
  place_there : ¬ NoneMayTurn ready
  place_there none =
      let full = told.none_full h xids before about.stand x.seg g_in x.slot ready (writers.is_ready h xids before s ask.own about x ready writer) none in
      has_place is.recorded.ready is.recorded.room is.recorded.has_room (told.full_none h xids before about.stand x.seg g_in x.slot is.recorded.ready recorded_ready full)
    where
      recorded_ready : IsHeaderReady (Segs x.seg).header x.slot is.recorded.ready
      recorded_ready =
          subst (λ (g : ℕ). IsHeaderReady (Segs g).header x.slot is.recorded.ready) seg_is
          (subst (λ (i : ℕ). IsHeaderReady (Segs (At / SLOTS)).header i is.recorded.ready) slot_is
          (subst (λ (z : Header). IsHeaderReady z (At % SLOTS) is.recorded.ready) (sym (header_is h.shape before (At / SLOTS))) is.recorded.is_ready))

  pub answered : first_of (write_tests h (logged_of h.shape before) x.seg s ask.table ask.key (action_by ask.op)) Done ≡ Done
  answered = not_refused h xids before s (logged_of h.shape before) ask about first last mine x ready writer (record { takes = takes; entry = entry_there }) place_there young

  -- the record is the next one of the segment
  place_is : Made.place ≡ place_of h.shape address
  place_is = sym (ap (place_of h.shape) is.recorded.at ∙ (next_place_is h.shape (At / SLOTS) is.recorded.room had.ring had.few ∙ numbered (At / SLOTS) seg_is is.recorded.room.writes had.writes))
    where
      order : SegmentInOrder (commit_scn h.shape before) (logged_of h.shape before) (Segs (At / SLOTS))
      order = about.stand.standing.stands.in_order (At / SLOTS) (let g = g_in in omega (arith, g, seg_is))

      had : RoomIs (λ j. ⊥) (Segs (At / SLOTS)) (segment.Room h.shape At address u before now (commit_scn h.shape before) (logged_of h.shape before) order is.recorded)
      had = segment.room h.shape At address u before now (commit_scn h.shape before) (logged_of h.shape before) order is.recorded

      numbered : (g : ℕ) → g ≡ x.seg → (n : ℕ) → n ≡ (Segs g).header.writes → record { seg = g; index = n + 1 } ≡ Made.place
      numbered g at n is_writes =
          let writes = (told.book h xids before about.stand x.seg g_in).writes in
          let count : n ≡ (book_at h.books x.seg).writes = is_writes ∙ (ap (λ (z : ℕ). (Segs z).header.writes) at ∙ sym writes) in
          ap (λ (z : ℕ). let p : Place = record { seg = z; index = n + 1 } in p) at ∙ ap (λ (z : ℕ). let p : Place = record { seg = x.seg; index = z + 1 } in p) count

  same_change : SameChange h.shape Made (kind_of ask.op) address u
  same_change = record {
    home = asked.home;
    place = place_is;
    key = asked.key;
    kind_is = kind_is ask.op;
    table = (first, last);
  }

  not_held : IsNotHeld (cleaned_home (env_of h.shape before).look (home_of (block_of before u.home))) (record { seg = At / SLOTS; slot = At % SLOTS; wrap = u.wrap }) u.key
  not_held =
      subst (λ (z : Home). IsNotHeld z (record { seg = At / SLOTS; slot = At % SLOTS; wrap = u.wrap }) u.key) (sym home_is)
      (subst (λ (k : ℕ). IsNotHeld Cleaned (record { seg = At / SLOTS; slot = At % SLOTS; wrap = u.wrap }) k) (sym asked.key)
      (subst (λ (z : Xid). IsNotHeld Cleaned z ask.key) xid_is (words.not_held h xids before s ask.own about ask.table ask.key first last x ready writer mine.0)))

  -- what is owed leaves room for the record, and for its slot
  has_room : HasRoomFor h.shape before At
  has_room = by (is_some ask.own) (writers.active_is h xids before s ask.own about x ready writer) (after_few h xids before ask.own about.stand)
    where
      by : (b : Bool) → ((slot_of Segs At).state == 1) ≡ b → owed_in h.shape before + (if b then 1 else 2) ≤ 2 ^ 13 → HasRoomFor h.shape before At
      by true test kept = let o = owed_same h before in rw test (omega (arith, o, kept, young))
      by false test kept = let o = owed_same h before in rw test (omega (arith, o, kept, young))

  home_in : u.home < table_blocks h.shape
  home_in = subst (λ (b : ℕ). b < table_blocks h.shape) (sym asked.home) (home.which_in h xids before about.stand ask.table ask.key first last)

  -- the two next states are one
  next_is : after_write h s At (slot_of Segs At).state Made ≡ written h s x.seg x.slot Made
  next_is = ap (λ (z : List Book). let n : State = record h { sessions = set h.sessions (s - 1) (with_changes h s (session_own h s ++ Made ∷ [])); books = z } in n) books_are
    where
      books_are : set h.books (At / SLOTS) (marked (At % SLOTS) (ready_book h s ((slot_of Segs At).state == 1) (At / SLOTS) (At % SLOTS))) ≡ set h.books x.seg (marked x.slot (ready_book h s (has_slot h s x.seg x.slot) x.seg x.slot))
      books_are =
          ap (λ (b : Bool). set h.books (At / SLOTS) (marked (At % SLOTS) (ready_book h s b (At / SLOTS) (At % SLOTS)))) (writers.active_is h xids before s ask.own about x ready writer ∙ sym (writers.has_is h xids before s ask.own about x ready writer))
          ∙ (ap (λ (g : ℕ). set h.books g (marked (At % SLOTS) (ready_book h s (has_slot h s x.seg x.slot) g (At % SLOTS)))) seg_is
          ∙ ap (λ (i : ℕ). set h.books x.seg (marked i (ready_book h s (has_slot h s x.seg x.slot) x.seg i))) slot_is)

  pub stands : BlocksStand (written h s x.seg x.slot Made) xids now
  stands = subst (λ (z : State). BlocksStand z xids now) next_is
      (write_keeps_machine h xids before now s At (adds_for h.shape before ask) Made (kind_of ask.op) address u (let g = g_in in let i = i_few in omega (arith, g, i)) (about.session, s_in) about.stand
      (writers.takes_at h xids before s ask.own about x ready writer) home_in not_held is same_change has_room)

  t_in : At < SLOTS * h.shape.segments
  t_in = let g = g_in in let i = i_few in omega (arith, g, i)

  abbrev Next : State
  Next = written h s x.seg x.slot Made

  owns : Owns Next s At
  owns = subst (λ (z : State). Owns z s At) next_is
      (owns_after h xids before now s At (adds_for h.shape before ask) Made (kind_of ask.op) address u t_in (about.session, s_in) about.stand
      (writers.takes_at h xids before s ask.own about x ready writer) home_in not_held is same_change has_room)

  -- the session's id is the transaction's
  pub id_is : IsOwnId Next (env_of h.shape now) s (Some x)
  id_is =
      let here : (env_of h.shape now).xid At ≡ x =
      id_after h xids before now s At (adds_for h.shape before ask) Made (kind_of ask.op) address u t_in (about.session, s_in) about.stand
      (writers.takes_at h xids before s ask.own about x ready writer) home_in not_held is same_change has_room ∙ sym xid_is in
      record {
        owns = λ t o. let one : At ≡ t = stands.tell.one_slot s At t owns o in sym (ap (λ (z : ℕ). Some ((env_of h.shape now).xid z)) (sym one) ∙ ap Some here);
        owned = λ y same. let yes : x ≡ y = cc in (At, owns, sym yes ∙ sym here);
      }

  -- and each slot that was owned keeps its own
  pub ids_are : (v : ℕ) (o : Owner) → v < SLOTS * h.shape.segments → owner_at h v ≡ Some o → (env_of h.shape now).xid v ≡ (env_of h.shape before).xid v
  ids_are = ids_after h xids before now s At (adds_for h.shape before ask) Made (kind_of ask.op) address u t_in (about.session, s_in) about.stand
      (writers.takes_at h xids before s ask.own about x ready writer) home_in not_held is same_change has_room
