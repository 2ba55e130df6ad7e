-- What the header of a segment that stands tells of its book.
use Rattle.std.proofs.Common.{◌≡◌, ◌≢◌, inl, inr, ◌<◌, ◌≤◌, ◌==◌, ◌&&◌, ◌||◌, ℕ, zero, suc, Bool, true, false, not, List, [], ◌∷◌, length, get_or, set, Option, Some, None, refl, sym, ◌∙◌, ap, subst, arith}
use Rattle.std.proofs.lemmas.Bool.{cases_lt, cases_Bool, eqb-true, false≢true, ne_eqb}
use Rattle.std.proofs.lemmas.List.{get_or_past}
use Rattle.std.specs.List.{list_any, AllByRecursion}
use Rattle.rb_base.specs.declared.sizes.TheConstants.{SLOTS}
use Rattle.rb_ring.specs.declared.extents.TheConstants.{EXTENTS, EXTENT_RECORDS}
use Rattle.rb_base.specs.declared.ids.Xid.{Xid}
use Rattle.rb_model.specs.Book.{Owner, Book, BookSlot, book_at, first_turn, free_slot, is_full, last_turn, oldest_turn, slot_owner}
use Rattle.rb_model.specs.BookLaws.{IsBookSound}
use Rattle.rb_model.specs.State.{State}
use Rattle.rb_segment.specs.Books.{IsBook, IsOwned, IsOwner, is_first_in, least_turn, next_is_full, ring_count}
use Rattle.rb_segment.specs.Header.{Header, Segment, head_turn, ord_in, slot_in, SegmentInOrder}
use Rattle.rb_segment.specs.MoveLaws.{TellsBook}
use Rattle.rb_segment.specs.Moves.{claimed, claimed_slot, NoneMayTurn}
use Rattle.rb_segment.specs.Running.{FirstTurns, KeepsRecords, RunningSlot}
use Rattle.rb_segment.specs.Segments.{commit_scn}
use Rattle.rb_segment.proofs.Books.{last_is, oldest_is, oldest_least}
use Rattle.rb_segment.proofs.Claimed.{none_stays, none_was}
use Rattle.rb_segment.proofs.Full.{full_then_none, next_full_is, none_then_full}
use Rattle.rb_segment.proofs.Records.{found}
use Rattle.rb_segment.proofs.Slots.{first_turns}
use Rattle.law_blocks.specs.Standing.{logged_of, homes_of, segments_of, env_of}
use Rattle.law_blocks.specs.States.{BlocksStand, lives_of, past_of}
use Rattle.law_blocks.specs.Writing.{IsHeaderReady}
use Rattle.law_blocks.proofs.StandingWritten.{keeps_of, running_of}
use Rattle.rb_txntable.specs.Slots.{no_slot}
use Rattle.rb_txntable.specs.declared.slots.TableSlot.{TableSlot}

-- one of some numbers, all of which are in a range
one_within : (lo hi turn : ℕ) (ts : List ℕ) → AllByRecursion (λ t. (lo ≤ t) × (t ≤ hi)) ts → list_any (λ t. t == turn) ts ≡ true → (lo ≤ turn) × (turn ≤ hi)
one_within lo hi turn [] all is = absurd (false≢true is)
one_within lo hi turn (t ∷ ts) all is = elim (cases_Bool (t == turn)) [
  | inl here ↦ let same = eqb-true t turn here in (omega (arith, same, all.0.0), omega (arith, same, all.0.1))
  | inr not_here ↦ one_within lo hi turn ts all.1 (sym (ap (λ b. b || list_any (λ t. t == turn) ts) not_here) ∙ is)
]

-- a list with one item in another's place, where neither passes a test
same_any : (p : TableSlot → Bool) (xs : List TableSlot) (i : ℕ) (x : TableSlot) → p (get_or xs i no_slot) ≡ false → p x ≡ false → list_any p (set xs i x) ≡ list_any p xs
same_any p [] i x was now = refl
same_any p (y ∷ ys) zero x was now = ap (λ z. z || list_any p ys) (now ∙ sym was)
same_any p (y ∷ ys) (suc i) x was now = ap (λ z. p y || z) (same_any p ys i x was now)

-- a slot that is taken and has no record yet is passed over
pub claimed_full : (h : Header) (i : ℕ) → (slot_in h i).state ≢ 1 → next_is_full (claimed i h) ≡ next_is_full h
claimed_full h i idle =
    let was : is_first_in (least_turn h) (slot_in h i) ≡ false = ap (λ x. x && (not ((slot_in h i).touched == 0) && ((slot_in h i).first == least_turn h))) (ne_eqb (slot_in h i).state 1 idle) in
    ap (λ x. (h.records == EXTENT_RECORDS) && (x && (ring_count h == EXTENTS))) (same_any (is_first_in (least_turn h)) h.slots i (claimed_slot h (slot_in h i)) was refl)

module _ (h : State) (xids : List Xid) (blocks : List (List ℕ)) (stand : BlocksStand h xids blocks) (g : ℕ) (g_in : g < h.shape.segments) where
  abbrev pub Segs : ℕ → Segment
  Segs = segments_of h.shape blocks

  abbrev pub Head : Header
  Head = (Segs g).header

  abbrev pub Bk : Book
  Bk = book_at h.books g

  order : SegmentInOrder (commit_scn h.shape blocks) (logged_of h.shape blocks) (Segs g)
  order = stand.standing.stands.in_order g g_in

  pub slots_counted : length Head.slots ≡ SLOTS
  slots_counted = order.header.slots_counted

  pub book : IsBook Head Bk
  book = stand.tell.books g g_in

  tells : TellsBook (commit_scn h.shape blocks) Head Bk
  tells = record { book = book; order = order.header; count = order.numbers.count; begun = order.numbers.begun }

  keeps : (j : ℕ) → (slot_in Head j).state ≡ 1 → KeepsRecords (Segs g) j
  keeps = keeps_of h.shape (commit_scn h.shape blocks) (logged_of h.shape blocks) Segs (homes_of h.shape blocks) (past_of h xids) (lives_of h (env_of h.shape blocks)) stand.standing.stands stand.tell.running g g_in

  running : (j : ℕ) → (slot_in Head j).state ≡ 1 → RunningSlot Head (slot_in Head j)
  running = running_of h.shape (commit_scn h.shape blocks) (logged_of h.shape blocks) Segs (homes_of h.shape blocks) (past_of h xids) (lives_of h (env_of h.shape blocks)) stand.standing.stands stand.tell.running g g_in

  turns : FirstTurns Head
  turns = first_turns (Segs g) keeps running

  -- the next record has no place where the book is full, also behind a claim
  pub full_ready : (i : ℕ) (ready : Header) → IsHeaderReady Head i ready → next_is_full ready ≡ is_full Bk
  full_ready i ready (inl same) = ap next_is_full same.1 ∙ next_full_is (commit_scn h.shape blocks) Head Bk tells turns
  full_ready i ready (inr taken) = ap next_is_full taken.1 ∙ (claimed_full Head i taken.0.idle ∙ next_full_is (commit_scn h.shape blocks) Head Bk tells turns)

  pub none_full : (i : ℕ) (ready : Header) → IsHeaderReady Head i ready → NoneMayTurn ready → is_full Bk ≡ true
  none_full i ready (inl same) none = none_then_full (commit_scn h.shape blocks) Head Bk tells turns (subst NoneMayTurn same.1 none)
  none_full i ready (inr taken) none =
      none_then_full (commit_scn h.shape blocks) Head Bk tells turns (none_was Head i slots_counted taken.0.within taken.0.idle (subst NoneMayTurn taken.1 none))

  pub full_none : (i : ℕ) (ready : Header) → IsHeaderReady Head i ready → is_full Bk ≡ true → NoneMayTurn ready
  full_none i ready (inl same) full = subst NoneMayTurn (sym same.1) (full_then_none (commit_scn h.shape blocks) Head Bk tells turns full)
  full_none i ready (inr taken) full =
      subst NoneMayTurn (sym taken.1) (none_stays Head i slots_counted taken.0.within taken.0.idle (full_then_none (commit_scn h.shape blocks) Head Bk tells turns full))

  -- an owner has one of the slots
  pub owner_few : (i : ℕ) (o : Owner) → slot_owner Bk i ≡ Some o → i < SLOTS
  owner_few i o is = elim (cases_lt i SLOTS) [
    | inl few ↦ few
    | inr many ↦
        let out : get_or Bk.slots i free_slot ≡ free_slot = get_or_past Bk.slots i free_slot (let n = book.slots in omega (arith, n, many)) in
        let none : None ≡ Some o = sym (ap (λ (s : BookSlot). s.owner) out) ∙ is in
        absurd cc
  ]

  pub owned : (i : ℕ) (o : Owner) → slot_owner Bk i ≡ Some o → IsOwner Head (slot_in Head i) o
  owned i o is = let is_owned : IsOwned Head (slot_in Head i) (Some o) = subst (λ z. IsOwned Head (slot_in Head i) z) is (book.owners i (owner_few i o is)) in is_owned

  -- a slot that is Active has an owner
  pub owner_of : (i : ℕ) → i < SLOTS → (slot_in Head i).state ≡ 1 → (o : Owner) × (slot_owner Bk i ≡ Some o)
  owner_of i few active = by (slot_owner Bk i) refl (book.owners i few)
    where
      by : (o : Option Owner) → slot_owner Bk i ≡ o → IsOwned Head (slot_in Head i) o → (o : Owner) × (slot_owner Bk i ≡ Some o)
      by None is idle = absurd (idle active)
      by (Some o) is owned = (o, is)

  pub started : (i : ℕ) (o : Owner) → slot_owner Bk i ≡ Some o → o.start ≤ Bk.writes
  started i o is =
      let of_owner = owned i o is in
      let r = running i of_owner.state in
      omega (arith, r.started, of_owner.start, book.writes)

  -- the turns are counted to the last one
  last_turn_is : last_turn Bk ≡ head_turn Head
  last_turn_is = last_is Head Bk book (commit_scn h.shape blocks) order.header order.numbers.count order.numbers.begun

  -- the first turn of an owner is kept
  first_kept : (i : ℕ) (o : Owner) → slot_owner Bk i ≡ Some o → oldest_turn Bk ≤ first_turn o
  first_kept i o is =
      let of_owner = owned i o is in
      let k = keeps i of_owner.state in
      let there : (k.pinned.0 < length Head.extents) × (ord_in Head k.pinned.0 ≡ (slot_in Head i).first) = found Head.extents (slot_in Head i).first k.pinned.0 k.pinned.1 in
      let first : (slot_in Head i).first ≡ first_turn o = omega (arith, k.first, of_owner.start) in
      let low = oldest_least Head Bk book (commit_scn h.shape blocks) order.header order.numbers.count order.numbers.begun k.pinned.0 (omega (arith, there.1, first)) in
      let oldest = oldest_is Head Bk book (commit_scn h.shape blocks) order.header order.numbers.count order.numbers.begun in
      omega (arith, low, oldest, there.1, first)

  pub sound : IsBookSound Bk
  sound = record {
    two = book.ring.few.0;
    eight = book.ring.few.1;
    from_one = omega (arith, book.kept, last_turn_is);
    sixteen = book.slots;
    owners = λ i o is. record {
      start = started i o is;
      kept = first_kept i o is;
      touched = λ t named. let r = one_within (first_turn o) (head_turn Head) t o.touched (owned i o is).within named in (r.0, omega (arith, r.1, last_turn_is));
    };
  }
