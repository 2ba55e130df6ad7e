-- A table slot by its number over all segments and by a transaction's id, and what is owed by the slots.
use Rattle.std.proofs.Common.{◌≡◌, ◌≢◌, ◌<◌, ◌==◌, ◌+◌, ◌*◌, ◌/◌, ◌%◌, ℕ, zero, suc, false, List, ◌∷◌, refl, sym, ◌∙◌, ap, subst, arith}
use Rattle.std.proofs.lemmas.Bool.Decides.{nat_tests}
use Rattle.std.proofs.lemmas.List.Sums.{sum_by-cons}
use Rattle.std.specs.List.{sum_by, range_with_len}
use Rattle.rb_base.specs.Blocks.{block_of, header_block}
use Rattle.rb_base.specs.declared.ids.Xid.{Xid}
use Rattle.rb_base.specs.declared.shape.Shape.{Shape}
use Rattle.rb_base.specs.declared.sizes.TheConstants.{ACTIVE, SLOTS}
use Rattle.rb_restart.specs.Steps.{HasLive, IsIdle}
use Rattle.rb_segment.proofs.Parts.{slot_read}
use Rattle.rb_segment.specs.Header.{Header, header_of, slot_in, slot_owed}
use Rattle.rb_segment.specs.Segments.{owed_in}
use Rattle.law_blocks.specs.Standing.{segments_of}
use Rattle.law_blocks.specs.Values.{owed, slot_of}
use Rattle.law_blocks.proofs.SegmentRead.{header_is}
use Rattle.rb_txntable.specs.Slots.{slot_at}
use Rattle.rb_txntable.specs.declared.slots.TableSlot.{TableSlot}
use Rattle.rb_undo.specs.Backs.{header_for}

-- the transaction of slot t with that wrap
abbrev pub xid_of : ℕ → ℕ → Xid
xid_of t wrap = record { seg = t / SLOTS; slot = t % SLOTS; wrap = wrap }

xids : (a b c d w : ℕ) → a ≡ c → b ≡ d → (let x : Xid = record { seg = a; slot = b; wrap = w } in x) ≡ record { seg = c; slot = d; wrap = w }
xids a b c d w one two = cc

pub xid_is : (x : Xid) → x.slot < SLOTS → x ≡ xid_of (SLOTS * x.seg + x.slot) x.wrap
xid_is x few = xids x.seg x.slot ((SLOTS * x.seg + x.slot) / SLOTS) ((SLOTS * x.seg + x.slot) % SLOTS) x.wrap (omega (arith, few)) (omega (arith, few))

pub slot_is : (shape : Shape) (blocks : List (List ℕ)) (t wrap : ℕ) → slot_of (segments_of shape blocks) t ≡ slot_in (header_for shape blocks (xid_of t wrap)) (t % SLOTS)
slot_is shape blocks t wrap = ap (λ (h : Header). slot_in h (t % SLOTS)) (header_is shape blocks (t / SLOTS))

-- what is owed, by the segments
sum_same : (f g : ℕ → ℕ) (a n : ℕ) → ((k : ℕ) → g k ≡ f k) → sum_by g (range_with_len a n) ≡ sum_by f (range_with_len a n)
sum_same f g a zero same = refl
sum_same f g a (suc n) same =
    let here : g a ≡ f a = same a in
    let rest : sum_by g (range_with_len (a + 1) n) ≡ sum_by f (range_with_len (a + 1) n) = sum_same f g (a + 1) n same in
    let x : sum_by g (a ∷ range_with_len (a + 1) n) ≡ g a + sum_by g (range_with_len (a + 1) n) = sum_by-cons g a (range_with_len (a + 1) n) in
    let y : sum_by f (a ∷ range_with_len (a + 1) n) ≡ f a + sum_by f (range_with_len (a + 1) n) = sum_by-cons f a (range_with_len (a + 1) n) in
    omega (arith, here, rest, x, y)

pub owed_is : (shape : Shape) (blocks : List (List ℕ)) → owed_in shape blocks ≡ owed shape (segments_of shape blocks)
unfolding owed_in
owed_is shape blocks = sum_same (λ t. slot_owed (slot_of (segments_of shape blocks) t)) (λ t. slot_owed (slot_in (header_of (block_of blocks (header_block shape (t / SLOTS)))) (t % SLOTS))) 0 (SLOTS * shape.segments) (λ t. ap slot_owed (sym (slot_is shape blocks t 0)))

-- where none runs nothing is owed
sum_none : (f : ℕ → ℕ) (a n : ℕ) → ((k : ℕ) → k < a + n → f k ≡ 0) → sum_by f (range_with_len a n) ≡ 0
sum_none f a zero none = refl
sum_none f a (suc n) none =
    let x : sum_by f (a ∷ range_with_len (a + 1) n) ≡ f a + sum_by f (range_with_len (a + 1) n) = sum_by-cons f a (range_with_len (a + 1) n) in
    let here : f a ≡ 0 = none a (omega arith) in
    let rest : sum_by f (range_with_len (a + 1) n) ≡ 0 = sum_none f (a + 1) n (λ k lt. none k (omega (arith, lt))) in
    omega (arith, x, here, rest)

idle_owes : (slot : TableSlot) → slot.state ≢ ACTIVE → slot_owed slot ≡ 0
idle_owes slot not = let test : (slot.state == 1) ≡ false = grind (arith, nat_tests) in rw test refl

pub owed_none : (shape : Shape) (blocks : List (List ℕ)) → ((t : ℕ) → t < SLOTS * shape.segments → IsIdle shape blocks t) → owed_in shape blocks ≡ 0
owed_none shape blocks idle = owed_is shape blocks ∙ sum_none (λ t. slot_owed (slot_of (segments_of shape blocks) t)) 0 (SLOTS * shape.segments) (λ t lt. idle_owes (slot_of (segments_of shape blocks) t) (idle t (omega (arith, lt))))

-- the same by the transaction's id
pub slot_for : (shape : Shape) (blocks : List (List ℕ)) (x : Xid) → x.slot < SLOTS → slot_of (segments_of shape blocks) (SLOTS * x.seg + x.slot) ≡ slot_in (header_for shape blocks x) x.slot
slot_for shape blocks x few =
    let t = SLOTS * x.seg + x.slot in
    subst (λ (z : Xid). slot_of (segments_of shape blocks) t ≡ slot_in (header_for shape blocks z) z.slot) (sym (xid_is x few)) (slot_is shape blocks t x.wrap)

-- what a slot's bytes say of it
module _ (shape : Shape) (blocks : List (List ℕ)) (x : Xid) (slot : TableSlot) (block : List ℕ) (few : x.slot < SLOTS) (told : block ≡ block_of blocks (header_block shape x.seg)) (is : slot ≡ slot_at block x.slot) where
  read : slot_in (header_for shape blocks x) x.slot ≡ slot
  read = ap (λ (l : List ℕ). slot_in (header_of l) x.slot) (sym told) ∙ (slot_read block x.slot few ∙ sym is)

  pub live_read : slot.state ≡ ACTIVE → x.wrap ≡ slot.wrap → HasLive shape blocks x slot.live
  live_read active wrap = record {
    runs = record {
      slot = few;
      active = ap (λ (s : TableSlot). s.state) read ∙ active;
      wrap = ap (λ (s : TableSlot). s.wrap) read ∙ sym wrap;
    };
    live = ap (λ (s : TableSlot). s.live) read;
  }

  pub idle_read : (slot.state ≡ ACTIVE → ⊥) → IsIdle shape blocks (SLOTS * x.seg + x.slot)
  idle_read not runs = not (ap (λ (s : TableSlot). s.state) (sym (slot_for shape blocks x few ∙ read)) ∙ runs)
