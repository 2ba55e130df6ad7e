-- A segment that is in order stays so through a commit.
use Rattle.std.proofs.Common.{◌≡◌, inl, inr, ◌<◌, ◌≤◌, ◌+◌, ℕ, length, refl, sym, ◌∙◌, ap, subst, arith}
use Rattle.std.proofs.lemmas.Bool.{cases_lt}
use Rattle.std.proofs.lemmas.List.{length-set, get_or_past}
use Rattle.rb_base.specs.declared.sizes.TheConstants.{SLOTS}
use Rattle.rb_ring.specs.declared.extents.TheConstants.{EXTENTS}
use Rattle.rb_ring.specs.Ring.{IsRing}
use Rattle.rb_ring.specs.declared.extents.Extent.{Extent}
use Rattle.rb_segment.specs.Header.{Segment, SlotInOrder, SlotNumbers, SegmentInOrder, no_extent, slot_in, extent_in, ord_in}
use Rattle.rb_segment.specs.Moves.{committed, with_header, SegmentCommits}
use Rattle.rb_segment.specs.Running.{KeepsRecords}
use Rattle.rb_segment.proofs.SegmentWritten.{slots_set}
use Rattle.rb_segment.proofs.Commits.{commit_segment, length_stamped, ord_stamped, newest_stamped}

-- a commit at a number above the file's
module _ (s : Segment) (i c commit logged : ℕ) (few_i : i < SLOTS) (order : SegmentInOrder commit logged s) (active : (slot_in s.header i).state ≡ 1) (before : (slot_in s.header i).before ≡ (slot_in s.header i).newest) (keeps : KeepsRecords s i) (next : commit < c) (logs : c ≤ logged + 1) where
  abbrev Done : Segment
  Done = with_header (committed c i s.header) s

  within : i < length s.header.slots
  within = omega (arith, few_i, order.header.slots_counted)

  newest_few : (e : ℕ) → (extent_in s.header e).newest ≤ c
  newest_few e = elim (cases_lt e EXTENTS) [
    | inl few ↦ let a = order.header.newest e few in omega (arith, a, next)
    | inr past_it ↦ let none : (extent_in s.header e).newest ≡ 0 = ap (λ (z : Extent). z.newest) (get_or_past s.header.extents e no_extent (omega (arith, past_it, order.header.extents_counted))) in omega (arith, none)
  ]

  pub commits : SegmentCommits s Done i c
  commits = commit_segment s i c within active before keeps (λ e few. newest_few e)

  ords : (e : ℕ) → ord_in Done.header e ≡ ord_in s.header e
  ords e = ord_stamped c (slot_in s.header i).touched 0 s.header.extents e

  ords_same : ord_in Done.header ≡ ord_in s.header
  ords_same = λ k e. ords e k

  pub done_order : SegmentInOrder c (logged + 1) Done
  done_order = let o = order.header.slots i few_i in let n = order.numbers.slots i few_i in record {
    header = record {
      slots_counted = simp length-set order.header.slots_counted;
      extents_counted = length_stamped c (slot_in s.header i).touched 0 s.header.extents ∙ order.header.extents_counted;
      ring = (order.header.ring.0, subst (λ (z : ℕ → ℕ). IsRing z s.header.head order.header.ring.0) (sym ords_same) order.header.ring.1);
      records = order.header.records;
      slots = slots_set (SlotInOrder c) s.header.slots i (let x = slot_in s.header i in record x { state = 2; newest = c }) within (record { state = omega arith; before = omega (arith, o.before, o.newest, next); newest = omega arith }) (λ j few ne. let k = order.header.slots j few in record { state = k.state; before = k.before; newest = omega (arith, k.newest, next) });
      lost = omega (arith, order.header.lost, next);
      newest = λ e few. newest_stamped c (slot_in s.header i).touched 0 s.header.extents e newest_few;
    };
    undo_counted = order.undo_counted;
    numbers = record {
      writes = omega (arith, order.numbers.writes);
      records = λ k r is. let a = order.numbers.records k r (sym (commits.records k) ∙ is) in let b = commits.wrap r.slot in omega (arith, a, b);
      count = let a = ords s.header.head in omega (arith, a, order.numbers.count);
      begun = order.numbers.begun;
      slots = slots_set (SlotNumbers (logged + 1) s.header.lost) s.header.slots i (let x = slot_in s.header i in record x { state = 2; newest = c }) within (record { wrap = omega (arith, n.wrap); newest = logs; before = n.before; not_lost = λ is. absurd (is refl) }) (λ j few ne. let k = order.numbers.slots j few in record { wrap = omega (arith, k.wrap); newest = omega (arith, k.newest); before = k.before; not_lost = k.not_lost });
    };
  }
