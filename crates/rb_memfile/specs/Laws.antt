-- How the calls of a memory file change its images: what is read is one of them, a write tears them, and a sync leaves
-- no more of them.
use Rattle.std.proofs.Common.{◌≡◌, ◌⊎◌, inl, inr, ⊎_elim, ◌==◌, ℕ, ◌+◌, ◌-◌, ◌^◌}
use Rattle.std.proofs.Common.{◌<◌, ◌≤◌, min, max, List, [], ◌++◌, length, take, drop, get_or, refl}
use Rattle.std.proofs.Common.{sym, ap, subst, ◌∙◌, arith}
use Rattle.std.specs.Prelude.{Bool, true, false}
use Rattle.std.proofs.lemmas.Bool.{cases_lt, eqb-true, eq-eqb}
use Rattle.std.proofs.lemmas.List.{places, ext_get_or, get_or-take, get_or-drop, length-take, length-drop}
use Rattle.rb_base.specs.Fields.{part, overwritten}
use Rattle.rb_base.specs.Moments.{NoMore, Passes}
use Rattle.rb_disk.specs.DiskModel.{Torn, Follows}
use Rattle.rb_rawfile.specs.RawModel.{IsOf, IsSettled, HasLength, Wrote, with_range_of}
use Rattle.rb_memfile.specs.declared.place.Place.{Place}
use Rattle.rb_memfile.specs.declared.place.Place.TheVariants.{Settled, Dirty, Lost}
use Rattle.rb_memfile.specs.Places.{IsUnsettled, IsLost, IsWrittenBack, after_write, after_sync, after_failure}
use Rattle.rb_memfile.specs.Places.{written_back, at_place}
use Rattle.rb_memfile.specs.Images.{History, IsImage, Seen, Leaves, LeftBefore, LeftSince, syncs_in, MayTear}
use Rattle.rb_memfile.specs.Images.{HasLost, IsStored, StoresPart, IsSynced, IsDropped}

-- bytes written over others
over_long : (old piece : List ℕ) (at : ℕ) → at ≤ length old → length (overwritten old at piece)
    ≡ max (length old) (at + length piece)
over_long old piece at begins = grind (arith, places)

over_none : (old : List ℕ) (at : ℕ) → overwritten old at [] ≡ old
over_none old at = ext_get_or 0 _ _ (grind (arith, places)) (λ k lt. grind (arith, places))

over_outside : (old piece : List ℕ) (at k : ℕ) → at ≤ length old → (k < at) ⊎ (at + length piece ≤ k)
    → get_or (overwritten old at piece) k 0 ≡ get_or old k 0
over_outside old piece at k begins (inl before) = grind (arith, places)
over_outside old piece at k begins (inr behind) = grind (arith, places)

over_inside : (old piece : List ℕ) (at k : ℕ) → at ≤ length old → at ≤ k → k < at + length piece
    → get_or (overwritten old at piece) k 0 ≡ get_or piece (k - at) 0
over_inside old piece at k begins from to = grind (arith, places)

-- an image with what was read in a range, and no longer than what was read
untorn : (c old : List ℕ) (at count : ℕ) → List ℕ
untorn c old at count = take (length c) (take at c ++ part old at count ++ drop (at + count) c)

module _ (c old : List ℕ) (at count : ℕ) (begins : at ≤ length old)
    (few : length c ≤ max (length old) (at + count)) where
  untorn_long : length (untorn c old at count) ≡ min (length c) (length old)
  unfolding untorn
  untorn_long = grind (arith, places)

  untorn_outside : (k : ℕ) → k < length c → k < length old → (k < at) ⊎ (at + count ≤ k)
      → get_or (untorn c old at count) k 0 ≡ get_or c k 0
  unfolding untorn
  untorn_outside k lt within (inl before) = grind (arith, places)
  untorn_outside k lt within (inr behind) = grind (arith, places)

  untorn_inside : (k : ℕ) → k < length c → k < length old → at ≤ k → k < at + count
      → get_or (untorn c old at count) k 0 ≡ get_or old k 0
  unfolding untorn
  untorn_inside k lt within from to = grind (arith, places)

-- a place that is settled after a write was settled before it, and its byte is the same
stays_settled : (same : Bool) (place : Place) → after_write same place ≡ Settled → (same ≡ true)
    × (place ≡ Settled)
stays_settled true Settled is = (refl, refl)
stays_settled true Dirty is = (refl, is)
stays_settled true Lost is = absurd (cc)
stays_settled false place is = absurd (cc)

-- no write loses a place
never_lost : (same : Bool) (place : Place) → IsLost (after_write same place) → ⊥
never_lost true Settled lost = lost
never_lost true Dirty lost = lost
never_lost true Lost lost = lost
never_lost false place lost = lost

-- a byte that is there already leaves a place settled, or unsettled
found_settled : (place : Place) → place ≡ Settled → after_write true place ≡ Settled
found_settled place is = rw is

found_unsettled : (place : Place) → IsUnsettled (after_write true place) → IsUnsettled place
found_unsettled Settled here = here
found_unsettled Dirty here = here
found_unsettled Lost here = tt

-- these bytes are what is read there
pub record IsThere (at : ℕ) (piece bytes : List ℕ) : Type 0 where
  pub within : at + length piece ≤ length bytes
  pub each : (k : ℕ) → at ≤ k → k < at + length piece → get_or bytes k 0 ≡ get_or piece (k - at) 0

-- so is a first part of them
pub front_is_there : (at count : ℕ) (bytes content : List ℕ) → at ≤ length content → bytes
    ≡ part content at (length bytes)
    → IsThere at (take count bytes) content
front_is_there at count bytes content begins is =
    let long : length bytes ≡ min (length bytes) (length content - at) = ap length is ∙ grind (arith, places) in
    record {
      within = grind (arith, places);
      each = λ k from to.
          let part_at : get_or (part content at (length bytes)) (k - at) 0
          ≡ get_or content k 0 = grind (arith, places) in
          let front_at : get_or (take count bytes) (k - at) 0 ≡ get_or bytes (k - at) 0 = grind (arith, places) in
          sym (front_at ∙ ap (λ (l : List ℕ). get_or l (k - at) 0) is ∙ part_at);
    }

module _ (at : ℕ) (piece : List ℕ) (old new : Seen) (begins : at ≤ length old.bytes)
    (stored : IsStored at piece old new) where
  long_now : length new.bytes ≡ max (length old.bytes) (at + length piece)
  long_now = ap length stored.bytes ∙ over_long old.bytes piece at begins

  outside_now : (k : ℕ) → (k < at) ⊎ (at + length piece ≤ k) → get_or new.bytes k 0 ≡ get_or old.bytes k 0
  outside_now k out = ap (λ (l : List ℕ). get_or l k 0) stored.bytes ∙ over_outside old.bytes piece at k begins out

  inside_now : (k : ℕ) → at ≤ k → k < at + length piece → get_or new.bytes k 0 ≡ get_or piece (k - at) 0
  inside_now k from to = ap (λ (l : List ℕ). get_or l k 0) stored.bytes
      ∙ over_inside old.bytes piece at k begins from to

  -- a place is before the piece, in it or behind it
  by_range : (P : Type 0) (k : ℕ) → ((k < at) ⊎ (at + length piece ≤ k) → P)
      → (at ≤ k → k < at + length piece → P) → P
  by_range P k out inside =
      ⊎_elim (λ (before : k < at). out (inl before))
      (λ (from : at ≤ k). ⊎_elim (λ (to : k < at + length piece). inside from to)
      (λ (behind : at + length piece ≤ k). out (inr behind))
      (cases_lt k (at + length piece))) (cases_lt k at)

  settled_before : (k : ℕ) → k < length old.bytes → at_place new.places k ≡ Settled
      → (at_place old.places k ≡ Settled) × (get_or new.bytes k 0 ≡ get_or old.bytes k 0)
  settled_before k here is =
      by_range ((at_place old.places k ≡ Settled) × (get_or new.bytes k 0 ≡ get_or old.bytes k 0)) k
      (λ out. (sym (stored.marked.outside k out) ∙ is, outside_now k out))
      (λ from to.
      let both = stays_settled (get_or old.bytes k 0 == get_or piece (k - at) 0) (at_place old.places k)
      (sym (stored.marked.over k from to here) ∙ is) in
      (both.1, inside_now k from to ∙ sym (eqb-true _ _ both.0)))

  -- a file only gets more images
  pub stored_grows : (c : List ℕ) → Leaves old c → Leaves new c
  stored_grows c left = record {
    no_shorter = omega (arith, left.no_shorter, stored.shortest);
    no_longer = omega (arith, left.no_longer, long_now);
    settled = λ k lt is.
        let both = settled_before k (omega (arith, lt, left.no_longer)) is in
        left.settled k lt both.0 ∙ sym both.1;
  }

  -- each of them is torn from one before
  pub stored_follows : (count : ℕ) → length piece ≤ count → old.shortest ≤ length old.bytes
      → Follows (Torn at count) (Leaves old) (Leaves new)
  stored_follows count wide fits c left =
      let few : length c ≤ max (length old.bytes) (at + count) = omega (arith, left.no_longer, long_now, wide) in
      let d = untorn c old.bytes at count in
      let long = untorn_long c old.bytes at count begins few in
      let outside = untorn_outside c old.bytes at count begins few in
      let inside = untorn_inside c old.bytes at count begins few in (
        d,
        record {
          no_shorter = omega (arith, long, left.no_shorter, stored.shortest, fits);
          no_longer = omega (arith, long);
          settled = λ k lt is.
              let lt_c : k < length c = omega (arith, lt, long) in
              let here : k < length old.bytes = omega (arith, lt, long) in
              let out : (k < at) ⊎ (at + count ≤ k) → (k < at) ⊎ (at + length piece ≤ k) → get_or d k 0
              ≡ get_or old.bytes k 0 =
              λ of_count of_piece. outside k lt_c here of_count
              ∙ left.settled k lt_c (stored.marked.outside k of_piece ∙ is)
              ∙ outside_now k of_piece in
              ⊎_elim (λ (before : k < at). out (inl before) (inl before))
              (λ (from : at ≤ k). ⊎_elim (λ (to : k < at + count). inside k lt_c here from to)
              (λ (behind : at + count ≤ k). out (inr behind) (inr (omega (arith, behind, wide))))
              (cases_lt k (at + count)))
              (cases_lt k at);
        },
        record {
          before = ext_get_or 0 (take at c) (take at d)
              (omega (arith, length-take at c, length-take at d, long, begins)) (λ k lt.
              let before : k < at = omega (arith, lt, length-take at c) in
              let lt_c : k < length c = omega (arith, lt, length-take at c) in
              get_or-take at c k 0 before ∙ sym (outside k lt_c (omega (arith, before, begins)) (inl before))
              ∙ sym (get_or-take at d k 0 before));
          behind = ext_get_or 0 (drop (at + count) c) (drop (at + count) d)
              (omega (arith, length-drop (at + count) c, length-drop (at + count) d, long, few)) (λ k lt.
              let lt_c : at + count + k < length c = omega (arith, lt, length-drop (at + count) c) in
              get_or-drop (at + count) c k 0
              ∙ sym (outside (at + count + k) lt_c (omega (arith, lt_c, few)) (inr (omega arith)))
              ∙ sym (get_or-drop (at + count) d k 0));
          no_shorter = omega (arith, long);
          no_longer = omega (arith, long, few);
        },
      )

  over_there : IsThere at piece old.bytes → (k : ℕ) → at ≤ k → k < at + length piece
      → at_place new.places k ≡ after_write true (at_place old.places k)
  over_there there k from to = stored.marked.over k from to (omega (arith, to, there.within))
      ∙ ap (λ (same : Bool). after_write same (at_place old.places k)) (eq-eqb _ _ (there.each k from to))

  -- bytes that are there already leave no more images, and no more places that may tear
  pub stored_same : IsThere at piece old.bytes → NoMore (Leaves old) (Leaves new)
  stored_same there c left =
      let same : (k : ℕ) → get_or new.bytes k 0 ≡ get_or old.bytes k 0 =
      λ k. by_range (get_or new.bytes k 0 ≡ get_or old.bytes k 0) k (λ out. outside_now k out)
      (λ from to. inside_now k from to ∙ sym (there.each k from to)) in
      record {
        no_shorter = omega (arith, left.no_shorter, stored.shortest);
        no_longer = omega (arith, left.no_longer, long_now, there.within);
        settled = λ k lt is.
            left.settled k lt (by_range (at_place new.places k ≡ Settled) k
            (λ out. stored.marked.outside k out ∙ is)
            (λ from to. over_there there k from to ∙ found_settled (at_place old.places k) is)) ∙ same k;
      }

  pub stored_same_places : IsThere at piece old.bytes → NoMore (MayTear old) (MayTear new)
  stored_same_places there k tears =
      by_range (MayTear old k) k (λ out. subst IsUnsettled (stored.marked.outside k out) tears)
      (λ from to. found_unsettled (at_place old.places k) (subst IsUnsettled (over_there there k from to) tears))

  -- no place may tear but in the range, and what is written is found
  pub stored_places : (count : ℕ) → length piece ≤ count
      → NoMore (with_range_of at count (MayTear old)) (MayTear new)
  stored_places count wide k tears =
      by_range (MayTear old k ⊎ IsOf at count k) k
      (λ out. inl (subst IsUnsettled (stored.marked.outside k out) tears))
      (λ from to. inr (from, omega (arith, to, wide)))

  not_lost : (k : ℕ) → at ≤ k → k < at + length piece → HasLost new k → ⊥
  not_lost k from to lost =
      ⊎_elim (λ (here : k < length old.bytes). never_lost (get_or old.bytes k 0 == get_or piece (k - at) 0)
      (at_place old.places k)
      (subst IsLost (stored.marked.over k from to here) lost))
      (λ (far : length old.bytes ≤ k). subst IsLost (stored.marked.past k to far) lost)
      (cases_lt k (length old.bytes))

  pub stored_wrote : Wrote at piece old.bytes new.bytes (HasLost old) (HasLost new)
  stored_wrote = record {
    read = stored.bytes;
    no_more = λ k lost. by_range (HasLost old k) k (λ out. subst IsLost (stored.marked.outside k out) lost)
        (λ from to. absurd (not_lost k from to lost));
    found = λ k of lost. not_lost k of.0 of.1 lost;
  }

-- Time goes on by a call that isn't a sync that succeeded, and leaves no image out.
pub stays_in_time : (old new : Seen) → new.past ≡ old.past → ((c : List ℕ) → Leaves old c → Leaves new c)
    → Passes (syncs_in old) (syncs_in new) (LeftSince old) (LeftSince new) (Leaves new)
stays_in_time old new same grows =
    let count : syncs_in new ≡ syncs_in old = ap (λ (past : History). length past.snapshots) same in
    let before : (k : ℕ) (c : List ℕ) → LeftBefore new.past k c → LeftBefore old.past k c = λ k c.
    subst (λ (past : History). LeftBefore past k c) same in
    let again : (k : ℕ) (c : List ℕ) → LeftBefore old.past k c → LeftBefore new.past k c = λ k c.
    subst (λ (past : History). LeftBefore past k c) (sym same) in
    record {
      later = omega (arith, count);
      splits = λ t c le. ⊎_elim
          (λ earlier. inl
          (inl (earlier.0, earlier.1, omega (arith, earlier.2, count), before earlier.0 c earlier.3)))
          (λ now. inr now.1);
      stay = λ t c le. ⊎_elim
          (λ earlier. inl (earlier.0, earlier.1, omega (arith, earlier.2, count), again earlier.0 c earlier.3))
          (λ now. inr (omega (arith, le, count), grows c now.1));
    }

-- what a sync leaves of a place
settles : (place : Place) → place ≡ Settled → after_sync place ≡ Settled
settles place is = rw is

unsettled_was_lost : (place : Place) → IsUnsettled (after_sync place) → IsLost place
unsettled_was_lost Settled here = here
unsettled_was_lost Dirty here = here
unsettled_was_lost Lost here = tt

lost_was_lost : (place : Place) → IsLost (after_sync place) → IsLost place
lost_was_lost Settled here = here
lost_was_lost Dirty here = here
lost_was_lost Lost here = tt

lost_or_settled : (place : Place) → IsLost place ⊎ (after_sync place ≡ Settled)
lost_or_settled Settled = inr refl
lost_or_settled Dirty = inr refl
lost_or_settled Lost = inl tt

settled_is_back : (place : Place) (read was : ℕ) → after_sync place ≡ Settled → written_back place read was
    ≡ read
settled_is_back Settled read was is = refl
settled_is_back Dirty read was is = refl
settled_is_back Lost read was is = absurd (cc)

module _ (shortest : ℕ) (old new : Seen) (no_less : old.shortest ≤ shortest)
    (synced : IsSynced shortest old new) where
  pub synced_images : NoMore (Leaves old) (Leaves new)
  synced_images c left = record {
    no_shorter = omega (arith, left.no_shorter, synced.shortest_is, no_less);
    no_longer = omega (arith, left.no_longer, ap length synced.bytes);
    settled = λ k lt is. left.settled k lt (synced.places k ∙ settles (at_place old.places k) is)
        ∙ ap (λ (l : List ℕ). get_or l k 0) synced.bytes;
  }

  pub synced_settled : IsSettled (HasLost old) old.bytes (Leaves new)
  synced_settled c left k here lt =
      ⊎_elim (λ lost. inl lost)
      (λ is. inr (left.settled k lt (synced.places k ∙ is) ∙ ap (λ (l : List ℕ). get_or l k 0) synced.bytes))
      (lost_or_settled (at_place old.places k))

  pub synced_long : shortest ≡ length old.bytes → HasLength (length old.bytes) (Leaves new)
  synced_long is c left = omega (arith, left.no_shorter, left.no_longer, synced.shortest_is, is, ap length synced.bytes)

  pub synced_places : NoMore (HasLost old) (MayTear new)
  synced_places k tears = unsettled_was_lost (at_place old.places k) (subst IsUnsettled (synced.places k) tears)

  pub synced_losses : NoMore (HasLost old) (HasLost new)
  synced_losses k lost = lost_was_lost (at_place old.places k) (subst IsLost (synced.places k) lost)

  pub synced_time : Passes (syncs_in old) (syncs_in new) (LeftSince old) (LeftSince new) (Leaves new)
  synced_time = record {
    later = omega (arith, synced.count);
    splits = λ t c le. ⊎_elim (λ earlier. ⊎_elim
        (λ (before : earlier.0 < syncs_in old). inl
        (inl (earlier.0, earlier.1, before, (synced.earlier earlier.0 c before).0 earlier.3)))
        (λ (last : syncs_in old ≤ earlier.0).
        let is : earlier.0 ≡ syncs_in old = omega (arith, last, earlier.2, synced.count) in
        inl (inr (le, (synced.last c).0 (subst (λ (k : ℕ). LeftBefore new.past k c) is earlier.3))))
        (cases_lt earlier.0 (syncs_in old)))
        (λ now. inr now.1);
    stay = λ t c le. ⊎_elim
        (λ earlier. inl (
          earlier.0,
          earlier.1,
          omega (arith, earlier.2, synced.count),
          (synced.earlier earlier.0 c earlier.2).1 earlier.3,
        ))
        (λ now. inl (syncs_in old, le, omega (arith, synced.count), (synced.last c).1 now.1));
  }

  -- what the device has is an image
  pub synced_device : (device now : List ℕ) → IsWrittenBack old.bytes old.places device now
      → shortest ≤ length old.bytes → Leaves new now
  synced_device device now back fits = record {
    no_shorter = omega (arith, back.long, synced.shortest_is, fits);
    no_longer = omega (arith, back.long, ap length synced.bytes);
    settled = λ k lt is. back.each k (omega (arith, lt, back.long))
        ∙ settled_is_back (at_place old.places k) _ _ (sym (synced.places k) ∙ is)
        ∙ sym (ap (λ (l : List ℕ). get_or l k 0) synced.bytes);
  }

-- what a sync that failed leaves of a place
stays_in_place : (place : Place) → after_failure place ≡ Settled → place ≡ Settled
stays_in_place Settled is = refl
stays_in_place Dirty is = absurd (cc)
stays_in_place Lost is = absurd (cc)

settled_all_the_same : (place : Place) → place ≡ Settled → after_failure place ≡ Settled
settled_all_the_same place is = rw is

was_unsettled : (place : Place) → IsUnsettled (after_failure place) → IsUnsettled place
was_unsettled Settled here = here
was_unsettled Dirty here = tt
was_unsettled Lost here = tt

lost_was_unsettled : (place : Place) → IsLost (after_failure place) → IsUnsettled place
lost_was_unsettled Settled here = here
lost_was_unsettled Dirty here = tt
lost_was_unsettled Lost here = tt

unsettled_is_lost : (place : Place) → IsUnsettled place → IsLost (after_failure place)
unsettled_is_lost Settled here = here
unsettled_is_lost Dirty here = tt
unsettled_is_lost Lost here = tt

module _ (old new : Seen) (dropped : IsDropped old new) where
  pub dropped_images : NoMore (Leaves old) (Leaves new)
  dropped_images c left = record {
    no_shorter = omega (arith, left.no_shorter, dropped.shortest);
    no_longer = omega (arith, left.no_longer, ap length dropped.bytes);
    settled = λ k lt is. left.settled k lt (dropped.places k ∙ settled_all_the_same (at_place old.places k) is)
        ∙ ap (λ (l : List ℕ). get_or l k 0) dropped.bytes;
  }

  pub dropped_grows : (c : List ℕ) → Leaves old c → Leaves new c
  dropped_grows c left = record {
    no_shorter = omega (arith, left.no_shorter, dropped.shortest);
    no_longer = omega (arith, left.no_longer, ap length dropped.bytes);
    settled = λ k lt is. left.settled k lt (stays_in_place (at_place old.places k) (sym (dropped.places k) ∙ is))
        ∙ sym (ap (λ (l : List ℕ). get_or l k 0) dropped.bytes);
  }

  pub dropped_places : NoMore (MayTear old) (MayTear new)
  dropped_places k tears = was_unsettled (at_place old.places k) (subst IsUnsettled (dropped.places k) tears)

  pub dropped_losses : NoMore (MayTear old) (HasLost new)
  dropped_losses k lost = lost_was_unsettled (at_place old.places k) (subst IsLost (dropped.places k) lost)

  pub dropped_loses : (k : ℕ) → MayTear old k → HasLost new k
  dropped_loses k tears = subst IsLost (sym (dropped.places k)) (unsettled_is_lost (at_place old.places k) tears)

  pub dropped_time : Passes (syncs_in old) (syncs_in new) (LeftSince old) (LeftSince new) (Leaves new)
  dropped_time = stays_in_time old new dropped.past dropped_grows

-- what is read is an image, where there is one
pub reads_what_it_has : (bytes : List ℕ) (places : List Place) (shortest : ℕ) (device : List ℕ)
    → IsImage bytes places shortest device → IsImage bytes places shortest bytes
reads_what_it_has bytes places shortest device left = record {
  no_shorter = omega (arith, left.no_shorter, left.no_longer);
  no_longer = omega arith;
  settled = λ k lt is. refl;
}

-- now is one of the moments since an earlier one
pub now_counts : (seen : Seen) (t : ℕ) (c : List ℕ) → t ≤ syncs_in seen → Leaves seen c → LeftSince seen t c
now_counts seen t c le here = inr (le, here)

-- and the only one since now
pub only_now : (seen : Seen) (c : List ℕ) → LeftSince seen (syncs_in seen) c → Leaves seen c
only_now seen c = ⊎_elim (λ earlier. absurd (omega (arith, earlier.1, earlier.2))) (λ now. now.1)

-- what is lost may tear
pub loses_unsettled : (place : Place) → IsLost place → IsUnsettled place
loses_unsettled Settled here = here
loses_unsettled Dirty here = tt
loses_unsettled Lost here = tt

-- a call that changes no bytes, and no places
pub same_images : (old new : Seen) → new ≡ old → NoMore (Leaves old) (Leaves new)
same_images old new same c = subst (λ (seen : Seen). Leaves seen c) same

pub same_time : (old new : Seen) → new ≡ old
    → Passes (syncs_in old) (syncs_in new) (LeftSince old) (LeftSince new) (Leaves new)
same_time old new same = stays_in_time old new (ap (λ (seen : Seen). seen.past) same)
    (λ c. subst (λ (seen : Seen). Leaves seen c) (sym same))

pub same_places : (old new : Seen) → new ≡ old → NoMore (MayTear old) (MayTear new)
same_places old new same k = subst (λ (seen : Seen). MayTear seen k) same

pub same_losses : (old new : Seen) → new ≡ old → NoMore (HasLost old) (HasLost new)
same_losses old new same k = subst (λ (seen : Seen). HasLost seen k) same

-- the bytes of a `Vec` are few
pub few : (len capacity count : ℕ) → (len ≡ count) × (len ≤ capacity) → capacity < 2 ^ 63 → count < 2 ^ 63
few len capacity count ok small = omega (arith, ok.0, ok.1, small)

-- no bytes are written where nothing changes
pub stores_none : (at : ℕ) (bytes : List ℕ) (old new : Seen) → at ≤ length old.bytes → length old.places
    ≡ length old.bytes
    → new ≡ old → StoresPart at bytes old new
stores_none at bytes old new begins one same =
    let none : IsStored at (take 0 bytes) old old = record {
      bytes = sym (over_none old.bytes at);
      marked = record {
        long = omega (arith, begins, one);
        outside = λ k out. refl;
        over = λ k from to here. absurd (omega (arith, from, to));
        past = λ k to far. absurd (omega (arith, to, far, begins));
      };
      shortest = refl;
      past = refl;
    } in
    (0, omega arith, subst (λ (seen : Seen). IsStored at (take 0 bytes) old seen) (sym same) none)
