-- Parts written one behind another, over what stood there.
use Rattle.std.proofs.Common.{◌≡◌, ℕ, ◌+◌, ◌-◌, ◌<◌, ◌≤◌, List, [], ◌∷◌, ◌++◌, length, take, drop, set, arith, ap, sym, ◌∙◌, subst, append_assoc, get_or}
use Rattle.std.proofs.lemmas.List.{take_at, drop_at, drop-drop, drop_more, set_at, length-append, take-append-drop, flat_map_more, length-take-le}
use Rattle.std.specs.List.{flat_map}
use borrow.Rule.Slice.PartMut.{put_mid}
use Rattle.byteorder.specs.Endian.{big_bytes}
use Rattle.byteorder.specs.Numbers.{length-bytes_high_first}
use Rattle.rb_base.specs.Fields.{with_number}

-- What was written so far stands in front, and what stood there first behind it.
pub record Written (first bytes front : List ℕ) (at : ℕ) : Type 0 where
  pub whole : bytes ≡ front ++ drop at first
  pub long : length front ≡ at
  pub within : at ≤ length first

pub number_next : (first bytes front new : List ℕ) (at count value : ℕ) → Written first bytes front at → new ≡ with_number bytes at count value → at + count ≤ length first → Written first new (front ++ big_bytes count value) (at + count)
number_next first bytes front new at count value h now fits =
    let before : take at bytes ≡ front = ap (take at) h.whole ∙ take_at front (drop at first) at h.long in
    let behind : drop (at + count) bytes ≡ drop (at + count) first = sym (drop-drop count at bytes) ∙ ap (drop count) (ap (drop at) h.whole ∙ drop_at front (drop at first) at h.long) ∙ drop-drop count at first in
    record {
      whole = now ∙ ap (λ (l : List ℕ). (l ++ big_bytes count value) ++ drop (at + count) bytes) before ∙ ap (λ (l : List ℕ). (front ++ big_bytes count value) ++ l) behind;
      long = omega (arith, length-append front (big_bytes count value), length-bytes_high_first count value, h.long);
      within = fits;
    }

pub byte_next : (first bytes front : List ℕ) (at value : ℕ) → Written first bytes front at → at < length first → Written first (set bytes at value) (front ++ value ∷ []) (at + 1)
byte_next first bytes front at value h fits =
    let more : bytes ≡ front ++ (get_or first at 0 ∷ drop (at + 1) first) = h.whole ∙ ap (λ (l : List ℕ). front ++ l) (drop_more first at 0 fits) in
    record {
      whole = ap (λ (l : List ℕ). set l at value) more ∙ set_at front (get_or first at 0) (drop (at + 1) first) value at h.long ∙ sym (append_assoc front (value ∷ []) (drop (at + 1) first));
      long = omega (arith, length-append front (value ∷ []), h.long);
      within = omega arith;
    }

pub part_next : (first bytes front part : List ℕ) (at count : ℕ) → Written first bytes front at → length part ≡ count → at + count ≤ length first → Written first (put_mid at count bytes part) (front ++ part) (at + count)
part_next first bytes front part at count h long fits =
    let before : take at bytes ≡ front = ap (take at) h.whole ∙ take_at front (drop at first) at h.long in
    let behind : drop count (drop at bytes) ≡ drop (at + count) first = ap (drop count) (ap (drop at) h.whole ∙ drop_at front (drop at first) at h.long) ∙ drop-drop count at first in
    record {
      whole = ap (λ (l : List ℕ). l ++ (part ++ drop count (drop at bytes))) before ∙ ap (λ (l : List ℕ). front ++ (part ++ l)) behind ∙ sym (append_assoc front part (drop (at + count) first));
      long = omega (arith, length-append front part, h.long, long);
      within = fits;
    }

pub nothing_yet : (first : List ℕ) (at : ℕ) → at ≤ length first → Written first first (take at first) at
nothing_yet first at fits = record { whole = sym (take-append-drop at first); long = length-take-le at first fits; within = fits }

pub same_place : (first bytes front : List ℕ) (at to : ℕ) → Written first bytes front at → at ≡ to → Written first bytes front to
same_place first bytes front at to h e = subst (Written first bytes front) e h

-- the bytes with one more thing behind those whose spellings are written
pub item_next : {X : Type 0} (spell : X → List ℕ) (first old new front : List ℕ) (xs : List X) (x : X) (at end : ℕ) → old ≡ (front ++ flat_map spell xs) ++ drop at first → length (front ++ flat_map spell xs) ≡ at
    → at ≤ end → new ≡ (take at old ++ spell x) ++ drop end old → new ≡ (front ++ flat_map spell (xs ++ x ∷ [])) ++ drop end first
item_next {X} spell first old new front xs x at end was long le now =
    let done = front ++ flat_map spell xs in
    let before : take at old ≡ done = ap (take at) was ∙ take_at done (drop at first) at long in
    let k : end ≡ at + (end - at) = omega arith in
    let behind : drop end old ≡ drop end first =
    ap (λ (n : ℕ). drop n old) k ∙ sym (drop-drop (end - at) at old) ∙ ap (drop (end - at)) (ap (drop at) was ∙ drop_at done (drop at first) at long) ∙ drop-drop (end - at) at first ∙ ap (λ (n : ℕ). drop n first) (sym k) in
    now ∙ ap (λ (l : List ℕ). (l ++ spell x) ++ drop end old) before ∙ ap (λ (l : List ℕ). (done ++ spell x) ++ l) behind ∙ ap (λ (l : List ℕ). l ++ drop end first) (flat_map_more spell front xs x)
