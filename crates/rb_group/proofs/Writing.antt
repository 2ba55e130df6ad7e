-- The fields of a patch written one behind another, and one more patch behind those that are written.
use Rattle.std.proofs.Common.{◌≡◌, ℕ, ◌+◌, ◌<◌, ◌≤◌, List, [], ◌∷◌, ◌++◌, length, take, drop, arith, ap, sym, ◌∙◌, append_assoc, get_or}
use Rattle.std.proofs.lemmas.List.{length-append, take_more}
use Rattle.std.proofs.lemmas.List.Sums.{sum_by_more, sum_by-take-le}
use Rattle.std.specs.List.{flat_map}
use borrow.Rule.Slice.PartMut.{put_mid}
use Rattle.byteorder.specs.Endian.{big_bytes}
use Rattle.rb_base.specs.Fields.{with_number}
use Rattle.rb_base.specs.Groups.{Patch, patch, patch_length, group_length}
use Rattle.rb_base.proofs.Written.{number_next, part_next, nothing_yet, same_place, item_next}
use Rattle.rb_group.specs.Spelling.{patch_bytes}
use Rattle.rb_group.proofs.Spelling.{length-patches}

joined : (front own rest : List ℕ) (block at : ℕ) → ((((front ++ big_bytes 4 block) ++ big_bytes 2 at) ++ big_bytes 2 (length own)) ++ own) ++ rest ≡ (front ++ patch_bytes (patch block at own)) ++ rest
joined front own rest block at =
    let four = big_bytes 4 block in
    let two = big_bytes 2 at in
    let count = big_bytes 2 (length own) in
    append_assoc (((front ++ four) ++ two) ++ count) own rest
    ∙ append_assoc ((front ++ four) ++ two) count (own ++ rest)
    ∙ append_assoc (front ++ four) two (count ++ (own ++ rest))
    ∙ append_assoc front four (two ++ (count ++ (own ++ rest)))
    ∙ sym (append_assoc front (patch_bytes (patch block at own)) rest)

-- the writes of a patch's fields, one behind another
pub patch_written : (first one two three part own : List ℕ) (place count end block at : ℕ) → place + (8 + length own) ≤ length first → one ≡ with_number first place 4 block → two ≡ with_number one (place + 4) 2 at
    → three ≡ with_number two (place + 6) 2 (length own) → part ≡ own → count ≡ length own → end ≡ place + (8 + length own)
    → put_mid (place + 8) count three part ≡ (take place first ++ patch_bytes (patch block at own)) ++ drop end first
patch_written first one two three part own place count end block at fits one-is two-is three-is part-is count-is end-is =
    let front = take place first in
    let front1 = front ++ big_bytes 4 block in
    let front2 = front1 ++ big_bytes 2 at in
    let front3 = front2 ++ big_bytes 2 (length own) in
    let h0 = nothing_yet first place (omega arith) in
    let h1 = number_next first first front one place 4 block h0 one-is (omega arith) in
    let h2 = number_next first one front1 two (place + 4) 2 at h1 two-is (omega arith) in
    let h3 = number_next first two front2 three (place + 6) 2 (length own) (same_place first two front2 (place + 4 + 2) (place + 6) h2 (omega arith)) three-is (omega arith) in
    let h4 = part_next first three front3 part (place + 8) count (same_place first three front3 (place + 6 + 2) (place + 8) h3 (omega arith)) (ap length part-is ∙ sym count-is) (omega arith) in
    h4.whole ∙ ap (λ (l : List ℕ). (front3 ++ l) ++ drop (place + 8 + count) first) part-is ∙ joined front own (drop (place + 8 + count) first) block at
    ∙ ap (λ (n : ℕ). (front ++ patch_bytes (patch block at own)) ++ drop n first) (omega arith)

-- the patches so far, and one more
pub length_more : (patches : List Patch) (i : ℕ) (p d : Patch) → i < length patches → p ≡ get_or patches i d → group_length (take (i + 1) patches) ≡ group_length (take i patches) + (8 + length p.bytes)
length_more patches i p d lt is =
    let e = sum_by_more patch_length patches i d lt in
    let f : 8 + length p.bytes ≡ patch_length (get_or patches i d) = ap patch_length is in
    omega (arith, e, f)

pub length_within : (patches : List Patch) (i : ℕ) → group_length (take i patches) ≤ group_length patches
length_within patches i = let e = sum_by-take-le patch_length patches i in omega (arith, e)

-- the spelling with one more patch
pub patch_next : (patches : List Patch) (i : ℕ) (p d : Patch) (first old new front : List ℕ) (place end : ℕ) → i < length patches → p ≡ get_or patches i d → length front ≡ 2 → place ≡ group_length (take i patches)
    → old ≡ (front ++ flat_map patch_bytes (take i patches)) ++ drop place first → place ≤ end → new ≡ (take place old ++ patch_bytes p) ++ drop end old
    → new ≡ (front ++ flat_map patch_bytes (take (i + 1) patches)) ++ drop end first
patch_next patches i p d first old new front place end lt is two place-is was le now =
    let l = length-append front (flat_map patch_bytes (take i patches)) in
    let n = length-patches (take i patches) in
    item_next patch_bytes first old new front (take i patches) p place end was (omega (arith, l, n)) le now
    ∙ ap (λ (ps : List Patch). (front ++ flat_map patch_bytes ps) ++ drop end first) (ap (λ (q : Patch). take i patches ++ q ∷ []) is ∙ sym (take_more patches i d lt))
