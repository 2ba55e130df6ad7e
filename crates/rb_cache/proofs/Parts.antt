-- Parts of two files that are the same in front of a place, or behind it, or everywhere.
use Rattle.std.proofs.Common.{◌≡◌, ℕ, ◌+◌, ◌-◌, ◌*◌, ◌<◌, ◌≤◌, List, length, take, drop, arith, ap, sym, ◌∙◌}
use Rattle.std.proofs.Common.{slice_index}
use Rattle.std.proofs.lemmas.List.{drop-take, take-take, drop-drop}
use Rattle.rb_base.specs.Fields.{part}
use Rattle.rb_base.proofs.Fronts.{byte_of_part}
use Rattle.rb_base.specs.declared.sizes.TheConstants.{UNIT}
use Rattle.rb_disk.specs.Ranges.{SamePart}
use Rattle.rb_layout.specs.Regions.{block_count, block_offset, file_length, log_offset, twin_offset}
use Rattle.rb_layout.specs.declared.layout.Layout.{Layout}
use Rattle.rb_log.specs.Slots.{SameSlots}
use Rattle.rb_twin.specs.Twins.{home, twin_gate}

pub part_front : (end at count : ℕ) (c d : List ℕ) → take end c ≡ take end d → at + count ≤ end
    → part c at count ≡ part d at count
part_front end at count c d same le = sym (inside c) ∙ ap (λ (h : List ℕ). take count (drop at h)) same ∙ inside d
  where
    inside : (h : List ℕ) → take count (drop at (take end h)) ≡ part h at count
    inside h = sym (drop-take at count (take end h)) ∙ ap (drop at) (take-take (at + count) end h le) ∙ drop-take at count h

pub part_behind : (from at count : ℕ) (c d : List ℕ) → drop from c ≡ drop from d → from ≤ at
    → part c at count ≡ part d at count
part_behind from at count c d same le = ap (take count) (behind c ∙ ap (drop (at - from)) same ∙ sym (behind d))
  where
    behind : (h : List ℕ) → drop at h ≡ drop (at - from) (drop from h)
    behind h = ap (λ (k : ℕ). drop k h) (omega (arith, le)) ∙ sym (drop-drop (at - from) from h)

-- a file has its own parts
pub same_part : (first last : ℕ) (file c : List ℕ) → c ≡ file → SamePart first last file c
same_part first last file c is = record {
  long = ap length is;
  same = ap (λ (x : List ℕ). part x first (last - first)) is;
}

-- a block at home where files have the same blocks
pub home_part : (l : Layout) (file c : List ℕ) (k : ℕ) → k < block_count l
    → SamePart (block_offset l 0) (file_length l) file c → home l c k ≡ home l file k
home_part l file c k lt both = sym (among c) ∙ ap (λ (h : List ℕ). take UNIT (drop (UNIT * k) h)) both.same ∙ among file
  where
    size : ℕ
    size = file_length l - block_offset l 0

    among : (h : List ℕ) → take UNIT (drop (UNIT * k) (part h (block_offset l 0) size)) ≡ home l h k
    among h =
        let all = drop (block_offset l 0) h in
        sym (drop-take (UNIT * k) UNIT (take size all))
        ∙ ap (drop (UNIT * k)) (take-take (UNIT * k + UNIT) size all (omega (arith, lt)))
        ∙ drop-take (UNIT * k) UNIT all
        ∙ ap (take UNIT) (drop-drop (UNIT * k) (block_offset l 0) h ∙ ap (λ (i : ℕ). drop i h) (omega arith))

module _ (l : Layout) (c d : List ℕ) where
  -- what stands behind the log
  pub gate_behind : drop (log_offset l.log) c ≡ drop (log_offset l.log) d → twin_gate l c ≡ twin_gate l d
  gate_behind same = sym (byte_of_part c (twin_offset l 0) 1 (omega arith))
      ∙ ap (λ (u : List ℕ). slice_index u 0) (part_behind (log_offset l.log) (twin_offset l 0) 1 c d same (omega arith))
      ∙ byte_of_part d (twin_offset l 0) 1 (omega arith)

  pub home_behind : (which : ℕ) → drop (log_offset l.log) c ≡ drop (log_offset l.log) d → home l c which ≡ home l d which
  home_behind which same = part_behind (log_offset l.log) (block_offset l which) UNIT c d same (omega arith)

  pub blocks_behind : length c ≡ length d → drop (log_offset l.log) c ≡ drop (log_offset l.log) d
      → SamePart (block_offset l 0) (file_length l) d c
  blocks_behind long same = record {
    long = long;
    same = part_behind (log_offset l.log) (block_offset l 0) (file_length l - block_offset l 0) c d same (omega arith);
  }

  -- and in front of the twin area
  pub slots_front : length c ≡ length d → take (twin_offset l 0) c ≡ take (twin_offset l 0) d → SameSlots l.log d c
  slots_front long same = record {
    long = long;
    same = part_front (twin_offset l 0) (log_offset 0) (log_offset l.log - log_offset 0) c d same (omega arith);
  }

  pub front_less : take (twin_offset l 0) c ≡ take (twin_offset l 0) d → take (log_offset 0) c ≡ take (log_offset 0) d
  front_less same = sym (take-take (log_offset 0) (twin_offset l 0) c (omega arith)) ∙ ap (take (log_offset 0)) same
      ∙ take-take (log_offset 0) (twin_offset l 0) d (omega arith)

-- parts that are the same, one after another
pub part_on : (first last : ℕ) (a b c : List ℕ) → SamePart first last a b → SamePart first last b c → SamePart first last a c
part_on first last a b c one two = record { long = two.long ∙ one.long; same = two.same ∙ one.same }

pub part_back : (first last : ℕ) (a b : List ℕ) → SamePart first last a b → SamePart first last b a
part_back first last a b one = record { long = sym one.long; same = sym one.same }
