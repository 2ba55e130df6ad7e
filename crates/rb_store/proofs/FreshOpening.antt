-- What a new file opens to.
use Rattle.std.proofs.Common.{◌*◌, ◌≡◌, ◌≢◌, ℕ, ◌<◌, ◌+◌, ◌-◌, ◌%◌, ◌^◌, ◌++◌, List, [], length, replicate, drop, slice_index, refl, arith, ap, sym, subst, ◌∙◌, inr, append_assoc}
use Rattle.std.proofs.lemmas.List.{get_or-take, get_or-drop, drop_at, drop-drop, length-append, length-replicate}
use Rattle.std.specs.List.{concat}
use Rattle.rb_layout.specs.declared.layout.TheConstants.{IDENTITY}
use Rattle.byteorder.specs.Endian.{big_number}
use Rattle.rb_base.specs.Blocks.{block_kind, block_of, fresh_block, fresh_blocks, fresh_head, fresh_rest, shape_blocks}
use Rattle.rb_base.specs.Fields.{number_at}
use Rattle.rb_base.specs.declared.shape.Shape.{Shape}
use Rattle.rb_base.proofs.Blocks.{fresh_at}
use Rattle.rb_base.specs.declared.sizes.TheConstants.{UNIT}
use Rattle.rb_layout.specs.Fresh.{fresh_are_blocks, fresh_has_identity, fresh_home, fresh_zero}
use Rattle.rb_control.specs.HeadLaws.{head_by}
use Rattle.rb_control.specs.Heads.{chosen, copy_at, head_of}
use Rattle.rb_layout.specs.Regions.{block_offset, file_version, fresh_copy, fresh_file, identity, shape_of, twin_offset}
use Rattle.rb_layout.specs.declared.layout.Head.{Head}
use Rattle.rb_layout.specs.declared.layout.Layout.{Layout}
use Rattle.rb_cache.proofs.UseLemmas.{few_blocks}
use Rattle.rb_log.specs.GroupLaws.{slot_low}
use Rattle.rb_log.specs.Slots.{slot_at}
use Rattle.rb_twin.specs.Twins.{twin_gate}
use Rattle.rb_twin.specs.TwinLaws.{kept_shut}
use Rattle.rb_store.specs.Meaning.{IsHeaded, OpensAt, place_of}

-- the first gate of a new file is closed
first_gate : (l : Layout) → slice_index (slot_at (fresh_file file_version l) 0) 0 ≡ 0
first_gate l =
    let file = fresh_file file_version l in
    get_or-take UNIT (drop (4 * UNIT) file) 0 0 (omega arith) ∙ get_or-drop (4 * UNIT) file 0 0 ∙ fresh_zero file_version l (4 * UNIT) (omega arith) (omega arith)

-- and so is that of its twin area
gate_shut : (l : Layout) → twin_gate l (fresh_file file_version l) ≢ 1
gate_shut l = λ is. let zero = fresh_zero file_version l (twin_offset l 0) (omega arith) (omega arith) in omega (arith, zero, is)

-- each block of a new file is one of its place
fresh_kind : (kind which : ℕ) → slice_index (place_of (fresh_head kind which ++ fresh_rest kind)) 0 ≡ kind
fresh_kind kind which = refl

fresh_own : (kind which : ℕ) → which < 2 ^ 32 → number_at (place_of (fresh_head kind which ++ fresh_rest kind)) 4 4 ≡ which
fresh_own kind which fits = omega (arith, fits)

fresh_number : (kind which : ℕ) → number_at (fresh_head kind which ++ fresh_rest kind) 0 8 ≡ 0
fresh_number kind which = refl

fresh_headed : (l : Layout) (which : ℕ) → which < shape_blocks (shape_of l) → IsHeaded (shape_of l) 0 which (fresh_block (shape_of l) which)
fresh_headed l which lt =
    let kind = block_kind (shape_of l) which in
    let few = few_blocks l in
    let zero = fresh_number kind which in record {
      kind = fresh_kind kind which;
      own = fresh_own kind which (omega (arith, lt, few));
      low = omega (arith, zero);
    }

own_block : (shape : Shape) (which : ℕ) → which < shape_blocks shape → block_of (fresh_blocks shape) which ≡ fresh_block shape which
own_block shape which lt = fresh_at shape 0 (shape_blocks shape) which lt ∙ ap (fresh_block shape) {x = 0 + which} (omega arith)

-- its log begins in the first slot, with number 1
abbrev first_head : Head
first_head = record { slot = 0; number = 1 }

-- What a new file has behind its first unit: a control copy.
behind_first : (l : Layout) → (rest : List ℕ) × (drop UNIT (fresh_file file_version l) ≡ fresh_copy ++ rest)
behind_first l =
    let own = identity file_version l in
    let zeros : List ℕ = replicate (UNIT - IDENTITY) 0 in
    let more : List ℕ = replicate (block_offset l 0 - (3 * UNIT)) 0 in
    let units = concat (fresh_blocks (shape_of l)) in
    let rest = fresh_copy ++ (more ++ units) in
    let long : length own ≡ IDENTITY = omega arith in
    let split : fresh_file file_version l ≡ (own ++ zeros) ++ (fresh_copy ++ rest) =
    append_assoc (own ++ (zeros ++ (fresh_copy ++ fresh_copy))) more units
    ∙ append_assoc own (zeros ++ (fresh_copy ++ fresh_copy)) (more ++ units)
    ∙ ap (λ (x : List ℕ). own ++ x) (append_assoc zeros (fresh_copy ++ fresh_copy) (more ++ units)
    ∙ ap (λ (x : List ℕ). zeros ++ x) (append_assoc fresh_copy fresh_copy (more ++ units)))
    ∙ sym (append_assoc own zeros (fresh_copy ++ rest)) in
    (rest, ap (drop UNIT) split ∙ drop_at (own ++ zeros) (fresh_copy ++ rest) UNIT (omega (arith, long, length-append own zeros, length-replicate {A = ℕ} (UNIT - IDENTITY) 0)))

first_slot : (rest : List ℕ) → big_number 4 (fresh_copy ++ rest) ≡ 0
first_slot rest = refl

first_number : (rest : List ℕ) → big_number 8 (drop 8 (fresh_copy ++ rest)) ≡ 1
first_number rest = refl

head_is : (l : Layout) → head_of (fresh_file file_version l) ≡ first_head
head_is l =
    let file = fresh_file file_version l in
    let behind = behind_first l in
    let zero : chosen file ≡ 0 = ap (λ (b : ℕ). b % 2) (fresh_zero file_version l (3 * UNIT) (omega arith) (omega arith)) in
    let slot : number_at file UNIT 4 ≡ 0 = ap (big_number 4) behind.1 ∙ first_slot behind.0 in
    let number : number_at file (UNIT + 8) 8 ≡ 1 = ap (big_number 8) (sym (drop-drop 8 UNIT file) ∙ ap (drop 8) behind.1) ∙ first_number behind.0 in
    ap (copy_at file) zero ∙ ap (λ (n : ℕ). head_by n (number_at file (UNIT + 8) 8)) slot ∙ ap (head_by 0) number

pub fresh_opens : (l : Layout) → OpensAt l (fresh_file file_version l) (fresh_blocks (shape_of l)) 0
fresh_opens l = record {
  means = record {
    identity = fresh_has_identity file_version l;
    head = first_head;
    head_is = sym (head_is l);
    in_log = omega (arith, l.few_slots.0);
    first = omega arith;
    groups = [];
    log = inr (λ is. let gate = ap (λ (s : ℕ). slice_index (slot_at (fresh_file file_version l) s) 0) (slot_low l first_head 0 (omega (arith, l.few_slots.0))) ∙ first_gate l in omega (arith, gate, is));
    twin = λ is. absurd (gate_shut l is);
    last = refl;
    whole = fresh_are_blocks (shape_of l);
    made = λ which lt. own_block (shape_of l) which lt ∙ sym (kept_shut l (fresh_file file_version l) which (gate_shut l) ∙ fresh_home file_version l which lt);
  };
  headed = λ which lt. subst (IsHeaded (shape_of l) 0 which) (sym (own_block (shape_of l) which lt)) (fresh_headed l which lt);
}
