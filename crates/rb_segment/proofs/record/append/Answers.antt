use Rattle.std.proofs.Common.{◌≡◌, ℕ, ◌+◌, List, [], ◌∷◌, ◌++◌, ◌<◌, ◌^◌, ◌==◌, false, refl, ap, sym, subst, ◌∙◌, arith}
use Rattle.std.proofs.lemmas.Bool.Decides.{nat_tests}
use Rattle.std.proofs.lemmas.List.{append_assoc}
use Rattle.rb_base.specs.Blocks.{written_to}
use Rattle.rb_base.specs.Groups.{Patch}
use Rattle.rb_ring.specs.Ring.{head_patch, record_count_patch}
use Rattle.rb_segment.proofs.Parts.{slot_read, ring_read}
use Rattle.rb_segment.specs.Header.{Header, header_of, slot_in}
use Rattle.rb_segment.specs.Moves.{Also}
use Rattle.rb_txntable.specs.Slots.{slot_patch}
use Rattle.rb_txntable.specs.declared.slots.TableSlot.{TableSlot}
use Rattle.rb_undoblock.specs.Undo.{undo_patch}
use Rattle.rb_segment.proofs.record.append.Goals as goal

pub overflow_add-records : goal.overflow_add-records
overflow_add-records c =
    let records = c.head_records-records.ensures ∙ sym (ring_read c.args.header.now).1 in
    omega (arith, records, c.requires.room)

pub returns-clause-patches : goal.returns-clause-patches
returns-clause-patches c =
    let b = c.args.block in
    let old = c.args.group.now in
    let now = c.set_writes.ensures.means ∙ ap (λ (h : Header). let k : Header = record h { writes = c.saturating_add-made.result } in k) c.set_head.ensures.means in
    let slot = ap (λ (h : Header). slot_in h c.args.i) now ∙ c.set_slot.ensures.read in
    let head = ap (λ (h : Header). h.head) now in
    let records = ap (λ (h : Header). h.records) now in
    let writes = ap (λ (h : Header). h.writes) now in
    let first = slot_patch b c.args.i c.added_slot-slot.result ∷ [] in
    let second = head_patch b c.head-head.result (c.head_records-records.result + 1) ∷ [] in
    let third = record_count_patch b c.saturating_add-made.result ∷ [] in
    let last = undo_patch c.next_address-address.result.block c.next_address-address.result.rec c.args.undo.now ∷ [] in
    let put : c.push.new.self ≡ c.set_writes.new.group ++ last = c.push.ensures ∙ rw (c.undo_place-place.ensures, c.undo_bytes.ensures.bytes) refl in
    rw (slot, head, records, writes) (put ∙ ap (λ (l : List Patch). l ++ last) c.set_writes.ensures.patch ∙ ap (λ (l : List Patch). (l ++ third) ++ last) c.set_head.ensures.patch
    ∙ ap (λ (l : List Patch). ((l ++ second) ++ third) ++ last) c.set_slot.ensures.patch
    ∙ append_assoc ((old ++ first) ++ second) third last ∙ append_assoc (old ++ first) second (third ++ last) ∙ append_assoc old first (second ++ (third ++ last)))

pub returns-clause-copy : goal.returns-clause-copy
returns-clause-copy c =
    let b = c.args.block in
    let now = c.set_writes.ensures.means ∙ ap (λ (h : Header). let k : Header = record h { writes = c.saturating_add-made.result } in k) c.set_head.ensures.means in
    let slot = ap (λ (h : Header). slot_in h c.args.i) now ∙ c.set_slot.ensures.read in
    let head = ap (λ (h : Header). h.head) now in
    let records = ap (λ (h : Header). h.records) now in
    let writes = ap (λ (h : Header). h.writes) now in
    let second = head_patch b c.head-head.result (c.head_records-records.result + 1) ∷ [] in
    let third = record_count_patch b c.saturating_add-made.result ∷ [] in
    let elsewhere : (c.next_address-address.result.block == b) ≡ false = grind (arith, nat_tests, c.next_address-address.ensures.behind) in
    rw (slot, head, records, writes, elsewhere) (c.set_writes.ensures.copy ∙ ap (λ (l : List ℕ). written_to b third l) c.set_head.ensures.copy ∙ ap (λ (l : List ℕ). written_to b third (written_to b second l)) c.set_slot.ensures.copy)

pub returns-clause-added : goal.returns-clause-added
returns-clause-added c few young lives =
    let old = c.args.header.now in
    let h = header_of old in
    let i = c.args.i in
    let was = c.slot_at.ensures ∙ sym (slot_read old i c.requires.place) in
    let head = c.head-head.ensures.head few in
    let records = c.head_records-records.ensures ∙ sym (ring_read old).1 in
    let writes : c.saturating_add-made.result ≡ h.writes + 1 = let w = c.writes.ensures ∙ sym (ring_read old).2 in omega (arith, w, young, c.saturating_add-made.ensures) in
    let touched = c.added_slot-slot.result.touched in
    let live : c.slot_at.result.live < 2 ^ 31 = rw was lives in
    let slot = c.added_slot-slot.ensures.slot live in
    let turn = c.next_address-address.ensures.turn few in
    record {
      touched = touched;
      bits = subst (λ (x : TableSlot). Also x.touched h.head touched) was (subst (λ (e : ℕ). Also c.slot_at.result.touched e touched) head c.added_slot-slot.ensures.bits);
      made = c.set_writes.ensures.means ∙ ap (λ (g : Header). let k : Header = record g { writes = c.saturating_add-made.result } in k)
          (c.set_head.ensures.means ∙ ap (λ (g : Header). let k : Header = record g { head = c.head-head.result; records = c.head_records-records.result + 1 } in k) c.set_slot.ensures.means)
          ∙ rw (slot, turn, was, head, records, writes) refl;
    }
