use Rattle.std.proofs.Common.{◌≡◌, ℕ, List, [], ◌∷◌, ◌++◌, ◌<◌, ◌^◌, max, refl, ap, sym, ◌∙◌}
use Rattle.std.proofs.lemmas.List.{append_assoc}
use Rattle.rb_base.specs.Blocks.{written_to}
use Rattle.rb_base.specs.Groups.{Patch}
use Rattle.rb_ring.specs.Ring.{lost_patch}
use Rattle.rb_segment.proofs.Parts.{chosen_read, slot_read, ring_read}
use Rattle.rb_segment.specs.Header.{Header, header_of, slot_in}
use Rattle.rb_segment.specs.Moves.{claimed_slot}
use Rattle.rb_txntable.specs.Slots.{slot_patch}
use Rattle.rb_txntable.specs.declared.slots.TableSlot.{TableSlot}
use Rattle.rb_segment.proofs.take.claim.Goals as goal

pub unreachable-requires : goal.unreachable-requires
unreachable-requires c =
    let idle = c.requires.idle in
    let active = c.in_default.ensures.none idle.0 idle.1 in
    idle.2 (ap (λ (s : TableSlot). s.state) (slot_read c.args.header.now idle.0 idle.1) ∙ active)

pub returns-clause-chosen : goal.returns-clause-chosen
returns-clause-chosen c = chosen_read c.args.header.now c.in-Some.i c.in-Some.ensures.found

pub returns-clause-wrap : goal.returns-clause-wrap
returns-clause-wrap c =
    let slot = ap (λ (h : Header). slot_in h c.in-Some.i) c.set_lost.ensures.means ∙ c.set_slot.ensures.read in
    ap (λ (s : TableSlot). s.wrap) (sym slot)

pub returns-clause-patches : goal.returns-clause-patches
returns-clause-patches c =
    let slot = ap (λ (h : Header). slot_in h c.in-Some.i) c.set_lost.ensures.means ∙ c.set_slot.ensures.read in
    let lost = ap (λ (h : Header). h.lost) c.set_lost.ensures.means in
    let b = c.header_block-block.result in
    let given = lost_patch b c.max-given_up.result ∷ [] in
    rw (slot, lost, sym c.header_block-block.ensures.number)
    (c.set_lost.ensures.patch ∙ ap (λ (l : List Patch). l ++ given) c.set_slot.ensures.patch ∙ append_assoc c.args.group.now (slot_patch b c.in-Some.i c.claimed_slot-taken.result ∷ []) given)

pub returns-clause-copy : goal.returns-clause-copy
returns-clause-copy c =
    let slot = ap (λ (h : Header). slot_in h c.in-Some.i) c.set_lost.ensures.means ∙ c.set_slot.ensures.read in
    let lost = ap (λ (h : Header). h.lost) c.set_lost.ensures.means in
    let b = c.header_block-block.result in
    let given = lost_patch b c.max-given_up.result ∷ [] in
    rw (slot, lost, sym c.header_block-block.ensures.number)
    (c.set_lost.ensures.copy ∙ ap (λ (l : List ℕ). written_to b given l) c.set_slot.ensures.copy)

pub returns-clause-moved : goal.returns-clause-moved
returns-clause-moved c young =
    let i = c.in-Some.i in
    let h = header_of c.args.header.now in
    let slot = c.slot_at-slot.ensures ∙ sym (slot_read c.args.header.now i c.in-Some.ensures.found.within) in
    let wrap : c.slot_at-slot.result.wrap < 2 ^ 63 = rw slot (young.wraps i c.in-Some.ensures.found.within) in
    let taken = c.claimed_slot-taken.ensures.slot wrap ∙ ap (λ (s : TableSlot). claimed_slot h s) slot in
    let lost = c.lost.ensures ∙ sym (ring_read c.args.header.now).3 in
    let given : c.max-given_up.result ≡ max h.lost (slot_in h i).newest = c.max-given_up.ensures ∙ rw (lost, slot) refl in
    c.set_lost.ensures.means ∙ ap (λ (g : Header). let k : Header = record g { lost = c.max-given_up.result } in k) c.set_slot.ensures.means
    ∙ rw (taken, given) refl

pub returns-clause-runs : goal.returns-clause-runs
returns-clause-runs c =
    let slot = ap (λ (h : Header). slot_in h c.in-Some.i) c.set_lost.ensures.means ∙ c.set_slot.ensures.read in
    record {
      slot = c.in-Some.ensures.found.within;
      active = ap (λ (s : TableSlot). s.state) slot ∙ c.claimed_slot-taken.ensures.active;
      wrap = ap (λ (s : TableSlot). s.wrap) slot;
    }
