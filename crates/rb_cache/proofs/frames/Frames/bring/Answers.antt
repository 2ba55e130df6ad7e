use Rattle.std.proofs.Common.{◌≡◌, ◌-◌, ◌<◌, ℕ, true, false, List, ◌∷◌, length, take, get_or, set, arith, ap, sym, ◌∙◌, subst, refl}
use Rattle.std.specs.Map.{keys_of}
use Rattle.lru.specs.LruCache.{LruCache}
use Rattle.rb_base.specs.Fields.{part}
use Rattle.rb_base.specs.declared.sizes.TheConstants.{UNIT}
use Rattle.rb_layout.specs.Regions.{block_offset}
use Rattle.rb_cache.specs.Frames.{has_number, numbers_of, room_made, without}
use Rattle.rb_cache.specs.Slots.{AreFrames, FramesState, held_in, held_of}
use Rattle.rb_cache.specs.declared.frame.Frame.{Frame}
use Rattle.rb_cache.proofs.MemoryLemmas.{freed_frames, held_freed, held_taken, memory_of, taken_frames}
use Rattle.rb_cache.proofs.OrderLemmas.{keys-promoted}
use Rattle.rb_cache.proofs.UseLemmas.{few_blocks, last_below, last_is, on_error, unit_at}
use Rattle.rb_cache.proofs.frames.Frames.bring.Goals as goal

-- the last number, as it was found
last : (s : FramesState) (slots : List Frame) (order : List ℕ) (v k : ℕ) → record { slots = slots; order = order } ≡ s → v ≡ get_or s.order (length s.order - 1) 0 → k ≡ v → k ≡ get_or order (length order - 1) 0
last s slots order v k view is from = from ∙ is ∙ ap (λ (t : FramesState). get_or t.order (length t.order - 1) 0) (sym view)

module _ (slots : List Frame) (order places : List ℕ) (are : AreFrames slots order places) (k : ℕ) (found : k ≡ get_or order (length order - 1) 0) (was : Frame) (read : was ≡ get_or slots k was) (bytes : List ℕ) (same : length bytes ≡ length was.bytes) where
  below : k < length slots
  below = last_below slots order places are k found

  unit : length bytes ≡ UNIT
  unit = same ∙ unit_at slots order places are k was below read

  abbrev free : Frame
  free = record { block = 4294967295; bytes = bytes; dirty = false }

  freed : AreFrames (set slots k free) order places
  freed = freed_frames slots order places k free are below unit (take (length order - 1) order) (last_is slots order places are k found) refl refl

  freed_held : held_of (set slots k free) order ≡ room_made (length slots) (held_of slots order)
  freed_held = held_freed slots order places k free are below unit (take (length order - 1) order) (last_is slots order places are k found) refl refl

  module _ (which : ℕ) (known : which < 66064) (absent : has_number which (numbers_of (held_of slots order)) ≡ false) where
    abbrev frame : Frame
    frame = record { block = which; bytes = bytes; dirty = false }

    taken : AreFrames (set slots k frame) (k ∷ without k order) (set places which k)
    taken = taken_frames slots order places k frame are below unit (take (length order - 1) order) (last_is slots order places are k found) known absent

    taken_held : held_of (set slots k frame) (k ∷ without k order) ≡ frame ∷ room_made (length slots) (held_of slots order)
    taken_held = held_taken slots order places k frame are below unit (take (length order - 1) order) (last_is slots order places are k found) known absent

pub invariant_of-self : goal.invariant_of-self
invariant_of-self g c =
    let i = c.self.inside in let order = keys_of i.order.entries in
    let found = last c.args.self.now i.slots.items order c.last_number-last.result c.from.result c.self.view_is c.last_number-last.ensures c.from.ensures in
    freed i.slots.items order i.places.items c.self.invariant c.from.result found c.index_mut-slot.result.now c.index_mut-slot.ensures.value c.read_at.new.into c.read_at.auto.into

pub returns-in_err-read_at-clause-failed : goal.returns-in_err-read_at-clause-failed
returns-in_err-read_at-clause-failed g c =
    let i = c.self.inside in let order = keys_of i.order.entries in
    let found = last c.args.self.now i.slots.items order c.last_number-last.result c.from.result c.self.view_is c.last_number-last.ensures c.from.ensures in
    on_error c.from_residual.result
    (subst (λ (s : FramesState). held_of (set i.slots.items c.from.result (record { block = 4294967295; bytes = c.read_at.new.into; dirty = false })) order ≡ room_made (length s.slots) (held_in s)) c.self.view_is
    (freed_held i.slots.items order i.places.items c.self.invariant c.from.result found c.index_mut-slot.result.now c.index_mut-slot.ensures.value c.read_at.new.into c.read_at.auto.into))

pub returns-in_err-read_at-clause-memory : goal.returns-in_err-read_at-clause-memory
returns-in_err-read_at-clause-memory g c =
    let i = c.self.inside in let order = keys_of i.order.entries in
    let found = last c.args.self.now i.slots.items order c.last_number-last.result c.from.result c.self.view_is c.last_number-last.ensures c.from.ensures in
    memory_of (set i.slots.items c.from.result (record { block = 4294967295; bytes = c.read_at.new.into; dirty = false })) order i.places.items
    (freed i.slots.items order i.places.items c.self.invariant c.from.result found c.index_mut-slot.result.now c.index_mut-slot.ensures.value c.read_at.new.into c.read_at.auto.into)

-- what holds at an Ok
order_is : (es new : LruCache ℕ (Unit {0})) (slots : List Frame) (places : List ℕ) (k v : ℕ) → AreFrames slots (keys_of es.entries) places → k < length slots → k ≡ v → (has_number v (keys_of es.entries) ≡ true → keys_of new.entries ≡ v ∷ without v (keys_of es.entries)) → keys_of new.entries ≡ k ∷ without k (keys_of es.entries)
order_is es new slots places k v are lt same so =
    so (subst (λ (j : ℕ). has_number j (keys_of es.entries) ≡ true) same (are.all k lt)) ∙ ap (λ (j : ℕ). j ∷ without j (keys_of es.entries)) (sym same)

pub invariant_of-self-2 : goal.invariant_of-self-2
invariant_of-self-2 g c =
    let i = c.self.inside in let order = keys_of i.order.entries in
    let found = last c.args.self.now i.slots.items order c.last_number-last.result c.from.result c.self.view_is c.last_number-last.ensures c.from.ensures in
    let lt = last_below i.slots.items order i.places.items c.self.invariant c.from.result found in
    let ks = order_is i.order c.promote.new.self i.slots.items i.places.items c.from.result c.last_number-last.result c.self.invariant lt c.from.ensures
    (λ has. ap (λ (cache : LruCache ℕ (Unit {0})). keys_of cache.entries) c.promote.ensures.entries ∙ keys-promoted c.last_number-last.result i.order.entries has) in
    let few = few_blocks c.args.layout.now in
    let absent = subst (λ (s : FramesState). has_number c.args.no (numbers_of (held_in s)) ≡ false) (sym c.self.view_is) c.requires.absent in
    subst (λ (js : List ℕ). AreFrames (set i.slots.items c.from.result (record { block = c.args.no; bytes = c.read_at.new.into; dirty = false })) js (set i.places.items c.args.no c.last_number-last.result)) (sym ks)
    (subst (λ (v : ℕ). AreFrames (set i.slots.items c.from.result (record { block = c.args.no; bytes = c.read_at.new.into; dirty = false })) (c.from.result ∷ without c.from.result order) (set i.places.items c.args.no v)) c.from.ensures
    (taken i.slots.items order i.places.items c.self.invariant c.from.result found c.index_mut-slot.result.now c.index_mut-slot.ensures.value c.read_at.new.into c.read_at.auto.into c.args.no (omega (arith, few, c.requires.there)) absent))

pub returns-clause-brought : goal.returns-clause-brought
returns-clause-brought g c =
    let i = c.self.inside in let order = keys_of i.order.entries in
    let found = last c.args.self.now i.slots.items order c.last_number-last.result c.from.result c.self.view_is c.last_number-last.ensures c.from.ensures in
    let lt = last_below i.slots.items order i.places.items c.self.invariant c.from.result found in
    let ks = order_is i.order c.promote.new.self i.slots.items i.places.items c.from.result c.last_number-last.result c.self.invariant lt c.from.ensures
    (λ has. ap (λ (cache : LruCache ℕ (Unit {0})). keys_of cache.entries) c.promote.ensures.entries ∙ keys-promoted c.last_number-last.result i.order.entries has) in
    let few = few_blocks c.args.layout.now in
    let absent = subst (λ (s : FramesState). has_number c.args.no (numbers_of (held_in s)) ≡ false) (sym c.self.view_is) c.requires.absent in
    let unit = unit_at i.slots.items order i.places.items c.self.invariant c.from.result c.index_mut-slot.result.now lt c.index_mut-slot.ensures.value in
    record {
      frame = record { block = c.args.no; bytes = c.read_at.new.into; dirty = false };
      held_is = ap (held_of (set i.slots.items c.from.result (record { block = c.args.no; bytes = c.read_at.new.into; dirty = false }))) ks
          ∙ subst (λ (s : FramesState). held_of (set i.slots.items c.from.result (record { block = c.args.no; bytes = c.read_at.new.into; dirty = false })) (c.from.result ∷ without c.from.result order)
          ≡ record { block = c.args.no; bytes = c.read_at.new.into; dirty = false } ∷ room_made (length s.slots) (held_in s)) c.self.view_is
          (taken_held i.slots.items order i.places.items c.self.invariant c.from.result found c.index_mut-slot.result.now c.index_mut-slot.ensures.value c.read_at.new.into c.read_at.auto.into c.args.no (omega (arith, few, c.requires.there)) absent);
      block = refl;
      clean = refl;
      bytes = λ told. c.in_ok-read_at.ensures.value told
          ∙ ap (λ (at : ℕ). part (g.D.Disk.content c.args.disk.now) at (length c.index_mut-slot.result.now.bytes)) c.block_at.ensures
          ∙ ap (part (g.D.Disk.content c.args.disk.now) (block_offset c.args.layout.now c.args.no)) unit;
    }

pub returns-clause-memory : goal.returns-clause-memory
returns-clause-memory g c = memory_of (set c.self.inside.slots.items c.from.result (record { block = c.args.no; bytes = c.read_at.new.into; dirty = false })) (keys_of c.promote.new.self.entries) (set c.self.inside.places.items c.args.no c.last_number-last.result) (invariant_of-self-2 g c)
