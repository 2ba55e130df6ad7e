use Rattle.std.proofs.Common.{◌≡◌, ℕ, true, false, List, ◌∷◌, get_or, sym, ap, ◌∙◌, subst}
use Rattle.std.specs.Map.{keys_of}
use Rattle.rb_cache.specs.Frames.{frame_in, has_number, numbers_of, others_of, without}
use Rattle.rb_cache.specs.Slots.{AreFrames, FramesState, held_in, held_of, no_frame}
use Rattle.rb_cache.specs.declared.frame.Frame.{Frame}
use Rattle.rb_cache.proofs.MemoryLemmas.{memory_in, memory_of}
use Rattle.rb_cache.proofs.OrderLemmas.{keys-promoted}
use Rattle.rb_cache.proofs.UseLemmas.{hit, hit_frames, hit_moved, leads_to, missed}
use Rattle.rb_cache.proofs.frames.Frames.touch.Goals as goal

-- the frame that was read
read : (slots : List Frame) (p k : ℕ) (f : Frame) → k ≡ p → f ≡ get_or slots k f → f ≡ get_or slots p f
read slots p k f same is = is ∙ ap (λ (j : ℕ). get_or slots j f) same

pub returns-then-index-no-clause-held : goal.returns-then-index-no-clause-held
returns-then-index-no-clause-held c =
    let i = c.self.inside in
    subst (λ (s : FramesState). false ≡ has_number c.args.no (numbers_of (held_in s))) c.self.view_is
    (sym (missed i.slots.items (keys_of i.order.entries) i.places.items c.self.invariant c.args.no c.index.result.now c.index-2.result.now c.requires.there c.index.ensures
    (read i.slots.items c.index.result.now c.from.result c.index-2.result.now c.from.ensures c.index-2.ensures) c.if-index-no.true))

pub returns-then-index-no-clause-memory : goal.returns-then-index-no-clause-memory
returns-then-index-no-clause-memory c =
    let i = c.self.inside in memory_in c.args.self.now i.slots.items (keys_of i.order.entries) i.places.items c.self.view_is c.self.invariant

-- the order after the promotion
order_is : (c : goal.After-promote) → keys_of c.promote.new.self.entries ≡ c.index.result.now ∷ without c.index.result.now (keys_of c.self.inside.order.entries)
order_is c =
    let i = c.self.inside in
    let below = leads_to i.slots.items (keys_of i.order.entries) i.places.items c.self.invariant c.args.no c.index.result.now c.index-2.result.now c.requires.there c.index.ensures
    (read i.slots.items c.index.result.now c.from.result c.index-2.result.now c.from.ensures c.index-2.ensures) in
    ap (λ cache. keys_of cache.entries) c.promote.ensures.entries ∙ keys-promoted c.index.result.now i.order.entries (c.self.invariant.all c.index.result.now below)

frames_are : (c : goal.After-promote) → AreFrames c.self.inside.slots.items (keys_of c.promote.new.self.entries) c.self.inside.places.items
frames_are c =
    let i = c.self.inside in
    subst (λ (ks : List ℕ). AreFrames i.slots.items ks i.places.items) (sym (order_is c))
    (hit_frames i.slots.items (keys_of i.order.entries) i.places.items c.self.invariant c.args.no c.index.result.now c.index-2.result.now c.requires.there c.index.ensures
    (read i.slots.items c.index.result.now c.from.result c.index-2.result.now c.from.ensures c.index-2.ensures) c.if-index-no.false)

pub invariant_of-self : goal.invariant_of-self
invariant_of-self c = frames_are c

pub returns-then-front_number-frame-clause-held : goal.returns-then-front_number-frame-clause-held
returns-then-front_number-frame-clause-held c =
    let i = c.self.inside in
    subst (λ (s : FramesState). true ≡ has_number c.args.no (numbers_of (held_in s))) c.self.view_is
    (sym (hit i.slots.items (keys_of i.order.entries) i.places.items c.self.invariant c.args.no c.index.result.now c.index-2.result.now c.requires.there c.index.ensures
    (read i.slots.items c.index.result.now c.from.result c.index-2.result.now c.from.ensures c.index-2.ensures) c.if-index-no.false))

pub returns-then-front_number-frame-clause-moved : goal.returns-then-front_number-frame-clause-moved
returns-then-front_number-frame-clause-moved c = λ yes.
    let i = c.self.inside in
    ap (held_of i.slots.items) (order_is c)
    ∙ subst (λ (s : FramesState). held_of i.slots.items (c.index.result.now ∷ without c.index.result.now (keys_of i.order.entries)) ≡ frame_in c.args.no no_frame (held_in s) ∷ others_of c.args.no (held_in s)) c.self.view_is
    (hit_moved i.slots.items (keys_of i.order.entries) i.places.items c.self.invariant c.args.no c.index.result.now c.index-2.result.now c.requires.there c.index.ensures
    (read i.slots.items c.index.result.now c.from.result c.index-2.result.now c.from.ensures c.index-2.ensures) c.if-index-no.false)

pub returns-then-front_number-frame-clause-memory : goal.returns-then-front_number-frame-clause-memory
returns-then-front_number-frame-clause-memory c = memory_of c.self.inside.slots.items (keys_of c.promote.new.self.entries) c.self.inside.places.items (frames_are c)

pub returns-else-front_number-frame-clause-memory : goal.returns-else-front_number-frame-clause-memory
returns-else-front_number-frame-clause-memory c =
    let i = c.self.inside in memory_in c.args.self.now i.slots.items (keys_of i.order.entries) i.places.items c.self.view_is c.self.invariant
