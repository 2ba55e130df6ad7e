-- `pop` splits the list at its last range, and each arm puts it together again.
use Rattle.std.proofs.Common.{◌||◌, Bool, List, [], ◌∷◌, ◌++◌, ap, refl, sym, ◌∙◌}
use Rattle.std.proofs.lemmas.List.{append_assoc, append-nil}
use Rattle.rb_filedisk.specs.declared.unsynced.Range.{Range}
use Rattle.rb_filedisk.specs.Unsynced.{touches}
use Rattle.rb_filedisk.proofs.RangeLemmas.{with_range-joined, with_range-apart, with_range-first, with_range-same}
use Rattle.rb_filedisk.proofs.unsynced.Unsynced.add.Goals as goal
use Rattle.rb_filedisk.proofs.unsynced.Unsynced.add.Goals.{then-full, else-full}

pub returns-in-Some : goal.returns-in-Some
returns-in-Some c =
    let old = c.args.self.now.ranges.items in
    let front = c.pop.new.self.items in
    let last = c.in-Some.last in
    let new = c.of_write-written.result in
    let full = c.is_full-full.result in
    c.push.ensures.items
    ∙ ap (λ (range : Range). front ++ range ∷ []) c.span_with.ensures
    ∙ sym (with_range-joined full new front last (elim c.if-full.branch [
      | then-full w ↦ ap (λ (b : Bool). b || touches last new) w.if-full.true
      | else-full w ↦
          ap (λ (b : Bool). b || touches last new) w.if-full.false
          ∙ sym w.touches.ensures
          ∙ sym w.value-is
          ∙ c.if-touches.true
    ]))
    ∙ with_range-same full _ new _ _ old c.is_full-full.ensures.value c.of_write-written.ensures (sym c.in-Some.ensures.items)

pub returns-in-Some-2 : goal.returns-in-Some-2
returns-in-Some-2 c =
    let old = c.args.self.now.ranges.items in
    let front = c.pop.new.self.items in
    let last = c.in-Some.last in
    let new = c.of_write-written.result in
    let full = c.is_full-full.result in
    c.push-in-Some-2-2.ensures.items
    ∙ ap (λ (items : List Range). items ++ new ∷ []) c.push-in-Some-2.ensures.items
    ∙ append_assoc front (last ∷ []) (new ∷ [])
    ∙ sym (with_range-apart full new front last (elim c.if-full.branch [
      | then-full w ↦
          ap (λ (b : Bool). b || touches last new) w.if-full.true
          ∙ sym w.if-full.true
          ∙ sym w.value-is
          ∙ c.if-touches.false
      | else-full w ↦
          ap (λ (b : Bool). b || touches last new) w.if-full.false
          ∙ sym w.touches.ensures
          ∙ sym w.value-is
          ∙ c.if-touches.false
    ]))
    ∙ with_range-same full _ new _ _ old c.is_full-full.ensures.value c.of_write-written.ensures (sym c.in-Some.ensures.items)

pub returns-in-None : goal.returns-in-None
returns-in-None c =
    let old = c.args.self.now.ranges.items in
    let front = c.pop.new.self.items in
    let new = c.of_write-written.result in
    let full = c.is_full-full.result in
    c.push-in-None.ensures.items
    ∙ ap (λ (items : List Range). items ++ new ∷ []) (sym (c.in-None.ensures.items ∙ append-nil front))
    ∙ with_range-first full new old c.in-None.ensures.variant.1
    ∙ with_range-same full _ new _ old old c.is_full-full.ensures.value c.of_write-written.ensures refl
