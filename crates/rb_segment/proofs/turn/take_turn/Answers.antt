use Rattle.std.proofs.Common.{◌≡◌, ℕ, List, [], ◌∷◌, ◌++◌, ◌==◌, max, if◌then◌else◌, refl, ap, sym, ◌∙◌}
use Rattle.std.proofs.lemmas.List.{append_assoc}
use Rattle.rb_base.specs.Blocks.{written_to}
use Rattle.rb_base.specs.Groups.{Patch}
use Rattle.rb_ring.specs.Ring.{lost_patch, extent_patch, head_patch}
use Rattle.rb_ring.specs.declared.extents.Extent.{Extent}
use Rattle.rb_segment.proofs.Parts.{extent_read}
use Rattle.rb_segment.specs.Header.{Header, header_of, extent_in, ord_in}
use Rattle.rb_segment.proofs.turn.take_turn.Goals as goal

pub returns-clause-empty : goal.returns-clause-empty
returns-clause-empty c = ap (λ (h : Header). h.records) (c.set_lost.ensures.means ∙ ap (λ (h : Header). let k : Header = record h { lost = c.lost_with-given_up.result } in k) c.set_head.ensures.means)

pub returns-clause-patches : goal.returns-clause-patches
returns-clause-patches c =
    let b = c.args.block in
    let old = c.args.group.now in
    let x : Extent = record { ord = c.next_turn.result; newest = 0 } in
    let now = c.set_lost.ensures.means ∙ ap (λ (h : Header). let k : Header = record h { lost = c.lost_with-given_up.result } in k) c.set_head.ensures.means in
    let head = ap (λ (h : Header). h.head) now in
    let records = ap (λ (h : Header). h.records) now in
    let lost = ap (λ (h : Header). h.lost) now in
    let extent = ap (λ (h : Header). extent_in h c.args.e) now ∙ c.set_extent.ensures.read in
    let first = extent_patch b c.args.e x ∷ [] in
    let second = head_patch b c.args.e 0 ∷ [] in
    let third = lost_patch b c.lost_with-given_up.result ∷ [] in
    rw (head, records, lost, extent) (c.set_lost.ensures.patch ∙ ap (λ (l : List Patch). l ++ third) c.set_head.ensures.patch
    ∙ ap (λ (l : List Patch). (l ++ second) ++ third) c.set_extent.ensures.patch ∙ append_assoc (old ++ first) second third ∙ append_assoc old first (second ++ third))

pub returns-clause-copy : goal.returns-clause-copy
returns-clause-copy c =
    let b = c.args.block in
    let x : Extent = record { ord = c.next_turn.result; newest = 0 } in
    let now = c.set_lost.ensures.means ∙ ap (λ (h : Header). let k : Header = record h { lost = c.lost_with-given_up.result } in k) c.set_head.ensures.means in
    let head = ap (λ (h : Header). h.head) now in
    let records = ap (λ (h : Header). h.records) now in
    let lost = ap (λ (h : Header). h.lost) now in
    let extent = ap (λ (h : Header). extent_in h c.args.e) now ∙ c.set_extent.ensures.read in
    let second = head_patch b c.args.e 0 ∷ [] in
    let third = lost_patch b c.lost_with-given_up.result ∷ [] in
    rw (head, records, lost, extent) (c.set_lost.ensures.copy ∙ ap (λ (l : List ℕ). written_to b third l) c.set_head.ensures.copy ∙ ap (λ (l : List ℕ). written_to b third (written_to b second l)) c.set_extent.ensures.copy)

pub returns-clause-moved : goal.returns-clause-moved
returns-clause-moved c few young =
    let e = c.args.e in
    let h = header_of c.args.header.now in
    let x : Extent = record { ord = c.next_turn.result; newest = 0 } in
    let turn = c.next_turn.ensures few young in
    let was = c.extent_at.ensures ∙ sym (extent_read c.args.header.now e c.requires.place) in
    let lost : c.lost_with-given_up.result ≡ (if ord_in h e == 0 then h.lost else max h.lost (extent_in h e).newest) = c.lost_with-given_up.ensures ∙ ap (λ (y : Extent). if y.ord == 0 then h.lost else max h.lost y.newest) was in
    c.set_lost.ensures.means ∙ ap (λ (g : Header). let k : Header = record g { lost = c.lost_with-given_up.result } in k) (c.set_head.ensures.means ∙ ap (λ (g : Header). let k : Header = record g { head = e; records = 0 } in k) c.set_extent.ensures.means)
    ∙ rw (turn, lost) refl
