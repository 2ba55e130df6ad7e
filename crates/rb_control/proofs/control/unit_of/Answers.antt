use Rattle.std.proofs.Common.{◌≡◌, ◌++◌, ◌∙◌, List, ℕ, take, drop, replicate, ap, arith}
use Rattle.std.proofs.lemmas.List.{take-replicate, drop-replicate}
use Rattle.byteorder.specs.Endian.{big_bytes}
use Rattle.rb_base.specs.Fields.{with_number}
use Rattle.rb_base.specs.declared.sizes.TheConstants.{UNIT}
use Rattle.rb_layout.specs.declared.layout.Head.{Head}
use Rattle.rb_control.specs.Heads.{copy_unit}
use Rattle.rb_control.proofs.control.unit_of.Goals as goal

unit_is : (zeros : List ℕ) (head : Head) → drop 4 zeros ≡ replicate 2044 0 → with_number (with_number zeros 0 4 head.slot) 8 8 head.number ≡ copy_unit head
unit_is zeros head all =
    let front : take 4 (drop 4 zeros) ≡ replicate 4 0 = ap (take 4) all ∙ take-replicate 4 2044 0 (omega arith) in
    let back : drop 12 (drop 4 zeros) ≡ replicate 2032 0 = ap (drop 12) all ∙ drop-replicate 12 2044 0 in
    ap (λ (f : List ℕ). ((big_bytes 4 head.slot ++ f) ++ big_bytes 8 head.number) ++ drop 12 (drop 4 zeros)) front
    ∙ ap (λ (b : List ℕ). ((big_bytes 4 head.slot ++ replicate 4 0) ++ big_bytes 8 head.number) ++ b) back

pub returns : goal.returns
returns c = c.put_u64.ensures ∙ ap (λ (l : List ℕ). with_number l 8 8 c.args.head.number) c.put_u32.ensures ∙ unit_is (replicate UNIT 0) c.args.head (drop-replicate 4 UNIT 0)
