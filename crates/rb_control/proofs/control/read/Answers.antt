use Rattle.std.proofs.Common.{◌≡◌, ◌∙◌, IsTrue, true, false, List, ℕ, ap, sym, subst}
use Rattle.rb_base.specs.Fields.{part, number_at}
use Rattle.rb_control.specs.Heads.{copy_at, copy_offset, chosen, head_of, IsHead}
use Rattle.rb_control.specs.HeadLaws.{head_by, copy_read}
use Rattle.rb_control.proofs.control.read.Goals as goal

-- the copy that was read, by where it is read from and what its bytes say
read_back : (file now bytes : List ℕ) (copy at slot number : ℕ) → now ≡ file → at ≡ copy_offset copy → copy ≡ chosen file
    → bytes ≡ part now at 16 → slot ≡ number_at bytes 0 4 → number ≡ number_at bytes 8 8
    → head_by slot number ≡ head_of file
read_back file now bytes copy at slot number same place picked is first second =
    copy_read file bytes copy slot number
    (is ∙ ap (λ (f : List ℕ). part f at 16) same ∙ ap (λ (from : ℕ). part file from 16) place) first second
    ∙ ap (copy_at file) picked

pub returns-then-is_head-clause-head : goal.returns-then-is_head-clause-head
returns-then-is_head-clause-head g c told =
    read_back _ _ _ _ _ _ _ (c.in_ok-copy.ensures.same told).same c.copy_start.ensures (c.in_ok-copy.ensures.copy told)
    (c.in_ok-read_at.ensures.value told) c.u32_at.ensures c.u64_at.ensures

pub returns-else-is_head-clause-none : goal.returns-else-is_head-clause-none
returns-else-is_head-clause-none g c told asked has =
    let head = read_back _ _ _ _ _ _ _ (c.in_ok-copy.ensures.same told).same c.copy_start.ensures (c.in_ok-copy.ensures.copy told)
    (c.in_ok-read_at.ensures.value told) c.u32_at.ensures c.u64_at.ensures in
    let all = c.is_head.ensures.1 (subst (IsHead c.args.layout.now) (sym head) has) in
    let is : false ≡ true = subst IsTrue c.if-is_head.false all in absurd (cc)
