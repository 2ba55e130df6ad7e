-- A transaction's first changes are no more than their last number.
use Rattle.std.proofs.Common.{◌≡◌, ◌≤◌, ◌&&◌, nat_le, ℕ, suc, Bool, true, false, if◌then◌else◌, List, [], ◌∷◌, Option}
use Rattle.std.proofs.Common.{refl, sym, ◌∙◌, ap, arith}
use Rattle.std.proofs.lemmas.Bool.Decides.{nat_tests}
use Rattle.rb_base.specs.declared.ids.Xid.{Xid}
use Rattle.law_read.specs.Keeping.{first_count, is_first, is_mine}
use Rattle.law_read.specs.Reading.{Down}
use Rattle.law_home.specs.Walk.{Change}

low : (mine : Option Xid) (upto : ℕ) (xid : Xid) (number : ℕ) → is_first mine upto xid number ≡ true → number ≤ upto
low mine upto xid number is = by_mine (is_mine mine xid) refl
  where
    by_mine : (t : Bool) → is_mine mine xid ≡ t → number ≤ upto
    by_mine true own = let test : nat_le number upto ≡ true = ap (λ (z : Bool). z && nat_le number upto) (sym own) ∙ is in grind (arith, nat_tests)
    by_mine false other = let wrong : false ≡ true = ap (λ (z : Bool). z && nat_le number upto) (sym other) ∙ is in absurd (cc (wrong))

pub first_few : (mine : Option Xid) (upto n : ℕ) (chs : List Change) → Down n chs → (first_count mine upto chs ≤ n) × (first_count mine upto chs ≤ upto)
first_few mine upto n [] down = (omega arith, omega arith)
first_few mine upto n (ch ∷ more) down = by_first (is_first mine upto ch.xid ch.number) refl (first_few mine upto down.0 more down.3)
  where
    by_first : (t : Bool) → is_first mine upto ch.xid ch.number ≡ t → (first_count mine upto more ≤ down.0) × (first_count mine upto more ≤ upto) → ((if t then suc (first_count mine upto more) else first_count mine upto more) ≤ n) × ((if t then suc (first_count mine upto more) else first_count mine upto more) ≤ upto)
    by_first true is deep = let le : ch.number ≤ upto = low mine upto ch.xid ch.number is in (omega (arith, deep.0, down.2), omega (arith, deep.0, down.1, le))
    by_first false is deep = (omega (arith, deep.0, down.2), deep.1)
