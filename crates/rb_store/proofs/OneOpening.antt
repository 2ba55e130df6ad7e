-- A file has one layout, and means one list of blocks with one last log number.
use Rattle.std.proofs.Common.{◌≡◌, ℕ, List, subst}
use Rattle.rb_layout.specs.OneLayout.{one_layout}
use Rattle.rb_layout.specs.Regions.{file_version}
use Rattle.rb_layout.specs.declared.layout.Layout.{Layout}
use Rattle.rb_store.proofs.OneMeaning.{one_meaning}
use Rattle.rb_store.proofs.SameLayout.{same_layout}
use Rattle.rb_store.specs.Meaning.{Means}

-- two meanings of a file agree
pub record Agree (l m : Layout) (first second : List (List ℕ)) (n k : ℕ) : Type 0 where
  pub layout : l ≡ m
  pub blocks : first ≡ second
  pub lsn : n ≡ k

pub one_opening : (l m : Layout) (file : List ℕ) (first second : List (List ℕ)) (n k : ℕ) → Means l file first n → Means m file second k → Agree l m first second n k
one_opening l m file first second n k one two =
    let same = same_layout l m (one_layout file_version l m file one.identity two.identity) in
    let both = one_meaning m file first second n k (subst (λ (x : Layout). Means x file first n) same one) two in
    record { layout = same; blocks = both.0; lsn = both.1 }

-- what means as one of them does means as the other
pub means_alike : (l m : Layout) (file other : List ℕ) (first second : List (List ℕ)) (n k : ℕ) → Means l file first n → Means m file second k → Means l other first n → Means m other second k
means_alike l m file other first second n k one two at =
    let agree = one_opening l m file first second n k one two in
    subst (λ (lsn : ℕ). Means m other second lsn) agree.lsn
    (subst (λ (blocks : List (List ℕ)). Means m other blocks n) agree.blocks
    (subst (λ (x : Layout). Means x other first n) agree.layout at))
