-- Why a home can't be read, from what the faults tell.
use Rattle.std.proofs.Common.{◌≡◌, ◌<◌, ℕ, false, refl, arith}
use Rattle.rb_cr.specs.Faults.{Because, Blames, is_fault}
use Rattle.rb_cr.specs.declared.faults.CrFault.{CrFault}
use Rattle.rb_cr.specs.declared.faults.CrFault.TheVariants as faults
use Rattle.law_read.specs.Heights.{Over}
use Rattle.law_home.specs.Walk.{Env, Home, entry_at}

-- a segment is blamed that lost something above n, with this reason
pub because_lost : (env : Env) (n : ℕ) (why : ℕ → Type 0) (seg : ℕ) (e : CrFault) → (is_fault e ≡ false → (n < env.lost seg) × why seg) → Blames n (env.lost seg) e → Because env n why e
because_lost env n why seg faults.Failed reason blames = tt
because_lost env n why seg (faults.TooOld scn lost) reason blames =
    let r : (n < env.lost seg) × why seg = reason refl in
    (blames.0, omega (arith, r.0, blames.1), (seg, blames.1, r.1))

-- an entry is over n, which has this reason
pub because_over : (env : Env) (n : ℕ) (why : ℕ → Type 0) (b : Home) (e : CrFault) → ((j : ℕ) → Over env n (entry_at b j) → (n < env.lost (entry_at b j).xid.seg) × why (entry_at b j).xid.seg)
    → (is_fault e ≡ false → (j : ℕ) × Over env n (entry_at b j) × Blames n (env.lost (entry_at b j).xid.seg) e) → Because env n why e
because_over env n why b faults.Failed reason over = tt
because_over env n why b (faults.TooOld scn lost) reason over =
    let o : (j : ℕ) × Over env n (entry_at b j) × Blames n (env.lost (entry_at b j).xid.seg) (faults.TooOld scn lost) = over refl in
    because_lost env n why (entry_at b o.0).xid.seg (faults.TooOld scn lost) (λ _. reason o.0 o.1) o.2

pub because_map : (env : Env) (n : ℕ) (why why2 : ℕ → Type 0) (e : CrFault) → ((seg : ℕ) → why seg → why2 seg) → Because env n why e → Because env n why2 e
because_map env n why why2 faults.Failed f because = tt
because_map env n why why2 (faults.TooOld scn lost) f because = (because.0, because.1, (because.2.0, because.2.1, f because.2.0 because.2.2))
