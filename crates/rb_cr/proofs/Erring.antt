-- The error that a `?` hands on.
use Rattle.std.proofs.Common.{◌≡◌, ◌∙◌, Result, Err, ap}
use Rattle.std.proofs.lemmas.Result.{err_from_is_err_and}
use Rattle.std.specs.Result.{IsErrAnd}
use Rattle.rb_cr.specs.declared.faults.CrFault.{CrFault}

pub handed_on : {T : Type 0} → (fault : CrFault) (r : Result T CrFault) → IsErrAnd r (λ e. e ≡ fault) → r ≡ Err fault
handed_on fault r is = let p = err_from_is_err_and r is in p.1 ∙ ap (λ (e : CrFault). Err e) p.2
