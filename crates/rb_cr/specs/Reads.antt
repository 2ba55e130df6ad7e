-- Calls that only read, one after another.
use Rattle.std.specs.Prelude.{◌≡◌, ℕ, Bool, true, false, refl}
use Rattle.std.proofs.Common.{◌∙◌, arith, subst}
use Rattle.rb_base.specs.Counts.{Rose}
use Rattle.rb_cr.specs.Calls.{OnlyReads}
use Rattle.rb_cr.specs.declared.segments.Segments.{Ghosts}

abbrev pub Reads : {S : Type 0} → Ghosts S → S → S → Bool → Type 0
Reads s old new going = OnlyReads s.tells s.says s.ready s.faults s.calls old new going

no_clash : {X : Type 0} → false ≡ true → X
no_clash is = cc

module _ {S : Type 0} (s : Ghosts S) where
  -- no call at all
  pub no_read : (segments : S) → s.ready segments → s.calls segments segments true
      → Reads s segments segments true
  no_read segments ready none = record {
    same = λ _ _. refl;
    next = ready;
    no_less = omega arith;
    cause = no_clash;
    still = λ _. refl;
    made = none;
  }

  -- some calls after others
  pub more_reads : (old mid new : S) (going : Bool)
      → ((a b c : S) (on : Bool) → s.calls a b true → s.calls b c on → s.calls a c on)
      → Reads s old mid true → Reads s mid new going → Reads s old new going
  more_reads old mid new going joined first second = record {
    same = λ told on. second.same told on ∙ first.same told refl;
    next = second.next;
    no_less = omega (arith, first.no_less, second.no_less);
    cause = λ fault. subst (λ (n : ℕ). Rose n (s.faults new)) (first.still refl) (second.cause fault);
    still = λ on. second.still on ∙ first.still refl;
    made = joined old mid new going first.made second.made;
  }
