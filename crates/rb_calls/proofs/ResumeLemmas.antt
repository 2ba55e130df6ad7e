-- Writes that are tried again, one after another.
use Rattle.std.proofs.Common.{append_assoc, ◌≡◌, ◌∙◌, inl, inr, refl, sym, subst, arith, ℕ, ◌+◌, ◌≤◌, true, false, List, [], ◌∷◌, ◌++◌, None}
use Rattle.std.proofs.lemmas.List.{append-nil, length-append}
use Rattle.rb_calls.specs.Resumes.{AllHeard, AllResumed, HasResumed, HeardFew, TriedAgain}
use Rattle.rb_model.specs.Calls.{Answer, is_fault}
use Rattle.rb_model.specs.Out.{Logged, Outside}
use Rattle.rb_model.specs.Queue.{first_ready}

-- one answer more
heard_on : {L : Type 0} (heard : L → ℕ → Answer → L → Type 0) (answers : List (ℕ × Answer)) (a b c : L) (w : ℕ) (r : Answer) → AllHeard heard a answers b → heard b w r c → AllHeard heard a (answers ++ (w, r) ∷ []) c
heard_on {L} heard [] a b c w r is one = (c, subst (λ (x : L). heard x w r c) is one, refl)
heard_on {L} heard (x ∷ more) a b c w r (middle, first, rest) one = (middle, first, heard_on heard more middle b c w r rest one)

pub few_more : {L : Type 0} (heard : L → ℕ → Answer → L → Type 0) (most : ℕ) (a b c : L) (w : ℕ) (r : Answer) → HeardFew heard most a b → heard b w r c → HeardFew heard (most + 1) a c
few_more {L} heard most a b c w r (answers, few, all) one = (answers ++ (w, r) ∷ [], omega (arith, few, length-append answers ((w, r) ∷ [])), heard_on heard answers a b c w r all one)

pub few_within : {L : Type 0} (heard : L → ℕ → Answer → L → Type 0) (some most : ℕ) (a b : L) → some ≤ most → HeardFew heard some a b → HeardFew heard most a b
few_within {L} heard some most a b le (answers, few, all) = (answers, omega (arith, few, le), all)

-- Some were tried, and none failed: what is tried from here on goes on from the start.
pub record ResumedSoFar {L : Type 0} (heard : L → ℕ → Answer → L → Type 0) (start : Logged) (outside : Outside) (now : Logged) (before after : L) : Type 0 where
  pub answers : List (ℕ × Answer)
  pub goes_on : (rest : List (ℕ × Answer)) (end : Logged) → AllResumed now outside rest end → AllResumed start outside (answers ++ rest) end
  pub all_heard : AllHeard heard before answers after
  pub going : now.state.stopped ≡ false

module _ {L : Type 0} (heard : L → ℕ → Answer → L → Type 0) where
  pub resumed_none : (m : Logged) (outside : Outside) (a : L) → m.state.stopped ≡ false → ResumedSoFar heard m outside m a a
  resumed_none m outside a going = record { answers = []; goes_on = λ rest end f. f; all_heard = refl; going = going }

  pub resumed_more : (start m now : Logged) (outside : Outside) (w : ℕ) (r : Answer) (a b c : L) → ResumedSoFar heard start outside m a b → TriedAgain m outside w r now → heard b w r c → is_fault r ≡ false
      → ResumedSoFar heard start outside now a c
  resumed_more start m now outside w r a b c so again one fine = record {
    answers = so.answers ++ (w, r) ∷ [];
    goes_on = λ rest end f.
        subst (λ (xs : List (ℕ × Answer)). AllResumed start outside xs end) (sym (append_assoc so.answers ((w, r) ∷ []) rest)) (so.goes_on ((w, r) ∷ rest) end (now, so.going, again, f));
    all_heard = heard_on heard so.answers a b c w r so.all_heard one;
    going = again.stopped ∙ fine;
  }

  pub resumed_fails : (start m now : Logged) (outside : Outside) (w : ℕ) (r : Answer) (a b c : L) → ResumedSoFar heard start outside m a b → TriedAgain m outside w r now → heard b w r c → is_fault r ≡ true
      → HasResumed heard start outside now a c true
  resumed_fails start m now outside w r a b c so again one failed = record {
    answers = so.answers ++ (w, r) ∷ [];
    resumed = so.goes_on ((w, r) ∷ []) now (now, so.going, again, (inl (again.stopped ∙ failed), refl));
    all_heard = heard_on heard so.answers a b c w r so.all_heard one;
    stopped = again.stopped ∙ failed;
  }

  -- none is left
  pub resumed_all : (start m : Logged) (outside : Outside) (a b : L) → ResumedSoFar heard start outside m a b → first_ready m.state.queue ≡ None → HasResumed heard start outside m a b false
  resumed_all start m outside a b so settled = record {
    answers = so.answers;
    resumed = subst (λ (xs : List (ℕ × Answer)). AllResumed start outside xs m) (append-nil so.answers) (so.goes_on [] m (inr settled, refl));
    all_heard = so.all_heard;
    stopped = so.going;
  }
