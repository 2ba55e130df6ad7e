-- Calls of a raw file that leave it as it was, and what is written over itself.
use Rattle.std.proofs.Common.{◌≡◌, ℕ, ◌+◌, ◌≤◌, List, length, take, refl, sym, subst, ap, ◌∙◌, true, arith, rules}
use Rattle.std.specs.Prelude.{Result, Ok, Err, is_ok, OnOk, OnErr}
use Rattle.std.proofs.lemmas.Bool.{false≢true}
use Rattle.std.proofs.lemmas.List.{same_lists, places, take_all}
use Rattle.rb_base.specs.Fields.{part, overwritten}
use Rattle.rb_base.specs.Moments.{NoMore, Passes, no_call, one_call, more_calls}
use Rattle.rb_filedisk.specs.Rests.{Stays, Rests}
use Rattle.rb_rawfile.specs.RawModel.{Began, Wrote}
use Rattle.rb_rawfile.specs.declared.raw.RawFile.{Ghosts}

-- a part of a file, or a first part of that, written where it was read
pub over_itself : (file : List ℕ) (at count first : ℕ) → at + count ≤ length file → first ≤ count → overwritten file at (take first (part file at count)) ≡ file
over_itself file at count first within le = same_lists _ _ (search (rules, places)) (λ k d h. grind (arith, places))

-- a write that was done has written all of its bytes as a first part
pub began : {T E : Type 0} (r : Result T E) (at : ℕ) (bytes content now : List ℕ) (lost lost_now : ℕ → Type 0)
    → OnOk r (Wrote at bytes content now lost lost_now) → OnErr r (Began at bytes content now lost lost_now) → Began at bytes content now lost lost_now
began (Ok x) at bytes content now lost lost_now wrote begun =
    (length bytes, omega arith, subst (λ (all : List ℕ). Wrote at all content now lost lost_now) (sym (take_all (length bytes) bytes (omega arith))) wrote)
began (Err e) at bytes content now lost lost_now wrote begun = begun

-- what is said of an Ok, at one
pub on_ok : {T E P : Type 0} (r : Result T E) → is_ok r ≡ true → OnOk r P → P
on_ok (Ok x) is said = said
on_ok (Err e) is said = absurd (false≢true is)

module _ {F : Type 0} (f : Ghosts F) where
  pub stays_none : (file : F) → Stays f file file
  stays_none file = record { same = refl; crashes = no_call f.image f.moment f.image_since file }

  pub stays_more : (old mid new : F) → Stays f old mid → Stays f mid new → Stays f old new
  stays_more old mid new first second = record {
    same = second.same ∙ first.same;
    crashes = more_calls f.image f.moment f.image_since old mid new first.crashes second.crashes;
  }

  pub one_stay : (old new : F) → f.content new ≡ f.content old → NoMore (f.image old) (f.image new)
      → Passes (f.moment old) (f.moment new) (f.image_since old) (f.image_since new) (f.image new) → Stays f old new
  one_stay old new same fewer time = record { same = same; crashes = one_call f.image f.moment f.image_since old new fewer time }

  pub rests_none : (file : F) → Rests f file file
  rests_none file = record {
    stays = stays_none file;
    places = λ p now. now;
    losses = λ p now. now;
  }

  pub rests_more : (old mid new : F) → Rests f old mid → Rests f mid new → Rests f old new
  rests_more old mid new first second = record {
    stays = stays_more old mid new first.stays second.stays;
    places = λ p now. first.places p (second.places p now);
    losses = λ p now. first.losses p (second.losses p now);
  }

  pub one_rest : (old new : F) → f.content new ≡ f.content old → NoMore (f.image old) (f.image new)
      → Passes (f.moment old) (f.moment new) (f.image_since old) (f.image_since new) (f.image new)
      → NoMore (f.unsettled old) (f.unsettled new) → NoMore (f.lost old) (f.lost new) → Rests f old new
  one_rest old new same fewer time places losses = record { stays = one_stay old new same fewer time; places = places; losses = losses }

  -- bytes that were read are written again
  pub written_again : (old new : F) (at count : ℕ) (bytes : List ℕ) → at + count ≤ length (f.content old) → bytes ≡ part (f.content old) at count
      → length bytes ≡ count → Began at bytes (f.content old) (f.content new) (f.lost old) (f.lost new)
      → (bytes ≡ part (f.content old) at (length bytes) → NoMore (f.image old) (f.image new))
      → Passes (f.moment old) (f.moment new) (f.image_since old) (f.image_since new) (f.image new)
      → (bytes ≡ part (f.content old) at (length bytes) → NoMore (f.unsettled old) (f.unsettled new)) → Rests f old new
  written_again old new at count bytes within read long begun same time places =
      let is : bytes ≡ part (f.content old) at (length bytes) = read ∙ ap (λ (n : ℕ). part (f.content old) at n) (sym long) in
      one_rest old new
      (begun.2.read ∙ ap (λ (bs : List ℕ). overwritten (f.content old) at (take begun.0 bs)) read
      ∙ over_itself (f.content old) at count begun.0 within (omega (arith, begun.1, long)))
      (same is) time (places is) begun.2.no_more
