-- What a sync and a write leave of what is known of a file.
use Rattle.std.proofs.Common.{◌≡◌, ℕ, ◌+◌, ◌-◌, ◌<◌, ◌≤◌, ◌^◌, max, Bool, List, ◌∷◌, length, take, drop, sym, subst, ap, ◌∙◌, inl, inr, ⊎_elim, arith, Option}
use Rattle.std.specs.Prelude.{All}
use Rattle.std.proofs.lemmas.List.{drop-drop, length-take, places}
use Rattle.std.proofs.lemmas.Bool.{cases_lt}
use Rattle.rb_base.specs.Fields.{overwritten}
use Rattle.rb_disk.specs.DiskModel.{Torn, Follows}
use Rattle.rb_filedisk.specs.Keeps.{IsInStep}
use Rattle.rb_disk.specs.Writes.{done_is_torn}
use Rattle.rb_base.specs.Moments.{NoMore}
use Rattle.rb_rawfile.specs.RawModel.{Began, IsOf, with_range_of}
use Rattle.rb_filedisk.specs.Unsynced.{HasOne, written}
use Rattle.rb_filedisk.specs.declared.unsynced.Range.{Range}
use Rattle.rb_rawfile.specs.declared.raw.RawFile.{Ghosts}

-- a range torn within a longer one
torn_wider : (at first count : ℕ) (old new : List ℕ) → first ≤ count → Torn at first old new → Torn at count old new
torn_wider at first count old new le torn =
    let rest : (l : List ℕ) → drop (at + count) l ≡ drop (count - first) (drop (at + first) l) =
    λ l. ap (λ (k : ℕ). drop k l) (omega (arith, le)) ∙ sym (drop-drop (count - first) (at + first) l) in
    record {
      before = torn.before;
      behind = rest new ∙ ap (λ (l : List ℕ). drop (count - first) l) torn.behind ∙ sym (rest old);
      no_shorter = torn.no_shorter;
      no_longer = omega (arith, le, torn.no_longer);
    }

-- a write of which a first part was done may have been cut short
pub began_is_torn : (at : ℕ) (bytes content now : List ℕ) (lost lost_now : ℕ → Type 0) → at ≤ length content
    → Began at bytes content now lost lost_now → Torn at (length bytes) content now
began_is_torn at bytes content now lost lost_now begins begun =
    torn_wider at (length (take begun.0 bytes)) (length bytes) content now (omega (arith, length-take begun.0 bytes))
    (subst (λ (file : List ℕ). Torn at (length (take begun.0 bytes)) content file) (sym begun.2.read) (done_is_torn at content (take begun.0 bytes) begins))

grown : (file bytes : List ℕ) (at : ℕ) → at ≤ length file → length (overwritten file at bytes) ≡ max (length file) (at + length bytes)
grown file bytes at begins = grind (arith, places)

module _ {F : Type 0} (f : Ghosts F) where
  -- a write leaves the file in step with the ranges that have its own
  pub in_step_written : (old new : F) (synced : Option ℕ) (was now : List Range) (stale : Bool) (at : ℕ) (bytes : List ℕ)
      → IsInStep f old synced was stale → at ≤ length (f.content old) → length (f.content old) < 2 ^ 63 → length (f.content new) < 2 ^ 63
      → f.image old (f.content old) → Began at bytes (f.content old) (f.content new) (f.lost old) (f.lost new)
      → Follows (Torn at (length bytes)) (f.image old) (f.image new)
      → NoMore (with_range_of at (length bytes) (f.unsettled old)) (f.unsettled new)
      → ((byte : ℕ) → HasOne (written at (length bytes) ∷ was) byte → HasOne now byte)
      → ((count : ℕ) → All (λ range. range.end ≤ count) now → ((written at (length bytes)).end ≤ count) × All (λ range. range.end ≤ count) was)
      → IsInStep f new synced now stale
  in_step_written old new synced was now stale at bytes step begins few few_now reads begun follows places every within =
      let torn = began_is_torn at bytes (f.content old) (f.content new) (f.lost old) (f.lost new) begins begun in
      let long : length (f.content new) ≡ max (length (f.content old)) (at + length (take begun.0 bytes)) =
      ap length begun.2.read ∙ grown (f.content old) (take begun.0 bytes) at begins in
      record {
        remembered = λ place lt here.
            let of : at ≤ place → place < at + length bytes → HasOne now place = λ from to. every place (inl (from, omega (arith, lt, few_now, to))) in
            ⊎_elim
            (λ (before : f.unsettled old place).
            ⊎_elim (λ (inside : place < length (f.content old)). every place (inr (step.remembered place inside before)))
            (λ (past : length (f.content old) ≤ place). of (omega (arith, begins, past)) (omega (arith, past, lt, torn.no_longer)))
            (cases_lt place (length (f.content old))))
            (λ (in_range : IsOf at (length bytes) place). of in_range.0 in_range.1) (places place here);
        whole = λ fine place lt gone.
            ⊎_elim (λ (inside : place < length (f.content old)). step.whole fine place inside (begun.2.no_more place gone))
            (λ (past : length (f.content old) ≤ place). begun.2.found place (omega (arith, begins, past), omega (arith, past, lt, long)) gone)
            (cases_lt place (length (f.content old)));
        long = λ count is all c here.
            let fit = within count all in
            let from = follows c here in
            let was_long : length from.0 ≡ count = step.long count is fit.1 from.0 from.1 in
            let read_long : length (f.content old) ≡ count = step.long count is fit.1 (f.content old) reads in
            omega (arith, from.2.no_shorter, from.2.no_longer, fit.0, was_long, read_long, few);
      }
