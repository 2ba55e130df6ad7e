-- One step of the replay that picks an image.
use Rattle.std.proofs.Common.{◌≡◌, ℕ, ◌+◌, ◌<◌, ◌≤◌, true, false, List, ◌∷◌, length, drop, get_or, sym, ◌∙◌, ap, subst, arith, leb-true}
use Rattle.std.proofs.lemmas.List.{drop_more, drop-drop, length-drop}
use Rattle.std.proofs.lemmas.Bool.{and_parts}
use Rattle.rb_memdisk.specs.declared.call.Call.{Call}
use Rattle.rb_memdisk.specs.declared.call.Call.TheVariants.{Length, Read, Write, Sync}
use Rattle.rb_memdisk.specs.declared.pick.Pick.{Pick}
use Rattle.rb_memdisk.specs.declared.pick.Pick.TheVariants.{Old, New, Fill}
use Rattle.rb_memdisk.specs.Record.{read_after, left_after, fits_one, fits, picked_after, picked_after_all, CanFill}
use Rattle.rb_memdisk.specs.Replays.{Covers, covers_one}

-- a pick begins as what is read, and fills within the image
pub can_fill : (pick : Pick) (image file : List ℕ) (call : Call) (rest : List ℕ) → Covers pick image file → fits_one file call rest ≡ true → CanFill pick call image
can_fill Old image file call rest covers ok = tt
can_fill New image file call rest covers ok = tt
can_fill (Fill byte) image file Length rest covers ok = tt
can_fill (Fill byte) image file Read rest covers ok = tt
can_fill (Fill byte) image file (Write at count true) rest covers ok =
    let begins : at ≤ length file = leb-true _ _ (and_parts _ _ ok).0 in
    omega (arith, covers, begins)
can_fill (Fill byte) image file (Write at count false) rest covers ok =
    let begins : at ≤ length file = leb-true _ _ ok in
    omega (arith, covers, begins)
can_fill (Fill byte) image file (Sync done) rest covers ok = tt

module _ (file : List ℕ) (calls : List Call) (i : ℕ) (rest : List ℕ) (lt : i < length calls) (ok : fits file (drop i calls) rest ≡ true) where
  stepped : fits file (get_or calls i Length ∷ drop (i + 1) calls) rest ≡ true
  stepped = subst (λ (l : List Call). fits file l rest ≡ true) (drop_more calls i Length lt) ok

  -- the next call fits
  pub next_fits : fits_one file (get_or calls i Length) rest ≡ true
  next_fits = (and_parts _ _ stepped).0

  pub others_fit : fits (read_after file (get_or calls i Length) rest) (drop (i + 1) calls) (left_after (get_or calls i Length) rest) ≡ true
  others_fit = (and_parts _ _ stepped).1

-- the loop's facts after one call more
module _ (pick : Pick) (image file image_now file_now written : List ℕ) (calls : List Call) (i used n : ℕ) (lt : i < length calls) (within : used ≤ length written)
    (ok : fits file (drop i calls) (drop used written) ≡ true) (read : file_now ≡ read_after file (get_or calls i Length) (drop used written))
    (few : n ≤ length (drop used written)) (left : drop n (drop used written) ≡ left_after (get_or calls i Length) (drop used written))
    (picked : image_now ≡ picked_after pick image (get_or calls i Length) file_now) where
  left_is : drop (used + n) written ≡ left_after (get_or calls i Length) (drop used written)
  left_is = sym (drop-drop n used written) ∙ left

  pub fitting_on : fits file_now (drop (i + 1) calls) (drop (used + n) written) ≡ true
  fitting_on = rw (read, left_is) (others_fit file calls i (drop used written) lt ok)

  picked_is : image_now ≡ picked_after pick image (get_or calls i Length) (read_after file (get_or calls i Length) (drop used written))
  picked_is = picked ∙ ap (λ now. picked_after pick image (get_or calls i Length) now) read

  pub same_on : picked_after_all pick image_now file_now (drop (i + 1) calls) (drop (used + n) written) ≡ picked_after_all pick image file (drop i calls) (drop used written)
  same_on =
      rw (picked_is, read, left_is)
      (sym (ap (λ (l : List Call). picked_after_all pick image file l (drop used written)) (drop_more calls i Length lt)))

  pub covers_on : Covers pick image file → Covers pick image_now file_now
  covers_on covers =
      rw (picked_is, read) (covers_one pick image file (get_or calls i Length) (drop used written) covers (next_fits file calls i (drop used written) lt ok))

  pub used_on : used + n ≤ length written
  used_on = omega (arith, few, within, length-drop used written)
