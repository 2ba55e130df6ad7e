-- Laws of a record: what is read may always be left, the picked image may be left, and a record goes on.
use Rattle.std.proofs.Common.{max, le-leb, get_or, zero, suc, ◌≡◌, ◌⊎◌, ℕ, ◌+◌, ◌<◌, ◌≤◌}
use Rattle.std.proofs.Common.{true, false, List, [], ◌∷◌, ◌++◌, length, take, replicate, refl, sym, ◌∙◌}
use Rattle.std.proofs.Common.{ap, subst, inl, inr, ⊎_elim, arith, leb-true}
use Rattle.std.specs.Prelude.{All}
use Rattle.std.proofs.lemmas.List.{places, take-append-le, drop-append-le, length-append, length-replicate}
use Rattle.std.proofs.lemmas.List.{length-take-le, take_all}
use Rattle.std.proofs.lemmas.List.Elements.{All-head, All-tail}
use Rattle.std.proofs.lemmas.Bool.{and_parts, and_from, cases_lt}
use Rattle.rb_base.specs.Fields.{overwritten}
use Rattle.rb_base.specs.Moments.{Passes}
use Rattle.rb_disk.specs.DiskModel.{Torn}
use Rattle.rb_disk.specs.Writes.{done_is_torn, none_is_torn, torn_stays}
use Rattle.rb_memdisk.specs.declared.call.Call.{Call}
use Rattle.rb_memdisk.specs.declared.call.Call.TheVariants.{Length, Read, Write, Sync}
use Rattle.rb_memdisk.specs.declared.pick.Pick.{Pick}
use Rattle.rb_memdisk.specs.declared.pick.Pick.TheVariants.{Old, New, Fill}
use Rattle.rb_memdisk.specs.Record.{read_after, left_after, read_after_all, left_after_all, fits_one, fits}
use Rattle.rb_memdisk.specs.Record.{images_after, images_after_all, picked_after, picked_after_all, MayLeave}
use Rattle.rb_memdisk.specs.Record.{MayLeaveSince}

-- a file that was written, by a write of that many bytes, may be a torn one
torn_over : (at count : ℕ) (file bytes : List ℕ) → at ≤ length file → length bytes ≡ count
    → Torn at count file (overwritten file at bytes)
torn_over at count file bytes begins size = subst (λ (n : ℕ). Torn at n file (overwritten file at bytes)) size
    (done_is_torn at file bytes begins)

-- what is read after a call may be left after it
reads_one : (images : List ℕ → Type 0) (file : List ℕ) (call : Call) (written : List ℕ) → images file
    → fits_one file call written ≡ true
    → images_after images file call (read_after file call written)
reads_one images file Length written here ok = here
reads_one images file Read written here ok = here
reads_one images file (Write at count true) written here ok =
    let both = and_parts _ _ ok in (
      file,
      here,
      torn_over at count file (take count written) (leb-true _ _ both.0)
          (length-take-le count written (leb-true _ _ both.1)),
    )
reads_one images file (Write at count false) written here ok = (file, here, none_is_torn at count file)
reads_one images file (Sync true) written here ok = refl
reads_one images file (Sync false) written here ok = here

-- and after all of them
pub reads_an_image : (images : List ℕ → Type 0) (file : List ℕ) (calls : List Call) (written : List ℕ)
    → images file → fits file calls written ≡ true
    → images_after_all images file calls written (read_after_all file calls written)
reads_an_image images file [] written here ok = here
reads_an_image images file (call ∷ calls) written here ok =
    let both = and_parts _ _ ok in
    reads_an_image (images_after images file call) (read_after file call written) calls (left_after call written)
    (reads_one images file call written here both.0) both.1

-- a list whole
whole : {X : Type 0} (xs : List X) → take (length xs) xs ≡ xs
whole xs = take_all (length xs) xs (omega arith)

-- what a disk reads as is one of its images now
pub reads_now : (first bytes : List ℕ) (calls : List Call) (written : List ℕ)
    → bytes ≡ read_after_all first calls written → fits first calls written ≡ true
    → MayLeave first calls written (length calls) bytes
reads_now first bytes calls written reads fitting = rw (reads, whole calls)
    (reads_an_image (λ d. d ≡ first) first calls written refl fitting)

-- now is one of the moments since an earlier one
pub now_counts : (first : List ℕ) (calls : List Call) (written : List ℕ) (t : ℕ) (c : List ℕ)
    → t ≤ length calls → MayLeave first calls written (length calls) c
    → MayLeaveSince first calls written t c
now_counts first calls written t c le here = (length calls, le, omega arith, here)

-- and the only one since now
pub only_now : (first : List ℕ) (calls : List Call) (written : List ℕ) (c : List ℕ)
    → MayLeaveSince first calls written (length calls) c
    → MayLeave first calls written (length calls) c
only_now first calls written c since =
    let same : since.0 ≡ length calls = omega (arith, since.1, since.2) in
    subst (λ (k : ℕ). MayLeave first calls written k c) same since.3

-- the picked image covers what is read, where it is to be filled
abbrev pub Covers : Pick → List ℕ → List ℕ → Type 0
Covers (Fill byte) image file = length file ≤ length image
Covers Old image file = Unit {0}
Covers New image file = image ≡ file

-- the picked image may be left after a call
picked_one : (images : List ℕ → Type 0) (pick : Pick) (image file : List ℕ) (call : Call) (written : List ℕ)
    → images image → images file → Covers pick image file
    → fits_one file call written ≡ true → images_after images file call
    (picked_after pick image call (read_after file call written))
picked_one images New image file call written here reads covers ok = reads_one images file call written reads ok
picked_one images Old image file Length written here reads covers ok = here
picked_one images Old image file Read written here reads covers ok = here
picked_one images Old image file (Write at count true) written here reads covers ok =
    (image, here, none_is_torn at count image)
picked_one images Old image file (Write at count false) written here reads covers ok =
    (image, here, none_is_torn at count image)
picked_one images Old image file (Sync true) written here reads covers ok = refl
picked_one images Old image file (Sync false) written here reads covers ok = here
picked_one images (Fill byte) image file Length written here reads covers ok = here
picked_one images (Fill byte) image file Read written here reads covers ok = here
picked_one images (Fill byte) image file (Write at count true) written here reads covers ok =
    let begins : at ≤ length file = leb-true _ _ (and_parts _ _ ok).0 in (
      image,
      here,
      torn_over at count image (replicate count byte) (omega (arith, begins, covers))
          (length-replicate count byte),
    )
picked_one images (Fill byte) image file (Write at count false) written here reads covers ok =
    let begins : at ≤ length file = leb-true _ _ ok in (
      image,
      here,
      torn_over at count image (replicate count byte) (omega (arith, begins, covers))
          (length-replicate count byte),
    )
picked_one images (Fill byte) image file (Sync true) written here reads covers ok = refl
picked_one images (Fill byte) image file (Sync false) written here reads covers ok = here

-- how long a file is after a write over it or past its end
pub length-grown : (file : List ℕ) (at : ℕ) (bytes : List ℕ) → at ≤ length file
    → length (overwritten file at bytes) ≡ max (length file) (at + length bytes)
length-grown file at bytes begins = grind (arith, places)

-- and it goes on covering what is read
pub covers_one : (pick : Pick) (image file : List ℕ) (call : Call) (written : List ℕ) → Covers pick image file
    → fits_one file call written ≡ true
    → Covers pick (picked_after pick image call (read_after file call written)) (read_after file call written)
covers_one New image file call written covers ok = refl
covers_one Old image file call written covers ok = tt
covers_one (Fill byte) image file Length written covers ok = covers
covers_one (Fill byte) image file Read written covers ok = covers
covers_one (Fill byte) image file (Write at count true) written covers ok =
    let both = and_parts _ _ ok in
    let begins : at ≤ length file = leb-true _ _ both.0 in
    let size : length (take count written) ≡ count = length-take-le count written (leb-true _ _ both.1) in
    let begins_there : at ≤ length image = omega (arith, begins, covers) in
    rw (
      length-grown file at (take count written) begins,
      length-grown image at (replicate count byte)
          begins_there,
      size,
      length-replicate count byte,
    ) (omega arith)
covers_one (Fill byte) image file (Write at count false) written covers ok =
    let begins_there : at ≤ length image = omega (arith, leb-true _ _ ok, covers) in
    rw (length-grown image at (replicate count byte) begins_there) (omega arith)
covers_one (Fill byte) image file (Sync true) written covers ok = omega arith
covers_one (Fill byte) image file (Sync false) written covers ok = covers

-- and may be left after all of them
pub picked_is_image : (images : List ℕ → Type 0) (pick : Pick) (image file : List ℕ) (calls : List Call)
    (written : List ℕ) → images image → images file → Covers pick image file
    → fits file calls written ≡ true → images_after_all images file calls written
    (picked_after_all pick image file calls written)
picked_is_image images pick image file [] written here reads covers ok = here
picked_is_image images pick image file (call ∷ calls) written here reads covers ok =
    let both = and_parts _ _ ok in
    picked_is_image (images_after images file call) pick (picked_after pick image call (read_after file call written))
    (read_after file call written) calls (left_after call written)
    (picked_one images pick image file call written here reads covers both.0)
    (reads_one images file call written reads both.0) (covers_one pick image file call written covers both.0) both.1

-- the first calls of a record fit where all do
pub fits_front : (file : List ℕ) (calls : List Call) (written : List ℕ) (k : ℕ)
    → fits file calls written ≡ true → fits file (take k calls) written ≡ true
fits_front file calls written zero ok = refl
fits_front file [] written (suc k) ok = refl
fits_front file (call ∷ calls) written (suc k) ok =
    let both = and_parts _ _ ok in
    and_from _ _ both.0 (fits_front (read_after file call written) calls (left_after call written) k both.1)

-- at first a pick is what is read
pub covers_start : (pick : Pick) (file : List ℕ) → Covers pick file file
covers_start New file = refl
covers_start Old file = tt
covers_start (Fill byte) file = omega arith

-- so a picked image is one that a crash may leave
pub picked_may_be_left : (pick : Pick) (first : List ℕ) (calls : List Call) (written : List ℕ) (k : ℕ)
    → fits first calls written ≡ true
    → MayLeave first calls written k (picked_after_all pick first first (take k calls) written)
picked_may_be_left pick first calls written k ok =
    picked_is_image (λ d. d ≡ first) pick first first (take k calls) written refl refl (covers_start pick first)
    (fits_front first calls written k ok)

-- bytes behind those that a call takes don't matter
read_longer : (file : List ℕ) (call : Call) (written more : List ℕ) → fits_one file call written ≡ true
    → read_after file call (written ++ more) ≡ read_after file call written
read_longer file Length written more ok = refl
read_longer file Read written more ok = refl
read_longer file (Write at count true) written more ok =
    let size : count ≤ length written = leb-true _ _ (and_parts _ _ ok).1 in
    rw (take-append-le count written more size)
read_longer file (Write at count false) written more ok = refl
read_longer file (Sync done) written more ok = refl

left_longer : (file : List ℕ) (call : Call) (written more : List ℕ) → fits_one file call written ≡ true
    → left_after call (written ++ more) ≡ left_after call written ++ more
left_longer file Length written more ok = refl
left_longer file Read written more ok = refl
left_longer file (Write at count true) written more ok = drop-append-le count written more
    (leb-true _ _ (and_parts _ _ ok).1)
left_longer file (Write at count false) written more ok = refl
left_longer file (Sync done) written more ok = refl

fits_longer : (file : List ℕ) (call : Call) (written more : List ℕ) → fits_one file call written ≡ true
    → fits_one file call (written ++ more) ≡ true
fits_longer file Length written more ok = refl
fits_longer file Read written more ok = refl
fits_longer file (Write at count true) written more ok =
    let both = and_parts _ _ ok in
    and_from _ _ both.0 (le-leb count (length (written ++ more))
    (omega (arith, length-append written more, leb-true _ _ both.1)))
fits_longer file (Write at count false) written more ok = ok
fits_longer file (Sync done) written more ok = refl

read_all_longer : (file : List ℕ) (calls : List Call) (written more : List ℕ) → fits file calls written ≡ true
    → read_after_all file calls (written ++ more) ≡ read_after_all file calls written
read_all_longer file [] written more ok = refl
read_all_longer file (call ∷ calls) written more ok =
    let both = and_parts _ _ ok in
    rw (read_longer file call written more both.0, left_longer file call written more both.0)
    (read_all_longer (read_after file call written) calls (left_after call written) more both.1)

left_all_longer : (file : List ℕ) (calls : List Call) (written more : List ℕ) → fits file calls written ≡ true
    → left_after_all calls (written ++ more) ≡ left_after_all calls written ++ more
left_all_longer file [] written more ok = refl
left_all_longer file (call ∷ calls) written more ok =
    let both = and_parts _ _ ok in
    rw (left_longer file call written more both.0) (left_all_longer (read_after file call written) calls
    (left_after call written) more both.1)

fits_all_longer : (file : List ℕ) (calls : List Call) (written more : List ℕ) → fits file calls written ≡ true
    → fits file calls (written ++ more) ≡ true
fits_all_longer file [] written more ok = refl
fits_all_longer file (call ∷ calls) written more ok =
    let both = and_parts _ _ ok in
    and_from _ _ (fits_longer file call written more both.0)
    (rw (read_longer file call written more both.0, left_longer file call written more both.0)
    (fits_all_longer (read_after file call written) calls (left_after call written) more both.1))

images_all_longer : (images : List ℕ → Type 0) (file : List ℕ) (calls : List Call) (written more c : List ℕ)
    → fits file calls written ≡ true
    → images_after_all images file calls (written ++ more) c → images_after_all images file calls written c
images_all_longer images file [] written more c ok left = left
images_all_longer images file (call ∷ calls) written more c ok left =
    let both = and_parts _ _ ok in
    images_all_longer (images_after images file call) (read_after file call written) calls (left_after call written)
    more c both.1
    (rw (read_longer file call written more both.0, left_longer file call written more both.0) at left)

images_all_shorter : (images : List ℕ → Type 0) (file : List ℕ) (calls : List Call) (written more c : List ℕ)
    → fits file calls written ≡ true
    → images_after_all images file calls written c → images_after_all images file calls (written ++ more) c
images_all_shorter images file [] written more c ok left = left
images_all_shorter images file (call ∷ calls) written more c ok left =
    let both = and_parts _ _ ok in
    rw (read_longer file call written more both.0, left_longer file call written more both.0)
    (images_all_shorter (images_after images file call) (read_after file call written) calls (left_after call written)
    more c both.1 left)

-- a call more at the end
read_all_more : (file : List ℕ) (calls : List Call) (call : Call) (written : List ℕ)
    → read_after_all file (calls ++ call ∷ []) written ≡ read_after (read_after_all file calls written) call
    (left_after_all calls written)
read_all_more file [] call written = refl
read_all_more file (earlier ∷ calls) call written = read_all_more (read_after file earlier written) calls call
    (left_after earlier written)

left_all_more : (calls : List Call) (call : Call) (written : List ℕ)
    → left_after_all (calls ++ call ∷ []) written ≡ left_after call (left_after_all calls written)
left_all_more [] call written = refl
left_all_more (earlier ∷ calls) call written = left_all_more calls call (left_after earlier written)

fits_all_more : (file : List ℕ) (calls : List Call) (call : Call) (written : List ℕ)
    → fits file calls written ≡ true
    → fits_one (read_after_all file calls written) call (left_after_all calls written) ≡ true
    → fits file (calls ++ call ∷ []) written ≡ true
fits_all_more file [] call written ok last = and_from _ _ last refl
fits_all_more file (earlier ∷ calls) call written ok last =
    let both = and_parts _ _ ok in
    and_from _ _ both.0 (fits_all_more (read_after file earlier written) calls call (left_after earlier written) both.1
    last)

images_all_more : (images : List ℕ → Type 0) (file : List ℕ) (calls : List Call) (call : Call)
    (written c : List ℕ)
    → images_after_all images file (calls ++ call ∷ []) written c
    → images_after (images_after_all images file calls written) (read_after_all file calls written) call c
images_all_more images file [] call written c left = left
images_all_more images file (earlier ∷ calls) call written c left = images_all_more (images_after images file earlier)
    (read_after file earlier written) calls call (left_after earlier written) c left

-- what may be left after a call grows with what might be left before it
images_weaker : (images more : List ℕ → Type 0) (file : List ℕ) (call : Call) (c : List ℕ)
    → ((d : List ℕ) → images d → more d)
    → images_after images file call c → images_after more file call c
images_weaker images more file Length c into left = into c left
images_weaker images more file Read c into left = into c left
images_weaker images more file (Write at count done) c into left = (left.0, into left.0 left.1, left.2)
images_weaker images more file (Sync true) c into left = left
images_weaker images more file (Sync false) c into left = into c left

-- A record goes on by one call, which brings these bytes.
pub record GoesOn (first : List ℕ) (calls : List Call) (written : List ℕ) (call : Call) (bytes : List ℕ)
    (calls_now : List Call) (written_now : List ℕ) : Type 0 where
  pub fitting : fits first calls written ≡ true
  pub used_up : left_after_all calls written ≡ []
  pub calls_is : calls_now ≡ calls ++ call ∷ []
  pub written_is : written_now ≡ written ++ bytes

module _ (first : List ℕ) (calls : List Call) (written : List ℕ) (call : Call) (bytes : List ℕ)
    (calls_now : List Call) (written_now : List ℕ) (on : GoesOn first calls written call bytes calls_now written_now)
  where
    left_is : left_after_all calls (written ++ bytes) ≡ bytes
    left_is = left_all_longer first calls written bytes on.fitting ∙ ap (λ l. l ++ bytes) on.used_up

    pub read_goes_on : read_after_all first calls_now written_now
        ≡ read_after (read_after_all first calls written) call bytes
    read_goes_on =
        rw (
          on.calls_is,
          on.written_is,
          read_all_more first calls call (written
              ++ bytes),
          left_is,
          read_all_longer first calls written bytes on.fitting,
        )

    pub left_goes_on : left_after_all calls_now written_now ≡ left_after call bytes
    left_goes_on = rw (on.calls_is, on.written_is, left_all_more calls call (written ++ bytes), left_is)

    pub fits_go_on : fits_one (read_after_all first calls written) call bytes ≡ true
        → fits first calls_now written_now ≡ true
    fits_go_on last =
        rw (on.calls_is, on.written_is) (fits_all_more first calls call (written
        ++ bytes) (fits_all_longer first calls written bytes on.fitting)
        (rw (left_is, read_all_longer first calls written bytes on.fitting) last))

    -- an image of some earlier moment
    pub earlier_images : (k : ℕ) (c : List ℕ) → k ≤ length calls → MayLeave first calls_now written_now k c
        → MayLeave first calls written k c
    earlier_images k c le left =
        images_all_longer (λ d. d ≡ first) first (take k calls) written bytes c
        (fits_front first calls written k on.fitting)
        (rw (on.calls_is, on.written_is, take-append-le k calls (call ∷ []) le) at left)

    -- it stays one
    pub earlier_stay : (k : ℕ) (c : List ℕ) → k ≤ length calls → MayLeave first calls written k c
        → MayLeave first calls_now written_now k c
    earlier_stay k c le left =
        rw (on.calls_is, on.written_is, take-append-le k calls (call ∷ []) le)
        (images_all_shorter (λ d. d ≡ first) first (take k calls) written bytes c
        (fits_front first calls written k on.fitting) left)

    more_calls : length calls_now ≡ length calls + 1
    more_calls = ap length on.calls_is ∙ length-append calls (call ∷ [])

    -- an image now
    pub images_now : (c : List ℕ) → MayLeave first calls_now written_now (length calls_now) c
        → images_after (λ d. MayLeave first calls written (length calls) d) (read_after_all first calls written) call
        c
    images_now c left =
        let whole_now : images_after_all (λ d. d ≡ first) first (calls ++ call ∷ []) (written ++ bytes) c =
        (rw (whole calls_now, on.calls_is, on.written_is) at left) in
        let last : images_after (images_after_all (λ d. d ≡ first) first calls (written ++ bytes))
        (read_after_all first calls (written ++ bytes)) call c =
        images_all_more (λ d. d ≡ first) first calls call (written ++ bytes) c whole_now in
        let same_read : images_after (images_after_all (λ d. d ≡ first) first calls (written ++ bytes))
        (read_after_all first calls written) call c =
        subst (λ (file : List ℕ). images_after (images_after_all (λ d. d ≡ first) first calls (written ++ bytes))
        file call c)
        (read_all_longer first calls written bytes on.fitting) last in
        images_weaker (images_after_all (λ d. d ≡ first) first calls (written ++ bytes))
        (λ d. MayLeave first calls written (length calls) d) (read_after_all first calls written) call c
        (λ d here. rw (whole calls) (images_all_longer (λ e. e
        ≡ first) first calls written bytes d on.fitting here))
        same_read

    pub passes : Passes (length calls) (length calls_now) (MayLeaveSince first calls written)
        (MayLeaveSince first calls_now written_now) (λ c. MayLeave first calls_now written_now (length calls_now) c)
    passes = record {
      later = omega (arith, more_calls);
      splits = λ t c le since. ⊎_elim
          (λ (earlier : since.0 < length calls + 1). inl (
            since.0,
            since.1,
            omega (arith, earlier),
            earlier_images
                since.0 c (omega (arith, earlier)) since.3,
          ))
          (λ (now : length calls + 1 ≤ since.0).
          let same : since.0 ≡ length calls_now = omega (arith, now, since.2, more_calls) in
          inr (subst (λ (k : ℕ). MayLeave first calls_now written_now k c) same since.3))
          (cases_lt since.0 (length calls + 1));
      stay = λ t c le since. (
        since.0,
        since.1,
        omega (arith, since.2, more_calls),
        earlier_stay since.0 c since.2
            since.3,
      );
    }

-- a call writes nothing to this place
abbrev pub IsUnreached : ℕ → Call → Type 0
IsUnreached i Length = Unit {0}
IsUnreached i Read = Unit {0}
IsUnreached i (Write at count done) = (i < at) ⊎ (at + count ≤ i)
IsUnreached i (Sync done) = Unit {0}

-- a file has this byte at this place
pub record HasAt (i byte : ℕ) (file : List ℕ) : Type 0 where
  pub within : i < length file
  pub is : get_or file i 0 ≡ byte

-- a torn file has the same bytes outside the range
pub torn_keeps : (i byte at count : ℕ) (old new : List ℕ) → (i < at) ⊎ (at + count ≤ i)
    → Torn at count old new → HasAt i byte old → HasAt i byte new
torn_keeps i byte at count old new outside torn has = record {
  within = omega (arith, has.within, torn.no_shorter);
  is = torn_stays i at count old new outside torn ∙ has.is;
}

read_keeps : (i byte : ℕ) (file : List ℕ) (call : Call) (written : List ℕ) → IsUnreached i call
    → fits_one file call written ≡ true → HasAt i byte file → HasAt i byte (read_after file call written)
read_keeps i byte file Length written out ok has = has
read_keeps i byte file Read written out ok has = has
read_keeps i byte file (Write at count true) written out ok has =
    let both = and_parts _ _ ok in
    torn_keeps i byte at count file _ out (torn_over at count file (take count written) (leb-true _ _ both.0)
    (length-take-le count written (leb-true _ _ both.1))) has
read_keeps i byte file (Write at count false) written out ok has = has
read_keeps i byte file (Sync done) written out ok has = has

images_keep : (i byte : ℕ) (images : List ℕ → Type 0) (file : List ℕ) (call : Call) → IsUnreached i call
    → HasAt i byte file → ((d : List ℕ) → images d → HasAt i byte d)
    → (c : List ℕ) → images_after images file call c → HasAt i byte c
images_keep i byte images file Length out has each c left = each c left
images_keep i byte images file Read out has each c left = each c left
images_keep i byte images file (Write at count done) out has each c left = torn_keeps i byte at count left.0 c out
    left.2 (each left.0 left.1)
images_keep i byte images file (Sync true) out has each c left = subst (λ (d : List ℕ). HasAt i byte d) (sym left)
    has
images_keep i byte images file (Sync false) out has each c left = each c left

all_keep : (i byte : ℕ) (images : List ℕ → Type 0) (file : List ℕ) (calls : List Call) (written : List ℕ)
    → All (IsUnreached i) calls → fits file calls written ≡ true
    → HasAt i byte file → ((d : List ℕ) → images d → HasAt i byte d) → (c : List ℕ)
    → images_after_all images file calls written c → HasAt i byte c
all_keep i byte images file [] written out ok has each c left = each c left
all_keep i byte images file (call ∷ calls) written out ok has each c left =
    let both = and_parts _ _ ok in
    all_keep i byte (images_after images file call) (read_after file call written) calls (left_after call written)
    (All-tail (IsUnreached i) call calls out) both.1
    (read_keeps i byte file call written (All-head (IsUnreached i) call calls out) both.0 has)
    (images_keep i byte images file call (All-head (IsUnreached i) call calls out) has each) c left

-- After a sync, and calls of which no write reaches a place, each image has the synced byte there.
pub unreached_stays : (synced : List ℕ) (calls : List Call) (written : List ℕ) (i : ℕ)
    → fits synced calls written ≡ true → i < length synced → All (IsUnreached i) calls
    → (c : List ℕ) → images_after_all (λ d. d ≡ synced) synced calls written c
    → get_or c i 0 ≡ get_or synced i 0
unreached_stays synced calls written i ok within out c left =
    let here : HasAt i (get_or synced i 0) synced = record { within = within; is = refl } in
    (all_keep i (get_or synced i 0) (λ d. d ≡ synced) synced calls written out ok here
    (λ d is. subst (λ (e : List ℕ). HasAt i (get_or synced i 0) e) (sym is) here) c left).is
