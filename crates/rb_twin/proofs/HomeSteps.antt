-- What the writes of a batch's blocks leave of a file, and how far several have come.
use Rattle.std.proofs.Common.{◌≡◌, ◌≢◌, ℕ, ◌+◌, ◌*◌, ◌<◌, ◌≤◌, ◌==◌, if◌then◌else◌, true, false, List, length, slice_index, refl, sym, ◌∙◌, ap, subst, arith, inl, inr}
use Rattle.std.proofs.lemmas.Bool.{cases_eq}
use Rattle.std.proofs.lemmas.Bool.Decides.{nat_tests}
use Rattle.rb_base.specs.Fields.{part, overwritten}
use Rattle.rb_base.specs.Moments.{Passes, begun, goes_on}
use Rattle.rb_base.proofs.Overwriting.{part_written}
use Rattle.rb_base.specs.declared.sizes.TheConstants.{UNIT}
use Rattle.rb_disk.specs.DiskModel.{Torn, Follows}
use Rattle.rb_disk.specs.Moments.{Leaves}
use Rattle.rb_disk.specs.Ranges.{SameBut}
use Rattle.rb_disk.specs.Writes.{done_is_torn}
use Rattle.rb_disk.specs.declared.disk.Disk.{Ghosts}
use Rattle.rb_layout.specs.Regions.{file_length, block_offset, block_count}
use Rattle.rb_layout.specs.declared.layout.Layout.{Layout}
use Rattle.rb_twin.specs.Batches.{Image, IsBatch, IsNoneOf, with_batch, images_in, batch_in}
use Rattle.rb_twin.specs.Twins.{home, SameButHomes, HomesFrom}
use Rattle.rb_twin.specs.TwinLaws.{torn_home, with_none, with_push}
use Rattle.rb_twin.proofs.Images.{name_of, image_of, batch_at, none_before, front_more}

pub but_both : (first last : ℕ) (f g h : List ℕ) → SameBut first last f g → SameBut first last g h → SameBut first last f h
but_both first last f g h one two = record { long = two.long ∙ one.long; before = two.before ∙ one.before; behind = two.behind ∙ one.behind }

pub but_none : (first last : ℕ) (f : List ℕ) → SameBut first last f f
but_none first last f = record { long = refl; before = refl; behind = refl }

-- whatever becomes of the home of one of the batch's blocks
home_torn : (l : Layout) (batch : List Image) (f m c : List ℕ) (which : ℕ) → length f ≡ file_length l → which < block_count l → ((other : ℕ) → IsNoneOf other batch → which ≢ other) → Torn (block_offset l which) UNIT m c → SameButHomes l batch f m
    → SameButHomes l batch f c
home_torn l batch f m c which whole lt named torn was =
    let both = torn_home l m c which (was.front.long ∙ whole) lt torn in record {
      front = but_both (block_offset l 0) (file_length l) f m c was.front both.0;
      homes = λ other none. both.1 other (named other none) ∙ was.homes other none;
    }

-- one block more is home
home_more : (l : Layout) (area : List ℕ) (place : ℕ) (f m n bytes : List ℕ) → IsBatch (block_count l) (batch_in area) → place < slice_index area 1 → length m ≡ file_length l → bytes ≡ part area (UNIT * (place + 1)) UNIT → length bytes ≡ UNIT
    → ((which : ℕ) → home l m which ≡ with_batch (images_in area 0 place) which (home l f which)) → n ≡ overwritten m (block_offset l (name_of area place)) bytes
    → (which : ℕ) → home l n which ≡ with_batch (images_in area 0 (place + 1)) which (home l f which)
home_more l area place f m n bytes valid lt whole is long homes wrote which =
    let b = name_of area place in
    let at = block_offset l b in
    let images = images_in area 0 place in
    let below : b < block_count l = batch_at (λ image. image.no < block_count l) area valid.within place lt in
    let fits : at + length bytes ≤ length m = omega (arith, whole, below, long) in
    let torn : Torn at UNIT m n = subst (λ (k : ℕ). Torn at k m n) long (subst (λ (h : List ℕ). Torn at (length bytes) m h) (sym wrote) (done_is_torn at m bytes (omega (arith, fits)))) in
    let more : with_batch (images_in area 0 (place + 1)) which (home l f which) ≡ with_batch images which (if b == which then part area (UNIT * (place + 1)) UNIT else home l f which) =
    ap (λ (xs : List Image). with_batch xs which (home l f which)) (front_more area place) ∙ with_push images (image_of area place) which (home l f which) in
    elim (cases_eq b which) [
      | inl here ↦
          let test : (b == which) ≡ true = grind (arith, nat_tests) in
          let none : IsNoneOf which images = subst (λ (k : ℕ). IsNoneOf k images) here (none_before area valid.differ place lt) in
          ap (λ (k : ℕ). home l n k) (sym here) ∙ ap (λ (h : List ℕ). part h at UNIT) wrote ∙ part_written m at bytes UNIT fits long ∙ is ∙ sym (with_none images which (part area (UNIT * (place + 1)) UNIT) none)
          ∙ sym (more ∙ rw test refl)
      | inr differ ↦
          let test : (b == which) ≡ false = grind (arith, nat_tests) in
          (torn_home l m n b whole below torn).1 which differ ∙ homes which ∙ sym (more ∙ rw test refl)
    ]

module _ {D : Type 0} (d : Ghosts D) where
  -- So many blocks of the batch were written home.
  pub record BroughtSome (l : Layout) (area : List ℕ) (place : ℕ) (old new : D) : Type 0 where
    pub same : SameButHomes l (batch_in area) (d.content old) (d.content new)
    pub homes : (which : ℕ) → home l (d.content new) which ≡ with_batch (images_in area 0 place) which (home l (d.content old) which)
    pub images : (c : List ℕ) → d.image new c → HomesFrom l (batch_in area) (d.image old) c
    pub any_moment : Leaves d old new (HomesFrom l (batch_in area) (d.image old))

  pub none_brought : (l : Layout) (area : List ℕ) (disk : D) → ((c : List ℕ) → d.image_since disk (d.moment disk) c → d.image disk c) → BroughtSome l area 0 disk disk
  none_brought l area disk only_now =
      let rest : (c : List ℕ) → SameButHomes l (batch_in area) c c = λ c. record { front = but_none (block_offset l 0) (file_length l) c; homes = λ which none. refl } in
      record {
        same = rest (d.content disk);
        homes = λ which. refl;
        images = λ c here. (c, here, rest c);
        any_moment = begun d.moment d.image_since disk (HomesFrom l (batch_in area) (d.image disk)) (λ c left. (c, only_now c left, rest c));
      }

  module _ (l : Layout) (area : List ℕ) (place : ℕ) (valid : IsBatch (block_count l) (batch_in area)) (lt : place < slice_index area 1) (old mid new : D) (whole : length (d.content old) ≡ file_length l)
      (sized : (c : List ℕ) → d.image old c → length c ≡ file_length l) (so_far : BroughtSome l area place old mid) (at size : ℕ) (here : at ≡ block_offset l (name_of area place)) (unit : size ≡ UNIT) where
    below : name_of area place < block_count l
    below = batch_at (λ image. image.no < block_count l) area valid.within place lt

    named : (other : ℕ) → IsNoneOf other (batch_in area) → name_of area place ≢ other
    named other none = batch_at (λ image. image.no ≢ other) area none place lt

    tears : (f m c : List ℕ) → length f ≡ file_length l → Torn at size m c → SameButHomes l (batch_in area) f m → SameButHomes l (batch_in area) f c
    tears f m c long torn = home_torn l (batch_in area) f m c (name_of area place) long below named (subst (λ (n : ℕ). Torn (block_offset l (name_of area place)) n m c) unit (subst (λ (i : ℕ). Torn i size m c) here torn))

    pub brought_torn : Torn at size (d.content mid) (d.content new) → SameButHomes l (batch_in area) (d.content old) (d.content new)
    brought_torn torn = tears (d.content old) (d.content mid) (d.content new) whole torn so_far.same

    pub brought_images : Follows (Torn at size) (d.image mid) (d.image new) → (c : List ℕ) → d.image new c → HomesFrom l (batch_in area) (d.image old) c
    brought_images follows c left =
        let from = follows c left in
        let was = so_far.images from.0 from.1 in (was.0, was.1, tears was.0 from.0 c (sized was.0 was.1) from.2 was.2)

    pub brought_moment : Follows (Torn at size) (d.image mid) (d.image new) → Passes (d.moment mid) (d.moment new) (d.image_since mid) (d.image_since new) (d.image new) → Leaves d old new (HomesFrom l (batch_in area) (d.image old))
    brought_moment follows time = goes_on d.moment d.image_since old mid new (HomesFrom l (batch_in area) (d.image old)) (d.image new) so_far.any_moment time (brought_images follows)

    pub brought_more : (bytes : List ℕ) → bytes ≡ part area (UNIT * (place + 1)) UNIT → length bytes ≡ size → d.content new ≡ overwritten (d.content mid) at bytes
        → Follows (Torn at size) (d.image mid) (d.image new) → Passes (d.moment mid) (d.moment new) (d.image_since mid) (d.image_since new) (d.image new) → BroughtSome l area (place + 1) old new
    brought_more bytes is long wrote follows time =
        let fits : at + length bytes ≤ length (d.content mid) = omega (arith, so_far.same.front.long, whole, here, below, long, unit) in
        let torn : Torn at size (d.content mid) (d.content new) = subst (λ (k : ℕ). Torn at k (d.content mid) (d.content new)) long (subst (λ (h : List ℕ). Torn at (length bytes) (d.content mid) h) (sym wrote) (done_is_torn at (d.content mid) bytes (omega (arith, fits)))) in
        record {
          same = brought_torn torn;
          homes = home_more l area place (d.content old) (d.content mid) (d.content new) bytes valid lt (so_far.same.front.long ∙ whole) is (long ∙ unit) so_far.homes (wrote ∙ ap (λ (i : ℕ). overwritten (d.content mid) i bytes) here);
          images = brought_images follows;
          any_moment = brought_moment follows time;
        }
