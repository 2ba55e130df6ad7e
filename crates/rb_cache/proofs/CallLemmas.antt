-- The frames of a call: a block that is held goes to the front, and one that isn't is read into the last frame's place.
use Rattle.std.proofs.Common.{Result, Ok, Err, OnOk, OnErr, ◌≡◌, ◌≢◌, ℕ, zero, suc, ◌-◌, ◌<◌, ◌≤◌, ◌==◌, Bool, true, false, if◌then◌else◌, List, [], ◌∷◌, ◌++◌, length, take, arith, ap, sym, ◌∙◌, subst, refl, length-append}
use Rattle.std.proofs.Math.Seq.{take-append_seam}
use Rattle.std.proofs.lemmas.Bool.{eqb-true, eq-eqb, ne_eqb}
use Rattle.std.specs.List.{AllByRecursion}
use Rattle.rb_base.proofs.Each.{all_take}
use Rattle.rb_base.specs.Groups.{Patch}
use Rattle.rb_base.specs.Moments.{joined}
use Rattle.rb_disk.specs.DiskModel.{Only}
use Rattle.rb_disk.specs.Moments.{Rests, rests_leave}
use Rattle.rb_disk.specs.declared.disk.Disk.{Ghosts}
use Rattle.rb_layout.specs.declared.layout.Layout.{Layout}
use Rattle.rb_log.specs.GroupSlots.{LogState}
use Rattle.rb_twin.specs.Twins.{home}
use Rattle.rb_cache.specs.Calls.{IsDone, Leaving, LogHas}
use Rattle.rb_cache.specs.Frames.{AreBelow, AreClean, IsLastClean, brought, frame_in, has_number, numbers_of, others_of, room_made, seen, without}
use Rattle.rb_cache.specs.OnDisk.{IsCalm, Later, OnDisk}
use Rattle.rb_cache.specs.Slots.{IsPatched}
use Rattle.law_redo.specs.Rolled.{step}
use Rattle.rb_cache.specs.declared.frame.Frame.{Frame}
use Rattle.rb_cache.proofs.FrameLemmas.{seen_dropped}

-- what all frames have as one goes to the front
pub all_moved : (P : Frame → Type 0) (which : ℕ) (f : Frame) (held : List Frame) → AllByRecursion P held → has_number which (numbers_of held) ≡ true → AllByRecursion P (frame_in which f held ∷ others_of which held)
all_moved P which f [] all has = cc
all_moved P which f (g ∷ held) all has = by (g.block == which) has (λ more. all_moved P which f held all.1 more)
  where
    by : (b : Bool) → (if b then true else has_number which (numbers_of held)) ≡ true → (has_number which (numbers_of held) ≡ true → AllByRecursion P (frame_in which f held ∷ others_of which held))
        → AllByRecursion P ((if b then g else frame_in which f held) ∷ (if b then held else g ∷ others_of which held))
    by true more rest = (all.0, all.1)
    by false more rest = let r = rest more in (r.0, (all.0, r.1))

numbers-others : (which : ℕ) (held : List Frame) → numbers_of (others_of which held) ≡ without which (numbers_of held)
numbers-others which [] = refl
numbers-others which (g ∷ held) = by (g.block == which) (numbers-others which held)
  where
    by : (b : Bool) → numbers_of (others_of which held) ≡ without which (numbers_of held) → numbers_of (if b then held else g ∷ others_of which held) ≡ (if b then numbers_of held else g.block ∷ without which (numbers_of held))
    by true rest = refl
    by false rest = ap (λ (ns : List ℕ). g.block ∷ ns) rest

block-frame_in : (which : ℕ) (f : Frame) (held : List Frame) → has_number which (numbers_of held) ≡ true → (frame_in which f held).block ≡ which
block-frame_in which f [] has = cc
block-frame_in which f (g ∷ held) has = by (g.block == which) refl has (λ more. block-frame_in which f held more)
  where
    by : (b : Bool) → (g.block == which) ≡ b → (if b then true else has_number which (numbers_of held)) ≡ true → (has_number which (numbers_of held) ≡ true → (frame_in which f held).block ≡ which) → (if b then g else frame_in which f held).block ≡ which
    by true is more rest = eqb-true g.block which is
    by false is more rest = rest more

pub moved_order : (frames which : ℕ) (f : Frame) (held : List Frame) → has_number which (numbers_of held) ≡ true → numbers_of (frame_in which f held ∷ others_of which held) ≡ brought frames which (numbers_of held)
moved_order frames which f held has =
    ap (λ (n : ℕ). n ∷ numbers_of (others_of which held)) (block-frame_in which f held has)
    ∙ ap (λ (ns : List ℕ). which ∷ ns) (numbers-others which held)
    ∙ sym (ap (λ (b : Bool). which ∷ (if b then without which (numbers_of held) else if length (numbers_of held) == frames then take (frames - 1) (numbers_of held) else numbers_of held)) has)

length-numbers : (held : List Frame) → length (numbers_of held) ≡ length held
length-numbers [] = refl
length-numbers (f ∷ held) = let rest = length-numbers held in omega (arith, rest)

numbers-take : (n : ℕ) (held : List Frame) → numbers_of (take n held) ≡ take n (numbers_of held)
numbers-take zero held = refl
numbers-take (suc n) [] = refl
numbers-take (suc n) (f ∷ held) = ap (λ (ns : List ℕ). f.block ∷ ns) (numbers-take n held)

pub brought_order : (frames which : ℕ) (f : Frame) (held : List Frame) → f.block ≡ which → has_number which (numbers_of held) ≡ false → numbers_of (f ∷ room_made frames held) ≡ brought frames which (numbers_of held)
brought_order frames which f held is none =
    ap (λ (n : ℕ). n ∷ numbers_of (room_made frames held)) is
    ∙ ap (λ (ns : List ℕ). which ∷ ns) (by (length held == frames) refl)
    ∙ sym (ap (λ (b : Bool). which ∷ (if b then without which (numbers_of held) else if length (numbers_of held) == frames then take (frames - 1) (numbers_of held) else numbers_of held)) none)
  where
    by : (b : Bool) → (length held == frames) ≡ b → numbers_of (if b then take (frames - 1) held else held) ≡ (if length (numbers_of held) == frames then take (frames - 1) (numbers_of held) else numbers_of held)
    by true full = numbers-take (frames - 1) held ∙ sym (ap (λ (b : Bool). if b then take (frames - 1) (numbers_of held) else numbers_of held) (ap (λ (n : ℕ). n == frames) (length-numbers held) ∙ full))
    by false less = sym (ap (λ (b : Bool). if b then take (frames - 1) (numbers_of held) else numbers_of held) (ap (λ (n : ℕ). n == frames) (length-numbers held) ∙ less))

pub all_room : (P : Frame → Type 0) (frames : ℕ) (held : List Frame) → AllByRecursion P held → AllByRecursion P (room_made frames held)
all_room P frames held all = by (length held == frames)
  where
    by : (b : Bool) → AllByRecursion P (if b then take (frames - 1) held else held)
    by true = all_take P (frames - 1) held all
    by false = all

-- a list has a last one
last_of_all : (f : Frame) (held : List Frame) → (front : List Frame) × (last : Frame) × (f ∷ held ≡ front ++ last ∷ [])
last_of_all f [] = ([], f, refl)
last_of_all f (g ∷ held) = let rest = last_of_all g held in (f ∷ rest.0, rest.1, ap (λ (h : List Frame). f ∷ h) rest.2)

all_last : (P : Frame → Type 0) (front : List Frame) (last : Frame) → AllByRecursion P (front ++ last ∷ []) → P last
all_last P [] last all = all.0
all_last P (f ∷ front) last all = all_last P front last all.1

none_taken : (n : ℕ) → take {A = Frame} n [] ≡ []
none_taken zero = refl
none_taken (suc n) = refl

-- room is made by a clean frame
pub seen_room : (l : Layout) (file : List ℕ) (frames : ℕ) (held : List Frame) (which : ℕ) → IsLastClean frames held → AreClean l file held → seen l file (room_made frames held) which ≡ seen l file held which
seen_room l file frames [] which last clean = by (0 == frames)
  where
    by : (b : Bool) → seen l file (if b then take (frames - 1) [] else []) which ≡ home l file which
    by true = ap (λ (h : List Frame). seen l file h which) (none_taken (frames - 1))
    by false = refl
seen_room l file frames (f ∷ held) which last clean = by (length (f ∷ held) == frames) refl (last_of_all f held)
  where
    by : (b : Bool) → (length (f ∷ held) == frames) ≡ b → (front : List Frame) × (v : Frame) × (f ∷ held ≡ front ++ v ∷ []) → seen l file (if b then take (frames - 1) (f ∷ held) else f ∷ held) which ≡ seen l file (f ∷ held) which
    by false less split = refl
    by true full split =
        let all : length (f ∷ held) ≡ frames = eqb-true (length (f ∷ held)) frames full in
        let same = split.2 in
        let front : take (frames - 1) (f ∷ held) ≡ split.0 =
        ap (take (frames - 1)) same ∙ ap (λ (n : ℕ). take n (split.0 ++ split.1 ∷ [])) (omega (arith, all, ap length same, length-append split.0 (split.1 ∷ []))) ∙ take-append_seam split.0 (split.1 ∷ []) in
        let unit : split.1.bytes ≡ home l file split.1.block = all_last (λ g. g.dirty ≡ false → g.bytes ≡ home l file g.block) split.0 split.1 (subst (AreClean l file) same clean) (last split.0 split.1 same all) in
        ap (λ (h : List Frame). seen l file h which) front ∙ seen_dropped l file split.0 split.1 which unit ∙ ap (λ (h : List Frame). seen l file h which) (sym same)

-- a number that isn't held isn't once there is room
has_take : (which n : ℕ) (ns : List ℕ) → has_number which ns ≡ false → has_number which (take n ns) ≡ false
has_take which zero ns none = refl
has_take which (suc n) [] none = refl
has_take which (suc n) (m ∷ ns) none = by (m == which) none (λ more. has_take which n ns more)
  where
    by : (b : Bool) → (if b then true else has_number which ns) ≡ false → (has_number which ns ≡ false → has_number which (take n ns) ≡ false) → (if b then true else has_number which (take n ns)) ≡ false
    by true none rest = none
    by false none rest = rest none

pub room_lacks : (frames which : ℕ) (held : List Frame) → has_number which (numbers_of held) ≡ false → has_number which (numbers_of (room_made frames held)) ≡ false
room_lacks frames which held none = by (length held == frames)
  where
    by : (b : Bool) → has_number which (numbers_of (if b then take (frames - 1) held else held)) ≡ false
    by true = ap (has_number which) (numbers-take (frames - 1) held) ∙ has_take which (frames - 1) (numbers_of held) none
    by false = none

-- a call that reads behind others
module _ {D : Type 0} (d : Ghosts D) (counts : (disk : D) (t : ℕ) (c : List ℕ) → t ≤ d.moment disk → d.image disk c → d.image_since disk t c)
    (only : (disk : D) (c : List ℕ) → d.image_since disk (d.moment disk) c → d.image disk c) (l : Layout) (s t : LogState) (old mid new : D) (may : ℕ → List ℕ → Type 0) (still : Rests d mid new) where
  pub leaves_on : Leaving d l s old mid may → Leaving d l s old new may
  leaves_on so_far = λ groups has.
      let mine = OnDisk (d.image old) l s.head groups s.pending (d.content old) may in
      let first = so_far groups has in
      joined d.moment d.image_since old mid new mine first
      (rests_leave d mid new mine (only mid) (λ c here. first.each c (counts mid (d.moment old) c first.later here)) still)

  pub done_on : IsDone d l s t old mid may → IsDone d l s t old new may
  done_on so_far = λ groups has.
      let first = so_far groups has in
      record {
        groups1 = first.groups1;
        has = subst (λ (file : List ℕ). LogHas l t file first.groups1) (sym still.same) first.has;
        later = subst (λ (file : List ℕ). Later (d.image old) (d.image new) l groups s.pending (d.content old) first.groups1 t.pending file may) (sym still.same)
            (record { front = λ c here. first.later.front c (still.crashes.no_more c here); log = first.later.log });
      }

  pub calm_on : IsCalm (d.image mid) l (d.content mid) → IsCalm (d.image new) l (d.content new)
  calm_on calm = subst (λ (file : List ℕ). IsCalm (d.image new) l file) (sym still.same) (record {
    whole = calm.whole;
    slots = λ c here. calm.slots c (still.crashes.no_more c here);
    blocks = λ c here. calm.blocks c (still.crashes.no_more c here);
    shut = λ c here. calm.shut c (still.crashes.no_more c here);
  })

  pub only_on : Only (d.content mid) (d.image mid) → Only (d.content new) (d.image new)
  only_on was c here = was c (still.crashes.no_more c here) ∙ sym still.same

-- blocks that are those of others are as low
pub below_by : (n : ℕ) (held other : List Frame) → numbers_of other ≡ numbers_of held → AreBelow n held → AreBelow n other
below_by n [] [] same below = tt
below_by n [] (g ∷ other) same below = absurd (omega (arith, ap length same))
below_by n (f ∷ held) [] same below = tt
below_by n (f ∷ held) (g ∷ other) same below = (subst (λ (b : ℕ). b < n) (sym (first same)) below.0, below_by n held other (rest same) below.1)
  where
    first : g.block ∷ numbers_of other ≡ f.block ∷ numbers_of held → g.block ≡ f.block
    first e = cc

    rest : g.block ∷ numbers_of other ≡ f.block ∷ numbers_of held → numbers_of other ≡ numbers_of held
    rest e = cc

pub either_way : {T E A B X : Type 0} (r : Result T E) → (A → X) → (B → X) → OnOk r A → OnErr r B → X
either_way (Ok x) so or a b = so a
either_way (Err e) so or a b = or b

-- the first of frames of which the first number is known
pub first_frame : (which : ℕ) (ns : List ℕ) (held : List Frame) → numbers_of held ≡ which ∷ ns → (f : Frame) × (rest : List Frame) × (held ≡ f ∷ rest) × (f.block ≡ which)
first_frame which ns [] same = cc
first_frame which ns (f ∷ rest) same = (f, rest, refl, head same)
  where
    head : f.block ∷ numbers_of rest ≡ which ∷ ns → f.block ≡ which
    head e = cc

-- what is seen once the first block was patched
module _ (n : ℕ) (g : List Patch) (first : Frame) (others held : List Frame) (patched : IsPatched n g first others held) where
  pub patched_order : numbers_of held ≡ numbers_of (first ∷ others)
  patched_order = ap numbers_of patched.held_is ∙ ap (λ (b : ℕ). b ∷ numbers_of others) patched.block

  pub patched_own : (l : Layout) (file : List ℕ) (which : ℕ) → first.block ≡ which → seen l file held which ≡ step n g which (seen l file (first ∷ others) which)
  patched_own l file which is =
      let now : (patched.frame.block == which) ≡ true = eq-eqb _ _ (patched.block ∙ is) in
      let was : (first.block == which) ≡ true = eq-eqb _ _ is in
      ap (λ (h : List Frame). seen l file h which) patched.held_is
      ∙ ap (λ (b : Bool). if b then patched.frame.bytes else seen l file others which) now
      ∙ patched.bytes ∙ ap (λ (w : ℕ). step n g w first.bytes) is
      ∙ sym (ap (λ (b : Bool). step n g which (if b then first.bytes else seen l file others which)) was)

  pub patched_others : (l : Layout) (file : List ℕ) (which k : ℕ) → first.block ≡ which → k ≢ which → seen l file held k ≡ seen l file (first ∷ others) k
  patched_others l file which k is differ =
      let now : (patched.frame.block == k) ≡ false = ne_eqb _ _ (λ e. differ (sym e ∙ patched.block ∙ is)) in
      let was : (first.block == k) ≡ false = ne_eqb _ _ (λ e. differ (sym e ∙ is)) in
      ap (λ (h : List Frame). seen l file h k) patched.held_is
      ∙ ap (λ (b : Bool). if b then patched.frame.bytes else seen l file others k) now
      ∙ sym (ap (λ (b : Bool). if b then first.bytes else seen l file others k) was)

  pub patched_clean : (l : Layout) (file : List ℕ) → AreClean l file (first ∷ others) → AreClean l file held
  patched_clean l file clean = subst (AreClean l file) (sym patched.held_is)
      ((λ is. let same = patched.clean is in ap (λ (f : Frame). f.bytes) same ∙ clean.0 (ap (λ (f : Frame). f.dirty) (sym same) ∙ is) ∙ ap (λ (f : Frame). home l file f.block) (sym same)), clean.1)
