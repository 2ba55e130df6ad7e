-- The extents of a header stamped with a commit's number, one extent more at a time.
use Rattle.std.proofs.Common.{◌≡◌, ◌≢◌, inl, inr, ℕ, zero, suc, ◌+◌, ◌*◌, ◌<◌, ◌≤◌, ◌==◌, true, false, if◌then◌else◌, List, [], ◌∷◌, ◌++◌, length, set, refl, arith, ap, sym, ◌∙◌, append_assoc, append-nil, ext_get_or}
use Rattle.std.proofs.lemmas.Bool.{cases_lt}
use Rattle.std.proofs.lemmas.List.{length-append, get_or-set_other}
use Rattle.std.proofs.lemmas.List.Sums.{sum_by_push}
use Rattle.std.specs.List.{flat_map, range_with_len}
use Rattle.rb_base.specs.declared.sizes.TheConstants.{UNIT}
use Rattle.rb_ring.specs.declared.extents.TheConstants.{EXTENTS}
use Rattle.rb_base.specs.Blocks.{written_to}
use Rattle.rb_base.specs.Fields.{overwritten}
use Rattle.rb_base.specs.Groups.{Patch, group_length, patch_length}
use Rattle.rb_ring.specs.Ring.{extent_at, extent_patch}
use Rattle.rb_ring.specs.declared.extents.Extent.{Extent}
use Rattle.rb_segment.proofs.Commits.{stamped_at, length_stamped}
use Rattle.rb_segment.proofs.Parts.{extent_read, extents_many}
use Rattle.rb_segment.specs.Calls.{stamp_patch}
use Rattle.rb_segment.specs.Header.{Header, header_of, has_bit, extent_in, no_extent}
use Rattle.rb_segment.specs.Moves.{stamped}

-- patches behind others are written over what these made
pub written_on : (which : ℕ) (ps qs : List Patch) (block : List ℕ) → written_to which (ps ++ qs) block ≡ written_to which qs (written_to which ps block)
written_on which [] qs block = refl
written_on which (p ∷ ps) qs block = written_on which ps qs (if p.block == which then overwritten block p.at p.bytes else block)

-- a list made of parts, one for each number from a on: with one number more, and by another function with the same parts
parts_more : {A : Type 0} (f : ℕ → List A) (a n end : ℕ) → a + n ≡ end → flat_map f (range_with_len a (n + 1)) ≡ flat_map f (range_with_len a n) ++ f end
parts_more f a zero end is = let same : a ≡ end = omega arith in rw same (append-nil (f end))
parts_more f a (suc n) end is =
    let next : suc n + 1 ≡ suc (n + 1) = omega arith in
    rw next (ap (λ l. f a ++ l) (parts_more f (a + 1) n end (omega arith)) ∙ sym (append_assoc (f a) (flat_map f (range_with_len (a + 1) n)) (f end)))

parts_same : {A : Type 0} (f g : ℕ → List A) (a n end : ℕ) → a + n ≡ end → ((k : ℕ) → k < end → f k ≡ g k) → flat_map f (range_with_len a n) ≡ flat_map g (range_with_len a n)
parts_same f g a zero end is same = refl
parts_same f g a (suc n) end is same =
    ap (λ l. l ++ flat_map f (range_with_len (a + 1) n)) (same a (omega arith)) ∙ ap (λ l. g a ++ l) (parts_same f g (a + 1) n end (omega arith) same)

-- extent e as the bits stamp it
abbrev pub stamped_extent : ℕ → ℕ → ℕ → Extent → Extent
stamped_extent scn bits e x = record x { newest = if has_bit bits e then scn else x.newest }

-- the patches of the extents before e
abbrev pub stamps : ℕ → ℕ → List ℕ → ℕ → List Patch
stamps block bits header e = flat_map (stamp_patch block bits (header_of header)) (range_with_len 0 e)

-- The extents before e are stamped, in the header that was first and in its group, and the others aren't yet.
pub record StampedTo (block bits scn : ℕ) (first : List ℕ) (held : List Patch) (header : List ℕ) (group : List Patch) (e : ℕ) : Type 0 where
  pub long : length header ≡ UNIT
  pub others : header_of header ≡ record (header_of first) { extents = (header_of header).extents }
  pub before : (k : ℕ) → k < e → extent_in (header_of header) k ≡ stamped_extent scn bits k (extent_in (header_of first) k)
  pub behind : (k : ℕ) → e ≤ k → extent_in (header_of header) k ≡ extent_in (header_of first) k
  pub patches : group ≡ held ++ stamps block bits header e
  pub copy : header ≡ written_to block (stamps block bits header e) first
  pub count : length group ≤ length held + e
  pub room : group_length group ≤ group_length held + e * 24

module _ (block bits scn : ℕ) (first : List ℕ) (held : List Patch) where
  pub none_stamped : length first ≡ UNIT → StampedTo block bits scn first held first held 0
  none_stamped long = record {
    long = long;
    others = refl;
    before = λ k lt. absurd (omega arith);
    behind = λ k le. refl;
    patches = sym (append-nil held);
    copy = refl;
    count = omega arith;
    room = omega arith;
  }

  module _ (header : List ℕ) (group : List Patch) (e : ℕ) (so_far : StampedTo block bits scn first held header group e) where
    -- extent e isn't named
    pub passed : has_bit bits e ≡ false → StampedTo block bits scn first held header group (e + 1)
    passed unset = record {
      long = so_far.long;
      others = so_far.others;
      before = λ k lt. elim (cases_lt k e) [
        | inl less ↦ so_far.before k less
        | inr le ↦
            let same : k ≡ e = omega arith in
            so_far.behind k (omega arith) ∙ rw (same, unset) refl
      ];
      behind = λ k le. so_far.behind k (omega arith);
      patches = so_far.patches ∙ ap (λ (l : List Patch). held ++ l) (sym more);
      copy = so_far.copy ∙ ap (λ (l : List Patch). written_to block l first) (sym more);
      count = omega (arith, so_far.count);
      room = omega (arith, so_far.room);
    }
      where
        patch_of : ℕ → List Patch
        patch_of = stamp_patch block bits (header_of header)

        none : patch_of e ≡ []
        none = rw unset refl

        more : stamps block bits header (e + 1) ≡ stamps block bits header e
        more = parts_more patch_of 0 e e (omega arith) ∙ ap (λ (l : List Patch). stamps block bits header e ++ l) none ∙ append-nil (stamps block bits header e)

    -- extent e is named: it is set in the header, and its patch is in the group
    module _ (header2 : List ℕ) (group2 : List Patch) (x : Extent) where
      pub joined : has_bit bits e ≡ true → e < EXTENTS → x ≡ record (extent_at header e) { newest = scn } → length header2 ≡ UNIT
          → group2 ≡ group ++ extent_patch block e x ∷ [] → header2 ≡ written_to block (extent_patch block e x ∷ []) header
          → header_of header2 ≡ record (header_of header) { extents = set (header_of header).extents e x }
          → extent_in (header_of header2) e ≡ x
          → StampedTo block bits scn first held header2 group2 (e + 1)
      joined named few stamp long patch copy means read = record {
        long = long;
        others = means ∙ ap (λ (h : Header). record h { extents = set (header_of header).extents e x }) so_far.others ∙ ap (λ (h : Header). record (header_of first) { extents = h.extents }) (sym means);
        before = λ k lt. elim (cases_lt k e) [
          | inl less ↦ kept k (omega arith) ∙ so_far.before k less
          | inr le ↦ let same : k ≡ e = omega arith in rw (same, named) (read ∙ stamp ∙ ap (λ (y : Extent). record y { newest = scn }) (sym (extent_read header e few) ∙ so_far.behind e (omega arith)))
        ];
        behind = λ k le. kept k (omega arith) ∙ so_far.behind k (omega arith);
        patches = patch ∙ ap (λ (l : List Patch). l ++ p ∷ []) so_far.patches ∙ append_assoc held (stamps block bits header e) (p ∷ []) ∙ ap (λ (l : List Patch). held ++ l) (sym more);
        copy = copy ∙ ap (written_to block (p ∷ [])) so_far.copy ∙ sym (written_on block (stamps block bits header e) (p ∷ []) first) ∙ ap (λ (l : List Patch). written_to block l first) (sym more);
        count = omega (arith, so_far.count, ap length patch, length-append group (p ∷ []));
        room = omega (arith, so_far.room, ap group_length patch, sum_by_push patch_length group p);
      }
        where
          p : Patch
          p = extent_patch block e x

          kept : (k : ℕ) → k ≢ e → extent_in (header_of header2) k ≡ extent_in (header_of header) k
          kept k differ = ap (λ (h : Header). extent_in h k) means ∙ get_or-set_other (header_of header).extents e k x no_extent differ

          patch_of : ℕ → List Patch
          patch_of = stamp_patch block bits (header_of header)

          patch_now : ℕ → List Patch
          patch_now = stamp_patch block bits (header_of header2)

          own : patch_now e ≡ p ∷ []
          own = rw (named, read) refl

          same_before : (k : ℕ) → k < e → patch_now k ≡ patch_of k
          same_before k lt = ap (λ (y : Extent). if has_bit bits k then extent_patch block k y ∷ [] else []) (kept k (omega arith))

          more : stamps block bits header2 (e + 1) ≡ stamps block bits header e ++ p ∷ []
          more = parts_more patch_now 0 e e (omega arith) ∙ ap (λ (l : List Patch). l ++ patch_now e) (parts_same patch_now patch_of 0 e e (omega arith) same_before) ∙ ap (λ (l : List Patch). stamps block bits header e ++ l) own

  -- where all are done, the header has its extents stamped
  pub all_stamped : (header : List ℕ) (group : List Patch) → StampedTo block bits scn first held header group 8
      → header_of header ≡ record (header_of first) { extents = stamped scn bits 0 (header_of first).extents }
  all_stamped header group all =
      let xs = (header_of first).extents in
      let many : length (header_of header).extents ≡ EXTENTS = extents_many header in
      let same : (header_of header).extents ≡ stamped scn bits 0 xs =
      ext_get_or no_extent (header_of header).extents (stamped scn bits 0 xs) (many ∙ sym (length_stamped scn bits 0 xs ∙ extents_many first))
      (λ k lt.
      let first_on : 0 + k ≡ k = omega arith in
      all.before k (omega (arith, lt, many)) ∙ sym (rw first_on at (stamped_at scn bits 0 xs k (omega (arith, lt, many, extents_many first))))) in
      all.others ∙ ap (λ (l : List Extent). record (header_of first) { extents = l }) same
