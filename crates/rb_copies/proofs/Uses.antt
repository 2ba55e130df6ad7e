-- What a use and a put make of a table, as the cache below says it and as its own words do.
use Rattle.std.proofs.Common.{◌≡◌, ◌≢◌, ◌⊎◌, ◌<◌, ◌≤◌, ◌-◌, ℕ, Bool, true, false, cond, [], ◌∷◌, length, take, Option, Some, None, is_some, option_map, refl, sym, ap, ◌∙◌, inl, inr, arith}
use Rattle.std.specs.List.{IsDistinct}
use Rattle.std.specs.Map.{keys_of, lookup_entry}
use Rattle.std.specs.Option.{option_map_or}
use Rattle.std.proofs.lemmas.Map.{NonePasses, none_passes_from_lookup, lookup-remove_entry}
use Rattle.std.proofs.lemmas.List.{take_all, length-take}
use Rattle.std.proofs.lemmas.Map.Keys.{IsDistinct-cons}
use Rattle.lru.specs.LruCache.{LruCache, promoted, put_entries}
use Rattle.rb_copies.specs.Copies.{CopyTable, IsTable, KeptHomes, kept_under, others_of, same_key, table_of, used, with_copy}
use Rattle.rb_copies.specs.declared.homes.CopyKey.{CopyKey}
use Rattle.rb_copies.specs.declared.homes.KeptHome.{KeptHome}
use Rattle.rb_copies.proofs.Keys.{equal_keys, key_laws, other_keys, same_key-refl}
use Rattle.rb_copies.proofs.Lists.{apart_from_passes, apart_take, distinct_removed, distinct_take, length_removed, lookup_others, lookup_take, none_removed}

-- the entry under a key is that key with the home that is kept under it
pub entry_under : (kept : KeptHomes) (key : CopyKey)
    → lookup_entry (same_key key) kept ≡ option_map (λ home. (key, home)) (kept_under kept key)
entry_under [] key = refl
entry_under (e ∷ kept) key = (elim (same_key key e.0) as (λ y. same_key key e.0 ≡ y
    → cond y (Some e) (lookup_entry (same_key key) kept) ≡ option_map (λ home. (key, home)) (cond y (Some e.1) (kept_under kept key))) [
      | true ↦ λ is. let equal = equal_keys key e.0 is in ap (λ k. Some (k, e.1)) (sym equal)
      | false ↦ λ is. entry_under kept key
    ]) refl

module _ (key : CopyKey) where
  use_is : (kept : KeptHomes) (most : ℕ) (home : Option KeptHome)
      → table_of (option_map_or (λ e. e ∷ others_of kept key) (option_map (λ h. (key, h)) home) kept) most
      ≡ option_map_or (λ h. table_of ((key, h) ∷ others_of kept key) most) home (table_of kept most)
  use_is kept most None = refl
  use_is kept most (Some h) = refl

  -- a use in the words of the cache
  pub used-promoted : (kept : KeptHomes) (most : ℕ) → table_of (promoted (same_key key) kept) most ≡ used (table_of kept most) key
  used-promoted kept most = rw (entry_under kept key) (use_is kept most (kept_under kept key))

  -- a use of the latest used leaves the table as it is
  pub used-latest : (kept : KeptHomes) (most : ℕ) → is_some (kept_under (take 1 kept) key) ≡ true
      → used (table_of kept most) key ≡ table_of kept most
  used-latest [] most first = refl
  used-latest (e ∷ kept) most first = (elim (same_key key e.0) as (λ y. same_key key e.0 ≡ y
      → used (table_of (e ∷ kept) most) key ≡ table_of (e ∷ kept) most) [
        | true ↦ λ is. rw is (ap (λ k. table_of ((k, e.1) ∷ kept) most) (equal_keys key e.0 is))
        | false ↦ λ is. let none = rw is at first in cc
      ]) refl

  module _ (home : KeptHome) where
    put_is : (c : LruCache CopyKey KeptHome) → length c.entries ≤ c.cap → (e : Option (CopyKey × KeptHome)) → lookup_entry (same_key key) c.entries ≡ e
        → ((k : CopyKey × KeptHome) → e ≡ Some k → k.0 ≡ key)
        → option_map_or (λ e. (e.0, home) ∷ others_of c.entries key) e ((key, home) ∷ take (c.cap - 1) c.entries)
        ≡ (key, home) ∷ take (c.cap - 1) (others_of c.entries key)
    put_is c few None none is = rw (none_removed (same_key key) c.entries none)
    put_is c few (Some e) found is =
        let shorter = length_removed (same_key key) c.entries e found in
        let all : take (c.cap - 1) (others_of c.entries key) ≡ others_of c.entries key = take_all (c.cap - 1) (others_of c.entries key) (omega arith) in
        rw (is e refl, all)

    key_of_entry : (kept : KeptHomes) (o : Option KeptHome) → lookup_entry (same_key key) kept ≡ option_map (λ h. (key, h)) o
        → (k : CopyKey × KeptHome) → lookup_entry (same_key key) kept ≡ Some k → k.0 ≡ key
    key_of_entry kept None entry k found = cc
    key_of_entry kept (Some h) entry k found = cc

    -- a put in the words of the cache
    pub with_copy-put : (c : LruCache CopyKey KeptHome) → length c.entries ≤ c.cap
        → table_of (put_entries same_key c key home) c.cap ≡ with_copy (table_of c.entries c.cap) key home
    with_copy-put c few = ap (λ l. table_of l c.cap) (put_is c few (lookup_entry (same_key key) c.entries) refl
        (key_of_entry c.entries (kept_under c.entries key) (entry_under c.entries key)))

-- of the others none has the key
others_apart : (kept : KeptHomes) (key : CopyKey) → IsDistinct same_key (keys_of kept)
    → NonePasses (same_key key) (others_of kept key)
others_apart kept key once = none_passes_from_lookup (same_key key) (others_of kept key)
    (lookup-remove_entry key_laws (same_key key) (λ a b is. key_laws.congr key a b is) key kept once ∙ rw (same_key-refl key))

-- what one key passes, another doesn't
apart : (key k : CopyKey) → same_key k key ≡ false → (j : CopyKey) → same_key key j ≡ true → same_key k j ≡ false
apart key k differ j is = rw (← equal_keys key j is) differ

others_length : (kept : KeptHomes) (key : CopyKey) → length (others_of kept key) ≤ length kept
others_length [] key = omega arith
others_length (e ∷ kept) key = elim (same_key key e.0) as (λ y. length (cond y kept (e ∷ others_of kept key)) ≤ length (e ∷ kept)) [
  | true ↦ omega arith
  | false ↦ let on = others_length kept key in omega arith
]

module _ (table : CopyTable) (key : CopyKey) where
  used_by : Option KeptHome → CopyTable
  used_by home = option_map_or (λ h. table_of ((key, h) ∷ others_of table.kept key) table.most) home table

  use_sound : IsTable table → (home : Option KeptHome) → kept_under table.kept key ≡ home → IsTable (used_by home)
  unfolding used_by
  use_sound sound None is = sound
  use_sound sound (Some h) is =
      let shorter = length_removed (same_key key) table.kept (key, h) (entry_under table.kept key ∙ ap (option_map (λ h. (key, h))) is) in
      let few = sound.few in
      record {
        once = IsDistinct-cons same_key key (keys_of (others_of table.kept key))
            (apart_from_passes same_key key (others_of table.kept key) (others_apart table.kept key sound.once))
            (distinct_removed same_key (same_key key) table.kept sound.once);
        few = omega arith;
      }

  pub used-sound : IsTable table → IsTable (used table key)
  unfolding used_by
  used-sound sound = use_sound sound (kept_under table.kept key) refl

  use_same : (home : Option KeptHome) → kept_under table.kept key ≡ home → (k : CopyKey) (is : Bool) → same_key k key ≡ is
      → kept_under (used_by home).kept k ≡ kept_under table.kept k
  unfolding used_by
  use_same None found k is eq = refl
  use_same (Some h) found k true eq = let equal = equal_keys k key eq in rw (equal, same_key-refl key) (sym found)
  use_same (Some h) found k false eq = rw eq (lookup_others (same_key key) (same_key k) (apart key k eq) table.kept)

  pub used-same : (k : CopyKey) → kept_under (used table key).kept k ≡ kept_under table.kept k
  unfolding used_by
  used-same k = use_same (kept_under table.kept key) refl k (same_key k key) refl

  module _ (home : KeptHome) where
    pub with_copy-sound : IsTable table → 1 ≤ table.most → IsTable (with_copy table key home)
    with_copy-sound sound some =
        let rest = others_of table.kept key in
        let few : length (take (table.most - 1) rest) ≤ table.most - 1 = omega (arith, length-take (table.most - 1) rest) in
        record {
          once = IsDistinct-cons same_key key (keys_of (take (table.most - 1) rest))
              (apart_take same_key key (table.most - 1) rest (apart_from_passes same_key key rest (others_apart table.kept key sound.once)))
              (distinct_take same_key (table.most - 1) rest (distinct_removed same_key (same_key key) table.kept sound.once));
          few = omega arith;
        }

    pub with_copy-own : kept_under (with_copy table key home).kept key ≡ Some home
    with_copy-own = rw (same_key-refl key)

    put_others : (k : CopyKey) (copy : KeptHome) (is : Bool) → same_key k key ≡ is
        → kept_under (with_copy table key home).kept k ≡ Some copy
        → (kept_under table.kept k ≡ Some copy) ⊎ ((k ≡ key) × (copy ≡ home))
    put_others k copy true eq found =
        let own = rw eq at found in let same : copy ≡ home = cc in inr (equal_keys k key eq, same)
    put_others k copy false eq found = inl (sym (lookup_others (same_key key) (same_key k) (apart key k eq) table.kept)
        ∙ lookup_take (same_key k) (table.most - 1) (others_of table.kept key) copy (rw eq at found))

    pub with_copy-others : (k : CopyKey) (copy : KeptHome) → kept_under (with_copy table key home).kept k ≡ Some copy
        → (kept_under table.kept k ≡ Some copy) ⊎ ((k ≡ key) × (copy ≡ home))
    with_copy-others k copy = put_others k copy (same_key k key) refl

    pub with_copy-room : length table.kept < table.most → (k : CopyKey) → k ≢ key
        → kept_under (with_copy table key home).kept k ≡ kept_under table.kept k
    with_copy-room less k differ =
        let rest = others_of table.kept key in
        let fewer = others_length table.kept key in
        let all : take (table.most - 1) rest ≡ rest = take_all (table.most - 1) rest (omega arith) in
        let eq = other_keys k key differ in
        rw (eq, all) (lookup_others (same_key key) (same_key k) (apart key k eq) table.kept)
