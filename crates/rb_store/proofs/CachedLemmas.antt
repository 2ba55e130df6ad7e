-- What the calls of a file's cache, log and twin area leave, where the log alone is called.
use Rattle.std.proofs.Common.{◌≡◌, ◌≢◌, refl, inl, inr, take, ℕ, suc, ◌+◌, ◌-◌, ◌<◌, ◌≤◌, ◌==◌, Bool, true, false, if◌then◌else◌, List, [], ◌∷◌, ◌++◌, length, arith, ap, sym, ◌∙◌}
use Rattle.std.proofs.lemmas.Bool.{cases_lt, eqb-true}
use Rattle.std.proofs.lemmas.List.{length-append, length-map, length-take-le}
use Rattle.rb_base.specs.Groups.{Patch}
use Rattle.rb_disk.specs.DiskModel.{Only}
use Rattle.rb_layout.specs.Regions.{block_offset, file_length, log_offset}
use Rattle.rb_layout.specs.declared.layout.Layout.{Layout}
use Rattle.rb_base.proofs.Each.{all_push}
use Rattle.rb_log.specs.GroupSlots.{IsLoggable}
use Rattle.rb_twin.specs.Twins.{home, twin_gate}
use Rattle.rb_cache.specs.declared.frame.Frame.{Frame}
use Rattle.rb_cache.specs.Frames.{seen, AreClean, brought, has_number, numbers_of, without}
use Rattle.rb_cache.specs.OnDisk.{IsCalm}
use Rattle.rb_store.specs.CachedFiles.{CachedState, FlushesFull, IsCachedMemory}
use Rattle.rb_cache.proofs.Parts.{same_part}

-- what is seen where a block at home is the same
pub seen_same : (l : Layout) (old new : List ℕ) (held : List Frame) (k : ℕ) → home l new k ≡ home l old k → seen l new held k ≡ seen l old held k
seen_same l old new [] k same = same
seen_same l old new (f ∷ held) k same = by (f.block == k) (seen_same l old new held k same)
  where
    by : (b : Bool) → seen l new held k ≡ seen l old held k → (if b then f.bytes else seen l new held k) ≡ (if b then f.bytes else seen l old held k)
    by true rest = refl
    by false rest = rest

pub clean_same : (l : Layout) (old new : List ℕ) (held : List Frame) → ((k : ℕ) → home l new k ≡ home l old k) → AreClean l old held → AreClean l new held
clean_same l old new [] same clean = tt
clean_same l old new (f ∷ held) same clean = (λ is. clean.0 is ∙ sym (same f.block), clean_same l old new held same clean.1)

-- where what is read is the only image, all is calm
pub only_calm : (image : List ℕ → Type 0) (l : Layout) (file : List ℕ) → length file ≡ file_length l → Only file image → twin_gate l file ≢ 1 → IsCalm image l file
only_calm image l file whole only shut = record {
  whole = whole;
  slots = λ c here. same_part (log_offset 0) (log_offset l.log) file c (only c here);
  blocks = λ c here. same_part (block_offset l 0) (file_length l) file c (only c here);
  shut = λ c here is. shut (sym (ap (twin_gate l) (only c here)) ∙ is);
}

-- a group that is taken waits
pub append_memory : (s : CachedState) (g : List Patch) → IsCachedMemory s → IsLoggable s.layout g → s.used + length s.pending + 1 < s.layout.log → IsCachedMemory (record s { pending = s.pending ++ g ∷ [] })
append_memory s g m valid room = record {
  in_log = m.in_log;
  first = m.first;
  below = omega (arith, room, length-append s.pending (g ∷ []));
  each = all_push (IsLoggable s.layout) s.pending g m.each valid;
  units = m.units;
  there = m.there;
}

-- the numbers of others are fewer by one where the number comes
without_one : (which : ℕ) (ns : List ℕ) → has_number which ns ≡ true → length ns ≡ suc (length (without which ns))
without_one which [] has = cc
without_one which (n ∷ ns) has = by (n == which) has (without_one which ns)
  where
    by : (a : Bool) → (if a then true else has_number which ns) ≡ true → (has_number which ns ≡ true → length ns ≡ suc (length (without which ns))) → suc (length ns) ≡ suc (length (if a then ns else n ∷ without which ns))
    by true has rest = refl
    by false has rest = ap suc (rest has)

-- where a block is brought to the front, no fewer are held than before
pub brought_no_fewer : (frames which : ℕ) (ns : List ℕ) → length ns ≤ length (brought frames which ns)
brought_no_fewer frames which ns = by (has_number which ns) refl (length ns == frames) refl
  where
    by : (a : Bool) → has_number which ns ≡ a → (b : Bool) → (length ns == frames) ≡ b → length ns ≤ suc (length (if a then without which ns else if b then take (frames - 1) ns else ns))
    by true has b full = omega (arith, without_one which ns has)
    by false has true full = let is : length ns ≡ frames = eqb-true (length ns) frames full in omega (arith, is, length-take-le (frames - 1) ns (omega (arith, is)))
    by false has false full = omega arith

-- a call that brought a block to the front, and flushed at most where no frame was free
pub fills_by : (s t : CachedState) (which : ℕ) → t.frames ≡ s.frames → (length s.held < s.frames → t.used ≡ s.used) → numbers_of t.held ≡ brought s.frames which (numbers_of s.held) → FlushesFull s t
fills_by s t which same room order =
    let more : length s.held ≤ length t.held = omega (arith, length-map s.held (λ (f : Frame). f.block), ap length order, length-map t.held (λ (f : Frame). f.block), brought_no_fewer s.frames which (numbers_of s.held)) in record {
      cause = λ differ. elim (cases_lt (length s.held) s.frames) [
        | inl free ↦ absurd (differ (room free))
        | inr taken ↦ omega (arith, taken, more, same)
      ];
      full = λ taken. omega (arith, taken, more, same);
    }
