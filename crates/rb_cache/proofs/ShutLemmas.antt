-- The gate behind the groups of a log, after a flush of what waits and after the write of a batch.
use Rattle.std.proofs.Common.{◌≡◌, ◌≢◌, ℕ, ◌+◌, ◌<◌, List, [], ◌∷◌, length, slice_index, arith, ap, sym, ◌∙◌, refl}
use Rattle.rb_base.specs.Groups.{Patch}
use Rattle.rb_disk.specs.Ranges.{SameBut}
use Rattle.rb_layout.specs.Regions.{file_length, twin_offset}
use Rattle.rb_layout.specs.declared.layout.Layout.{Layout}
use Rattle.rb_log.specs.GroupLaws.{same_unit}
use Rattle.rb_log.specs.GroupSlots.{LogState}
use Rattle.rb_log.specs.Slots.{gate_of}
use Rattle.rb_cache.specs.Calls.{IsShutBehind, flushed}
use Rattle.rb_cache.proofs.Parts.{slots_front}

module _ (l : Layout) (s : LogState) (file other : List ℕ) where
  -- A flush closes the gate behind what it writes, and where nothing waits the file is as it was.
  pub flush_shut : (0 < length s.pending → gate_of l s.head other (s.used + length s.pending) ≡ 0) → (s.pending ≡ [] → other ≡ file)
      → IsShutBehind l s file → IsShutBehind l (flushed s) other
  flush_shut closed none was = by s.pending closed none
    where
      by : (p : List (List Patch)) → (0 < length p → gate_of l s.head other (s.used + length p) ≡ 0) → (p ≡ [] → other ≡ file) → gate_of l s.head other (s.used + length p) ≢ 1
      by [] closed none is = was (ap (gate_of l s.head file) (omega arith) ∙ ap (λ (f : List ℕ). gate_of l s.head f (s.used + 0)) (sym (none refl)) ∙ is)
      by (g ∷ p) closed none is = let shut = closed (omega arith) in omega (arith, shut, is)

  -- A batch leaves the slots of the log alone.
  pub batch_shut : s.head.slot < l.log → s.used + length s.pending < l.log → SameBut (twin_offset l 0) (file_length l) file other
      → IsShutBehind l (flushed s) file → IsShutBehind l (flushed s) other
  batch_shut in_log below out was is = was
      (ap (λ (u : List ℕ). slice_index u 0) (sym (same_unit l s.head file other in_log (slots_front l other file out.long out.before) (s.used + length s.pending) (omega (arith, below)))) ∙ is)
