-- What an opening has scanned, one group after another, up to the end of the log.
use Rattle.std.proofs.Common.{◌≡◌, ℕ, ◌+◌, ◌<◌, false, true, List, [], length, ◌∷◌, ◌++◌, arith, take, set, ap, sym, ◌∙◌}
use Rattle.std.proofs.lemmas.List.{length-append, take_at}
use Rattle.std.proofs.Math.Seq.{set-append_seam}
use Rattle.rb_base.specs.Groups.{Patch}
use Rattle.rb_base.proofs.Each.{all_push}
use Rattle.rb_layout.specs.declared.layout.Head.{Head}
use Rattle.rb_layout.specs.declared.layout.Layout.{Layout}
use Rattle.rb_log.specs.GroupLaws.{begins_more_group, begins_end_group}
use Rattle.rb_log.specs.GroupSlots.{LogState, AreFrom, GroupsAre, HoldsGroup, IsLoggable}
use Rattle.rb_log.specs.Slots.{log_unit, slot_of}
use Rattle.rb_store.specs.Scanned.{HasScanned, HasScannedAll}

-- one group more
pub scan_more : (told : Type 0) (l : Layout) (head : Head) (file : List ℕ) (old new : LogState) (groups : List (List Patch)) (group : List Patch) (room : ℕ)
    → HasScanned told l head file old groups room → new ≡ record old { used = old.used + 1; ahead = new.ahead } → (told → AreFrom file (slot_of new.layout new.head new.used) new.ahead)
    → old.used + 1 < l.log → IsLoggable l group → (told → HoldsGroup l (log_unit l head file old.used) (head.number + old.used) group) → HasScanned told l head file new (groups ++ group ∷ []) room
scan_more told l head file old new groups group room h log ahead lt valid holds =
    let used = ap (λ (x : LogState). x.used) h.log_is in
    let long = length-append groups (group ∷ []) in
    record {
      log_is = log ∙ ap (λ (x : LogState). record x { used = x.used + 1; ahead = new.ahead }) h.log_is
          ∙ ap (λ (n : ℕ). record { layout = l; head = head; used = n; pending = []; scanned = false; ahead = new.ahead }) (omega (arith, long));
      few = omega (arith, long, used, lt);
      enough = h.enough;
      valid = all_push (IsLoggable l) groups group h.valid valid;
      begins = λ t. begins_more_group l head file 0 old.used groups group (omega (arith, used)) (h.begins t) lt (holds t);
      ahead = ahead;
    }

-- the end of the log
pub scan_end : (told : Type 0) (l : Layout) (head : Head) (file : List ℕ) (old new : LogState) (groups : List (List Patch)) (room : ℕ) → HasScanned told l head file old groups room
    → new ≡ record old { scanned = true; ahead = [] } → (told → GroupsAre l head file old.used []) → HasScannedAll told l head file new groups
scan_end told l head file old new groups room h log ended = record {
  log_is = log ∙ ap (λ (x : LogState). record x { scanned = true; ahead = [] }) h.log_is;
  few = h.few;
  valid = h.valid;
  ends = λ t. begins_end_group l head file 0 old.used groups (omega (arith, ap (λ (x : LogState). x.used) h.log_is)) (h.begins t) (ended t);
}

-- a group that is read where one was put at the end, and that taken away again
pub put_last : (old pushed : List (List Patch)) (place : ℕ) (empty group : List Patch) → pushed ≡ old ++ empty ∷ [] → place ≡ length old → set pushed place group ≡ old ++ group ∷ []
put_last old pushed place empty group is at = ap (λ (gs : List (List Patch)). set gs place group) is ∙ ap (λ (n : ℕ). set (old ++ empty ∷ []) n group) at ∙ set-append_seam old empty [] group

pub dropped_last : (old pushed : List (List Patch)) (place : ℕ) (empty group : List Patch) → pushed ≡ old ++ empty ∷ [] → place ≡ length old → take place (set pushed place group) ≡ old
dropped_last old pushed place empty group is at = ap (take place) (put_last old pushed place empty group is at) ∙ take_at old (group ∷ []) place (sym at)
