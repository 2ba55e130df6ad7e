-- What a call that ends a slot says, in blocks that may be rolled back and in any others.
use Rattle.std.proofs.Common.{◌≡◌, ◌<◌, ◌+◌, ◌*◌, ℕ, Bool, Some, List, [], ◌∷◌, sym, ◌∙◌, ap, subst, arith}
use Rattle.rb_base.specs.declared.sizes.TheConstants.{SLOTS}
use Rattle.rb_base.specs.Blocks.{after_group, block_of, header_block, written_to, AreBlocks, IsShape}
use Rattle.rb_base.specs.Groups.{Patch}
use Rattle.rb_base.specs.Logs.{Logs}
use Rattle.rb_base.specs.declared.ids.Xid.{Xid}
use Rattle.rb_base.specs.declared.shape.Shape.{Shape}
use Rattle.rb_base.specs.declared.store.Store.{Ghosts}
use Rattle.rb_model.specs.Rows.{TableRow}
use Rattle.rb_restart.specs.Steps.{HasLive, IsIdle, MayRoll, PutsBack, Rolls}
use Rattle.rb_restart.proofs.Ends.{end_group, end_puts, header_ended}
use Rattle.rb_segment.specs.Calls.{slot_patches}
use Rattle.rb_segment.specs.Header.{header_of}
use Rattle.rb_segment.specs.Moves.{ended}
use Rattle.rb_undo.specs.Backs.{header_for}

module _ {S : Type 0} (s : Ghosts S) (shape : Shape) (x : Xid) (old new : S) where
  abbrev pub Ends : List (List ℕ) → Type 0
  Ends now = HasLive shape (s.blocks old) x 0 → IsIdle shape now (SLOTS * x.seg + x.slot)

  -- the group was logged
  module _ (group : List Patch) (header : List ℕ) (group_is : group ≡ slot_patches (header_block shape x.seg) x.slot (header_of header))
      (copied : s.tells → header ≡ written_to (header_block shape x.seg) (slot_patches (header_block shape x.seg) x.slot (header_of header)) (block_of (s.blocks old) (header_block shape x.seg)))
      (moved : s.tells → header_of header ≡ ended x.slot (header_for shape (s.blocks old) x)) (shaped : IsShape shape) (there : x.seg < shape.segments) (few : x.slot < SLOTS)
      (whole : s.tells → AreBlocks shape (s.blocks old)) (has : s.tells → HasLive shape (s.blocks old) x 0) where
    ended_group : s.tells → group ≡ end_group shape (s.blocks old) x
    ended_group told = group_is ∙ ap (slot_patches (header_block shape x.seg) x.slot) (moved told)

    -- it ends the slot
    ends_slot : (number : ℕ) (rows : List TableRow) → s.tells → MayRoll shape number rows (s.lsn old) (s.blocks old) → PutsBack shape number rows (group ∷ []) (s.blocks old) (after_group (s.lsn old + 1) group (s.blocks old)) × Ends (after_group (s.lsn old + 1) group (s.blocks old))
    ends_slot number rows told may =
        let group_end = end_group shape (s.blocks old) x in
        let header_now = header_ended shape (s.blocks old) (s.lsn old + 1) x header (whole told) there few (copied told) (moved told) in
        let puts = end_puts shape number rows (s.blocks old) (after_group (s.lsn old + 1) group_end (s.blocks old)) x may.sound shaped there few (has told) (ap (λ (n : ℕ). after_group (n + 1) group_end (s.blocks old)) may.logged) header_now in
        subst (λ (l : List Patch). PutsBack shape number rows (l ∷ []) (s.blocks old) (after_group (s.lsn old + 1) l (s.blocks old)) × Ends (after_group (s.lsn old + 1) l (s.blocks old))) (sym (ended_group told)) (puts.0, λ live. puts.1)

    pub end_rolls : (going : Bool) → Logs s old new (group ∷ []) going → Rolls s shape old new 1 going Ends
    end_rolls going logs = record {
      groups = group ∷ [];
      logs = logs;
      few = omega arith;
      puts_back = λ number rows told may. (ends_slot number rows told may).0;
      done = λ number rows told goes may. subst Ends (sym (logs.blocks told goes)) (ends_slot number rows told may).1;
    }

-- a block that was loaded is as the store tells it
pub block_read : {S : Type 0} (s : Ghosts S) (old mid : S) (from which : ℕ) (block : List ℕ) → s.tells → s.blocks mid ≡ s.blocks old → (s.tells → (n : ℕ) → s.loaded mid ≡ Some n → block ≡ block_of (s.blocks mid) n) → s.loaded mid ≡ Some from → from ≡ which → block ≡ block_of (s.blocks old) which
block_read s old mid from which block told same read loaded at = read told from loaded ∙ (ap (λ (l : List (List ℕ)). block_of l from) same ∙ ap (block_of (s.blocks old)) at)
