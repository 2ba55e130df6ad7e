-- What calls of a store leave of its looks.
use Rattle.std.proofs.Common.{◌≡◌, ℕ, true, List, [], refl, ap, ◌∙◌}
use Rattle.rb_base.specs.Logs.{Logs}
use Rattle.rb_base.specs.declared.ids.Xid.{Xid}
use Rattle.rb_base.specs.declared.shape.Shape.{Shape}
use Rattle.rb_base.specs.declared.store.Store.{Ghosts}
use Rattle.rb_cleanout.specs.Cleaned.{look_of}
use Rattle.rb_txntable.specs.declared.looks.Look.{Look}

module _ {S : Type 0} (s : Ghosts S) where
  -- how the store says that transactions stand
  abbrev pub looks : S → Xid → Look
  looks store = look_of (s.shape_of store) (s.blocks store)

  -- where no group was applied, they stand as before
  pub same_looks : (old new : S) → Logs s old new [] true → s.tells → looks new ≡ looks old
  same_looks old new logs told =
      ap (λ (shape : Shape). look_of shape (s.blocks new)) logs.same_shape ∙ ap (λ (blocks : List (List ℕ)). look_of (s.shape_of old) blocks) (logs.blocks told refl)
