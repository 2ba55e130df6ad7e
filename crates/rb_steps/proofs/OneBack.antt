-- What one call that puts back a change says, in blocks that stand for the machine's state and in any others.
use Rattle.std.proofs.Common.{◌≡◌, ◌<◌, ◌+◌, ◌++◌, inl, inr, ℕ, Bool, List, [], ◌∷◌, length, ◌∙◌, ap, arith}
use Rattle.rb_base.specs.declared.sizes.TheConstants.{SLOTS}
use Rattle.rb_write.specs.Asks.{header_in}
use Rattle.rb_base.specs.Blocks.{after_group, after_groups}
use Rattle.rb_base.specs.Groups.{Patch}
use Rattle.rb_base.specs.declared.ids.Xid.{Xid}
use Rattle.rb_base.specs.declared.store.Store.{Ghosts}
use Rattle.rb_model.specs.Calls.{Owned}
use Rattle.rb_model.specs.Change.{Change}
use Rattle.rb_model.specs.State.{State, session_own}
use Rattle.rb_restart.proofs.Backs.{back_group}
use Rattle.rb_restart.proofs.Stepped.{Says}
use Rattle.rb_segment.specs.Calls.{Runs}
use Rattle.law_blocks.specs.Standing.{logged_of}
use Rattle.law_blocks.specs.States.{BlocksStand}
use Rattle.law_crash.specs.Made.{BackMade, GivesOne}
use Rattle.rb_steps.proofs.StepBack.{BackIs, back_is}

-- in blocks that stand, in which the session has a last change
module _ {S : Type 0} (s : Ghosts S) (x : Xid) (old new : S) (told : s.tells) (h : State) (xids : List Xid) (who : ℕ) (front : List Change) (c : Change) (stand : BlocksStand h xids (s.blocks old)) (there : x.seg < h.shape.segments) (few : x.slot < SLOTS) (owned : Owned h who x.seg x.slot) (runs : Runs (header_in h.shape (s.blocks old) x.seg) x) (own_is : session_own h who ≡ front ++ c ∷ []) (logged : s.lsn old ≡ logged_of h.shape (s.blocks old)) where
  is : BackIs h xids (s.blocks old) who front x
  is = back_is h xids (s.blocks old) stand who x there few owned runs front c own_is

  -- a group that is given puts it back
  pub one_back : (going : Bool) (said : Says s h.shape x old new going) → GivesOne s old new going (λ now. BackMade h xids who front (s.blocks old) now)
  one_back going said = record {
    groups = said.groups;
    logs = said.logs;
    few = said.few;
    one = λ goes. let up = said.rose told goes is.can in let count = said.logs.number goes in omega (arith, up, count);
    made = λ some. elim (said.kinds told) [
      | inl none ↦ let count = ap length none in absurd (omega (arith, some, count))
      | inr back ↦
          let group = back_group h.shape (s.blocks old) x in
          let now = after_groups (s.lsn old + 1) said.groups (s.blocks old) in
          let made : now ≡ after_group (logged_of h.shape (s.blocks old) + 1) group (s.blocks old) = ap (λ (l : List (List Patch)). after_groups (s.lsn old + 1) l (s.blocks old)) back.one ∙ ap (λ (n : ℕ). after_group (n + 1) group (s.blocks old)) logged in
          is.after now back.valid made back.takes
    ];
  }
