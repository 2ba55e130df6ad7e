-- What is promised of a home that was kept at a number and is taken further back.
use Rattle.std.specs.Prelude.{◌≡◌, ◌<◌, ◌≤◌, ◌+◌, ◌-◌, ◌^◌, ℕ, Bool, true, false}
use Rattle.std.specs.Prelude.{Option, Result, IfOk, IfErr}
use Rattle.rb_base.specs.declared.ids.Xid.{Xid}
use Rattle.rb_cr.specs.Calls.{Said}
use Rattle.rb_cr.specs.Faults.{Because}
use Rattle.rb_cr.specs.Scratches.{scratch_home}
use Rattle.rb_cr.specs.declared.faults.CrFault.{CrFault}
use Rattle.rb_cr.specs.declared.scratch.Scratch.{Scratch}
use Rattle.rb_cr.specs.declared.scratch.Snapshot.{Snapshot}
use Rattle.law_read.specs.Copies.{Copied, Unseen}
use Rattle.law_read.specs.Keeping.{Kept, overlay}
use Rattle.law_read.specs.Reading.{History, Honest, Worn, answer, count_above, rows_in}
use Rattle.law_home.specs.Walk.{Home, Env, last}

-- A decoded home that was kept at m, and the history of its block. None of the reader's first changes stands above n.
pub record IsCopy (said : Said) (h : History) (snap : Snapshot) (m : ℕ) (s : Scratch) : Type 0 where
  pub honest : Honest said.env
  pub low : h.base ≤ snap.scn
  pub below : snap.scn ≤ m
  pub lower : last h.base h.list < 2 ^ 64 - 1
  pub copied : Copied said.env h.base h.rows h.list m (scratch_home said.shape s)
  pub unseen : Unseen h snap.own snap.upto snap.scn

-- The walk went on from a home that was kept at m, with so many records fewer; or an entry of it is over n, and nothing
-- was done. Where it can't go on, the block can't be read either.
pub record WentOn (env : Env) (h : History) (mine : Option Xid) (upto n m : ℕ) (count : ℕ)
    (result : Result Bool CrFault) (b : Home) (kept : Kept) (count2 : ℕ) : Type 0 where
  pub most : count2 + count_above m h.list ≤ count + count_above n h.list
  pub rows : IfOk result (λ whole. whole ≡ true
      → (k : ℕ) → overlay kept (rows_in b.cells) k ≡ answer h mine upto n k)
  pub counted : IfOk result (λ whole. whole ≡ true
      → count2 + count_above m h.list ≡ count + count_above n h.list)
  pub left : IfOk result (λ whole. whole ≡ true → Copied env h.base h.rows h.list n b)
  pub over : IfOk result (λ whole. whole ≡ false → count2 ≡ count)
  pub old : IfErr result (λ e. (block : Home) → Because env n (Worn env h n block) e)

abbrev pub GoesFrom : Said → Snapshot → Scratch → ℕ → Result Bool CrFault → Scratch → ℕ → Type 0
GoesFrom said snap old count result new count2 = (h : History) (m : ℕ) → IsCopy said h snap m old
    → WentOn said.env h snap.own snap.upto snap.scn m count result (scratch_home said.shape new) new.kept count2
