-- A home in which nothing is to be taken back shows the rows at the snapshot as it is.
use Rattle.std.proofs.Common.{◌≡◌, ◌≤◌, ◌+◌, ℕ, zero, suc, List, [], length, Option, sym, ◌∙◌, ap, subst, arith}
use Rattle.rb_base.specs.declared.ids.Xid.{Xid}
use Rattle.law_read.specs.Heights.{AtMost, BeyondIn, LookAtMost, StatusAtMost}
use Rattle.law_read.specs.Keeping.{Kept, behind_mine, first_count, overlay}
use Rattle.law_read.specs.Reading.{History, Reading, answer, count_above, flat, needed, rows_at, rows_in, total}
use Rattle.law_read.specs.Turns.{Running, WornLive}
use Rattle.law_read.proofs.Peeling.{settled}
use Rattle.law_read.proofs.Showing.{match_rows}
use Rattle.law_read.proofs.Undoing.{passes_by, starts_running, taken_back}
use Rattle.law_home.specs.Kinds.{Entry, Open}
use Rattle.law_home.specs.Walk.{Change, Env, Home, IsActive, Match, Rows, Walk, entry_at, own}

-- what isn't above n isn't active
not_active : (env : Env) (n c : ℕ) (e : Entry) → AtMost env n c e → IsActive env e → ⊥
not_active env n c e most active =
    let still : StatusAtMost env n c e.xid Open = subst (StatusAtMost env n c e.xid) active.0 most in
    subst (LookAtMost n c) active.1 still

module _ (env : Env) (h : History) (mine : Option Xid) (upto n : ℕ) (b : Home) (reading : Reading env h mine upto n b) (most : (j : ℕ) → AtMost env n n (entry_at b j)) where
  passed : (k : ℕ) → Running env h.base h.rows h.list h.lives h.reader mine upto n k 0 (λ kept. kept) b b
  passed zero = starts_running env h.base h.rows h.list h.lives h.reader mine upto n b reading.m reading.runs
  passed (suc k) = subst (λ (i : ℕ). Running env h.base h.rows h.list h.lives h.reader mine upto n i 0 (λ kept. kept) b b) (omega arith)
      (passes_by env h.base h.rows h.list h.lives h.reader mine upto n b k 0 (λ kept. kept) b (passed k) (not_active env n n (entry_at b k) (most k)))

  behind : Walk env h.base h.rows h.list b × (0 ≡ total h.lives) × ((kept : Kept) (over : Rows) (j : ℕ) → overlay kept over j ≡ overlay kept (behind_mine mine upto (own h.lives h.reader) over) j)
      × ((kept : Kept) → length kept ≤ length kept + first_count mine upto (own h.lives h.reader)) × ((j seg : ℕ) → BeyondIn env n seg (entry_at b j) → WornLive env n seg h.lives b)
  behind = taken_back env h.base h.rows h.list h.lives reading.runs.distinct h.reader mine upto n b (length b.entries) 0 (λ kept. kept) b (passed (length b.entries)) (omega arith)

  -- no commit above n changed anything here
  pub quiet_commits : Match b (rows_at n h.rows h.list) × (count_above n h.list ≡ 0) × (flat n h.list ≡ [])
  quiet_commits = settled env h.base h.rows n h.list b behind.0 most

  pub quiet_reads : ((k : ℕ) → rows_in b.cells k ≡ answer h mine upto n k) × (needed h n ≡ 0)
  quiet_reads =
      let under : Rows = behind_mine mine upto (flat n h.list) (rows_at n h.rows h.list) in
      let none : under ≡ rows_at n h.rows h.list = ap (λ (l : List Change). behind_mine mine upto l (rows_at n h.rows h.list)) quiet_commits.2 in (
        λ k. match_rows b (rows_at n h.rows h.list) quiet_commits.0 k ∙ (ap (λ (r : Rows). r k) (sym none) ∙ behind.2 [] under k),
        omega (arith, behind.1, quiet_commits.1),
      )
