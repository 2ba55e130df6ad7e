-- A home that is kept at a number stands for what it stood for.
use Rattle.std.proofs.Common.{◌≡◌, ◌<◌, ◌+◌, ◌++◌, ◌∷◌, ℕ, List, [], length, map, refl, sym, subst, arith}
use Rattle.law_aging.specs.Kept.{IsKept, SegmentsAge}
use Rattle.rb_base.specs.Blocks.{table_blocks}
use Rattle.rb_base.specs.declared.ids.Xid.{Xid}
use Rattle.rb_base.specs.declared.shape.Shape.{Shape}
use Rattle.rb_model.specs.NextState.{committed}
use Rattle.rb_model.specs.Rows.{Commits}
use Rattle.rb_model.specs.State.{State, session_own}
use Rattle.law_read.specs.Copies.{Copied}
use Rattle.rb_segment.specs.Header.{Segment}
use Rattle.law_blocks.specs.Says.{says}
use Rattle.law_blocks.specs.Seen.{Goes}
use Rattle.law_blocks.specs.States.{BlocksStandAs, commits_from, newest_first, past_of}
use Rattle.law_blocks.specs.Values.{made_by, rows_here}
use Rattle.law_home.specs.Homes.{narrow}
use Rattle.law_home.specs.Walk.{Ages, Change, Commit, Home, OldCommits, Rows, last, own}
use Rattle.law_read.proofs.Copying.{copy_ages, copy_outlives}
use Rattle.rb_segment.proofs.Moments.{ages_fewer}
use Rattle.law_blocks.proofs.Machine.{commits_more}
use Rattle.law_blocks.proofs.MachineDone.{last_commits}
use Rattle.law_blocks.proofs.Seen.{live_ages}

-- what all segments say ages with them
pub ages_of : (shape : Shape) (segments after : ℕ → Segment) → SegmentsAge segments after → Ages (made_by segments) (says shape segments) (says shape after)
ages_of shape segments after ages =
    (live_ages shape segments after [] (λ g. ages_fewer (λ i. ⊥) (Goes [] g) (segments g) (after g) (λ i goes. nobody goes.0 goes.3.0 goes.3.1 goes.3.2) (ages g))).ages
  where
    nobody : (t : ℕ) (ch : Change) (more : List Change) → own [] t ≡ ch ∷ more → ⊥
    nobody t ch more is = let none : own [] t ≡ [] = refl in absurd (cc (none, is))

-- a home kept by one shape and commits is kept by equal ones
abbrev KeptBy : Shape → List Xid → Commits → (ℕ → Segment) → ℕ → ℕ → Home → Type 0
KeptBy shape xids commits segments b n home = Copied (says shape segments) commits.base (rows_here shape b commits.rows) (map (narrow b) (commits_from shape (commits.base + 1) commits.list xids [])) n home

moved : (shape shape2 : Shape) (xids : List Xid) (commits commits2 : Commits) (segments : ℕ → Segment) (b n : ℕ) (home : Home) → shape2 ≡ shape → commits2 ≡ commits → KeptBy shape xids commits segments b n home → KeptBy shape2 xids commits2 segments b n home
moved shape shape2 xids commits commits2 segments b n home s c kept = subst (λ (z : Shape). KeptBy z xids commits2 segments b n home) (sym s) (subst (λ (z : Commits). KeptBy shape xids z segments b n home) (sym c) kept)

last_narrow : (base b : ℕ) (list : List Commit) → last base (map (narrow b) list) ≡ last base list
last_narrow base b [] = refl
last_narrow base b (t ∷ older) = refl

module _ (h h2 : State) (xids : List Xid) (commit logged : ℕ) (segments after : ℕ → Segment) (homes : ℕ → Home) (stand : BlocksStandAs h xids commit logged segments homes) (shape : h2.shape ≡ h.shape) (ages : SegmentsAge segments after)
    (b n : ℕ) (home : Home) (kept : IsKept h xids segments b n home) where
  abbrev Base : ℕ
  Base = h.commits.base

  abbrev Here : Rows
  Here = rows_here h.shape b h.commits.rows

  abbrev List1 : List Commit
  List1 = map (narrow b) (past_of h xids).list

  -- the changes of its commits are old
  old : OldCommits (made_by segments) List1
  old = (stand.stands.homes_stand b kept.there).old

  aged : Copied (says h.shape after) Base Here List1 n home
  aged = copy_ages (says h.shape segments) Base Here List1 (made_by segments) (says h.shape after) n home (ages_of h.shape segments after ages) old kept.copied

  there : b < table_blocks h2.shape
  there = subst (λ (z : Shape). b < table_blocks z) (sym shape) kept.there

  pub ages_keep : h2.commits ≡ h.commits → IsKept h2 xids after b n home
  ages_keep commits = record { there = there; copied = moved h.shape h2.shape xids h.commits h2.commits after b n home shape commits aged }

  module _ (s : ℕ) (x : Xid) where
    abbrev New : Commit
    New = record { xid = x; number = Base + 1 + length h.commits.list; changes = newest_first h.shape x 1 (session_own h s) [] }

    list_is : commits_from h.shape (Base + 1) (committed h s x.seg x.slot).commits.list (xids ++ x ∷ []) [] ≡ New ∷ (past_of h xids).list
    list_is = commits_more h.shape (Base + 1) h.commits.list xids (session_own h s) x [] stand.tell.counted

    pub commit_keeps : h2.commits ≡ (committed h s x.seg x.slot).commits → IsKept h2 (xids ++ x ∷ []) after b n home
    commit_keeps commits =
        let l1 : last Base List1 ≡ last Base (past_of h xids).list = last_narrow Base b (past_of h xids).list in
        let l2 : last Base (past_of h xids).list ≡ Base + length h.commits.list = last_commits h.shape Base h.commits.list xids [] stand.tell.counted refl in
        let later : last Base List1 < (narrow b New).number = omega (arith, l1, l2) in
        let longer : Copied (says h.shape after) Base Here (narrow b New ∷ List1) n home = copy_outlives (says h.shape after) Base Here List1 (narrow b New) n home later aged in
        record {
          there = there;
          copied = moved h.shape h2.shape (xids ++ x ∷ []) (committed h s x.seg x.slot).commits h2.commits after b n home shape commits
              (subst (λ (z : List Commit). Copied (says h.shape after) Base Here (map (narrow b) z) n home) (sym list_is) longer);
        }
