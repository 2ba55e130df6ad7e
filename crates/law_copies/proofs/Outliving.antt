-- Homes that are kept stand for what the state had, over the calls of the engine and the builds of its readers.
use Rattle.std.proofs.Common.{◌≡◌, inl, inr, ◌<◌, ◌≤◌, ◌+◌, ◌++◌, ◌∷◌, [], ℕ, List, map, Some, None, sym, subst}
use Rattle.law_aging.specs.Kept.{IsKept, SegmentsAge}
use Rattle.rb_base.specs.Blocks.{table_blocks}
use Rattle.rb_base.specs.declared.ids.Xid.{Xid}
use Rattle.rb_base.specs.declared.shape.Shape.{Shape}
use Rattle.rb_copies.specs.Copies.{KeptHomes, copy_key}
use Rattle.rb_copies.specs.declared.homes.CopyKey.{CopyKey}
use Rattle.rb_copies.specs.declared.homes.KeptHome.{KeptHome}
use Rattle.rb_cr.specs.Copies as build
use Rattle.rb_cr.specs.Copies.{IsMade, IsReadWith, Keeps, home_kept}
use Rattle.rb_cr.specs.declared.scratch.Snapshot.{Snapshot}
use Rattle.law_crash.specs.Made.{CommitMade}
use Rattle.rb_model.specs.Calls.{Owned}
use Rattle.rb_model.specs.NextState.{committed}
use Rattle.rb_model.specs.Rows.{Commits}
use Rattle.rb_model.specs.State.{State}
use Rattle.law_copies.specs.Copies.{CopiesStand, CopyStands, TellsOf}
use Rattle.law_read.specs.Copies.{Copied}
use Rattle.law_read.specs.Reading.{History}
use Rattle.rb_segment.specs.Header.{Segment}
use Rattle.rb_segment.specs.Segments.{commit_scn}
use Rattle.law_blocks.specs.Says.{says}
use Rattle.law_blocks.specs.Standing.{env_of, homes_of, logged_of, segments_of}
use Rattle.law_blocks.specs.States.{BlocksStand, commits_from, past_of}
use Rattle.law_blocks.specs.Values.{rows_here}
use Rattle.law_home.specs.Homes.{narrow}
use Rattle.law_home.specs.Walk.{Commit, Home, Rows, last}
use Rattle.law_aging.proofs.Keeping.{ages_keep, commit_keeps}
use Rattle.law_copies.proofs.Ages.{commit_ages}
use Rattle.law_blocks.proofs.BlocksAs.{blocks_as}

pub none_stand : (h : State) (xids : List Xid) (blocks : List (List ℕ)) → CopiesStand h xids blocks []
none_stand h xids blocks key copy there = let clash : None ≡ Some copy = there in absurd cc

-- a home kept by a shape, commits and segments
abbrev KeptBy : List Xid → (b n : ℕ) → Home → Shape → Commits → (ℕ → Segment) → Type 0
KeptBy xids b n home shape commits segments = Copied (says shape segments) commits.base (rows_here shape b commits.rows) (map (narrow b) (commits_from shape (commits.base + 1) commits.list xids [])) n home

module _ (h h2 : State) (shape : h2.shape ≡ h.shape) where
  -- a home of a state is kept by one of equal shape
  shaped : (xids : List Xid) (blocks : List (List ℕ)) (b n : ℕ) (copy : KeptHome) → IsKept h2 xids (segments_of h.shape blocks) b n (home_kept h.shape b copy) → CopyStands h2 xids blocks b n copy
  shaped xids blocks b n copy kept = subst (λ (z : Shape). IsKept h2 xids (segments_of z blocks) b n (home_kept z b copy)) (sym shape) kept

  pub same_keeps : (xids : List Xid) (blocks blocks2 : List (List ℕ)) (kept : KeptHomes) → h2.commits ≡ h.commits → segments_of h.shape blocks2 ≡ segments_of h.shape blocks → CopiesStand h xids blocks kept → CopiesStand h2 xids blocks2 kept
  same_keeps xids blocks blocks2 kept commits segments stand key copy there =
      let home = home_kept h.shape key.block copy in
      let was : CopyStands h xids blocks key.block key.scn copy = stand key copy there in
      let By : Shape → Commits → (ℕ → Segment) → Type 0 = KeptBy xids key.block key.scn home in
      let a : By h.shape h.commits (segments_of h.shape blocks2) = subst (λ (z : ℕ → Segment). By h.shape h.commits z) (sym segments) was.copied in
      let b : By h.shape h2.commits (segments_of h.shape blocks2) = subst (λ (z : Commits). By h.shape z (segments_of h.shape blocks2)) (sym commits) a in
      let c : By h2.shape h2.commits (segments_of h.shape blocks2) = subst (λ (z : Shape). By z h2.commits (segments_of h.shape blocks2)) (sym shape) b in
      shaped xids blocks2 key.block key.scn copy (record { there = subst (λ (z : Shape). key.block < table_blocks z) (sym shape) was.there; copied = c })

  module _ (xids : List Xid) (before now : List (List ℕ)) (kept : KeptHomes) (stand : BlocksStand h xids before) where
    pub older_keeps : SegmentsAge (segments_of h.shape before) (segments_of h.shape now) → h2.commits ≡ h.commits → CopiesStand h xids before kept → CopiesStand h2 xids now kept
    older_keeps ages commits copies key copy there =
        shaped xids now key.block key.scn copy
        (ages_keep h h2 xids (commit_scn h.shape before) (logged_of h.shape before) (segments_of h.shape before) (segments_of h.shape now) (homes_of h.shape before) (blocks_as h xids before stand) shape ages key.block key.scn (home_kept h.shape key.block copy) (copies key copy there) commits)

    pub commit_keeps_all : (s : ℕ) (x : Xid) → Owned h s x.seg x.slot → CommitMade h xids s x before now → h2.commits ≡ (committed h s x.seg x.slot).commits → CopiesStand h xids before kept → CopiesStand h2 (xids ++ x ∷ []) now kept
    commit_keeps_all s x owned made commits copies key copy there =
        shaped (xids ++ x ∷ []) now key.block key.scn copy
        (commit_keeps h h2 xids (commit_scn h.shape before) (logged_of h.shape before) (segments_of h.shape before) (segments_of h.shape now) (homes_of h.shape before) (blocks_as h xids before stand) shape (commit_ages h xids before now stand s x owned made) key.block key.scn (home_kept h.shape key.block copy) (copies key copy there) s x commits)

module _ (h : State) (xids : List Xid) (blocks : List (List ℕ)) (b : ℕ) (hist : History) (tells : TellsOf h xids b hist) where
  -- what a history has of a home, and what the state has of it
  abbrev By : ℕ → Home → ℕ → Rows → List Commit → Type 0
  By n home base rows list = Copied (env_of h.shape blocks) base rows list n home

  told : (n : ℕ) (home : Home) → By n home h.commits.base (rows_here h.shape b h.commits.rows) (map (narrow b) (past_of h xids).list) → By n home hist.base hist.rows hist.list
  told n home copied =
      let was : By n home hist.base (rows_here h.shape b h.commits.rows) (map (narrow b) (past_of h xids).list) = subst (λ (z : ℕ). By n home z (rows_here h.shape b h.commits.rows) (map (narrow b) (past_of h xids).list)) (sym tells.base) copied in
      let with_rows : By n home hist.base hist.rows (map (narrow b) (past_of h xids).list) = subst (λ (z : Rows). By n home hist.base z (map (narrow b) (past_of h xids).list)) (sym tells.rows) was in
      subst (λ (z : List Commit). By n home hist.base hist.rows z) (sym tells.list) with_rows

  untold : (n : ℕ) (home : Home) → By n home hist.base hist.rows hist.list → By n home h.commits.base (rows_here h.shape b h.commits.rows) (map (narrow b) (past_of h xids).list)
  untold n home copied =
      let was : By n home h.commits.base hist.rows hist.list = subst (λ (z : ℕ). By n home z hist.rows hist.list) tells.base copied in
      let with_rows : By n home h.commits.base (rows_here h.shape b h.commits.rows) hist.list = subst (λ (z : Rows). By n home h.commits.base z hist.list) tells.rows was in
      subst (λ (z : List Commit). By n home h.commits.base (rows_here h.shape b h.commits.rows) z) tells.list with_rows

  pub stands_for : (kept : KeptHomes) → CopiesStand h xids blocks kept → build.CopiesStand (env_of h.shape blocks) h.shape hist kept b
  stands_for kept copies n copy there = told n (home_kept h.shape b copy) (copies (copy_key b n) copy there).copied

  pub build_keeps : (kept kept2 : KeptHomes) (snap : Snapshot) → b < table_blocks h.shape → IsReadWith h.shape blocks kept b hist snap → snap.scn ≤ last hist.base hist.list → Keeps h.shape blocks b snap kept kept2 → CopiesStand h xids blocks kept → CopiesStand h xids blocks kept2
  build_keeps kept kept2 snap b_in read low keeps copies key copy there = elim (keeps key copy there) [
    | inl old ↦ copies key copy old
    | inr put ↦
        let made : IsMade h.shape blocks kept b snap copy = put.1 in
        let new : CopyStands h xids blocks b snap.scn copy = record { there = b_in; copied = untold snap.scn (home_kept h.shape b copy) (made.stands hist read low) } in
        subst (λ (k : CopyKey). CopyStands h xids blocks k.block k.scn copy) (sym put.0) new
  ]
