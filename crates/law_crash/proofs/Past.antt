-- The rows after all commits are what the past of blocks that stand for a state leads to: so that past may be forgotten.
use Rattle.std.proofs.Common.{◌≡◌, ◌≢◌, inl, inr, ◌≤◌, ◌+◌, ◌-◌, ◌*◌, ◌/◌, ◌%◌, ◌==◌, ℕ, List, [], ◌∷◌, ◌++◌, map, None, refl, sym, ◌∙◌, ap, subst, arith}
use Rattle.std.proofs.lemmas.Nat.{div-add-mod'}
use Rattle.std.proofs.lemmas.Bool.{cases_eq, cond-false, ne_eqb}
use Rattle.std.specs.List.{flat_map, AllByRecursion}
use Rattle.rb_base.specs.Blocks.{home_block}
use Rattle.rb_base.specs.declared.ids.Xid.{Xid}
use Rattle.rb_base.specs.declared.shape.Shape.{Shape}
use Rattle.rb_model.specs.Change as model
use Rattle.rb_model.specs.Book.{book_at}
use Rattle.rb_model.specs.Rows.{TableRow, InOrder, changed_by, last_scn, over, rows_at, value_of}
use Rattle.rb_model.specs.State.{State}
use Rattle.rb_model.proofs.RowLemmas.{ordered-over}
use Rattle.rb_model.proofs.Values.{tables_changed}
use Rattle.law_blocks.specs.Forgotten.{IsAfter}
use Rattle.law_blocks.specs.Standing.{Standing, SoundAs, env_of, homes_of, logged_of, segments_of}
use Rattle.law_blocks.specs.States.{BlocksStand, InTables, commits_from, lives_of, newest_first, past_of, walk_change}
use Rattle.law_blocks.specs.Values.{rows_here}
use Rattle.law_blocks.proofs.Forgotten.{standing_forgotten}
use Rattle.rb_segment.specs.Segments.{commit_scn}
use Rattle.law_write.proofs.Homes.{rows_over, rows_here_is}
use Rattle.law_write.proofs.Presence.{rows_last_is}
use Rattle.law_write.proofs.Sites.{home_mod}
use Rattle.law_home.specs.Homes.{here, narrow}
use Rattle.law_home.specs.Walk.{Change, Commit, Rows, behind, last, rows_of}
use Rattle.law_home.proofs.Committing.{changed_other}
use Rattle.law_home.proofs.Homes.{live_here, live_elsewhere}

-- a key that isn't of a home has no row there, whatever is committed
module _ (shape : Shape) (which k : ℕ) (some : 1 ≤ shape.blocks) (apart : k % shape.blocks ≢ which % shape.blocks) where
  one_away : (x : Xid) (n : ℕ) (c : model.Change) (more : List Change) (base : Rows) → behind (here which (walk_change shape x n c ∷ more)) base k ≡ behind (here which more) base k
  one_away x n c more base =
      let w : Change = walk_change shape x n c in
      elim (cases_eq w.home which) [
        | inl is ↦
            let site : c.key % shape.blocks ≡ which % shape.blocks = sym (home_mod shape c.table c.key some) ∙ ap (λ (z : ℕ). z % shape.blocks) is in
            ap (λ (l : List Change). behind l base k) (live_here which more w is)
            ∙ changed_other w.kind w.key (behind (here which more) base) k (λ same. apart (ap (λ (z : ℕ). z % shape.blocks) same ∙ site))
        | inr ne ↦ ap (λ (l : List Change). behind l base k) (live_elsewhere which more w ne)
      ]

  changes_away : (x : Xid) (n : ℕ) (cs : List model.Change) (before : List Change) (base : Rows) → behind (here which (newest_first shape x n cs before)) base k ≡ behind (here which before) base k
  changes_away x n [] before base = refl
  changes_away x n (c ∷ cs) before base = changes_away x (n + 1) cs (walk_change shape x n c ∷ before) base ∙ one_away x n c before base

  pub commits_away : (n : ℕ) (list : List (List model.Change)) (xids : List Xid) (before : List Commit) (base : Rows)
      → rows_of base (map (narrow which) (commits_from shape n list xids before)) k ≡ rows_of base (map (narrow which) before) k
  commits_away n [] xids before base = refl
  commits_away n (cs ∷ list) [] before base = refl
  commits_away n (cs ∷ list) (x ∷ xids) before base =
      let t : Commit = record { xid = x; number = n; changes = newest_first shape x 1 cs [] } in
      commits_away (n + 1) list xids (t ∷ before) base ∙ changes_away x 1 cs [] (rows_of base (map (narrow which) before))

-- all rows after changes are of tables that there are
pub tables_over : (n blocks : ℕ) (rows : List TableRow) (changes : List model.Change) → AllByRecursion (λ c. (1 ≤ c.table) × (c.table ≤ n)) changes → AllByRecursion (λ row. (1 ≤ row.table) × (row.table ≤ n)) rows
    → AllByRecursion (λ row. (1 ≤ row.table) × (row.table ≤ n)) (over blocks rows changes)
tables_over n blocks rows [] each all = all
tables_over n blocks rows (c ∷ changes) each all = tables_over n blocks (changed_by blocks c.table c.key c.kind rows) changes each.1 (tables_changed n blocks c.table c.key c.kind rows each.0.0 each.0.1 all)

both_tables : (shape : Shape) (l more : List model.Change) → InTables shape l → InTables shape more → InTables shape (l ++ more)
both_tables shape [] more each all = all
both_tables shape (c ∷ l) more each all = (each.0, both_tables shape l more each.1 all)

flat_tables : (shape : Shape) (list : List (List model.Change)) → AllByRecursion (InTables shape) list → InTables shape (flat_map (λ changes. changes) list)
flat_tables shape [] all = tt
flat_tables shape (cs ∷ list) all = both_tables shape cs (flat_map (λ changes. changes) list) all.0 (flat_tables shape list all.1)

module _ (h : State) (xids : List Xid) (blocks : List (List ℕ)) (stand : BlocksStand h xids blocks) where
  -- the rows after all commits
  abbrev pub rows_now : List TableRow
  rows_now = rows_at h.shape.blocks h.commits (last_scn h.commits)

  some : 1 ≤ h.shape.blocks
  some = stand.tell.in_range.few_blocks.0

  -- of a key of the home
  of_home : (table k : ℕ) → 1 ≤ table → rows_here h.shape (home_block h.shape table k) rows_now k ≡ rows_of (rows_here h.shape (home_block h.shape table k) h.commits.rows) (map (narrow (home_block h.shape table k)) (past_of h xids).list) k
  of_home table k first =
      rows_here_is h.shape table k some first rows_now
      ∙ ap (value_of table k) (rows_last_is h)
      ∙ sym (rows_over h.shape table k some first (h.commits.base + 1) h.commits.list xids [] (rows_here h.shape (home_block h.shape table k) h.commits.rows) h.commits.rows
      stand.tell.commit_tables stand.tell.counted (rows_here_is h.shape table k some first h.commits.rows))

  -- of a key of another one
  away : (b k : ℕ) → k % h.shape.blocks ≢ b % h.shape.blocks → rows_here h.shape b rows_now k ≡ rows_of (rows_here h.shape b h.commits.rows) (map (narrow b) (past_of h xids).list) k
  away b k apart =
      let test = ne_eqb (k % h.shape.blocks) (b % h.shape.blocks) apart in
      cond-false (k % h.shape.blocks == b % h.shape.blocks) (value_of (b / h.shape.blocks + 1) k rows_now) None test
      ∙ sym (commits_away h.shape b k some apart (h.commits.base + 1) h.commits.list xids [] (rows_here h.shape b h.commits.rows)
      ∙ cond-false (k % h.shape.blocks == b % h.shape.blocks) (value_of (b / h.shape.blocks + 1) k h.commits.rows) None test)

  pub is_after : IsAfter h.shape (past_of h xids) rows_now
  is_after = record {
    same = λ b k lt. elim (cases_eq (k % h.shape.blocks) (b % h.shape.blocks)) [
      | inl is ↦
          let less : b / h.shape.blocks + 1 - 1 ≡ b / h.shape.blocks = omega arith in
          let at : home_block h.shape (b / h.shape.blocks + 1) k ≡ b = ap (λ (z : ℕ). z * h.shape.blocks + k % h.shape.blocks) less ∙ ap (λ (z : ℕ). b / h.shape.blocks * h.shape.blocks + z) is ∙ div-add-mod' b h.shape.blocks in
          subst (λ (z : ℕ). rows_here h.shape z rows_now k ≡ rows_of (rows_here h.shape z h.commits.rows) (map (narrow z) (past_of h xids).list) k) at (of_home (b / h.shape.blocks + 1) k (omega arith))
      | inr ne ↦ away b k ne
    ];
  }

  -- Once what is under way is put back, the blocks have the rows after all commits.
  pub sound_as : commit_scn h.shape blocks ≡ last_scn h.commits → SoundAs h.shape blocks (last_scn h.commits) rows_now
  sound_as number =
      let past = past_of h xids in
      let lives = lives_of h (env_of h.shape blocks) in
      let stood = stand.standing in
      let forgotten = standing_forgotten h.shape (segments_of h.shape blocks) (homes_of h.shape blocks) past rows_now is_after lives (commit_scn h.shape blocks) (logged_of h.shape blocks) stood.stands in
      let last_is : last past.base past.list ≡ last_scn h.commits = sym stood.stands.number ∙ number in record {
        lives = lives;
        running = stand.tell.running;
        books = λ g g_in. (book_at h.books g, stand.tell.books g g_in);
        standing = subst (λ (n : ℕ). Standing h.shape blocks (record { base = n; rows = rows_now; list = [] }) lives) last_is (record {
          whole = stood.whole;
          homes_sound = stood.homes_sound;
          ahead = stood.ahead;
          order = subst (InOrder h.shape.blocks) (sym (rows_last_is h)) (ordered-over h.shape.blocks h.commits.rows (flat_map (λ changes. changes) h.commits.list) stood.order);
          tables = subst (AllByRecursion (λ row. (1 ≤ row.table) × (row.table ≤ h.shape.tables))) (sym (rows_last_is h))
              (tables_over h.shape.tables h.shape.blocks h.commits.rows (flat_map (λ changes. changes) h.commits.list) (flat_tables h.shape h.commits.list stand.tell.commit_tables) stood.tables);
          stands = forgotten;
        });
      }
