-- What stands for a state does so with all homes cleaned, and then they are clean.
use Rattle.std.proofs.Common.{◌≡◌, ℕ, List, map, Some, refl, sym, ◌∙◌, ap, arith}
use Rattle.std.proofs.lemmas.List.{length-map}
use Rattle.rb_base.specs.declared.ids.Xid.{Xid}
use Rattle.rb_model.specs.State.{State}
use Rattle.rb_segment.specs.Header.{Segment}
use Rattle.law_blocks.specs.Says.{says}
use Rattle.law_blocks.specs.States.{lives_of, past_of}
use Rattle.law_blocks.specs.Values.{made_by, rows_here}
use Rattle.law_blocks.proofs.Commits.{with_laws, without_laws}
use Rattle.law_write.specs.Stood.{Stood, StoodHome, IsClean}
use Rattle.law_home.specs.Homes.{here, narrow}
use Rattle.law_home.specs.Kinds.{Empty, Entry}
use Rattle.law_home.specs.Steps.{cleaned, cleaned_entry, cleaned_cell}
use Rattle.law_home.specs.Walk.{Home, Env, cell_at, entry_at, taken, free_entry}
use Rattle.law_home.proofs.Cleaning.{at_map, active_cleaned, taken_cleaned}
use Rattle.law_home.proofs.Standing.{stands_clean}

pub taken_was : (env : Env) (b : Home) (i k : ℕ) → taken (cell_at (cleaned env b) i) ≡ Some k → taken (cell_at b i) ≡ Some k
taken_was env b i k t = taken_cleaned env b (cell_at b i) k (ap taken (sym (at_map (cleaned_cell env b) Empty refl b.cells i)) ∙ t)

pub is_clean : (env : Env) (b : Home) → IsClean env (cleaned env b)
is_clean env b = λ i open_at.
    let there : entry_at (cleaned env b) i ≡ cleaned_entry env (entry_at b i) = at_map (cleaned_entry env) free_entry refl b.entries i in
    let was = active_cleaned env (entry_at b i).xid (entry_at b i).status (ap (λ (z : Entry). z.status) (sym there) ∙ open_at) in
    ap (λ (z : Entry). env.look z.xid) there ∙ was.1

home_clean : (h : State) (xids : List Xid) (segments : ℕ → Segment) (b : ℕ) (home : Home) → StoodHome h xids segments b home → StoodHome h xids segments b (cleaned (says h.shape segments) home)
home_clean h xids segments b home stands =
    let rows = rows_here h.shape b h.commits.rows in
    let list = map (narrow b) (past_of h xids).list in
    let lives = map (here b) (lives_of h (says h.shape segments)) in
    without_laws (says h.shape segments) (made_by segments) (made_by segments) h.commits.base rows list lives (cleaned (says h.shape segments) home) (λ g. omega arith)
    (stands_clean h.commits.base rows list (made_by segments) (says h.shape segments) lives home (with_laws h.shape segments h.commits.base rows list lives home stands))

pub stood_clean : (h : State) (xids : List Xid) (segments : ℕ → Segment) (homes : ℕ → Home) → Stood h xids segments homes → Stood h xids segments (λ b. cleaned (says h.shape segments) (homes b))
stood_clean h xids segments homes stood = record {
  in_range = stood.in_range;
  counted = stood.counted;
  books_counted = stood.books_counted;
  books = stood.books;
  owners = stood.owners;
  one_slot = stood.one_slot;
  has_slot = stood.has_slot;
  tables = stood.tables;
  commit_tables = stood.commit_tables;
  live = stood.live;
  sizes = λ b. let z = stood.sizes b in
      (length-map (homes b).entries (cleaned_entry (says h.shape segments)) ∙ z.0, length-map (homes b).cells (cleaned_cell (says h.shape segments) (homes b)) ∙ z.1);
  keys = λ b j k lt has. stood.keys b j k lt (taken_was (says h.shape segments) (homes b) j k has);
  each = λ b lt. home_clean h xids segments b (homes b) (stood.each b lt);
}
