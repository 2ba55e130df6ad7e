-- The homes of a cursor's table say the cursor's rows: each can be read, and the next row is the first one that is asked for.
use Rattle.std.proofs.Common.{◌≡◌, ◌<◌, ◌≤◌, ◌+◌, ◌-◌, ◌*◌, ◌%◌, ℕ, suc, List, Some, sym, ◌∙◌, ap, subst, arith, map, take}
use Rattle.std.specs.Prelude.{slice_get}
use Rattle.std.specs.List.{flat_map}
use Rattle.std.proofs.Math.Nat.{mod-eq_of_lt}
use Rattle.rb_base.specs.Blocks.{home_block, table_blocks}
use Rattle.rb_base.specs.declared.ids.Xid.{Xid}
use Rattle.rb_model.specs.Calls.{End, Given, given, next_row}
use Rattle.rb_model.specs.Next.{asked, given_count}
use Rattle.rb_model.specs.Rows.{InOrder, TableRow, over, value_of}
use Rattle.rb_model.specs.Rows as rows
use Rattle.rb_model.specs.State as machine
use Rattle.rb_model.specs.State.{State, cursor_rows}
use Rattle.rb_model.proofs.RowLemmas.{ordered-over}
use Rattle.law_read.specs.Keeping.{first_count}
use Rattle.law_read.specs.Reading.{Reading, answer, flat}
use Rattle.rb_sessions.specs.Kept.{KeptCursor}
use Rattle.rb_sessions.specs.declared.cursor.Cursor.{Cursor}
use Rattle.law_blocks.specs.Standing.{env_of, homes_of, segments_of}
use Rattle.law_blocks.specs.States.{BlocksStand, lives_of, past_of}
use Rattle.law_write.proofs.Presence.{some_blocks}
use Rattle.law_write.proofs.Sites.{row_block}
use Rattle.law_write.proofs.StoodBlocks.{stood_of}
use Rattle.law_sessions.specs.Laws.{rows_seen}
use Rattle.law_sessions.specs.Scan.{IsNextIn, NoneIn}
use Rattle.law_sessions.specs.Views.{IsCursor, history, home_in, reader_slot}
use Rattle.law_sessions.proofs.Honest.{reader_is}
use Rattle.law_sessions.proofs.Readable.{home_read}
use Rattle.law_sessions.proofs.Scanning.{given_next, next_found, next_none}
use Rattle.law_sessions.proofs.Seeing.{first_few, frozen_rows}
use Rattle.law_home.specs.Homes.{here, narrow}
use Rattle.law_home.specs.Walk.{Env, own}

module _ (h : State) (xids : List Xid) (blocks : List (List ℕ)) (stand : BlocksStand h xids blocks) (s : ℕ) (kept : KeptCursor) (c : machine.Cursor) (is : IsCursor h xids (env_of h.shape blocks) s kept c) where
  abbrev m : Cursor
  m = kept.cursor

  abbrev env : Env
  env = env_of h.shape blocks

  -- block g of the cursor's table is where the keys of home g have their places
  home_is : (g k : ℕ) → k % h.shape.blocks ≡ g → home_in h.shape m.table g ≡ home_block h.shape c.table k
  home_is g k at = ap (λ (t : ℕ). (t - 1) * h.shape.blocks + g) is.table ∙ ap (λ (n : ℕ). (c.table - 1) * h.shape.blocks + n) (sym at)

  -- block g may be read
  pub reads : (g : ℕ) → g < h.shape.blocks → Reading env (history h xids blocks (home_in h.shape m.table g) m.own) m.own m.upto m.scn (homes_of h.shape blocks (home_in h.shape m.table g))
  reads g lt =
      let at : home_in h.shape m.table g ≡ home_block h.shape c.table g = home_is g g (mod-eq_of_lt lt) in
      let some : 1 ≤ h.shape.blocks = some_blocks h xids (segments_of h.shape blocks) (homes_of h.shape blocks) (stood_of h xids blocks stand) in
      let b_in : home_in h.shape m.table g < table_blocks h.shape = let r = row_block h.shape c.table g some is.in_tables.0 is.in_tables.1 in omega (arith, r, at) in
      let first : first_count m.own m.upto (own (map (here (home_block h.shape c.table g)) (lives_of h env)) (reader_slot m.own)) + first_count m.own m.upto (flat c.number (map (narrow (home_block h.shape c.table g)) (past_of h xids).list)) ≤ m.upto =
      first_few h xids blocks stand s kept c is (reader_slot m.own) (reader_is h.shape (segments_of h.shape blocks) m.own) g in
      let here_first : first_count m.own m.upto (own (map (here (home_in h.shape m.table g)) (lives_of h env)) (reader_slot m.own)) + first_count m.own m.upto (flat m.scn (map (narrow (home_in h.shape m.table g)) (past_of h xids).list)) ≤ m.upto =
      subst (λ (b : ℕ). first_count m.own m.upto (own (map (here b) (lives_of h env)) (reader_slot m.own)) + first_count m.own m.upto (flat m.scn (map (narrow b) (past_of h xids).list)) ≤ m.upto) (sym at)
      (subst (λ (n : ℕ). first_count m.own m.upto (own (map (here (home_block h.shape c.table g)) (lives_of h env)) (reader_slot m.own)) + first_count m.own m.upto (flat n (map (narrow (home_block h.shape c.table g)) (past_of h xids).list)) ≤ m.upto) (sym is.number) first) in
      home_read h xids blocks stand (home_in h.shape m.table g) m.own m.upto m.scn b_in (let a = is.above in let n = is.number in omega (arith, a, n)) (let f = is.few in omega (arith, here_first, f))

  -- what the cursor sees
  abbrev seen : List TableRow
  seen = over h.shape.blocks (rows.rows_at h.shape.blocks h.commits c.number) c.own

  values : (g k : ℕ) → k % h.shape.blocks ≡ g → rows_seen h xids blocks m g k ≡ value_of c.table k seen
  values g k at =
      ap (λ (b : ℕ). answer (history h xids blocks b m.own) m.own m.upto m.scn k) (home_is g k at)
      ∙ (ap (λ (n : ℕ). answer (history h xids blocks (home_block h.shape c.table k) m.own) m.own m.upto n k) is.number
      ∙ frozen_rows h xids blocks stand s kept c is (reader_slot m.own) (reader_is h.shape (segments_of h.shape blocks) m.own) k)

  in_order : InOrder h.shape.blocks seen
  in_order =
      ordered-over h.shape.blocks (rows.rows_at h.shape.blocks h.commits c.number) c.own
      (ordered-over h.shape.blocks h.commits.rows (flat_map (λ changes. changes) (take (c.number - h.commits.base) h.commits.list)) stand.standing.order)

  some_home : 0 < h.shape.blocks
  some_home = some_blocks h xids (segments_of h.shape blocks) (homes_of h.shape blocks) (stood_of h xids blocks stand)

  -- the same of the range in the machine
  none_here : (f : ℕ) → NoneIn h.shape.blocks m.lo m.hi m.last (rows_seen h xids blocks m f) f → NoneIn h.shape.blocks c.lo c.hi m.last (rows_seen h xids blocks m f) f
  none_here f nothing =
      subst (λ (n : ℕ). NoneIn h.shape.blocks n c.hi m.last (rows_seen h xids blocks m f) f) is.lo (subst (λ (n : ℕ). NoneIn h.shape.blocks m.lo n m.last (rows_seen h xids blocks m f) f) is.hi nothing)

  next_here : (g key : ℕ) (value : List ℕ) → IsNextIn h.shape.blocks m.lo m.hi m.last (rows_seen h xids blocks m g) g key value → IsNextIn h.shape.blocks c.lo c.hi m.last (rows_seen h xids blocks m g) g key value
  next_here g key value next =
      subst (λ (n : ℕ). IsNextIn h.shape.blocks n c.hi m.last (rows_seen h xids blocks m g) g key value) is.lo
      (subst (λ (n : ℕ). IsNextIn h.shape.blocks m.lo n m.last (rows_seen h xids blocks m g) g key value) is.hi next)

  -- the least key asked for of the first home that has one
  module _ (g key : ℕ) (value : List ℕ) (before : (f : ℕ) → f < g → NoneIn h.shape.blocks m.lo m.hi m.last (rows_seen h xids blocks m f) f) (next : IsNextIn h.shape.blocks m.lo m.hi m.last (rows_seen h xids blocks m g) g key value) where
    pub gives : next_row h (Some c) ≡ Given key value
    gives =
        ap (λ n. given (slice_get (asked c.table c.lo c.hi seen) n)) is.taken
        ∙ ap given (next_found h.shape.blocks c.table c.lo c.hi some_home m.last seen in_order (rows_seen h xids blocks m) values g key value (λ f lt. none_here f (before f lt)) (next_here g key value next))

    -- and with it as the last key one more is given
    pub counts : suc c.taken ≡ given_count h.shape.blocks (Some key) (cursor_rows h c)
    counts = ap suc is.taken ∙ sym (given_next h.shape.blocks c.table c.lo c.hi some_home m.last seen in_order (rows_seen h xids blocks m) values g key value (λ f lt. none_here f (before f lt)) (next_here g key value next))

  pub ends : ((g : ℕ) → g < h.shape.blocks → NoneIn h.shape.blocks m.lo m.hi m.last (rows_seen h xids blocks m g) g) → next_row h (Some c) ≡ End
  ends nowhere =
      ap (λ n. given (slice_get (asked c.table c.lo c.hi seen) n)) is.taken
      ∙ ap given (next_none h.shape.blocks c.table c.lo c.hi some_home m.last seen in_order (rows_seen h xids blocks m) values (λ g lt. none_here g (nowhere g lt)))
