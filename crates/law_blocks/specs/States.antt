-- What segments, homes and blocks stand for, as the machine sees it.
use Rattle.std.specs.Prelude.{◌≡◌, ◌≢◌, ◌<◌, ◌≤◌, ◌+◌, ◌*◌, ◌/◌, ◌%◌, ℕ, List}
use Rattle.std.specs.Prelude.{[], ◌∷◌, length, map, get_or, Option}
use Rattle.std.specs.Prelude.{Some, None}
use Rattle.std.specs.List.{range_with_len, AllByRecursion}
use Rattle.rb_base.specs.Blocks.{IsShape, home_block}
use Rattle.rb_base.specs.declared.ids.Xid.{Xid}
use Rattle.rb_base.specs.declared.shape.Shape.{Shape}
use Rattle.rb_base.specs.declared.sizes.TheConstants.{ACTIVE}
use Rattle.rb_model.specs.Book.{Owner, book_at}
use Rattle.rb_model.specs.Change as model
use Rattle.rb_model.specs.State.{State, session_own, owner_at}
use Rattle.rb_segment.specs.Books.{IsBook}
use Rattle.rb_segment.specs.Header.{Segment}
use Rattle.law_blocks.specs.Says.{says, xid_by}
use Rattle.law_blocks.specs.Standing.{Standing, env_of, segments_of}
use Rattle.law_blocks.specs.Values.{Past, StandingAs, Running, slot_of}
use Rattle.law_home.specs.Walk.{Change, Commit, Env, Home}

abbrev pub walk_change : Shape → Xid → ℕ → model.Change → Change
walk_change shape x n c = record {
  home = home_block shape c.table c.key;
  place = c.place;
  xid = x;
  number = n;
  key = c.key;
  kind = c.kind;
}

-- changes numbered from n on, the last of them first
abbrev pub newest_first : Shape → Xid → ℕ → List model.Change → List Change → List Change
newest_first shape x n [] before = before
newest_first shape x n (c ∷ changes) before = newest_first shape x (n + 1) changes (walk_change shape x n c
    ∷ before)

abbrev pub owned : State → Xid → Option Owner → List Change
owned h x None = []
owned h x (Some o) = newest_first h.shape x 1 (session_own h o.session) []

-- the live changes of each table slot
abbrev pub lives_of : State → Env → List (List Change)
lives_of h env = map (λ t. owned h (env.xid t) (owner_at h t)) (range_with_len 0 (16 * h.shape.segments))

-- the commits numbered from n on, each under its id, the last of them first
abbrev pub commits_from : Shape → ℕ → List (List model.Change) → List Xid → List Commit → List Commit
commits_from shape n [] xids before = before
commits_from shape n (changes ∷ list) [] before = before
commits_from shape n (changes ∷ list) (x ∷ xids) before =
    commits_from shape (n + 1) list xids
    (record { xid = x; number = n; changes = newest_first shape x 1 changes [] } ∷ before)

abbrev pub past_of : State → List Xid → Past
past_of h xids = record {
  base = h.commits.base;
  rows = h.commits.rows;
  list = commits_from h.shape (h.commits.base + 1) h.commits.list xids [];
}

-- session s has table slot t
pub record Owns (h : State) (s t : ℕ) : Type 0 where
  pub owner : Owner
  pub at : owner_at h t ≡ Some owner
  pub session : owner.session ≡ s

abbrev pub no_xid : Xid
no_xid = record { seg = 0; slot = 0; wrap = 0 }

-- each change is of one of the tables
abbrev pub InTables : Shape → List model.Change → Type 0
InTables shape changes = AllByRecursion (λ c. (1 ≤ c.table) × (c.table ≤ shape.tables)) changes

-- The id of a slot that there is, with a wrap up to the slot's: it was given to a transaction.
pub record IsMade (shape : Shape) (segments : ℕ → Segment) (x : Xid) : Type 0 where
  pub slot : ℕ
  pub within : slot < 16 * shape.segments
  pub at : (x.seg ≡ slot / 16) × (x.slot ≡ slot % 16)
  pub wrap : x.wrap ≤ (slot_of segments slot).wrap

-- What of a machine's state segments tell: the books, who has which slot, and the ids of the commits.
pub record SegmentsTell (h : State) (xids : List Xid) (segments : ℕ → Segment) : Type 0 where
  pub in_range : IsShape h.shape
  pub counted : length xids ≡ length h.commits.list
  pub books_counted : length h.books ≡ h.shape.segments
  pub books : (g : ℕ) → g < h.shape.segments → IsBook (segments g).header (book_at h.books g)
  -- an owner is one of the sessions, which are numbered from 1, and each that has changes owns one slot
  pub owner_there : (s t : ℕ) → Owns h s t → (1 ≤ s) × (s ≤ length h.sessions)
  pub one_slot : (s t u : ℕ) → Owns h s t → Owns h s u → t ≡ u
  pub has_slot : (s : ℕ) (c : model.Change) (more : List model.Change) → 1 ≤ s → session_own h s ≡ c ∷ more
      → (t : ℕ) × (t < 16 * h.shape.segments) × Owns h s t
  -- changes are of tables that there are
  pub tables : (s : ℕ) → InTables h.shape (session_own h s)
  pub commit_tables : AllByRecursion (InTables h.shape) h.commits.list
  -- the ids of the commits differ, were given, and none is of a slot that is Active now
  pub ids_differ : (i j : ℕ) → i < length xids → j < length xids → get_or xids i no_xid ≡ get_or xids j no_xid
      → i ≡ j
  pub ids_made : (i : ℕ) → i < length xids → IsMade h.shape segments (get_or xids i no_xid)
  pub ids_over : (i t : ℕ) → i < length xids → t < 16 * h.shape.segments → (slot_of segments t).state ≡ ACTIVE
      → get_or xids i no_xid ≢ xid_by segments t
  pub running : Running h.shape segments

-- what the machine's state stands for in segments and homes
pub record BlocksStandAs (h : State) (xids : List Xid) (commit logged : ℕ) (segments : ℕ → Segment)
    (homes : ℕ → Home) : Type 0 where
  pub tell : SegmentsTell h xids segments
  pub stands : StandingAs h.shape commit logged segments homes (past_of h xids) (lives_of h (says h.shape segments))

-- and in the blocks of a file
pub record BlocksStand (h : State) (xids : List Xid) (blocks : List (List ℕ)) : Type 0 where
  pub tell : SegmentsTell h xids (segments_of h.shape blocks)
  pub standing : Standing h.shape blocks (past_of h xids) (lives_of h (env_of h.shape blocks))
