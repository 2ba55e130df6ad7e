-- A cursor sees rows of a home's own keys in it, and no others.
use Rattle.std.proofs.Common.{◌≡◌, ◌≢◌, inl, inr, ◌<◌, ◌≤◌, ◌+◌, ◌-◌, ◌*◌, ◌%◌, ◌==◌, nat_lt, ℕ, zero, suc, true, List, [], ◌∷◌, ◌++◌, map, Option, Some, None, refl, sym, ◌∙◌, ap, subst, arith}
use Rattle.std.proofs.lemmas.Bool.{cases_eq, cond_both, ne_eqb}
use Rattle.std.proofs.lemmas.Nat.{mod-mul-add}
use Rattle.std.specs.List.{range_with_len}
use Rattle.rb_base.specs.declared.sizes.TheConstants.{SLOTS}
use Rattle.rb_base.specs.declared.ids.Xid.{Xid}
use Rattle.rb_base.specs.declared.shape.Shape.{Shape}
use Rattle.rb_model.specs.Book.{Owner}
use Rattle.rb_model.specs.Change as model
use Rattle.rb_model.specs.Change.{Kind, Put, Gone, Held}
use Rattle.rb_model.specs.State.{State, owner_at, session_own}
use Rattle.law_read.specs.Keeping.{behind_mine, is_first}
use Rattle.law_read.specs.Reading.{flat, rows_at}
use Rattle.rb_sessions.specs.declared.cursor.Cursor.{Cursor}
use Rattle.law_blocks.specs.Standing.{env_of}
use Rattle.law_blocks.specs.States.{commits_from, lives_of, newest_first, owned, past_of, walk_change}
use Rattle.law_blocks.specs.Values.{rows_here}
use Rattle.law_write.proofs.Sites.{home_mod}
use Rattle.law_sessions.specs.Laws.{rows_seen}
use Rattle.law_sessions.specs.Views.{home_in, reader_slot}
use Rattle.law_home.specs.Homes.{here, narrow}
use Rattle.law_home.specs.Walk.{Change, Commit, Env, Rows, behind, changed, own, rows_of}

-- each change is of the home of its key
abbrev Homed : ℕ → List Change → Type 0
Homed blocks [] = Unit {0}
Homed blocks (ch ∷ more) = (ch.home % blocks ≡ ch.key % blocks) × Homed blocks more

-- none is of the key
abbrev Off : ℕ → List Change → Type 0
Off k [] = Unit {0}
Off k (ch ∷ more) = (k ≢ ch.key) × Off k more

changed_off : (kind : Kind) (key k : ℕ) (rows : Rows) → k ≢ key → changed kind key rows k ≡ rows k
changed_off (Put v) key k rows ne = cond_both (k == key) (Some v) (rows k) (λ (r : Option (List ℕ)). r ≡ rows k) (λ yes. absurd (ne (same k key yes))) (λ no. refl)
  where
    same : (a b : ℕ) → (a == b) ≡ true → a ≡ b
    same a b e = grind (arith, Rattle.std.proofs.lemmas.Bool.Decides.nat_tests)
changed_off Gone key k rows ne = cond_both (k == key) None (rows k) (λ (r : Option (List ℕ)). r ≡ rows k) (λ yes. absurd (ne (same k key yes))) (λ no. refl)
  where
    same : (a b : ℕ) → (a == b) ≡ true → a ≡ b
    same a b e = grind (arith, Rattle.std.proofs.lemmas.Bool.Decides.nat_tests)
changed_off Held key k rows ne = refl

behind_off : (k : ℕ) (chs : List Change) (rows : Rows) → Off k chs → behind chs rows k ≡ rows k
behind_off k [] rows off = refl
behind_off k (ch ∷ more) rows off = changed_off ch.kind ch.key k (behind more rows) off.0 ∙ behind_off k more rows off.1

mine_off : (mine : Option Xid) (upto k : ℕ) (chs : List Change) (rows : Rows) → Off k chs → behind_mine mine upto chs rows k ≡ rows k
mine_off mine upto k [] rows off = refl
mine_off mine upto k (ch ∷ more) rows off = cond_both (is_first mine upto ch.xid ch.number) (changed ch.kind ch.key (behind_mine mine upto more rows)) (behind_mine mine upto more rows) (λ (r : Rows). r k ≡ rows k)
    (λ yes. changed_off ch.kind ch.key k (behind_mine mine upto more rows) off.0 ∙ mine_off mine upto k more rows off.1)
    (λ no. mine_off mine upto k more rows off.1)

-- of a key of another home no change is of this home
off_here : (blocks b k : ℕ) → k % blocks ≢ b % blocks → (chs : List Change) → Homed blocks chs → Off k (here b chs)
off_here blocks b k apart [] homed = tt
off_here blocks b k apart (ch ∷ more) homed = elim (cases_eq ch.home b) [
  | inl is ↦
      subst (Off k) (sym (here_is is))
      ((λ same. apart (ap (λ (n : ℕ). n % blocks) same ∙ (sym homed.0 ∙ ap (λ (n : ℕ). n % blocks) is))), off_here blocks b k apart more homed.1)
  | inr ne ↦ subst (Off k) (sym (here_not ne)) (off_here blocks b k apart more homed.1)
]
  where
    here_is : ch.home ≡ b → here b (ch ∷ more) ≡ ch ∷ here b more
    here_is is = Rattle.std.proofs.lemmas.Bool.cond-true (ch.home == b) (ch ∷ here b more) (here b more) (let e : (ch.home == b) ≡ true = subst (λ (n : ℕ). (ch.home == n) ≡ true) is (itself ch.home) in e)
      where
        itself : (n : ℕ) → (n == n) ≡ true
        itself n = grind (arith, Rattle.std.proofs.lemmas.Bool.Decides.nat_tests)

    here_not : ch.home ≢ b → here b (ch ∷ more) ≡ here b more
    here_not ne = Rattle.std.proofs.lemmas.Bool.cond-false (ch.home == b) (ch ∷ here b more) (here b more) (ne_eqb ch.home b ne)

homed_newest : (shape : Shape) (x : Xid) (n : ℕ) (cs : List model.Change) (before : List Change) → 1 ≤ shape.blocks → Homed shape.blocks before → Homed shape.blocks (newest_first shape x n cs before)
homed_newest shape x n [] before some homed = homed
homed_newest shape x n (c ∷ cs) before some homed = homed_newest shape x (n + 1) cs (walk_change shape x n c ∷ before) some (home_mod shape c.table c.key some, homed)

-- of each commit
abbrev AllHomed : ℕ → List Commit → Type 0
AllHomed blocks [] = Unit {0}
AllHomed blocks (t ∷ older) = Homed blocks t.changes × AllHomed blocks older

homed_commits : (shape : Shape) (n : ℕ) (list : List (List model.Change)) (xids : List Xid) (before : List Commit) → 1 ≤ shape.blocks → AllHomed shape.blocks before → AllHomed shape.blocks (commits_from shape n list xids before)
homed_commits shape n [] xids before some homed = homed
homed_commits shape n (cs ∷ list) [] before some homed = homed
homed_commits shape n (cs ∷ list) (x ∷ xids) before some homed = homed_commits shape (n + 1) list xids (record { xid = x; number = n; changes = newest_first shape x 1 cs [] } ∷ before) some (homed_newest shape x 1 cs [] some tt, homed)

off_append : (k : ℕ) (a b : List Change) → Off k a → Off k b → Off k (a ++ b)
off_append k [] b x y = y
off_append k (ch ∷ a) b x y = (x.0, off_append k a b x.1 y)

module _ (blocks b k : ℕ) (apart : k % blocks ≢ b % blocks) where
  off_flat : (n : ℕ) (list : List Commit) → AllHomed blocks list → Off k (flat n (map (narrow b) list))
  off_flat n [] homed = tt
  off_flat n (t ∷ older) homed = cond_both (nat_lt n t.number) (here b t.changes ++ flat n (map (narrow b) older)) [] (Off k)
      (λ yes. off_append k (here b t.changes) (flat n (map (narrow b) older)) (off_here blocks b k apart t.changes homed.0) (off_flat n older homed.1)) (λ no. tt)

  rows_of_off : (rows : Rows) (list : List Commit) → AllHomed blocks list → rows_of rows (map (narrow b) list) k ≡ rows k
  rows_of_off rows [] homed = refl
  rows_of_off rows (t ∷ older) homed = behind_off k (here b t.changes) (rows_of rows (map (narrow b) older)) (off_here blocks b k apart t.changes homed.0) ∙ rows_of_off rows older homed.1

  rows_at_off : (n : ℕ) (rows : Rows) (list : List Commit) → AllHomed blocks list → rows_at n rows (map (narrow b) list) k ≡ rows k
  rows_at_off n rows [] homed = refl
  rows_at_off n rows (t ∷ older) homed = cond_both (nat_lt n t.number) (rows_at n rows (map (narrow b) older)) (rows_of rows (map (narrow b) (t ∷ older))) (λ (r : Rows). r k ≡ rows k)
      (λ yes. rows_at_off n rows older homed.1) (λ no. rows_of_off rows (t ∷ older) homed)

  off_lives : (h : State) (env : Env) → h.shape.blocks ≡ blocks → 1 ≤ blocks → (l : List ℕ) (r : ℕ) → Off k (own (map (here b) (map (λ t. owned h (env.xid t) (owner_at h t)) l)) r)
  off_lives h env same some [] r = tt
  off_lives h env same some (t ∷ l) zero = off_here blocks b k apart (owned h (env.xid t) (owner_at h t)) (by (owner_at h t))
    where
      by : (o : Option Owner) → Homed blocks (owned h (env.xid t) o)
      by None = tt
      by (Some o) = subst (λ (n : ℕ). Homed n (owned h (env.xid t) (Some o))) same (homed_newest h.shape (env.xid t) 1 (session_own h o.session) [] (omega (arith, same, some)) tt)
  off_lives h env same some (t ∷ l) (suc r) = off_lives h env same some l r

-- The row that a cursor sees of a key in a home is of that home.
pub seen_in_home : (h : State) (xids : List Xid) (blocks : List (List ℕ)) (m : Cursor) (g k : ℕ) (v : List ℕ) → 1 ≤ h.shape.blocks → g < h.shape.blocks → rows_seen h xids blocks m g k ≡ Some v → k % h.shape.blocks ≡ g
seen_in_home h xids blocks m g k v some lt is = elim (cases_eq (k % h.shape.blocks) g) [
  | inl same ↦ same
  | inr ne ↦
      let B = h.shape.blocks in
      let b = home_in h.shape m.table g in
      let at : b % B ≡ g = mod-mul-add (m.table - 1) B g lt in
      let apart : k % B ≢ b % B = λ e. ne (e ∙ at) in
      let commits : AllHomed B (past_of h xids).list = homed_commits h.shape (h.commits.base + 1) h.commits.list xids [] some tt in
      let base : rows_here h.shape b h.commits.rows k ≡ None = Rattle.std.proofs.lemmas.Bool.cond-false ((k % B) == (b % B)) _ None (ne_eqb (k % B) (b % B) apart) in
      let list : List Commit = map (narrow b) (past_of h xids).list in
      let none : rows_seen h xids blocks m g k ≡ None =
      mine_off m.own m.upto k (own (map (here b) (lives_of h (env_of h.shape blocks))) (reader_slot m.own)) (behind_mine m.own m.upto (flat m.scn list) (rows_at m.scn (rows_here h.shape b h.commits.rows) list)) (off_lives B b k apart h (env_of h.shape blocks) refl some (range_with_len 0 (SLOTS * h.shape.segments)) (reader_slot m.own))
      ∙ (mine_off m.own m.upto k (flat m.scn list) (rows_at m.scn (rows_here h.shape b h.commits.rows) list) (off_flat B b k apart m.scn (past_of h xids).list commits)
      ∙ (rows_at_off B b k apart m.scn (rows_here h.shape b h.commits.rows) (past_of h xids).list commits ∙ base)) in
      let clash : None ≡ Some v = sym none ∙ is in
      absurd cc
]
