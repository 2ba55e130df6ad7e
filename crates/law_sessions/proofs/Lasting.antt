-- A cursor's frozen changes last: over its session's writes, and over commits, its own among them.
use Rattle.std.proofs.Common.{◌≡◌, ◌<◌, ◌≤◌, ◌+◌, ◌-◌, ℕ, zero, suc, Bool, true, false, List, [], ◌∷◌, ◌++◌, length, filter, take, get_or, Some, sym, ◌∙◌, ap, subst, arith, length-append}
use Rattle.std.proofs.Math.ListN as lists
use Rattle.std.proofs.Math.Seq as seq
use Rattle.std.proofs.lemmas.List.{take-append-le}
use Rattle.std.specs.List.{flat_map}
use Rattle.rb_base.specs.declared.ids.Xid.{Xid}
use Rattle.rb_base.specs.declared.shape.Shape.{Shape}
use Rattle.rb_model.specs.Change as model
use Rattle.rb_model.specs.Next.{given_count}
use Rattle.rb_model.specs.Rows.{TableRow, is_asked, over}
use Rattle.rb_model.specs.Rows as rows
use Rattle.rb_model.specs.State as machine
use Rattle.rb_model.specs.State.{State, session_own}
use Rattle.rb_sessions.specs.Kept.{KeptCursor}
use Rattle.law_blocks.specs.States.{Owns, no_xid}
use Rattle.law_sessions.specs.Views.{Frozen, IsCursor, done, live, none}
use Rattle.law_home.specs.Walk.{Env}

-- the tail of a list
abbrev rest_of : {X : Type 0} → List X → List X
rest_of [] = []
rest_of (x ∷ xs) = xs

few_taken : {X : Type 0} (n : ℕ) (xs ys : List X) → n ≡ length ys → ys ≡ take n xs → n ≤ length xs
few_taken zero xs ys count is = omega arith
few_taken (suc n) [] ys count is = let z : length ys ≡ 0 = ap (λ l. length l) is in absurd (omega (arith, z, count))
few_taken (suc n) (x ∷ xs) [] count is = absurd (omega (arith, count))
few_taken (suc n) (x ∷ xs) (y ∷ ys) count is =
    let tails : ys ≡ take n xs = ap (λ l. rest_of l) is in
    let deep = few_taken n xs ys (omega (arith, count)) tails in
    omega (arith, deep)

-- What a step does to the machine so far as cursors ask for it: the commits stay, and perhaps there are more.
pub record Keeps (h h2 : State) (xids xids2 : List Xid) : Type 0 where
  pub shape : h2.shape ≡ h.shape
  pub base : h2.commits.base ≡ h.commits.base
  pub rows : h2.commits.rows ≡ h.commits.rows
  pub more : List (List model.Change)
  pub list : h2.commits.list ≡ h.commits.list ++ more
  pub ids : (i : ℕ) → i < length h.commits.list → get_or xids2 i no_xid ≡ get_or xids i no_xid

-- a session's slot and id stay, and its first changes
pub record Stays (h h2 : State) (env env2 : Env) (s upto : ℕ) : Type 0 where
  pub owns : (t : ℕ) → Owns h s t → Owns h2 s t
  pub xid : (t : ℕ) → Owns h s t → env2.xid t ≡ env.xid t
  pub own : upto ≤ length (session_own h s) → take upto (session_own h2 s) ≡ take upto (session_own h s)

-- a cursor told to be of the present transaction, or not
abbrev pub told : Bool → KeptCursor → KeptCursor
told p m = record m { cursor = record m.cursor { present = p } }

abbrev pub told_machine : Bool → machine.Cursor → machine.Cursor
told_machine p c = record c { present = p }

-- the rows that a cursor answers are of the commits up to its number
rows_before : (h h2 : State) (n : ℕ) (more : List (List model.Change)) → h2.shape ≡ h.shape → h2.commits.base ≡ h.commits.base → h2.commits.rows ≡ h.commits.rows → h2.commits.list ≡ h.commits.list ++ more → n ≤ h.commits.base + length h.commits.list
    → rows.rows_at h2.shape.blocks h2.commits n ≡ rows.rows_at h.shape.blocks h.commits n
rows_before h h2 n more shape base all list low =
    let same : take (n - h.commits.base) (h.commits.list ++ more) ≡ take (n - h.commits.base) h.commits.list = take-append-le (n - h.commits.base) h.commits.list more (omega (arith, low)) in
    rw (shape, base, all, list) (ap (λ l. over h.shape.blocks h.commits.rows (flat_map (λ changes. changes) l)) same)

pub more_commits : (h h2 : State) (xids xids2 : List Xid) (keeps : Keeps h h2 xids xids2) → length h2.commits.list ≡ length h.commits.list + length keeps.more
more_commits h h2 xids xids2 keeps = ap (λ (x : List (List model.Change)). length x) keeps.list ∙ length-append h.commits.list keeps.more

module _ (h h2 : State) (xids xids2 : List Xid) (env env2 : Env) (s : ℕ) (keeps : Keeps h h2 xids xids2) (m : KeptCursor) (c : machine.Cursor) where
  abbrev list_length : length h2.commits.list ≡ length h.commits.list + length keeps.more
  list_length = more_commits h h2 xids xids2 keeps

  same_commit : (i : ℕ) → i < length h.commits.list → get_or h2.commits.list i [] ≡ get_or h.commits.list i []
  same_commit i lt = ap (λ (x : List (List model.Change)). get_or x i []) keeps.list ∙ lists.get_or-append h.commits.list keeps.more [] i lt

  -- what a cursor saw of a commit
  done_stays : (p q : Bool) (i : ℕ) → i < length h.commits.list → c.number ≤ h.commits.base + i → m.cursor.own ≡ Some (get_or xids i no_xid) → c.own ≡ take m.cursor.upto (get_or h.commits.list i [])
      → Frozen h2 xids2 env2 s (told p m).cursor (told_machine q c)
  done_stays p q i lt high mine is =
      done i (let l = list_length in omega (arith, l, lt)) (let b = keeps.base in omega (arith, b, high)) (mine ∙ ap (λ (x : Xid). Some x) (sym (keeps.ids i lt))) (is ∙ ap (take m.cursor.upto) (sym (same_commit i lt)))

  -- over a step that keeps the slot and, for a cursor of the present transaction, the first changes of the session
  pub frozen_stays : (m.cursor.present ≡ true → Stays h h2 env env2 s m.cursor.upto) → m.cursor.upto ≡ length c.own → Frozen h xids env s m.cursor c → Frozen h2 xids2 env2 s m.cursor c
  frozen_stays st upto (none z) = none z
  frozen_stays st upto (live t present owns mine is) =
      let now : Stays h h2 env env2 s m.cursor.upto = st present in
      live t present (now.owns t owns) (mine ∙ ap (λ (x : Xid). Some x) (sym (now.xid t owns))) (is ∙ sym (now.own (few_taken m.cursor.upto (session_own h s) c.own upto is)))
  frozen_stays st upto (done i lt high mine is) = done_stays m.cursor.present c.present i lt high mine is

  -- over the end of the transaction, where the cursor sees none of its changes
  pub frozen_ends : (m.cursor.present ≡ true → c.own ≡ take m.cursor.upto (session_own h s) → m.cursor.upto ≡ 0) → Frozen h xids env s m.cursor c → Frozen h2 xids2 env2 s (told false m).cursor (told_machine false c)
  frozen_ends sees (none z) = none z
  frozen_ends sees (live t present owns mine is) = none (sees present is)
  frozen_ends sees (done i lt high mine is) = done_stays false false i lt high mine is

  -- over the commit of the session's own changes: those that the cursor saw are the first ones of the commit
  pub frozen_commits : (x : Xid) → keeps.more ≡ session_own h s ∷ [] → get_or xids2 (length h.commits.list) no_xid ≡ x → ((t : ℕ) → Owns h s t → x ≡ env.xid t) → IsCursor h xids env s m c → Frozen h2 xids2 env2 s (told false m).cursor (told_machine false c)
  frozen_commits x own_is last_xid id is = by is.frozen
    where
      last_commit : get_or h2.commits.list (length h.commits.list) [] ≡ session_own h s
      last_commit = ap (λ (x : List (List model.Change)). get_or x (length h.commits.list) []) (keeps.list ∙ ap (λ (x : List (List model.Change)). h.commits.list ++ x) own_is) ∙ seq.get_or-append_seam h.commits.list (session_own h s) [] []

      one_more : length h2.commits.list ≡ length h.commits.list + 1
      one_more = list_length ∙ ap (λ (x : List (List model.Change)). length h.commits.list + length x) own_is

      by : Frozen h xids env s m.cursor c → Frozen h2 xids2 env2 s (told false m).cursor (told_machine false c)
      by (none z) = none z
      by (live t present owns mine own_was) =
          done (length h.commits.list) (let l = one_more in omega (arith, l)) (let b = is.below in let e = keeps.base in omega (arith, b, e))
          (mine ∙ ap (λ (x : Xid). Some x) (sym (id t owns) ∙ sym last_xid)) (own_was ∙ ap (take m.cursor.upto) (sym last_commit))
      by (done i lt high mine own_was) = done_stays false false i lt high mine own_was

  -- what the cursor answers, and its place there, stay
  pub cursor_told : (p q : Bool) → p ≡ q → IsCursor h xids env s m c → Frozen h2 xids2 env2 s (told p m).cursor (told_machine q c) → IsCursor h2 xids2 env2 s (told p m) (told_machine q c)
  cursor_told p q same is frozen = record {
    name = is.name;
    table = is.table;
    lo = is.lo;
    hi = is.hi;
    number = is.number;
    present = same;
    in_tables = subst (λ (x : Shape). (1 ≤ c.table) × (c.table ≤ x.tables)) (sym keeps.shape) is.in_tables;
    above = let a = is.above in let b = keeps.base in omega (arith, a, b);
    below = let a = is.below in let b = keeps.base in let l = list_length in omega (arith, a, b, l);
    upto = is.upto;
    few = is.few;
    frozen = frozen;
    taken =
        let then : rows.rows_at h2.shape.blocks h2.commits c.number ≡ rows.rows_at h.shape.blocks h.commits c.number = rows_before h h2 c.number keeps.more keeps.shape keeps.base keeps.rows keeps.list is.below in
        is.taken ∙ sym (ap (λ (b : ℕ). given_count b m.cursor.last (filter (is_asked c.table c.lo c.hi) (over b (rows.rows_at h2.shape.blocks h2.commits c.number) c.own))) (ap (λ (x : Shape). x.blocks) keeps.shape)
        ∙ ap (λ (x : List TableRow). given_count h.shape.blocks m.cursor.last (filter (is_asked c.table c.lo c.hi) (over h.shape.blocks x c.own))) then);
  }

  pub cursor_stays : (m.cursor.present ≡ true → Stays h h2 env env2 s m.cursor.upto) → IsCursor h xids env s m c → IsCursor h2 xids2 env2 s m c
  cursor_stays st is = cursor_told m.cursor.present c.present is.present is (frozen_stays st is.upto is.frozen)
