-- Each kind of step keeps what stands.
use Rattle.std.proofs.Common.{⊎_elim, inl, inr, subst, zero, suc, arith, ◌≡◌, ◌≢◌, inl, inr, ◌<◌, ◌≤◌, ℕ, zero, suc, List, [], ◌∷◌, length, set, Some, refl, sym, ◌∙◌, ap, arith}
use Rattle.std.proofs.lemmas.Bool.{cases_eq}
use Rattle.std.proofs.lemmas.List.{get_or-set_same, get_or-set_other, length-set}
use Rattle.rb_model.specs.Change.{Place}
use Rattle.law_home.specs.Kinds.{Open, Entry, Cell, Empty, Undo}
use Rattle.law_home.specs.Walk.{free_entry, Head, In, Owned, NamesCell, lock_of, Change, Commit, Home, Env, Rows, Walk, Tree, Next, Distinct, LiveAges, LiveAlike, Commits, Write, Saved, OldChanges, OldCommits, own, back, put, cell_at, entry_at, taken, last}
use Rattle.law_home.specs.Steps.{cleaned_entry, Stands, Lives, cleaned, cleaned_cell}
use Rattle.law_home.proofs.Aging.{walk_alike}
use Rattle.law_home.proofs.Writing.{tree_write}
use Rattle.law_home.proofs.Lives.{own_within}
use Rattle.law_home.proofs.Live.{tree_alike}
use Rattle.law_home.proofs.Committing.{tree_commit, unique_back}
use Rattle.law_home.proofs.Cleaning.{cell_lock_open, clean_alike, at_map, taken_cleaned}

module _ (base : ℕ) (rows : Rows) (list : List Commit) where
  -- what the segment says grows older, and so it does at the end of a slot
  pub stands_age : (w w2 : ℕ → ℕ) (env env2 : Env) (lives : List (List Change)) (b : Home) → ((g : ℕ) → w g ≤ w2 g)
      → LiveAges (Lives lives) w env env2 → Distinct env2 → OldCommits w2 list → ((p : Place) (r : Undo) → env2.store p ≡ Some r → p.index ≤ w2 p.seg)
      → Stands env w base rows list lives b → Stands env2 w2 base rows list lives b
  stands_age w w2 env env2 lives b le ages distinct old made stands = record {
    m = stands.m;
    tree =
        tree_alike (Lives lives) w env env2 ages (Walk env base rows list) (Walk env2 base rows list) (λ b b2 alike walk. walk_alike w env env2 ages.ages base rows list b b2 stands.old alike walk) stands.m lives b b (λ s ch more has. (ch, more, has)) same stands.tree;
    distinct = distinct;
    unique = stands.unique;
    locks = stands.locks;
    old = old;
    made = made;
  }
    where
      same : LiveAlike env env2 b b
      same = record {
        alike = record {
          block = refl;
          entries = refl;
          cells = refl;
          rows = λ j k. refl;
          xid = λ i. refl;
          newest = λ i. refl;
          chain = λ i. refl;
          says = λ i. ages.ages.says (entry_at b i);
          below = λ i. ages.ages.below (entry_at b i);
        };
        entry = λ i active. refl;
        active = λ i active. (active.0, ages.active (entry_at b i).xid active.1);
        cell = λ i j active lock. refl;
        lock = λ i j active lock. lock;
      }

  pub stands_clean : (w : ℕ → ℕ) (env : Env) (lives : List (List Change)) (b : Home) → Stands env w base rows list lives b
      → Stands env w base rows list lives (cleaned env b)
  stands_clean w env lives b stands = record {
    m = stands.m;
    tree =
        tree_alike (Lives lives) w env env self (Walk env base rows list) (Walk env base rows list) (λ b b2 alike walk. walk_alike w env env self.ages base rows list b b2 stands.old alike walk) stands.m lives b (cleaned env b) (λ s ch more has. (ch, more, has)) (clean_alike env b) stands.tree;
    distinct = stands.distinct;
    unique = λ i j k ti tj. stands.unique i j k (was i k ti) (was j k tj);
    locks = λ i j lock. ap (λ (z : Entry). z.status) (at_map (cleaned_entry env) free_entry refl b.entries i)
        ∙ cell_lock_open env b (cell_at b j) i (ap lock_of (sym (at_map (cleaned_cell env b) Empty refl b.cells j)) ∙ lock);
    old = stands.old;
    made = stands.made;
  }
    where
      self : LiveAges (Lives lives) w env env
      self = record {
        ages = record { store = λ p r le is. is; says = λ e c says. says; below = λ e n below. below; limit = λ p le. omega arith };
        store = λ s p r goes x is. is;
        xid = λ s goes. refl;
        goes_on = λ s goes active. active;
        active = λ x active. active;
      }

      was : (i k : ℕ) → taken (cell_at (cleaned env b) i) ≡ Some k → taken (cell_at b i) ≡ Some k
      was i k t = taken_cleaned env b (cell_at b i) k (ap taken (sym (at_map (cleaned_cell env b) Empty refl b.cells i)) ∙ t)

  pub stands_write : (w : ℕ → ℕ) (env : Env) (lives : List (List Change)) (b : Home) (s : ℕ) (ch : Change) (r : Undo) (e : Entry) (x : Cell)
      → s < length lives → Write env s ch (length (own lives s)) r e x → Saved env s r b → ((j : ℕ) → j ≢ r.cell → taken (cell_at b j) ≢ Some ch.key)
      → Stands env w base rows list lives b → Stands env w base rows list (set lives s (ch ∷ own lives s)) (put r.entry e r.cell x b)
  stands_write w env lives b s ch r e x s_in write saved alone stands = record {
    m = suc stands.m;
    tree = tree_write env (Walk env base rows list) s ch (own lives s) r e x write stands.distinct stands.m lives b s_in refl saved stands.tree;
    distinct = stands.distinct;
    unique = λ i j k ti tj. unique i j k ti tj;
    locks = λ i j lock. elim (cases_eq i r.entry) [
      | inl same ↦
          let here : entry_at (put r.entry e r.cell x b) i ≡ e = rw same (get_or-set_same b.entries r.entry e free_entry saved.within) in
          ap (λ (z : Entry). z.status) here ∙ write.status
      | inr ne ↦ elim (cases_eq j r.cell) [
        | inl jc ↦
            let x_at : cell_at (put r.entry e r.cell x b) j ≡ x = rw jc (get_or-set_same b.cells r.cell x Empty saved.cell) in
            let lock_x : lock_of x ≡ suc i = ap lock_of (sym x_at) ∙ lock in
            let own_lock : lock_of x ≡ suc r.entry = write.lock in
            absurd (ne (omega arith))
        | inr nj ↦ ap (λ (z : Entry). z.status) (get_or-set_other b.entries r.entry i e free_entry ne)
            ∙ stands.locks i j (ap lock_of (sym (get_or-set_other b.cells r.cell j x Empty nj)) ∙ lock)
      ]
    ];
    old = stands.old;
    made = stands.made;
  }
    where
      at : (i k : ℕ) → i ≡ r.cell → taken (cell_at (put r.entry e r.cell x b) i) ≡ Some k → ch.key ≡ k
      at i k is t =
          let x_at : cell_at (put r.entry e r.cell x b) i ≡ x = rw is (get_or-set_same b.cells r.cell x Empty saved.cell) in
          let a : taken x ≡ Some k = ap taken (sym x_at) ∙ t in
          let c : taken x ≡ Some ch.key = write.has_key in
          cc

      other : (i k : ℕ) → i ≢ r.cell → taken (cell_at (put r.entry e r.cell x b) i) ≡ Some k → taken (cell_at b i) ≡ Some k
      other i k ne t = ap taken (sym (get_or-set_other b.cells r.cell i x Empty ne)) ∙ t

      unique : (i j k : ℕ) → taken (cell_at (put r.entry e r.cell x b) i) ≡ Some k → taken (cell_at (put r.entry e r.cell x b) j) ≡ Some k → i ≡ j
      unique i j k ti tj = elim (cases_eq i r.cell) [
        | inl ic ↦ elim (cases_eq j r.cell) [
          | inl jc ↦ ic ∙ sym jc
          | inr nj ↦ absurd (alone j nj (other j k nj tj ∙ ap Some (sym (at i k ic ti))))
        ]
        | inr ni ↦ elim (cases_eq j r.cell) [
          | inl jc ↦ absurd (alone i ni (other i k ni ti ∙ ap Some (sym (at j k jc tj))))
          | inr nj ↦ stands.unique i j k (other i k ni ti) (other j k nj tj)
        ]
      ]

  -- the newest live change of a session put back
  pub stands_back : (w : ℕ → ℕ) (env : Env) (lives : List (List Change)) (b : Home) (s : ℕ) (ch : Change) (more : List Change)
      → own lives s ≡ ch ∷ more → Stands env w base rows list lives b
      → (r : Undo) × (env.store ch.place ≡ Some r) × Stands env w base rows list (set lives s more) (back r b)
  stands_back w env lives b s ch more has stands = stepped stands.m stands.tree
    where
      -- the entry before of a change that isn't the session's first here is open
      open_still : (m : ℕ) (c : Change) (l : List Change) (r : Undo) → more ≡ c ∷ l → s < length lives → Head env s ch (suc (length more)) b r
          → Tree env m (set lives s more) (back r b) (Walk env base rows list) → (entry_at (back r b) r.entry).status ≡ Open
      open_still zero c l r is s_in head sub =
          let none : own (set lives s more) s ≡ [] = sub.0 s in
          let some : own (set lives s more) s ≡ more = get_or-set_same lives s more [] s_in in
          absurd (cc)
      open_still (suc k) c l r is s_in head sub =
          let next : Next env k (set lives s more) (back r b) (Walk env base rows list) s c l = sub.0 s c l (get_or-set_same lives s more [] s_in ∙ is) in
          let same : next.0.entry ≡ r.entry = elim (cases_eq next.0.entry r.entry) [
            | inl at ↦ at
            | inr ne ↦
                let there : entry_at (back r b) next.0.entry ≡ entry_at b next.0.entry =
                get_or-set_other b.entries r.entry next.0.entry r.entry_before free_entry ne in
                head.only next.0.entry (
                  ap (λ (z : Entry). z.status) (sym there) ∙ next.1.status,
                  ap (λ (z : Entry). env.look z.xid) (sym there)
                      ∙ (ap env.look next.1.leads.xid ∙ head.active),
                ) (ap (λ (z : Entry). z.xid) (sym there) ∙ next.1.leads.xid)
          ] in
          subst (λ (z : ℕ). (entry_at (back r b) z).status ≡ Open) same next.1.status

      by_more : (m : ℕ) (r : Undo) (chs : List Change) → more ≡ chs → s < length lives → Head env s ch (suc (length more)) b r
          → Tree env m (set lives s more) (back r b) (Walk env base rows list) → (c : Change) → In c chs → (entry_at (back r b) r.entry).status ≡ Open
      by_more m r [] is s_in head sub c named = absurd named
      by_more m r (h ∷ l) is s_in head sub c named = open_still m h l r is s_in head sub

      locks_back : (m : ℕ) (r : Undo) → Head env s ch (suc (length more)) b r → Tree env m (set lives s more) (back r b) (Walk env base rows list)
          → Owned env lives b → (i j : ℕ) → lock_of (cell_at (back r b) j) ≡ suc i → (entry_at (back r b) i).status ≡ Open
      locks_back m r head sub owned i j lock = elim (cases_eq j r.cell) [
        | inl jc ↦
            let x_at : cell_at (back r b) j ≡ r.cell_before = rw jc (get_or-set_same b.cells r.cell r.cell_before Empty head.cell) in
            let lock_x : lock_of r.cell_before ≡ suc i = ap lock_of (sym x_at) ∙ lock in
            ⊎_elim (λ none. absurd (cc)) (λ own_lock. let l : lock_of r.cell_before ≡ suc r.entry = own_lock.0 in let same : r.entry ≡ i = omega arith in subst (λ (z : ℕ). (entry_at (back r b) z).status ≡ Open) same (ap (λ (z : Entry). z.status) (get_or-set_same b.entries r.entry r.entry_before free_entry head.within) ∙ own_lock.1)) head.lock_before
        | inr nj ↦
            let lock_b : lock_of (cell_at b j) ≡ suc i = ap lock_of (sym (get_or-set_other b.cells r.cell j r.cell_before Empty nj)) ∙ lock in
            elim (cases_eq i r.entry) [
              | inr ne ↦ ap (λ (z : Entry). z.status) (get_or-set_other b.entries r.entry i r.entry_before free_entry ne) ∙ stands.locks i j lock_b
              | inl same ↦
                  let lock_e : lock_of (cell_at b j) ≡ suc r.entry = lock_b ∙ ap suc same in
                  let f : (u : ℕ) × ((entry_at b r.entry).xid ≡ env.xid u)
                  × NamesCell env lives u j = owned r.entry j (head.status, ap env.look head.leads.xid ∙ head.active) lock_e in
                  let us : f.0 ≡ s = stands.distinct s f.0 (ap env.look (sym f.1 ∙ head.leads.xid) ∙ head.active) (sym f.1 ∙ head.leads.xid) in
                  let named : In f.2.0 (ch ∷ more) = subst (λ (z : List Change). In f.2.0 z) (ap (own lives) us ∙ has) f.2.2 in
                  let open_at : (entry_at (back r b) r.entry).status ≡ Open = ⊎_elim
                  (λ first.
                  let a : env.store ch.place ≡ Some f.2.1 = ap (λ (z : Change). env.store z.place) first ∙ f.2.3 in
                  let t : env.store ch.place ≡ Some r = head.there in
                  let same_r : r ≡ f.2.1 = cc in
                  absurd (nj (sym f.2.4 ∙ ap (λ (z : Undo). z.cell) (sym same_r))))
                  (λ later. by_more m r more refl (own_within lives s ch more has) head sub f.2.0 later)
                  named in
                  subst (λ (z : ℕ). (entry_at (back r b) z).status ≡ Open) (sym same) open_at
            ]
      ]

      stepped : (m : ℕ) → Tree env m lives b (Walk env base rows list)
          → (r : Undo) × (env.store ch.place ≡ Some r) × Stands env w base rows list (set lives s more) (back r b)
      stepped zero tree = let none : own lives s ≡ [] = tree.0 s in absurd (cc)
      stepped (suc m) tree =
          let next : Next env m lives b (Walk env base rows list) s ch more = tree.0 s ch more has in (
            next.0,
            next.1.there,
            record {
              m = m;
              tree = next.2;
              distinct = stands.distinct;
              unique = unique_back env s ch (suc (length more)) b next.0 next.1 stands.unique;
              locks = λ i j lock. locks_back m next.0 next.1 next.2 tree.3 i j lock;
              old = stands.old;
              made = stands.made;
            },
          )

  old_live : (w : ℕ → ℕ) (env : Env) (s : ℕ) → ((p : Place) (r : Undo) → env.store p ≡ Some r → p.index ≤ w p.seg)
      → (chs : List Change) (m : ℕ) (lives : List (List Change)) (b : Home) → own lives s ≡ chs → s < length lives
      → Tree env m lives b (Walk env base rows list) → OldChanges w chs
  old_live w env s made [] m lives b is s_in tree = tt
  old_live w env s made (ch ∷ more) zero lives b is s_in tree = let none : own lives s ≡ [] = tree.0 s in absurd (cc)
  old_live w env s made (ch ∷ more) (suc m) lives b is s_in tree = let next : Next env m lives b (Walk env base rows list) s ch more = tree.0 s ch more is in
      (made ch.place next.0 next.1.there, old_live w env s made more m (set lives s more) (back next.0 b) (get_or-set_same lives s more [] s_in) (simp length-set s_in) next.2)

  pub stands_commit : (w : ℕ → ℕ) (env env2 : Env) (s c : ℕ) (lives : List (List Change)) (b : Home) → s < length lives → last base list < c
      → Commits w env env2 s c → Distinct env2 → Stands env w base rows list lives b
      → Stands env2 w base rows (record { xid = env.xid s; number = c; changes = own lives s } ∷ list) (set lives s []) b
  stands_commit w env env2 s c lives b s_in later commits distinct stands = record {
    m = stands.m;
    tree = tree_commit w env env2 s c commits base rows list later stands.old stands.m lives b (own lives s) refl stands.unique s_in stands.tree;
    distinct = distinct;
    unique = stands.unique;
    locks = stands.locks;
    old = (old_live w env s stands.made (own lives s) stands.m lives b refl s_in stands.tree, stands.old);
    made = λ p r is. stands.made p r (sym (commits.store p) ∙ is);
  }
