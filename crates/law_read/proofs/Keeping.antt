-- What a chain keeps is what its first changes make of the rows.
use Rattle.std.proofs.Common.{◌≡◌, ◌≢◌, ◌⊎◌, inl, inr, ◌<◌, ◌≤◌, ◌+◌, ◌-◌, ◌&&◌, not, ℕ, zero, suc, Bool}
use Rattle.std.proofs.Common.{true, false, length-append, List, [], ◌∷◌, ◌++◌, length, set, Option, Some, None, refl}
use Rattle.std.proofs.Common.{sym, ◌∙◌, ap, subst, arith, if◌then◌else◌}
use Rattle.std.proofs.lemmas.Bool.{cases_eq}
use Rattle.std.proofs.lemmas.Bool.Decides.{nat_tests}
use Rattle.std.proofs.lemmas.List.{get_or-set_same, get_or-set_other, length-set}
use Rattle.rb_base.specs.declared.ids.Xid.{Xid}
use Rattle.rb_model.specs.Change.{Kind, Put, Gone, Held, Place}
use Rattle.law_read.specs.Chains.{same_xid, unwound, and_then, applied, stepped, fits}
use Rattle.law_read.specs.Keeping.{Kept, is_mine, is_first, first_count, has, overlay, is_held, keep, kept_one}
use Rattle.law_read.specs.Keeping.{kept_go, kept_after, behind_mine}
use Rattle.law_home.specs.Kinds.{sort_of, Undo}
use Rattle.law_home.specs.Walk.{Head, Tree, Next, IsActive, own, free_entry, Change, Home, Env, Rows, Chain, Names}
use Rattle.law_home.specs.Walk.{changed, row_of, cell_at, entry_at, back}
use Rattle.law_read.proofs.Fitting.{Fitting, live_fitting}
use Rattle.law_read.proofs.Unwinding.{passes, of_this, is_same}
use Rattle.law_home.proofs.Committing.{changed_other}

-- rows that agree at a key
pub overlay_same : (kept : Kept) (rows rows2 : Rows) (k : ℕ) → rows k ≡ rows2 k → overlay kept rows k ≡ overlay kept rows2 k
overlay_same [] rows rows2 k same = same
overlay_same (x ∷ kept) rows rows2 k same = rw (overlay_same kept rows rows2 k same) refl

-- a key that is kept hides what lies below
hidden : (kept : Kept) (rows rows2 : Rows) (k : ℕ) → has kept k ≡ true → overlay kept rows k ≡ overlay kept rows2 k
hidden [] rows rows2 k is = cc
hidden (x ∷ kept) rows rows2 k is = elim (cases_eq k x.0) [
  | inl same ↦ grind (arith, nat_tests)
  | inr ne ↦ let h : has kept k ≡ true = grind (arith, nat_tests) in let d : overlay kept rows k ≡ overlay kept rows2 k = hidden kept rows rows2 k h in grind (arith, nat_tests)
]

more_at : (kept : Kept) (key : ℕ) (v : Option (List ℕ)) (rows : Rows) → has kept key ≡ false → overlay (kept ++ (key, v) ∷ []) rows key ≡ v
more_at [] key v rows not = grind (arith, nat_tests)
more_at (x ∷ kept) key v rows not = elim (cases_eq key x.0) [
  | inl same ↦ absurd (grind (arith, nat_tests))
  | inr ne ↦ let h : has kept key ≡ false = grind (arith, nat_tests) in let d : overlay (kept ++ (key, v) ∷ []) rows key ≡ v = more_at kept key v rows h in grind (arith, nat_tests)
]

none_at : (kept : Kept) (rows : Rows) (k : ℕ) → has kept k ≡ false → overlay kept rows k ≡ rows k
none_at [] rows k not = refl
none_at (x ∷ kept) rows k not = elim (cases_eq k x.0) [
  | inl same ↦ absurd (grind (arith, nat_tests))
  | inr ne ↦ let h : has kept k ≡ false = grind (arith, nat_tests) in let d : overlay kept rows k ≡ rows k = none_at kept rows k h in grind (arith, nat_tests)
]

more_other : (kept : Kept) (key : ℕ) (v : Option (List ℕ)) (rows : Rows) (k : ℕ) → k ≢ key → overlay (kept ++ (key, v) ∷ []) rows k ≡ overlay kept rows k
more_other [] key v rows k ne = grind (arith, nat_tests)
more_other (x ∷ kept) key v rows k ne = let d : overlay (kept ++ (key, v) ∷ []) rows k ≡ overlay kept rows k = more_other kept key v rows k ne in rw d refl

-- what a change makes at its own key, whatever lies below
own_value : (kind : Kind) (key : ℕ) (rows rows2 : Rows) → is_held (sort_of kind) ≡ false → changed kind key rows key ≡ changed kind key rows2 key
own_value (Put v) key rows rows2 not = grind (arith, nat_tests)
own_value Gone key rows rows2 not = grind (arith, nat_tests)
own_value Held key rows rows2 not = absurd (cc)

held_same : (kind : Kind) (key : ℕ) (rows : Rows) (k : ℕ) → is_held (sort_of kind) ≡ true → changed kind key rows k ≡ rows k
held_same (Put v) key rows k is = absurd (cc)
held_same Gone key rows k is = absurd (cc)
held_same Held key rows k is = refl

pub bools : (b : Bool) → (b ≡ true) ⊎ (b ≡ false)
bools true = inl refl
bools false = inr refl

keep_step : (mine : Option Xid) (upto : ℕ) (r : Undo) (b : Home) (kept : Kept) (ch : Change) (rows : Rows) (k : ℕ) → r.xid ≡ ch.xid → r.number ≡ ch.number → r.key ≡ ch.key → r.sort ≡ sort_of ch.kind → ((k : ℕ) → row_of (cell_at b r.cell) k ≡ changed ch.kind ch.key (row_of r.cell_before) k) → overlay (keep mine upto r b kept) rows k ≡ overlay kept (if is_first mine upto ch.xid ch.number then changed ch.kind ch.key rows else rows) k
keep_step mine upto r b kept ch rows k xid number key sort shows = rw (xid, number, key, sort) (by_number (is_first mine upto ch.xid ch.number) refl)
  where
    by_key : is_held (sort_of ch.kind) ≡ false → has kept ch.key ≡ false → overlay (kept ++ (ch.key, row_of (cell_at b r.cell) ch.key) ∷ []) rows k ≡ overlay kept (changed ch.kind ch.key rows) k
    by_key not new = elim (cases_eq k ch.key) [
      | inl is ↦ rw is (more_at kept ch.key (row_of (cell_at b r.cell) ch.key) rows new ∙ (shows ch.key ∙ (own_value ch.kind ch.key (row_of r.cell_before) rows not ∙ sym (none_at kept (changed ch.kind ch.key rows) ch.key new))))
      | inr ne ↦ more_other kept ch.key (row_of (cell_at b r.cell) ch.key) rows k ne ∙ overlay_same kept rows (changed ch.kind ch.key rows) k (sym (changed_other ch.kind ch.key rows k ne))
    ]

    old_key : has kept ch.key ≡ true → overlay kept rows k ≡ overlay kept (changed ch.kind ch.key rows) k
    old_key is = elim (cases_eq k ch.key) [
      | inl same ↦ hidden kept rows (changed ch.kind ch.key rows) k (rw same is)
      | inr ne ↦ overlay_same kept rows (changed ch.kind ch.key rows) k (sym (changed_other ch.kind ch.key rows k ne))
    ]

    by_number : (t : Bool) → (is_first mine upto ch.xid ch.number) ≡ t → overlay (if t && (not (is_held (sort_of ch.kind)) && not (has kept ch.key)) then kept ++ (ch.key, row_of (cell_at b r.cell) ch.key) ∷ [] else kept) rows k ≡ overlay kept (if t then changed ch.kind ch.key rows else rows) k
    by_number false is = refl
    by_number true is = elim (bools (is_held (sort_of ch.kind))) [
      | inl held ↦ rw held (overlay_same kept rows (changed ch.kind ch.key rows) k (sym (held_same ch.kind ch.key rows k held)))
      | inr not_held ↦ elim (bools (has kept ch.key)) [
        | inl there ↦ rw (not_held, there) (old_key there)
        | inr new ↦ rw (not_held, new) (by_key not_held new)
      ]
    ]

-- one step of a chain whose record is there
pub one_more : (env : Env) (mine : Option Xid) (upto n i : ℕ) (xid : Xid) (r : Undo) (b : Home) (kept : Kept) → env.store (entry_at b i).newest ≡ Some r → fits i xid b r ≡ true → kept_after env mine upto (suc n) i xid b kept ≡ kept_after env mine upto n i xid (back r b) (keep mine upto r b kept)
one_more env mine upto n i xid r b kept there test = rw (there, test) refl

pub chain_keeps : (env : Env) (mine : Option Xid) (upto : ℕ) (t : Xid) (c i : ℕ) (rest : Home → Type 0) (chs : List Change) (b b2 : Home) (kept : Kept) → Chain env t c i chs b rest → Fitting env t i chs b → unwound env (length chs) i t b ≡ Some b2 → (rows : Rows) (k : ℕ) → overlay (kept_after env mine upto (length chs) i t b kept) rows k ≡ overlay kept (behind_mine mine upto chs rows) k
chain_keeps env mine upto t c i rest [] b b2 kept chain fit is rows k = refl
chain_keeps env mine upto t c i rest (ch ∷ more) b b2 kept chain fit is rows k = by_store (env.store ch.place) refl (λ r there kept2 deep. chain_keeps env mine upto t c i rest more (back r b) b2 kept2 (chain.2 r there).1 (fit r there).1 deep rows k)
  where
    place : (entry_at b i).newest ≡ ch.place
    place = chain.0.newest

    is2 : and_then (applied i t b (env.store ch.place)) (unwound env (length more) i t) ≡ Some b2
    is2 = ap (λ (z : Place). and_then (applied i t b (env.store z)) (unwound env (length more) i t)) (sym place) ∙ is

    by_store : (o : Option Undo) → env.store ch.place ≡ o
        → ((r : Undo) → env.store ch.place ≡ Some r → (kept2 : Kept) → unwound env (length more) i t (back r b) ≡ Some b2 → overlay (kept_after env mine upto (length more) i t (back r b) kept2) rows k ≡ overlay kept2 (behind_mine mine upto more rows) k)
        → overlay (kept_after env mine upto (suc (length more)) i t b kept) rows k ≡ overlay kept (behind_mine mine upto (ch ∷ more) rows) k
    by_store None there deeper = let gone : and_then (applied i t b None) (unwound env (length more) i t) ≡ Some b2 = subst (λ (z : Option Undo). and_then (applied i t b z) (unwound env (length more) i t) ≡ Some b2) there is2 in absurd (cc (gone))
    by_store (Some r) there deeper =
        let names : Names r t i ch (length more) b = (chain.2 r there).0 in
        let step : and_then (applied i t b (Some r)) (unwound env (length more) i t) ≡ Some b2 = subst (λ (z : Option Undo). and_then (applied i t b z) (unwound env (length more) i t) ≡ Some b2) there is2 in
        let deep : unwound env (length more) i t (back r b) ≡ Some b2 = ap (λ (z : Option Home). and_then z (unwound env (length more) i t)) (sym (passes r i t b (fit r there).0)) ∙ step in
        let here : env.store (entry_at b i).newest ≡ Some r = ap env.store place ∙ there in
        let one : kept_after env mine upto (suc (length more)) i t b kept ≡ kept_after env mine upto (length more) i t (back r b) (keep mine upto r b kept) = one_more env mine upto (length more) i t r b kept here (fit r there).0 in
        ap (λ (z : Kept). overlay z rows k) one ∙ (deeper r there (keep mine upto r b kept) deep ∙ keep_step mine upto r b kept ch (behind_mine mine upto more rows) k (names.xid ∙ sym names.of) names.number names.key names.sort names.shows)

other_mine : (mine : Option Xid) (xid : Xid) → Some xid ≢ mine → is_mine mine xid ≡ false
other_mine None xid ne = refl
other_mine (Some own) xid ne = by_test (same_xid own xid) refl
  where
    by_test : (t : Bool) → same_xid own xid ≡ t → t ≡ false
    by_test true same = absurd (ne (ap Some (sym (is_same own xid same))))
    by_test false other = refl

-- a chain of another transaction keeps nothing
pub other_keeps : (env : Env) (mine : Option Xid) (upto n i : ℕ) (xid : Xid) (b : Home) (kept : Kept) → Some xid ≢ mine → kept_after env mine upto n i xid b kept ≡ kept
other_keeps env mine upto zero i xid b kept ne = refl
other_keeps env mine upto (suc n) i xid b kept ne = by_store (env.store (entry_at b i).newest) (λ b2. other_keeps env mine upto n i xid b2 kept ne)
  where
    not_mine : (r : Undo) → r.xid ≡ xid → keep mine upto r b kept ≡ kept
    not_mine r is = let test : is_mine mine r.xid ≡ false = other_mine mine r.xid (λ same. ne (ap Some (sym is) ∙ same)) in rw test refl

    by_store : (o : Option Undo) → ((b2 : Home) → kept_after env mine upto n i xid b2 kept ≡ kept) → kept_go (applied i xid b o) (λ b2. kept_after env mine upto n i xid b2 (kept_one mine upto i xid b o kept)) kept ≡ kept
    by_store None deeper = refl
    by_store (Some r) deeper = elim (bools (fits i xid b r)) [
      | inl yes_fits ↦ let same : r.xid ≡ xid = of_this i xid b r yes_fits in let k : keep mine upto r b kept ≡ kept = not_mine r same in rw (yes_fits) (ap (λ (z : Kept). kept_after env mine upto n i xid (back r b) z) k ∙ deeper (back r b))
      | inr no_fit ↦ rw no_fit refl
    ]

-- a live chain keeps what its first changes make of the rows
pub live_keeps : (env : Env) (rest : Home → Type 0) (s i : ℕ) (mine : Option Xid) (upto : ℕ) (chs : List Change) (m : ℕ) (lives : List (List Change)) (b : Home) (kept : Kept) → own lives s ≡ chs → s < length lives → ((j : ℕ) → IsActive env (entry_at b j) → (entry_at b j).xid ≡ env.xid s → j ≡ i) → Tree env m lives b rest → (over : Rows) (k : ℕ) → overlay (kept_after env mine upto (length chs) i (env.xid s) b kept) over k ≡ overlay kept (behind_mine mine upto chs over) k
live_keeps env rest s i mine upto [] m lives b kept is s_in only tree over k = refl
live_keeps env rest s i mine upto (ch ∷ more) zero lives b kept is s_in only tree over k = let none : own lives s ≡ [] = tree.0 s in cc
live_keeps env rest s i mine upto (ch ∷ more) (suc m) lives b kept is s_in only tree over k =
    let next : Next env m lives b rest s ch more = tree.0 s ch more is in
    let head : Head env s ch (suc (length more)) b next.0 = next.1 in
    let at : next.0.entry ≡ i = only next.0.entry (head.status, ap env.look head.leads.xid ∙ head.active) head.leads.xid in
    let place : (entry_at b i).newest ≡ ch.place = subst (λ (z : ℕ). (entry_at b z).newest ≡ ch.place) at head.leads.newest in
    let here : env.store (entry_at b i).newest ≡ Some next.0 = ap env.store place ∙ head.there in
    let one : kept_after env mine upto (suc (length more)) i (env.xid s) b kept ≡ kept_after env mine upto (length more) i (env.xid s) (back next.0 b) (keep mine upto next.0 b kept) = one_more env mine upto (length more) i (env.xid s) next.0 b kept here (live_fitting env rest s i ch more m lives b is only next) in
    let deeper : overlay (kept_after env mine upto (length more) i (env.xid s) (back next.0 b) (keep mine upto next.0 b kept)) over k ≡ overlay (keep mine upto next.0 b kept) (behind_mine mine upto more over) k = live_keeps env rest s i mine upto more m (set lives s more) (back next.0 b) (keep mine upto next.0 b kept) (get_or-set_same lives s more [] s_in) (simp length-set s_in)
    (λ j active same. elim (cases_eq j next.0.entry) [
      | inl je ↦ je ∙ at
      | inr ne ↦ only j (rw (sym (get_or-set_other b.entries next.0.entry j next.0.entry_before free_entry ne)) active) (rw (sym (get_or-set_other b.entries next.0.entry j next.0.entry_before free_entry ne)) same)
    ]) next.2 over k in
    ap (λ (z : Kept). overlay z over k) one ∙ (deeper ∙ keep_step mine upto next.0 b kept ch (behind_mine mine upto more over) k (head.xid ∙ sym head.of) head.number head.key head.sort head.shows)

-- a step of the loop over a chain
pub kept_on : (env : Env) (mine : Option Xid) (upto n k i : ℕ) (xid : Xid) (b b2 : Home) (kept kept2 : Kept) → k < n → stepped env i xid b ≡ Some b2 → kept2 ≡ kept_one mine upto i xid b (env.store (entry_at b i).newest) kept → kept_after env mine upto (n - k) i xid b kept ≡ kept_after env mine upto (n - (k + 1)) i xid b2 kept2
kept_on env mine upto n k i xid b b2 kept kept2 lt step is = ap (λ (z : ℕ). kept_after env mine upto z i xid b kept) e ∙ (ap (λ (z : Option Home). kept_go z (λ b2. kept_after env mine upto (n - (k + 1)) i xid b2 (kept_one mine upto i xid b (env.store (entry_at b i).newest) kept)) kept) step ∙ ap (kept_after env mine upto (n - (k + 1)) i xid b2) (sym is))
  where
    e : n - k ≡ suc (n - (k + 1))
    e = omega arith

-- one change keeps one row at most, and only where it is one of the first
keep_fits : (mine : Option Xid) (upto : ℕ) (r : Undo) (b : Home) (kept : Kept) (ch : Change) (more : List Change) → r.xid ≡ ch.xid → r.number ≡ ch.number
    → length (keep mine upto r b kept) + first_count mine upto more ≤ length kept + first_count mine upto (ch ∷ more)
keep_fits mine upto r b kept ch more xid number = rw (xid, number) (by_first (is_first mine upto ch.xid ch.number))
  where
    by_new : (t : Bool) → length (if t then kept ++ (r.key, row_of (cell_at b r.cell) r.key) ∷ [] else kept) + first_count mine upto more ≤ length kept + suc (first_count mine upto more)
    by_new true = let long : length (kept ++ (r.key, row_of (cell_at b r.cell) r.key) ∷ []) ≡ length kept + 1 = length-append kept ((r.key, row_of (cell_at b r.cell) r.key) ∷ []) in omega (arith, long)
    by_new false = omega arith

    by_first : (t : Bool) → length (if t && (not (is_held r.sort) && not (has kept r.key)) then kept ++ (r.key, row_of (cell_at b r.cell) r.key) ∷ [] else kept) + first_count mine upto more ≤ length kept + (if t then suc (first_count mine upto more) else first_count mine upto more)
    by_first true = by_new (not (is_held r.sort) && not (has kept r.key))
    by_first false = omega arith

-- a chain keeps no more rows than it has first changes, also where one of its records is gone
pub chain_fits : (env : Env) (mine : Option Xid) (upto : ℕ) (t : Xid) (c i : ℕ) (rest : Home → Type 0) (chs : List Change) (b : Home) (kept : Kept) → Chain env t c i chs b rest → Fitting env t i chs b → length (kept_after env mine upto (length chs) i t b kept) ≤ length kept + first_count mine upto chs
chain_fits env mine upto t c i rest [] b kept chain fit = omega arith
chain_fits env mine upto t c i rest (ch ∷ more) b kept chain fit = by_store (env.store ch.place) refl (λ r there kept2. chain_fits env mine upto t c i rest more (back r b) kept2 (chain.2 r there).1 (fit r there).1)
  where
    by_store : (o : Option Undo) → env.store ch.place ≡ o
        → ((r : Undo) → env.store ch.place ≡ Some r → (kept2 : Kept) → length (kept_after env mine upto (length more) i t (back r b) kept2) ≤ length kept2 + first_count mine upto more)
        → length (kept_after env mine upto (suc (length more)) i t b kept) ≤ length kept + first_count mine upto (ch ∷ more)
    by_store None there deeper = let here : env.store (entry_at b i).newest ≡ None = ap env.store chain.0.newest ∙ there in rw here (omega arith)
    by_store (Some r) there deeper =
        let names : Names r t i ch (length more) b = (chain.2 r there).0 in
        let here : env.store (entry_at b i).newest ≡ Some r = ap env.store chain.0.newest ∙ there in
        let one : kept_after env mine upto (suc (length more)) i t b kept ≡ kept_after env mine upto (length more) i t (back r b) (keep mine upto r b kept) = one_more env mine upto (length more) i t r b kept here (fit r there).0 in
        let deep : length (kept_after env mine upto (length more) i t (back r b) (keep mine upto r b kept)) ≤ length (keep mine upto r b kept) + first_count mine upto more = deeper r there (keep mine upto r b kept) in
        let fits : length (keep mine upto r b kept) + first_count mine upto more ≤ length kept + first_count mine upto (ch ∷ more) = keep_fits mine upto r b kept ch more (names.xid ∙ sym names.of) names.number in
        let long : length (kept_after env mine upto (suc (length more)) i t b kept) ≡ length (kept_after env mine upto (length more) i t (back r b) (keep mine upto r b kept)) = ap length one in
        omega (arith, deep, fits, long)

pub live_fits : (env : Env) (rest : Home → Type 0) (s i : ℕ) (mine : Option Xid) (upto : ℕ) (chs : List Change) (m : ℕ) (lives : List (List Change)) (b : Home) (kept : Kept) → own lives s ≡ chs → s < length lives → ((j : ℕ) → IsActive env (entry_at b j) → (entry_at b j).xid ≡ env.xid s → j ≡ i) → Tree env m lives b rest → length (kept_after env mine upto (length chs) i (env.xid s) b kept) ≤ length kept + first_count mine upto chs
live_fits env rest s i mine upto [] m lives b kept is s_in only tree = omega arith
live_fits env rest s i mine upto (ch ∷ more) zero lives b kept is s_in only tree = let none : own lives s ≡ [] = tree.0 s in absurd (cc (none, is))
live_fits env rest s i mine upto (ch ∷ more) (suc m) lives b kept is s_in only tree =
    let next : Next env m lives b rest s ch more = tree.0 s ch more is in
    let head : Head env s ch (suc (length more)) b next.0 = next.1 in
    let at : next.0.entry ≡ i = only next.0.entry (head.status, ap env.look head.leads.xid ∙ head.active) head.leads.xid in
    let place : (entry_at b i).newest ≡ ch.place = subst (λ (z : ℕ). (entry_at b z).newest ≡ ch.place) at head.leads.newest in
    let here : env.store (entry_at b i).newest ≡ Some next.0 = ap env.store place ∙ head.there in
    let one : kept_after env mine upto (suc (length more)) i (env.xid s) b kept ≡ kept_after env mine upto (length more) i (env.xid s) (back next.0 b) (keep mine upto next.0 b kept) = one_more env mine upto (length more) i (env.xid s) next.0 b kept here (live_fitting env rest s i ch more m lives b is only next) in
    let deep : length (kept_after env mine upto (length more) i (env.xid s) (back next.0 b) (keep mine upto next.0 b kept)) ≤ length (keep mine upto next.0 b kept) + first_count mine upto more = live_fits env rest s i mine upto more m (set lives s more) (back next.0 b) (keep mine upto next.0 b kept) (get_or-set_same lives s more [] s_in) (simp length-set s_in)
    (λ j active same. elim (cases_eq j next.0.entry) [
      | inl je ↦ je ∙ at
      | inr ne ↦ only j (rw (sym (get_or-set_other b.entries next.0.entry j next.0.entry_before free_entry ne)) active) (rw (sym (get_or-set_other b.entries next.0.entry j next.0.entry_before free_entry ne)) same)
    ]) next.2 in
    let fits : length (keep mine upto next.0 b kept) + first_count mine upto more ≤ length kept + first_count mine upto (ch ∷ more) = keep_fits mine upto next.0 b kept ch more (head.xid ∙ sym head.of) head.number in
    let long : length (kept_after env mine upto (suc (length more)) i (env.xid s) b kept) ≡ length (kept_after env mine upto (length more) i (env.xid s) (back next.0 b) (keep mine upto next.0 b kept)) = ap length one in
    omega (arith, deep, fits, long)

-- what is kept stays
keep_grows : (mine : Option Xid) (upto : ℕ) (r : Undo) (b : Home) (kept : Kept) → length kept ≤ length (keep mine upto r b kept)
keep_grows mine upto r b kept = by_test (is_first mine upto r.xid r.number && (not (is_held r.sort) && not (has kept r.key)))
  where
    by_test : (t : Bool) → length kept ≤ length (if t then kept ++ (r.key, row_of (cell_at b r.cell) r.key) ∷ [] else kept)
    by_test true = let long : length (kept ++ (r.key, row_of (cell_at b r.cell) r.key) ∷ []) ≡ length kept + 1 = length-append kept ((r.key, row_of (cell_at b r.cell) r.key) ∷ []) in omega (arith, long)
    by_test false = omega arith

pub kept_grows : (env : Env) (mine : Option Xid) (upto n i : ℕ) (xid : Xid) (b : Home) (kept : Kept) → length kept ≤ length (kept_after env mine upto n i xid b kept)
kept_grows env mine upto zero i xid b kept = omega arith
kept_grows env mine upto (suc n) i xid b kept = by_store (env.store (entry_at b i).newest) (λ b2 kept2. kept_grows env mine upto n i xid b2 kept2)
  where
    by_store : (o : Option Undo) → ((b2 : Home) (kept2 : Kept) → length kept2 ≤ length (kept_after env mine upto n i xid b2 kept2)) → length kept ≤ length (kept_go (applied i xid b o) (λ b2. kept_after env mine upto n i xid b2 (kept_one mine upto i xid b o kept)) kept)
    by_store None deeper = omega arith
    by_store (Some r) deeper = elim (bools (fits i xid b r)) [
      | inl yes_fits ↦ let k : length kept ≤ length (keep mine upto r b kept) = keep_grows mine upto r b kept in let d : length (keep mine upto r b kept) ≤ length (kept_after env mine upto n i xid (back r b) (keep mine upto r b kept)) = deeper (back r b) (keep mine upto r b kept) in rw yes_fits (omega (arith, k, d))
      | inr no_fit ↦ rw no_fit (omega arith)
    ]
