-- Live changes taken back, one active entry after another.
use Rattle.std.proofs.Common.{◌⊎◌, ⊎_elim, ◌≡◌, ◌≢◌, inl, inr, ◌<◌, ◌≤◌, ◌+◌, ℕ, zero, suc, List, []}
use Rattle.std.proofs.Common.{◌∷◌, length, set, Option, Some, None, refl, sym, ◌∙◌, ap, subst, arith}
use Rattle.std.proofs.lemmas.Bool.{cases_eq}
use Rattle.std.proofs.lemmas.List.{get_or-set_same, get_or-set_other, length-set, set-set, set-get_or}
use Rattle.rb_base.specs.declared.ids.Xid.{Xid}
use Rattle.rb_model.specs.Change.{Place}
use Rattle.law_read.specs.Chains.{spent, stepped, unwound, applied, and_then}
use Rattle.law_read.specs.Heights.{BeyondIn}
use Rattle.law_read.specs.Keeping.{kept_whole, first_count, Kept, kept_after, overlay, behind_mine}
use Rattle.law_read.specs.Reading.{total, Runs, Reader}
use Rattle.law_read.specs.Turns.{WornLive, Running}
use Rattle.law_home.specs.Kinds.{Open, Entry, Undo}
use Rattle.law_home.specs.Walk.{In, Change, Commit, Home, Env, Rows, Walk, Head, Tree, Next, IsActive, AllEmpty}
use Rattle.law_home.specs.Walk.{Distinct, own, back, entry_at, free_entry}
use Rattle.law_read.proofs.Keeping.{other_keeps, live_keeps, live_fits}
use Rattle.law_read.proofs.Peeling.{late_in}
use Rattle.law_read.proofs.Fitting.{live_fitting}
use Rattle.law_read.proofs.Unwinding.{passes}
use Rattle.law_read.proofs.Wearing.{Saved, live_from}
use Rattle.law_home.proofs.Lives.{own_within, found, first}
use Rattle.law_home.proofs.Writing.{moved}

total_set : (lives : List (List Change)) (s : ℕ) → s < length lives → total (set lives s []) + length (own lives s) ≡ total lives
total_set [] s lt = absurd (omega arith)
total_set (l ∷ lives) zero lt = omega arith
total_set (l ∷ lives) (suc s) lt = let h : total (set lives s []) + length (own lives s) ≡ total lives = total_set lives s (omega arith) in omega arith

total_empty : (lives : List (List Change)) → AllEmpty lives → total lives ≡ 0
total_empty [] none = refl
total_empty (l ∷ lives) none = let h : length l ≡ 0 = ap length (none 0) in let t : total lives ≡ 0 = total_empty lives (λ s. none (suc s)) in omega arith

module _ (env : Env) (rest : Home → Type 0) (s i : ℕ) where
  abbrev Ended : List (List Change) → Home → Option Home → Type 0
  Ended lives b None = ⊥
  Ended lives b (Some b2) = (m2 : ℕ) × Tree env m2 (set lives s []) b2 rest × (IsActive env (entry_at b2 i) → (entry_at b2 i).xid ≡ env.xid s) × ((j : ℕ) → j ≢ i → entry_at b2 j ≡ entry_at b j) × (length b2.entries ≡ length b.entries)

  ended_map : (lives lives2 : List (List Change)) (b b2 : Home) (o : Option Home) → set lives2 s [] ≡ set lives s [] → ((j : ℕ) → j ≢ i → entry_at b2 j ≡ entry_at b j) → length b2.entries ≡ length b.entries → Ended lives2 b2 o → Ended lives b o
  ended_map lives lives2 b b2 None lists others long end = end
  ended_map lives lives2 b b2 (Some x) lists others long end = (end.0, moved env end.0 (set lives2 s []) (set lives s []) x x rest lists refl end.1, end.2, λ j ne. end.3 j ne ∙ others j ne, end.4 ∙ long)

  live_ends : (chs : List Change) (m : ℕ) (lives : List (List Change)) (b : Home) → own lives s ≡ chs → ((j : ℕ) → IsActive env (entry_at b j) → (entry_at b j).xid ≡ env.xid s → j ≡ i) → (IsActive env (entry_at b i) → (entry_at b i).xid ≡ env.xid s) → Tree env m lives b rest → Ended lives b (unwound env (length chs) i (env.xid s) b)
  live_ends [] m lives b is only mine tree = (m, moved env m lives (set lives s []) b b rest (sym (set-get_or lives s []) ∙ ap (set lives s) is) refl tree, mine, λ j ne. refl, refl)
  live_ends (ch ∷ more) zero lives b is only mine tree = let none : own lives s ≡ [] = tree.0 s in absurd (cc)
  live_ends (ch ∷ more) (suc m) lives b is only mine tree =
      let next : Next env m lives b rest s ch more = tree.0 s ch more is in
      let head : Head env s ch (suc (length more)) b next.0 = next.1 in
      let at : next.0.entry ≡ i = only next.0.entry (head.status, ap env.look head.leads.xid ∙ head.active) head.leads.xid in
      let place : (entry_at b i).newest ≡ ch.place = subst (λ (z : ℕ). (entry_at b z).newest ≡ ch.place) at head.leads.newest in
      let taken : stepped env i (env.xid s) b ≡ Some (back next.0 b) = ap (λ (z : Place). applied i (env.xid s) b (env.store z)) place ∙ (ap (applied i (env.xid s) b) head.there ∙ passes next.0 i (env.xid s) b (live_fitting env rest s i ch more m lives b is only next)) in
      let here : entry_at (back next.0 b) next.0.entry ≡ next.0.entry_before = get_or-set_same b.entries next.0.entry next.0.entry_before free_entry head.within in
      let here_i : entry_at (back next.0 b) i ≡ next.0.entry_before = subst (λ (z : ℕ). entry_at (back next.0 b) z ≡ next.0.entry_before) at here in
      let others : (j : ℕ) → j ≢ i → entry_at (back next.0 b) j ≡ entry_at b j = λ j ne. get_or-set_other b.entries next.0.entry j next.0.entry_before free_entry (λ je. ne (je ∙ at)) in
      let deeper : Ended (set lives s more) (back next.0 b) (unwound env (length more) i (env.xid s) (back next.0 b)) = live_ends more m (set lives s more) (back next.0 b)
      (get_or-set_same lives s more [] (own_within lives s ch more is))
      (λ j active same. elim (cases_eq j i) [
        | inl je ↦ je
        | inr ne ↦ only j (rw (sym (others j ne)) active) (rw (sym (others j ne)) same)
      ])
      (λ active. let open_before : next.0.entry_before.status ≡ Open = ap (λ (z : Entry). z.status) (sym here_i) ∙ active.0 in ap (λ (z : Entry). z.xid) here_i ∙ (head.entry_before open_before ∙ head.xid))
      next.2 in
      let ended : Ended lives b (unwound env (length more) i (env.xid s) (back next.0 b)) = ended_map lives (set lives s more) b (back next.0 b) (unwound env (length more) i (env.xid s) (back next.0 b)) (set-set lives s more []) others (simp length-set) deeper in
      subst (λ (z : Option Home). Ended lives b (and_then z (unwound env (length more) i (env.xid s)))) (sym taken) ended

path : (a b c : Option Home) → a ≡ b → b ≡ c → a ≡ c
path a b c p q = p ∙ q

module _ (env : Env) (base : ℕ) (rows : Rows) (list : List Commit) (lives : List (List Change)) (r : ℕ) (mine : Option Xid) (upto n : ℕ) (start : Home) where
  pub starts_running : (m : ℕ) → Runs env base rows list m lives start → Running env base rows list lives r mine upto n 0 0 (λ kept. kept) start start
  starts_running m runs = record { m = m; left = lives; tree = runs.tree; long = refl; none = λ j lt active. absurd (omega arith); count = omega arith; inside = λ s ch named. named; source = λ j seg beyond. inl (j, beyond); keeps = λ kept over k. refl; room = λ kept. omega arith }

  pub passes_by : (k d : ℕ) (f : Kept → Kept) (b : Home) → Running env base rows list lives r mine upto n k d f start b → (IsActive env (entry_at b k) → ⊥) → Running env base rows list lives r mine upto n (k + 1) d f start b
  passes_by k d f b run not = record { m = run.m; left = run.left; tree = run.tree; long = run.long; none = λ j lt active. elim (cases_eq j k) [ inl jk ↦ not (subst (λ (z : ℕ). IsActive env (entry_at b z)) jk active) | inr ne ↦ run.none j (omega arith) active ]; count = run.count; inside = run.inside; source = run.source; keeps = run.keeps; room = run.room }

module _ (env : Env) (base : ℕ) (rows : Rows) (list : List Commit) (lives : List (List Change)) (distinct : Distinct env) (r : ℕ) (mine : Option Xid) (upto n : ℕ) (start : Home) where
  abbrev pub Found : List (List Change) → Home → ℕ → Type 0
  Found left b k = (s : ℕ) × (ch : Change) × (more : List Change) × (own left s ≡ ch ∷ more) × ((entry_at b k).xid ≡ env.xid s)

  abbrev pub Turned : ℕ → ℕ → (Kept → Kept) → Option Home → Type 0
  Turned k d f None = ⊥
  Turned k d f (Some b) = Running env base rows list lives r mine upto n (k + 1) d f start b

  abbrev pub saves : Home → ℕ → (Kept → Kept) → Kept → Kept
  saves b k f kept = kept_after env mine upto (entry_at b k).chain k (entry_at b k).xid b (f kept)

  pub takes_back : (k d : ℕ) (f : Kept → Kept) (b : Home) → Reader env r mine → Running env base rows list lives r mine upto n k d f start b → IsActive env (entry_at b k) → Turned k (d + (entry_at b k).chain) (saves b k f) (unwound env (entry_at b k).chain k (entry_at b k).xid b)
  takes_back k d f b reader run active =
      let fd : Found run.left b k = found env (Walk env base rows list) run.m run.left b k active run.tree in
      let h : (r : Undo) × Head env fd.0 fd.1 (suc (length fd.2)) b r = first env (Walk env base rows list) run.m run.left b fd.0 fd.1 fd.2 fd.3 run.tree in
      let at : k ≡ h.0.entry = h.1.only k active fd.4 in
      let chain : (entry_at b k).chain ≡ suc (length fd.2) = ap (λ (z : ℕ). (entry_at b z).chain) at ∙ h.1.leads.chain in
      let only : (j : ℕ) → IsActive env (entry_at b j) → (entry_at b j).xid ≡ env.xid fd.0 → j ≡ k = λ j act same. h.1.only j act same ∙ sym at in
      let end : Ended env (Walk env base rows list) fd.0 k run.left b (unwound env (suc (length fd.2)) k (env.xid fd.0) b) = live_ends env (Walk env base rows list) fd.0 k (fd.1 ∷ fd.2) run.m run.left b fd.3 only (λ act. fd.4) run.tree in
      let end2 : Ended env (Walk env base rows list) fd.0 k run.left b (unwound env (entry_at b k).chain k (entry_at b k).xid b) = rw (chain, fd.4) end in
      let kept_is : (kept : Kept) (over : Rows) (j : ℕ) → overlay (kept_after env mine upto (entry_at b k).chain k (entry_at b k).xid b kept) over j ≡ overlay kept (behind_mine mine upto (fd.1 ∷ fd.2) over) j = λ kept over j. rw (chain, fd.4) (live_keeps env (Walk env base rows list) fd.0 k mine upto (fd.1 ∷ fd.2) run.m run.left b kept fd.3 (own_within run.left fd.0 fd.1 fd.2 fd.3) only run.tree over j) in
      let from : (b2 : Home) → unwound env (entry_at b k).chain k (entry_at b k).xid b ≡ Some b2 → (((fd.1 ∷ fd.2) ≡ []) × (entry_at b2 k ≡ entry_at b k)) ⊎ Saved env (fd.1 ∷ fd.2) b2 k = λ b2 done. live_from env (Walk env base rows list) fd.0 k (fd.1 ∷ fd.2) run.m run.left b b2 fd.3 (own_within run.left fd.0 fd.1 fd.2 fd.3) only run.tree (path (unwound env (suc (length fd.2)) k (env.xid fd.0) b) (unwound env (entry_at b k).chain k (entry_at b k).xid b) (Some b2) (rw (chain, fd.4) refl) done) in
      let fits : (kept : Kept) → length (kept_after env mine upto (entry_at b k).chain k (entry_at b k).xid b kept) ≤ length kept + first_count mine upto (fd.1 ∷ fd.2) = λ kept. rw (chain, fd.4) (live_fits env (Walk env base rows list) fd.0 k mine upto (fd.1 ∷ fd.2) run.m run.left b kept fd.3 (own_within run.left fd.0 fd.1 fd.2 fd.3) only run.tree) in
      turned (unwound env (entry_at b k).chain k (entry_at b k).xid b) fd.0 fd.1 fd.2 fd.3 fd.4 chain kept_is fits from end2
    where
      turned : (o : Option Home) (s : ℕ) (ch : Change) (more : List Change) → own run.left s ≡ ch ∷ more → (entry_at b k).xid ≡ env.xid s → (entry_at b k).chain ≡ suc (length more) → ((kept : Kept) (over : Rows) (j : ℕ) → overlay (kept_after env mine upto (entry_at b k).chain k (entry_at b k).xid b kept) over j ≡ overlay kept (behind_mine mine upto (ch ∷ more) over) j) → ((kept : Kept) → length (kept_after env mine upto (entry_at b k).chain k (entry_at b k).xid b kept) ≤ length kept + first_count mine upto (ch ∷ more)) → ((b2 : Home) → o ≡ Some b2 → (((ch ∷ more) ≡ []) × (entry_at b2 k ≡ entry_at b k)) ⊎ Saved env (ch ∷ more) b2 k) → Ended env (Walk env base rows list) s k run.left b o → Turned k (d + (entry_at b k).chain) (saves b k f) o
      turned None s ch more has xid chain kept_is fits from end = end
      turned (Some b2) s ch more has xid chain kept_is fits from end = record {
        m = end.0;
        left = set run.left s [];
        tree = end.1;
        long = end.4 ∙ run.long;
        none = λ j lt act. elim (cases_eq j k) [
          | inl jk ↦ gone (subst (λ (z : ℕ). IsActive env (entry_at b2 z)) jk act)
          | inr ne ↦ run.none j (omega arith) (rw (sym (end.3 j ne)) act)
        ];
        count = omega (arith, total_set run.left s (own_within run.left s ch more has), run.count, chain, ap length has);
        inside = λ u c named. elim (cases_eq u s) [
          | inl us ↦ absurd (subst (λ (z : List Change). In c z) (ap (own (set run.left s [])) us ∙ get_or-set_same run.left s [] [] (own_within run.left s ch more has)) named)
          | inr ne ↦ run.inside u c (subst (λ (z : List Change). In c z) (get_or-set_other run.left s u [] [] ne) named)
        ];
        source = λ j seg beyond. elim (cases_eq j k) [
          | inl jk ↦
              let at_k : BeyondIn env n seg (entry_at b2 k) = subst (λ (z : ℕ). BeyondIn env n seg (entry_at b2 z)) jk beyond in
              ⊎_elim (λ same. run.source k seg (subst (λ (z : Entry). BeyondIn env n seg z) same.1 at_k)) (λ saved. inr (s, saved.0, run.inside s saved.0 (subst (λ (z : List Change). In saved.0 z) (sym has) saved.2), inr (saved.1, saved.3, late_in env n seg saved.1.entry_before saved.4 (subst (λ (z : Entry). BeyondIn env n seg z) saved.5 at_k)))) (from b2 refl)
          | inr ne ↦ run.source j seg (subst (λ (z : Entry). BeyondIn env n seg z) (end.3 j ne) beyond)
        ];
        room = λ kept. elim (cases_eq r s) [
          | inl rs ↦
              let nothing : first_count mine upto (own (set run.left s []) r) ≡ 0 = ap (first_count mine upto) (ap (own (set run.left s [])) rs ∙ get_or-set_same run.left s [] [] (own_within run.left s ch more has)) in
              let all : first_count mine upto (own run.left r) ≡ first_count mine upto (ch ∷ more) = ap (first_count mine upto) (ap (own run.left) rs ∙ has) in
              omega (arith, nothing, all, fits (f kept), run.room kept)
          | inr ne ↦
              let other : Some ((entry_at b k).xid) ≢ mine = λ is. ne (sym (reader s (ap env.look (sym xid) ∙ active.1) (ap Some (sym xid) ∙ is))) in
              let same : length (saves b k f kept) ≡ length (f kept) = ap length (other_keeps env mine upto (entry_at b k).chain k (entry_at b k).xid b (f kept) other) in
              let left : first_count mine upto (own (set run.left s []) r) ≡ first_count mine upto (own run.left r) = ap (first_count mine upto) (get_or-set_other run.left s r [] [] ne) in
              omega (arith, same, left, run.room kept)
        ];
        keeps = λ kept over j. elim (cases_eq r s) [
          | inl rs ↦
              let nothing : own (set run.left s []) r ≡ [] = ap (own (set run.left s [])) rs ∙ get_or-set_same run.left s [] [] (own_within run.left s ch more has) in
              let all : own run.left r ≡ ch ∷ more = ap (own run.left) rs ∙ has in
              ap (λ (z : List Change). overlay (saves b k f kept) (behind_mine mine upto z over) j) nothing ∙ (kept_is (f kept) over j ∙ (ap (λ (z : List Change). overlay (f kept) (behind_mine mine upto z over) j) (sym all) ∙ run.keeps kept over j))
          | inr ne ↦
              let other : Some ((entry_at b k).xid) ≢ mine = λ is. ne (sym (reader s (ap env.look (sym xid) ∙ active.1) (ap Some (sym xid) ∙ is))) in
              let same : saves b k f kept ≡ f kept = other_keeps env mine upto (entry_at b k).chain k (entry_at b k).xid b (f kept) other in
              ap (λ (z : Kept). overlay z (behind_mine mine upto (own (set run.left s []) r) over) j) same ∙ (ap (λ (z : List Change). overlay (f kept) (behind_mine mine upto z over) j) (get_or-set_other run.left s r [] [] ne) ∙ run.keeps kept over j)
        ];
      }
        where
          gone : IsActive env (entry_at b2 k) → ⊥
          gone act =
              let fd : Found (set run.left s []) b2 k = found env (Walk env base rows list) end.0 (set run.left s []) b2 k act end.1 in
              let us : fd.0 ≡ s = distinct s fd.0 (ap env.look (sym fd.4) ∙ act.1) (sym fd.4 ∙ end.2 act) in
              let none : own (set run.left s []) fd.0 ≡ [] = ap (own (set run.left s [])) us ∙ get_or-set_same run.left s [] [] (own_within run.left s ch more has) in
              let some : own (set run.left s []) fd.0 ≡ fd.1 ∷ fd.2 = fd.3 in
              cc

  -- an active entry's chain is no longer than what is left, and keeps no more rows than the reader's first changes
  pub allows : (k d : ℕ) (f : Kept → Kept) (b : Home) → Reader env r mine → Running env base rows list lives r mine upto n k d f start b → IsActive env (entry_at b k) → (d + (entry_at b k).chain ≤ total lives) × ((kept : Kept) → length (saves b k f kept) ≤ length kept + first_count mine upto (own lives r))
  allows k d f b reader run active =
      let fd : Found run.left b k = found env (Walk env base rows list) run.m run.left b k active run.tree in
      let h : (r : Undo) × Head env fd.0 fd.1 (suc (length fd.2)) b r = first env (Walk env base rows list) run.m run.left b fd.0 fd.1 fd.2 fd.3 run.tree in
      let at : k ≡ h.0.entry = h.1.only k active fd.4 in
      let chain : (entry_at b k).chain ≡ suc (length fd.2) = ap (λ (z : ℕ). (entry_at b z).chain) at ∙ h.1.leads.chain in
      let only : (j : ℕ) → IsActive env (entry_at b j) → (entry_at b j).xid ≡ env.xid fd.0 → j ≡ k = λ j act same. h.1.only j act same ∙ sym at in
      let within : fd.0 < length run.left = own_within run.left fd.0 fd.1 fd.2 fd.3 in
      let fits : (kept : Kept) → length (kept_after env mine upto (entry_at b k).chain k (entry_at b k).xid b kept) ≤ length kept + first_count mine upto (fd.1 ∷ fd.2) = λ kept. rw (chain, fd.4) (live_fits env (Walk env base rows list) fd.0 k mine upto (fd.1 ∷ fd.2) run.m run.left b kept fd.3 within only run.tree) in (
        omega (arith, total_set run.left fd.0 within, run.count, chain, ap length fd.3),
        λ kept. elim (cases_eq r fd.0) [
          | inl rs ↦
              let all : first_count mine upto (own run.left r) ≡ first_count mine upto (fd.1 ∷ fd.2) = ap (first_count mine upto) (ap (own run.left) rs ∙ fd.3) in
              omega (arith, all, fits (f kept), run.room kept)
          | inr ne ↦
              let other : Some ((entry_at b k).xid) ≢ mine = λ is. ne (sym (reader fd.0 (ap env.look (sym fd.4) ∙ active.1) (ap Some (sym fd.4) ∙ is))) in
              let same : length (saves b k f kept) ≡ length (f kept) = ap length (other_keeps env mine upto (entry_at b k).chain k (entry_at b k).xid b (f kept) other) in
              omega (arith, same, run.room kept)
        ],
      )

  pub taken_back : (k d : ℕ) (f : Kept → Kept) (b : Home) → Running env base rows list lives r mine upto n k d f start b → length b.entries ≤ k → Walk env base rows list b × (d ≡ total lives) × ((kept : Kept) (over : Rows) (j : ℕ) → overlay (f kept) over j ≡ overlay kept (behind_mine mine upto (own lives r) over) j) × ((kept : Kept) → length (f kept) ≤ length kept + first_count mine upto (own lives r)) × ((j seg : ℕ) → BeyondIn env n seg (entry_at b j) → WornLive env n seg lives start)
  taken_back k d f b run all = (leaf run.m run.tree, omega (arith, run.count, total_empty run.left empty), λ kept over j. ap (λ (z : List Change). overlay (f kept) (behind_mine mine upto z over) j) (sym (empty r)) ∙ run.keeps kept over j, λ kept. omega (arith, run.room kept), run.source)
    where
      empty_at : (s : ℕ) (chs : List Change) → own run.left s ≡ chs → own run.left s ≡ []
      empty_at s [] is = is
      empty_at s (ch ∷ more) is =
          let h : (r : Undo) × Head env s ch (suc (length more)) b r = first env (Walk env base rows list) run.m run.left b s ch more is run.tree in
          absurd (run.none h.0.entry (omega (arith, h.1.within)) (h.1.status, ap env.look h.1.leads.xid ∙ h.1.active))

      empty : AllEmpty run.left
      empty s = empty_at s (own run.left s) refl

      leaf : (m : ℕ) → Tree env m run.left b (Walk env base rows list) → Walk env base rows list b
      leaf zero tree = tree.2
      leaf (suc m) tree = tree.2 empty

  pub taken_whole : (k d : ℕ) (f : Kept → Kept) (b : Home) → Reader env r mine → Running env base rows list lives r mine upto n k d f start b → IsActive env (entry_at b k)
      → (b2 : Home) × (spent env b k ≡ Some b2) × Running env base rows list lives r mine upto n (k + 1) (d + (entry_at b k).chain) (λ kept. kept_whole env mine upto b k (f kept)) start b2
  taken_whole k d f b reader run active = by_end (spent env b k) refl (takes_back k d f b reader run active)
    where
      by_end : (o : Option Home) → spent env b k ≡ o → Turned k (d + (entry_at b k).chain) (saves b k f) o
          → (b2 : Home) × (spent env b k ≡ Some b2) × Running env base rows list lives r mine upto n (k + 1) (d + (entry_at b k).chain) (λ kept. kept_whole env mine upto b k (f kept)) start b2
      by_end None is turned = absurd turned
      by_end (Some b2) is turned = (b2, is, turned)
