-- A walk over commits, taken back from the greatest number on.
use Rattle.std.proofs.Common.{◌≡◌, ◌≢◌, ◌⊎◌, inl, inr, ⊎_elim, ◌<◌, ◌++◌, ◌≤◌, ◌+◌, nat_lt, ℕ, suc, Bool, if◌then◌else◌}
use Rattle.std.proofs.Common.{true, false, List, [], ◌∷◌, length, Option, Some, None, refl, sym, ◌∙◌, ap, subst, arith}
use Rattle.std.proofs.lemmas.Bool.{cases_eq, cases_lt}
use Rattle.std.proofs.lemmas.Bool.Decides.{nat_tests}
use Rattle.rb_base.specs.declared.ids.Xid.{Xid}
use Rattle.law_read.specs.Chains.{unwound, applied, and_then, spent}
use Rattle.law_read.specs.Heights.{Beyond, LookBeyond, StatusBeyond, Over, LookOver, StatusOver, Numbered}
use Rattle.law_read.specs.Heights.{AtMost, Late, LateIn}
use Rattle.law_read.specs.Heights.{BeyondIn}
use Rattle.law_read.specs.Keeping.{first_count, is_first, Kept, overlay, behind_mine, kept_after, kept_whole}
use Rattle.law_read.specs.Reading.{Honest, rows_at, count_above, flat}
use Rattle.law_read.specs.Turns.{Starts, Ends, WornIn, Peeled}
use Rattle.rb_txntable.specs.declared.looks.Look.{Look}
use Rattle.rb_txntable.specs.declared.looks.Look.TheVariants.{Active, At, Before}
use Rattle.law_home.specs.Kinds.{Status, Free, Open, Exact, Bound, Entry, Undo}
use Rattle.law_home.specs.Walk.{In, Change, Commit, Home, Env, Rows, Match, Walk, Chain, Below, LookBelow, StatusBelow}
use Rattle.law_home.specs.Walk.{Told, Leads, back, entry_at, last}
use Rattle.law_read.proofs.Keeping.{chain_keeps, chain_fits}
use Rattle.law_read.proofs.Fitting.{Fitting, commit_fitting}
use Rattle.law_read.proofs.Unwinding.{passes}
use Rattle.law_read.proofs.Wearing.{Worn, From, chain_wears}
use Rattle.law_home.proofs.Committing.{top}
use Rattle.law_read.proofs.Newest.{Newest, newest, says_most, cut, cut_count, cut_flat}

pub ends_map : (env : Env) (seg c : ℕ) (why why2 : Type 0) (P Q : Home → Type 0) (o : Option Home) → (why → why2) → ((b : Home) → o ≡ Some b → P b → Q b) → Ends env seg c why P o → Ends env seg c why2 Q o
ends_map env seg c why why2 P Q None w f ends = (ends.0, w ends.1)
ends_map env seg c why why2 P Q (Some b) w f ends = f b refl ends

pub chain_ends : (env : Env) (t : Xid) (c i : ℕ) (why : Type 0) (rest : Home → Type 0) → Honest env → (chs : List Change) (b : Home) → ((ch : Change) → In ch chs → env.store ch.place ≡ None → ch.place.seg ≡ t.seg → why) → Chain env t c i chs b rest → Fitting env t i chs b → Ends env t.seg c why rest (unwound env (length chs) i t b)
chain_ends env t c i why rest honest [] b gone chain fit = chain
chain_ends env t c i why rest honest (ch ∷ more) b gone chain fit = rw chain.0.newest (one (env.store ch.place) refl (λ r there. chain_ends env t c i why rest honest more (back r b) (λ x named none at. gone x (inr named) none at) (chain.2 r there).1 (fit r there).1))
  where
    one : (o : Option Undo) → env.store ch.place ≡ o → ((r : Undo) → env.store ch.place ≡ Some r → Ends env t.seg c why rest (unwound env (length more) i t (back r b))) → Ends env t.seg c why rest (and_then (applied i t b o) (unwound env (length more) i t))
    one None is deeper = (subst (λ (z : ℕ). c ≤ env.lost z) chain.0.seg (omega (arith, chain.1, honest ch.place is)), gone ch (inl refl) is chain.0.seg)
    one (Some r) is deeper = rw (passes r i t b (fit r is).0) (deeper r is)

in_append : (x : Change) (chs more : List Change) → In x chs ⊎ In x more → In x (chs ++ more)
in_append x [] more (inl none) = absurd none
in_append x [] more (inr named) = named
in_append x (ch ∷ chs) more (inl (inl first)) = inl first
in_append x (ch ∷ chs) more (inl (inr later)) = inr (in_append x chs more (inl later))
in_append x (ch ∷ chs) more (inr named) = inr (in_append x chs more (inr named))

pub behind_append : (mine : Option Xid) (upto : ℕ) (chs more : List Change) (over : Rows) → behind_mine mine upto (chs ++ more) over ≡ behind_mine mine upto chs (behind_mine mine upto more over)
behind_append mine upto [] more over = refl
behind_append mine upto (ch ∷ chs) more over = rw (behind_append mine upto chs more over) refl

pub first_append : (mine : Option Xid) (upto : ℕ) (chs more : List Change) → first_count mine upto (chs ++ more) ≡ first_count mine upto chs + first_count mine upto more
first_append mine upto [] more = omega arith
first_append mine upto (ch ∷ chs) more = by_first (is_first mine upto ch.xid ch.number) (first_append mine upto chs more)
  where
    by_first : (t : Bool) → first_count mine upto (chs ++ more) ≡ first_count mine upto chs + first_count mine upto more → (if t then suc (first_count mine upto (chs ++ more)) else first_count mine upto (chs ++ more)) ≡ (if t then suc (first_count mine upto chs) else first_count mine upto chs) + first_count mine upto more
    by_first true deep = omega (arith, deep)
    by_first false deep = deep

late_status : (env : Env) (n : ℕ) (xid : Xid) (status : Status) → status ≢ Open → StatusBeyond env n xid status → Late n status
late_status env n xid Free not over = over
late_status env n xid Open not over = absurd (not refl)
late_status env n xid (Exact k) not over = over
late_status env n xid (Bound b) not over = over

beyond_late : (env : Env) (n : ℕ) (e : Entry) → e.status ≢ Open → Beyond env n e → Late n e.status
beyond_late env n e not over = late_status env n e.xid e.status not over

pub late_in : (env : Env) (n seg : ℕ) (e : Entry) → e.status ≢ Open → BeyondIn env n seg e → LateIn n seg e
late_in env n seg e not over = (beyond_late env n e not over.0, over.1)

module _ (env : Env) (base : ℕ) (rows : Rows) (n : ℕ) where
  pub settled : (list : List Commit) (b : Home) → Walk env base rows list b → ((j : ℕ) → AtMost env n n (entry_at b j)) → Match b (rows_at n rows list) × (count_above n list ≡ 0) × (flat n list ≡ [])
  settled [] b walk most = (walk.is, refl, refl)
  settled (t ∷ older) b walk most = elim (cases_lt n t.number) [
    | inl lt ↦ above t.changes refl lt (settled older b)
    | inr le ↦ let test : nat_lt n t.number ≡ false = grind (arith, nat_tests) in rw test (walk.0.is, refl, refl)
  ]
    where
      above : (chs : List Change) → t.changes ≡ chs → n < t.number → (Walk env base rows older b → ((j : ℕ) → AtMost env n n (entry_at b j)) → Match b (rows_at n rows older) × (count_above n older ≡ 0) × (flat n older ≡ [])) → Match b (rows_at n rows (t ∷ older)) × (count_above n (t ∷ older) ≡ 0) × (flat n (t ∷ older) ≡ [])
      above [] is lt deeper =
          let chain : Chain env t.xid t.number walk.2.0 [] b (Walk env base rows older) = subst (λ (z : List Change). Chain env t.xid t.number walk.2.0 z b (Walk env base rows older)) is walk.2.2 in
          let d : Match b (rows_at n rows older) × (count_above n older ≡ 0) × (flat n older ≡ []) = deeper chain most in
          let z : length t.changes ≡ 0 = ap length is in
          (subst (λ (z : Rows). Match b z) (sym (cut n rows t older lt)) d.0, omega (arith, cut_count n t older lt, z, d.1), cut_flat n t older lt ∙ (ap (λ (z : List Change). z ++ flat n older) is ∙ d.2))
      above (ch ∷ more) is lt deeper =
          let told : Told env b walk.2.0 t.number (last base older) (ch ∷ more) = subst (λ (z : List Change). Told env b walk.2.0 t.number (last base older) z) is walk.2.1 in
          let low : t.number ≤ n = says_most env (entry_at b walk.2.0) t.number n n (omega arith) told.0 (most walk.2.0) in
          absurd (omega arith)

module _ (env : Env) (base : ℕ) (rows : Rows) (honest : Honest env) (n : ℕ) where
  came : (i : ℕ) (chs all : List Change) (b b2 : Home) → ((x : Change) → In x chs → In x all) → From env i chs b b2 → (j seg : ℕ) → BeyondIn env n seg (entry_at b2 j) → WornIn env n seg all b
  came i chs all b b2 inside from j seg over = elim (cases_eq j i) [
    | inl is ↦
        let at_i : BeyondIn env n seg (entry_at b2 i) = subst (λ (z : ℕ). BeyondIn env n seg (entry_at b2 z)) is over in
        ⊎_elim (λ same. inl (i, subst (λ (z : Entry). BeyondIn env n seg z) same.1 at_i)) (λ saved. inr (saved.0, inside saved.0 saved.2, inr (saved.1, saved.3, late_in env n seg saved.1.entry_before saved.4 (subst (λ (z : Entry). BeyondIn env n seg z) saved.5 at_i)))) from.here
    | inr ne ↦ inl (j, subst (λ (z : Entry). BeyondIn env n seg z) (from.others j ne) over)
  ]

  module _ (list : List Commit) (b : Home) (i c : ℕ) (high : Newest env base rows n i c b list) (is_c : Numbered env (entry_at b i) c) where
    abbrev chs : List Change
    chs = high.ch ∷ high.more

    abbrev pub Why : Type 0
    Why = WornIn env n (entry_at b i).xid.seg (flat n list) b

    leads : Leads (entry_at b i) high.xid high.ch.place (length chs)
    leads = high.chain.0

    pub fitting : Fitting env high.xid i chs b
    fitting = commit_fitting env base rows high.older high.xid c i chs b high.lower is_c high.chain

    pub spent_is : spent env b i ≡ unwound env (length chs) i high.xid b
    spent_is = rw (leads.chain, leads.xid) refl

    pub named_in : (x : Change) → In x chs ⊎ In x (flat n high.older) → In x (flat n list)
    named_in x named = subst (λ (z : List Change). In x z) (sym high.changes) (in_append x chs (flat n high.older) named)

    -- the chain taken back leaves the commits below, or a record of it is gone
    pub left_ends : Ends env (entry_at b i).xid.seg c Why (Walk env base rows high.older) (spent env b i)
    left_ends =
        let seg_is : high.xid.seg ≡ (entry_at b i).xid.seg = sym (ap (λ (z : Xid). z.seg) leads.xid) in
        let ends : Ends env high.xid.seg c Why (Walk env base rows high.older) (unwound env (length chs) i high.xid b) = chain_ends env high.xid c i Why (Walk env base rows high.older) honest chs b (λ x named none at. inr (x, named_in x (inl named), inl (none, at ∙ seg_is))) high.chain fitting in
        subst (λ (z : ℕ). Ends env z c Why (Walk env base rows high.older) (spent env b i)) seg_is (subst (λ (z : Option Home). Ends env high.xid.seg c Why (Walk env base rows high.older) z) (sym spent_is) ends)

    pub left_source : (b2 : Home) → spent env b i ≡ Some b2 → (j seg : ℕ) → BeyondIn env n seg (entry_at b2 j) → WornIn env n seg (flat n list) b
    left_source b2 is j seg over = came i chs (flat n list) b b2 (λ x named. named_in x (inl named)) (subst (λ (z : Option Home). Worn env i chs b z) (sym spent_is ∙ is) (chain_wears env high.xid c i (Walk env base rows high.older) chs b high.chain fitting)) j seg over

module _ (env : Env) (base : ℕ) (rows : Rows) (honest : Honest env) (mine : Option Xid) (upto n : ℕ) where
  abbrev pub Left : Home → ℕ → ℕ → List Commit → Home → Type 0
  Left b i c list b2 = Peeled env base rows mine upto n c (entry_at b i).chain (kept_whole env mine upto b i) list b b2

  -- an entry's chain has no more records than stand above n, and keeps no more rows than they have first changes
  abbrev pub Allows : Home → ℕ → List Commit → Type 0
  Allows b i list = ((entry_at b i).chain ≤ count_above n list) × ((kept : Kept) → length (kept_whole env mine upto b i kept) ≤ length kept + first_count mine upto (flat n list))

  pub peeled : (list : List Commit) (b : Home) (i c : ℕ) → base ≤ n → Walk env base rows list b → n < c → ((j : ℕ) → AtMost env n c (entry_at b j)) → Numbered env (entry_at b i) c
      → (c ≤ last base list) × Allows b i list × Ends env (entry_at b i).xid.seg c (WornIn env n (entry_at b i).xid.seg (flat n list) b) (Left b i c list) (spent env b i)
  peeled list b i c low walk lt most is =
      let high : Newest env base rows n i c b list = newest env base rows n i c b list low walk lt most is in
      let chs : List Change = high.ch ∷ high.more in
      let leads : Leads (entry_at b i) high.xid high.ch.place (length chs) = high.chain.0 in
      let why : Type 0 = WornIn env n (entry_at b i).xid.seg (flat n list) b in
      let saves_is : (kept : Kept) → kept_whole env mine upto b i kept ≡ kept_after env mine upto (length chs) i high.xid b kept = λ kept. rw (leads.chain, leads.xid) refl in
      let firsts : first_count mine upto (flat n list) ≡ first_count mine upto chs + first_count mine upto (flat n high.older) = ap (first_count mine upto) high.changes ∙ first_append mine upto chs (flat n high.older) in
      let fits : (kept : Kept) → length (kept_whole env mine upto b i kept) ≤ length kept + first_count mine upto chs = λ kept. subst (λ (z : Kept). length z ≤ length kept + first_count mine upto chs) (sym (saves_is kept)) (chain_fits env mine upto high.xid c i (Walk env base rows high.older) chs b kept high.chain (fitting env base rows honest n list b i c high is)) in (
        high.most,
        (omega (arith, high.count, leads.chain), λ kept. omega (arith, fits kept, firsts)),
        ends_map env (entry_at b i).xid.seg c why why (Walk env base rows high.older) (Left b i c list) (spent env b i) (λ w. w)
            (λ b2 done w. record {
              left = high.older;
              inside = λ x named. named_in env base rows honest n list b i c high is x (inr named);
              source = left_source env base rows honest n list b i c high is b2 done;
              walk = w;
              same = sym high.same;
              tail = sym high.tail;
              lower = high.lower;
              count = omega (arith, high.count, leads.chain);
              room = λ kept. omega (arith, fits kept, firsts);
              keeps = λ kept over k. ap (λ (z : Kept). overlay z (behind_mine mine upto (flat n high.older) over) k) (saves_is kept)
                  ∙ (chain_keeps env mine upto high.xid c i (Walk env base rows high.older) chs b b2 kept high.chain (fitting env base rows honest n list b i c high is) (sym (spent_is env base rows honest n list b i c high is) ∙ done) (behind_mine mine upto (flat n high.older) over) k
                  ∙ ap (λ (z : Rows). overlay kept z k) (sym (behind_append mine upto chs (flat n high.older) over) ∙ ap (λ (z : List Change). behind_mine mine upto z over) (sym high.changes)));
            }) (left_ends env base rows honest n list b i c high is),
      )

look_over : (lost : ℕ) (look : Look) (n m : ℕ) → LookOver n look → LookBelow lost look m → n < lost
look_over lost Active n m over below = absurd below
look_over lost (At k) n m over below = absurd over
look_over lost (Before b) n m over below = omega arith

status_over : (env : Env) (xid : Xid) (status : Status) (n m : ℕ) → StatusOver env n xid status → StatusBelow env xid status m → n < env.lost xid.seg
status_over env xid Free n m over below = absurd over
status_over env xid Open n m over below = look_over (env.lost xid.seg) (env.look xid) n m over below
status_over env xid (Exact k) n m over below = absurd over
status_over env xid (Bound b) n m over below = omega arith

look_beyond : (lost : ℕ) (look : Look) (n m : ℕ) → LookOver n look → LookBelow lost look m → LookBeyond n look
look_beyond lost Active n m over below = below
look_beyond lost (At k) n m over below = over
look_beyond lost (Before b) n m over below = over

status_beyond : (env : Env) (xid : Xid) (status : Status) (n m : ℕ) → StatusOver env n xid status → StatusBelow env xid status m → StatusBeyond env n xid status
status_beyond env xid Free n m over below = over
status_beyond env xid Open n m over below = look_beyond (env.lost xid.seg) (env.look xid) n m over below
status_beyond env xid (Exact k) n m over below = over
status_beyond env xid (Bound b) n m over below = over

-- where the entries of a home that is left come from: those of the one before, or its changes
module _ (env : Env) (base : ℕ) (rows : Rows) (n : ℕ) (left list : List Commit) (start b : Home) (source : (j seg : ℕ) → BeyondIn env n seg (entry_at b j) → WornIn env n seg (flat n list) start) where
  pub over_worn : Walk env base rows left b → (i : ℕ) → Over env n (entry_at b i) → (n < env.lost (entry_at b i).xid.seg) × WornIn env n (entry_at b i).xid.seg (flat n list) start
  over_worn walk i over =
      let below : Below env (entry_at b i) (last base left) = (top env base rows left b walk).below i in
      (status_over env (entry_at b i).xid (entry_at b i).status n (last base left) over below, source i (entry_at b i).xid.seg (status_beyond env (entry_at b i).xid (entry_at b i).status n (last base left) over below, refl))

  pub wider : ((ch : Change) → In ch (flat n left) → In ch (flat n list)) → (seg : ℕ) → WornIn env n seg (flat n left) b → WornIn env n seg (flat n list) start
  wider inside seg why = ⊎_elim (λ at. source at.0 seg at.1) (λ cause. inr (cause.0, inside cause.0 cause.1, cause.2)) why

module _ (env : Env) (base : ℕ) (rows : Rows) (mine : Option Xid) (upto n limit : ℕ) (list : List Commit) where
  pub begins : (b : Home) → Starts env base rows n limit list b → Peeled env base rows mine upto n limit 0 (λ kept. kept) list b b
  begins b starts = record { left = list; inside = λ x named. named; source = λ j seg over. inl (j, over); walk = starts.walk; same = refl; tail = refl; lower = starts.lower; count = omega arith; keeps = λ kept over k. refl; room = λ kept. omega arith }

  module _ (honest : Honest env) (low : base ≤ n) (limit2 d : ℕ) (f : Kept → Kept) (start b : Home) (p : Peeled env base rows mine upto n limit2 d f list start b) where
    abbrev pub Reason : ℕ → Type 0
    Reason seg = WornIn env n seg (flat n list) start

    pub fails : (i : ℕ) → Over env n (entry_at b i) → (n < env.lost (entry_at b i).xid.seg) × Reason (entry_at b i).xid.seg
    fails i over = over_worn env base rows n p.left list start b p.source p.walk i over

    pub finishes : ((j : ℕ) → AtMost env n n (entry_at b j)) → Match b (rows_at n rows list) × (d ≡ count_above n list) × ((kept : Kept) (over : Rows) (k : ℕ) → overlay (f kept) over k ≡ overlay kept (behind_mine mine upto (flat n list) over) k)
    finishes most = let s : Match b (rows_at n rows p.left) × (count_above n p.left ≡ 0) × (flat n p.left ≡ []) = settled env base rows n p.left b p.walk most in
        (subst (λ (z : Rows). Match b z) p.same s.0, omega (arith, s.1, p.count), λ kept over k. ap (λ (z : List Change). overlay (f kept) (behind_mine mine upto z over) k) (sym s.2) ∙ p.keeps kept over k)

    wide : (seg : ℕ) → WornIn env n seg (flat n p.left) b → Reason seg
    wide seg why = wider env base rows n p.left list start b p.source p.inside seg why

    pub turns : (i c : ℕ) → n < c → ((j : ℕ) → AtMost env n c (entry_at b j)) → Numbered env (entry_at b i) c → (c < limit2) × ((d + (entry_at b i).chain ≤ count_above n list) × ((kept : Kept) → length (kept_whole env mine upto b i (f kept)) ≤ length kept + first_count mine upto (flat n list))) × Ends env (entry_at b i).xid.seg c (Reason (entry_at b i).xid.seg) (Peeled env base rows mine upto n c (d + (entry_at b i).chain) (λ kept. kept_whole env mine upto b i (f kept)) list start) (spent env b i)
    turns i c lt most is = let t : (c ≤ last base p.left) × Allows env base rows honest mine upto n b i p.left × Ends env (entry_at b i).xid.seg c (WornIn env n (entry_at b i).xid.seg (flat n p.left) b) (Left env base rows honest mine upto n b i c p.left) (spent env b i) = peeled env base rows honest mine upto n p.left b i c low p.walk lt most is in (
      omega (arith, t.0, p.lower),
      (omega (arith, t.1.0, p.count), λ kept. omega (arith, t.1.1 (f kept), p.room kept)),
      ends_map env (entry_at b i).xid.seg c (WornIn env n (entry_at b i).xid.seg (flat n p.left) b) (Reason (entry_at b i).xid.seg) (Left env base rows honest mine upto n b i c p.left) (Peeled env base rows mine upto n c (d + (entry_at b i).chain) (λ kept. kept_whole env mine upto b i (f kept)) list start) (spent env b i) (wide (entry_at b i).xid.seg)
          (λ b2 is q. record { left = q.left; inside = λ x named. p.inside x (q.inside x named); source = λ j seg over. wide seg (q.source j seg over); walk = q.walk; same = q.same ∙ p.same; tail = q.tail ∙ p.tail; lower = q.lower; count = omega (arith, q.count, p.count); keeps = λ kept over k. q.keeps (f kept) over k ∙ p.keeps kept over k; room = λ kept. omega (arith, q.room (f kept), p.room kept) }) t.2,
    )
