-- Which commit above a number was the first to change a key, seen while chains are taken back.
use Rattle.std.proofs.Common.{◌≡◌, ◌<◌, ◌≤◌, ◌++◌, ◌||◌, ℕ, Bool, true, false, if◌then◌else◌, inl, inr}
use Rattle.std.proofs.Common.{List, [], ◌∷◌, length, Option, Some, None, refl, sym, ◌∙◌, ap, arith}
use Rattle.std.proofs.lemmas.Bool.{cases_lt}
use Rattle.std.specs.List.{list_any}
use Rattle.rb_base.specs.declared.ids.Xid.{Xid}
use Rattle.rb_model.specs.Change.{Kind, Put, Gone, Held}
use Rattle.rb_model.specs.Late.{is_held}
use Rattle.law_read.specs.Chains.{unwound, applied, and_then, spent}
use Rattle.law_read.specs.Heights.{AtMost, Numbered, Over}
use Rattle.law_read.specs.Keeping as sorts
use Rattle.law_read.specs.Late.{changes_key, earlier, late_above, touches, touched, touched_go, touched_after, seen_at}
use Rattle.law_read.specs.Reading.{History, Honest, Reading, flat}
use Rattle.law_read.specs.Turns.{Ends, Starts, Watched, WornIn}
use Rattle.law_home.specs.Kinds.{sort_of, Undo}
use Rattle.law_home.specs.Walk.{Change, Commit, Home, Env, Rows, Walk, Chain, Names, Leads, back, entry_at}
use Rattle.law_read.proofs.Newest.{Newest, newest, cut_flat, earlier_none, late_past, here_none}
use Rattle.law_read.proofs.Peeling.{ends_map, fitting, left_ends, left_source, named_in, over_worn, settled, spent_is, wider}
use Rattle.law_read.proofs.Quiet.{quiet_commits}
use Rattle.law_read.proofs.Fitting.{Fitting}
use Rattle.law_read.proofs.Unwinding.{passes}

held_is : (kind : Kind) → sorts.is_held (sort_of kind) ≡ is_held kind
held_is (Put v) = refl
held_is Gone = refl
held_is Held = refl

-- the record of a change changes the key where the change does
touches_is : (key : ℕ) (r : Undo) (ch : Change) → r.key ≡ ch.key → r.sort ≡ sort_of ch.kind → touches key (Some r) ≡ changes_key key ch
touches_is key r ch same sort = rw (same, sort, held_is ch.kind) refl

-- a chain that is taken back whole tells whether one of its changes changes the key
chain_touches : (env : Env) (key : ℕ) (t : Xid) (c i : ℕ) (rest : Home → Type 0) (chs : List Change) (b b2 : Home) → Chain env t c i chs b rest → Fitting env t i chs b → unwound env (length chs) i t b ≡ Some b2 → touched_after env key (length chs) i t b ≡ list_any (changes_key key) chs
chain_touches env key t c i rest [] b b2 chain fit is = refl
chain_touches env key t c i rest (ch ∷ more) b b2 chain fit is =
    ap (λ (z : Option Undo). touches key z || touched_go (applied i t b z) (touched_after env key (length more) i t)) place
    ∙ by_store (env.store ch.place) refl is2 (λ r there deep. chain_touches env key t c i rest more (back r b) b2 (chain.2 r there).1 (fit r there).1 deep)
  where
    place : env.store (entry_at b i).newest ≡ env.store ch.place
    place = ap env.store chain.0.newest

    is2 : and_then (applied i t b (env.store ch.place)) (unwound env (length more) i t) ≡ Some b2
    is2 = ap (λ (z : Option Undo). and_then (applied i t b z) (unwound env (length more) i t)) (sym place) ∙ is

    by_store : (o : Option Undo) → env.store ch.place ≡ o → and_then (applied i t b o) (unwound env (length more) i t) ≡ Some b2
        → ((r : Undo) → env.store ch.place ≡ Some r → unwound env (length more) i t (back r b) ≡ Some b2 → touched_after env key (length more) i t (back r b) ≡ list_any (changes_key key) more)
        → touches key o || touched_go (applied i t b o) (touched_after env key (length more) i t) ≡ list_any (changes_key key) (ch ∷ more)
    by_store None there gone deeper = absurd (cc (gone))
    by_store (Some r) there step deeper =
        let names : Names r t i ch (length more) b = (chain.2 r there).0 in
        let taken : applied i t b (Some r) ≡ Some (back r b) = passes r i t b (fit r there).0 in
        let deep : unwound env (length more) i t (back r b) ≡ Some b2 = ap (λ (z : Option Home). and_then z (unwound env (length more) i t)) (sym taken) ∙ step in
        ap (λ (z : Option Home). touches key (Some r) || touched_go z (touched_after env key (length more) i t)) taken
        ∙ ap (λ (z : Bool). z || touched_after env key (length more) i t (back r b)) (touches_is key r ch names.key names.sort)
        ∙ ap (λ (z : Bool). changes_key key ch || z) (deeper r there deep)

-- where no change is above n, none is of the key
pub late_none : (n key : ℕ) (list : List Commit) → flat n list ≡ [] → late_above n key list ≡ None
late_none n key [] none = refl
late_none n key (t ∷ older) none = elim (cases_lt n t.number) [
  | inl lt ↦ above t.changes refl lt (late_none n key older)
  | inr le ↦ here_none n key t older le
]
  where
    above : (chs : List Change) → t.changes ≡ chs → n < t.number → (flat n older ≡ [] → late_above n key older ≡ None) → late_above n key (t ∷ older) ≡ None
    above [] nothing lt deeper = late_past n key t older lt nothing ∙ deeper (sym (ap (λ (z : List Change). z ++ flat n older) nothing) ∙ (sym (cut_flat n t older lt) ∙ none))
    above (ch ∷ more) some lt deeper =
        let wrong : ch ∷ (more ++ flat n older) ≡ [] = sym (ap (λ (z : List Change). z ++ flat n older) some) ∙ (sym (cut_flat n t older lt) ∙ none) in
        absurd (cc (wrong))

later_first : (o least : Option ℕ) (t : Bool) (c : ℕ) → earlier (earlier o (if t then Some c else None)) least ≡ earlier o (seen_at c t least)
later_first None least true c = refl
later_first None least false c = refl
later_first (Some a) least t c = refl

module _ (env : Env) (base : ℕ) (rows : Rows) (n key : ℕ) (list : List Commit) where
  pub watch_begins : (limit : ℕ) (b : Home) → Starts env base rows n limit list b → Watched env base rows n key limit None list b b
  watch_begins limit b starts = record { left = list; inside = λ x named. named; source = λ j seg over. inl (j, over); walk = starts.walk; lower = starts.lower; late = sym (earlier_none (late_above n key list)) }

  module _ (below : ℕ) (least : Option ℕ) (start b : Home) (p : Watched env base rows n key below least list start b) where
    pub watched_over : (i : ℕ) → Over env n (entry_at b i) → (n < env.lost (entry_at b i).xid.seg) × WornIn env n (entry_at b i).xid.seg (flat n list) start
    watched_over i over = over_worn env base rows n p.left list start b p.source p.walk i over

    pub watch_ends : ((j : ℕ) → AtMost env n n (entry_at b j)) → late_above n key list ≡ least
    watch_ends most = p.late ∙ ap (λ (z : Option ℕ). earlier z least) (late_none n key p.left (settled env base rows n p.left b p.walk most).2)

    pub watches : Honest env → base ≤ n → (i c : ℕ) → n < c → ((j : ℕ) → AtMost env n c (entry_at b j)) → Numbered env (entry_at b i) c
        → (c < below) × Ends env (entry_at b i).xid.seg c (WornIn env n (entry_at b i).xid.seg (flat n list) start) (Watched env base rows n key c (seen_at c (touched env key b i) least) list start) (spent env b i)
    watches honest low i c lt most is =
        let high : Newest env base rows n i c b p.left = newest env base rows n i c b p.left low p.walk lt most is in
        let chs : List Change = high.ch ∷ high.more in
        let leads : Leads (entry_at b i) high.xid high.ch.place (length chs) = high.chain.0 in
        let seg : ℕ = (entry_at b i).xid.seg in
        let wide : (seg : ℕ) → WornIn env n seg (flat n p.left) b → WornIn env n seg (flat n list) start = wider env base rows n p.left list start b p.source p.inside in (
          omega (arith, high.most, p.lower),
          ends_map env seg c (WornIn env n seg (flat n p.left) b) (WornIn env n seg (flat n list) start) (Walk env base rows high.older) (Watched env base rows n key c (seen_at c (touched env key b i) least) list start) (spent env b i) (wide seg)
              (λ b2 done w.
              let touched_is : touched env key b i ≡ list_any (changes_key key) chs = rw (leads.chain, leads.xid) (chain_touches env key high.xid c i (Walk env base rows high.older) chs b b2 high.chain (fitting env base rows honest n p.left b i c high is) (sym (spent_is env base rows honest n p.left b i c high is) ∙ done)) in
              record {
                left = high.older;
                inside = λ x named. p.inside x (named_in env base rows honest n p.left b i c high is x (inr named));
                source = λ j seg over. wide seg (left_source env base rows honest n p.left b i c high is b2 done j seg over);
                walk = w;
                lower = high.lower;
                late = p.late ∙ ap (λ (z : Option ℕ). earlier z least) (high.late key) ∙ later_first (late_above n key high.older) least (list_any (changes_key key) chs) c ∙ ap (λ (z : Bool). earlier (late_above n key high.older) (seen_at c z least)) (sym touched_is);
              })
              (left_ends env base rows honest n p.left b i c high is),
        )

pub quiet_late : (env : Env) (h : History) (mine : Option Xid) (upto n key : ℕ) (b : Home) → Reading env h mine upto n b → ((j : ℕ) → AtMost env n n (entry_at b j)) → late_above n key h.list ≡ None
quiet_late env h mine upto n key b reading most = late_none n key h.list (quiet_commits env h mine upto n b reading most).2
