-- The loop that looks for the first commit to change a key: what each turn leaves, and what the answer then says.
use Rattle.std.proofs.Common.{◌≡◌, ◌<◌, ◌≤◌, ◌+◌, ◌-◌, ◌^◌, ◌||◌, ℕ, suc, Bool, true, false, List, [], ◌∷◌, Option, Some, None}
use Rattle.std.proofs.Common.{Ok, refl, sym, ◌∙◌, ap, subst, arith}
use Rattle.rb_base.specs.declared.ids.Xid.{Xid}
use Rattle.rb_cr.specs.Parts.{Highest}
use Rattle.rb_cr.specs.declared.visible.HighestEntry.{HighestEntry}
use Rattle.law_read.specs.Chains.{spent, stepped}
use Rattle.law_read.specs.Heights.{AtMost}
use Rattle.law_read.specs.Keeping.{first_count}
use Rattle.law_read.specs.Late.{late_above, seen_at, touched, touched_after, touched_go, touches}
use Rattle.law_read.specs.Reading.{History, Reading, flat}
use Rattle.law_read.specs.Turns.{Ends, Starts, Watched, WornIn}
use Rattle.law_home.specs.Walk.{Change, Commit, Home, Env, Rows, entry_at, own}
use Rattle.law_read.proofs.Watching.{watch_begins, watch_ends, watches}

-- a step of the loop over a chain
pub touched_on : (env : Env) (key n k i : ℕ) (xid : Xid) (b b2 : Home) → k < n → stepped env i xid b ≡ Some b2
    → touched_after env key (n - k) i xid b ≡ touches key (env.store (entry_at b i).newest) || touched_after env key (n - (k + 1)) i xid b2
touched_on env key n k i xid b b2 lt step =
    ap (λ (z : ℕ). touched_after env key z i xid b) e
    ∙ ap (λ (z : Option Home). touches key (env.store (entry_at b i).newest) || touched_go z (touched_after env key (n - (k + 1)) i xid)) step
  where
    e : n - k ≡ suc (n - (k + 1))
    e = omega arith

pub or_later : (a b c : Bool) → (a || b) || c ≡ a || (b || c)
or_later true b c = refl
or_later false b c = refl

module _ (env : Env) (base : ℕ) (rows : Rows) (list : List Commit) (n key : ℕ) (start : Home) (st : Starts env base rows n (2 ^ 64 - 1) list start) where
  pub seen_first : (least : Option ℕ) → least ≡ None → Watched env base rows n key (2 ^ 64 - 1) least list start start
  seen_first least none = subst (λ (z : Option ℕ). Watched env base rows n key (2 ^ 64 - 1) z list start start) (sym none) (watch_begins env base rows n key list (2 ^ 64 - 1) start st)

  module _ (limit : ℕ) (least : Option ℕ) (b : Home) (w : Watched env base rows n key limit least list start b) (top : HighestEntry) (highest : Highest env n b (Ok top)) where
    pub seen_done : top.number ≤ n → least ≡ late_above n key list
    seen_done le =
        let is : top.number ≡ n = omega (arith, highest.ok.0) in
        sym (watch_ends env base rows n key list limit least start b w (subst (λ (z : ℕ). (j : ℕ) → AtMost env n z (entry_at b j)) is highest.ok.1))

    pub seen_on : n < top.number → (b2 : Home) (changes : Bool) (first : Option ℕ) → spent env b top.entry ≡ Some b2 → changes ≡ touched env key b top.entry → first ≡ seen_at top.number changes least
        → Watched env base rows n key top.number first list start b2
    seen_on above b2 changes first done seen is =
        let turn : (top.number < limit) × Ends env (entry_at b top.entry).xid.seg top.number (WornIn env n (entry_at b top.entry).xid.seg (flat n list) start) (Watched env base rows n key top.number (seen_at top.number (touched env key b top.entry) least) list start) (spent env b top.entry) = watches env base rows n key list limit least start b w st.honest st.low top.entry top.number above highest.ok.1 (highest.ok.2 above) in
        subst (λ (z : Option ℕ). Watched env base rows n key top.number z list start b2) (sym (is ∙ ap (λ (z : Bool). seen_at top.number z least) seen))
        (subst (λ (z : Option Home). Ends env (entry_at b top.entry).xid.seg top.number (WornIn env n (entry_at b top.entry).xid.seg (flat n list) start) (Watched env base rows n key top.number (seen_at top.number (touched env key b top.entry) least) list start) z) done turn.1)

first_none : (chs : List Change) → first_count None 0 chs ≡ 0
first_none [] = refl
first_none (ch ∷ more) = first_none more

-- who has no transaction reads what any reader may
pub by_nobody : (env : Env) (h : History) (mine : Option Xid) (upto n : ℕ) (b : Home) → Reading env h mine upto n b → Reading env h None 0 n b
by_nobody env h mine upto n b reading = record {
  m = reading.m;
  runs = reading.runs;
  honest = reading.honest;
  low = reading.low;
  lower = reading.lower;
  alone = λ s active is. absurd (cc (is));
  few = omega (arith, first_none (own h.lives h.reader), first_none (flat n h.list));
}
