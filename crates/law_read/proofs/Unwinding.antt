-- Chains taken back, one record after another.
use Rattle.std.proofs.Common.{◌≡◌, ◌≢◌, ◌<◌, ◌+◌, ◌-◌, ◌==◌, ◌&&◌, nat_lt, ℕ, zero, suc, Bool, true, false, if◌then◌else◌}
use Rattle.std.proofs.Common.{length, Option, Some, None, refl, ◌∙◌, ap}
use Rattle.std.proofs.Common.{arith}
use Rattle.std.proofs.lemmas.Bool.Decides.{nat_tests}
use Rattle.rb_base.specs.declared.ids.Xid.{Xid}
use Rattle.law_read.specs.Chains.{same_xid, stepped, applied, unwound, and_then, Stops, fits, names, is_own, leads_back, number_falls}
use Rattle.law_home.specs.Kinds.{Status, Free, Open, Exact, Bound, Entry, Undo}
use Rattle.law_home.specs.Walk.{Home, Env, back, entry_at}
use Rattle.law_home.specs.Writes.{is_open}

pub step_on : (env : Env) (n k i : ℕ) (xid : Xid) (b : Home) (o : Option Home) → k < n → stepped env i xid b ≡ o → unwound env (n - k) i xid b ≡ and_then o (unwound env (n - (k + 1)) i xid)
step_on env n k i xid b o lt step = ap (λ (z : ℕ). unwound env z i xid b) e ∙ ap (λ (z : Option Home). and_then z (unwound env (n - (k + 1)) i xid)) step
  where
    e : n - k ≡ suc (n - (k + 1))
    e = omega arith

-- the test of transactions is that they are one
pub same_itself : (x : Xid) → same_xid x x ≡ true
same_itself x = grind (arith, nat_tests)

pub same_is : (a b : Xid) → a ≡ b → same_xid a b ≡ true
same_is a b is = rw is (same_itself b)

abbrev xid_of : ℕ → ℕ → ℕ → Xid
xid_of s t w = record { seg = s; slot = t; wrap = w }

pub is_same : (a b : Xid) → same_xid a b ≡ true → a ≡ b
is_same a b same =
    let s : a.seg ≡ b.seg = grind (arith, nat_tests) in
    let t : a.slot ≡ b.slot = grind (arith, nat_tests) in
    let w : a.wrap ≡ b.wrap = grind (arith, nat_tests) in
    ap (λ (z : ℕ). xid_of z a.slot a.wrap) s ∙ (ap (λ (z : ℕ). xid_of b.seg z a.wrap) t ∙ ap (λ (z : ℕ). xid_of b.seg b.slot z) w)

not_open : (s : Status) → s ≢ Open → is_open s ≡ false
not_open Free not = refl
not_open Open not = absurd (not refl)
not_open (Exact k) not = refl
not_open (Bound b) not = refl

pub leads_own : (xid : Xid) (e before : Entry) → before.status ≡ Open → before.xid ≡ xid → before.chain + 1 ≡ e.chain → leads_back xid e before ≡ true
leads_own xid e before is_open_still same shorter =
    let own : is_own xid before ≡ true = rw is_open_still (same_is before.xid xid same) in
    let test : (before.chain + 1 == e.chain) ≡ true = grind (arith, nat_tests) in
    rw (own, test) refl

pub leads_other : (xid : Xid) (e before : Entry) → before.status ≢ Open → e.chain ≡ 1 → number_falls before.status e.status ≡ true → leads_back xid e before ≡ true
leads_other xid e before not one falls =
    let own : is_own xid before ≡ false = ap (λ (t : Bool). t && same_xid before.xid xid) (not_open before.status not) in
    let test : (e.chain == 1) ≡ true = grind (arith, nat_tests) in
    rw (own, test) falls

pub fits_record : (i : ℕ) (xid : Xid) (b : Home) (r : Undo) → r.entry ≡ i → r.xid ≡ xid → r.home ≡ b.block → r.cell < length b.cells → leads_back xid (entry_at b i) r.entry_before ≡ true → fits i xid b r ≡ true
fits_record i xid b r e x h c leads =
    let same : same_xid r.xid xid ≡ true = same_is r.xid xid x in
    let at : (r.entry == i) ≡ true = grind (arith, nat_tests) in
    let here : (r.home == b.block) ≡ true = grind (arith, nat_tests) in
    let there : nat_lt r.cell (length b.cells) ≡ true = grind (arith, nat_tests) in
    rw (at, same, here, there) leads

pub passes : (r : Undo) (i : ℕ) (xid : Xid) (b : Home) → fits i xid b r ≡ true → applied i xid b (Some r) ≡ Some (back r b)
passes r i xid b is = ap (λ (t : Bool). if t then Some (back r b) else None) is

-- a record that fits is of this transaction
pub of_this : (i : ℕ) (xid : Xid) (b : Home) (r : Undo) → fits i xid b r ≡ true → r.xid ≡ xid
of_this i xid b r is = is_same r.xid xid (both_parts (same_xid r.xid xid) (r.home == b.block && nat_lt r.cell (length b.cells)) (both_parts (r.entry == i) (same_xid r.xid xid && (r.home == b.block && nat_lt r.cell (length b.cells))) (both_parts (names i xid b r) (leads_back xid (entry_at b i) r.entry_before) is).0).1).0
  where
    both_parts : (t rest : Bool) → t && rest ≡ true → (t ≡ true) × (rest ≡ true)
    both_parts true rest is = (refl, is)
    both_parts false rest is = absurd (cc (is))

-- one record more is taken back
pub unwound_more : (env : Env) (k i : ℕ) (xid : Xid) (b b2 : Home) (o : Option Home) → unwound env k i xid b ≡ Some b2 → stepped env i xid b2 ≡ o → unwound env (k + 1) i xid b ≡ o
unwound_more env k i xid b b2 o is step = ap (λ (z : ℕ). unwound env z i xid b) e ∙ later k b is
  where
    e : k + 1 ≡ suc k
    e = omega arith

    same : (b3 : Home) → Some b3 ≡ Some b2 → b3 ≡ b2
    same b3 is = cc

    later : (k : ℕ) (b : Home) → unwound env k i xid b ≡ Some b2 → unwound env (suc k) i xid b ≡ o
    later zero b is = ap (λ (z : Home). and_then (stepped env i xid z) (unwound env zero i xid)) (same b is) ∙ (ap (λ (z : Option Home). and_then z (unwound env zero i xid)) step ∙ whole o)
      where
        whole : (o : Option Home) → and_then o (unwound env zero i xid) ≡ o
        whole None = refl
        whole (Some b3) = refl
    later (suc k) b is = by_step (stepped env i xid b) (later k) is
      where
        by_step : (s : Option Home) → ((b3 : Home) → unwound env k i xid b3 ≡ Some b2 → unwound env (suc k) i xid b3 ≡ o) → and_then s (unwound env k i xid) ≡ Some b2 → and_then s (unwound env (suc k) i xid) ≡ o
        by_step None deeper gone = absurd (cc (gone))
        by_step (Some b3) deeper deep = deeper b3 deep

-- where a record is gone, the chain can't be taken back
pub stopped_none : (env : Env) (n k i : ℕ) (xid : Xid) (b : Home) → Stops env i xid b k → k < n → unwound env n i xid b ≡ None
stopped_none env n k i xid b stops lt = gone n k b stops.1 lt
  where
    same : (b3 : Home) → Some b3 ≡ Some stops.0 → b3 ≡ stops.0
    same b3 is = cc

    gone : (n k : ℕ) (b : Home) → unwound env k i xid b ≡ Some stops.0 → k < n → unwound env n i xid b ≡ None
    gone zero k b is lt = absurd (omega arith)
    gone (suc n) zero b is lt = ap (λ (z : Home). and_then (stepped env i xid z) (unwound env n i xid)) (same b is) ∙ ap (λ (z : Option Home). and_then z (unwound env n i xid)) stops.2
    gone (suc n) (suc k) b is lt = by_step (stepped env i xid b) (λ b3 deep. gone n k b3 deep (omega (arith, lt))) is
      where
        by_step : (s : Option Home) → ((b3 : Home) → unwound env k i xid b3 ≡ Some stops.0 → unwound env n i xid b3 ≡ None) → and_then s (unwound env k i xid) ≡ Some stops.0 → and_then s (unwound env n i xid) ≡ None
        by_step None deeper none = refl
        by_step (Some b3) deeper deep = deeper b3 deep
