-- The rebuild's loops: what each turn leaves, and what the answers then say.
use Rattle.std.proofs.Common.{◌≡◌, ◌⊎◌, ⊎_elim, inl, inr, ◌<◌, ◌≤◌, ◌+◌, ◌-◌, ◌^◌, ℕ, Bool, true, false}
use Rattle.std.proofs.Common.{List, [], ◌∷◌, length, Option, None, Result, Ok, Err, OnOk, refl, sym, ◌∙◌}
use Rattle.std.proofs.Common.{ap, subst, arith}
use Rattle.rb_base.specs.declared.ids.Xid.{Xid}
use Rattle.rb_cr.specs.Faults.{Because, is_fault}
use Rattle.rb_cr.specs.Parts.{Built, Goes, Gone, Highest, Passed, Rewound, Spent, Undone}
use Rattle.rb_cr.specs.declared.faults.CrFault.{CrFault}
use Rattle.rb_cr.specs.declared.visible.HighestEntry.{HighestEntry}
use Rattle.law_read.specs.Chains.{unwound}
use Rattle.law_read.specs.Heights.{AtMost}
use Rattle.law_read.specs.Keeping.{kept_room, Kept, behind_mine, first_count, kept_after, overlay}
use Rattle.law_read.specs.Reading.{total, rows_at, count_above, Reader, flat, History, Reading, Worn}
use Rattle.law_read.specs.Reading.{rows_in}
use Rattle.law_read.specs.Turns.{Ends, Starts, Peeled, Running, WornIn}
use Rattle.law_home.specs.Walk.{Change, Commit, Home, Env, Rows, Match, Walk, Distinct, IsActive, own}
use Rattle.law_home.specs.Walk.{entry_at}
use Rattle.law_read.proofs.Copying.{settled_walk}
use Rattle.law_read.proofs.Keeping.{overlay_same}
use Rattle.law_read.proofs.Peeling.{begins, fails, finishes, turns}
use Rattle.law_read.proofs.Showing.{match_rows}
use Rattle.law_read.proofs.Unwinding.{stopped_none}
use Rattle.law_read.proofs.Undoing.{Turned, allows, passes_by, taken_back, takes_back}
use Rattle.rb_cr.proofs.Blaming.{because_lost, because_map, because_over}
use Rattle.rb_cr.specs.declared.faults.CrFault.TheVariants as faults

module _ (env : Env) (base : ℕ) (rows : Rows) (list : List Commit) (mine : Option Xid) (upto n : ℕ) (start : Home) (kept0 : Kept) (count0 : ℕ) (st : Starts env base rows n (2 ^ 64 - 1) list start) (few : length kept0 + first_count mine upto (flat n list) ≤ kept_room) where
  -- whole chains were taken back, and what is left has numbers below the limit
  abbrev pub SoFar : ℕ → Home → Kept → ℕ → Type 0
  SoFar limit b kept count = (d : ℕ) × (f : Kept → Kept) × (count ≡ count0 + d) × (kept ≡ f kept0) × Peeled env base rows mine upto n limit d f list start b

  pub at_first : SoFar (2 ^ 64 - 1) start kept0 count0
  at_first = (0, λ kept. kept, omega arith, refl, begins env base rows mine upto n (2 ^ 64 - 1) list start st)

  module _ (limit : ℕ) (b : Home) (kept : Kept) (count : ℕ) (so : SoFar limit b kept count) where
    few_left : so.0 ≤ count_above n list
    few_left = omega (arith, so.4.count)

    pub rewound_done : (top : HighestEntry) → top.number ≤ n → Highest env n b (Ok top) → Rewound env base rows list mine upto n start kept0 count0 (Ok (tt {0})) b kept count
    rewound_done top le highest =
        let is : top.number ≡ n = omega (arith, highest.ok.0) in
        let f : Match b (rows_at n rows list) × (so.0 ≡ count_above n list) × ((kept : Kept) (over : Rows) (k : ℕ) → overlay (so.1 kept) over k ≡ overlay kept (behind_mine mine upto (flat n list) over) k) = finishes env base rows mine upto n (2 ^ 64 - 1) list st.honest st.low limit so.0 so.1 start b so.4 (subst (λ (z : ℕ). (j : ℕ) → AtMost env n z (entry_at b j)) is highest.ok.1) in
        record {
          most = omega (arith, so.2, f.1);
          ok = (f.0, so.2 ∙ ap (λ (z : ℕ). count0 + z) f.1, λ over k. ap (λ (z : Kept). overlay z over k) so.3 ∙ f.2 kept0 over k);
          left = subst (λ (z : List Commit). Walk env base rows z b) so.4.tail (settled_walk env base rows n so.4.left b so.4.walk (subst (λ (z : ℕ). (j : ℕ) → AtMost env n z (entry_at b j)) is highest.ok.1));
          err = tt;
          counted = tt;
        }

    pub rewound_over : (e : CrFault) → Highest env n b (Err e) → Goes env start count0 b count → Rewound env base rows list mine upto n start kept0 count0 (Err e) b kept count
    rewound_over e top goes = record {
      most = omega (arith, so.2, few_left);
      ok = tt;
      left = tt;
      err = because_over env n (λ seg. WornIn env n seg (flat n list) start) b e (fails env base rows mine upto n (2 ^ 64 - 1) list st.honest st.low limit so.0 so.1 start b so.4) top.err;
      counted = λ start0 first entries whole old. let to = goes start0 first entries whole in (to.0, b, count, to.1, inl refl);
    }

    module _ (i c : ℕ) (above : n < c) (top : Highest env n b (Ok (record { entry = i; number = c }))) where
      abbrev chain : ℕ
      chain = (entry_at b i).chain

      abbrev saved : Kept → Kept
      saved kept = kept_after env mine upto (entry_at b i).chain i (entry_at b i).xid b (so.1 kept)

      abbrev Turn : Type 0
      Turn = (c < limit) × ((so.0 + chain ≤ count_above n list) × ((kept : Kept) → length (saved kept) ≤ length kept + first_count mine upto (flat n list)))
          × Ends env (entry_at b i).xid.seg c (WornIn env n (entry_at b i).xid.seg (flat n list) start) (Peeled env base rows mine upto n c (so.0 + chain) saved list start) (unwound env chain i (entry_at b i).xid b)

      turn : Turn
      turn = turns env base rows mine upto n (2 ^ 64 - 1) list st.honest st.low limit so.0 so.1 start b so.4 i c above top.ok.1 (top.ok.2 above)

      pub falls : c < limit
      falls = turn.0

      pub rewound_worn : (e : CrFault) (b2 : Home) (kept2 : Kept) (count2 : ℕ) → Spent env mine upto n i b kept count (Err e) b2 kept2 count2 → count2 ≤ count + (entry_at b i).chain → Goes env start count0 b count → Rewound env base rows list mine upto n start kept0 count0 (Err e) b2 kept2 count2
      rewound_worn e b2 kept2 count2 spent most goes = record { most = omega (arith, most, so.2, turn.1.0); ok = tt; left = tt; err = because_lost env n (λ seg. WornIn env n seg (flat n list) start) (entry_at b i).xid.seg e (λ old. gone (spent.err.0 old)) spent.err.1; counted = λ start0 first entries whole old. let to = goes start0 first entries whole in ⊎_elim (λ stops. (to.0, b, count, to.1, inr (i, stops.0, stops.1, stops.3, stops.2))) (λ full. absurd (too_few full)) (spent.err.0 old) }
        where
          too_few : kept_room < length (kept_after env mine upto (entry_at b i).chain i (entry_at b i).xid b kept) → ⊥
          too_few full =
              let over : kept_room < length (saved kept0) = subst (λ (z : Kept). kept_room < length (kept_after env mine upto (entry_at b i).chain i (entry_at b i).xid b z)) so.3 full in
              omega (arith, over, turn.1.1 kept0, few)

          gone : Gone env (entry_at b i).chain i (entry_at b i).xid b count count2 ⊎ (kept_room < length (kept_after env mine upto (entry_at b i).chain i (entry_at b i).xid b kept)) → (n < env.lost (entry_at b i).xid.seg) × WornIn env n (entry_at b i).xid.seg (flat n list) start
          gone why = ⊎_elim
              (λ stops.
              let none : unwound env (entry_at b i).chain i (entry_at b i).xid b ≡ None = stopped_none env (entry_at b i).chain stops.0 i (entry_at b i).xid b stops.3 stops.1 in
              let ends : (c ≤ env.lost (entry_at b i).xid.seg) × WornIn env n (entry_at b i).xid.seg (flat n list) start = subst (λ (z : Option Home). Ends env (entry_at b i).xid.seg c (WornIn env n (entry_at b i).xid.seg (flat n list) start) (Peeled env base rows mine upto n c (so.0 + chain) saved list start) z) none turn.2 in
              (omega (arith, ends.0, above), ends.1))
              (λ full. absurd (too_few full)) why

      pub goes_on : (b2 : Home) (kept2 : Kept) (count2 : ℕ) → Spent env mine upto n i b kept count (Ok (tt {0})) b2 kept2 count2 → count2 ≡ count + (entry_at b i).chain → SoFar c b2 kept2 count2
      goes_on b2 kept2 count2 spent is =
          let left : Peeled env base rows mine upto n c (so.0 + chain) saved list start b2 = subst (λ (z : Option Home). Ends env (entry_at b i).xid.seg c (WornIn env n (entry_at b i).xid.seg (flat n list) start) (Peeled env base rows mine upto n c (so.0 + chain) saved list start) z) spent.ok.0 turn.2 in
          (so.0 + chain, saved, omega (arith, is, so.2), spent.ok.1 ∙ ap (kept_after env mine upto (entry_at b i).chain i (entry_at b i).xid b) so.3, left)

module _ (env : Env) (base : ℕ) (rows : Rows) (list : List Commit) (lives : List (List Change)) (distinct : Distinct env) (r : ℕ) (mine : Option Xid) (upto n : ℕ) (start : Home) (alone : Reader env r mine) (first : Kept) (few : length first + first_count mine upto (own lives r) ≤ kept_room) where
  module _ (i d : ℕ) (f : Kept → Kept) (b : Home) (kept : Kept) (count : ℕ) (run : Running env base rows list lives r mine upto n i d f start b) (is : kept ≡ f first) where
    pub passed_quiet : (IsActive env (entry_at b i) → ⊥) → Passed env base rows list lives r mine upto n i d start first count (Ok (tt {0})) b kept count
    passed_quiet quiet =
        let p : Running env base rows list lives r mine upto n (i + 1) d f start b = passes_by env base rows list lives r mine upto n start i d f b run quiet in
        let zero_more : d + 0 ≡ d = omega arith in
        record {
          most = omega (arith, run.count);
          ok = (0, f, omega arith, is, subst (λ (z : ℕ). Running env base rows list lives r mine upto n (i + 1) z f start b) (sym zero_more) p);
          err = tt;
        }

    module _ (active : IsActive env (entry_at b i)) where
      abbrev rows_kept : Kept → Kept
      rows_kept kept = kept_after env mine upto (entry_at b i).chain i (entry_at b i).xid b (f kept)

      back : Turned env base rows list lives distinct r mine upto n start i (d + (entry_at b i).chain) rows_kept (unwound env (entry_at b i).chain i (entry_at b i).xid b)
      back = takes_back env base rows list lives distinct r mine upto n start i d f b alone run active

      allowed : (d + (entry_at b i).chain ≤ total lives) × ((kept : Kept) → length (rows_kept kept) ≤ length kept + first_count mine upto (own lives r))
      allowed = allows env base rows list lives distinct r mine upto n start i d f b alone run active

      pub passed_back : (result : Result (Unit {0}) CrFault) (b2 : Home) (kept2 : Kept) (count2 : ℕ) → Spent env mine upto n i b kept count result b2 kept2 count2 → count2 ≤ count + (entry_at b i).chain → OnOk result (count2 ≡ count + (entry_at b i).chain) → Passed env base rows list lives r mine upto n i d start first count result b2 kept2 count2
      passed_back (Ok u) b2 kept2 count2 spent most counted = record {
        most = omega (arith, most, allowed.0);
        ok = ((entry_at b i).chain, rows_kept, counted, spent.ok.1 ∙ ap (kept_after env mine upto (entry_at b i).chain i (entry_at b i).xid b) is, subst (λ (z : Option Home). Turned env base rows list lives distinct r mine upto n start i (d + (entry_at b i).chain) rows_kept z) spent.ok.0 back);
        err = tt;
      }
      passed_back (Err e) b2 kept2 count2 spent most counted = record { most = omega (arith, most, allowed.0); ok = tt; err = never (is_fault e) refl }
        where
          too_few : kept_room < length (kept_after env mine upto (entry_at b i).chain i (entry_at b i).xid b kept) → ⊥
          too_few full =
              let over : kept_room < length (rows_kept first) = subst (λ (z : Kept). kept_room < length (kept_after env mine upto (entry_at b i).chain i (entry_at b i).xid b z)) is full in
              omega (arith, over, allowed.1 first, few)

          never : (t : Bool) → is_fault e ≡ t → is_fault e ≡ true
          never true fault = fault
          never false old = ⊎_elim
              (λ stops. absurd (subst (λ (z : Option Home). Turned env base rows list lives distinct r mine upto n start i (d + (entry_at b i).chain) rows_kept z) (stopped_none env (entry_at b i).chain stops.0 i (entry_at b i).xid b stops.3 stops.1) back))
              (λ full. absurd (too_few full)) (spent.err.0 old)

  -- the active entries before i were taken back
  abbrev pub Before : ℕ → ℕ → Home → Kept → ℕ → Type 0
  Before i count0 b kept count = (d : ℕ) × (f : Kept → Kept) × (count ≡ count0 + d) × (kept ≡ f first) × Running env base rows list lives r mine upto n i d f start b

  module _ (i count0 : ℕ) (b : Home) (kept : Kept) (count : ℕ) (so : Before i count0 b kept count) where
    pub one_more : (b2 : Home) (kept2 : Kept) (count2 : ℕ) → Passed env base rows list lives r mine upto n i so.0 start first count (Ok (tt {0})) b2 kept2 count2 → Before (i + 1) count0 b2 kept2 count2
    one_more b2 kept2 count2 passed = let p : (e : ℕ) × (f : Kept → Kept) × (count2 ≡ count + e) × (kept2 ≡ f first) × Running env base rows list lives r mine upto n (i + 1) (so.0 + e) f start b2 = passed.ok in
        (so.0 + p.0, p.1, omega (arith, p.2, so.2), p.3, p.4)

    pub undone_failed : (e : CrFault) (b2 : Home) (kept2 : Kept) (count2 : ℕ) → Passed env base rows list lives r mine upto n i so.0 start first count (Err e) b2 kept2 count2 → Undone env base rows list lives r mine upto n start first count0 (Err e) b2 kept2 count2
    undone_failed e b2 kept2 count2 passed = record { most = omega (arith, passed.most, so.2); walk = tt; counted = tt; keeps = tt; room = tt; source = tt; err = passed.err }

    pub undone_all : length b.entries ≤ i → Undone env base rows list lives r mine upto n start first count0 (Ok (tt {0})) b kept count
    undone_all all =
        let t = taken_back env base rows list lives distinct r mine upto n start i so.0 so.1 b so.4 all in
        let fits : length (so.1 first) ≤ length first + first_count mine upto (own lives r) = t.3 first in
        record {
          most = omega (arith, so.2, t.1);
          walk = t.0;
          counted = so.2 ∙ ap (λ (z : ℕ). count0 + z) t.1;
          keeps = λ over k. ap (λ (z : Kept). overlay z over k) so.3 ∙ t.2 first over k;
          room = subst (λ (z : Kept). length z ≤ length first + first_count mine upto (own lives r)) (sym so.3) fits;
          source = t.4;
          err = tt;
        }

-- what the first half promises, with nothing kept at its start
pub undone : (env : Env) (h : History) (mine : Option Xid) (upto n : ℕ) (start : Home) (kept : Kept) (count : ℕ) (result : Result (Unit {0}) CrFault) (b2 : Home) (kept2 : Kept) (count2 : ℕ) → kept ≡ [] → Reading env h mine upto n start
    → (length kept + first_count mine upto (own h.lives h.reader) ≤ kept_room → Undone env h.base h.rows h.list h.lives h.reader mine upto n start kept count result b2 kept2 count2)
    → Undone env h.base h.rows h.list h.lives h.reader mine upto n start [] count result b2 kept2 count2
undone env h mine upto n start kept count result b2 kept2 count2 none reading says =
    let zero_kept : length kept ≡ 0 = ap length none in
    subst (λ (z : Kept). Undone env h.base h.rows h.list h.lives h.reader mine upto n start z count result b2 kept2 count2) none (says (omega (arith, zero_kept, reading.few)))

-- the whole rebuild
module _ (env : Env) (h : History) (mine : Option Xid) (upto n : ℕ) (start : Home) (count0 : ℕ) (reading : Reading env h mine upto n start) where
  pub built_failed : (e : CrFault) (b : Home) (kept : Kept) (count : ℕ) → Undone env h.base h.rows h.list h.lives h.reader mine upto n start [] count0 (Err e) b kept count → Built env h mine upto n start count0 (Err e) b kept count
  built_failed e b kept count undone = record { rows = tt; left = tt; counted = tt; most = omega (arith, undone.most); old = because e undone.err; stopped = λ old. let wrong : true ≡ false = sym undone.err ∙ old in absurd (cc (wrong)) }
    where
      because : (e : CrFault) → is_fault e ≡ true → Because env n (Worn env h n start) e
      because faults.Failed fault = tt
      because (faults.TooOld scn lost) fault = absurd (cc (fault))

  module _ (b : Home) (kept : Kept) (count : ℕ) (undone : Undone env h.base h.rows h.list h.lives h.reader mine upto n start [] count0 (Ok (tt {0})) b kept count) where
    pub starts : Starts env h.base h.rows n (2 ^ 64 - 1) h.list b
    starts = record { honest = reading.honest; low = reading.low; walk = undone.walk; lower = reading.lower }

    pub few_more : length kept + first_count mine upto (flat n h.list) ≤ kept_room
    few_more = let room : length kept ≤ 0 + first_count mine upto (own h.lives h.reader) = undone.room in omega (arith, room, reading.few)

    pub worn : (seg : ℕ) → WornIn env n seg (flat n h.list) b → Worn env h n start seg
    worn seg why = ⊎_elim
        (λ at. ⊎_elim (λ entry. inl entry) (λ cause. inr (cause.1, inl (cause.0, cause.2), cause.3)) (undone.source at.0 seg at.1))
        (λ cause. inr (cause.0, inr cause.1, cause.2)) why

    pub built : (result : Result (Unit {0}) CrFault) (b2 : Home) (kept2 : Kept) (count2 : ℕ) → Goes env start count0 b count → Rewound env h.base h.rows h.list mine upto n b kept count result b2 kept2 count2 → Built env h mine upto n start count0 result b2 kept2 count2
    built (Ok u) b2 kept2 count2 goes rewound = record {
      rows = λ k. overlay_same kept2 (rows_in b2.cells) (rows_at n h.rows h.list) k (match_rows b2 (rows_at n h.rows h.list) rewound.ok.0 k)
          ∙ (rewound.ok.2 (rows_at n h.rows h.list) k ∙ undone.keeps (behind_mine mine upto (flat n h.list) (rows_at n h.rows h.list)) k);
      left = rewound.left;
      counted = omega (arith, rewound.ok.1, undone.counted);
      most = omega (arith, rewound.most, undone.counted);
      old = tt;
      stopped = tt;
    }
    built (Err e) b2 kept2 count2 goes rewound = record { rows = tt; left = tt; counted = tt; most = omega (arith, rewound.most, undone.counted); old = because_map env n (λ seg. WornIn env n seg (flat n h.list) b) (Worn env h n start) e worn rewound.err; stopped = λ old. let to = goes start count0 [] (refl, refl) in rewound.counted start count0 to.0 to.1 old }

-- no chain more
pub goes_nowhere : (env : Env) (b : Home) (count : ℕ) → Goes env b count b count
goes_nowhere env b count start first entries whole = (entries, whole)

-- one chain more
pub goes_spent : (env : Env) (mine : Option Xid) (upto n i : ℕ) (b : Home) (kept : Kept) (count : ℕ) (result : Result (Unit {0}) CrFault) (b2 : Home) (kept2 : Kept) (count2 : ℕ) → Spent env mine upto n i b kept count result b2 kept2 count2
    → OnOk result (count2 ≡ count + (entry_at b i).chain) → OnOk result (Goes env b count b2 count2)
goes_spent env mine upto n i b kept count (Ok u) b2 kept2 count2 spent counted = λ start first entries whole. (i ∷ entries, (b, count, whole, spent.ok.0, counted))
goes_spent env mine upto n i b kept count (Err e) b2 kept2 count2 spent counted = tt

pub goes_after : (env : Env) (b b2 b3 : Home) (count count2 count3 : ℕ) → Goes env b count b2 count2 → Goes env b2 count2 b3 count3 → Goes env b count b3 count3
goes_after env b b2 b3 count count2 count3 one two start first entries whole = let to = one start first entries whole in two start first to.0 to.1
