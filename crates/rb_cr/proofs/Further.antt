-- The walk that goes on from a home that was kept at a number.
use Rattle.std.proofs.Common.{◌≡◌, ◌≤◌, ◌+◌, ◌++◌, ℕ, true, false}
use Rattle.std.proofs.Common.{List, [], length, Option, Ok, Err, sym, ◌∙◌, ap, subst, arith}
use Rattle.rb_base.specs.declared.ids.Xid.{Xid}
use Rattle.rb_cr.specs.Faults.{is_fault}
use Rattle.rb_cr.specs.Going.{WentOn}
use Rattle.rb_cr.specs.Parts.{Rewound}
use Rattle.rb_cr.specs.declared.faults.CrFault.{CrFault}
use Rattle.rb_cr.specs.declared.faults.CrFault.TheVariants as faults
use Rattle.law_read.specs.Copies.{Copied, Unseen}
use Rattle.law_read.specs.Heights.{AtMost, Beyond, LookAtMost, LookBeyond, StatusAtMost, StatusBeyond}
use Rattle.law_read.specs.Keeping.{Kept, behind_mine, first_count, kept_room, overlay}
use Rattle.law_read.specs.Reading.{History, Worn, count_above, flat, rows_at, rows_in, up_to}
use Rattle.law_read.specs.Turns.{WornIn}
use Rattle.rb_txntable.specs.declared.looks.Look.{Look}
use Rattle.rb_txntable.specs.declared.looks.Look.TheVariants.{Active, At, Before}
use Rattle.law_home.specs.Kinds.{Bound, Entry, Exact, Free, Open, Status}
use Rattle.law_home.specs.Walk.{Commit, Env, Home, Match, Rows, Walk, entry_at}
use Rattle.rb_cr.proofs.Blaming.{because_map}
use Rattle.law_read.proofs.Copying.{copy_worn, cuts_count, cuts_flat, cuts_rows, cuts_tail}
use Rattle.law_read.proofs.Keeping.{overlay_same}
use Rattle.law_read.proofs.Peeling.{first_append}
use Rattle.law_read.proofs.Showing.{match_rows}
use Rattle.law_read.proofs.Unseen.{plain, unseen_plain}

look_not : (n c : ℕ) (look : Look) → LookAtMost n c look → LookBeyond n look → ⊥
look_not n c Active most over = most
look_not n c (At k) most over = over
look_not n c (Before b) most over = omega (arith, most, over)

status_not : (env : Env) (n c : ℕ) (xid : Xid) (status : Status) → StatusAtMost env n c xid status → StatusBeyond env n xid status → ⊥
status_not env n c xid Free most over = over
status_not env n c xid Open most over = look_not n c (env.look xid) most over
status_not env n c xid (Exact k) most over = over
status_not env n c xid (Bound b) most over = omega (arith, most, over)

not_beyond : (env : Env) (n c : ℕ) (e : Entry) → AtMost env n c e → Beyond env n e → ⊥
not_beyond env n c e most over = status_not env n c e.xid e.status most over

module _ (env : Env) (h : History) (mine : Option Xid) (upto n m : ℕ) (le : n ≤ m) (unseen : Unseen h mine upto n) where
  -- of what is left below m none is the reader's either
  unseen_left : first_count mine upto (flat n (up_to m h.list)) ≡ 0
  unseen_left =
      let a : first_count mine upto (flat m h.list ++ flat n (up_to m h.list)) ≡ first_count mine upto (flat m h.list) + first_count mine upto (flat n (up_to m h.list)) = first_append mine upto (flat m h.list) (flat n (up_to m h.list)) in
      let b : first_count mine upto (flat m h.list ++ flat n (up_to m h.list)) ≡ first_count mine upto (flat n h.list) = ap (first_count mine upto) (cuts_flat n m le h.list) in
      omega (arith, a, b, unseen.done)

  pub room : (kept : Kept) → kept ≡ [] → length kept + first_count mine upto (flat n (up_to m h.list)) ≤ kept_room
  room kept none = let l : length kept ≡ 0 = ap length none in omega (arith, l, unseen_left)

  fewer : count_above n (up_to m h.list) + count_above m h.list ≡ count_above n h.list
  fewer = cuts_count n m le h.list

  pub went_nowhere : (count count2 : ℕ) (b : Home) (kept : Kept) → count2 ≡ count → WentOn env h mine upto n m count (Ok false) b kept count2
  went_nowhere count count2 b kept is = record { most = omega (arith, is, fewer); rows = λ no. absurd (cc (no)); counted = λ no. absurd (cc (no)); left = λ no. absurd (cc (no)); over = λ no. is; old = tt }

  pub went_failed : (count count2 : ℕ) (b : Home) (kept : Kept) (e : CrFault) → is_fault e ≡ true → count2 ≡ count → WentOn env h mine upto n m count (Err e) b kept count2
  went_failed count count2 b kept faults.Failed fault is = record { most = omega (arith, is, fewer); rows = tt; counted = tt; left = tt; over = tt; old = λ block. tt }
  went_failed count count2 b kept (faults.TooOld scn lost) fault is = absurd (cc (fault))

  module _ (start : Home) (low : h.base ≤ n) (copied : Copied env h.base h.rows h.list m start) (c : ℕ) (top : (j : ℕ) → AtMost env n c (entry_at start j)) where
    pub went_on : (count : ℕ) (kept0 : Kept) → kept0 ≡ [] → (b : Home) (kept : Kept) (count2 : ℕ) → Rewound env h.base h.rows (up_to m h.list) mine upto n start kept0 count (Ok (tt {0})) b kept count2
        → WentOn env h mine upto n m count (Ok true) b kept count2
    went_on count kept0 none b kept count2 rewound =
        let shown : (k : ℕ) → rows_in b.cells k ≡ rows_at n h.rows h.list k = match_rows b (rows_at n h.rows h.list) (subst (λ (z : Rows). Match b z) (cuts_rows n m le h.rows h.list) rewound.ok.0) in
        let high = copied.high in
        record {
          most = omega (arith, rewound.ok.1, fewer);
          rows = λ yes k.
              overlay_same kept (rows_in b.cells) (rows_at n h.rows h.list) k (shown k)
              ∙ (rewound.ok.2 (rows_at n h.rows h.list) k
              ∙ (ap (λ (z : Kept). overlay z (behind_mine mine upto (flat n (up_to m h.list)) (rows_at n h.rows h.list)) k) none
              ∙ (ap (λ (z : Rows). z k) (plain mine upto (flat n (up_to m h.list)) (rows_at n h.rows h.list) unseen_left)
              ∙ sym (unseen_plain h mine upto n unseen k))));
          counted = λ yes. omega (arith, rewound.ok.1, fewer);
          left = λ yes. record { low = low; high = omega (arith, le, high); walk = subst (λ (z : List Commit). Walk env h.base h.rows z b) (cuts_tail n m le h.list) rewound.left };
          over = λ no. absurd (cc (no));
          old = tt;
        }

    pub went_worn : (count : ℕ) (kept0 : Kept) (e : CrFault) (b : Home) (kept : Kept) (count2 : ℕ) → Rewound env h.base h.rows (up_to m h.list) mine upto n start kept0 count (Err e) b kept count2
        → WentOn env h mine upto n m count (Err e) b kept count2
    went_worn count kept0 e b kept count2 rewound = record {
      most = omega (arith, rewound.most, fewer);
      rows = tt;
      counted = tt;
      left = tt;
      over = tt;
      old = λ block. because_map env n (λ seg. WornIn env n seg (flat n (up_to m h.list)) start) (Worn env h n block) e
          (λ seg why. copy_worn env h n m seg start block le (λ j over. not_beyond env n c (entry_at start j) (top j) over.0) why) rewound.err;
    }
