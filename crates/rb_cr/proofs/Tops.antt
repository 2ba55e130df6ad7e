-- The highest entry of those seen so far.
use Rattle.std.proofs.Common.{◌≡◌, ◌<◌, ◌≤◌, ◌+◌, inl, inr, ℕ, Bool, false, Result, Ok, Err, IfOk, List, [], length, map, get_or, sym, subst, arith}
use Rattle.std.proofs.lemmas.List.{get_or-map}
use Rattle.std.proofs.lemmas.Bool.{cases_eq}
use Rattle.rb_base.specs.declared.faults.Failed.{Failed}
use Rattle.rb_base.specs.declared.ids.Xid.{Xid}
use Rattle.law_read.specs.Heights.{LookAtMost, StatusAtMost, AtMost}
use Rattle.law_blocks.specs.Says.{walk_entry}
use Rattle.rb_txntable.specs.declared.looks.Look.{Look}
use Rattle.rb_txntable.specs.declared.looks.Look.TheVariants.{Active, At, Before}
use Rattle.law_home.specs.Kinds.{Entry, Status, Free, Open, Exact, Bound}
use Rattle.law_home.specs.Walk.{Home, Env, entry_at, free_entry}
use Rattle.rb_itl.specs.declared.slots.Entry as entries
use Rattle.rb_itl.specs.Entries.{free_entry as zero_entry}
use Rattle.rb_base.specs.declared.shape.Shape.{Shape}

look_raised : (n c d : ℕ) (look : Look) → c ≤ d → LookAtMost n c look → LookAtMost n d look
look_raised n c d Active le most = most
look_raised n c d (At k) le most = omega arith
look_raised n c d (Before b) le most = most

status_raised : (env : Env) (n c d : ℕ) (xid : Xid) (status : Status) → c ≤ d → StatusAtMost env n c xid status → StatusAtMost env n d xid status
status_raised env n c d xid Free le most = most
status_raised env n c d xid Open le most = look_raised n c d (env.look xid) le most
status_raised env n c d xid (Exact k) le most = omega arith
status_raised env n c d xid (Bound b) le most = most

pub most_step : (env : Env) (n i number c new : ℕ) (b : Home) → ((j : ℕ) → j < i → AtMost env n number (entry_at b j)) → AtMost env n c (entry_at b i) → number ≤ new → c ≤ new → (j : ℕ) → j < i + 1 → AtMost env n new (entry_at b j)
most_step env n i number c new b seen here le le2 j lt = elim (cases_eq j i) [
  | inl is ↦ subst (λ (z : ℕ). AtMost env n new (entry_at b z)) (sym is) (status_raised env n c new (entry_at b i).xid (entry_at b i).status le2 here)
  | inr ne ↦ status_raised env n number new (entry_at b j).xid (entry_at b j).status le (seen j (omega arith))
]

-- an entry in memory, and the one of the home
pub entry_is : (shape : Shape) (es : List entries.Entry) (i : ℕ) → i < length es → entry_at (record { block = 0; entries = map (walk_entry shape) es; cells = [] }) i ≡ walk_entry shape (get_or es i zero_entry)
entry_is shape es i lt = get_or-map (walk_entry shape) es i zero_entry free_entry lt

-- what is above n in one home is so in another one of these entries
pub still_busy : (env env2 : Env) (n : ℕ) (b b2 : Home) (r : Result Bool Failed) → env2 ≡ env → ((j : ℕ) → entry_at b2 j ≡ entry_at b j)
    → IfOk r (λ quiet. quiet ≡ false → ((j : ℕ) → AtMost env2 n n (entry_at b2 j)) → ⊥)
    → IfOk r (λ quiet. quiet ≡ false → ((j : ℕ) → AtMost env n n (entry_at b j)) → ⊥)
still_busy env env2 n b b2 (Ok quiet) same each busy = λ no most.
    busy no (λ j. subst (λ (e : Entry). AtMost env2 n n e) (sym (each j)) (subst (λ (v : Env). AtMost v n n (entry_at b j)) (sym same) (most j)))
still_busy env env2 n b b2 (Err fault) same each busy = tt
