-- What one call that puts back a change says, in blocks that may be rolled back and in any others.
use Rattle.std.proofs.Common.{◌≡◌, ◌⊎◌, ◌<◌, ◌≤◌, ◌+◌, ◌-◌, inl, inr, ℕ, Bool, true, false, not, Result, Ok, Err, OnOk, List, [], ◌∷◌, length, refl, sym, ◌∙◌, ap, subst, arith}
use Rattle.std.specs.Result.{is_err}
use Rattle.rb_base.specs.declared.sizes.TheConstants.{SLOTS}
use Rattle.rb_base.specs.Blocks.{after_groups, IsShape}
use Rattle.rb_base.specs.Groups.{Patch}
use Rattle.rb_base.specs.Logs.{Logs}
use Rattle.rb_base.specs.declared.ids.Xid.{Xid}
use Rattle.rb_base.specs.declared.shape.Shape.{Shape}
use Rattle.rb_base.specs.declared.store.Store.{Ghosts}
use Rattle.rb_model.specs.Rows.{TableRow}
use Rattle.rb_restart.specs.Steps.{HasLive, MayRoll, PutsBack, Rolls}
use Rattle.rb_restart.proofs.Backs.{back_group, back_puts, can_be_back, less_live}
use Rattle.rb_restart.proofs.Joined.{none_puts}
use Rattle.rb_segment.specs.Header.{slot_in}
use Rattle.rb_undo.specs.Backs.{header_for, newest_record, ArePutBack, CanBack, TakesBack}

pub record Says {S : Type 0} (s : Ghosts S) (shape : Shape) (x : Xid) (old new : S) (going : Bool) : Type 0 where
  pub groups : List (List Patch)
  pub logs : Logs s old new groups going
  pub kinds : s.tells → (groups ≡ []) ⊎ ArePutBack shape x (s.lsn old) (s.blocks old) groups
  pub few : length groups ≤ 1
  pub rose : s.tells → going ≡ true → CanBack shape (s.blocks old) x → s.lsn new ≡ s.lsn old + 1

-- the call's clauses
pub says : {S T E : Type 0} (s : Ghosts S) (shape : Shape) (x : Xid) (old new : S) (result : Result T E)
    → (groups : List (List Patch)) × Logs s old new groups (not (is_err result)) × (s.tells → (groups ≡ []) ⊎ ArePutBack shape x (s.lsn old) (s.blocks old) groups) × (length groups ≤ 1)
    → (s.tells → CanBack shape (s.blocks old) x → OnOk result (Logs s old new (back_group shape (s.blocks old) x ∷ []) true))
    → Says s shape x old new (not (is_err result))
says s shape x old new (Ok value) logs put_back = record {
  groups = logs.0;
  logs = logs.1;
  kinds = logs.2;
  few = logs.3;
  rose = λ told goes can. (put_back told can).number refl;
}
says s shape x old new (Err fault) logs put_back = record {
  groups = logs.0;
  logs = logs.1;
  kinds = logs.2;
  few = logs.3;
  rose = λ told goes can. let clash : false ≡ true = goes in absurd cc;
}

module _ {S : Type 0} (s : Ghosts S) (shape : Shape) (x : Xid) (old new : S) (there : x.seg < shape.segments) (few : x.slot < SLOTS) where
  -- where a group was logged, the transaction has one live change less
  pub less : (says : Says s shape x old new true) → s.tells → s.lsn old < s.lsn new → (n : ℕ) → HasLive shape (s.blocks old) x (n + 1) → HasLive shape (s.blocks new) x n
  less says told up n live = elim (says.kinds told) [
    | inl none ↦ let same = says.logs.number refl in let count = ap length none in absurd (omega (arith, up, same, count))
    | inr back ↦ less_live shape x (newest_record shape (s.blocks old) x) (s.blocks old) (s.blocks new) n few (subst (TakesBack shape x (newest_record shape (s.blocks old) x) (s.blocks old)) (sym (says.logs.blocks told refl)) back.takes) live
  ]

  -- In blocks that may be rolled back one is.
  pub done : (says : Says s shape x old new true) (n number : ℕ) (rows : List TableRow) → s.tells → HasLive shape (s.blocks old) x (n + 1) → MayRoll shape number rows (s.lsn old) (s.blocks old) → s.lsn old < s.lsn new
  done says n number rows told live may = let up = says.rose told refl (can_be_back shape number rows (s.blocks old) may.sound x there few n live) in omega (arith, up)

  pub rolls : (going : Bool) → Says s shape x old new going → IsShape shape → Rolls s shape old new 1 going (λ now. Unit {0})
  rolls going says shaped = record {
    groups = says.groups;
    logs = says.logs;
    few = says.few;
    puts_back = λ number rows told may. elim (says.kinds told) [
      | inl none ↦ subst (λ (l : List (List Patch)). PutsBack shape number rows l (s.blocks old) (after_groups (s.lsn old + 1) l (s.blocks old))) (sym none) (none_puts shape number rows (s.blocks old) may.sound)
      | inr back ↦ one number rows may says.groups back
    ];
    done = λ number rows told goes may. tt;
  }
    where
      one : (number : ℕ) (rows : List TableRow) → MayRoll shape number rows (s.lsn old) (s.blocks old) → (groups : List (List Patch)) → ArePutBack shape x (s.lsn old) (s.blocks old) groups → PutsBack shape number rows groups (s.blocks old) (after_groups (s.lsn old + 1) groups (s.blocks old))
      one number rows may groups back =
          let group = back_group shape (s.blocks old) x in
          let n = (slot_in (header_for shape (s.blocks old) x) x.slot).live - 1 in
          let live : HasLive shape (s.blocks old) x (n + 1) = let some = back.can.live in record { runs = back.can.runs; live = omega (arith, some) } in
          let now = after_groups (s.lsn old + 1) groups (s.blocks old) in
          subst (λ (l : List (List Patch)). PutsBack shape number rows l (s.blocks old) now) (sym back.one)
          (back_puts shape number rows (s.blocks old) may.sound x there few now n shaped live back.valid
          (ap (λ (l : List (List Patch)). after_groups (s.lsn old + 1) l (s.blocks old)) back.one ∙ ap (λ (k : ℕ). after_groups (k + 1) (group ∷ []) (s.blocks old)) may.logged)
          back.takes)
