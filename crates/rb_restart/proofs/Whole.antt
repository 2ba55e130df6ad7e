-- Calls after which no transaction runs rolled back all that was owed.
use Rattle.std.proofs.Common.{◌≡◌, ◌+◌, ℕ, Bool, true, List, sym, subst, arith}
use Rattle.rb_base.specs.Blocks.{after_groups}
use Rattle.rb_base.specs.declared.shape.Shape.{Shape}
use Rattle.rb_base.specs.declared.store.Store.{Ghosts}
use Rattle.rb_model.specs.Rows.{TableRow}
use Rattle.rb_restart.specs.Rollback.{AreIdle, RolledBack, StaySound}
use Rattle.rb_restart.specs.Steps.{MayRoll, PutsBack, Rolls}
use Rattle.rb_restart.proofs.Slots.{owed_none}
use Rattle.law_blocks.specs.Standing.{SoundAs, logged_of}

pub rolled_back : {S : Type 0} (s : Ghosts S) (shape : Shape) (old new : S) (most : ℕ) (going : Bool) (a : Rolls s shape old new most going (AreIdle shape)) (number : ℕ) (rows : List TableRow) → s.tells → s.lsn old ≡ logged_of shape (s.blocks old) → SoundAs shape (s.blocks old) number rows
    → StaySound shape number rows (s.lsn old) a.groups (s.blocks old) × (going ≡ true → RolledBack shape a.groups (s.blocks old) (s.blocks new))
rolled_back s shape old new most going a number rows told logged sound = (
  subst (λ (n : ℕ). StaySound shape number rows n a.groups (s.blocks old)) (sym logged) puts.sound,
  λ goes.
      let idle = a.done number rows told goes may in
      let now = subst (PutsBack shape number rows a.groups (s.blocks old)) (sym (a.logs.blocks told goes)) puts in
      record {
        count = let none = owed_none shape (s.blocks new) idle in omega (arith, none, now.owed);
        logged = now.logged;
        back = now.back;
        idle = idle;
        books = now.books;
      },
)
  where
    may : MayRoll shape number rows (s.lsn old) (s.blocks old)
    may = record { sound = sound; logged = logged }

    puts : PutsBack shape number rows a.groups (s.blocks old) (after_groups (s.lsn old + 1) a.groups (s.blocks old))
    puts = a.puts_back number rows told may
