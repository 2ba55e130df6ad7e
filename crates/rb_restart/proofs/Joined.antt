-- Groups that put back, joined: some after others, and those of one call after those of another.
use Rattle.std.proofs.Common.{◌≡◌, ◌<◌, ◌≤◌, ◌+◌, ◌-◌, ◌*◌, inl, inr, ℕ, zero, suc, Bool, true, false, List, [], ◌∷◌, ◌++◌, length, take, length-append, refl, sym, ◌∙◌, ap, subst, arith}
use Rattle.std.proofs.lemmas.Bool.{cases_lt}
use Rattle.std.proofs.lemmas.List.{take-append-le}
use Rattle.std.proofs.Math.Seq.{take-append-add}
use Rattle.rb_base.specs.declared.sizes.TheConstants.{SLOTS}
use Rattle.rb_base.specs.Blocks.{after_group, after_groups}
use Rattle.rb_base.specs.Groups.{Patch}
use Rattle.rb_base.specs.Logs.{Logs, more_logs}
use Rattle.rb_base.specs.Settling.{after_joined}
use Rattle.rb_base.specs.declared.shape.Shape.{Shape}
use Rattle.rb_base.specs.declared.store.Store.{Ghosts}
use Rattle.rb_model.specs.Rows.{TableRow}
use Rattle.rb_restart.specs.Rollback.{BackBy, IsBackGroup, IsPartlyBack, SameBooks}
use Rattle.rb_restart.specs.Steps.{IsIdle, MayRoll, PutsBack, Rolls}
use Rattle.rb_segment.specs.Segments.{owed_in}
use Rattle.law_blocks.specs.Standing.{SoundAs, logged_of}

-- groups that put back, after others
back_on : (shape : Shape) (m n all : ℕ) (a b c : List (List ℕ)) → all ≡ m + n → BackBy shape m a b → BackBy shape n b c → BackBy shape all a c
back_on shape zero n all a b c is same more = subst (λ (k : ℕ). BackBy shape k a c) (omega (arith, is)) (subst (λ (z : List (List ℕ)). BackBy shape n z c) same more)
back_on shape (suc m) n zero a b c is first more = absurd (omega (arith, is))
back_on shape (suc m) n (suc all) a b c is (middle, first, rest) more = (middle, first, back_on shape m n all middle b c (omega (arith, is)) rest more)

module _ (shape : Shape) (number : ℕ) (rows : List TableRow) where
  -- before the first group
  pub first_partly : (blocks : List (List ℕ)) → SoundAs shape blocks number rows → IsPartlyBack shape number rows 0 blocks blocks
  first_partly blocks sound = record { sound = sound; logged = omega arith; owed = omega arith; back = refl; books = λ g g_in. refl }

  -- so many groups behind others
  partly_on : (first count : ℕ) (before mid now : List (List ℕ)) → logged_of shape mid ≡ logged_of shape before + first → owed_in shape mid + first ≡ owed_in shape before → BackBy shape first before mid → SameBooks shape before mid → IsPartlyBack shape number rows count mid now → IsPartlyBack shape number rows (first + count) before now
  partly_on first count before mid now logged owed back books b = record {
    sound = b.sound;
    logged = omega (arith, logged, b.logged);
    owed = omega (arith, owed, b.owed);
    back = back_on shape first count (first + count) before mid now refl back b.back;
    books = λ g g_in. b.books g g_in ∙ books g g_in;
  }

  -- no group
  pub none_puts : (blocks : List (List ℕ)) → SoundAs shape blocks number rows → PutsBack shape number rows [] blocks blocks
  none_puts blocks sound = record {
    sound = λ count few. none count few;
    made = refl;
    logged = omega arith;
    owed = omega arith;
    back = refl;
    books = λ g g_in. refl;
    idle = λ t t_in is. is;
  }
    where
      none : (count : ℕ) → count ≤ 0 → IsPartlyBack shape number rows count blocks (after_groups (logged_of shape blocks + 1) (take {A = List Patch} count []) blocks)
      none zero few = first_partly blocks sound
      none (suc count) few = absurd (omega (arith, few))

  -- one group
  pub one_puts : (group : List Patch) (before now : List (List ℕ)) → SoundAs shape before number rows → SoundAs shape now number rows → now ≡ after_group (logged_of shape before + 1) group before → logged_of shape now ≡ logged_of shape before + 1 → owed_in shape now + 1 ≡ owed_in shape before → IsBackGroup shape before now → SameBooks shape before now → ((t : ℕ) → t < SLOTS * shape.segments → IsIdle shape before t → IsIdle shape now t) → PutsBack shape number rows (group ∷ []) before now
  one_puts group before now sound after made logged owed back books idle = record {
    sound = each;
    made = made;
    logged = logged;
    owed = owed;
    back = (now, back, refl);
    books = books;
    idle = idle;
  }
    where
      each : (count : ℕ) → count ≤ length (group ∷ []) → IsPartlyBack shape number rows count before (after_groups (logged_of shape before + 1) (take count (group ∷ [])) before)
      each zero few = first_partly before sound
      each (suc zero) few = subst (IsPartlyBack shape number rows 1 before) made (record { sound = after; logged = logged; owed = owed; back = (now, back, refl); books = books })
      each (suc (suc count)) few = absurd (omega (arith, few))

  -- some groups after others
  pub more_puts : (first second : List (List Patch)) (before mid now : List (List ℕ)) → PutsBack shape number rows first before mid → PutsBack shape number rows second mid now → PutsBack shape number rows (first ++ second) before now
  more_puts first second before mid now a b = record {
    sound = λ count few. elim (cases_lt count (length first)) [
      | inl lt ↦ subst (λ (l : List (List Patch)). IsPartlyBack shape number rows count before (after_groups (logged_of shape before + 1) l before)) (sym (take-append-le count first second (omega (arith, lt)))) (a.sound count (omega (arith, lt)))
      | inr le ↦ later count few le
    ];
    made = b.made ∙ sym (joined second);
    logged = omega (arith, a.logged, b.logged, length-append first second);
    owed = omega (arith, a.owed, b.owed, length-append first second);
    back = back_on shape (length first) (length second) (length (first ++ second)) before mid now (length-append first second) a.back b.back;
    books = λ g g_in. b.books g g_in ∙ a.books g g_in;
    idle = λ t t_in is. b.idle t t_in (a.idle t t_in is);
  }
    where
      joined : (groups : List (List Patch)) → after_groups (logged_of shape before + 1) (first ++ groups) before ≡ after_groups (logged_of shape mid + 1) groups mid
      joined groups =
          after_joined (logged_of shape before + 1) first groups before
          ∙ (ap (λ (n : ℕ). after_groups n groups (after_groups (logged_of shape before + 1) first before)) (omega (arith, a.logged))
          ∙ ap (after_groups (logged_of shape mid + 1) groups) (sym a.made))

      later : (count : ℕ) → count ≤ length (first ++ second) → length first ≤ count → IsPartlyBack shape number rows count before (after_groups (logged_of shape before + 1) (take count (first ++ second)) before)
      later count few le =
          let rest = count - length first in
          let at : take count (first ++ second) ≡ first ++ take rest second = ap (λ (n : ℕ). take n (first ++ second)) (omega (arith, le)) ∙ take-append-add first second rest in
          let blocks : after_groups (logged_of shape before + 1) (take count (first ++ second)) before ≡ after_groups (logged_of shape mid + 1) (take rest second) mid = ap (λ (l : List (List Patch)). after_groups (logged_of shape before + 1) l before) at ∙ joined (take rest second) in
          let number_is : length first + rest ≡ count = omega (arith, le) in
          let whole = partly_on (length first) rest before mid (after_groups (logged_of shape mid + 1) (take rest second) mid) a.logged a.owed a.back a.books (b.sound rest (omega (arith, few, le, length-append first second))) in
          subst (IsPartlyBack shape number rows count before) (sym blocks) (subst (λ (n : ℕ). IsPartlyBack shape number rows n before (after_groups (logged_of shape mid + 1) (take rest second) mid)) number_is whole)

module _ {S : Type 0} (s : Ghosts S) (shape : Shape) where
  -- calls that logged nothing
  pub none_rolls : (old new : S) (most : ℕ) (going : Bool) (Done : List (List ℕ) → Type 0) → Logs s old new [] going → (s.tells → going ≡ true → (number : ℕ) (rows : List TableRow) → MayRoll shape number rows (s.lsn old) (s.blocks old) → s.blocks new ≡ s.blocks old → Done (s.blocks old)) → Rolls s shape old new most going Done
  none_rolls old new most going Done logs done = record {
    groups = [];
    logs = logs;
    few = omega arith;
    puts_back = λ number rows told may. none_puts shape number rows (s.blocks old) may.sound;
    done = λ number rows told goes may.
        let same : s.blocks new ≡ s.blocks old = logs.blocks told goes in
        subst Done (sym same) (done told goes number rows may same);
  }

  -- a call that failed before it logged anything
  pub fault_rolls : (old new : S) (most : ℕ) (Done : List (List ℕ) → Type 0) → Logs s old new [] false → Rolls s shape old new most false Done
  fault_rolls old new most Done logs = none_rolls old new most false Done logs (λ told goes number rows may same. let clash : false ≡ true = goes in absurd cc)

  -- the groups of calls that went well make the blocks that there are
  now_puts : (old new : S) (most : ℕ) (going : Bool) (Done : List (List ℕ) → Type 0) (number : ℕ) (rows : List TableRow) → s.tells → going ≡ true → (a : Rolls s shape old new most going Done) → MayRoll shape number rows (s.lsn old) (s.blocks old) → PutsBack shape number rows a.groups (s.blocks old) (s.blocks new)
  now_puts old new most going Done number rows told goes a may = subst (PutsBack shape number rows a.groups (s.blocks old)) (sym (a.logs.blocks told goes)) (a.puts_back number rows told may)

  -- the blocks behind them may be rolled back too
  pub may_on : (old mid : S) (most : ℕ) (Done : List (List ℕ) → Type 0) (number : ℕ) (rows : List TableRow) → s.tells → Rolls s shape old mid most true Done → MayRoll shape number rows (s.lsn old) (s.blocks old) → MayRoll shape number rows (s.lsn mid) (s.blocks mid)
  may_on old mid most Done number rows told a may =
      let puts = now_puts old mid most true Done number rows told refl a may in
      let n = a.logs.number refl in
      let end = puts.sound (length a.groups) (omega arith) in
      record {
        sound = subst (λ (l : List (List ℕ)). SoundAs shape l number rows) (ap (λ (l : List (List Patch)). after_groups (logged_of shape (s.blocks old) + 1) l (s.blocks old)) (take_all a.groups) ∙ sym puts.made) end.sound;
        logged = omega (arith, n, may.logged, puts.logged);
      }
    where
      take_all : (groups : List (List Patch)) → take (length groups) groups ≡ groups
      take_all [] = refl
      take_all (g ∷ groups) = ap (λ (l : List (List Patch)). g ∷ l) (take_all groups)

  -- one call after another
  pub rolls_joined : (old mid new : S) (most more all : ℕ) (going : Bool) (First Second Both : List (List ℕ) → Type 0) → most + more ≤ all → Rolls s shape old mid most true First → Rolls s shape mid new more going Second → (s.tells → going ≡ true → (number : ℕ) (rows : List TableRow) → MayRoll shape number rows (s.lsn mid) (s.blocks mid) → ((t : ℕ) → t < SLOTS * shape.segments → IsIdle shape (s.blocks mid) t → IsIdle shape (s.blocks new) t) → First (s.blocks mid) → Second (s.blocks new) → Both (s.blocks new)) → Rolls s shape old new all going Both
  rolls_joined old mid new most more all going First Second Both le a b both = record {
    groups = a.groups ++ b.groups;
    logs = more_logs s old mid new a.groups b.groups going a.logs b.logs;
    few = omega (arith, le, a.few, b.few, length-append a.groups b.groups);
    puts_back = λ number rows told may.
        let first = now_puts old mid most true First number rows told refl a may in
        let second = b.puts_back number rows told (may_on old mid most First number rows told a may) in
        let both = more_puts shape number rows a.groups b.groups (s.blocks old) (s.blocks mid) (after_groups (s.lsn mid + 1) b.groups (s.blocks mid)) first second in
        subst (PutsBack shape number rows (a.groups ++ b.groups) (s.blocks old)) (both.made ∙ ap (λ (n : ℕ). after_groups (n + 1) (a.groups ++ b.groups) (s.blocks old)) (sym may.logged)) both;
    done = λ number rows told goes may.
        let may_mid = may_on old mid most First number rows told a may in
        let second = now_puts mid new more going Second number rows told goes b may_mid in
        both told goes number rows may_mid second.idle (a.done number rows told refl may) (b.done number rows told goes may_mid);
  }

  -- what follows for the blocks
  pub rolls_so : (old new : S) (most more : ℕ) (Done Then : List (List ℕ) → Type 0) → most ≤ more → Rolls s shape old new most true Done → (s.tells → Done (s.blocks new) → Then (s.blocks new)) → Rolls s shape old new more true Then
  rolls_so old new most more Done Then le a so = record {
    groups = a.groups;
    logs = a.logs;
    few = omega (arith, le, a.few);
    puts_back = a.puts_back;
    done = λ number rows told goes may. so told (a.done number rows told goes may);
  }
