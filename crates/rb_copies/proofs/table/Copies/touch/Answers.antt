use Rattle.std.proofs.Common.{◌≡◌, true, Bor, Option, Some, None, is_some, option_copied, ap, sym, ◌∙◌}
use Rattle.rb_copies.specs.Caches.{table_in}
use Rattle.rb_copies.specs.Copies.{IsTable, CopyTable, kept_under, used}
use Rattle.rb_copies.proofs.Uses.{used-latest, used-promoted, used-sound, used-same}
use Rattle.rb_copies.proofs.table.Copies.touch.Goals as goal
use Rattle.rb_copies.proofs.table.Copies.touch.Goals.{in-None, in-Some+then-is_some, in-Some+else-is_some}

-- what is lent is there where what it lends is
lent_some : {X : Type 0} (lent : Option (Bor X)) → is_some lent ≡ true → is_some (option_copied lent) ≡ true
lent_some None is = is
lent_some (Some x) is = is

now_used : (c : goal.Joined-self) → table_in c.match-self.self-inside.table ≡ used (table_in c.self.inside.table) c.args.key
now_used c = elim c.match-self.branch [
  | in-None w ↦ rw (w.self-inside-is, w.in-None.is)
  | in-Some+then-is_some w ↦ rw (w.self-inside-is, w.in-Some.is) (sym (used-latest c.args.key w.in-Some.table.entries w.in-Some.table.cap
      (ap is_some (sym w.latest.ensures) ∙ lent_some w.latest.result (sym w.is_some.ensures ∙ w.if-is_some.true))))
  | in-Some+else-is_some w ↦ rw (w.self-inside-is, w.in-Some.is, w.promote.ensures.entries)
      (used-promoted c.args.key w.in-Some.table.entries w.in-Some.table.cap)
]

sound : (c : goal.Joined-self) → IsTable (table_in c.match-self.self-inside.table)
sound c = rw (now_used c) (used-sound (table_in c.self.inside.table) c.args.key c.self.invariant.table)

pub invariant_of-self : goal.invariant_of-self
invariant_of-self c = record {
  table = sound c;
  some = elim c.match-self.branch [
    | in-None w ↦ rw (w.self-inside-is, w.in-None.is) tt
    | in-Some+then-is_some w ↦ let some = rw w.in-Some.is at c.self.invariant.some in rw w.self-inside-is some
    | in-Some+else-is_some w ↦ let some = rw w.in-Some.is at c.self.invariant.some in rw (w.self-inside-is, w.promote.ensures.entries) some
  ];
}

pub returns-clause-used : goal.returns-clause-used
returns-clause-used c = now_used c ∙ ap (λ t. used t c.args.key) c.self.view_is

pub returns-clause-same : goal.returns-clause-same
returns-clause-same c = λ k. ap (λ (t : CopyTable). kept_under t.kept k) (now_used c)
    ∙ used-same (table_in c.self.inside.table) c.args.key k ∙ ap (λ (t : CopyTable). kept_under t.kept k) c.self.view_is

pub returns-clause-sound : goal.returns-clause-sound
returns-clause-sound c = sound c
