use Rattle.std.proofs.Common.{◌≡◌, ◌⊎◌, ◌≤◌, inl, inr, ⊎_elim, ap, sym, subst, ◌∙◌, Some, IsSome, Result, Ok, Err, OnOk, OnErr, IsOk}
use Rattle.rb_copies.specs.Caches.{table_in}
use Rattle.rb_copies.specs.Copies.{IsTable, CopyTable, kept_under, with_copy}
use Rattle.rb_copies.proofs.Uses.{with_copy-put, with_copy-sound, with_copy-own, with_copy-others, with_copy-room}
use Rattle.rb_copies.proofs.table.Copies.keep.Goals as goal
use Rattle.rb_copies.proofs.table.Copies.keep.Goals.{in-Some, in_default}

by : {A B P Q R : Type 0} (r : Result A B) → OnOk r P → OnErr r Q → (P → R) → (Q → R) → R
by (Ok a) ok err f g = f ok
by (Err b) ok err f g = g err

of_ok : {A B P : Type 0} (r : Result A B) → IsOk r → OnOk r P → P
of_ok (Ok a) is ok = ok
of_ok (Err b) is ok = cc

-- what the body leaves of the table that it found
now_put : (c : goal.Joined-self) → (table_in c.match-self.self-inside.table ≡ table_in c.self.inside.table)
    ⊎ ((table_in c.match-self.self-inside.table ≡ with_copy (table_in c.self.inside.table) c.args.key c.args.home)
    × (1 ≤ (table_in c.self.inside.table).most))
now_put c = elim c.match-self.branch [
  | in-Some w ↦
      let sound = rw w.in-Some.is at c.self.invariant in
      by w.put.result w.put.ensures.entries w.put.ensures.err
      (λ is. inr (rw (w.self-inside-is, w.in-Some.is, is) (with_copy-put c.args.key c.args.home w.in-Some.table sound.table.few), rw w.in-Some.is sound.some))
      (λ is. inl (rw (w.self-inside-is, w.in-Some.is, is)))
  | in_default w ↦ inl (rw w.self-inside-is)
]

sound : (c : goal.Joined-self) → IsTable (table_in c.match-self.self-inside.table)
sound c = ⊎_elim (λ is. rw is c.self.invariant.table)
    (λ put. rw put.0 (with_copy-sound (table_in c.self.inside.table) c.args.key c.args.home c.self.invariant.table put.1)) (now_put c)

pub invariant_of-self : goal.invariant_of-self
invariant_of-self c = record {
  table = sound c;
  some = elim c.match-self.branch [
    | in-Some w ↦
        let some = rw w.in-Some.is at c.self.invariant.some in
        rw w.self-inside-is (by w.put.result w.put.ensures.entries w.put.ensures.err (λ is. rw is some) (λ is. rw is some))
    | in_default w ↦ rw w.self-inside-is c.self.invariant.some
  ];
}

pub returns-clause-kept : goal.returns-clause-kept
returns-clause-kept c = ⊎_elim (λ is. inl (is ∙ c.self.view_is))
    (λ put. inr (put.0 ∙ ap (λ t. with_copy t c.args.key c.args.home) c.self.view_is)) (now_put c)

pub returns-clause-again : goal.returns-clause-again
returns-clause-again c = λ kept.
    let there = subst (λ (t : CopyTable). IsSome (kept_under t.kept c.args.key)) (sym c.self.view_is) kept in
    elim c.match-self.branch [
      | in-Some w ↦
          let few = rw w.in-Some.is at c.self.invariant.table.few in
          let is = of_ok w.put.result (w.put.ensures.succeeds (rw w.in-Some.is at there)) w.put.ensures.entries in
          (let now : table_in c.match-self.self-inside.table ≡ with_copy (table_in c.self.inside.table) c.args.key c.args.home =
          rw (w.self-inside-is, w.in-Some.is, is) (with_copy-put c.args.key c.args.home w.in-Some.table few) in
          now ∙ ap (λ t. with_copy t c.args.key c.args.home) c.self.view_is)
      | in_default w ↦ let none = rw w.in_default.is at there in cc
    ]

pub returns-clause-own : goal.returns-clause-own
returns-clause-own c = ⊎_elim inl
    (λ is. inr (subst (λ (t : CopyTable). kept_under t.kept c.args.key ≡ Some c.args.home) (sym is)
    (with_copy-own c.args.self.now c.args.key c.args.home))) (returns-clause-kept c)

pub returns-clause-others : goal.returns-clause-others
returns-clause-others c = λ k copy found. ⊎_elim
    (λ is. inl (subst (λ (t : CopyTable). kept_under t.kept k ≡ Some copy) is found))
    (λ is. with_copy-others c.args.self.now c.args.key c.args.home k copy
    (subst (λ (t : CopyTable). kept_under t.kept k ≡ Some copy) is found)) (returns-clause-kept c)

pub returns-clause-room : goal.returns-clause-room
returns-clause-room c = λ less k differ. ⊎_elim
    (λ is. ap (λ (t : CopyTable). kept_under t.kept k) is)
    (λ is. ap (λ (t : CopyTable). kept_under t.kept k) is
    ∙ with_copy-room c.args.self.now c.args.key c.args.home less k differ) (returns-clause-kept c)

pub returns-clause-sound : goal.returns-clause-sound
returns-clause-sound c = sound c
