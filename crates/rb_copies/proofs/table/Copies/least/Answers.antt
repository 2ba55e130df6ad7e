use Rattle.std.proofs.Common.{◌≡◌, sym, ap, ◌∙◌, subst, Some, map}
use Rattle.rb_copies.specs.Caches.{table_in}
use Rattle.rb_copies.specs.Copies.{IsTable, Serves, CopyTable, kept_under, copy_key}
use Rattle.std.specs.Map.Iter.{deref_pair}
use Rattle.std.proofs.lemmas.Map.Iter.{iter_turn, iter_end}
use Rattle.std.proofs.lemmas.Map.Entries.{lookup_from_place}
use Rattle.rb_copies.proofs.Keys.{key_laws}
use Rattle.rb_copies.proofs.Scanning.{scanned_more, scanned_some, scanned_none}
use Rattle.rb_copies.proofs.table.Copies.least.Goals as goal

-- an entry of this block and log number, from the commit number on, serves there
served : (c : goal.After-lesser) → Serves c.args.self.now.kept c.args.block c.args.number c.args.scn c.in-Some-2.key.now.scn
served c =
    let start = c.into_iter-key-iterator.ensures.into_iter_gives ∙ c.iter-key-items.ensures.rest
    ∙ sym (ap (λ t. (table_in t).kept) c.in-Some.is) ∙ ap (λ (t : CopyTable). t.kept) c.self.view_is in
    let sound = subst (λ (t : CopyTable). IsTable t) c.self.view_is c.self.invariant.table in
    let turn = iter_turn deref_pair c.args.self.now.kept c.loop-key.yielded c.into_iter-key-iterator.result
    c.loop-key.key-iterator c.next.new.self c.next.result start c.loop-key.yielded_by
    (c.in-Some-2.key, c.in-Some-2.home) c.in-Some-2.is c.next.ensures.steps in
    let there = lookup_from_place key_laws c.args.self.now.kept _ c.in-Some-2.key.now c.in-Some-2.home.now sound.once turn.1 in
    record {
      home = c.in-Some-2.home.now;
      there = subst (λ b. kept_under c.args.self.now.kept (copy_key b c.in-Some-2.key.now.scn) ≡ Some c.in-Some-2.home.now)
          c.if-key-block.true there;
      unchanged = c.if-home-number.true;
      high = c.if-scn-key.true;
    }

pub loop-key-preserved-then-scn-key : goal.loop-key-preserved-then-scn-key
loop-key-preserved-then-scn-key c = rw c.lesser.ensures (scanned_more c.args.self.now.kept c.args.block c.args.number c.args.scn
    c.loop-key.least c.loop-key.yielded (c.in-Some-2.key, c.in-Some-2.home) c.loop-key.invariant (served c))

seen_all : (c : goal.In-None) → map deref_pair c.loop-key.yielded ≡ c.args.self.now.kept
seen_all c =
    let start = c.into_iter-key-iterator.ensures.into_iter_gives ∙ c.iter-key-items.ensures.rest
    ∙ sym (ap (λ t. (table_in t).kept) c.in-Some.is) ∙ ap (λ (t : CopyTable). t.kept) c.self.view_is in
    (iter_end deref_pair c.args.self.now.kept c.loop-key.yielded c.into_iter-key-iterator.result c.loop-key.key-iterator
    c.next.new.self c.next.result start c.loop-key.yielded_by c.in-None.is c.next.ensures.steps).0

pub returns-clause-some : goal.returns-clause-some
returns-clause-some c = scanned_some c.args.self.now.kept c.args.block c.args.number c.args.scn c.loop-key.least
    c.loop-key.yielded c.loop-key.invariant (seen_all c)

pub returns-clause-none : goal.returns-clause-none
returns-clause-none c = scanned_none c.args.self.now.kept c.args.block c.args.number c.args.scn c.loop-key.least
    c.loop-key.yielded c.loop-key.invariant (seen_all c)
