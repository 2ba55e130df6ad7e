use Rattle.std.proofs.Common.{◌≢◌, ◌<◌, ℕ, List, inl, inr, sym, subst, arith}
use Rattle.std.proofs.lemmas.Bool.{cases_eq, cases_lt}
use Rattle.std.proofs.lemmas.List.{get_or_past, length-map}
use Rattle.rb_base.specs.declared.shape.Shape.{Shape}
use Rattle.rb_heap.proofs.Reading.{entries_counted}
use Rattle.rb_heap.specs.Homes.{home_of}
use Rattle.rb_itl.specs.Entries as bytes
use Rattle.rb_itl.specs.declared.slots.Entry.{Entry}
use Rattle.rb_itl.specs.declared.slots.TheConstants.{OPEN}
use Rattle.law_read.specs.Heights.{AtMost}
use Rattle.law_blocks.specs.Says.{walk_entry, walk_home}
use Rattle.law_home.specs.Walk.{Env, entry_at, free_entry}
use Rattle.rb_cr.proofs.EntryBytes.{of_home}
use Rattle.rb_cr.proofs.Settled.{none_open}
use Rattle.rb_cr.proofs.visible.all_told_visible.Goals as goal

-- a place behind the eighth has no entry
behind : (block : List ℕ) (scn i : ℕ) (shape : Shape) (env : Env) (b : ℕ) → (i < 8 → ⊥) → AtMost env scn scn (entry_at (walk_home shape b (home_of block)) i)
behind block scn i shape env b past =
    subst (AtMost env scn scn) (sym (get_or_past (walk_home shape b (home_of block)).entries i free_entry (omega (arith, past, length-map (home_of block).entries (walk_entry shape), entries_counted block)))) tt

most_here : (block : List ℕ) (scn i : ℕ) → i < 8 → ((shape : Shape) (env : Env) → AtMost env scn scn (walk_entry shape (bytes.entry_at block i))) → (shape : Shape) (env : Env) (b : ℕ) → AtMost env scn scn (entry_at (walk_home shape b (home_of block)) i)
most_here block scn i lt told shape env b = subst (AtMost env scn scn) (sym (of_home block i shape b lt)) (told shape env)

pub loop-i-preserved : goal.loop-i-preserved
loop-i-preserved c =
    let block = c.args.block.now in
    let scn = c.args.scn in
    let lt : c.loop-i.i < 8 = (let lt = c.loop-i-test.true in omega (arith, lt)) in
    let told = subst (λ (e : Entry). (shape : Shape) (env : Env) → AtMost env scn scn (walk_entry shape e)) c.entry.ensures (c.is_told_visible.ensures.most c.if-not-is_told_visible.false) in
    let closed = subst (λ (e : Entry). e.kind ≢ OPEN) c.entry.ensures (c.is_told_visible.ensures.closed c.if-not-is_told_visible.false) in
    record {
      most = λ shape env b j up. elim (cases_eq j c.loop-i.i) [
        | inl is ↦ subst (λ (n : ℕ). AtMost env scn scn (entry_at (walk_home shape b (home_of block)) n)) (sym is) (most_here block scn c.loop-i.i lt told shape env b)
        | inr ne ↦ c.loop-i.invariant.most shape env b j (omega (arith, up, ne))
      ];
      closed = λ j up. elim (cases_eq j c.loop-i.i) [
        | inl is ↦ subst (λ (n : ℕ). (bytes.entry_at block n).kind ≢ OPEN) (sym is) closed
        | inr ne ↦ c.loop-i.invariant.closed j (omega (arith, up, ne))
      ];
    }

pub returns-clause-most : goal.returns-clause-most
returns-clause-most c = λ yes shape env b j. elim (cases_lt j 8) [
  | inl lt ↦ c.loop-i.invariant.most shape env b j (let past = c.loop-i-test.false in omega (arith, lt, past))
  | inr past ↦ behind c.args.block.now c.args.scn j shape env b (λ lt. omega (arith, lt, past))
]

pub returns-clause-clean : goal.returns-clause-clean
returns-clause-clean c = λ yes look. none_open c.args.block.now (λ i lt. c.loop-i.invariant.closed i (let past = c.loop-i-test.false in omega (arith, lt, past))) look
