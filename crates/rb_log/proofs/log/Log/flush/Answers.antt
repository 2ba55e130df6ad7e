use Rattle.std.proofs.Common.{◌≡◌, ◌+◌, ◌-◌, ◌*◌, ◌++◌, ◌<◌, ◌≤◌, ◌∙◌, Result, Ok, Err, OnErr, Bool, true, false, List, ℕ, length, take, drop, ap, sym, subst, arith, refl}
use Rattle.std.proofs.lemmas.List.{take_at}
use Rattle.std.specs.Vec.{vec_capacity}
use Rattle.rb_base.specs.declared.sizes.TheConstants.{UNIT}
use Rattle.rb_log.specs.GroupLaws.{slot_below}
use Rattle.rb_layout.specs.declared.layout.Head.{Head}
use Rattle.rb_layout.specs.declared.layout.Layout.{Layout}
use Rattle.rb_log.specs.Slots.{slot_of}
use Rattle.rb_log.specs.WaitingUnits.{bodies_of, groups_of, AreSpare, IsLogMemory}
use Rattle.rb_log.specs.declared.sizes.TheConstants.{FLUSH_BYTES}
use Rattle.rb_log.proofs.WaitingLemmas.{first_bodies}
use Rattle.rb_log.proofs.log.Log.flush.Given.{Over}
use Rattle.rb_log.proofs.log.Log.flush.Goals.{After-write_groups}
use Rattle.rb_log.proofs.log.Log.flush.Goals as goal

within_flush : (scanned : Bool) (used count ahead log : ℕ) → (scanned ≡ true → ahead ≡ 0) → (scanned ≡ false → count ≡ 0) → used + count < log → used + ahead < log → used + count + ahead < log
within_flush true used count ahead log ended none below within = let e = ended refl in omega (arith, e, below)
within_flush false used count ahead log ended none below within = let e = none refl in omega (arith, e, within)

in_line_flush : (scanned : Bool) (l : Layout) (head : Head) (used count ahead : ℕ) → (scanned ≡ true → ahead ≡ 0) → (scanned ≡ false → count ≡ 0) → head.slot < l.log → used + count < l.log → slot_of l head used + ahead ≤ l.log → slot_of l head (used + count) + ahead ≤ l.log
in_line_flush true l head used count ahead ended none slot below line = let e = ended refl in let under = slot_below l head (used + count) slot (omega (arith, below)) in omega (arith, e, under)
in_line_flush false l head used count ahead ended none slot below line = let e = none refl in subst (λ (k : ℕ). slot_of l head k + ahead ≤ l.log) (omega (arith, e)) line

-- the bodies of all units are those of before, and so are those that wait after an error
abbrev all_units : (g : Over) → After-write_groups g → List (List ℕ)
all_units g c = take c.self.inside.units.len (c.write_groups.new.units ++ drop (length c.write_groups.new.units) c.self.inside.units.items)

all_kept : (g : Over) (c : After-write_groups g) → bodies_of (all_units g c) ≡ bodies_of c.self.inside.units.items
all_kept g c =
    let a = c.self.inside in
    ap bodies_of (take_at c.write_groups.new.units (drop (length c.write_groups.new.units) a.units.items) a.units.len (omega (arith, c.write_groups.auto.units, c.deref_mut.ensures.len)))
    ∙ c.write_groups.ensures.bodies ∙ ap bodies_of c.deref_mut.ensures.value

kept : (g : Over) (c : After-write_groups g) → bodies_of (take c.self.inside.waiting (all_units g c)) ≡ bodies_of (take c.self.inside.waiting c.self.inside.units.items)
kept g c = first_bodies c.self.inside.waiting c.self.inside.units.items (all_units g c) (all_kept g c)

-- What is read ahead stays in line: where the end is found there is none, and before no group waits.
pub invariant_of-self-2 : goal.invariant_of-self-2
invariant_of-self-2 g c =
    let a = c.self.inside in
    let i = c.self.invariant in
    record {
      slot = i.slot;
      small = omega (arith, i.small);
      below = omega (arith, i.below);
      enough = i.enough;
      counts = refl;
      each = tt;
      spelled = λ k d lt. absurd (omega (arith, lt));
      spare = subst AreSpare (sym (all_kept g (goal.at.invariant_of-self-2 g c).After-write_groups)) i.spare;
      none = λ is. refl;
      units = i.units;
      few = i.few;
      within = within_flush a.scanned a.used a.waiting a.ahead a.layout.log i.ended i.none i.below i.within;
      in_line = in_line_flush a.scanned a.layout a.head a.used a.waiting a.ahead i.ended i.none i.slot i.below i.in_line;
      ended = i.ended;
    }

pub invariant_of-self : goal.invariant_of-self
invariant_of-self g c =
    let a = c.self.inside in
    let here = (goal.at.invariant_of-self g c).After-write_groups in
    subst (λ (bodies : List (List ℕ)). IsLogMemory a.layout a.head a.used a.waiting bodies (bodies_of (all_units g here)) a.scanned a.buffer.items a.ahead (vec_capacity a.units)) (sym (kept g here))
    (subst (λ (all : List (List ℕ)). IsLogMemory a.layout a.head a.used a.waiting (bodies_of (take a.waiting a.units.items)) all a.scanned a.buffer.items a.ahead (vec_capacity a.units)) (sym (all_kept g here)) c.self.invariant)

on_err : {T E : Type 0} (r : Result T E) (P : Type 0) → P → OnErr r P
on_err (Ok x) P holds = tt
on_err (Err e) P holds = holds

pub returns-in_err-write_groups-clause-stays : goal.returns-in_err-write_groups-clause-stays
returns-in_err-write_groups-clause-stays g c =
    let a = c.self.inside in
    on_err c.from_residual.result _ (ap (λ (bodies : List (List ℕ)). record { layout = a.layout; head = a.head; used = a.used; pending = groups_of bodies; scanned = a.scanned; ahead = drop (FLUSH_BYTES - UNIT * a.ahead) a.buffer.items }) (kept g (goal.at.returns-in_err-write_groups-clause-stays g c).After-write_groups) ∙ c.self.view_is)
