use Rattle.std.proofs.Common.{rules, ◌≡◌, length, get_or, ◌<◌, ◌≤◌, ℕ, Option, sym, ap, subst, arith, refl, true}
use Rattle.rb_cr.specs.Calls.{Said}
use Rattle.rb_cr.specs.Visible.{StandsAbove}
use Rattle.rb_cr.specs.Reads.{more_reads}
use Rattle.rb_cr.specs.Scratches.{scratch_home}
use Rattle.rb_cr.specs.declared.visible.HighestEntry.{HighestEntry}
use Rattle.rb_itl.specs.Entries.{free_entry as zero_entry}
use Rattle.law_read.specs.Heights.{Numbered}
use Rattle.law_blocks.specs.Says.{walk_entry}
use Rattle.law_home.specs.Kinds.{Entry}
use Rattle.law_home.specs.Walk.{entry_at}
use Rattle.rb_cr.proofs.Tops.{entry_is, most_step}
use Rattle.rb_cr.proofs.visible.greatest.Goals.{then-top-above, else-top-above}
use Rattle.rb_cr.proofs.visible.greatest.Goals as goal

entry_same : {a b : HighestEntry} → a ≡ b → a.entry ≡ b.entry
entry_same same = ap (λ (top : HighestEntry). top.entry) same

number_same : {a b : HighestEntry} → a ≡ b → a.number ≡ b.number
number_same same = ap (λ (top : HighestEntry). top.number) same

pub loop-i-preserved : goal.loop-i-preserved
loop-i-preserved g c =
    let s = g.S.Segments in
    let inv = c.loop-i.invariant in
    let said = s.says c.args.segments.now in
    let es = c.args.scratch.now.entries in
    let b = scratch_home said.shape c.args.scratch.now in
    let i = c.loop-i.i in
    let eight : length es ≡ 8 = search rules in
    let tall = λ (told : s.tells).
    (let at_start : StandsAbove said.env c.args.scn (walk_entry said.shape (get_or es i zero_entry)) c.in_ok-above.field-0 = subst (λ (z : Said). StandsAbove z.env c.args.scn (walk_entry z.shape (get_or es i zero_entry)) c.in_ok-above.field-0) (inv.reads.same told refl) (c.in_ok-above.ensures.told told) in
    let here : StandsAbove said.env c.args.scn (entry_at b i) c.in_ok-above.field-0 = subst (λ (z : Entry). StandsAbove said.env c.args.scn z c.in_ok-above.field-0) (sym (entry_is said.shape es i (omega (arith, eight, c.loop-i-test.true)))) at_start in
    subst (λ (z : Option ℕ). StandsAbove said.env c.args.scn (entry_at b i) z) c.in-Some.is here) in
    let raised : c.loop-i.top.number ≤ c.if-top-above.top.number = elim c.if-top-above.branch [ then-top-above w ↦ omega (arith, number_same w.top-is, w.if-top-above.true) | else-top-above w ↦ omega (arith, number_same w.top-is) ] in
    let most : c.in-Some.above ≤ c.if-top-above.top.number = elim c.if-top-above.branch [ then-top-above w ↦ omega (arith, number_same w.top-is) | else-top-above w ↦ omega (arith, number_same w.top-is, w.if-top-above.false) ] in
    record {
      reads = more_reads s c.args.segments.now c.loop-i.segments c.number_above.new.segments true g.met.S.Segments.more_calls inv.reads c.in_ok-above.ensures.reads;
      within = elim c.if-top-above.branch [ then-top-above w ↦ omega (arith, entry_same w.top-is, c.loop-i-test.true) | else-top-above w ↦ omega (arith, entry_same w.top-is, inv.within) ];
      least = omega (arith, inv.least, raised);
      most = λ told. most_step said.env c.args.scn i c.loop-i.top.number c.in-Some.above c.if-top-above.top.number b (inv.most told) ((tall told).1) raised most;
      number = λ told above. elim c.if-top-above.branch [
        | then-top-above w ↦
            let lt : c.args.scn < c.in-Some.above = omega (arith, number_same w.top-is, above) in
            let here : Numbered said.env (entry_at b i) c.in-Some.above = (tall told).2 lt in
            subst (λ (z : ℕ). Numbered said.env (entry_at b z) c.if-top-above.top.number) (sym (entry_same w.top-is)) (subst (λ (z : ℕ). Numbered said.env (entry_at b i) z) (sym (number_same w.top-is)) here)
        | else-top-above w ↦
            let lt : c.args.scn < c.loop-i.top.number = omega (arith, number_same w.top-is, above) in
            let here : Numbered said.env (entry_at b c.loop-i.top.entry) c.loop-i.top.number = inv.number told lt in
            subst (λ (z : ℕ). Numbered said.env (entry_at b z) c.if-top-above.top.number) (sym (entry_same w.top-is)) (subst (λ (z : ℕ). Numbered said.env (entry_at b c.loop-i.top.entry) z) (sym (number_same w.top-is)) here)
      ];
    }
