use Rattle.std.proofs.Common.{◌≡◌, ◌⊎◌, inl, inr, ◌+◌, ◌<◌, ◌≤◌, ◌++◌, ◌∷◌, [], ℕ, List, length, take, get_or, ⊎_elim, ap, sym, subst, ◌∙◌}
use Rattle.std.proofs.lemmas.Bool.{false≢true}
use Rattle.std.proofs.lemmas.List.{take_all, take_more}
use Rattle.rb_filedisk.specs.Faults.{lost_of}
use Rattle.rb_filedisk.specs.Unsynced.{ranges_of, Has, HasOne}
use Rattle.rb_filedisk.specs.declared.unsynced.Range.{Range}
use Rattle.rb_filedisk.proofs.ByteLemmas.{one_more}
use Rattle.rb_filedisk.proofs.FaultLemmas.{others_range, pieces_fewer, pieces_none, tells_more, tells_none}
use Rattle.rb_filedisk.proofs.KeepLemmas.{rests_none, rests_more}
use Rattle.rb_filedisk.proofs.unsynced.Unsynced.write_again.Goals.{then-write_range_again, else-write_range_again}
use Rattle.rb_filedisk.proofs.unsynced.Unsynced.write_again.Goals as goal

-- a byte of the first ranges and one more is one of the first or of that one
split : (items ranges : List Range) (i place : ℕ) (d : Range) → items ≡ ranges → i < length items → HasOne (take (i + 1) ranges) place
    → HasOne (take i ranges) place ⊎ Has (get_or items i d) place
split items ranges i place d same lt has =
    one_more (take i ranges) (get_or items i d) place (subst (λ (some : List Range). HasOne some place)
    (ap (λ (some : List Range). take (i + 1) some) (sym same)
    ∙ take_more items i d lt
    ∙ ap (λ (some : List Range). take i some ++ get_or items i d ∷ []) same) has)

pub write_range_again-requires : goal.write_range_again-requires
write_range_again-requires g c told = c.requires told ∙ ap length (sym (c.loop-range.invariant.rests told).stays.same)

pub loop-range-init : goal.loop-range-init
loop-range-init g c = record {
  rests = λ told. rests_none g.F.RawFile c.args.file.now;
  found = λ told all place gone. absurd gone.0;
  counted = λ told. tells_none (g.F.RawFile.faults c.args.file.now);
  others = λ told n rose. pieces_none n _ (λ place gone. absurd gone.0);
}

pub loop-range-preserved : goal.loop-range-preserved
loop-range-preserved g c =
    let f = g.F.RawFile in
    let was = c.loop-range.invariant in
    let did = c.write_range_again.ensures in
    let i = c.loop-range.range-index in
    let ranges = ranges_of c.args.self.now in
    let items = c.as_slice-range-items.result.now in
    let one = get_or items i (record { start = 0; end = 0 }) in
    let len = c.args.len in
    let mid = c.loop-range.file in
    let new = c.write_range_again.new.file in
    let cases = λ (place : ℕ) (has : HasOne (take (i + 1) ranges) place).
    split items ranges i place (record { start = 0; end = 0 }) c.as_slice-range-items.ensures.value c.loop-range-test.true has in
    record {
      rests = λ told. rests_more f _ _ _ (was.rests told) (did.rests told);
      found = λ told all place gone.
          elim c.if-write_range_again.branch [
            | then-write_range_again w ↦
                ⊎_elim (λ (before : HasOne (take i ranges) place). was.found told (sym w.all-is ∙ all) place (before, gone.1, (did.rests told).losses place gone.2))
                (λ (here : Has one place). did.found told w.if-write_range_again.true place (here, gone.1, gone.2)) (cases place gone.0)
            | else-write_range_again w ↦ absurd (false≢true (sym (w.all-is ∙ w.if-write_range_again.false) ∙ all))
          ];
      counted = λ told.
          tells_more (f.faults c.args.file.now) (f.faults mid) (f.faults new) c.loop-range.all c.write_range_again.result _ (was.counted told) (did.counted told)
          (λ bad.
          elim c.if-write_range_again.branch [
            | then-write_range_again w ↦ inl (sym w.all-is ∙ bad)
            | else-write_range_again w ↦ inr w.if-write_range_again.false
          ]);
      others = λ told n rose.
          others_range (f.faults c.args.file.now) (f.faults mid) (f.faults new) n (lost_of (HasOne (take i ranges)) len (f.lost mid)) (lost_of (Has one) len (f.lost new))
          (lost_of (HasOne (take (i + 1) ranges)) len (f.lost new)) (was.counted told).no_less (did.counted told).no_less (was.others told) (did.others told)
          (λ place gone.
          ⊎_elim (λ (before : HasOne (take i ranges) place). inl (before, gone.1, (did.rests told).losses place gone.2))
          (λ (here : Has one place). inr (here, gone.1, gone.2)) (cases place gone.0))
          rose;
    }

pub returns : goal.returns
returns g c =
    let f = g.F.RawFile in
    let was = c.loop-range.invariant in
    let ranges = ranges_of c.args.self.now in
    let i = c.loop-range.range-index in
    let lost = f.lost c.loop-range.file in
    let whole = take_all i ranges (subst (λ (some : List Range). length some ≤ i) c.as_slice-range-items.ensures.value c.loop-range-test.false) in
    let back = λ (place : ℕ) (gone : lost_of (HasOne ranges) c.args.len lost place).
    subst (λ (some : List Range). lost_of (HasOne some) c.args.len lost place) (sym whole) gone in
    record {
      rests = was.rests;
      found = λ told all place gone. was.found told all place (back place gone);
      counted = was.counted;
      others = λ told n rose.
          pieces_fewer n (lost_of (HasOne (take i ranges)) c.args.len lost) (lost_of (HasOne ranges) c.args.len lost) back (was.others told n rose);
    }
