use Rattle.std.proofs.Common.{◌≡◌, ◌∙◌, ◌++◌, map, take, drop, get_or, ap, arith}
use Rattle.std.proofs.lemmas.List.{take_all, drop_all, append-nil}
use Rattle.std.proofs.lemmas.List.Edits.{map_over_more}
use Rattle.rb_sessions.specs.Kept.{cursor_view}
use Rattle.rb_sessions.proofs.Cursors.{passed_over, all_passed}
use Rattle.rb_sessions.proofs.row.pass_all.Goals as goal

pub loop-named-preserved : goal.loop-named-preserved
loop-named-preserved c =
    let l = c.loop-named in
    map_over_more passed_over c.args.cursors.now l.cursors l.named-index (get_or l.cursors l.named-index c.named-item.result) c.loop-named-test.true l.invariant (ap (get_or l.cursors l.named-index) c.named-item.is)

pub returns : goal.returns
returns c =
    let l = c.loop-named in
    let xs = c.args.cursors.now in
    let all : map passed_over (take l.named-index xs) ++ drop l.named-index xs ≡ map passed_over xs =
    ap (λ ys. map passed_over ys ++ drop l.named-index xs) (take_all l.named-index xs (omega arith)) ∙ ap (λ ys. map passed_over xs ++ ys) (drop_all l.named-index xs (omega arith)) ∙ append-nil (map passed_over xs) in
    ap (map cursor_view) (l.invariant ∙ all) ∙ all_passed xs
