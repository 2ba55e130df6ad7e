use Rattle.std.proofs.Common.{ℕ, ◌+◌, ◌≡◌, List, [], ◌++◌, take, Result, Ok, Err, sym, ◌∙◌, ap, subst, refl, append-nil}
use Rattle.std.proofs.lemmas.Result.{err_from_is_err_and}
use Rattle.rb_model.specs.Out.{outside_by}
use Rattle.rb_lines.specs.declared.runner.StepFault.{StepFault}
use Rattle.rb_lines.specs.Ran.{RanAs}
use Rattle.rb_lines.specs.Pieces.{lines_from, rest_from}
use Rattle.rb_lines.proofs.Cuts.{ends_at, no_end_all, rest_no_end, lines-append, rest-append, lines_no_end}
use Rattle.rb_lines.proofs.Dids.{did_as, did_on}
use Rattle.rb_lines.proofs.Pieces.{split_at, split_more, none_under_way, as_line, as_piece}
use Rattle.rb_lines.proofs.Runs.{ran_none}
use Rattle.rb_lines.proofs.partial.feed.Goals as goal

pub loop-size-init : goal.loop-size-init
loop-size-init g c = record {
  fed = ([], refl, (λ m line is going e. record { now = m; reached = is; passed = g.met.M.LineRunner.since_same c.args.runner.now m is going; ran = (ran_none _ m g.K.Sink.tells _, going) }), λ line e. e);
  disk = refl;
  sink = refl;
}

pub returns-in_err-end_line-clause-did : goal.returns-in_err-end_line-clause-did
returns-in_err-end_line-clause-did g c = λ m line is going e.
    let i = c.loop-size.invariant in
    let taken = i.fed.0 in
    let rest = c.loop-size.rest.now in
    let p = err_from_is_err_and c.from_residual.result c.from_residual.ensures.1 in
    let same : c.end_line.result ≡ c.from_residual.result = c.in_err-end_line.was ∙ sym (p.1 ∙ ap (λ (x : StepFault). Err x) p.2) in
    let ends = ends_at rest c.in-Some.size c.in-Some.ensures.0.high c.in-Some.ensures.0.before c.in-Some.ensures.1 in
    did_on c.args.runner.now c.loop-size.runner c.end_line.new.runner m _ _ _ g.met.M.LineRunner.since_joined (i.fed.2 m line is going e) (λ n so_far. so_far.1)
    (λ n reached on. c.end_line.ensures.did n (rest_from line taken) reached on (i.fed.3 line e))
    (λ n k so_far next.
    let here = as_line (outside_by g.M.LineRunner.worn g.M.LineRunner.back g.M.LineRunner.makes) m n k line taken rest c.in-Some.size g.K.Sink.tells _ _ _ c.end_line.result ends so_far.0 so_far.1 next in
    let fault = subst (λ (r : Result (Unit {0}) StepFault). RanAs (outside_by g.M.LineRunner.worn g.M.LineRunner.back g.M.LineRunner.makes) m k (lines_from line (taken ++ take (c.in-Some.size + 1) rest)) g.K.Sink.tells (g.K.Sink.held c.args.sink.now) (g.K.Sink.held c.end_line.new.sink) r)
    (same ∙ p.1) here in
    subst (λ (r : Result (Unit {0}) StepFault). RanAs (outside_by g.M.LineRunner.worn g.M.LineRunner.back g.M.LineRunner.makes) m k (lines_from line c.args.bytes.now) g.K.Sink.tells (g.K.Sink.held c.args.sink.now) (g.K.Sink.held c.end_line.new.sink) r)
    (sym p.1) (as_piece _ _ _ line c.args.bytes.now (taken ++ take (c.in-Some.size + 1) rest) _ g.K.Sink.tells _ _ p.0 (split_at c.args.bytes.now taken rest (c.in-Some.size + 1) i.fed.1) going fault))

pub loop-size-preserved : goal.loop-size-preserved
loop-size-preserved g c =
    let i = c.loop-size.invariant in
    let o = c.in_ok-end_line.ensures in
    let rest = c.loop-size.rest.now in
    let ends = ends_at rest c.in-Some.size c.in-Some.ensures.0.high c.in-Some.ensures.0.before c.in-Some.ensures.1 in
    let taken = i.fed.0 in
    record {
      fed = (
        taken ++ take (c.in-Some.size + 1) rest,
        split_more c.args.bytes.now taken rest (c.in-Some.size + 1) i.fed.1,
        (λ m line is going e. did_on c.args.runner.now c.loop-size.runner c.end_line.new.runner m _ _ _ g.met.M.LineRunner.since_joined (i.fed.2 m line is going e) (λ n so_far. so_far.1)
            (λ n reached on. o.did n (rest_from line taken) reached on (i.fed.3 line e))
            (λ n k so_far next. as_line (outside_by g.M.LineRunner.worn g.M.LineRunner.back g.M.LineRunner.makes) m n k line taken rest c.in-Some.size g.K.Sink.tells _ _ _ (Ok tt) ends so_far.0 so_far.1 next)),
        λ line e. o.kept ∙ sym (ap (λ (l : List ℕ). take 513 l) (none_under_way line taken rest c.in-Some.size ends)),
      );
      disk = o.disk.still refl refl ∙ i.disk;
      sink = o.sink.still refl ∙ i.sink;
    }

pub returns-clause-did : goal.returns-clause-did
returns-clause-did g c = λ m line is going e.
    let i = c.loop-size.invariant in
    let rest = c.loop-size.rest.now in
    let none = no_end_all rest c.in_default.ensures in
    let cut : lines_from line i.fed.0 ≡ lines_from line c.args.bytes.now =
    sym (ap (λ (b : List ℕ). lines_from line b) i.fed.1 ∙ lines-append line i.fed.0 rest
    ∙ ap (λ (ls : List (List ℕ)). lines_from line i.fed.0 ++ ls) (lines_no_end (rest_from line i.fed.0) rest none) ∙ append-nil (lines_from line i.fed.0)) in
    did_as _ _ m _ _ (λ n so_far. subst (λ (ls : List (List ℕ)). RanAs (outside_by g.M.LineRunner.worn g.M.LineRunner.back g.M.LineRunner.makes) m n ls g.K.Sink.tells (g.K.Sink.held c.args.sink.now) (g.K.Sink.held c.loop-size.sink) (Ok tt)) cut so_far)
    (i.fed.2 m line is going e)

pub returns-clause-kept : goal.returns-clause-kept
returns-clause-kept g c = λ line e.
    let i = c.loop-size.invariant in
    let rest = c.loop-size.rest.now in
    let none = no_end_all rest c.in_default.ensures in
    c.keep.ensures (rest_from line i.fed.0) (i.fed.3 line e)
    ∙ ap (λ (l : List ℕ). take 513 l) (sym (ap (λ (b : List ℕ). rest_from line b) i.fed.1 ∙ rest-append line i.fed.0 rest ∙ rest_no_end (rest_from line i.fed.0) rest none))
