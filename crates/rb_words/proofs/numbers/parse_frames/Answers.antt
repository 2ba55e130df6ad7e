use Rattle.std.proofs.Common.{◌≡◌, codes, inl, inr, arith}
use Rattle.rb_words.proofs.Spelling.{same_alone}
use Rattle.rb_words.proofs.numbers.parse_frames.Goals as goal

pub returns-then-frames-lt-FEWEST_FRAMES-clause-none : goal.returns-then-frames-lt-FEWEST_FRAMES-clause-none
returns-then-frames-lt-FEWEST_FRAMES-clause-none c = λ n low high asked.
    let same : c.in_ok-frames.frames ≡ n = same_alone c.args.parameters.now _ (codes "frames=") c.in_ok-frames.frames n
    c.in-len1.len_at_least c.in-len1.len_below c.in_ok-frames.ensures.found (omega arith) (omega arith) asked in
    elim c.then-frames-lt-FEWEST_FRAMES.either [ inl few ↦ omega (arith, same, few) | inr many ↦ omega (arith, same, many.1) ]
