use Rattle.std.proofs.Common.{◌≡◌, ◌≤◌, ◌+◌, ◌++◌, ℕ, true, List, length, take, replicate, vec_len, is_ok, ap, sym, ◌∙◌, arith, rules}
use Rattle.std.proofs.lemmas.List.{length-take-le, replicate-append-replicate, take-replicate}
use Rattle.rb_fill.proofs.fill.repeated.Goals as goal

-- some copies more
grown : {A : Type 0} (v : A) (old piece new : List A) (more a b n : ℕ) → old ≡ replicate a v → piece ≡ replicate n v → more ≤ n → new ≡ old ++ take more piece → b ≡ a + more → new ≡ replicate b v
grown v old piece new more a b n old_is piece_is le new_is sum =
    new_is ∙ ap (λ vs. vs ++ take more piece) old_is ∙ ap (λ vs. replicate a v ++ take more vs) piece_is ∙ ap (λ vs. replicate a v ++ vs) (take-replicate more n v le)
    ∙ replicate-append-replicate a more v ∙ ap (λ m. replicate m v) (sym sum)

pub loop-items-preserved : goal.loop-items-preserved
loop-items-preserved g c =
    let ok : is_ok c.extend_from_slice.result ≡ true = search rules in
    let items = rw ok at c.extend_from_slice.ensures.items in
    let len = rw ok at c.extend_from_slice.ensures.len in
    let some : c.min-more.result ≤ length c.args.piece.now = omega arith in
    let more : length (take c.min-more.result c.args.piece.now) ≡ c.min-more.result = length-take-le c.min-more.result c.args.piece.now some in
    record {
      copies = grown c.args.value c.loop-items.items.items c.args.piece.now c.extend_from_slice.new.self.items c.min-more.result (vec_len c.loop-items.items) (vec_len c.extend_from_slice.new.self) (length c.args.piece.now)
          c.loop-items.invariant.copies c.requires.copies some items (omega (arith, len, more));
      few = omega (arith, len, more);
    }
