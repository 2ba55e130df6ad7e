-- What is stable in a store over a cache is what its images open to.
use Rattle.std.proofs.Common.{◌≡◌, ℕ, List, [], ◌++◌, refl, Some, subst, sym, ap, arith, ◌∙◌}
use Rattle.std.proofs.Common.{append-nil, append_assoc, inl, inr, ⊎_elim}
use Rattle.std.proofs.lemmas.Bool.{cases_lt}
use Rattle.rb_base.specs.Groups.{Patch}
use Rattle.rb_layout.specs.Regions.{shape_of}
use Rattle.rb_layout.specs.declared.layout.Head.{Head}
use Rattle.rb_layout.specs.declared.layout.Layout.{Layout}
use Rattle.rb_store.specs.Meaning.{Opens, OpensAt}
use Rattle.rb_store.specs.StoreStates.{HeldBack, IsStableAt, StoreState}

pub stable_left : {l : Layout} {head : Head} {used : ℕ} {pending : List (List Patch)} {number : ℕ}
    {read : List (List ℕ)} {file : List ℕ} {image : List ℕ → Type 0} {b : List (List ℕ)} {n : ℕ}
    (c : List ℕ)
    → IsStableAt l head used pending number read file image b n → image c
    → Opens (shape_of l) (Some l.log) c b n
stable_left {l = l} {b = b} {n = n} c stable here = record {
  layout = l;
  shape_is = refl;
  slots_are = refl;
  opens = subst (λ (x : List ℕ). OpensAt l x b n) (sym (stable.only c here)) stable.opens;
}

pub held_back_same : {D : Type 0} (s : StoreState D) → HeldBack s s
held_back_same s = record {
  no_fewer = omega arith;
  waits = λ same few. ([], sym (append-nil s.pending));
  cause = λ more. absurd (omega (arith, more));
  full = λ is. is;
  no_back = omega arith;
  moves = λ more. absurd (omega (arith, more));
  layout = refl;
}

pub held_back_joined : {D : Type 0} (a b c : StoreState D) → HeldBack a b → HeldBack b c → HeldBack a c
held_back_joined a b c first second = record {
  no_fewer = let one = first.no_fewer in let two = second.no_fewer in omega (arith, one, two);
  waits = λ same few.
      let one = first.no_fewer in
      let two = second.no_fewer in
      let middle : b.forced ≡ a.forced = omega (arith, one, two, same) in
      let more = first.waits middle few in
      let rest = second.waits (same ∙ sym middle) (omega (arith, middle, few)) in (
        more.0 ++ rest.0,
        rest.1 ∙ ap (λ (p : List (List Patch)). p ++ rest.0) more.1 ∙ append_assoc a.pending more.0 rest.0,
      );
  cause = λ more. elim (cases_lt a.forced b.forced) [
    | inl early ↦ ⊎_elim (λ taken. inl (second.full taken))
        (λ moved. let on = second.no_back in inr (omega (arith, moved, on))) (first.cause early)
    | inr still ↦ ⊎_elim (λ taken. inl taken)
        (λ moved. let on = first.no_back in inr (omega (arith, moved, on))) (second.cause (omega (arith, still, more)))
  ];
  full = λ is. second.full (first.full is);
  no_back = let one = first.no_back in let two = second.no_back in omega (arith, one, two);
  moves = λ more.
      let on = second.no_back in
      let same = ap (λ (l : Layout). l.log) first.layout in
      elim (cases_lt a.head.number b.head.number) [
        | inl early ↦ let full = first.moves early in omega (arith, full, on)
        | inr still ↦
            let one = first.no_back in
            let full = second.moves (omega (arith, still, more)) in omega (arith, full, one, same)
      ];
  layout = second.layout ∙ first.layout;
}
