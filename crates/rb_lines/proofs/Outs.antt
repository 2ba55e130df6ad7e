-- The replies to lines one after another.
use Rattle.std.proofs.Common.{◌≡◌, inl, inr, ⊎_elim, ℕ, ◌≤◌, Bool, true, false, List, [], ◌∷◌, ◌++◌, length, take, refl, sym, ◌∙◌, ap, subst, arith, append_assoc, append-nil, length-take}
use Rattle.std.specs.Prelude.{MatchBool}
use Rattle.std.proofs.lemmas.List.{take_all}
use Rattle.rb_model.specs.Lines.{Command, Spells, without_return}
use Rattle.rb_model.specs.Out.{Outside, Logged, LineOut, LineSaid, too_long, skipped, bad, command, Out}
use Rattle.rb_lines.specs.Ran.{CallsBegun, LineBegun}

-- A line's first 513 bytes say what the line says.
front_said : (h : Logged) (outside : Outside) (line front out : List ℕ) (h2 : Logged) → front ≡ take 513 line → LineSaid h outside front out h2 → LineSaid h outside line out h2
front_said h outside line front out h2 e (too_long long o s) =
    too_long (omega (arith, ap length e, length-take 513 line)) o s
front_said h outside line front out h2 e (skipped short r o s) =
    let le : length line ≤ 513 = omega (arith, ap length e, length-take 513 line) in
    subst (λ (l : List ℕ). LineSaid h outside l out h2) (e ∙ take_all 513 line le) (skipped short r o s)
front_said h outside line front out h2 e (bad short r n o s) =
    let le : length line ≤ 513 = omega (arith, ap length e, length-take 513 line) in
    subst (λ (l : List ℕ). LineSaid h outside l out h2) (e ∙ take_all 513 line le) (bad short r n o s)
front_said h outside line front out h2 e (command short c s o) =
    let le : length line ≤ 513 = omega (arith, ap length e, length-take 513 line) in
    subst (λ (l : List ℕ). LineSaid h outside l out h2) (e ∙ take_all 513 line le) (command short c s o)

-- and have the replies of the line
pub front_out : (h : Logged) (outside : Outside) (line front out : List ℕ) (h2 : Logged) → front ≡ take 513 line → LineOut h outside front out h2 → LineOut h outside line out h2
front_out h outside line front out h2 e (first, rest, middle, count, said, is, resumes) =
    (first, rest, middle, count, front_said h outside line front first middle e said, is, resumes)

-- also where it was only begun
pub front_begun : (h : Logged) (outside : Outside) (line front out : List ℕ) (h2 : Logged) → front ≡ take 513 line → LineBegun h outside front out h2 → LineBegun h outside line out h2
front_begun h outside line front out h2 e begun = ⊎_elim
    (λ whole. inl (front_out h outside line front out h2 e whole))
    (λ first.
    let le : length line ≤ 513 = omega (arith, first.0, ap length e, length-take 513 line) in
    inr (subst (λ (l : List ℕ). (length l ≤ 512) × (c : Command) × Spells (without_return l) c × CallsBegun h outside c out h2) (e ∙ take_all 513 line le) first))
    begun

pub one_out : (h : Logged) (outside : Outside) (line out : List ℕ) (h2 : Logged) → LineOut h outside line out h2 → Out h outside (line ∷ []) out h2
one_out h outside line out h2 l =
    let rest : List ℕ = [] in
    let next : MatchBool h2.state.stopped ((rest ≡ []) × (h2 ≡ h2)) ((rest ≡ []) × (h2 ≡ h2)) =
    elim h2.state.stopped as (λ v. MatchBool v ((rest ≡ []) × (h2 ≡ h2)) ((rest ≡ []) × (h2 ≡ h2))) [ true ↦ (refl, refl) | false ↦ (refl, refl) ] in
    (out, [], h2, l, sym (append-nil out), next)

-- what follows a line, by whether the state after it is stopped
follows : (v : Bool) (P Q P2 Q2 : Type 0) → (v ≡ true → P → P2) → (v ≡ false → Q → Q2) → MatchBool v P Q → MatchBool v P2 Q2
follows true P Q P2 Q2 f g p = f refl p
follows false P Q P2 Q2 f g q = g refl q

-- More lines are done where the state isn't stopped.
pub append_out : (outside : Outside) (xs ys : List (List ℕ)) (h m h2 : Logged) (o1 o2 : List ℕ)
    → Out h outside xs o1 m → m.state.stopped ≡ false → Out m outside ys o2 h2 → Out h outside (xs ++ ys) (o1 ++ o2) h2
append_out outside [] ys h m h2 o1 o2 p going q =
    subst (λ (s : Logged). Out s outside ys (o1 ++ o2) h2) p.1 (subst (λ (o : List ℕ). Out m outside ys (o ++ o2) h2) (sym p.0) q)
append_out outside (line ∷ xs) ys h m h2 o1 o2 (first, rest, middle, l, e, next) going q =
    let joined : o1 ++ o2 ≡ first ++ (rest ++ o2) = ap (λ (o : List ℕ). o ++ o2) e ∙ append_assoc first rest o2 in
    let after : MatchBool middle.state.stopped ((rest ++ o2 ≡ []) × (h2 ≡ middle)) (Out middle outside (xs ++ ys) (rest ++ o2) h2) =
    follows middle.state.stopped _ _ _ _
    (λ s p. let t : true ≡ false = sym s ∙ ap (λ (a : Logged). a.state.stopped) (sym p.1) ∙ going in cc)
    (λ s p. append_out outside xs ys middle m h2 rest o2 p going q) next in
    (first, rest ++ o2, middle, l, joined, after)

-- None are done where it is.
pub stopped_out : (outside : Outside) (xs ys : List (List ℕ)) (h h2 : Logged) (out : List ℕ)
    → h.state.stopped ≡ false → Out h outside xs out h2 → h2.state.stopped ≡ true → Out h outside (xs ++ ys) out h2
stopped_out outside [] ys h h2 out going p stopped =
    let t : true ≡ false = sym stopped ∙ ap (λ (a : Logged). a.state.stopped) p.1 ∙ going in cc
stopped_out outside (line ∷ xs) ys h h2 out going (first, rest, middle, l, e, next) stopped =
    let after : MatchBool middle.state.stopped ((rest ≡ []) × (h2 ≡ middle)) (Out middle outside (xs ++ ys) rest h2) =
    follows middle.state.stopped _ _ _ _ (λ s p. p) (λ s p. stopped_out outside xs ys middle h2 rest s p stopped) next in
    (first, rest, middle, l, e, after)
