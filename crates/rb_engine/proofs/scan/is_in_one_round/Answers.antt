use Rattle.std.proofs.Common.{◌≡◌, ◌<◌, ◌≤◌, ◌%◌, ◌*◌, ◌/◌, ℕ, nat_eq, true, ap, subst, arith}
use Rattle.std.proofs.Math.Nat.{div-add-mod, div-mul-le_self}
use Rattle.std.proofs.lemmas.Bool.Decides.{nat_tests}
use Rattle.std.proofs.lemmas.Nat.{le-div}
use Rattle.rb_engine.proofs.scan.is_in_one_round.Goals as goal

-- a quotient doesn't fall
quotient_up : (b m n : ℕ) → 0 < b → m ≤ n → m / b ≤ n / b
quotient_up b m n some le = le-div (m / b) n b some (let at = div-mul-le_self m b in omega (arith, at, le))

-- of numbers with one quotient the greater has the greater rest
rest_up : (b m n : ℕ) → m / b ≡ n / b → m ≤ n → m % b ≤ n % b
rest_up b m n one le =
    let x = div-add-mod m b in
    let y = div-add-mod n b in
    let p = ap (λ (q : ℕ). b * q) one in
    omega (arith, x, y, p, le)

-- what lies between two numbers with one quotient has it too, and a rest between theirs
between : (b code lo k hi : ℕ) → 0 < b → code ≡ b → nat_eq (lo / code) (hi / code) ≡ true → lo ≤ k → k ≤ hi → (lo % b ≤ k % b) × (k % b ≤ hi % b)
between b code lo k hi some is same low high =
    let one : lo / b ≡ hi / b = subst (λ (n : ℕ). lo / n ≡ hi / n) is (grind (arith, nat_tests)) in
    let up = quotient_up b lo k some low in
    let down = quotient_up b k hi some high in
    (rest_up b lo k (omega (arith, up, down, one)) low, rest_up b k hi (omega (arith, up, down, one)) high)

pub returns-clause-low : goal.returns-clause-low
returns-clause-low c = λ same k low high. (between c.args.blocks c.from-blocks.result c.args.cursor.now.lo k c.args.cursor.now.hi c.requires c.from-blocks.ensures same low high).0

pub returns-clause-high : goal.returns-clause-high
returns-clause-high c = λ same k low high. (between c.args.blocks c.from-blocks.result c.args.cursor.now.lo k c.args.cursor.now.hi c.requires c.from-blocks.ensures same low high).1
