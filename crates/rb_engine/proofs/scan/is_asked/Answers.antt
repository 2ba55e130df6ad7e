use Rattle.std.proofs.Common.{◌≡◌, ◌⊎◌, inl, inr, ◌∙◌, true, ◌<◌, ◌≤◌, ◌%◌, ◌*◌, ◌+◌, ◌-◌, ◌/◌, nat_le, ℕ, suc, ap, arith, false}
use Rattle.std.proofs.Math.Nat.{div-add-mod, mod-lt, mul-le-mul_left, mul-suc, mul_comm}
use Rattle.std.proofs.lemmas.Bool.{cases_lt, cases_eq}
use Rattle.std.proofs.lemmas.Nat.{mod-mul-add}
use Rattle.rb_engine.proofs.scan.is_asked.Goals.{then-low-home, else-low-home}
use Rattle.rb_engine.specs.Scanning.{HasKey}
use Rattle.rb_engine.proofs.scan.is_asked.Goals as goal

-- A key of home g from the least one on is ahead of it by no less than the home's first one.
near : (blocks g lo k ahead : ℕ) → 0 < blocks → k % blocks ≡ g → lo ≤ k → ((lo % blocks ≤ g) × (ahead ≡ g - lo % blocks)) ⊎ ((g < lo % blocks) × (ahead ≡ g + blocks - lo % blocks)) → ahead ≤ k - lo
near blocks g lo k ahead some home low is = elim (cases_lt (k / blocks) (lo / blocks)) [
  | inl before ↦
      let up : blocks * suc (k / blocks) ≤ blocks * (lo / blocks) = mul-le-mul_left blocks before in
      let one = mul-suc blocks (k / blocks) in
      let a = div-add-mod k blocks in
      let b = div-add-mod lo blocks in
      let c = mod-lt k some in
      absurd (omega (arith, up, one, a, b, c, low))
  | inr from ↦ elim (cases_eq (k / blocks) (lo / blocks)) [
    | inl same ↦
        let a = div-add-mod k blocks in
        let b = div-add-mod lo blocks in
        let p = ap (λ (n : ℕ). blocks * n) same in
        elim is [ inl e ↦ omega (arith, a, b, p, e.0, e.1, home) | inr e ↦ absurd (omega (arith, a, b, p, e.0, e.1, home, low)) ]
    | inr ne ↦
        let up : blocks * suc (lo / blocks) ≤ blocks * (k / blocks) = mul-le-mul_left blocks (omega (arith, from, ne)) in
        let one = mul-suc blocks (lo / blocks) in
        let a = div-add-mod k blocks in
        let b = div-add-mod lo blocks in
        let d = mod-lt lo some in
        elim is [ inl e ↦ omega (arith, up, one, a, b, e.0, e.1, home) | inr e ↦ omega (arith, up, one, a, b, d, e.0, e.1, home) ]
  ]
]

pub returns-clause-none : goal.returns-clause-none
returns-clause-none c = λ fails k home low high.
    let cursor = c.args.cursor.now in
    let lo = cursor.lo in
    let e = c.from-blocks.ensures in
    let f = c.from-home.ensures in
    let low_is = ap (λ (n : ℕ). lo % n) e in
    let far = near c.args.blocks c.args.g lo k c.if-low-home.ahead c.requires.some home low
    (elim c.if-low-home.branch [
      | then-low-home w ↦ inl (omega (arith, w.if-low-home.true, f, low_is), omega (arith, w.ahead-is, f, low_is))
      | else-low-home w ↦ inr (omega (arith, w.if-low-home.false, f, low_is), omega (arith, w.ahead-is, e, f, low_is))
    ]) in
    over c.if-low-home.ahead (cursor.hi - lo) fails (omega (arith, far, low, high))
  where
    over : (a b : ℕ) → nat_le a b ≡ false → a ≤ b → ⊥
    over a b fails le = grind (arith, Rattle.std.proofs.lemmas.Bool.Decides.nat_tests)

-- The first key of home g from the least one on is of the range where that is no farther than its end.
far : (blocks g lo hi ahead : ℕ) → 0 < blocks → g < blocks → lo ≤ hi → ahead ≤ hi - lo → ((lo % blocks ≤ g) × (ahead ≡ g - lo % blocks)) ⊎ ((g < lo % blocks) × (ahead ≡ g + blocks - lo % blocks)) → HasKey blocks lo hi g
far blocks g lo hi ahead some there up less is =
    let b = div-add-mod lo blocks in
    let d = mod-lt lo some in
    elim is [
      | inl e ↦ (lo + ahead, ap (λ (n : ℕ). n % blocks) (let w : lo + ahead ≡ lo / blocks * blocks + g = by_mul blocks (lo / blocks) lo ahead g (omega (arith, b, e.0, e.1)) in w) ∙ mod-mul-add (lo / blocks) blocks g there, omega (arith, less), omega (arith, less, up))
      | inr e ↦ (lo + ahead, ap (λ (n : ℕ). n % blocks) (let w : lo + ahead ≡ suc (lo / blocks) * blocks + g = next_mul blocks (lo / blocks) lo ahead g (omega (arith, b, d, e.0, e.1)) in w) ∙ mod-mul-add (suc (lo / blocks)) blocks g there, omega (arith, less), omega (arith, less, up))
    ]
  where
    by_mul : (n q lo ahead g : ℕ) → lo + ahead ≡ n * q + g → lo + ahead ≡ q * n + g
    by_mul n q lo ahead g is = is ∙ ap (λ (x : ℕ). x + g) (mul_comm n q)

    next_mul : (n q lo ahead g : ℕ) → lo + ahead ≡ n * q + n + g → lo + ahead ≡ suc q * n + g
    next_mul n q lo ahead g is = let a = mul-suc n q in let b = mul_comm n (suc q) in omega (arith, is, a, b)

pub returns-clause-some : goal.returns-clause-some
returns-clause-some c = λ holds.
    let cursor = c.args.cursor.now in
    let lo = cursor.lo in
    let e = c.from-blocks.ensures in
    let f = c.from-home.ensures in
    let low_is = ap (λ (n : ℕ). lo % n) e in
    far c.args.blocks c.args.g lo cursor.hi c.if-low-home.ahead c.requires.some c.requires.there (omega (arith, c.if-cursor.false)) (under c.if-low-home.ahead (cursor.hi - lo) holds)
    (elim c.if-low-home.branch [
      | then-low-home w ↦ inl (omega (arith, w.if-low-home.true, f, low_is), omega (arith, w.ahead-is, f, low_is))
      | else-low-home w ↦ inr (omega (arith, w.if-low-home.false, f, low_is), omega (arith, w.ahead-is, e, f, low_is))
    ])
  where
    under : (a b : ℕ) → nat_le a b ≡ true → a ≤ b
    under a b holds = grind (arith, Rattle.std.proofs.lemmas.Bool.Decides.nat_tests)
