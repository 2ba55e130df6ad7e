-- What a runner did with some lines, and then with others.
use Rattle.std.proofs.Common.{◌≡◌, false}
use Rattle.rb_model.specs.Out.{Logged}
use Rattle.rb_lines.specs.Ran.{Did}

module _ {M : Type 0} {stands : M → Logged → Type 0} {since : M → M → Logged → Logged → Type 0} where
  -- what follows of what was done
  pub did_as : (old new : M) (m : Logged) (P Q : Logged → Type 0) → ((n : Logged) → P n → Q n) → Did stands since old new m P → Did stands since old new m Q
  did_as old new m P Q so d = record { now = d.now; reached = d.reached; passed = d.passed; ran = so d.now d.ran }

  -- more was done from where it had come to
  pub did_on : (old mid new : M) (m : Logged) (P R : Logged → Type 0) (Q : Logged → Logged → Type 0)
      → ((a b c : M) (h n k : Logged) → n.state.stopped ≡ false → since a b h n → since b c n k → since a c h k)
      → Did stands since old mid m P → ((n : Logged) → P n → n.state.stopped ≡ false)
      → ((n : Logged) → stands mid n → n.state.stopped ≡ false → Did stands since mid new n (Q n))
      → ((n k : Logged) → P n → Q n k → R k) → Did stands since old new m R
  did_on old mid new m P R Q joined d going more so =
      let e = more d.now d.reached (going d.now d.ran) in
      record {
        now = e.now;
        reached = e.reached;
        passed = joined old mid new m d.now e.now (going d.now d.ran) d.passed e.passed;
        ran = so d.now e.now d.ran e.ran;
      }
