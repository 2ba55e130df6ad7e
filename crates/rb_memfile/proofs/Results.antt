-- What follows of a result by cases.
use Rattle.std.proofs.Common.{refl}
use Rattle.std.specs.Prelude.{Result, Ok, Err, OnOk, OnErr, IsOk}

-- of an Ok
pub on_ok : {T E : Type 0} (r : Result T E) (P : Type 0) → (IsOk r → P) → OnOk r P
on_ok (Ok x) P so = so refl
on_ok (Err e) P so = tt

-- what holds either way
pub either : {T E : Type 0} (r : Result T E) (P Q R : Type 0) → (P → R) → (Q → R) → OnOk r P → OnErr r Q → R
either (Ok x) P Q R ok err fine bad = ok fine
either (Err e) P Q R ok err fine bad = err bad
