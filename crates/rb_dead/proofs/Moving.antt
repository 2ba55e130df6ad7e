-- A dead entry, by blocks and by an entry that are the same.
use Rattle.std.proofs.Common.{◌≡◌, ℕ, List, Option, Some, None, false, refl, sym, subst}
use Rattle.std.proofs.lemmas.Bool.{false≢true}
use Rattle.std.specs.Option.{is_some}
use Rattle.rb_base.specs.declared.shape.Shape.{Shape}
use Rattle.rb_dead.specs.Entries.{IsDeadEntry}
use Rattle.rb_itl.specs.declared.slots.Entry.{Entry}
use Rattle.rb_sessions.specs.Kept.{KeptSession}

pub moved : (sessions : List KeptSession) (shape after : Shape) (b c : List (List ℕ)) (e f : Entry) → shape ≡ after → b ≡ c → e ≡ f → IsDeadEntry sessions shape b e → IsDeadEntry sessions after c f
moved sessions shape after b c e f shapes blocks entries dead =
    subst (λ (x : Entry). IsDeadEntry sessions after c x) entries
    (subst (λ (x : List (List ℕ)). IsDeadEntry sessions after x e) blocks
    (subst (λ (x : Shape). IsDeadEntry sessions x b e) shapes dead))

pub not_some : {X : Type 0} (o : Option X) → is_some o ≡ false → o ≡ None
not_some None at = refl
not_some (Some x) at = absurd (false≢true (sym at))
