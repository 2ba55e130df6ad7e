-- A write of one session in the table, as the table's view sees it.
use Rattle.std.proofs.Common.{◌≡◌, ◌≢◌, ◌∙◌, ℕ, zero, suc, ◌<◌, List, [], ◌∷◌, length, map, get_or, set, Some, sym, ap, arith}
use Rattle.std.proofs.lemmas.List.{map-set, get_or-map}
use Rattle.rb_base.specs.declared.ids.Xid.{Xid}
use Rattle.rb_sessions.specs.declared.row.SessionRow.{SessionRow}
use Rattle.rb_sessions.specs.Kept.{KeptSession, session_view, fresh}
use Rattle.rb_sessions.specs.declared.sessions.TheConstants.{SESSIONS}

-- where one session became what a call makes of it, so did the table
pub changed_at : (entries : List SessionRow) (i : ℕ) (new d : SessionRow) (call : KeptSession → KeptSession) (table : List KeptSession)
    → length entries ≡ SESSIONS → i < SESSIONS → map session_view entries ≡ table → d ≡ get_or entries i d → session_view new ≡ call (session_view d)
    → map session_view (set entries i new) ≡ set table i (call (get_or table i fresh))
changed_at entries i new d call table long below is at new_is =
    let within : i < length entries = omega (arith, long, below) in
    map-set session_view entries i new
    ∙ ap (set (map session_view entries) i) (new_is ∙ ap (λ (e : SessionRow). call (session_view e)) at ∙ ap call (sym (get_or-map session_view entries i d fresh within)))
    ∙ ap (λ t. set t i (call (get_or t i fresh))) is

-- where none of the first n entries is of that transaction, none of the first n sessions is
pub unowned : (entries : List SessionRow) (n i : ℕ) (x : Xid) → ((d : SessionRow) (k : ℕ) → k < n → (get_or entries k d).own ≢ Some x) → i < n → (get_or (map session_view entries) i fresh).own ≢ Some x
unowned entries zero i x none lt = λ is. omega (arith, lt)
unowned [] (suc n) i x none lt = λ is. cc
unowned (e ∷ entries) (suc n) zero x none lt = none e 0 (omega arith)
unowned (e ∷ entries) (suc n) (suc i) x none lt = unowned entries n i x (λ d k h. none d (suc k) (omega arith)) (omega arith)
