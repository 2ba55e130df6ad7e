-- A reader of whose own changes none is in a home sees what everybody sees.
use Rattle.std.proofs.Common.{◌≡◌, ◌≢◌, inl, inr, ⊎_elim, ◌&&◌, nat_le, ℕ, zero, suc, Bool, true, false, if◌then◌else◌}
use Rattle.std.proofs.Common.{List, [], ◌∷◌, length, Option, Some, None, refl, sym, ◌∙◌, ap, subst, arith}
use Rattle.std.proofs.lemmas.Bool.{cases_eq}
use Rattle.std.proofs.lemmas.Bool.Decides.{nat_tests}
use Rattle.rb_base.specs.declared.ids.Xid.{Xid}
use Rattle.law_read.specs.Chains.{same_xid}
use Rattle.law_read.specs.Copies.{HasNone, IsTold, Unseen}
use Rattle.law_read.specs.Keeping.{behind_mine, first_count, is_first, is_mine}
use Rattle.law_read.specs.Reading.{History, Reading, answer, flat, rows_at}
use Rattle.rb_txntable.specs.declared.looks.Look.TheVariants.{Active}
use Rattle.law_home.specs.Walk.{Change, Env, Head, Home, In, IsActive, Next, Rows, Tree, Walk, changed, entry_at, own}
use Rattle.law_read.proofs.Unwinding.{is_same}

-- none is among the first, so nothing lies over the rows
pub plain : (mine : Option Xid) (upto : ℕ) (chs : List Change) (over : Rows) → first_count mine upto chs ≡ 0 → behind_mine mine upto chs over ≡ over
plain mine upto [] over none = refl
plain mine upto (ch ∷ more) over none = by_first (is_first mine upto ch.xid ch.number) none (plain mine upto more over)
  where
    by_first : (t : Bool) → (if t then suc (first_count mine upto more) else first_count mine upto more) ≡ 0 → (first_count mine upto more ≡ 0 → behind_mine mine upto more over ≡ over)
        → (if t then changed ch.kind ch.key (behind_mine mine upto more over) else behind_mine mine upto more over) ≡ over
    by_first true none deeper = absurd (omega (arith, none))
    by_first false none deeper = deeper none

pub unseen_plain : (h : History) (mine : Option Xid) (upto n : ℕ) → Unseen h mine upto n → (k : ℕ) → answer h mine upto n k ≡ rows_at n h.rows h.list k
unseen_plain h mine upto n unseen k =
    let under : Rows = behind_mine mine upto (flat n h.list) (rows_at n h.rows h.list) in
    ap (λ (r : Rows). r k) (plain mine upto (own h.lives h.reader) under unseen.live ∙ plain mine upto (flat n h.list) (rows_at n h.rows h.list) unseen.done)

-- each isn't among the first, so none is
not_first : (mine : Option Xid) (upto : ℕ) (chs : List Change) → ((ch : Change) → In ch chs → is_first mine upto ch.xid ch.number ≡ false) → first_count mine upto chs ≡ 0
not_first mine upto [] each = refl
not_first mine upto (ch ∷ more) each = let head : is_first mine upto ch.xid ch.number ≡ false = each ch (inl refl) in rw head (not_first mine upto more (λ x named. each x (inr named)))

none_first : (mine : Option Xid) (xid : Xid) (number k : ℕ) → number ≡ suc k → is_first mine 0 xid number ≡ false
none_first mine xid number k is = by_mine (is_mine mine xid) (grind (arith, nat_tests, is))
  where
    by_mine : (t : Bool) → nat_le number 0 ≡ false → t && nat_le number 0 ≡ false
    by_mine true test = test
    by_mine false test = refl

other_first : (x : Xid) (upto : ℕ) (xid : Xid) (number : ℕ) → xid ≢ x → is_first (Some x) upto xid number ≡ false
other_first x upto xid number ne = by_same (same_xid x xid) refl
  where
    by_same : (t : Bool) → same_xid x xid ≡ t → t && nat_le number upto ≡ false
    by_same true is = absurd (ne (sym (is_same x xid is)))
    by_same false is = refl

-- a transaction that goes on and has no entry in a home has no live changes there
pub none_own : (env : Env) (rest : Home → Type 0) (m : ℕ) (lives : List (List Change)) (b : Home) (s : ℕ) → Tree env m lives b rest
    → ((j : ℕ) → IsActive env (entry_at b j) → (entry_at b j).xid ≢ env.xid s) → own lives s ≡ []
none_own env rest zero lives b s tree absent = tree.0 s
none_own env rest (suc m) lives b s tree absent = by_own (own lives s) refl
  where
    by_own : (l : List Change) → own lives s ≡ l → own lives s ≡ []
    by_own [] is = is
    by_own (ch ∷ more) is =
        let next : Next env m lives b rest s ch more = tree.0 s ch more is in
        let head : Head env s ch (suc (length more)) b next.0 = next.1 in
        absurd (absent next.0.entry (head.status, ap env.look head.leads.xid ∙ head.active) head.leads.xid)

module _ (env : Env) (h : History) (mine : Option Xid) (upto n : ℕ) (b : Home) (reading : Reading env h mine upto n b) (told : IsTold env h mine upto n) where
  absent : (x : Xid) → mine ≡ Some x → upto ≢ 0 → env.look x ≡ Active → ((j : ℕ) → IsActive env (entry_at b j) → (entry_at b j).xid ≢ x) → Unseen h mine upto n
  absent x is some active away =
      let g : (env.xid h.reader ≡ x) × ((ch : Change) → In ch (flat n h.list) → ch.xid ≢ x) = told.going x is some active in
      let empty : own h.lives h.reader ≡ [] = none_own env (Walk env h.base h.rows h.list) reading.m h.lives b h.reader reading.runs.tree (λ j act same. away j act (same ∙ g.0)) in
      record {
        live = subst (λ (z : List Change). first_count mine upto z ≡ 0) (sym empty) refl;
        done = subst (λ (z : Option Xid). first_count z upto (flat n h.list) ≡ 0) (sym is) (not_first (Some x) upto (flat n h.list) (λ ch named. other_first x upto ch.xid ch.number (g.1 ch named)));
      }

  nobody : mine ≡ None → Unseen h mine upto n
  nobody is = record {
    live = subst (λ (z : Option Xid). first_count z upto (own h.lives h.reader) ≡ 0) (sym is) (not_first None upto (own h.lives h.reader) (λ ch named. refl));
    done = subst (λ (z : Option Xid). first_count z upto (flat n h.list) ≡ 0) (sym is) (not_first None upto (flat n h.list) (λ ch named. refl));
  }

  nothing : upto ≡ 0 → Unseen h mine upto n
  nothing is = record {
    live = subst (λ (z : ℕ). first_count mine z (own h.lives h.reader) ≡ 0) (sym is) (not_first mine 0 (own h.lives h.reader) (λ ch named. let k = told.live ch named in none_first mine ch.xid ch.number k.0 k.1));
    done = subst (λ (z : ℕ). first_count mine z (flat n h.list) ≡ 0) (sym is) (not_first mine 0 (flat n h.list) (λ ch named. let k = told.done ch named in none_first mine ch.xid ch.number k.0 k.1));
  }

  pub none_unseen : HasNone env b mine upto → Unseen h mine upto n
  none_unseen none = ⊎_elim nobody
      (λ rest. ⊎_elim nothing
      (λ x. elim (cases_eq upto 0) [
        | inl none_seen ↦ nothing none_seen
        | inr some ↦ absent x.0 x.1 some x.2.0 x.2.1
      ]) rest) none
