-- A session and its id over the steps: who owns a slot, and under which id.
use Rattle.std.proofs.Common.{◌≡◌, ◌≢◌, inl, inr, ◌<◌, ◌+◌, ◌*◌, ◌/◌, ◌%◌, ℕ, List, length, set, Option, Some, None, refl, sym, ◌∙◌, ap, subst, arith}
use Rattle.std.proofs.lemmas.Bool.{cases_eq}
use Rattle.std.proofs.lemmas.List.{get_or-set_same, get_or-set_other}
use Rattle.rb_base.specs.declared.sizes.TheConstants.{SLOTS}
use Rattle.rb_base.specs.declared.ids.Xid.{Xid}
use Rattle.law_crash.specs.Made.{KeepsIds}
use Rattle.rb_model.specs.Book.{Book, BookSlot, Owner, book_at, book_slot, finished, free_slot, fresh_book, left, slot_owner}
use Rattle.rb_model.specs.Calls.{HasNoSlot, Owned}
use Rattle.rb_model.specs.State.{State, owner_at}
use Rattle.rb_segment.specs.Books.{IsOwned}
use Rattle.rb_segment.specs.Calls.{Runs}
use Rattle.rb_segment.specs.Header.{slot_in}
use Rattle.law_blocks.specs.Standing.{env_of, homes_of, segments_of}
use Rattle.law_blocks.specs.States.{BlocksStand, Owns}
use Rattle.law_blocks.specs.Values.{slot_of}
use Rattle.law_write.specs.Verdict.{IsOwnId}
use Rattle.law_write.proofs.Presence.{owner_within}
use Rattle.law_write.proofs.StoodBlocks.{stood_of}
use Rattle.law_home.specs.Walk.{Env}

-- the same books have the same owners
pub same_owners : (h h2 : State) (t : ℕ) → h2.books ≡ h.books → owner_at h2 t ≡ owner_at h t
same_owners h h2 t e = ap (λ (books : List Book). slot_owner (book_at books (t / SLOTS)) (t % SLOTS)) e

pub id_same : (h h2 : State) (env env2 : Env) (s : ℕ) (own : Option Xid) → h2.books ≡ h.books → KeepsIds h env env2 → IsOwnId h env s own → IsOwnId h2 env2 s own
id_same h h2 env env2 s own books ids id = record {
  owns = λ t o.
      let was : Owns h s t = record { owner = o.owner; at = sym (same_owners h h2 t books) ∙ o.at; session = o.session } in
      id.owns t was ∙ ap Some (sym (ids s t was));
  owned = λ x is.
      let f : (t : ℕ) × Owns h s t × (x ≡ env.xid t) = id.owned x is in
      (f.0, record { owner = f.1.owner; at = same_owners h h2 f.0 books ∙ f.1.at; session = f.1.session }, f.2 ∙ sym (ids s f.0 f.1));
}

-- a session that owns nothing has no id
pub id_none : (h : State) (env : Env) (s : ℕ) → HasNoSlot h s → IsOwnId h env s None
id_none h env s none = record {
  owns = λ t o. absurd (none t o.owner o.at o.session);
  owned = λ x is. let clash : None ≡ Some x = is in absurd cc;
}

pub none_owned : (h : State) (env : Env) (s : ℕ) → IsOwnId h env s None → HasNoSlot h s
none_owned h env s id t o at is = let clash : None ≡ Some (env.xid t) = id.owns t (record { owner = o; at = at; session = is }) in absurd cc

-- a slot that is a session's, as the machine's calls say it, is one that it owns
pub owns_of : (h : State) (s g i : ℕ) → Owned h s g i → Owns h s (SLOTS * g + i)
owns_of h s g i owned = record { owner = owned.1; at = owned.2; session = owned.3 }

-- What an id says: the session owns that slot, and its transaction runs.
pub record OwnedBy (h : State) (blocks : List (List ℕ)) (s : ℕ) (x : Xid) : Type 0 where
  pub there : x.seg < h.shape.segments
  pub few : x.slot < SLOTS
  pub owned : Owned h s x.seg x.slot
  pub runs : Runs (segments_of h.shape blocks x.seg).header x

pub owned_by : (h : State) (xids : List Xid) (blocks : List (List ℕ)) (s : ℕ) (x : Xid) → BlocksStand h xids blocks → IsOwnId h (env_of h.shape blocks) s (Some x) → OwnedBy h blocks s x
owned_by h xids blocks s x stand id = by (id.owned x refl)
  where
    by : (t : ℕ) × Owns h s t × (x ≡ (env_of h.shape blocks).xid t) → OwnedBy h blocks s x
    by (t, owns, is) =
        let seg : x.seg ≡ t / SLOTS = ap (λ (y : Xid). y.seg) is in
        let slot : x.slot ≡ t % SLOTS = ap (λ (y : Xid). y.slot) is in
        let wrap : x.wrap ≡ (slot_of (segments_of h.shape blocks) t).wrap = ap (λ (y : Xid). y.wrap) is in
        let at : SLOTS * x.seg + x.slot ≡ t = omega (arith, seg, slot) in
        let within : t < SLOTS * h.shape.segments = owner_within h xids (segments_of h.shape blocks) (homes_of h.shape blocks) (stood_of h xids blocks stand) t owns.owner owns.at in
        let g : t / SLOTS < h.shape.segments = omega (arith, within) in
        let few : t % SLOTS < SLOTS = omega arith in
        let told : IsOwned (segments_of h.shape blocks (t / SLOTS)).header (slot_in (segments_of h.shape blocks (t / SLOTS)).header (t % SLOTS)) (Some owns.owner) =
        subst (λ (o : Option Owner). IsOwned (segments_of h.shape blocks (t / SLOTS)).header (slot_in (segments_of h.shape blocks (t / SLOTS)).header (t % SLOTS)) o) owns.at ((stand.tell.books (t / SLOTS) g).owners (t % SLOTS) few) in
        record {
          there = omega (arith, seg, g);
          few = omega (arith, slot);
          owned = (omega (arith, slot), owns.owner, ap (owner_at h) at ∙ owns.at, owns.session);
          runs = subst (λ (y : Xid). Runs (segments_of h.shape blocks y.seg).header y) (sym is) (record { slot = few; active = told.state; wrap = refl });
        }

-- After the end of its transaction a session owns nothing: one book has a slot without owner, and is else the same.
pub freed : (h h2 : State) (xids : List Xid) (blocks : List (List ℕ)) (s g i : ℕ) (b : Book) → BlocksStand h xids blocks → i < SLOTS → g < h.shape.segments → Owned h s g i → h2.books ≡ set h.books g b → slot_owner b i ≡ None
    → ((j : ℕ) → j ≢ i → slot_owner b j ≡ slot_owner (book_at h.books g) j) → HasNoSlot h2 s
freed h h2 xids blocks s g i b stand few there owned books gone same t o at is =
    let now : owner_at h2 t ≡ slot_owner (book_at (set h.books g b) (t / SLOTS)) (t % SLOTS) = ap (λ (l : List Book). slot_owner (book_at l (t / SLOTS)) (t % SLOTS)) books in
    let clash : None ≡ Some o → ⊥ = λ e. cc in
    elim (cases_eq (t / SLOTS) g) [
      | inl here ↦
          let book : book_at (set h.books g b) (t / SLOTS) ≡ b = ap (λ (z : ℕ). book_at (set h.books g b) z) here ∙ get_or-set_same h.books g b fresh_book (let c = stand.tell.books_counted in omega (arith, c, there)) in
          let read : owner_at h2 t ≡ slot_owner b (t % SLOTS) = now ∙ ap (λ (x : Book). slot_owner x (t % SLOTS)) book in
          elim (cases_eq (t % SLOTS) i) [
            | inl this ↦ clash (sym gone ∙ (ap (slot_owner b) (sym this) ∙ (sym read ∙ at)))
            | inr other ↦
                let was : owner_at h t ≡ Some o = ap (λ (z : ℕ). slot_owner (book_at h.books z) (t % SLOTS)) here ∙ (sym (same (t % SLOTS) other) ∙ (sym read ∙ at)) in
                other (mod_of t g i few (stand.tell.one_slot s t (SLOTS * g + i) (record { owner = o; at = was; session = is }) (owns_of h s g i owned)))
          ]
      | inr apart ↦
          let was : owner_at h t ≡ Some o = ap (λ (x : Book). slot_owner x (t % SLOTS)) (sym (get_or-set_other h.books g (t / SLOTS) b fresh_book apart)) ∙ (sym now ∙ at) in
          apart (div_of t g i few (stand.tell.one_slot s t (SLOTS * g + i) (record { owner = o; at = was; session = is }) (owns_of h s g i owned)))
    ]
  where
    mod_of : (t g i : ℕ) → i < SLOTS → t ≡ SLOTS * g + i → t % SLOTS ≡ i
    mod_of t g i few e = omega (arith, few, e)

    div_of : (t g i : ℕ) → i < SLOTS → t ≡ SLOTS * g + i → t / SLOTS ≡ g
    div_of t g i few e = omega (arith, few, e)

-- the slot that a transaction leaves, or commits in, has no owner, and the others have theirs
pub left_here : (i : ℕ) (b : Book) → i < length b.slots → slot_owner (left i b) i ≡ None
left_here i b within = ap (λ (x : BookSlot). x.owner) (get_or-set_same b.slots i (record (book_slot b i) { owner = None }) free_slot within)

pub left_else : (i : ℕ) (b : Book) → (j : ℕ) → j ≢ i → slot_owner (left i b) j ≡ slot_owner b j
left_else i b j ne = ap (λ (x : BookSlot). x.owner) (get_or-set_other b.slots i j (record (book_slot b i) { owner = None }) free_slot ne)

pub finished_here : (n i : ℕ) (b : Book) → i < length b.slots → slot_owner (finished n i b) i ≡ None
finished_here n i b within = ap (λ (x : BookSlot). x.owner) (get_or-set_same b.slots i (record { newest = n; owner = None }) free_slot within)

pub finished_else : (n i : ℕ) (b : Book) → (j : ℕ) → j ≢ i → slot_owner (finished n i b) j ≡ slot_owner b j
finished_else n i b j ne = ap (λ (x : BookSlot). x.owner) (get_or-set_other b.slots i j (record { newest = n; owner = None }) free_slot ne)

-- a book has sixteen slots
pub few_slots : {h : State} {xids : List Xid} {blocks : List (List ℕ)} → BlocksStand h xids blocks → (g : ℕ) → g < h.shape.segments → (i : ℕ) → i < SLOTS → i < length (book_at h.books g).slots
few_slots stand g there i few = let c = (stand.tell.books g there).slots in omega (arith, c, few)
