-- Who owns a slot after one slot of one book has changed.
use Rattle.std.proofs.Common.{◌≡◌, ◌≢◌, ◌⊎◌, inl, inr, ◌+◌, ◌*◌, ◌/◌, ◌%◌, ℕ, List, length, set, Some, ◌∙◌, sym, ap, arith}
use Rattle.std.proofs.lemmas.Bool.{cases_eq, cases_lt}
use Rattle.std.proofs.lemmas.List.{get_or-set_other, get_or-set_same, set_past}
use Rattle.rb_base.specs.declared.sizes.TheConstants.{SLOTS}
use Rattle.rb_model.specs.Book.{Book, Owner, book_at, fresh_book, slot_owner}
use Rattle.rb_model.specs.State.{State, owner_at}

-- table slot t is slot i of segment g
abbrev pub Is : ℕ → ℕ → ℕ → Type 0
Is g i t = (t / SLOTS ≡ g) × (t % SLOTS ≡ i)

module _ (h h2 : State) (g i : ℕ) (b : Book) (books : h2.books ≡ set h.books g b) (kept : (j : ℕ) → j ≢ i → slot_owner b j ≡ slot_owner (book_at h.books g) j) where
  now : (t : ℕ) → owner_at h2 t ≡ slot_owner (book_at (set h.books g b) (t / SLOTS)) (t % SLOTS)
  now t = ap (λ (l : List Book). slot_owner (book_at l (t / SLOTS)) (t % SLOTS)) books

  -- of each other slot it is who it was
  pub owner_else : (t : ℕ) → (Is g i t → ⊥) → owner_at h2 t ≡ owner_at h t
  owner_else t ne = elim (cases_eq (t / SLOTS) g) [
    | inl seg ↦ elim (cases_lt g (length h.books)) [
      | inl there ↦
          now t ∙ (ap (λ (z : ℕ). slot_owner (book_at (set h.books g b) z) (t % SLOTS)) seg
          ∙ (ap (λ (x : Book). slot_owner x (t % SLOTS)) (get_or-set_same h.books g b fresh_book there)
          ∙ (kept (t % SLOTS) (λ slot. ne (seg, slot)) ∙ ap (λ (z : ℕ). slot_owner (book_at h.books z) (t % SLOTS)) (sym seg))))
      | inr past ↦ now t ∙ ap (λ (l : List Book). slot_owner (book_at l (t / SLOTS)) (t % SLOTS)) (set_past h.books g b past)
    ]
    | inr off ↦ now t ∙ ap (λ (x : Book). slot_owner x (t % SLOTS)) (get_or-set_other h.books g (t / SLOTS) b fresh_book off)
  ]

-- where nobody has a slot of the book who didn't have it, nobody has one at all
pub owner_had : (h h2 : State) (g : ℕ) (b : Book) → h2.books ≡ set h.books g b → ((j : ℕ) (o : Owner) → slot_owner b j ≡ Some o → slot_owner (book_at h.books g) j ≡ Some o) → (t : ℕ) (o : Owner) → owner_at h2 t ≡ Some o → owner_at h t ≡ Some o
owner_had h h2 g b books fewer t o is =
    let read : slot_owner (book_at (set h.books g b) (t / SLOTS)) (t % SLOTS) ≡ Some o = sym (ap (λ (l : List Book). slot_owner (book_at l (t / SLOTS)) (t % SLOTS)) books) ∙ is in
    elim (cases_eq (t / SLOTS) g) [
      | inl seg ↦ elim (cases_lt g (length h.books)) [
        | inl there ↦
            let here : slot_owner (book_at (set h.books g b) (t / SLOTS)) (t % SLOTS) ≡ slot_owner b (t % SLOTS) = ap (λ (z : ℕ). slot_owner (book_at (set h.books g b) z) (t % SLOTS)) seg ∙ ap (λ (x : Book). slot_owner x (t % SLOTS)) (get_or-set_same h.books g b fresh_book there) in
            ap (λ (z : ℕ). slot_owner (book_at h.books z) (t % SLOTS)) seg ∙ fewer (t % SLOTS) o (sym here ∙ read)
        | inr past ↦ ap (λ (l : List Book). slot_owner (book_at l (t / SLOTS)) (t % SLOTS)) (sym (set_past h.books g b past)) ∙ read
      ]
      | inr off ↦ ap (λ (x : Book). slot_owner x (t % SLOTS)) (sym (get_or-set_other h.books g (t / SLOTS) b fresh_book off)) ∙ read
    ]

pub place_of : (g i t : ℕ) → Is g i t → t ≡ SLOTS * g + i
place_of g i t at = let d = at.0 in let m = at.1 in omega (arith, d, m)

pub is_place : (g i t : ℕ) → Is g i t ⊎ (Is g i t → ⊥)
is_place g i t = elim (cases_eq (t / SLOTS) g) [
  | inl seg ↦ elim (cases_eq (t % SLOTS) i) [
    | inl slot ↦ inl (seg, slot)
    | inr ne ↦ inr (λ at. ne at.1)
  ]
  | inr ne ↦ inr (λ at. ne at.0)
]
