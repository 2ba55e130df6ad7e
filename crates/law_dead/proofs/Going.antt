-- Dead transactions that go: who has which slot then, and that it doesn't matter which goes first.
use Rattle.std.proofs.Common.{◌≡◌, ◌≢◌, inl, inr, ◌-◌, ◌/◌, ◌%◌, ℕ, List, [], length, get_or, set, None, sym, ◌∙◌, ap, subst, arith}
use Rattle.std.proofs.lemmas.Bool.{cases_eq, cases_lt}
use Rattle.std.proofs.lemmas.List.{get_or-set_other, get_or-set_same, get_or_past, length-set, set_comm, set-set, set_past}
use Rattle.rb_model.specs.Book.{Book, BookSlot, book_at, free_slot, fresh_book, left, slot_owner}
use Rattle.rb_model.specs.State.{Session, State, no_session, owner_at, session_own}
use Rattle.rb_segment.proofs.Fresh.{all_same}
use Rattle.law_blocks.proofs.Seen.{one_slot}
use Rattle.rb_model.specs.Dead.{without}

-- a dead session that has gone
abbrev Gone : Session
Gone = record no_session { cursors = [] }

-- an owner of none is none
left_none : (b : Book) (i : ℕ) → slot_owner (left i b) i ≡ None
left_none b i = elim (cases_lt i (length b.slots)) [
  | inl there ↦ ap (λ (s : BookSlot). s.owner) (get_or-set_same b.slots i (let s = get_or b.slots i free_slot in record s { owner = None }) free_slot there)
  | inr past ↦ ap (λ (s : BookSlot). s.owner) (get_or_past (set b.slots i (let s = get_or b.slots i free_slot in record s { owner = None })) i free_slot (let n = length-set b.slots i (let s = get_or b.slots i free_slot in record s { owner = None }) in omega (arith, past, n)))
]

left_else : (b : Book) (i j : ℕ) → j ≢ i → slot_owner (left i b) j ≡ slot_owner b j
left_else b i j ne = ap (λ (s : BookSlot). s.owner) (get_or-set_other b.slots i j (let s = get_or b.slots i free_slot in record s { owner = None }) free_slot ne)

left_comm : (b : Book) (i j : ℕ) → i ≢ j → left i (left j b) ≡ left j (left i b)
left_comm b i j ne =
    let at_i : get_or (left j b).slots i free_slot ≡ get_or b.slots i free_slot = get_or-set_other b.slots j i (let s = get_or b.slots j free_slot in record s { owner = None }) free_slot ne in
    let at_j : get_or (left i b).slots j free_slot ≡ get_or b.slots j free_slot = get_or-set_other b.slots i j (let s = get_or b.slots i free_slot in record s { owner = None }) free_slot (λ is. ne (sym is)) in
    ap (λ (l : List BookSlot). record b { slots = l })
    (ap (λ (s : BookSlot). set (left j b).slots i (record s { owner = None })) at_i
    ∙ (set_comm b.slots j i (let s = get_or b.slots j free_slot in record s { owner = None }) (let s = get_or b.slots i free_slot in record s { owner = None }) (λ is. ne (sym is))
    ∙ ap (λ (s : BookSlot). set (left i b).slots j (record s { owner = None })) (sym at_j)))

-- the books without the owner of slot t
abbrev freed : ℕ → List Book → List Book
freed t books = set books (t / 16) (left (t % 16) (book_at books (t / 16)))

freed_comm : (books : List Book) (t u : ℕ) → t ≢ u → freed t (freed u books) ≡ freed u (freed t books)
freed_comm books t u ne = elim (cases_eq (t / 16) (u / 16)) [
  | inr off ↦
      let a : book_at (freed u books) (t / 16) ≡ book_at books (t / 16) = get_or-set_other books (u / 16) (t / 16) (left (u % 16) (book_at books (u / 16))) fresh_book off in
      let b : book_at (freed t books) (u / 16) ≡ book_at books (u / 16) = get_or-set_other books (t / 16) (u / 16) (left (t % 16) (book_at books (t / 16))) fresh_book (λ is. off (sym is)) in
      ap (λ (x : Book). set (freed u books) (t / 16) (left (t % 16) x)) a
      ∙ (set_comm books (u / 16) (t / 16) (left (u % 16) (book_at books (u / 16))) (left (t % 16) (book_at books (t / 16))) (λ is. off (sym is))
      ∙ ap (λ (x : Book). set (freed t books) (u / 16) (left (u % 16) x)) (sym b))
  | inl on ↦ by_seg (t / 16) (u / 16) on (λ is. ne (one_slot t u on is))
]
  where
    same_seg : (g i j : ℕ) → i ≢ j → set (set books g (left j (book_at books g))) g (left i (book_at (set books g (left j (book_at books g))) g)) ≡ set (set books g (left i (book_at books g))) g (left j (book_at (set books g (left i (book_at books g))) g))
    same_seg g i j apart = elim (cases_lt g (length books)) [
      | inl there ↦
          let a = get_or-set_same books g (left j (book_at books g)) fresh_book there in
          let b = get_or-set_same books g (left i (book_at books g)) fresh_book there in
          ap (λ (x : Book). set (set books g (left j (book_at books g))) g (left i x)) a
          ∙ (set-set books g (left j (book_at books g)) (left i (left j (book_at books g)))
          ∙ (ap (set books g) (left_comm (book_at books g) i j apart)
          ∙ (sym (set-set books g (left i (book_at books g)) (left j (left i (book_at books g))))
          ∙ ap (λ (x : Book). set (set books g (left i (book_at books g))) g (left j x)) (sym b))))
      | inr past ↦
          let one = λ (x : Book). set_past books g x past in
          let two = λ (x y : Book). ap (λ (l : List Book). set l g y) (one x) ∙ one y in
          two (left j (book_at books g)) (left i (book_at (set books g (left j (book_at books g))) g)) ∙ sym (two (left i (book_at books g)) (left j (book_at (set books g (left i (book_at books g))) g)))
    ]

    by_seg : (g k : ℕ) → g ≡ k → t % 16 ≢ u % 16 → set (set books k (left (u % 16) (book_at books k))) g (left (t % 16) (book_at (set books k (left (u % 16) (book_at books k))) g)) ≡ set (set books g (left (t % 16) (book_at books g))) k (left (u % 16) (book_at (set books g (left (t % 16) (book_at books g))) k))
    by_seg g k is apart = subst (λ (z : ℕ). set (set books z (left (u % 16) (book_at books z))) g (left (t % 16) (book_at (set books z (left (u % 16) (book_at books z))) g)) ≡ set (set books g (left (t % 16) (book_at books g))) z (left (u % 16) (book_at (set books g (left (t % 16) (book_at books g))) z))) is (same_seg g (t % 16) (u % 16) apart)

-- one that has gone, and others
module _ (h : State) (t d : ℕ) where
  pub owner_gone : owner_at (without t d h) t ≡ None
  owner_gone = elim (cases_lt (t / 16) (length h.books)) [
    | inl there ↦ ap (λ (b : Book). slot_owner b (t % 16)) (get_or-set_same h.books (t / 16) (left (t % 16) (book_at h.books (t / 16))) fresh_book there) ∙ left_none (book_at h.books (t / 16)) (t % 16)
    | inr past ↦ ap (λ (b : Book). slot_owner b (t % 16)) (get_or_past (freed t h.books) (t / 16) fresh_book (let n = length-set h.books (t / 16) (left (t % 16) (book_at h.books (t / 16))) in omega (arith, past, n))) ∙ fresh_none (t % 16)
  ]
    where
      fresh_none : (i : ℕ) → slot_owner fresh_book i ≡ None
      fresh_none i = ap (λ (s : BookSlot). s.owner) (all_same free_slot 16 i)

  pub owner_else : (u : ℕ) → u ≢ t → owner_at (without t d h) u ≡ owner_at h u
  owner_else u ne = elim (cases_eq (u / 16) (t / 16)) [
    | inr off ↦ ap (λ (b : Book). slot_owner b (u % 16)) (get_or-set_other h.books (t / 16) (u / 16) (left (t % 16) (book_at h.books (t / 16))) fresh_book off)
    | inl on ↦ elim (cases_lt (t / 16) (length h.books)) [
      | inl there ↦
          let at : book_at (freed t h.books) (t / 16) ≡ left (t % 16) (book_at h.books (t / 16)) = get_or-set_same h.books (t / 16) (left (t % 16) (book_at h.books (t / 16))) fresh_book there in
          ap (λ (z : ℕ). slot_owner (book_at (freed t h.books) z) (u % 16)) on
          ∙ (ap (λ (b : Book). slot_owner b (u % 16)) at
          ∙ (left_else (book_at h.books (t / 16)) (t % 16) (u % 16) (λ is. ne (one_slot u t on is))
          ∙ ap (λ (z : ℕ). slot_owner (book_at h.books z) (u % 16)) (sym on)))
      | inr past ↦ ap (λ (l : List Book). slot_owner (book_at l (u / 16)) (u % 16)) (set_past h.books (t / 16) (left (t % 16) (book_at h.books (t / 16))) past)
    ]
  ]

  pub own_else : (s : ℕ) → s - 1 ≢ d - 1 → session_own (without t d h) s ≡ session_own h s
  own_else s ne = ap (λ (z : Session). z.own) (get_or-set_other h.sessions (d - 1) (s - 1) Gone no_session ne)

  pub comm : (u e : ℕ) → t ≢ u → d - 1 ≢ e - 1 → without t d (without u e h) ≡ without u e (without t d h)
  comm u e slots apart =
      ap (λ (l : List Session). record h { sessions = l; books = freed t (freed u h.books) }) (set_comm h.sessions (e - 1) (d - 1) Gone Gone (λ is. apart (sym is)))
      ∙ ap (λ (l : List Book). record h { sessions = set (set h.sessions (d - 1) Gone) (e - 1) Gone; books = l }) (freed_comm h.books t u slots)
