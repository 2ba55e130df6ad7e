-- A chain of live records has no two at one place, so it is no longer than there are places.
use Rattle.std.proofs.Common.{◌≡◌, ◌<◌, ◌≤◌, ◌+◌, ◌-◌, ◌*◌, ℕ, zero, suc, get_or, inl, inr, ap, subst, arith}
use Rattle.std.proofs.Math.Nat.{div-add-mod, mod-lt}
use Rattle.std.proofs.lemmas.Bool.{cases_lt}
use Rattle.rb_ring.specs.declared.extents.TheConstants.{EXTENTS, EXTENT_BLOCKS, EXTENT_RECORDS}
use Rattle.rb_base.specs.Blocks.{header_block}
use Rattle.rb_base.specs.declared.ids.Uba.{Uba}
use Rattle.rb_base.specs.declared.ids.Xid.{Xid}
use Rattle.rb_base.specs.declared.shape.Shape.{Shape}
use Rattle.rb_segment.proofs.FoundBooks.{onto}
use Rattle.rb_segment.specs.Header.{Segment}
use Rattle.rb_sound.specs.Active.{Chain, IsLive, IsValid, extent_named, position_named, undo_named}
use Rattle.rb_undoblock.specs.Undo.{no_undo}
use Rattle.rb_undoblock.specs.declared.record.UndoRecord.{UndoRecord}

module _ (Kept : UndoRecord → Type 0) (shape : Shape) (s : Segment) (x : Xid) where
  -- the address behind so many records of a chain
  abbrev behind : ℕ → Uba → Uba
  behind zero at = at
  behind (suc j) at = behind j (undo_named shape x.seg s at).previous

  -- the place that an address names
  abbrev place : Uba → ℕ
  place at = EXTENT_RECORDS * extent_named shape x.seg at + position_named shape x.seg at

  -- record j of a chain of n
  record Links (n j : ℕ) (at : Uba) : Type 0 where
    valid : IsValid shape x.seg s.header at
    live : IsLive shape x (n - j) (undo_named shape x.seg s at)

  links : (n j : ℕ) (at : Uba) → Chain Kept shape s x n at → j < n → Links n j (behind j at)
  links zero j at chain lt = absurd (omega arith)
  links (suc n) zero at chain lt = record { valid = chain.0; live = subst (λ (m : ℕ). IsLive shape x m (undo_named shape x.seg s at)) (omega arith) chain.1.0 }
  links (suc n) (suc j) at chain lt =
      let before = (undo_named shape x.seg s at).previous in
      let l = links n j before chain.2 (omega arith) in
      record { valid = l.valid; live = subst (λ (m : ℕ). IsLive shape x m (undo_named shape x.seg s (behind j before))) (omega arith) l.live }

  four : 0 < EXTENT_BLOCKS
  four = omega arith

  place_few : (at : Uba) → IsValid shape x.seg s.header at → place at < (EXTENTS * EXTENT_RECORDS)
  place_few at is =
      let d = at.block - header_block shape x.seg - 1 in
      let a = div-add-mod d EXTENT_BLOCKS in
      let b = mod-lt d (four) in
      omega (arith, a, b, is.behind, is.within, is.rec)

  -- two records at one place are one
  one_number : (n j k : ℕ) (at : Uba) → Chain Kept shape s x n at → j < n → k < n → place (behind j at) ≡ place (behind k at) → j ≡ k
  one_number n j k at chain j_lt k_lt same =
      let first = (links n j at chain j_lt).live.number in
      let second = (links n k at chain k_lt).live.number in
      let record_is = ap (λ (i : ℕ). (get_or s.undo i no_undo).number) same in
      omega (arith, first, second, record_is, j_lt, k_lt)

  pub short : (n : ℕ) (at : Uba) → Chain Kept shape s x n at → n ≤ (EXTENTS * EXTENT_RECORDS)
  short n at chain = elim (cases_lt (EXTENTS * EXTENT_RECORDS) n) [
    | inr le ↦ le
    | inl more ↦
        let last = links n (EXTENTS * EXTENT_RECORDS) at chain more in
        let again : (e : ℕ) × (e < (EXTENTS * EXTENT_RECORDS)) × (place (behind e at) ≡ place (behind (EXTENTS * EXTENT_RECORDS) at)) = onto (EXTENTS * EXTENT_RECORDS) 0 (λ e. place (behind e at)) (λ e lt. let l = links n e at chain (omega arith) in (omega arith, place_few (behind e at) l.valid)) (λ e lt lower below same. let is = one_number n lower e at chain (omega arith) (omega arith) same in omega (arith, is, below)) (place (behind (EXTENTS * EXTENT_RECORDS) at)) (omega arith) (place_few (behind (EXTENTS * EXTENT_RECORDS) at) last.valid) in
        let is = one_number n again.0 (EXTENTS * EXTENT_RECORDS) at chain (omega (arith, again.1, more)) more again.2 in
        absurd (omega (arith, is, again.1))
  ]
