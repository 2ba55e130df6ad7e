-- What a segment lost, by the blocks and by its book.
use Rattle.std.proofs.Common.{◌≡◌, inl, inr, ◌<◌, ℕ, List, [], length, refl, ◌∙◌, ap, arith}
use Rattle.std.proofs.Math.ListN as lists
use Rattle.std.proofs.lemmas.Bool.{cases_lt}
use Rattle.rb_base.specs.Blocks.{block_of, header_block}
use Rattle.rb_base.specs.declared.ids.Xid.{Xid}
use Rattle.rb_model.specs.Book.{book_at}
use Rattle.rb_model.specs.State.{State}
use Rattle.rb_ring.specs.Ring.{lost_number}
use Rattle.rb_segment.specs.Header.{Header, header_of}
use Rattle.law_blocks.specs.Standing.{env_of}
use Rattle.law_blocks.specs.States.{BlocksStand}
use Rattle.law_blocks.proofs.SegmentRead.{header_is}

-- a block that there isn't
none_lost : (header_of []).lost ≡ 0
unfolding header_of lost_number
none_lost = refl

pub lost_is : (h : State) (xids : List Xid) (blocks : List (List ℕ)) (seg n : ℕ) → BlocksStand h xids blocks → n < (env_of h.shape blocks).lost seg
    → (seg < length h.books) × ((book_at h.books seg).lost ≡ (env_of h.shape blocks).lost seg)
lost_is h xids blocks seg n stand lt = elim (cases_lt seg h.shape.segments) [
  | inl there ↦ (let c = stand.tell.books_counted in omega (arith, c, there), (stand.tell.books seg there).lost)
  | inr past ↦
      let out : block_of blocks (header_block h.shape seg) ≡ [] = lists.get_or-eq_default blocks [] (let c = stand.standing.whole.count in omega (arith, c, past)) in
      let zero_is : (env_of h.shape blocks).lost seg ≡ 0 = ap (λ (x : Header). x.lost) (header_is h.shape blocks seg) ∙ (ap (λ (b : List ℕ). (header_of b).lost) out ∙ none_lost) in
      absurd (omega (arith, zero_is, lt))
]
