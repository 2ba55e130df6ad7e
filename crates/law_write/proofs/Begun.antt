-- The segment and the slot that a transaction takes are those of its session in the books.
use Rattle.std.proofs.Common.{◌≡◌, ◌<◌, ℕ, List, sym, ◌∙◌, arith}
use Rattle.rb_base.specs.declared.ids.Xid.{Xid}
use Rattle.rb_model.specs.Book.{IsBegun, book_at, owners}
use Rattle.rb_model.specs.State.{State}
use Rattle.rb_segment.specs.Moves.{MayClaim}
use Rattle.rb_segment.proofs.Choices.{claims_first_free}
use Rattle.law_blocks.specs.States.{BlocksStand}
use Rattle.law_write.specs.Chosen.{IsLeastActive, active_in, header_in}
use Rattle.law_write.proofs.Choices.{active_is, owners_alike}
use Rattle.law_write.proofs.Told.{book, slots_counted}

module _ (h : State) (xids : List Xid) (blocks : List (List ℕ)) (stand : BlocksStand h xids blocks) where
  pub owners_are : (g : ℕ) → g < h.shape.segments → active_in h blocks g ≡ owners (book_at h.books g)
  owners_are g g_in = active_is h.shape blocks g ∙ owners_alike (header_in h blocks g) (book_at h.books g) (book h xids blocks stand g g_in) (slots_counted h xids blocks stand g g_in)

  pub begins_there : (g i : ℕ) → IsLeastActive h blocks g → MayClaim (header_in h blocks g) i → IsBegun h.books g i
  begins_there g i least may =
      let count = stand.tell.books_counted in
      let here = owners_are g least.within in
      record {
        within = omega (arith, least.within, count);
        least = λ k k_in. let k_few : k < h.shape.segments = omega (arith, k_in, count) in let there = owners_are k k_few in let le = least.least k k_few in omega (arith, here, there, le);
        first = λ k lower same. least.first k lower (owners_are k (let w = least.within in omega (arith, w, lower)) ∙ (same ∙ sym here));
        slot = claims_first_free (header_in h blocks g) (book_at h.books g) (book h xids blocks stand g least.within) i may;
      }
