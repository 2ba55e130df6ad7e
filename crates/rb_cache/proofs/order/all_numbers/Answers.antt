use Rattle.std.proofs.Common.{◌≡◌, ℕ, List, ◌∷◌, false, length, arith, ap, sym, ◌∙◌, subst, add-one}
use Rattle.std.specs.Map.{keys_of}
use Rattle.lru.specs.LruCache.{LruCache}
use Rattle.rb_cache.specs.Frames.{has_number}
use Rattle.rb_cache.specs.Slots.{numbers_below}
use Rattle.rb_cache.proofs.OrderLemmas.{below_lacks, keys-put, length-below, length-keys}
use Rattle.rb_cache.proofs.order.all_numbers.Goals as goal

pub loop-number-preserved : goal.loop-number-preserved
loop-number-preserved c =
    let i = c.loop-number.invariant in
    let number = c.loop-number.number in
    let none : has_number number (keys_of c.loop-number.order.entries) ≡ false = subst (λ (ks : List ℕ). has_number number ks ≡ false) (sym i.keys) (below_lacks number number (omega arith)) in
    let long : length c.loop-number.order.entries ≡ number = sym (length-keys c.loop-number.order.entries) ∙ ap length i.keys ∙ length-below number in
    record {
      keys =
          ap (λ (order : LruCache ℕ (Unit {0})). keys_of order.entries) c.in-Ok-put.ensures.entries
          ∙ keys-put c.loop-number.order number tt none (omega (arith, long, i.most, c.loop-number-test.true))
          ∙ ap (λ (ks : List ℕ). number ∷ ks) i.keys
          ∙ ap numbers_below (sym (add-one number));
      most = ap (λ (order : LruCache ℕ (Unit {0})). order.cap) c.in-Ok-put.ensures.entries ∙ i.most;
    }
