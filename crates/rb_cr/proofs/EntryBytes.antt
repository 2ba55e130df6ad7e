-- The slot entries of a home, as the bytes of its block have them.
use Rattle.std.proofs.Common.{◌≡◌, ◌<◌, ℕ, List, length, ◌∙◌, ap, arith}
use Rattle.std.proofs.lemmas.List.{get_or-map}
use Rattle.rb_base.specs.declared.shape.Shape.{Shape}
use Rattle.rb_heap.proofs.Reading.{entries_counted, entry_read}
use Rattle.rb_heap.specs.Homes.{home_of}
use Rattle.rb_itl.specs.Entries as bytes
use Rattle.law_blocks.specs.Says.{walk_entry, walk_home}
use Rattle.law_home.specs.Walk.{entry_at, free_entry}

pub of_home : (block : List ℕ) (i : ℕ) (shape : Shape) (b : ℕ) → i < 8 → entry_at (walk_home shape b (home_of block)) i ≡ walk_entry shape (bytes.entry_at block i)
of_home block i shape b lt =
    let within : i < length (home_of block).entries = omega (arith, lt, entries_counted block) in
    get_or-map (walk_entry shape) (home_of block).entries i bytes.free_entry free_entry within ∙ ap (walk_entry shape) (entry_read block i bytes.free_entry lt)
