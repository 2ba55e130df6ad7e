-- What calls of a raw file leave as it was.
use Rattle.std.specs.Prelude.{◌≡◌}
use Rattle.rb_base.specs.Moments.{LeavesNoMore, NoMore}
use Rattle.rb_rawfile.specs.declared.raw.RawFile.{Ghosts}

-- The file reads as before, and a crash at some moment since may have left nothing but what it might have left at the
-- start.
pub record Stays {F : Type 0} (f : Ghosts F) (old new : F) : Type 0 where
  pub same : f.content new ≡ f.content old
  pub crashes : LeavesNoMore f.image f.moment f.image_since old new

-- The same, and no place is unsettled or lost that wasn't.
pub record Rests {F : Type 0} (f : Ghosts F) (old new : F) : Type 0 where
  pub stays : Stays f old new
  pub places : NoMore (f.unsettled old) (f.unsettled new)
  pub losses : NoMore (f.lost old) (f.lost new)
