-- A key that is watched, while records are taken back.
use Rattle.std.specs.Prelude.{◌≡◌}
use Rattle.rb_cr.specs.declared.watch.Watch.{Watch}

-- the key is the same, and no commit was taken back
abbrev pub Stays : Watch → Watch → Type 0
Stays old new = (new.key ≡ old.key) × (new.first ≡ old.first)
