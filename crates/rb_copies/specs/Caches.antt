-- What the kit's cache keeps for a table.
use Rattle.std.specs.Prelude.{◌≤◌, [], Option, Some, None, IfSome}
use Rattle.lru.specs.LruCache.{LruCache}
use Rattle.rb_copies.specs.Copies.{CopyTable, IsTable, table_of}
use Rattle.rb_copies.specs.declared.homes.CopyKey.{CopyKey}
use Rattle.rb_copies.specs.declared.homes.KeptHome.{KeptHome}

-- the table of a cache; where there is none, nothing is kept
abbrev pub table_in : Option (LruCache CopyKey KeptHome) → CopyTable
table_in None = table_of [] 0
table_in (Some cache) = table_of cache.entries cache.cap

-- a cache that keeps a table has room for one home at least
pub record IsCache (cache : Option (LruCache CopyKey KeptHome)) : Type 0 where
  pub table : IsTable (table_in cache)
  pub some : IfSome cache (λ c. 1 ≤ c.cap)
