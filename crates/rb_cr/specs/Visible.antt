-- By which number an entry stands above a snapshot, and the one that stands highest.
use Rattle.std.specs.Prelude.{◌≡◌, ◌<◌, ◌≤◌, ℕ, Bool, true, false, Option, Some, None}
use Rattle.rb_cr.specs.declared.visible.Top.{Top}
use Rattle.rb_cr.specs.declared.visible.Top.TheVariants as tops
use Rattle.rb_itl.specs.declared.slots.TheConstants.{ENTRIES}
use Rattle.law_read.specs.Heights.{LookAtMost, LookNumbered, LookOver, AtMost, Numbered, Over}
use Rattle.rb_txntable.specs.declared.looks.Look.{Look}
use Rattle.law_home.specs.Kinds.{Entry}
use Rattle.law_home.specs.Walk.{Home, Env, IsActive, entry_at}

-- the number by which a look, and an entry, stands above n: n where it doesn't, and none where no number is known
abbrev pub LookStandsAbove : ℕ → Look → Option ℕ → Type 0
LookStandsAbove n look None = LookOver n look
LookStandsAbove n look (Some c) = (n ≤ c) × LookAtMost n c look × (n < c → LookNumbered look c)

abbrev pub StandsAbove : Env → ℕ → Entry → Option ℕ → Type 0
StandsAbove env n e None = Over env n e
StandsAbove env n e (Some c) = (n ≤ c) × AtMost env n c e × (n < c → Numbered env e c)

abbrev pub IsTop : Env → ℕ → Home → Top → Type 0
IsTop env n b (tops.At top) = (n ≤ top.number) × ((j : ℕ) → AtMost env n top.number (entry_at b j))
    × (n < top.number → Numbered env (entry_at b top.entry) top.number)
IsTop env n b (tops.Over seg) = (j : ℕ) × Over env n (entry_at b j) × ((entry_at b j).xid.seg ≡ seg)

abbrev pub IsTopWithin : Top → Type 0
IsTopWithin (tops.At top) = top.entry < ENTRIES
IsTopWithin (tops.Over seg) = Unit {0}

abbrev pub ActiveIs : Env → Entry → Bool → Type 0
ActiveIs env e true = IsActive env e
ActiveIs env e false = IsActive env e → ⊥
