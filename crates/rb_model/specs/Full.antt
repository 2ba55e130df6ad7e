-- When a home has no room for one more key.
use Rattle.std.specs.Prelude.{ℕ, ◌%◌, Bool, not, ◌&&◌, ◌==◌, nat_le, if◌then◌else◌, List, []}
use Rattle.std.specs.Prelude.{◌∷◌, ◌++◌, length, map, filter}
use Rattle.std.specs.List.{flat_map, list_any}
use Rattle.rb_model.specs.Change.{Change}
use Rattle.rb_model.specs.Rows.{last_scn, rows_at}
use Rattle.rb_model.specs.State.{State}

abbrev pub has_key : ℕ → List ℕ → Bool
has_key key keys = list_any (λ k. k == key) keys

-- the keys, each once
abbrev pub once : List ℕ → List ℕ
once [] = []
once (key ∷ keys) = if has_key key (once keys) then once keys else key ∷ once keys

-- a key t, k has the home of that key of the table
abbrev pub has_home : ℕ → ℕ → ℕ → ℕ → ℕ → Bool
has_home blocks table key t k = t == table && (k % blocks) == (key % blocks)

-- the changes of all sessions
abbrev pub held : State → List Change
held h = flat_map (λ session. session.own) h.sessions

-- The keys of a home that are in use: those that have a row at the last commit, and those that a session holds.
abbrev pub used_keys : State → ℕ → ℕ → List ℕ
used_keys h table key =
    once (map (λ row. row.key) (filter (λ row. has_home h.shape.blocks table key row.table row.key)
    (rows_at h.shape.blocks h.commits (last_scn h.commits)))
    ++ map (λ change. change.key) (filter (λ change. has_home h.shape.blocks table key change.table change.key)
    (held h)))

-- sixteen other keys of its home are in use, and the key isn't
abbrev pub full_block : State → ℕ → ℕ → Bool
full_block h table key = not (has_key key (used_keys h table key)) && nat_le 16 (length (used_keys h table key))
