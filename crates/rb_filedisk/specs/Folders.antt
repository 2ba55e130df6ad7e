-- The folder that has the file of a path.
use Rattle.std.specs.Prelude.{ℕ, List, [], ◌∷◌, Option, None, Some}
use Rattle.std.specs.Path.{dot, path_parent}

-- a folder's name, or that of the current folder where there is none
abbrev pub named : Option (List ℕ) → List ℕ
named None = dot ∷ []
named (Some []) = dot ∷ []
named (Some (c ∷ folder)) = c ∷ folder

-- what is in front of a path's last name
abbrev pub folder_name : List ℕ → List ℕ
folder_name path = named (path_parent path)
