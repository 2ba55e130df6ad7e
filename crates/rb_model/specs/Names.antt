-- What a contract sees of a name.
use Rattle.std.specs.Prelude.{ℕ, List}
use Rattle.rb_model.specs.declared.name.Name.{Name}

-- the bytes of a name
abbrev pub name_text : Name → List ℕ
name_text name = name.text.items
