-- Words of a line, and the kinds of its fields.
use Rattle.std.specs.Prelude.{◌≡◌, ◌≢◌, ℕ, Bool, true, false, not, ◌==◌, List, [], ◌∷◌, map}
use Rattle.std.specs.List.{list_all, AllByRecursion}
use Rattle.rb_model.specs.Lines.{Field, Id, Key, Count, Named, Valued, Moded, Later, IsField, fields_text}
use Rattle.rb_model.specs.Lines.{Word, InsertWord, UpdateWord, PutWord, DeleteWord, LockWord, GetWord}
use Rattle.rb_model.specs.Lines.{SweepWord}

-- no byte is a space
abbrev pub is_word : List ℕ → Bool
is_word text = list_all (λ b. not (b == 32)) text

-- the word is that of a command that names a key
abbrev pub names_key : Word → Bool
names_key InsertWord = true
names_key UpdateWord = true
names_key PutWord = true
names_key DeleteWord = true
names_key LockWord = true
names_key GetWord = true
names_key _ = false

-- the word is that of a command which has fields and names no session
abbrev pub is_sweep : Word → Bool
is_sweep SweepWord = true
is_sweep _ = false

-- a field without what it holds
pub data FieldKind : Type 0 where
  IdKind : FieldKind
  KeyKind : FieldKind
  CountKind : FieldKind
  NameKind : FieldKind
  ValueKind : FieldKind
  ModeKind : FieldKind
  LaterKind : FieldKind

abbrev pub field_kind : Field → FieldKind
field_kind (Id n) = IdKind
field_kind (Key n) = KeyKind
field_kind (Count n) = CountKind
field_kind (Named name) = NameKind
field_kind (Valued value) = ValueKind
field_kind (Moded mode) = ModeKind
field_kind Later = LaterKind

-- the text is no fields of these kinds
abbrev pub NoFields : List FieldKind → List ℕ → Type 0
NoFields kinds text =
    (fields : List Field) → map field_kind fields ≡ kinds → AllByRecursion IsField fields
    → text ≢ fields_text fields

-- the fields of a write that has a value
abbrev pub row_fields : ℕ → ℕ → ℕ → List ℕ → List Field
row_fields s t k value = Id s ∷ Id t ∷ Key k ∷ Valued value ∷ []

abbrev pub row_kinds : List FieldKind
row_kinds = IdKind ∷ IdKind ∷ KeyKind ∷ ValueKind ∷ []

-- the fields of a write that has none, and of a read of one key
abbrev pub key_fields : ℕ → ℕ → ℕ → List Field
key_fields s t k = Id s ∷ Id t ∷ Key k ∷ []

abbrev pub key_kinds : List FieldKind
key_kinds = IdKind ∷ IdKind ∷ KeyKind ∷ []

-- the fields of a call of a session that names a savepoint or a cursor, and nothing more
abbrev pub name_fields : ℕ → List ℕ → List Field
name_fields s name = Id s ∷ Named name ∷ []

abbrev pub name_kinds : List FieldKind
name_kinds = IdKind ∷ NameKind ∷ []

-- the fields of a commit that is made last later
abbrev pub later_fields : ℕ → List Field
later_fields s = Id s ∷ Later ∷ []

abbrev pub later_kinds : List FieldKind
later_kinds = IdKind ∷ LaterKind ∷ []
