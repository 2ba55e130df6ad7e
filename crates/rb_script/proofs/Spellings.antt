-- No two commands have one spelling, and what a line lacks that spells none.
use Rattle.std.proofs.Common.{◌≡◌, ℕ, Bool, true, false, List, [], ◌∷◌, ◌++◌, length, map, refl, sym, ap, ◌∙◌, arith}
use Rattle.rb_model.specs.Lines.{Command, Word, CommitWord, RollbackWord, MarksWord, SessionsWord, FlushWord, CheckpointWord, word_text, word_of, fields_of, fields_text, spelling, IsCommand, SpellsNone}
use Rattle.rb_script.specs.Words.{is_word, field_kind, NoFields}
use Rattle.rb_script.proofs.Spaced.{is_tail, same_front}
use Rattle.rb_script.proofs.Fields.{fields_tail, same_count, same_fields}

-- a word has no space
word_is_word : (w : Word) → is_word (word_text w) ≡ true
word_is_word w = grind arith

same_word : (v w : Word) → word_text v ≡ word_text w → v ≡ w
same_word v w e = grind arith

-- commands of one word that have as many fields have fields of the same kinds
same_kinds : (a b : Command) → word_of a ≡ word_of b → length (fields_of a) ≡ length (fields_of b) → map field_kind (fields_of a) ≡ map field_kind (fields_of b)
same_kinds a b e count = grind arith

-- all commands of the word have as many fields
abbrev pub has_one_form : Word → Bool
has_one_form CommitWord = false
has_one_form RollbackWord = false
has_one_form _ = true

same_form : (a b : Command) → word_of a ≡ word_of b → has_one_form (word_of b) ≡ true → length (fields_of a) ≡ length (fields_of b)
same_form a b e one = grind arith

same_command : (a b : Command) → word_of a ≡ word_of b → fields_of a ≡ fields_of b → a ≡ b
same_command a b e f = grind arith

-- lines of one spelling have one word, and one text behind it
front_and_rest : (w : Word) (rest : List ℕ) (c : Command) → is_tail rest ≡ true → word_text w ++ rest ≡ spelling c → (w ≡ word_of c) × (rest ≡ fields_text (fields_of c))
front_and_rest w rest c tail e =
    let k = same_front (word_text w) (word_text (word_of c)) rest (fields_text (fields_of c)) (word_is_word w) (word_is_word (word_of c)) tail (fields_tail (fields_of c)) e in
    (same_word w (word_of c) k.0, k.1)

pub spelling_injective : (a b : Command) → IsCommand a → IsCommand b → spelling a ≡ spelling b → a ≡ b
spelling_injective a b p q e =
    let k = front_and_rest (word_of a) (fields_text (fields_of a)) b (fields_tail (fields_of a)) e in
    let count = same_count (fields_of a) (fields_of b) p q k.1 in
    same_command a b k.0 (same_fields (fields_of a) (fields_of b) (same_kinds a b k.0 count) p q k.1)

-- a line of this command's word without fields of such kinds
pub no_fields : (like : Command) (rest : List ℕ) → has_one_form (word_of like) ≡ true → NoFields (map field_kind (fields_of like)) (32 ∷ rest) → SpellsNone (word_text (word_of like) ++ 32 ∷ rest)
no_fields like rest one none c valid e =
    let k = front_and_rest (word_of like) (32 ∷ rest) c refl e in
    none (fields_of c) (same_kinds c like (sym k.0) (same_form c like (sym k.0) one)) valid k.1

-- the word is a line without fields
abbrev pub stands_alone : Word → Bool
stands_alone MarksWord = true
stands_alone SessionsWord = true
stands_alone FlushWord = true
stands_alone CheckpointWord = true
stands_alone _ = false

alone_fields : (c : Command) → stands_alone (word_of c) ≡ true → fields_of c ≡ []
alone_fields c is = grind arith

-- a line with a space whose first word names no command that has fields
pub no_command : (line word rest : List ℕ) → line ≡ word ++ 32 ∷ rest → is_word word ≡ true → ((w : Word) → word ≡ word_text w → stands_alone w ≡ true) → SpellsNone line
no_command line word rest e free none c valid g =
    let w = word_of c in
    let k = same_front word (word_text w) (32 ∷ rest) (fields_text (fields_of c)) free (word_is_word w) refl (fields_tail (fields_of c)) (sym e ∙ g) in
    let bare : 32 ∷ rest ≡ [] = k.1 ∙ ap fields_text (alone_fields c (none w k.0)) in
    absurd (cc)
