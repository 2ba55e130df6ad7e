-- Fields with a space before each are one text in one way only, and what the front of such a text leaves open.
use Rattle.std.proofs.Common.{◌≡◌, ℕ, zero, suc, true, not, List, [], ◌∷◌, ◌++◌, length, map, refl, ap, sym, subst, ◌∙◌, append-nil, drop, arith}
use Rattle.std.specs.Prelude.{◌==◌, ◌&&◌, nat_le}
use Rattle.std.specs.List.{list_all, AllByRecursion}
use Rattle.std.proofs.lemmas.Bool.Decides.{nat_tests}
use Rattle.std.proofs.lemmas.Fmt.{decimal_injective}
use Rattle.rb_model.specs.Lines.{Field, Id, Key, Count, Named, Valued, Moded, Later, IsField, field_text, fields_text, is_value, mode_text}
use Rattle.rb_model.specs.declared.mode.Mode.{Mode}
use Rattle.rb_model.specs.declared.mode.Mode.TheVariants as mode
use Rattle.rb_script.specs.Words.{is_word, FieldKind, IdKind, KeyKind, CountKind, NameKind, ValueKind, ModeKind, LaterKind, field_kind, NoFields}
use Rattle.rb_script.proofs.Spaced.{decimal_is_word, name_is_word, same_front, is_tail}

-- the modes, numbered
abbrev pub mode_numbered : ℕ → Mode
mode_numbered zero = mode.ReadCommitted
mode_numbered (suc zero) = mode.ReadOnly
mode_numbered (suc (suc n)) = mode.Serializable

abbrev number_of : Mode → ℕ
number_of mode.ReadCommitted = 0
number_of mode.ReadOnly = 1
number_of mode.Serializable = 2

same_numbered : (m : Mode) → mode_numbered (number_of m) ≡ m
same_numbered mode.ReadCommitted = refl
same_numbered mode.ReadOnly = refl
same_numbered mode.Serializable = refl

same_mode : (m n : Mode) → mode_text m ≡ mode_text n → m ≡ n
same_mode m n e = grind arith

mode_is_word : (m : Mode) → is_word (mode_text m) ≡ true
mode_is_word mode.ReadCommitted = refl
mode_is_word mode.ReadOnly = refl
mode_is_word mode.Serializable = refl

-- the number or the bytes that a field holds, and else nothing
abbrev pub number_in : Field → ℕ
number_in (Id n) = n
number_in (Key n) = n
number_in (Count n) = n
number_in (Named name) = 0
number_in (Valued value) = 0
number_in (Moded mode) = number_of mode
number_in Later = 0

abbrev pub bytes_in : Field → List ℕ
bytes_in (Id n) = []
bytes_in (Key n) = []
bytes_in (Count n) = []
bytes_in (Named name) = name
bytes_in (Valued value) = value
bytes_in (Moded mode) = []
bytes_in Later = []

-- the field of that kind that holds them
abbrev pub field : FieldKind → ℕ → List ℕ → Field
field IdKind n bytes = Id n
field KeyKind n bytes = Key n
field CountKind n bytes = Count n
field NameKind n bytes = Named bytes
field ValueKind n bytes = Valued bytes
field ModeKind n bytes = Moded (mode_numbered n)
field LaterKind n bytes = Later

same_again : (f : Field) → field (field_kind f) (number_in f) (bytes_in f) ≡ f
same_again (Id n) = refl
same_again (Key n) = refl
same_again (Count n) = refl
same_again (Named name) = refl
same_again (Valued value) = refl
same_again (Moded mode) = ap Moded (same_numbered mode)
same_again Later = refl

value_byte_is_no_space : (b : ℕ) → (nat_le 33 b && nat_le b 126) ≡ true → not (b == 32) ≡ true
value_byte_is_no_space b p = grind (arith, nat_tests)

value_bytes_are_word : (text : List ℕ) → list_all (λ b. nat_le 33 b && nat_le b 126) text ≡ true → is_word text ≡ true
value_bytes_are_word [] p = refl
value_bytes_are_word (b ∷ text) p =
    let first : (nat_le 33 b && nat_le b 126) ≡ true = grind (arith, nat_tests) in
    let rest : list_all (λ c. nat_le 33 c && nat_le c 126) text ≡ true = grind (arith, nat_tests) in
    let k = value_byte_is_no_space b first in
    let t = value_bytes_are_word text rest in
    grind (arith, nat_tests)

value_is_word : (text : List ℕ) → is_value text ≡ true → is_word text ≡ true
value_is_word text valid =
    let bytes : list_all (λ b. nat_le 33 b && nat_le b 126) text ≡ true = grind (arith, nat_tests) in
    value_bytes_are_word text bytes

pub field_is_word : (f : Field) → IsField f → is_word (field_text f) ≡ true
field_is_word (Id n) valid = decimal_is_word n (omega arith)
field_is_word (Key n) valid = decimal_is_word n valid
field_is_word (Count n) valid = decimal_is_word n (omega arith)
field_is_word (Named name) valid = name_is_word name valid
field_is_word (Valued value) valid = value_is_word value valid
field_is_word (Moded mode) valid = mode_is_word mode
field_is_word Later valid = refl

same_held : (k : FieldKind) (m n : ℕ) (a b : List ℕ) → IsField (field k m a) → IsField (field k n b)
    → field_text (field k m a) ≡ field_text (field k n b) → field k m a ≡ field k n b
same_held IdKind m n a b p q e = ap Id (decimal_injective m n (omega arith) (omega arith) e)
same_held KeyKind m n a b p q e = ap Key (decimal_injective m n p q e)
same_held CountKind m n a b p q e = ap Count (decimal_injective m n (omega arith) (omega arith) e)
same_held NameKind m n a b p q e = ap Named e
same_held ValueKind m n a b p q e = ap Valued e
same_held ModeKind m n a b p q e = ap Moded (same_mode (mode_numbered m) (mode_numbered n) e)
same_held LaterKind m n a b p q e = refl

pub fields_tail : (fields : List Field) → is_tail (fields_text fields) ≡ true
fields_tail [] = refl
fields_tail (f ∷ fields) = refl

same_field : (f g : Field) → field_kind f ≡ field_kind g → IsField f → IsField g → field_text f ≡ field_text g → f ≡ g
same_field f g same p q e =
    let again : field (field_kind f) (number_in g) (bytes_in g) ≡ g = ap (λ (k : FieldKind). field k (number_in g) (bytes_in g)) same ∙ same_again g in
    let held = same_held (field_kind f) (number_in f) (number_in g) (bytes_in f) (bytes_in g)
    (subst IsField (sym (same_again f)) p) (subst IsField (sym again) q) (ap field_text (same_again f) ∙ (e ∙ sym (ap field_text again))) in
    sym (same_again f) ∙ (held ∙ again)

-- one text has as many fields, however it is read
pub same_count : (fields others : List Field) → AllByRecursion IsField fields → AllByRecursion IsField others → fields_text fields ≡ fields_text others → length fields ≡ length others
same_count [] [] p q e = refl
same_count [] (g ∷ others) p q e = absurd (cc)
same_count (f ∷ fields) [] p q e = absurd (cc)
same_count (f ∷ fields) (g ∷ others) p q e =
    let k = same_front (field_text f) (field_text g) (fields_text fields) (fields_text others) (field_is_word f p.0) (field_is_word g q.0) (fields_tail fields) (fields_tail others) (ap (drop 1) e) in
    ap suc (same_count fields others p.1 q.1 k.1)

pub same_fields : (fields others : List Field) → map field_kind fields ≡ map field_kind others → AllByRecursion IsField fields → AllByRecursion IsField others
    → fields_text fields ≡ fields_text others → fields ≡ others
same_fields [] [] same p q e = refl
same_fields [] (g ∷ others) same p q e = absurd (cc)
same_fields (f ∷ fields) [] same p q e = absurd (cc)
same_fields (f ∷ fields) (g ∷ others) same p q e =
    let kind : field_kind f ≡ field_kind g = cc in
    let kinds : map field_kind fields ≡ map field_kind others = cc in
    let k = same_front (field_text f) (field_text g) (fields_text fields) (fields_text others) (field_is_word f p.0) (field_is_word g q.0) (fields_tail fields) (fields_tail others) (ap (drop 1) e) in
    cc (same_field f g kind p.0 q.0 k.0, same_fields fields others kinds p.1 q.1 k.1)

-- a field was read, and what stands after it is none of the others
pub none_after : (f : Field) {kinds : List FieldKind} {text rest : List ℕ} → IsField f → text ≡ field_text f ++ 32 ∷ rest
    → NoFields kinds (32 ∷ rest) → NoFields (field_kind f ∷ kinds) (32 ∷ text)
none_after f valid e none [] same all is = absurd (cc)
none_after f {kinds = kinds} {rest = rest} valid e none (g ∷ fields) same all is =
    let same_rest : map field_kind fields ≡ kinds = cc in
    let k = same_front (field_text f) (field_text g) (32 ∷ rest) (fields_text fields) (field_is_word f valid) (field_is_word g all.0) refl (fields_tail fields) (sym e ∙ ap (drop 1) is) in
    none fields same_rest all.1 k.1

-- no field of the first kind stands before a space
pub none_first : (kind next : FieldKind) {kinds : List FieldKind} {text : List ℕ}
    → ((n : ℕ) (bytes rest : List ℕ) → IsField (field kind n bytes) → text ≡ field_text (field kind n bytes) ++ 32 ∷ rest → ⊥)
    → NoFields (kind ∷ next ∷ kinds) (32 ∷ text)
none_first kind next none [] same all is = absurd (cc)
none_first kind next none (g ∷ []) same all is = absurd (cc)
none_first kind next none (g ∷ h ∷ fields) same all is =
    let first : field_kind g ≡ kind = cc in
    let again : field kind (number_in g) (bytes_in g) ≡ g = ap (λ (k : FieldKind). field k (number_in g) (bytes_in g)) (sym first) ∙ same_again g in
    none (number_in g) (bytes_in g) (field_text h ++ fields_text fields) (subst IsField (sym again) all.0)
    (ap (drop 1) is ∙ ap (λ (f : Field). field_text f ++ 32 ∷ (field_text h ++ fields_text fields)) (sym again))

-- the text is no field of the last kind
pub none_last : (kind : FieldKind) {text : List ℕ} → ((n : ℕ) (bytes : List ℕ) → IsField (field kind n bytes) → text ≡ field_text (field kind n bytes) → ⊥)
    → NoFields (kind ∷ []) (32 ∷ text)
none_last kind none [] same all is = absurd (cc)
none_last kind none (g ∷ h ∷ fields) same all is = absurd (cc)
none_last kind none (g ∷ []) same all is =
    let first : field_kind g ≡ kind = cc in
    let again : field kind (number_in g) (bytes_in g) ≡ g = ap (λ (k : FieldKind). field k (number_in g) (bytes_in g)) (sym first) ∙ same_again g in
    none (number_in g) (bytes_in g) (subst IsField (sym again) all.0)
    (ap (drop 1) is ∙ (append-nil (field_text g) ∙ ap field_text (sym again)))
