-- What `clap` makes of plain words: the first is the file, the second the command, and the others are parameters.
use Rattle.std.proofs.Common.{◌≡◌, ◌≢◌, ℕ, ◌<◌, ◌≤◌, ◌==◌, List, [], ◌∷◌, ◌++◌, length, codes, Option, Some, None, Result, Ok, Err, IfOk, IsErrAnd, IfSome, IfNone, true, false, refl, sym, ap, ap₂, ◌∙◌, subst, append-nil, append_assoc, arith, inl, inr}
use Rattle.std.specs.Prelude.{option_map, unwrap_or}
use Rattle.std.specs.Borrow.{Bor}
use Rattle.std.specs.List.{All, fold}
use Rattle.std.specs.Str.{bytes_eq}
use Rattle.std.proofs.lemmas.Bool.{cases_lt, ne_eqb, le-ltb}
use Rattle.std.proofs.lemmas.List.Elements.{All-head, All-tail}
use Rattle.clap.specs.Lexer.{long_of, short_of, usize_max}
use Rattle.clap.specs.Values.{kind_of, reading_of}
use Rattle.clap.specs.Walk.{Row, Rule, Text, Walk, all_of, first_of, nothing_held, positional, rows_of, settled, walk, walk_from, walked, finished}
use Rattle.clap.specs.Simple.{App, HasMatchesOf, Shape, built, is_simple, matches_of}
use Rattle.clap.specs.Kinds.{FailsBy, HasKind, Kinds, or_else, range_kinds, values_kinds}
use Rattle.clap.specs.Faults.{check_fault, fault_of, is_simple_and_free, settle_fault, walk_fault, defaults_fault}
use Rattle.clap.specs.declared.parser.matches.ValueSource.TheVariants.{CommandLine}
use Rattle.clap.specs.declared.builder.value_parser.ValueParser.TheVariants as parser
use Rattle.clap.specs.declared.error.kind.ErrorKind.TheVariants as kind
use Rattle.rb_words.specs.Words.{IsPlain}
use Rattle.clap.specs.Matches.{found_of}
use Rattle.clap.specs.declared.error.Error.{Error}
use Rattle.clap.specs.declared.parser.matches.ArgMatches.{ArgMatches}
use Rattle.clap.proofs.FaultLemmas.{leaf_fault}
use Rattle.clap.proofs.WalkLemmas.{first_value-rows, raw_values-rows}
use Rattle.rb_words.specs.Parts.{form, referred, HasParts}

-- ---- the form, as `clap` builds it

abbrev shape : Shape
shape = (built form).top

abbrev rules : List Rule
rules = shape.rules

pub form_is_simple : is_simple form ≡ true
form_is_simple = refl

pub form_is_free : is_simple_and_free form ≡ true
form_is_free = refl

-- ---- a plain word is no flag

first_is : (x : ℕ) (rest : List ℕ) → IsPlain (x ∷ rest) → (x == 45) ≡ false
first_is x rest plain = ne_eqb x 45 plain.no_minus

no_dashes : (word : Text) → IsPlain word → bytes_eq word (45 ∷ 45 ∷ []) ≡ false
no_dashes [] plain = absurd (omega (arith, plain.some))
no_dashes (x ∷ rest) plain = let other = first_is x rest plain in rw other refl

no_long : (word : Text) → IsPlain word → long_of word ≡ None
no_long [] plain = refl
no_long (x ∷ rest) plain = let other = first_is x rest plain in rw other refl

no_short : (word : Text) → IsPlain word → short_of word ≡ None
no_short [] plain = refl
no_short (x ∷ rest) plain = let other = first_is x rest plain in rw other refl

-- ---- the walk over the words

abbrev row : Text → List Text → Row
row id values = record { id = id; values = values; count = None; source = Some CommandLine; reading = reading_of parser.String }

abbrev after_file : Text → Walk
after_file file = record (walk_from (record { rows = []; pending = Some (codes "file", file ∷ []); skip = 0 })) { position = 2 }

abbrev two_rows : Text → Text → List Row
two_rows file command = row (codes "file") (file ∷ []) ∷ row (codes "command") (command ∷ []) ∷ []

abbrev after_command : Text → Text → Walk
after_command file command = record (walk_from (record {
  rows = row (codes "file") (file ∷ []) ∷ [];
  pending = Some (codes "command", command ∷ []);
  skip = 0;
})) { position = 3 }

abbrev after_parameters : Text → Text → List Text → Walk
after_parameters file command parameters = record (walk_from (record {
  rows = two_rows file command;
  pending = Some (codes "parameters", parameters);
  skip = 0;
})) { position = 3; waiting = positional }

file_walked : (file : Text) → IsPlain file → walked rules [] (walk_from nothing_held) file ≡ after_file file
unfolding walked
file_walked file plain = rw (no_dashes file plain, no_long file plain, no_short file plain) refl

command_walked : (file command : Text) → IsPlain command → walked rules [] (after_file file) command ≡ after_command file command
unfolding walked
command_walked file command plain = rw (no_dashes command plain, no_long command plain, no_short command plain) refl

parameter_walked : (file command word : Text) → IsPlain word → walked rules [] (after_command file command) word ≡ after_parameters file command (word ∷ [])
unfolding walked
parameter_walked file command word plain = rw (no_dashes word plain, no_long word plain, no_short word plain) refl

next_walked : (file command word : Text) (seen : List Text) → IsPlain word → walked rules [] (after_parameters file command seen) word ≡ after_parameters file command (seen ++ word ∷ [])
unfolding walked
next_walked file command word seen plain = rw (no_dashes word plain, no_long word plain, no_short word plain) refl

parameters_walked : (file command : Text) (seen rest : List Text) → All IsPlain rest → fold (walked rules []) (after_parameters file command seen) rest ≡ after_parameters file command (seen ++ rest)
parameters_walked file command seen [] plain = ap (after_parameters file command) (sym (append-nil seen))
parameters_walked file command seen (word ∷ rest) plain =
    ap (λ (w : Walk). fold (walked rules []) w rest) (next_walked file command word seen (All-head IsPlain word rest plain))
    ∙ parameters_walked file command (seen ++ word ∷ []) rest (All-tail IsPlain word rest plain)
    ∙ ap (after_parameters file command) (append_assoc seen (word ∷ []) rest)

two_walked : (file command : Text) (rest : List Text) → IsPlain file → IsPlain command
    → walk rules [] nothing_held (file ∷ command ∷ rest) ≡ fold (walked rules []) (after_command file command) rest
two_walked file command rest plain_file plain_command =
    ap (λ (w : Walk). fold (walked rules []) w (command ∷ rest)) (file_walked file plain_file)
    ∙ ap (λ (w : Walk). fold (walked rules []) w rest) (command_walked file command plain_command)

more_walked : (file command word : Text) (rest : List Text) → IsPlain file → IsPlain command → All IsPlain (word ∷ rest)
    → walk rules [] nothing_held (file ∷ command ∷ word ∷ rest) ≡ after_parameters file command (word ∷ rest)
more_walked file command word rest plain_file plain_command plain =
    two_walked file command (word ∷ rest) plain_file plain_command
    ∙ ap (λ (w : Walk). fold (walked rules []) w rest) (parameter_walked file command word (All-head IsPlain word rest plain))
    ∙ parameters_walked file command (word ∷ []) rest (All-tail IsPlain word rest plain)

-- ---- the matches

abbrev three_rows : Text → Text → List Text → List Row
three_rows file command parameters = two_rows file command ++ row (codes "parameters") parameters ∷ []

two_matched : (file command : Text) → IsPlain file → IsPlain command → matches_of form (file ∷ command ∷ []) ≡ two_rows file command
two_matched file command plain_file plain_command = ap (λ (w : Walk). finished rules w.held) (two_walked file command [] plain_file plain_command)

more_matched : (file command word : Text) (rest : List Text) → IsPlain file → IsPlain command → All IsPlain (word ∷ rest)
    → matches_of form (file ∷ command ∷ word ∷ rest) ≡ three_rows file command (word ∷ rest)
more_matched file command word rest plain_file plain_command plain =
    ap (λ (w : Walk). finished rules w.held) (more_walked file command word rest plain_file plain_command plain)

-- ---- no fault but want of memory

abbrev missing : Kinds
missing = kind.MissingRequiredArgument ∷ []

none_given : fault_of form [] ≡ missing
unfolding walk_fault defaults_fault
none_given = refl

file_fault : (file : Text) (rest : List Text) → IsPlain file → walk_fault shape [] (walk_from nothing_held) (file ∷ rest) ≡ walk_fault shape [] (after_file file) rest
unfolding walk_fault walked
file_fault file rest plain = rw (no_dashes file plain, no_long file plain, no_short file plain) refl

command_fault : (file command : Text) (rest : List Text) → IsPlain command → walk_fault shape [] (after_file file) (command ∷ rest) ≡ walk_fault shape [] (after_command file command) rest
unfolding walk_fault walked
command_fault file command rest plain = rw (no_dashes command plain, no_long command plain, no_short command plain) refl

parameter_fault : (file command word : Text) (rest : List Text) → IsPlain word
    → walk_fault shape [] (after_command file command) (word ∷ rest) ≡ walk_fault shape [] (after_parameters file command (word ∷ [])) rest
unfolding walk_fault walked
parameter_fault file command word rest plain = rw (no_dashes word plain, no_long word plain, no_short word plain) refl

next_fault : (file command word : Text) (seen rest : List Text) → IsPlain word
    → walk_fault shape [] (after_parameters file command seen) (word ∷ rest) ≡ walk_fault shape [] (after_parameters file command (seen ++ word ∷ [])) rest
unfolding walk_fault walked
next_fault file command word seen rest plain = rw (no_dashes word plain, no_long word plain, no_short word plain) refl

ends_well : (w : Walk) → walk_fault shape [] w [] ≡ []
unfolding walk_fault
ends_well w = refl

parameters_fault : (file command : Text) (seen rest : List Text) → All IsPlain rest → walk_fault shape [] (after_parameters file command seen) rest ≡ []
parameters_fault file command seen [] plain = ends_well (after_parameters file command seen)
parameters_fault file command seen (word ∷ rest) plain =
    next_fault file command word seen rest (All-head IsPlain word rest plain) ∙ parameters_fault file command (seen ++ word ∷ []) rest (All-tail IsPlain word rest plain)

text_passes : (values : List Text) → values_kinds false parser.String values ≡ []
text_passes [] = refl
text_passes (v ∷ rest) = text_passes rest

any_number : (n : ℕ) → n ≤ usize_max → range_kinds 0 usize_max n ≡ []
any_number n few = rw (le-ltb usize_max n few, le-ltb n 0 (omega arith)) refl

-- what the end of the words makes of a walk that had no fault
abbrev end_fault : Walk → Kinds
end_fault w = or_else (settle_fault rules false w.held) (or_else (defaults_fault (settled rules w.held).rows rules) (check_fault shape (finished rules w.held) false))

fault_is : (words : List Text) → fault_of form words ≡ or_else (walk_fault shape [] (walk_from nothing_held) words) (end_fault (walk rules [] nothing_held words))
fault_is words = leaf_fault (built form) nothing_held words refl

fault_after : (words : List Text) (w : Walk) (kinds : Kinds) → walk rules [] nothing_held words ≡ w → walk_fault shape [] (walk_from nothing_held) words ≡ [] → end_fault w ≡ kinds
    → fault_of form words ≡ kinds
fault_after words w kinds walk_is passed end_is = fault_is words ∙ ap₂ (λ (k : Kinds) (v : Walk). or_else k (end_fault v)) passed walk_is ∙ end_is

file_ends : (file : Text) → end_fault (after_file file) ≡ missing
unfolding defaults_fault
file_ends file = refl

one_given : (file : Text) → IsPlain file → fault_of form (file ∷ []) ≡ missing
one_given file plain =
    fault_after (file ∷ []) (after_file file) missing (file_walked file plain) (file_fault file [] plain ∙ ends_well (after_file file)) (file_ends file)

two_end : (file command : Text) → end_fault (after_command file command) ≡ []
unfolding defaults_fault
two_end file command = refl

two_given : (file command : Text) → IsPlain file → IsPlain command → fault_of form (file ∷ command ∷ []) ≡ []
two_given file command plain_file plain_command =
    fault_after (file ∷ command ∷ []) (after_command file command) [] (two_walked file command [] plain_file plain_command)
    (file_fault file (command ∷ []) plain_file ∙ command_fault file command [] plain_command ∙ ends_well (after_command file command)) (two_end file command)

more_end : (file command word : Text) (rest : List Text) → length (word ∷ rest) ≤ usize_max → end_fault (after_parameters file command (word ∷ rest)) ≡ []
unfolding defaults_fault
more_end file command word rest few = rw (any_number (length (word ∷ rest)) few, text_passes rest) refl

more_given : (file command word : Text) (rest : List Text) → IsPlain file → IsPlain command → All IsPlain (word ∷ rest) → length (word ∷ rest) ≤ usize_max
    → fault_of form (file ∷ command ∷ word ∷ rest) ≡ []
more_given file command word rest plain_file plain_command plain few =
    fault_after (file ∷ command ∷ word ∷ rest) (after_parameters file command (word ∷ rest)) [] (more_walked file command word rest plain_file plain_command plain)
    (file_fault file (command ∷ word ∷ rest) plain_file ∙ command_fault file command (word ∷ rest) plain_command
    ∙ parameter_fault file command word rest (All-head IsPlain word rest plain) ∙ parameters_fault file command (word ∷ []) rest (All-tail IsPlain word rest plain))
    (more_end file command word rest few)

-- two plain words or more are read, but for want of memory
pub two_pass : (words : List Text) → All IsPlain words → length words ≤ usize_max → 2 ≤ length words → fault_of form words ≡ []
two_pass [] plain few some = absurd (omega arith)
two_pass (file ∷ []) plain few some = absurd (omega arith)
two_pass (file ∷ command ∷ []) plain few some =
    let behind = All-tail IsPlain file (command ∷ []) plain in
    two_given file command (All-head IsPlain file (command ∷ []) plain) (All-head IsPlain command [] behind)
two_pass (file ∷ command ∷ word ∷ rest) plain few some =
    let behind = All-tail IsPlain file (command ∷ word ∷ rest) plain in
    more_given file command word rest (All-head IsPlain file (command ∷ word ∷ rest) plain) (All-head IsPlain command (word ∷ rest) behind)
    (All-tail IsPlain command (word ∷ rest) behind) (omega arith)

-- ---- what the matches have

-- by their rows
rows_have : (m : ArgMatches) (words : List Text) (file command : Text) (parameters : List Text) (rows : List Row) → words ≡ file ∷ command ∷ parameters → rows_of (found_of m) ≡ rows
    → first_of (codes "file") rows ≡ Some file → first_of (codes "command") rows ≡ Some command → unwrap_or (all_of (codes "parameters") rows) [] ≡ parameters → HasParts m words
rows_have m words file command parameters rows joined rows_are file_is command_is parameters_are = record {
  file = file;
  command = command;
  parameters = parameters;
  joined = joined;
  file_is = first_value-rows (found_of m) (codes "file") ∙ ap (first_of (codes "file")) rows_are ∙ file_is;
  command_is = first_value-rows (found_of m) (codes "command") ∙ ap (first_of (codes "command")) rows_are ∙ command_is;
  parameters_are = ap (λ o. unwrap_or o []) (raw_values-rows (found_of m) (codes "parameters") ∙ ap (all_of (codes "parameters")) rows_are) ∙ parameters_are;
}

no_parts : {A : Type 0} (k : Kinds) → k ≡ missing → k ≡ [] → A
no_parts k is none = let bad : missing ≡ [] = (sym is ∙ none) in cc

-- words that were read are these parts
pub parts_of : (m : ArgMatches) (words : List Text) → All IsPlain words → HasMatchesOf form words m → fault_of form words ≡ [] → HasParts m words
parts_of m [] plain matched passed = no_parts (fault_of form []) none_given passed
parts_of m (file ∷ []) plain matched passed = no_parts (fault_of form (file ∷ [])) (one_given file (All-head IsPlain file [] plain)) passed
parts_of m (file ∷ command ∷ []) plain matched passed =
    let behind = All-tail IsPlain file (command ∷ []) plain in
    let rows_are = (matched form_is_simple).0 ∙ two_matched file command (All-head IsPlain file (command ∷ []) plain) (All-head IsPlain command [] behind) in
    rows_have m (file ∷ command ∷ []) file command [] (two_rows file command) refl rows_are refl refl refl
parts_of m (file ∷ command ∷ word ∷ rest) plain matched passed =
    let behind = All-tail IsPlain file (command ∷ word ∷ rest) plain in
    let rows_are = (matched form_is_simple).0 ∙ more_matched file command word rest (All-head IsPlain file (command ∷ word ∷ rest) plain) (All-head IsPlain command (word ∷ rest) behind)
    (All-tail IsPlain command (word ∷ rest) behind) in
    rows_have m (file ∷ command ∷ word ∷ rest) file command (word ∷ rest) (three_rows file command (word ∷ rest)) refl rows_are refl refl refl

-- ---- a parse of the form

parsed_well : (m : ArgMatches) (app : App) (words : List Text) → app ≡ form → All IsPlain words → HasMatchesOf app words m
    → (is_simple_and_free app ≡ true → fault_of app words ≡ []) → HasParts m words
parsed_well m app words is plain matched passed =
    parts_of m words plain (subst (λ (a : App). HasMatchesOf a words m) is matched)
    (subst (λ (a : App). is_simple_and_free a ≡ true → fault_of a words ≡ []) is passed form_is_free)

-- what is taken from one that succeeds
pub taken_well : {F : Type 0} (taken : Result (Option ArgMatches) F) (parse : Result ArgMatches Error) (app : App) (words : List Text) → app ≡ form → All IsPlain words
    → IfOk parse (HasMatchesOf app words) → (is_simple_and_free app ≡ true → FailsBy (fault_of app words) parse) → IfOk taken (λ o. IfSome o (λ m. parse ≡ Ok m))
    → IfOk taken (λ o. IfSome o (λ m. HasParts m words))
taken_well (Err f) parse app words is plain matched fails same = tt
taken_well (Ok None) parse app words is plain matched fails same = tt
taken_well (Ok (Some m)) parse app words is plain matched fails same =
    parsed_well m app words is plain (subst (λ (r : Result ArgMatches Error). IfOk r (HasMatchesOf app words)) same matched)
    (subst (λ (r : Result ArgMatches Error). is_simple_and_free app ≡ true → FailsBy (fault_of app words) r) same fails)

parsed_badly : (parse : Result ArgMatches Error) (app : App) (words : List Text) → app ≡ form → All IsPlain words → length words ≤ usize_max
    → (is_simple_and_free app ≡ true → FailsBy (fault_of app words) parse) → IsErrAnd parse (λ e. kind_of e ≢ kind.OutOfMemory) → length words < 2
parsed_badly (Ok m) app words is plain few fails other = absurd other
parsed_badly (Err e) app words is plain few fails other = elim (cases_lt (length words) 2) [
  | inl below ↦ below
  | inr above ↦
      let kinds = subst (λ (a : App). is_simple_and_free a ≡ true → HasKind (fault_of a words) e) is fails form_is_free in
      let none : HasKind [] e = subst (λ (k : Kinds). HasKind k e) (two_pass words plain few above) kinds in
      elim none [ inl memory ↦ absurd (other memory) | inr among ↦ absurd among ]
]

-- and nothing is taken but from fewer than two words
pub taken_badly : {F : Type 0} (taken : Result (Option ArgMatches) F) (parse : Result ArgMatches Error) (app : App) (words : List Text) → app ≡ form → All IsPlain words
    → length words ≤ usize_max → (is_simple_and_free app ≡ true → FailsBy (fault_of app words) parse)
    → IfOk taken (λ o. IfNone o (IsErrAnd parse (λ e. kind_of e ≢ kind.OutOfMemory))) → IfOk taken (λ o. IfNone o (length words < 2))
taken_badly (Err f) parse app words is plain few fails refused = tt
taken_badly (Ok None) parse app words is plain few fails refused = parsed_badly parse app words is plain few fails refused
taken_badly (Ok (Some m)) parse app words is plain few fails refused = tt

-- ---- what the getters of the matches gave

pub command_given : (o : Option (Bor Text)) (v : Option Text) (word : Bor Text) (command : Text) → option_map (λ (s : Bor Text). s.now) o ≡ v → o ≡ Some word → v ≡ Some command
    → word.now ≡ command
command_given o v word command read is has =
    let same : Some word.now ≡ Some command = (ap (option_map (λ (s : Bor Text). s.now)) (sym is) ∙ read ∙ has) in
    cc

pub parameters_given : (o : Option (Bor (List (Bor Text)))) (v : Option (List Text)) (none given : Bor (List (Bor Text))) (parameters : List Text)
    → option_map (λ (s : Bor (List (Bor Text))). referred s.now) o ≡ v → given ≡ unwrap_or o none → none.now ≡ [] → unwrap_or v [] ≡ parameters → referred given.now ≡ parameters
parameters_given None v none given parameters read is empty has = ap (λ (s : Bor (List (Bor Text))). referred s.now) is ∙ ap referred empty ∙ ap (λ (w : Option (List Text)). unwrap_or w []) read ∙ has
parameters_given (Some s) v none given parameters read is empty has =
    ap (λ (t : Bor (List (Bor Text))). referred t.now) is ∙ ap (λ (w : Option (List Text)). unwrap_or w []) read ∙ has
