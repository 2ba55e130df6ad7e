-- The parts of a command line: a file, a command and its parameters, as `clap` reads them.
use Rattle.std.specs.Prelude.{◌≡◌, ℕ, ◌≤◌, List, [], ◌∷◌, map, codes, true}
use Rattle.std.specs.Prelude.{Some, option_map, unwrap_or}
use Rattle.std.specs.Borrow.{Bor}
use Rattle.std.specs.Fmt.{decimal}
use Rattle.clap.specs.Words.{App, Rule, first_value, found_of, matched_of, new_app, new_rule}
use Rattle.clap.specs.Words.{raw_values, with_rule}
use Rattle.clap.specs.Lexer.{usize_max}
use Rattle.clap.specs.declared.parser.matches.ArgMatches.{ArgMatches}
use Rattle.rb_words.specs.Words.{layout_words, frames_words}
use Rattle.rb_words.specs.declared.words.Request.{Request}
use Rattle.rb_words.specs.declared.words.Request.TheVariants.{Format, Run, Gen}

-- the texts behind references
abbrev pub referred : List (Bor (List ℕ)) → List (List ℕ)
referred words = map (λ (word : Bor (List ℕ)). word.now) words

-- one value, which has to be there
abbrev pub one_value : List ℕ → Rule
one_value id = record (new_rule id) { required = true }

-- any number of values
abbrev pub any_values : List ℕ → Rule
any_values id = record (new_rule id) {
  range = Some (record { start_inclusive = 0; end_inclusive = usize_max });
}

abbrev pub no_rules : App
no_rules = record (new_app (codes "rbsh")) {
  top = record (new_app (codes "rbsh")).top { no_binary_name = true; disable_help_flag = true };
}

-- a file, a command and parameters, with no program's name before them
abbrev pub form : App
form = with_rule (with_rule (with_rule no_rules (one_value (codes "file")))
    (one_value (codes "command"))) (any_values (codes "parameters"))

-- the words are these parts: the first, the second, and those after them
pub record HasParts (parts : ArgMatches) (words : List (List ℕ)) : Type 0 where
  pub file : List ℕ
  pub command : List ℕ
  pub parameters : List (List ℕ)
  pub joined : words ≡ file ∷ command ∷ parameters
  pub file_is : first_value (found_of parts) (codes "file") ≡ Some file
  pub command_is : first_value (found_of parts) (codes "command") ≡ Some command
  pub parameters_are : unwrap_or (option_map raw_values (matched_of (found_of parts)
      (codes "parameters"))) [] ≡ parameters

-- the words behind the file's spell this
abbrev pub SpellRequest : List (List ℕ) → Request → Type 0
SpellRequest words (Format l) = words ≡ codes "format" ∷ layout_words l
SpellRequest words (Run frames) =
    (16 ≤ frames) × (frames ≤ 4096) × (words ≡ codes "run" ∷ frames_words frames)
SpellRequest words (Gen commands) =
    (commands ≤ 1000000) × (words ≡ codes "gen" ∷ decimal commands ∷ [])
