-- How the words of the command line are spelled. They are those after the program's name.
use Rattle.std.specs.Prelude.{◌≡◌, ◌≢◌, ℕ, ◌<◌, ◌≤◌, List, [], ◌∷◌, ◌++◌, length, map}
use Rattle.std.specs.Prelude.{slice_index, codes, String, string_bytes}
use Rattle.std.specs.Fmt.{decimal}
use Rattle.std.specs.List.{All}
use Rattle.std.specs.declared.alloc.Global.{Global}
use Rattle.rb_layout.specs.declared.layout.Layout.{Layout}
use Rattle.rb_words.specs.declared.words.Request.{Request}
use Rattle.rb_words.specs.declared.words.Request.TheVariants.{Format, Run, Gen}

-- the bytes of the words
abbrev pub texts : List (String Global) → List (List ℕ)
texts words = map (λ (word : String Global). string_bytes word) words

-- the words behind `format`
abbrev pub layout_words : Layout → List (List ℕ)
layout_words l =
    (codes "tables=" ++ decimal l.tables) ∷ (codes "blocks=" ++ decimal l.blocks)
    ∷ (codes "segments=" ++ decimal l.segments) ∷ (codes "log=" ++ decimal l.log) ∷ []

-- the words behind `run`
abbrev pub frames_words : ℕ → List (List ℕ)
frames_words frames = (codes "frames=" ++ decimal frames) ∷ []

abbrev pub format_words : List ℕ → Layout → List (List ℕ)
format_words file l = file ∷ codes "format" ∷ layout_words l

abbrev pub run_words : List ℕ → ℕ → List (List ℕ)
run_words file frames = file ∷ codes "run" ∷ frames_words frames

abbrev pub gen_words : List ℕ → ℕ → List (List ℕ)
gen_words file commands = file ∷ codes "gen" ∷ decimal commands ∷ []

-- a word that isn't empty and doesn't begin with a minus
pub record IsPlain (word : List ℕ) : Type 0 where
  pub some : 0 < length word
  pub no_minus : slice_index word 0 ≢ 45

-- none of the words is empty or begins with a minus
abbrev pub ArePlain : List (String Global) → Type 0
ArePlain words = All (λ (word : String Global). IsPlain (string_bytes word)) words

-- a word that names a file
abbrev pub IsFileWord : List ℕ → Type 0
IsFileWord = IsPlain

-- the words ask for a new file of this layout
pub record AsksFormat (words : List (String Global)) (l : Layout) : Type 0 where
  pub file : List ℕ
  pub named : IsFileWord file
  pub spelled : texts words ≡ format_words file l

-- the words ask for a run of a script with this many frames
pub record AsksRun (words : List (String Global)) (frames : ℕ) : Type 0 where
  pub file : List ℕ
  pub named : IsFileWord file
  pub few : (16 ≤ frames) × (frames ≤ 4096)
  pub spelled : texts words ≡ run_words file frames

-- the words ask for this many commands of the generator
pub record AsksGen (words : List (String Global)) (commands : ℕ) : Type 0 where
  pub file : List ℕ
  pub named : IsFileWord file
  pub few : commands ≤ 1000000
  pub spelled : texts words ≡ gen_words file commands

-- the words ask for this
abbrev pub AskFor : List (String Global) → Request → Type 0
AskFor words (Format l) = AsksFormat words l
AskFor words (Run frames) = AsksRun words frames
AskFor words (Gen commands) = AsksGen words commands

-- the words ask for nothing
abbrev pub IsUsage : List (String Global) → Type 0
IsUsage words = ((l : Layout) → AsksFormat words l → ⊥) × ((n : ℕ) → AsksRun words n → ⊥)
    × ((n : ℕ) → AsksGen words n → ⊥)
