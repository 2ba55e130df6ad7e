-- What the words of the command line spell, and that they spell it alone.
use Rattle.std.proofs.Common.{◌≡◌, ◌≢◌, ℕ, zero, suc, ◌<◌, ◌≤◌, ◌^◌, List, [], ◌∷◌, ◌++◌, length, get_or, slice_index, codes, Option, Some, None, IsSome, IfSome, IfNone, Result, Ok, Err, String, Global, string_bytes, refl, sym, ap, ◌∙◌, subst, arith}
use Rattle.std.specs.Borrow.{Bor}
use Rattle.std.specs.Fmt.{decimal}
use Rattle.std.specs.List.{All}
use Rattle.std.specs.Result.{OkIff, result_ok}
use Rattle.std.proofs.lemmas.Fmt.{decimal_digit, decimal_injective, decimal_nonempty, first_decimal}
use Rattle.std.proofs.lemmas.List.{append_cancel_left}
use Rattle.std.proofs.lemmas.List.Elements.{All-cons, All-head, All-map, All-nil, All-tail}
use Rattle.rb_layout.specs.declared.layout.Layout.{Layout}
use Rattle.rb_layout.specs.Ranges.{InRange}
use Rattle.rb_layout.specs.Regions.{fresh_file}
use Rattle.rb_words.specs.Words.{texts, layout_words, frames_words, format_words, run_words, gen_words, AskFor, AsksFormat, AsksRun, AsksGen, ArePlain, IsPlain}
use Rattle.rb_words.specs.Parts.{referred, SpellRequest}
use Rattle.rb_words.specs.declared.words.Request.{Request}
use Rattle.rb_words.specs.declared.words.Request.TheVariants.{Format, Run, Gen}

-- two numbers behind one name
pub same_number : (word name : List ℕ) (m n : ℕ) → m < 2 ^ 64 → n < 2 ^ 64 → word ≡ name ++ decimal m → word ≡ name ++ decimal n → m ≡ n
same_number word name m n small few is also = decimal_injective m n small few (append_cancel_left name (decimal m) (decimal n) (sym is ∙ also))

-- digits behind a name are those of the same number
pub named_some : (o : Option ℕ) (word name digits : List ℕ) → word ≡ name ++ digits → IfSome o (λ n. digits ≡ decimal n) → IfSome o (λ n. word ≡ name ++ decimal n)
named_some None word name digits is found = tt
named_some (Some n) word name digits is found = is ∙ ap (λ (l : List ℕ). name ++ l) found

pub named_none : (o : Option ℕ) (word name digits : List ℕ) → word ≡ name ++ digits → IfNone o ((n : ℕ) → n < 2 ^ 64 → digits ≢ decimal n)
    → IfNone o ((n : ℕ) → n < 2 ^ 64 → word ≢ name ++ decimal n)
named_none None word name digits is none = λ n small also. none n small (append_cancel_left name digits (decimal n) (sym is ∙ also))
named_none (Some m) word name digits is none = tt

-- a number that doesn't fit isn't spelled by one that does
pub narrow_none : {E : Type 0} (bound n : ℕ) (r : Result ℕ E) (o : Option ℕ) (word name : List ℕ) → OkIff r (n < bound) n → o ≡ result_ok r → bound ≤ 2 ^ 64 → n < 2 ^ 64
    → word ≡ name ++ decimal n → IfNone o ((m : ℕ) → m < bound → word ≢ name ++ decimal m)
narrow_none bound n (Ok x) o word name fits is few small found = rw is tt
narrow_none bound n (Err e) o word name fits is few small found =
    rw is (λ m below also. let same : n ≡ m = same_number word name n m small (omega arith) found also in fits (omega (arith, same, below)))

-- nothing but None where a value would need what can't be
pub none_unless : {A : Type 0} (o : Option A) (P : Type 0) → ((IsSome o → ⊥) → P) → IfNone o P
none_unless None P make = make (λ some. cc)
none_unless (Some a) P make = tt

-- numbers that four words spell
pub record Spells (tables blocks segments log : List ℕ) (t b s g : ℕ) : Type 0 where
  pub tables_is : tables ≡ codes "tables=" ++ decimal t
  pub blocks_is : blocks ≡ codes "blocks=" ++ decimal b
  pub segments_is : segments ≡ codes "segments=" ++ decimal s
  pub log_is : log ≡ codes "log=" ++ decimal g
  pub tables_fit : t < 2 ^ 64
  pub blocks_fit : b < 2 ^ 64
  pub segments_fit : s < 2 ^ 64
  pub log_fit : g < 2 ^ 64

-- the numbers of a layout, by its words
pub numbers : (tables blocks segments log : List ℕ) (t b s g : ℕ) (l : Layout) → Spells tables blocks segments log t b s g
    → tables ∷ blocks ∷ segments ∷ log ∷ [] ≡ layout_words l → (t ≡ l.tables) × (b ≡ l.blocks) × (s ≡ l.segments) × (g ≡ l.log)
numbers tables blocks segments log t b s g l spell is =
    let one : tables ≡ codes "tables=" ++ decimal l.tables = cc in
    let two : blocks ≡ codes "blocks=" ++ decimal l.blocks = cc in
    let three : segments ≡ codes "segments=" ++ decimal l.segments = cc in
    let four : log ≡ codes "log=" ++ decimal l.log = cc in (
      same_number tables (codes "tables=") t l.tables spell.tables_fit (omega (arith, l.few_tables.1)) spell.tables_is one,
      same_number blocks (codes "blocks=") b l.blocks spell.blocks_fit (omega (arith, l.few_blocks.1)) spell.blocks_is two,
      same_number segments (codes "segments=") s l.segments spell.segments_fit (omega (arith, l.few_segments.1)) spell.segments_is three,
      same_number log (codes "log=") g l.log spell.log_fit (omega (arith, l.few_slots.1)) spell.log_is four,
    )

pub layout_in_range : (parameters : List (Bor (List ℕ))) (p q r v : Bor (List ℕ)) (t b s g : ℕ) (l : Layout) → 4 ≤ length parameters → length parameters < 5
    → Spells (get_or parameters 0 p).now (get_or parameters 1 q).now (get_or parameters 2 r).now (get_or parameters 3 v).now t b s g → referred parameters ≡ layout_words l → InRange t b s g
layout_in_range [] p q r v t b s g l some few spell asked = absurd (omega arith)
layout_in_range (x ∷ []) p q r v t b s g l some few spell asked = absurd (omega arith)
layout_in_range (x ∷ y ∷ []) p q r v t b s g l some few spell asked = absurd (omega arith)
layout_in_range (x ∷ y ∷ z ∷ []) p q r v t b s g l some few spell asked = absurd (omega arith)
layout_in_range (x ∷ y ∷ z ∷ w ∷ []) p q r v t b s g l some few spell asked =
    let same = numbers x.now y.now z.now w.now t b s g l spell asked in
    record {
      few_tables = (omega (arith, same.0, l.few_tables.0), omega (arith, same.0, l.few_tables.1));
      few_blocks = (omega (arith, same.1, l.few_blocks.0), omega (arith, same.1, l.few_blocks.1));
      few_segments = (omega (arith, same.2, l.few_segments.0), omega (arith, same.2, l.few_segments.1));
      few_slots = (omega (arith, same.3, l.few_slots.0), omega (arith, same.3, l.few_slots.1));
    }
layout_in_range (x ∷ y ∷ z ∷ w ∷ u ∷ rest) p q r v t b s g l some few spell asked = absurd (omega arith)

-- one number behind a name, by its word
pub same_alone : (parameters : List (Bor (List ℕ))) (word : Bor (List ℕ)) (name : List ℕ) (m n : ℕ) → 1 ≤ length parameters → length parameters < 2
    → (get_or parameters 0 word).now ≡ name ++ decimal m → m < 2 ^ 64 → n < 2 ^ 64 → referred parameters ≡ (name ++ decimal n) ∷ [] → m ≡ n
same_alone [] word name m n some few found small fits asked = absurd (omega arith)
same_alone (x ∷ []) word name m n some few found small fits asked =
    let named : x.now ≡ name ++ decimal n = cc in
    same_number x.now name m n small fits found named
same_alone (x ∷ y ∷ rest) word name m n some few found small fits asked = absurd (omega arith)

-- the same words ask for one layout
pub same_layout : (words : List (String Global)) (l m : Layout) → AsksFormat words l → AsksFormat words m → (l.tables ≡ m.tables) × (l.blocks ≡ m.blocks) × (l.segments ≡ m.segments) × (l.log ≡ m.log)
same_layout words l m asked also =
    let both : format_words asked.file l ≡ format_words also.file m = (sym asked.spelled ∙ also.spelled) in
    let behind : layout_words l ≡ layout_words m = cc in
    numbers _ _ _ _ l.tables l.blocks l.segments l.log m (record {
      tables_is = refl;
      blocks_is = refl;
      segments_is = refl;
      log_is = refl;
      tables_fit = omega (arith, l.few_tables.1);
      blocks_fit = omega (arith, l.few_blocks.1);
      segments_fit = omega (arith, l.few_segments.1);
      log_fit = omega (arith, l.few_slots.1);
    }) behind

-- and so for one file
pub same_file : (version : ℕ) (words : List (String Global)) (l m : Layout) → AsksFormat words l → AsksFormat words m → fresh_file version l ≡ fresh_file version m
same_file version words l m asked also =
    let same = same_layout words l m asked also in
    rw (same.0, same.1, same.2, same.3) refl

-- no words ask for two kinds of request
pub not_both : (words : List (String Global)) (l : Layout) (n : ℕ) → AsksFormat words l → AsksRun words n → ⊥
not_both words l n asked also =
    let both : format_words asked.file l ≡ run_words also.file n = (sym asked.spelled ∙ also.spelled) in
    let heads : ◌≡◌ {A = ℕ} 102 114 = cc in
    absurd (omega (arith, heads))

pub not_format_and_gen : (words : List (String Global)) (l : Layout) (n : ℕ) → AsksFormat words l → AsksGen words n → ⊥
not_format_and_gen words l n asked also =
    let both : format_words asked.file l ≡ gen_words also.file n = (sym asked.spelled ∙ also.spelled) in
    let heads : ◌≡◌ {A = ℕ} 102 103 = cc in
    absurd (omega (arith, heads))

pub not_run_and_gen : (words : List (String Global)) (m n : ℕ) → AsksRun words m → AsksGen words n → ⊥
not_run_and_gen words m n asked also =
    let both : run_words asked.file m ≡ gen_words also.file n = (sym asked.spelled ∙ also.spelled) in
    let heads : ◌≡◌ {A = ℕ} 114 103 = cc in
    absurd (omega (arith, heads))

pub same_gen : (words : List (String Global)) (m n : ℕ) → AsksGen words m → AsksGen words n → m ≡ n
same_gen words m n asked also =
    let both : gen_words asked.file m ≡ gen_words also.file n = (sym asked.spelled ∙ also.spelled) in
    let behind : decimal m ≡ decimal n = cc in
    decimal_injective m n (omega (arith, asked.few)) (omega (arith, also.few)) behind

-- ---- the file's word, and those behind it

-- what the words behind the file's spell is asked for
pub asked_of : (words : List (String Global)) (file : List ℕ) (behind : List (List ℕ)) (request : Request) → texts words ≡ file ∷ behind → IsPlain file
    → SpellRequest behind request → AskFor words request
asked_of words file behind (Format l) parts named spelled = record { file = file; named = named; spelled = parts ∙ ap (λ (ws : List (List ℕ)). file ∷ ws) spelled }
asked_of words file behind (Run frames) parts named spelled =
    record { file = file; named = named; few = (spelled.0, spelled.1); spelled = parts ∙ ap (λ (ws : List (List ℕ)). file ∷ ws) spelled.2 }
asked_of words file behind (Gen commands) parts named spelled =
    record { file = file; named = named; few = spelled.0; spelled = parts ∙ ap (λ (ws : List (List ℕ)). file ∷ ws) spelled.1 }

-- and the other way round
pub spelled_of : (words : List (String Global)) (file : List ℕ) (behind : List (List ℕ)) (request : Request) → texts words ≡ file ∷ behind → AskFor words request
    → SpellRequest behind request
spelled_of words file behind (Format l) parts asked =
    let same : file ∷ behind ≡ format_words asked.file l = (sym parts ∙ asked.spelled) in
    cc
spelled_of words file behind (Run frames) parts asked =
    let same : file ∷ behind ≡ run_words asked.file frames = (sym parts ∙ asked.spelled) in
    (asked.few.0, asked.few.1, cc)
spelled_of words file behind (Gen commands) parts asked =
    let same : file ∷ behind ≡ gen_words asked.file commands = (sym parts ∙ asked.spelled) in
    (asked.few, cc)

-- ---- no form has a word that isn't plain

plain_decimal : (n : ℕ) → n < 2 ^ 64 → IsPlain (decimal n)
plain_decimal zero fits = record { some = decimal_nonempty 0 fits; no_minus = λ minus. let zeros = decimal_digit 0 (omega arith) in let bad : 48 ≡ 45 = rw zeros at minus in absurd (omega (arith, bad)) }
plain_decimal (suc n) fits = record { some = decimal_nonempty (suc n) fits; no_minus = λ minus. let above = first_decimal (suc n) (omega arith) fits in absurd (omega (arith, above, minus)) }

-- a word that begins with a letter
plain_letter : (word : List ℕ) (letter : ℕ) → 0 < length word → slice_index word 0 ≡ letter → 97 ≤ letter → IsPlain word
plain_letter word letter some first above = record { some = some; no_minus = λ minus. absurd (omega (arith, first, minus)) }

plain_one : (a : List ℕ) → IsPlain a → All IsPlain (a ∷ [])
plain_one a first = All-cons IsPlain a [] first (All-nil IsPlain)

plain_two : (a b : List ℕ) (rest : List (List ℕ)) → IsPlain a → IsPlain b → All IsPlain rest → All IsPlain (a ∷ b ∷ rest)
plain_two a b rest one two others = All-cons IsPlain a (b ∷ rest) one (All-cons IsPlain b rest two others)

layout_plain : (l : Layout) → All IsPlain (layout_words l)
layout_plain l =
    plain_two (codes "tables=" ++ decimal l.tables) (codes "blocks=" ++ decimal l.blocks)
    ((codes "segments=" ++ decimal l.segments) ∷ (codes "log=" ++ decimal l.log) ∷ [])
    (plain_letter (codes "tables=" ++ decimal l.tables) 116 (omega arith) refl (omega arith))
    (plain_letter (codes "blocks=" ++ decimal l.blocks) 98 (omega arith) refl (omega arith))
    (plain_two (codes "segments=" ++ decimal l.segments) (codes "log=" ++ decimal l.log) []
    (plain_letter (codes "segments=" ++ decimal l.segments) 115 (omega arith) refl (omega arith))
    (plain_letter (codes "log=" ++ decimal l.log) 108 (omega arith) refl (omega arith)) (All-nil IsPlain))

-- each word of a request is plain
pub plain_of : (words : List (String Global)) (request : Request) → AskFor words request → All IsPlain (texts words)
plain_of words (Format l) asked =
    subst (All IsPlain) (sym asked.spelled) (plain_two asked.file (codes "format") (layout_words l) asked.named
    (plain_letter (codes "format") 102 (omega arith) refl (omega arith)) (layout_plain l))
plain_of words (Run frames) asked =
    subst (All IsPlain) (sym asked.spelled) (plain_two asked.file (codes "run") (frames_words frames) asked.named
    (plain_letter (codes "run") 114 (omega arith) refl (omega arith))
    (plain_one (codes "frames=" ++ decimal frames) (plain_letter (codes "frames=" ++ decimal frames) 102 (omega arith) refl (omega arith))))
plain_of words (Gen commands) asked =
    subst (All IsPlain) (sym asked.spelled) (plain_two asked.file (codes "gen") (decimal commands ∷ []) asked.named
    (plain_letter (codes "gen") 103 (omega arith) refl (omega arith)) (plain_one (decimal commands) (plain_decimal commands (omega (arith, asked.few)))))

-- ---- what the parts are asked for

pub each_plain : (words : List (String Global)) → All IsPlain (texts words) → ArePlain words
each_plain [] plain = All-nil (λ (word : String Global). IsPlain (string_bytes word))
each_plain (word ∷ rest) plain =
    All-cons (λ (w : String Global). IsPlain (string_bytes w)) word rest (All-head IsPlain (string_bytes word) (texts rest) plain)
    (each_plain rest (All-tail IsPlain (string_bytes word) (texts rest) plain))

pub plain_texts : (words : List (String Global)) → ArePlain words → All IsPlain (texts words)
plain_texts words plain = All-map IsPlain (λ (word : String Global). string_bytes word) words plain

named_first : (words : List (String Global)) (file : List ℕ) (behind : List (List ℕ)) → ArePlain words → texts words ≡ file ∷ behind → IsPlain file
named_first words file behind plain joined = All-head IsPlain file behind (subst (All IsPlain) joined (plain_texts words plain))

pub asked_if_found : (words : List (String Global)) (file : List ℕ) (behind : List (List ℕ)) (o : Option Request) → ArePlain words → texts words ≡ file ∷ behind
    → IfSome o (λ request. SpellRequest behind request) → IfSome o (λ request. AskFor words request)
asked_if_found words file behind None plain joined found = tt
asked_if_found words file behind (Some request) plain joined found = asked_of words file behind request joined (named_first words file behind plain joined) found

pub none_asked : (words : List (String Global)) (file : List ℕ) (behind : List (List ℕ)) (o : Option Request) → texts words ≡ file ∷ behind
    → IfNone o ((request : Request) → SpellRequest behind request → ⊥) → IfNone o ((request : Request) → AskFor words request → ⊥)
none_asked words file behind None joined none = λ request asked. none request (spelled_of words file behind request joined asked)
none_asked words file behind (Some found) joined none = tt
