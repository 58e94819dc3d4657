-- What is taken of words, said by the table alone.
use Rattle.std.specs.Prelude.{◌≡◌, ◌⊎◌, ◌≤◌, ◌==◌, ◌++◌, ℕ, Bool, false, List, [], ◌∷◌, Option, Some, IsSome, IsSomeAnd, codes, find, is_some, option_map}
use Rattle.std.specs.List.{AllByRecursion}
use Rattle.std.specs.Str.{bytes_eq}
use Rattle.std.specs.Str.Parse.{IsNumeral, without_leading_plus}
use Rattle.clap.specs.Words.{Text, first_of, subcommand_of}
use Rattle.whview.specs.CommandLine.{Amount, File, Number, OfFile, OfNumber, OfPrint, Print, Takes, Worth, number_of, options_of, table, whview_app, words_fault, worth}

-- an option that takes this may be worth this: a number within its bounds, where it takes a number
abbrev pub MayBeWorth : Takes → Worth → Type 0
MayBeWorth (Number least most default) (OfNumber n) = (least ≤ n) × (n ≤ most)
MayBeWorth (Amount least most default) (OfNumber n) = (least ≤ n) × (n ≤ most)
MayBeWorth Print (OfPrint what) = Unit {0}
MayBeWorth File (OfFile path) = Unit {0}
MayBeWorth takes other = ⊥

-- Words with which nothing is wrong name a command of the table, and each of its options is worth what the table lets it be. That is a
-- number within the bounds, which is the default where the option is left out.
abbrev pub TakenWordsAreOfTheTable : Type 0
TakenWordsAreOfTheTable = (words : List Text) → words_fault words ≡ [] → IsSomeAnd (subcommand_of whview_app words)
    (λ found. IsSome (find (λ c. bytes_eq c.0 found.0) table) × AllByRecursion (λ o. MayBeWorth o.1 (worth o.1 (first_of o.0 found.1))) (options_of found.0))

-- ---- the words of the table

-- the text is a numeral of a number within these bounds, with or without a plus
abbrev pub IsWithin : ℕ → ℕ → Text → Type 0
IsWithin least most text = IsNumeral 10 (without_leading_plus text) × (least ≤ number_of text) × (number_of text ≤ most)

-- an option that takes this may be given this text
abbrev pub MayBeGiven : Takes → Text → Type 0
MayBeGiven (Number least most default) text = IsWithin least most text
MayBeGiven (Amount least most default) text = IsWithin least most text
MayBeGiven Print text = (text ≡ codes "tables") ⊎ (text ≡ codes "changes")
MayBeGiven File text = Unit {0}

-- the text's first letter is a hyphen
abbrev pub begins_with_hyphen : Text → Bool
begins_with_hyphen [] = false
begins_with_hyphen (x ∷ xs) = x == 45

-- the words that give an option a text: one, `--NAME=TEXT`; or two, `--NAME` and the text, where that does not begin with a hyphen
pub data AreWordsOf (name text : Text) : List Text → Type 0 where
  in_one : AreWordsOf name text ((codes "--" ++ (name ++ (codes "=" ++ text))) ∷ [])
  in_two : begins_with_hyphen text ≡ false → AreWordsOf name text ((codes "--" ++ name) ∷ text ∷ [])

-- the text that an option of this name is given, none where it is left out
abbrev pub given_to : Text → List (Text × Text) → Option Text
given_to name given = option_map (λ g. g.1) (find (λ g. bytes_eq g.0 name) given)

-- what an option of this name takes
abbrev pub taken_by : Text → List (Text × Takes) → Option Takes
taken_by name options = option_map (λ o. o.1) (find (λ o. bytes_eq o.0 name) options)

-- the words give some of these options their texts, each option once at most, in any order
pub data Give (options : List (Text × Takes)) : List (Text × Text) → List Text → Type 0 where
  nothing : Give options [] []
  one_more : (given : List (Text × Text)) (before words : List Text) (name text : Text) (takes : Takes) → Give options given before
      → taken_by name options ≡ Some takes → is_some (given_to name given) ≡ false → MayBeGiven takes text → AreWordsOf name text words
      → Give options (given ++ (name, text) ∷ []) (before ++ words)

-- All words of the table are taken. With a command of the table and words that give some of its options what they may be given, nothing is
-- wrong. That command is found, with these texts of its options and no other.
abbrev pub WordsOfTheTableAreTaken : Type 0
WordsOfTheTableAreTaken =
    (name : Text) (given : List (Text × Text)) (words : List Text) → IsSome (find (λ c. bytes_eq c.0 name) table) → Give (options_of name) given words
    → (words_fault (name ∷ words) ≡ []) × IsSomeAnd (subcommand_of whview_app (name ∷ words))
    (λ found. (found.0 ≡ name) × AllByRecursion (λ o. first_of o.0 found.1 ≡ given_to o.0 given) (options_of name))
