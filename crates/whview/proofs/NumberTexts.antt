-- The text of an option that is a number is a numeral of it.
use Rattle.std.proofs.Common.{◌≡◌, ◌≤◌, ◌∙◌, ℕ, Bool, false, true, pos, arith, refl, sym, subst, Some}
use Rattle.std.specs.Str.Parse.{IsNumeral, starts_with_minus, without_leading_plus}
use Rattle.std.proofs.lemmas.Int.{ints}
use Rattle.clap.specs.Words.{Accepts, Text, first_of, first_value, rows_of}
use Rattle.clap.specs.declared.builder.value_parser.ValueParser.TheVariants as parser
use Rattle.clap.specs.declared.parser.matches.Found.{Found}
use Rattle.clap.proofs.WalkLemmas.{first_value-rows}
use Rattle.whview.specs.CommandLine.{Amount, Number, Takes, number_of}
use Rattle.whview.specs.Inner.CommandLine.{Fits}

-- a numeral of a number within these bounds, with or without a plus
pub record IsNumberText (least limit : ℕ) (text : Text) : Type 0 where
  pub numeral : IsNumeral 10 (without_leading_plus text)
  pub no_less : least ≤ number_of text
  pub most : number_of text ≤ limit

pub number_text : (low limit : ℕ) (text : Text) → 1 ≤ low → Accepts false (parser.Signed (pos low) (pos limit)) text → IsNumberText low limit text
number_text low limit text some accepted = go (starts_with_minus text) refl
  where
    go : (b : Bool) → starts_with_minus text ≡ b → IsNumberText low limit text
    go true minus =
        let least = rw minus at accepted.2 in
        absurd (omega (arith, ints, some))
    go false minus =
        let numeral = rw minus at accepted.0 in
        let least = rw minus at accepted.2 in
        let most = rw minus at accepted.3 in
        record { numeral = numeral; no_less = omega (arith, ints); most = omega (arith, ints) }

-- the text that was found of an option fits it
found_fits : (found : Found) (name : Text) (takes : Takes) (text : Text) → Fits takes (first_of name (rows_of found)) → Some text ≡ first_value found name → Fits takes (Some text)
found_fits found name takes text fits is = subst (Fits takes) (sym (is ∙ first_value-rows found name)) fits

pub found_number : (limit default : ℕ) (found : Found) (name text : Text) → Fits (Amount 1 limit default) (first_of name (rows_of found))
    → Some text ≡ first_value found name → IsNumberText 1 limit text
found_number limit default found name text fits is = number_text 1 limit text (omega arith) (found_fits found name (Amount 1 limit default) text fits is)

-- the text that was found of an option that takes numbers within these bounds
pub found_within : (low high default : ℕ) (found : Found) (name text : Text) → Fits (Number low high default) (first_of name (rows_of found))
    → Some text ≡ first_value found name → Accepts false (parser.Unsigned low high) text
found_within low high default found name text fits is = found_fits found name (Number low high default) text fits is
