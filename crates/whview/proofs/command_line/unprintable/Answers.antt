use Rattle.std.proofs.Common.{◌≡◌, ◌∙◌, ap, codes, cond, sym, [], ◌∷◌, List, Option, None, Some}
use Rattle.std.specs.Prelude.{option_map}
use Rattle.std.specs.Borrow.{Bor}
use Rattle.std.specs.Option.{option_map_or}
use Rattle.clap.specs.Words.{Kinds, Row, Text, first_of, found_of, rows_of, subcommand_rows_of}
use Rattle.clap.specs.declared.error.kind.ErrorKind.TheVariants.{InvalidValue}
use Rattle.clap.proofs.WalkLemmas.{first_value-rows}
use Rattle.whview.specs.CommandLine.{is_printable, print_fault}
use Rattle.whview.proofs.command_line.unprintable.Goals as goal

-- what is wrong with a word to be printed
abbrev word_fault : Option Text → Kinds
word_fault word = cond (is_printable word) [] (InvalidValue ∷ [])

found_fault : (found : Option (Text × List Row)) (rows : List Row) → Some rows ≡ option_map (λ p. p.1) found → print_fault found ≡ word_fault (first_of (codes "print") rows)
found_fault None rows e = cc
found_fault (Some p) rows e = let same : rows ≡ p.1 = cc in ap (λ (r : List Row). word_fault (first_of (codes "print") r)) (sym same)

pub returns-in_err-word : goal.returns-in_err-word
returns-in_err-word c =
    let options = c.in_ok-options.options.now in
    found_fault (subcommand_rows_of c.args.matches.now) (rows_of (found_of options)) c.in_ok-options.ensures.rows
    ∙ ap word_fault (sym (c.in_err-word.ensures ∙ first_value-rows (found_of options) (codes "print")))
    ∙ ap (λ (r : Option (Bor Text)). option_map_or {U = Kinds} (λ x. InvalidValue ∷ []) r []) (sym c.from_residual-in_err-word.ensures)

pub returns-then-is_printable : goal.returns-then-is_printable
returns-then-is_printable c =
    let options = c.in_ok-options.options.now in
    found_fault (subcommand_rows_of c.args.matches.now) (rows_of (found_of options)) c.in_ok-options.ensures.rows
    ∙ ap word_fault (sym (c.in_ok-word.ensures ∙ first_value-rows (found_of options) (codes "print")))
    ∙ ap (λ b. cond b [] (InvalidValue ∷ [])) (sym c.is_printable.ensures ∙ c.if-is_printable.true)

pub returns-else-is_printable : goal.returns-else-is_printable
returns-else-is_printable c =
    let options = c.in_ok-options.options.now in
    found_fault (subcommand_rows_of c.args.matches.now) (rows_of (found_of options)) c.in_ok-options.ensures.rows
    ∙ ap word_fault (sym (c.in_ok-word.ensures ∙ first_value-rows (found_of options) (codes "print")))
    ∙ ap (λ b. cond b [] (InvalidValue ∷ [])) (sym c.is_printable.ensures ∙ c.if-is_printable.false)
