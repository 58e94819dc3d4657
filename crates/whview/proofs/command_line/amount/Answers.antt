use Rattle.std.proofs.Common.{◌∙◌, arith, ap}
use Rattle.clap.specs.Words.{found_of}
use Rattle.clap.proofs.WalkLemmas.{first_value-rows}
use Rattle.whview.specs.CommandLine.{Amount, OfNumber, worth}
use Rattle.whview.proofs.NumberTexts.{found_number}
use Rattle.whview.proofs.command_line.amount.Goals as goal

pub unreachable-requires : goal.unreachable-requires
unreachable-requires c =
    let is = found_number c.args.most c.args.default (found_of c.args.options.now) c.args.name.now c.in-Some.text.now c.requires.taken c.in-Some.ensures in
    c.in-Err.ensures.value.0 (is.numeral, omega (arith, is.most))

pub returns-in-Ok-clause-value : goal.returns-in-Ok-clause-value
returns-in-Ok-clause-value c =
    ap OfNumber c.in-Ok.ensures.value.0.1
    ∙ ap (worth (Amount 1 c.args.most c.args.default)) (c.in-Some.ensures ∙ first_value-rows (found_of c.args.options.now) c.args.name.now)

pub returns-in-Ok-clause-least : goal.returns-in-Ok-clause-least
returns-in-Ok-clause-least c =
    let is = found_number c.args.most c.args.default (found_of c.args.options.now) c.args.name.now c.in-Some.text.now c.requires.taken c.in-Some.ensures in
    omega (arith, is.no_less, c.in-Ok.ensures.value.0.1)

pub returns-in-Ok-clause-most : goal.returns-in-Ok-clause-most
returns-in-Ok-clause-most c =
    let is = found_number c.args.most c.args.default (found_of c.args.options.now) c.args.name.now c.in-Some.text.now c.requires.taken c.in-Some.ensures in
    omega (arith, is.most, c.in-Ok.ensures.value.0.1)

pub returns-in-None-clause-value : goal.returns-in-None-clause-value
returns-in-None-clause-value c =
    ap (worth (Amount 1 c.args.most c.args.default)) (c.in-None.ensures ∙ first_value-rows (found_of c.args.options.now) c.args.name.now)
