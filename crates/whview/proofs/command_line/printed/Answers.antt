use Rattle.std.proofs.Common.{◌∙◌, ap, codes}
use Rattle.clap.specs.Words.{found_of}
use Rattle.clap.proofs.WalkLemmas.{first_value-rows}
use Rattle.whview.specs.CommandLine.{Print, worth}
use Rattle.whview.proofs.command_line.printed.Goals as goal

pub returns-in-Some : goal.returns-in-Some
returns-in-Some c = c.printed_of.ensures ∙ ap (worth Print) (c.in-Some.ensures ∙ first_value-rows (found_of c.args.options.now) (codes "print"))

pub returns-in-None : goal.returns-in-None
returns-in-None c = ap (worth Print) (c.in-None.ensures ∙ first_value-rows (found_of c.args.options.now) (codes "print"))
