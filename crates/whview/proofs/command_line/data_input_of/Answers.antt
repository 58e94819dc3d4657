use Rattle.std.proofs.Common.{◌∙◌, ap, codes}
use Rattle.clap.specs.Words.{found_of}
use Rattle.clap.proofs.WalkLemmas.{first_value-rows}
use Rattle.whview.specs.CommandLine.{OfFile}
use Rattle.whview.proofs.command_line.data_input_of.Goals as goal

pub returns-clause-file : goal.returns-clause-file
returns-clause-file c = ap OfFile (c.get_str.ensures ∙ first_value-rows (found_of c.args.options.now) (codes "input"))
