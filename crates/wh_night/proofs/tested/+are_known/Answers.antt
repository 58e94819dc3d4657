use Rattle.std.proofs.Common.{arith, sym, ◌∙◌, get_or}
use Rattle.wh_carry.specs.Kept.{kept}
use Rattle.wh_night.proofs.Ready.{known_else, known_none, known_past, known_then}
use Rattle.wh_night.proofs.tested.+are_known.Goals as goal

pub returns-in-empty : goal.returns-in-empty
returns-in-empty t c = known_none (kept c.args.state.now) c.args.sources.now c.in-empty.len_below

pub returns-then-source-views : goal.returns-then-source-views
returns-then-source-views t c =
    known_else (kept c.args.state.now) c.args.sources.now c.in-len1-up.len_at_least (known_past c.args.state.now.known (get_or c.args.sources.now 0 0) (omega arith))

pub returns-then-not-is_known : goal.returns-then-not-is_known
returns-then-not-is_known t c =
    known_else (kept c.args.state.now) c.args.sources.now c.in-len1-up.len_at_least (sym c.is_known.ensures ∙ c.if-not-is_known.true)

pub returns-else-not-is_known : goal.returns-else-not-is_known
returns-else-not-is_known t c =
    known_then (kept c.args.state.now) c.args.sources.now c.are_known.result c.in-len1-up.len_at_least (sym c.is_known.ensures ∙ c.if-not-is_known.false) c.are_known.ensures
