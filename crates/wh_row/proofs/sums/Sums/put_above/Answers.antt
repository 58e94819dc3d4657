use Rattle.std.proofs.Common.{rules, refl, ap, sym, subst, ◌∙◌, ◌++◌}
use Rattle.std.proofs.lemmas.Bool.{false≢true}
use Rattle.std.specs.Prelude.{IsTrue}
use mir.Syntax.{w128}
use Rattle.wh_pieces.specs.Place.{AreRisingRows}
use Rattle.wh_row.specs.Weigh.{Counted}
use Rattle.wh_row.specs.Bag.{HasRowsOf, written}
use Rattle.wh_row.specs.Stored.{from_counts}
use Rattle.wh_row.proofs.AboveLaws.{as_kept, joined_sum, joined_new}
use Rattle.wh_row.proofs.sums.Sums.put_above.Goals as goal

pub put_above-requires : goal.put_above-requires
put_above-requires c = c.is_below.ensures.0 (search rules)

pub returns-then-not-is_below-clause-moved : goal.returns-then-not-is_below-clause-moved
returns-then-not-is_below-clause-moved c =
    let is = as_kept w128 c.self.inside.sums c.other.inside.sums c.args.self.now c.args.other c.self.view_is c.other.view_is c.len.ensures.rising c.len-2.ensures.rising c.self.invariant c.other.invariant in
    let apart : ¬ (AreRisingRows (written c.args.self.now ++ written c.args.other)) = λ above. false≢true (subst IsTrue c.if-not-is_below.true (c.is_below.ensures.1 (subst (λ (es : Counted). AreRisingRows es) is above))) in
    (apart, refl, search rules)

pub returns-in_err-put_above-clause-memory : goal.returns-in_err-put_above-clause-memory
returns-in_err-put_above-clause-memory c =
    let rising = c.is_below.ensures.0 (search rules) in
    let new : ¬ (HasRowsOf c.args.self.now c.args.other) = joined_new w128 c.self.inside.sums c.args.self.now c.args.other c.self.view_is c.other.inside.sums c.other.view_is rising c.other.invariant c.in_err-put_above.ensures.memory in
    search (rules, new)

pub returns-clause-moved : goal.returns-clause-moved
returns-clause-moved c =
    let es = c.self.inside.sums in
    let fs = c.other.inside.sums in
    let is = as_kept w128 es fs c.args.self.now c.args.other c.self.view_is c.other.view_is c.len.ensures.rising c.len-2.ensures.rising c.self.invariant c.other.invariant in
    let rising = c.is_below.ensures.0 (search rules) in (
      subst (λ (xs : Counted). AreRisingRows xs) (sym is) rising,
      ap from_counts c.in_ok-put_above.ensures.ok
          ∙ joined_sum w128 es fs c.args.self.now c.args.other c.self.view_is c.other.view_is rising c.self.invariant c.other.invariant,
    )
