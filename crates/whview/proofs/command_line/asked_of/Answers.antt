use Rattle.std.proofs.Common.{◌≡◌, ◌∙◌, ap, codes, map, refl, sym, List, [], ◌∷◌, Option, Some, None}
use Rattle.std.specs.Prelude.{option_map}
use Rattle.clap.specs.Words.{Row, Text, first_of, found_of, rows_of, subcommand_name_of, subcommand_rows_of}
use Rattle.clap.specs.declared.parser.matches.ArgMatches.{ArgMatches}
use Rattle.clap.specs.declared.parser.matches.ArgMatches.TheViews.{out-ArgMatches}
use Rattle.clap.proofs.WalkLemmas.{first_value-rows}
use Rattle.whview.specs.CommandLine.{IsAsked, OfFile, options_of, shown, worth}
use Rattle.whview.specs.declared.command_line.Asked.{Asked}
use Rattle.whview.specs.declared.command_line.Asked.TheVariants.{Certify, Check, Live, Night, Plan, Replay}
use Rattle.whview.proofs.command_line.asked_of.Goals as goal

fused : {X Y Z : Type 0} (f : Y → Z) (g : X → Y) (o : Option X) → option_map (λ x. f (g x)) o ≡ option_map f (option_map g o)
fused f g None = refl
fused f g (Some x) = refl

named : (m : ArgMatches) → subcommand_name_of m ≡ option_map (λ p. p.0) (subcommand_rows_of m)
named m = fused (λ (p : Text × List Row). p.0) _ (out-ArgMatches m).subcommand

-- the command that was found is asked for, where it is by this name and these options
asked_by : (found : Option (Text × List Row)) (name : Text) (rows : List Row) (a : Asked) → Some name ≡ option_map (λ p. p.0) found → Some rows ≡ option_map (λ p. p.1) found
    → (name ≡ (shown a).0) → (map (λ o. worth o.1 (first_of o.0 rows)) (options_of name) ≡ (shown a).1) → IsAsked found a
asked_by None name rows a same_name same_rows is worths = cc
asked_by (Some p) name rows a same_name same_rows is worths =
    let this : p.0 ≡ name = cc in
    let these : p.1 ≡ rows = cc in
    ap Some ((λ i. (this i, map (λ o. worth o.1 (first_of o.0 (these i))) (options_of (this i)))) ∙ (λ i. (is i, worths i)))

pub returns-in-Some-check-default : goal.returns-in-Some-check-default
returns-in-Some-check-default c =
    let options = c.in-Some-check-default.options.now in
    asked_by (subcommand_rows_of c.args.matches.now) (codes "check") (rows_of (found_of options)) (Check c.costs_of.result c.get_str.result)
    (ap Some (sym c.in-Some-check-default.is-check) ∙ c.in-Some-check-default.ensures.name ∙ named c.args.matches.now) c.in-Some-check-default.ensures.rows refl
    (λ i. sym c.costs_of.ensures.comp i ∷ sym c.costs_of.ensures.inst i ∷ OfFile (sym (c.get_str.ensures ∙ first_value-rows (found_of options) (codes "input")) i) ∷ [])

pub returns-in-Some-plan-default : goal.returns-in-Some-plan-default
returns-in-Some-plan-default c =
    let options = c.in-Some-plan-default.options.now in
    let costs = c.costs_of-in-Some-plan-default in
    let file = c.get_str-in-Some-plan-default in
    asked_by (subcommand_rows_of c.args.matches.now) (codes "plan") (rows_of (found_of options)) (Plan costs.result c.budget_of.result file.result)
    (ap Some (sym c.in-Some-plan-default.is-plan) ∙ c.in-Some-plan-default.ensures.name ∙ named c.args.matches.now) c.in-Some-plan-default.ensures.rows refl
    (λ i. sym costs.ensures.comp i ∷ sym costs.ensures.inst i ∷ OfFile (sym (file.ensures ∙ first_value-rows (found_of options) (codes "input")) i) ∷ sym c.budget_of.ensures i ∷ [])

pub returns-in-Some-certify-default : goal.returns-in-Some-certify-default
returns-in-Some-certify-default c =
    let options = c.in-Some-certify-default.options.now in
    let costs = c.costs_of-in-Some-certify-default in
    let file = c.get_str-in-Some-certify-default in
    asked_by (subcommand_rows_of c.args.matches.now) (codes "certify") (rows_of (found_of options)) (Certify costs.result file.result)
    (ap Some (sym c.in-Some-certify-default.is-certify) ∙ c.in-Some-certify-default.ensures.name ∙ named c.args.matches.now) c.in-Some-certify-default.ensures.rows refl
    (λ i. sym costs.ensures.comp i ∷ sym costs.ensures.inst i ∷ OfFile (sym (file.ensures ∙ first_value-rows (found_of options) (codes "input")) i) ∷ [])

pub returns-in-Some-night-default : goal.returns-in-Some-night-default
returns-in-Some-night-default c =
    let options = c.in-Some-night-default.options.now in
    let input = c.data_input_of.ensures in
    let how = c.night_options_of.ensures in
    asked_by (subcommand_rows_of c.args.matches.now) (codes "night") (rows_of (found_of options)) (Night c.night_options_of.result c.data_input_of.result)
    (ap Some (sym c.in-Some-night-default.is-night) ∙ c.in-Some-night-default.ensures.name ∙ named c.args.matches.now) c.in-Some-night-default.ensures.rows refl
    (λ i. sym how.workers i ∷ sym how.readers i ∷ sym how.page_keys i ∷ sym how.print i ∷ sym input.file i ∷ sym input.limit i ∷ [])

pub returns-in-Some-replay-default : goal.returns-in-Some-replay-default
returns-in-Some-replay-default c =
    let options = c.in-Some-replay-default.options.now in
    let input = c.data_input_of-in-Some-replay-default in
    asked_by (subcommand_rows_of c.args.matches.now) (codes "replay") (rows_of (found_of options)) (Replay input.result)
    (ap Some (sym c.in-Some-replay-default.is-replay) ∙ c.in-Some-replay-default.ensures.name ∙ named c.args.matches.now) c.in-Some-replay-default.ensures.rows refl
    (λ i. sym input.ensures.file i ∷ sym input.ensures.limit i ∷ [])

pub returns-in-Some-live-default : goal.returns-in-Some-live-default
returns-in-Some-live-default c =
    let options = c.in-Some-live-default.options.now in
    let input = c.data_input_of-in-Some-live-default in
    let how = c.live_options_of.ensures in
    asked_by (subcommand_rows_of c.args.matches.now) (codes "live") (rows_of (found_of options)) (Live c.live_options_of.result input.result)
    (ap Some (sym c.in-Some-live-default.is-live) ∙ c.in-Some-live-default.ensures.name ∙ named c.args.matches.now) c.in-Some-live-default.ensures.rows refl
    (λ i. sym how.workers i ∷ sym how.desks i ∷ sym how.versions i ∷ sym how.page_keys i ∷ sym input.ensures.file i ∷ sym input.ensures.limit i ∷ [])
