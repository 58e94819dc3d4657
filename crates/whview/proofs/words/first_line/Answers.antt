use Rattle.std.proofs.Common.{◌≡◌, ◌∙◌, ◌+◌, ◌-◌, ℕ, Bool, ap, arith, cond, drop, length, List, sym, take}
use Rattle.std.proofs.Math.ListN.{drop_of_length-le}
use Rattle.std.proofs.lemmas.Grind.{common_steps}
use Rattle.std.specs.List.{position_or_len}
use Rattle.std.specs.Str.Lines.{strip_carriage_return}
use Rattle.whview.specs.FirstLine.{is_lf}
use Rattle.whview.proofs.FirstPlaces.{any_passes, first_at, none_passes, past_all}
use Rattle.whview.proofs.words.first_line.Goals as goal

pub returns-in-Some-clause-line : goal.returns-in-Some-clause-line
returns-in-Some-clause-line c =
    let input : List ℕ = c.args.input.now in
    let first = first_at is_lf input c.in-Some.end (sym c.in-Some.ensures) in
    c.without_cr.ensures ∙ ap (λ (i : ℕ). strip_carriage_return (take i input)) (sym first.place)
    ∙ ap (λ (b : Bool). cond b (strip_carriage_return (take (position_or_len is_lf input) input)) input) (sym (any_passes is_lf input 0 first.below))

pub returns-in-Some-clause-rest : goal.returns-in-Some-clause-rest
returns-in-Some-clause-rest c =
    let input : List ℕ = c.args.input.now in
    let first = first_at is_lf input c.in-Some.end (sym c.in-Some.ensures) in
    let whole : take (length input - (c.in-Some.end + 1)) (drop (c.in-Some.end + 1) input) ≡ drop (c.in-Some.end + 1) input = grind (arith, common_steps) in
    whole ∙ ap (λ (i : ℕ). drop (i + 1) input) (sym first.place)

pub returns-in-None-clause-line : goal.returns-in-None-clause-line
returns-in-None-clause-line c =
    let input : List ℕ = c.args.input.now in
    let none = none_passes is_lf input (past_all is_lf input (sym c.in-None.ensures)) in
    ap (λ (b : Bool). cond b (strip_carriage_return (take (position_or_len is_lf input) input)) input) (sym none)

pub returns-in-None-clause-rest : goal.returns-in-None-clause-rest
returns-in-None-clause-rest c =
    let input : List ℕ = c.args.input.now in
    let past = past_all is_lf input (sym c.in-None.ensures) in
    sym (drop_of_length-le input (omega (arith, past)))
