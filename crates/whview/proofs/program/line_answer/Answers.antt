use Rattle.std.proofs.Common.{◌≡◌, false, [], sym, ap, ◌∙◌, subst}
use Rattle.std.specs.Prelude.{map}
use Rattle.std.specs.Str.{is_utf8, IsUtf8}
use Rattle.std.proofs.lemmas.Str.{IsUtf8-from_is_utf8, is_utf8-from_IsUtf8}
use Rattle.std.proofs.lemmas.Bool.{false_from_ne_true}
use Rattle.clap.specs.Words.{subcommand_of}
use Rattle.whview.specs.Status.{status_number}
use Rattle.whview.proofs.IfOks.{if_ok, if_ok_both}
use Rattle.whview.specs.FirstLine.{first_line_of, words_in}
use Rattle.whview.specs.CommandFault.{FailsAs}
use Rattle.whview.specs.CommandLine.{IsAsked, whview_app, words_fault}
use Rattle.whview.specs.Output.{IsCommandOutput, answered, names_a_file, names_a_limit, not_text, of_words, refused}
use Rattle.whview.proofs.Outputs.{refused_as, names_file, names_limit}
use Rattle.whview.proofs.program.line_answer.Goals as goal

pub returns-in_default : goal.returns-in_default
returns-in_default g c =
    let bad : is_utf8 (first_line_of c.args.input.now) ≡ false = false_from_ne_true _ (λ y. c.in_default.ensures.cases.0 (subst IsUtf8 (sym c.first_line.ensures.line) (IsUtf8-from_is_utf8 _ y))) in
    if_ok_both c.of.result _ _ _ c.of.ensures.text c.of.ensures.status (λ a text status. not_text bad text (ap status_number status))

pub returns-then-refuses_input : goal.returns-then-refuses_input
returns-then-refuses_input g c =
    let at = c.in-Ok.ensures.cases.0 ∙ c.first_line.ensures.line in
    let utf8 = is_utf8-from_IsUtf8 _ (subst IsUtf8 c.first_line.ensures.line c.in-Ok.ensures.cases.1) in
    let same = ap (map (λ w. w.now)) c.deref.ensures.value ∙ c.in_ok-words.ensures ∙ ap words_in at in
    let named = sym c.refuses_input.ensures ∙ c.if-refuses_input.true in
    if_ok_both c.of-then-refuses_input.result _ _ _ c.of-then-refuses_input.ensures.text c.of-then-refuses_input.ensures.status
    (λ a printed ended. names_a_file utf8 (names_file (first_line_of c.args.input.now) c.deref.result.now _ same named) printed (ap status_number ended))

pub returns-then-refuses_most : goal.returns-then-refuses_most
returns-then-refuses_most g c =
    let at = c.in-Ok.ensures.cases.0 ∙ c.first_line.ensures.line in
    let utf8 = is_utf8-from_IsUtf8 _ (subst IsUtf8 c.first_line.ensures.line c.in-Ok.ensures.cases.1) in
    let same = ap (map (λ w. w.now)) c.deref.ensures.value ∙ c.in_ok-words.ensures ∙ ap words_in at in
    let again = ap (map (λ w. w.now)) (c.deref-2.ensures.value ∙ sym c.deref.ensures.value) ∙ same in
    let named = sym c.refuses_input.ensures ∙ c.if-refuses_input.false in
    let limited = sym c.refuses_most.ensures ∙ c.if-refuses_most.true in
    if_ok_both c.of-then-refuses_most.result _ _ _ c.of-then-refuses_most.ensures.text c.of-then-refuses_most.ensures.status
    (λ a printed ended. names_a_limit utf8 (names_file (first_line_of c.args.input.now) c.deref.result.now _ same named)
    (names_limit (first_line_of c.args.input.now) c.deref-2.result.now _ again limited) printed (ap status_number ended))

pub returns-in-Ok-parse : goal.returns-in-Ok-parse
returns-in-Ok-parse g c =
    let at = c.in-Ok.ensures.cases.0 ∙ c.first_line.ensures.line in
    let utf8 = is_utf8-from_IsUtf8 _ (subst IsUtf8 c.first_line.ensures.line c.in-Ok.ensures.cases.1) in
    let same = ap (map (λ w. w.now)) c.deref.ensures.value ∙ c.in_ok-words.ensures ∙ ap words_in at in
    let named = sym c.refuses_input.ensures ∙ c.if-refuses_input.false in
    let again = ap (map (λ w. w.now)) (c.deref-2.ensures.value ∙ sym c.deref.ensures.value) ∙ same in
    let limited = sym c.refuses_most.ensures ∙ c.if-refuses_most.false in
    let twice = ap (map (λ w. w.now)) (c.deref-3.ensures.value ∙ sym c.deref.ensures.value) ∙ same in
    let asked = subst (λ ws. IsAsked (subcommand_of whview_app ws) c.in-Ok-parse.asked) twice c.in-Ok-parse.ensures.asked in
    let taken = subst (λ ws. words_fault ws ≡ []) twice c.in-Ok-parse.ensures.fails in
    if_ok c.command_answer.result _ _ c.command_answer.ensures
    (λ a output. of_words utf8 (names_file (first_line_of c.args.input.now) c.deref.result.now _ same named)
    (names_limit (first_line_of c.args.input.now) c.deref-2.result.now _ again limited)
    (answered c.in-Ok-parse.asked (record { taken = taken; asked = asked })
    (subst (λ bytes. IsCommandOutput c.in-Ok-parse.asked bytes a.text (status_number a.status)) c.first_line.ensures.rest output)))

pub returns : goal.returns
returns g c =
    let at = c.in-Ok.ensures.cases.0 ∙ c.first_line.ensures.line in
    let utf8 = is_utf8-from_IsUtf8 _ (subst IsUtf8 c.first_line.ensures.line c.in-Ok.ensures.cases.1) in
    let same = ap (map (λ w. w.now)) c.deref.ensures.value ∙ c.in_ok-words.ensures ∙ ap words_in at in
    let named = sym c.refuses_input.ensures ∙ c.if-refuses_input.false in
    let again = ap (map (λ w. w.now)) (c.deref-2.ensures.value ∙ sym c.deref.ensures.value) ∙ same in
    let limited = sym c.refuses_most.ensures ∙ c.if-refuses_most.false in
    let twice = ap (map (λ w. w.now)) (c.deref-3.ensures.value ∙ sym c.deref.ensures.value) ∙ same in
    let fails = subst (λ ws. FailsAs (words_fault ws) c.in-Err.fault) twice c.in-Err.ensures.fails in
    if_ok_both c.refusal.result _ _ _ c.refusal.ensures.status c.refusal.ensures.told
    (λ a ended told. of_words utf8 (names_file (first_line_of c.args.input.now) c.deref.result.now _ same named)
    (names_limit (first_line_of c.args.input.now) c.deref-2.result.now _ again limited)
    (refused (refused_as (words_in (first_line_of c.args.input.now)) c.in-Err.fault (status_number a.status) fails told (ap status_number ended))))
