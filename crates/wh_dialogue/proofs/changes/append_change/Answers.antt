use Rattle.std.proofs.Common.{rules, ◌≡◌, refl, sym, ap, ◌∙◌, ◌++◌, ◌∷◌, [], false}
use Rattle.std.specs.Prelude.{codes, is_none}
use Rattle.wh_core.specs.Changes.{change_written}
use Rattle.wh_core.specs.Nights.{versions}
use Rattle.wh_dag.specs.Written.{name_of}
use Rattle.wh_stay.specs.Standing.{standing_of}
use Rattle.wh_text_catalogue.specs.Definitions.{shown_view}
use Rattle.wh_text_tables.specs.TableWritten.{table_text}
use Rattle.wh_dialogue.proofs.ChangeTexts.{derived_text, joined_text}
use Rattle.wh_dialogue.proofs.changes.append_change.Goals as goal

pub returns : goal.returns
returns g c = λ s log is h.
    let w = standing_of c.args.live.now in
    let view = shown_view c.args.own.now in
    let change = change_written (versions s log) c.args.view in
    let derived : is_none view.definition ≡ false = search rules in
    let out = c.args.out.now.items in
    let name = c.as_bytes.ensures.value ∙ c.name_of.ensures ∙ ap (λ names. name_of names c.args.view) c.names.ensures in
    let heading = c.in_ok-push.ensures.items ∙ ap (λ z. z ++ 10 ∷ []) (c.in_ok-extend_from_slice-2.ensures.items ∙ (λ i. c.in_ok-extend_from_slice.ensures.items i ++ name i)) in
    c.in_ok-append_table.ensures
    ∙ (λ i. heading i ++ table_text (c.deref.ensures.value i) (c.texts.ensures i) (c.in_ok-change.ensures s log is h i))
    ∙ joined_text out (codes "changes ") (name_of w.names c.args.view) (10 ∷ []) (table_text view.columns w.texts change)
    ∙ ap (λ z. out ++ z) (sym (derived_text w c.args.view view change derived))
