use Rattle.std.proofs.Common.{◌≡◌, ◌<◌, ◌∷◌, [], ◌++◌, length, string_bytes, sym, ap, ◌∙◌, arith}
use Rattle.std.proofs.lemmas.List.{length-take-le, map-append}
use Rattle.indexmap.specs.IndexMap.{get_by_text}
use Rattle.wh_dag.specs.Written.{texts, name_of, number_of}
use Rattle.wh_text.proofs.Named.{texts-push, IsIndex-push}
use Rattle.wh_text.proofs.names.Names.of.Goals as goal

pub loop-view-preserved : goal.loop-view-preserved
loop-view-preserved c =
    let all = c.args.shape.now.names in
    let view = c.loop-view.view in
    let names = c.loop-view.names.items in
    let name = c.in_ok-from_str.field-0 in
    let within : view < length all = omega (arith, c.len-view-end.ensures.named, c.len-view-end.ensures.len) in
    let own : string_bytes name ≡ name_of all view = c.in_ok-from_str.ensures.ok ∙ c.name-name.ensures in
    let again : string_bytes c.in_ok-from_str-2.field-0 ≡ string_bytes name = c.in_ok-from_str-2.ensures.ok ∙ sym c.in_ok-from_str.ensures.ok in
    let long : length (texts names) ≡ view = ap length c.loop-view.invariant.0 ∙ length-take-le view all (omega (arith, within)) in
    let pushed = c.in_ok-push.ensures.items in
    let noted = IsIndex-push (get_by_text c.loop-view.numbers) (get_by_text c.note.new.numbers) (texts names) (string_bytes c.in_ok-from_str-2.field-0) view c.loop-view.invariant.1 c.in_ok-note.ensures long in (
      ap texts pushed ∙ texts-push names name all view c.loop-view.invariant.0 within own,
      λ word. noted word ∙ ap (λ n. number_of (texts names ++ n ∷ []) word) again
          ∙ ap (λ ns. number_of ns word) (sym (ap texts pushed ∙ map-append string_bytes names (name ∷ []))),
    )
