use Rattle.std.proofs.Common.{string_bytes, sym, ◌∙◌, ap, is_some}
use Rattle.std.proofs.lemmas.Map.Text.{hash_map_updates_text}
use Rattle.indexmap.specs.IndexMap.{get_by_text}
use Rattle.wh_text.proofs.Named.{found_noted}
use Rattle.wh_text.proofs.names.note.Goals as goal

pub returns : goal.returns
returns c = λ word.
    let new = ap (λ name. is_some (get_by_text c.args.numbers.now name)) (sym c.as_str.ensures.value) ∙ sym c.contains_key.ensures ∙ c.if-contains_key.false in
    hash_map_updates_text (string_bytes c.args.name) c.args.numbers.now c.insert.new.self _ c.in_ok-insert.ensures.updates word
    ∙ found_noted (get_by_text c.args.numbers.now) (string_bytes c.args.name) word c.args.view new
