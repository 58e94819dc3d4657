use Rattle.std.proofs.Common.{◌∙◌, ap, sym, map, string_bytes, take}
use Rattle.std.proofs.lemmas.List.{take-map}
use Rattle.wh_text.proofs.dict.Dict.truncate.Goals as goal

pub returns : goal.returns
returns c =
    ap (map string_bytes) c.truncate.ensures.keys ∙ sym (take-map string_bytes c.args.len c.self.inside.texts.keys) ∙ ap (take c.args.len) c.self.view_is
