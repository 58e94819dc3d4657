use Rattle.std.proofs.Common.{subst, get_or, List, ℕ, All, IsUtf8, string_bytes}
use Rattle.std.specs.List.{IsDistinct}
use Rattle.std.specs.Str.{bytes_eq}
use Rattle.std.proofs.lemmas.List.Elements.{All-map}
use Rattle.std.proofs.lemmas.Str.{IsUtf8-string_bytes}
use Rattle.wh_text.proofs.DictTexts.{IsDistinct-texts}
use Rattle.wh_text.proofs.dict.Dict.texts_are_numbered.Goals as goal

pub returns-clause-distinct : goal.returns-clause-distinct
returns-clause-distinct c = subst (IsDistinct bytes_eq) c.self.view_is (IsDistinct-texts c.self.inside.texts.keys c.len.ensures.unique)

pub returns-clause-utf8 : goal.returns-clause-utf8
returns-clause-utf8 c =
    subst (λ (texts : List (List ℕ)). All IsUtf8 texts) c.self.view_is (All-map IsUtf8 string_bytes c.self.inside.texts.keys (λ k d below. IsUtf8-string_bytes (get_or c.self.inside.texts.keys k d)))
