use Rattle.std.proofs.Common.{rules, ◌∙◌, refl, ap, string_bytes, map}
use Rattle.std.specs.Str.{bytes_eq}
use Rattle.wh_text.specs.Dict.{with_text, HasText}
use Rattle.wh_text.proofs.DictTexts.{list_any-map, position_or_len-map, position-first, map-insert_key, new_text}
use Rattle.wh_text.proofs.dict.Dict.place.Goals as goal

pub returns-in-Some-clause-place : goal.returns-in-Some-clause-place
returns-in-Some-clause-place c =
    rw (← c.self.view_is, position_or_len-map (bytes_eq c.args.text.now) string_bytes c.self.inside.texts.keys)
    (position-first (λ k. bytes_eq c.args.text.now (string_bytes k)) c.self.inside.texts.keys c.in-Some.place c.in-Some.ensures.index)

pub returns-in-Some-clause-texts : goal.returns-in-Some-clause-texts
returns-in-Some-clause-texts c =
    rw (← c.self.view_is, list_any-map (bytes_eq c.args.text.now) string_bytes c.self.inside.texts.keys, ← c.in-Some.ensures.found) refl

pub returns-clause-place : goal.returns-clause-place
returns-clause-place c =
    rw (← c.self.view_is, position_or_len-map (bytes_eq c.args.text.now) string_bytes c.self.inside.texts.keys)
    (rw c.in_ok-text.ensures.ok at c.in_ok-place.ensures.index)

pub returns-clause-texts : goal.returns-clause-texts
returns-clause-texts c =
    let texts = c.self.inside.texts.keys in
    ap (map string_bytes) c.in_ok-place.ensures.keys ∙ map-insert_key texts c.in_ok-text.text
    ∙ ap (with_text (map string_bytes texts)) c.in_ok-text.ensures.ok ∙ ap (λ t. with_text t c.args.text.now) c.self.view_is

pub returns-in_err-text-clause-memory : goal.returns-in_err-text-clause-memory
returns-in_err-text-clause-memory c =
    let new : ¬ (HasText c.args.self.now c.args.text.now) = new_text c.self.inside.texts.keys c.args.self.now c.args.text.now c.self.view_is c.in_default.ensures.found in search (rules, new)

pub returns-in_err-place-clause-memory : goal.returns-in_err-place-clause-memory
returns-in_err-place-clause-memory c =
    let new : ¬ (HasText c.args.self.now c.args.text.now) = new_text c.self.inside.texts.keys c.args.self.now c.args.text.now c.self.view_is c.in_default.ensures.found in search (rules, new)
