use Rattle.std.proofs.Common.{rules, tests, ◌≡◌, sym, ◌∙◌}
use Rattle.std.specs.Prelude.{string_bytes}
use Rattle.std.specs.List.{list_any}
use Rattle.std.specs.Str.{bytes_eq}
use Rattle.std.proofs.lemmas.Iterator.{YieldsList-from_slice}
use Rattle.std.proofs.lemmas.Iterator.Search.{any_from_yields_List}
use Rattle.wh_dag.proofs.Texts.{list_any-map}
use Rattle.wh_dag.proofs.written.stands_in.Goals as goal

pub returns : goal.returns
returns c =
    let found : c.any.result ≡ list_any (λ n. bytes_eq (string_bytes n) c.args.name.now) c.args.names.now =
    any_from_yields_List (λ n. bytes_eq (string_bytes n) c.args.name.now) _ _ c.any.result c.any.ensures.ran (YieldsList-from_slice _ c.iter.ensures.rest) (λ x b q k. search (rules, tests)) in
    found ∙ sym (list_any-map (λ n. bytes_eq n c.args.name.now) string_bytes c.args.names.now)
