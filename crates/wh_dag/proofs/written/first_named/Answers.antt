use Rattle.std.proofs.Common.{rules, tests, ◌≡◌, sym, ◌∙◌}
use Rattle.std.specs.Prelude.{position, string_bytes}
use Rattle.std.specs.Str.{bytes_eq}
use Rattle.std.proofs.lemmas.Iterator.{YieldsList-from_slice}
use Rattle.std.proofs.lemmas.Iterator.Search.{position_from_yields_List}
use Rattle.wh_dag.proofs.Texts.{position-map}
use Rattle.wh_dag.proofs.written.first_named.Goals as goal

pub returns : goal.returns
returns c =
    let found : c.position.result ≡ position (λ n. bytes_eq (string_bytes n) c.args.name.now) c.args.names.now =
    position_from_yields_List (λ n. bytes_eq (string_bytes n) c.args.name.now) _ _ c.position.result c.position.ensures.ran (YieldsList-from_slice _ c.iter.ensures.rest) (λ x b q k. search (rules, tests)) in
    found ∙ sym (position-map (λ n. bytes_eq n c.args.name.now) string_bytes c.args.names.now)
