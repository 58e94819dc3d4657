use Rattle.std.proofs.Common.{◌≡◌, ◌++◌, drop, vec_len}
use Rattle.std.specs.Prelude.{is_some, not, position}
use Rattle.std.specs.List.{filter_map, position_from}
use Rattle.wh_text_tables.proofs.sizes.covered.Given as goal

abbrev pub invariant-loop-view : goal.invariant-loop-view
invariant-loop-view l = record {
  found : filter_map (λ size. size) l.given ≡ l.rows.items ++ filter_map (λ size. size) (drop l.view l.given);
  counted : vec_len l.rows ≡ l.view;
  first : position (λ size. not (is_some size)) l.given ≡ position_from (λ size. not (is_some size)) l.view (drop l.view l.given);
}
