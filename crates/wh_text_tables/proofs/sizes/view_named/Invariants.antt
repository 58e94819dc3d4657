use Rattle.std.proofs.Common.{◌≡◌, drop}
use Rattle.std.specs.List.{position_from}
use Rattle.std.specs.Str.{bytes_eq}
use Rattle.wh_dag.specs.Written.{number_of}
use Rattle.wh_text_tables.proofs.sizes.view_named.Given as goal

abbrev pub invariant-loop-view : goal.invariant-loop-view
invariant-loop-view l = number_of l.shape.names l.name ≡ position_from (λ n. bytes_eq n l.name) l.view (drop l.view l.shape.names)
