use Rattle.std.proofs.Common.{◌≡◌, ◌++◌, ◌∷◌, take, flat_map}
use Rattle.wh_dag.specs.Written.{name_of}
use Rattle.wh_text_lines.proofs.expression.append_sources.Given as goal

abbrev pub invariant-loop-view : goal.invariant-loop-view
invariant-loop-view l = l.out.items ≡ l.initial.out.items ++ flat_map (λ view. 32 ∷ name_of l.names view) (take l.view-index l.sources)
