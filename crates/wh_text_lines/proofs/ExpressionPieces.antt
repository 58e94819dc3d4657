-- An expression as it is written.
use Rattle.std.proofs.Common.{◌≡◌, ℕ, List, [], ◌∷◌, ◌++◌, map, flat_map, ap, sym}
use Rattle.std.specs.Prelude.{codes}
use Rattle.std.specs.List.{join_with_byte}
use Rattle.std.proofs.lemmas.List.{append-nil, append_assoc}
use Rattle.wh_dag.specs.Written.{name_of}
use Rattle.wh_strategy.specs.declared.expression.Expression.TheVariants.{Comp}
use Rattle.wh_text_lines.specs.ExpressionText.{expression_text}

join-map : (c : ℕ) (x : List ℕ) (f : ℕ → List ℕ) (ns : List ℕ) → join_with_byte c (x ∷ map f ns) ≡ x ++ flat_map (λ n. c ∷ f n) ns
join-map c x f [] = sym (append-nil x)
join-map c x f (n ∷ ns) = ap (λ t. x ++ c ∷ t) (join-map c (f n) f ns)

-- a Comp after what was written, piece by piece
pub comp_text-pieces : (names : List (List ℕ)) (before : List ℕ) (target : ℕ) (sources : List ℕ)
    → before ++ codes "comp " ++ name_of names target ++ codes " from" ++ flat_map (λ view. 32 ∷ name_of names view) sources ≡ before ++ expression_text names (Comp target sources)
comp_text-pieces names before target sources =
    simp append_assoc (ap (λ t. before ++ (codes "comp " ++ (name_of names target ++ 32 ∷ t))) (sym (join-map 32 (codes "from") (name_of names) sources)))
