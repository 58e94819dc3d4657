use Rattle.std.proofs.Common.{◌++◌, ◌∷◌, [], ℕ, map, sym, ap, ◌∙◌}
use Rattle.std.specs.List.{range_with_len}
use Rattle.wh_dag.specs.declared.siblings.SiblingPair.{SiblingPair}
use Rattle.wh_strategy.specs.Sizes.{sizes_of}
use Rattle.wh_cert.specs.Inner.Followed.{lines_among}
use Rattle.wh_cert.proofs.Following.{then_more, then_same, among_one, among_other}
use Rattle.wh_cert.proofs.lines.follow_with.Goals as goal
use Rattle.wh_cert.proofs.lines.follow_with.Goals.{then-is_of, else-is_of}

pub loop-higher-preserved : goal.loop-higher-preserved
loop-higher-preserved c =
    let shape = c.args.children.now in
    let sizes = sizes_of c.args.sizes.now in
    let pair : ℕ → SiblingPair = λ higher. record { parent = c.args.parent; lower = c.args.lower; higher = higher } in
    let n : ℕ = c.loop-higher.higher in
    elim c.if-is_of.branch [
      | then-is_of w ↦
          rw w.so_far-is
          (record {
            follows = λ before f. then_more c.args.lines.now before (lines_among shape sizes (map pair (range_with_len 0 n))) (w.right_line.result ∷ []) _ w.follow-so_far.result
                (among_one shape sizes pair n (sym c.is_of.ensures ∙ w.if-is_of.true) ∙ ap (λ line. lines_among shape sizes (map pair (range_with_len 0 n)) ++ line ∷ []) (sym w.right_line.ensures))
                (w.follow-so_far.ensures (before ++ lines_among shape sizes (map pair (range_with_len 0 n))) (c.loop-higher.invariant.follows before f));
          })
      | else-is_of w ↦
          rw w.so_far-is
          (record {
            follows = λ before f. then_same c.args.lines.now before (lines_among shape sizes (map pair (range_with_len 0 n))) _ c.loop-higher.so_far
                (among_other shape sizes pair n (sym c.is_of.ensures ∙ w.if-is_of.false))
                (c.loop-higher.invariant.follows before f);
          })
    ]
