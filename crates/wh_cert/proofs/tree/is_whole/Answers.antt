use Rattle.std.proofs.Common.{length, sym, ◌∙◌}
use Rattle.std.proofs.lemmas.Bool.{false≢true, eqb-true, eq-eqb}
use Rattle.wh_cert.specs.Tree.{tree_of}
use Rattle.wh_cert.proofs.Preorders.{whole_is, nothing_after, is_first}
use Rattle.wh_cert.proofs.tree.is_whole.Goals as goal

pub returns-in-Some : goal.returns-in-Some
returns-in-Some c =
    let nodes = c.args.nodes.now in
    let rest = c.in-Some.rest.now in (
      λ t. whole_is nodes rest c.in-Some.ensures (eqb-true (length rest) 0 (sym c.is_empty.ensures ∙ t)),
      λ h. c.is_empty.ensures ∙ eq-eqb (length rest) 0 (nothing_after nodes rest c.in-Some.ensures h),
    )

pub returns-in-None : goal.returns-in-None
returns-in-None c = (λ t. absurd (false≢true t), λ h. absurd (c.in-None.ensures _ (is_first c.args.nodes.now (tree_of c.args.nodes.now) h)))
