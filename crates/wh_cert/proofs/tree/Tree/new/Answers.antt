use Rattle.std.proofs.Common.{sym, ◌∙◌, subst}
use Rattle.std.proofs.lemmas.Bool.{false≢true}
use Rattle.wh_cert.specs.Tree.{IsTreeOf, tree_of}
use Rattle.wh_cert.proofs.Preorders.{whole}
use Rattle.wh_cert.proofs.tree.Tree.new.Goals as goal

pub returns-else-is_whole : goal.returns-else-is_whole
returns-else-is_whole c tree h =
    false≢true (sym c.if-is_whole.false ∙ c.is_whole.ensures.1 (subst (λ nodes. IsTreeOf nodes (tree_of nodes)) (sym c.deref.ensures.value) (whole c.args.nodes.items tree h)))
