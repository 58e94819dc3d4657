use Rattle.wh_cert.proofs.tree.+after_tree.Given as goal

-- proposed from what the function passes where it calls itself
abbrev pub decreases-after_tree : goal.decreases-after_tree
decreases-after_tree l = l.deep
