use Rattle.wh_prune.proofs.explore.Search.+explore.Given as goal

abbrev pub decreases-explore : goal.decreases-explore
decreases-explore l = l.left
