-- Couples of cycles, whichever decision is the nearest.
use Rattle.std.proofs.Common.{◌≡◌, ℕ, List, not, ◌&&◌, ◌||◌, sym, ap, ◌∙◌, reverse}
use Rattle.wh_dag.specs.declared.siblings.Couple.{Couple}
use Rattle.wh_strategy.specs.declared.sizes.Size.{Size}
use Rattle.wh_cert.specs.Graph.{decides}
use Rattle.wh_minwork.specs.Draft.{completed, OpensCycle}
use Rattle.wh_minwork.proofs.Drafting.{completed_decides}
use Rattle.wh_minwork.proofs.Ordering.{cycle_moves, edge_moves}
use Rattle.wh_prune.specs.Branching.{IsOnCycle}
use Rattle.wh_prune.proofs.Deciding.{decides-reverse, open-reverse}

completed-reverse : (ordered ds : List (ℕ × ℕ)) (u w : ℕ) → decides (completed ordered (reverse ds)) u w ≡ decides (completed ordered ds) u w
completed-reverse ordered ds u w =
    completed_decides ordered (reverse ds) u w
    ∙ ap (λ z. z || (not (z || decides (reverse ds) w u) && decides ordered u w)) (decides-reverse ds u w)
    ∙ ap (λ z. decides ds u w || (not (decides ds u w || z) && decides ordered u w)) (decides-reverse ds w u)
    ∙ sym (completed_decides ordered ds u w)

opens-reverse : (shape : List (List ℕ)) (ordered ds : List (ℕ × ℕ)) (c : Couple) → OpensCycle shape ordered ds c → OpensCycle shape ordered (reverse ds) c
opens-reverse shape ordered ds c o =
    let f = o.2 in (
      o.0,
      cycle_moves shape (completed ordered ds) (completed ordered (reverse ds)) (λ u w t. completed-reverse ordered ds u w ∙ t) o.0 o.1,
      record {
        undecided = open-reverse shape ds c f.undecided;
        first = f.first;
        second = f.second;
        parent = f.parent;
        views = f.views;
        place = f.place;
        from = f.from;
        to = f.to;
        earlier = λ p x y l a b. edge_moves shape ds (reverse ds) (λ u w t. decides-reverse ds u w ∙ t) x y (f.earlier p x y l a b);
      },
    )

pub on_cycle-reverse : (shape : List (List ℕ)) (sizes : ℕ → Size) (ds : List (ℕ × ℕ)) (c : Couple) → IsOnCycle shape sizes ds c → IsOnCycle shape sizes (reverse ds) c
on_cycle-reverse shape sizes ds c h = (h.0, h.1, opens-reverse shape h.0 ds c h.2)
