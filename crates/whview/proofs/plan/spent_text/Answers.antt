use Rattle.std.proofs.Common.{◌≡◌, ◌++◌, ◌∙◌, ℕ, List, ap, codes, decimal, sym}
use Rattle.std.proofs.lemmas.List.{append_assoc}
use Rattle.whview.proofs.plan.spent_text.Goals as goal

-- pieces one after another, in whatever order they are put together
pieces : (a b c d end : List ℕ) → a ++ b ++ c ++ d ++ end ≡ a ++ (b ++ (c ++ (d ++ end)))
pieces a b c d end = append_assoc (a ++ b ++ c) d end ∙ append_assoc (a ++ b) c (d ++ end) ∙ append_assoc a b (c ++ (d ++ end))

pub returns : goal.returns
returns c =
    ap (λ v. v.items) c.into_bytes.ensures.value
    ∙ c.in_ok-text.ensures.ok
    ∙ sym (pieces (codes "budget opened ") (decimal c.args.opened) (codes " best ") (decimal c.args.best) (codes "\n"))
