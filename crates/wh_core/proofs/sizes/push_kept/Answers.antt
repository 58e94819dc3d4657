use Rattle.std.proofs.Common.{rules, ◌≡◌, ◌∙◌, sym, ap, ◌-◌, ◌++◌, ◌∷◌, [], true, false, append-nil, arith}
use Rattle.std.specs.Prelude.{is_some}
use Rattle.wh_store.specs.Windows.{unexpired}
use Rattle.wh_core.proofs.TableSizes.{is_expired, is_kept, is_none}
use Rattle.wh_core.proofs.sizes.push_kept.Goals.{else-back-current-via-then-back-current+else-unexpired, else-back-current-via-else-back-current}
use Rattle.wh_core.proofs.sizes.push_kept.Goals as goal

pub returns-in_ok-push : goal.returns-in_ok-push
returns-in_ok-push c =
    let w = c.args.store.now in
    let begun = c.args.versions.now.items in
    let number : c.number-current.result ≡ w.number = c.number-current.ensures in
    let kept : unexpired w (c.number-current.result - c.args.back) ≡ true = search rules in
    c.in_ok-push.ensures.items
    ∙ (λ i. begun ++ (number i - c.args.back) ∷ [])
    ∙ ap (λ more. begun ++ more) (sym (is_kept w.limit w.number (is_some w.draft) c.args.back (omega (arith, number, c.if-back-current.true)) (ap (λ k. unexpired w (k - c.args.back)) (sym number) ∙ kept)))

pub returns-else-back-current : goal.returns-else-back-current
returns-else-back-current c =
    let w = c.args.store.now in
    let begun = c.args.versions.now.items in
    let number : c.number-current.result ≡ w.number = c.number-current.ensures in
    elim c.else-back-current.branch [
      | else-back-current-via-then-back-current+else-unexpired v ↦
          (let other : unexpired w (c.number-current.result - c.args.back) ≡ false = search rules in
          sym (ap (λ more. begun ++ more) (is_expired w.limit w.number (is_some w.draft) c.args.back (omega (arith, number, v.if-back-current.true)) (ap (λ k. unexpired w (k - c.args.back)) (sym number) ∙ other)) ∙ append-nil begun))
      | else-back-current-via-else-back-current v ↦
          sym (ap (λ more. begun ++ more) (is_none w.limit w.number (is_some w.draft) c.args.back (omega (arith, number, v.if-back-current.false))) ∙ append-nil begun)
    ]
