use Rattle.std.proofs.Common.{◌≡◌, ◌∙◌, Ok, Err, ap, inl, inr, sym, true, false, not}
use Rattle.wh_text_catalogue.proofs.FreshNames.{among, fresh-added, fresh-refused, shown}
use Rattle.wh_text_catalogue.proofs.definitions.column_names.fresh_name.Goals as goal

pub returns-then-branch-clause-ok : goal.returns-then-branch-clause-ok
returns-then-branch-clause-ok c =
    let keys = c.args.seen.now.keys in
    let added : not (among keys c.args.name) ≡ true = sym c.in_ok-insert.ensures.added ∙ c.if-branch.true in
    fresh-added keys c.args.name added ∙ ap (λ k. Ok (shown k)) (sym c.in_ok-insert.ensures.keys)

pub returns-else-branch-clause-err : goal.returns-else-branch-clause-err
returns-else-branch-clause-err c =
    let keys = c.args.seen.now.keys in
    let added : not (among keys c.args.name) ≡ false = sym c.in_ok-insert.ensures.added ∙ c.if-branch.false in
    elim c.column_fault.ensures [
      | inl memory ↦ inl memory
      | inr column ↦ inr (fresh-refused keys c.args.name added ∙ ap Err (sym column))
    ]
