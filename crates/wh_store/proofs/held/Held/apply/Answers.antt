use Rattle.std.proofs.Common.{◌≡◌, sym, ap, subst, ◌∙◌, Err}
use Rattle.std.specs.Prelude.{MatchOption, IsOkUnless}
use Rattle.wh_row.specs.Stored.{plain}
use Rattle.wh_store.specs.Operations.{Operation, operation, Writes}
use Rattle.wh_store.specs.Refusals.{refusal}
use Rattle.wh_store.specs.declared.fault.StoreFault.TheVariants.{Memory}
use Rattle.wh_store.proofs.held.Held.apply.Goals as goal

pub returns-in-Put-clause-refused : goal.returns-in-Put-clause-refused
returns-in-Put-clause-refused g c =
    let P : Operation → Type 0 = λ op. MatchOption (refusal c.args.self.now op) (IsOkUnless c.put.result Memory) (λ fault. c.put.result ≡ Err fault) in
    subst P (ap (λ rows. Writes c.in-Put.view (plain rows)) c.as_slice.ensures.value ∙ ap operation (sym c.in-Put.is)) c.put.ensures.refused
