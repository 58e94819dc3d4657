use Rattle.std.proofs.Common.{◌≡◌, ◌⊎◌, inl, inr, refl, subst, sym, [], ◌∷◌}
use Rattle.clap.specs.Words.{Kinds}
use Rattle.clap.specs.declared.error.kind.ErrorKind.TheVariants.{InvalidValue}
use Rattle.whview.specs.CommandFault.{FailsAs, status_of, status_of_kind}
use Rattle.whview.specs.declared.command_line.fault.CommandFault.{CommandFault}
use Rattle.whview.specs.declared.command_line.fault.CommandFault.TheVariants as fault
use Rattle.whview.proofs.command_line.taken.Goals as goal

fails_at_word : (f : CommandFault) → (f ≡ fault.Memory) ⊎ (status_of f ≡ status_of_kind InvalidValue) → FailsAs (InvalidValue ∷ []) f
fails_at_word f (inl memory) = inl memory
fails_at_word f (inr status) = inr (InvalidValue, inl refl, status)

pub returns-in-Some-clause-fails : goal.returns-in-Some-clause-fails
returns-in-Some-clause-fails c =
    subst (λ (kinds : Kinds). FailsAs kinds c.unprintable-in-Some.result) (sym c.in-Some.ensures) (fails_at_word c.unprintable-in-Some.result c.unprintable-in-Some.ensures)
