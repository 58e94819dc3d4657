-- How failed calls are counted.
use Rattle.std.specs.Prelude.{◌≡◌, ℕ, ◌+◌, Result, MatchResult}

-- the count of failed calls is one higher after a call that failed, and the same after any other
abbrev pub CountsFault : {T E : Type 0} → Result T E → ℕ → ℕ → Type 0
CountsFault result before after = MatchResult result (λ _. after ≡ before) (λ _. after ≡ before + 1)
