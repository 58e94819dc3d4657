-- Views that are read one after the other.
use Rattle.std.proofs.Common.{◌≡◌, ℕ, List, [], ◌∷◌, ◌++◌, Option, Result, Ok, Err, refl, append_assoc}
use Rattle.toml.specs.Data.{Data}
use Rattle.wh_text.specs.declared.fault.LoadFault.{LoadFault}
use Rattle.wh_text.specs.ValueOrFault.{◌>>=◌}
use Rattle.wh_text_catalogue.specs.Catalogue.{WrittenViews, named, view_over, written_views}

-- the views of what is left, after those found
abbrev pub after_views : WrittenViews → Result WrittenViews LoadFault → Result WrittenViews LoadFault
after_views found (Err fault) = Err fault
after_views found (Ok more) = Ok (record { names = found.names ++ more.names; over = found.over ++ more.over })

pub after_views-none_found : (rest : Result WrittenViews LoadFault) → after_views (record { names = []; over = [] }) rest ≡ rest
after_views-none_found (Err fault) = refl
after_views-none_found (Ok more) = refl

-- one more view found
abbrev pub with_view : WrittenViews → List ℕ → Option (List (List ℕ)) → WrittenViews
with_view found name over = record { names = found.names ++ name ∷ []; over = found.over ++ over ∷ [] }

-- these views after a view of this name, over these
abbrev below_view : List ℕ → Option (List (List ℕ)) → WrittenViews → Result WrittenViews LoadFault
below_view name over more = Ok (record { names = name ∷ more.names; over = over ∷ more.over })

more_found : (found : WrittenViews) (name : List ℕ) (over : Option (List (List ℕ))) (rest : Result WrittenViews LoadFault)
    → after_views found (rest >>= below_view name over) ≡ after_views (with_view found name over) rest
more_found found name over (Err fault) = refl
more_found found name over (Ok more) = rw (append_assoc, append_assoc) refl

pub after_views-more : (found : WrittenViews) (value : Data) (rest : List Data) (name : List ℕ) (over : Option (List (List ℕ)))
    → named value ≡ Ok name → view_over value ≡ Ok over → after_views found (written_views (value ∷ rest)) ≡ after_views (with_view found name over) (written_views rest)
after_views-more found value rest name over is_named is_over = rw (is_named, is_over) (more_found found name over (written_views rest))
