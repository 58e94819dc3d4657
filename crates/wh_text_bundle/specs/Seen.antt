-- The headings above a place, as two sets of their texts.
use Rattle.std.specs.Prelude.{◌≡◌, ℕ, Bool, List, Some, option_map}
use Rattle.std.specs.Ordering.{nat_cmp}
use Rattle.std.specs.List.{list_any}
use Rattle.std.specs.Cmp.Lexicographic.{slice_cmp}
use Rattle.std.specs.Borrow.{Bor}
use Rattle.std.specs.BTreeSet.{BTreeSet, contains_by}
use Rattle.wh_text_bundle.specs.Cut.{RawPart}
use Rattle.wh_text_bundle.specs.Heading.{heading_of, scope_of}
use Rattle.wh_text_bundle.specs.Bundle.{tonight, is_headed}
use Rattle.wh_text_bundle.specs.declared.bundle.heading.Scope.TheVariants as scope
use Rattle.wh_text_bundle.specs.declared.bundle.seen.Seen.{Seen}

-- the set has this text
abbrev pub has_text : BTreeSet (Bor (List ℕ)) → List ℕ → Bool
has_text set text = contains_by (λ k. slice_cmp nat_cmp text k.now) set

-- the sets tell which headings stand above, in the bundle and in the night
pub record Recalls (seen : Seen) (above : List RawPart) : Type 0 where
  pub bundle : (text : List ℕ) → option_map scope_of (heading_of text) ≡ Some scope.Bundle → has_text seen.bundle text ≡ list_any (is_headed text) above
  pub night : (text : List ℕ) → option_map scope_of (heading_of text) ≡ Some scope.Night → has_text seen.night text ≡ list_any (is_headed text) (tonight above)
