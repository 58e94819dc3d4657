-- The row that cells name, from what its steps answer.
use Rattle.std.proofs.Common.{◌≡◌, ◌⊎◌, inl, inr, sym, ap, subst, ◌∙◌, ℕ, length, List, map, Option, Some, None, Result, Ok, Err}
use Rattle.std.specs.Prelude.{slice_get, option_map, unwrap_or}
use Rattle.std.proofs.lemmas.Option.{slice_get-map}
use Rattle.wh_core.specs.Log.{Log}
use Rattle.wh_core.specs.Nights.{Setup}
use Rattle.wh_core.specs.Replies.{IsPageReply}
use Rattle.wh_core.specs.declared.reply.Reply.{Reply}
use Rattle.wh_row.specs.Bag.{Bag}
use Rattle.wh_row.specs.Row.{Row}
use Rattle.wh_text.specs.Columns.{NamedKind}
use Rattle.wh_text.specs.ValueOrFault.{◌>>=◌}
use Rattle.wh_text.specs.declared.fault.LoadFault.{LoadFault}
use Rattle.wh_text.specs.declared.fault.LoadFault.TheVariants as fault
use Rattle.wh_text_catalogue.specs.Definitions.{shown_view}
use Rattle.wh_text_catalogue.specs.FormulaKinds.{Texts}
use Rattle.wh_text_catalogue.specs.declared.definitions.views.WrittenView.{WrittenView}
use Rattle.wh_text_tables.specs.TableRead.{table_gives}
use Rattle.wh_stay.specs.Pages.{IsPageTold, cells_have_a_fault, cells_want_memory, is_replied, one_record, row_asked, row_named, row_over, sole_row}
use Rattle.wh_stay.specs.Standing.{StandingOf}

module _ (columns : List NamedKind) (texts : Texts) (cells text : List ℕ) (is : text ≡ one_record columns cells) where
  pub named : (read : Bag × List (List ℕ)) (answer : Result Row LoadFault) → table_gives columns texts text ≡ Ok read → sole_row read.0 ≡ answer → row_named columns texts cells ≡ answer
  named read answer given sole =
      ap (λ t. table_gives columns texts t >>= (λ (all : Bag × List (List ℕ)). sole_row all.0)) (sym is)
      ∙ ap (λ (r : Result (Bag × List (List ℕ)) LoadFault). r >>= (λ (all : Bag × List (List ℕ)). sole_row all.0)) given ∙ sole

  pub not_read : (f : LoadFault) → table_gives columns texts text ≡ Err f → row_named columns texts cells ≡ Err f
  not_read f given =
      ap (λ t. table_gives columns texts t >>= (λ (all : Bag × List (List ℕ)). sole_row all.0)) (sym is)
      ∙ ap (λ (r : Result (Bag × List (List ℕ)) LoadFault). r >>= (λ (all : Bag × List (List ℕ)). sole_row all.0)) given

-- over the view of this number, where there is one
module _ (views : List WrittenView) (view : ℕ) (texts : Texts) (cells : List ℕ) where
  pub over_none : slice_get views view ≡ None → row_over (slice_get (map shown_view views) view) texts cells ≡ Ok None
  over_none none = ap (λ o. row_over o texts cells) (slice_get-map shown_view views view ∙ ap (option_map shown_view) none)

  pub over_some : (own : WrittenView) → slice_get views view ≡ Some own → (row : Row) → row_named (shown_view own).columns texts cells ≡ Ok row
      → row_over (slice_get (map shown_view views) view) texts cells ≡ Ok (Some row)
  over_some own some row is =
      ap (λ o. row_over o texts cells) (slice_get-map shown_view views view ∙ ap (option_map shown_view) some)
      ∙ ap (λ (r : Result Row LoadFault). r >>= (λ (row : Row). Ok (Some row))) is

  pub over_fault : (own : WrittenView) → slice_get views view ≡ Some own → (f : LoadFault) → row_named (shown_view own).columns texts cells ≡ Err f
      → row_over (slice_get (map shown_view views) view) texts cells ≡ Err f
  over_fault own some f is =
      ap (λ o. row_over o texts cells) (slice_get-map shown_view views view ∙ ap (option_map shown_view) some)
      ∙ ap (λ (r : Result Row LoadFault). r >>= (λ (row : Row). Ok (Some row))) is

  -- the row of the table that was read is refused, or there was no memory for it
  pub not_sole : (own : WrittenView) → slice_get views view ≡ Some own → (text : List ℕ) → text ≡ one_record (shown_view own).columns cells → (read : Bag × List (List ℕ)) → table_gives (shown_view own).columns texts text ≡ Ok read
      → (f : LoadFault) → (f ≡ fault.Memory) ⊎ (sole_row read.0 ≡ Err f) → (f ≡ fault.Memory) ⊎ (row_over (slice_get (map shown_view views) view) texts cells ≡ Err f)
  not_sole own some text is read given f (inl e) = inl e
  not_sole own some text is read given f (inr e) = inr (over_fault own some f (named (shown_view own).columns texts cells text is read (Err f) given e))

-- ---- a page

module _ (s : Setup) (log : Log) (w : StandingOf) (desk : ℕ) (view : Option ℕ) (limit : ℕ) (cells : Option (List ℕ)) where
  pub told_reply : (number : ℕ) (after same : Option Row) (r : Reply) → row_asked w view cells ≡ Ok after → number ≡ unwrap_or view (length w.names) → same ≡ after
      → IsPageReply s log desk number limit same r → IsPageTold s log w desk view limit cells (Ok r)
  told_reply number after same r read is e h =
      is_replied after r read (subst (λ n. IsPageReply s log desk n limit after r) is (subst (λ o. IsPageReply s log desk number limit o r) e h))

  pub told_fault : (f : LoadFault) → (f ≡ fault.Memory) ⊎ (row_asked w view cells ≡ Err f) → IsPageTold s log w desk view limit cells (Err f)
  told_fault f (inl e) = subst (λ f. IsPageTold s log w desk view limit cells (Err f)) (sym e) cells_want_memory
  told_fault f (inr e) = cells_have_a_fault f e
