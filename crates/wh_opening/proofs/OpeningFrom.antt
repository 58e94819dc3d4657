-- The parts of an opening give what is read of them, one after another.
use Rattle.std.proofs.Common.{◌≡◌, ℕ, List, [], refl}
use Rattle.std.specs.Prelude.{Ok}
use Rattle.wh_dag.specs.Shape.{Views}
use Rattle.wh_text_bundle.specs.declared.bundle.heading.Heading.TheVariants as heading
use Rattle.wh_text_bundle.specs.declared.bundle.part.Part.{Part}
use Rattle.wh_text_catalogue.specs.Catalogue.{shape_of}
use Rattle.wh_text_catalogue.specs.Definitions.{ViewOf, definitions_of}
use Rattle.wh_text_catalogue.specs.FormulaKinds.{Texts}
use Rattle.wh_load.specs.ReadingParts.{text_in}
use Rattle.wh_opening.specs.OpeningRead.{OpeningOf, opening_in, opening_over}

pub opening_from : (parts : List Part) (catalogue : List ℕ) (shape : Views) (views : List ViewOf) (texts : Texts) (opening : OpeningOf) → text_in parts heading.Catalogue 0 ≡ Ok catalogue
    → shape_of catalogue ≡ Ok shape → definitions_of shape catalogue [] ≡ Ok (views, texts) → opening_over parts shape views texts ≡ Ok opening → opening_in parts ≡ Ok opening
opening_from parts catalogue shape views texts opening a b c d = rw a (rw b (rw c (rw d refl)))
