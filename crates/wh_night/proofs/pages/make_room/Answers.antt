use Rattle.std.proofs.Common.{ap, subst, ◌∙◌, [], ◌∷◌, ◌++◌, map, arith}
use Rattle.wh_row.specs.Stored.{plain}
use Rattle.wh_store.specs.Operations.{Writes}
use Rattle.wh_carry.specs.NightList.{pages_of}
use Rattle.wh_carry.proofs.Lengths.{plain_length}
use Rattle.wh_carry.proofs.Pages.{full_page}
use Rattle.wh_night.specs.Inner.Underway.{IsPartly}
use Rattle.wh_night.proofs.Outs.{on_err}
use Rattle.wh_night.proofs.pages.make_room.Goals as goal

pub returns-in_err-publish_page-clause-err : goal.returns-in_err-publish_page-clause-err
returns-in_err-publish_page-clause-err g c =
    let e = plain_length c.args.page.now.items in
    let full = c.if-len-pages.true in
    on_err _ c.from_residual.result (λ rest.
    subst (λ pages. IsPartly (g.P.Publish.kept c.args.writer.now) (map (Writes c.args.view) pages) (g.P.Publish.kept c.publish_page.new.writer))
    (full_page c.args.pages.now.keys (plain c.args.page.now.items) rest c.requires.some (omega arith)) (c.in_err-publish_page.ensures.err (map (Writes c.args.view) (pages_of c.args.pages.now.keys rest))))

pub returns-in_ok-publish_page-clause-out : goal.returns-in_ok-publish_page-clause-out
returns-in_ok-publish_page-clause-out g c = record {
  pages = plain c.args.page.now.items ∷ [];
  out = c.in_ok-publish_page.ensures.out;
  cut = λ rest.
      let e = plain_length c.args.page.now.items in
      ap (λ rows. plain c.args.page.now.items ∷ pages_of c.args.pages.now.keys (plain rows ++ rest)) c.in_ok-publish_page.ensures.empty
      ∙ full_page c.args.pages.now.keys (plain c.args.page.now.items) rest c.requires.some (omega arith);
}
