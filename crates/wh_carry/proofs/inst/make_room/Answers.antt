use Rattle.std.proofs.Common.{ap, ◌∙◌, [], ◌∷◌, ◌++◌, arith}
use Rattle.wh_row.specs.Stored.{plain}
use Rattle.wh_carry.specs.NightList.{pages_of}
use Rattle.wh_carry.proofs.Pages.{full_page}
use Rattle.wh_carry.proofs.Lengths.{plain_length}
use Rattle.wh_carry.proofs.inst.make_room.Goals as goal

pub returns-in_ok-close_page-clause-puts : goal.returns-in_ok-close_page-clause-puts
returns-in_ok-close_page-clause-puts c = record {
  pages = plain c.args.page.now.items ∷ [];
  puts = c.in_ok-close_page.ensures.puts;
  cut = λ rest.
      let e = plain_length c.args.page.now.items in
      ap (λ rows. plain c.args.page.now.items ∷ pages_of c.args.keys (plain rows ++ rest)) c.in_ok-close_page.ensures.empty
      ∙ full_page c.args.keys (plain c.args.page.now.items) rest c.requires.some (omega arith);
}
