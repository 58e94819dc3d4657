use Rattle.std.proofs.Common.{Result, Ok, Err, IfOk}
use Rattle.wh_row.specs.Bag.{written as written_out}
use Rattle.wh_versions.proofs.OpeningLaws.{opening_made}
use Rattle.wh_versions.proofs.writing.first_rows.Goals as goal

-- whatever is answered
ok_for : {A E : Type 0} {P Q : A → Type 0} → (r : Result A E) → ((x : A) → P x → Q x) → IfOk r P → IfOk r Q
ok_for (Ok x) f h = f x h
ok_for (Err e) f h = tt

pub returns : goal.returns
returns g c =
    let listed = (c.a_bag_lists_its_rows.ensures c.args.table.now).counted in
    ok_for c.map_counts.result (λ rows made. opening_made c.args.table.now _ c.requires.table (λ n ps p least. p least) (written_out c.args.table.now) rows listed made) c.map_counts.ensures.ok
