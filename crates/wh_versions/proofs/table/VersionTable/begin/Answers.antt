use Rattle.std.proofs.Common.{◌+◌, ◌-◌, ◌++◌, ◌∙◌, ap, subst, arith, drop, List, [], ◌∷◌, slice_set}
use Rattle.wh_pieces.specs.Pieces.{found}
use Rattle.wh_versions.specs.Tables.{ViewRows, IsBegun, slots}
use Rattle.wh_versions.specs.Inner.Tables.{Touched}
use Rattle.wh_versions.proofs.TableLaws.{begins, is_begun_at, last_of, nth_set, turned}
use Rattle.wh_versions.proofs.table.VersionTable.begin.Goals as goal

pub invariant_of-self : goal.invariant_of-self
invariant_of-self g c =
    let k = c.self.invariant in
    let sets = c.self.inside.touched.items in
    let end = c.len-last.result - 1 in
    let last = last_of g.row.N c.self.inside.night end c.self.inside.rows sets c.index.result.now k (omega arith) c.index.ensures in
    let first = nth_set sets 0 c.index-2.result.now c.index-2.ensures (omega arith) in
    let next = ap (λ (xs : List Touched). slice_set xs end c.new.result) c.rotate_left.ensures.items ∙ turned sets end c.new.result (omega arith) ∙ ap (λ (x : Touched). drop 1 sets ++ x ∷ []) c.new.ensures in
    (begins g.row.N c.self.inside.night (c.self.inside.night + 1) c.self.inside.rows c.drop_unread.new.rows c.drop_unread-2.new.rows sets _ c.index.result.now c.index-2.result.now k (omega arith) last first c.drop_unread.ensures c.drop_unread-2.ensures next).kept

pub returns-clause-rows : goal.returns-clause-rows
returns-clause-rows g c row =
    let k = c.self.invariant in
    let sets = c.self.inside.touched.items in
    let end = c.len-last.result - 1 in
    let last = last_of g.row.N c.self.inside.night end c.self.inside.rows sets c.index.result.now k (omega arith) c.index.ensures in
    let first = nth_set sets 0 c.index-2.result.now c.index-2.ensures (omega arith) in
    let next = ap (λ (xs : List Touched). slice_set xs end c.new.result) c.rotate_left.ensures.items ∙ turned sets end c.new.result (omega arith) ∙ ap (λ (x : Touched). drop 1 sets ++ x ∷ []) c.new.ensures in
    subst (λ (t : ViewRows). IsBegun g.row.N (t.night + 1) (slots t row) (found row c.drop_unread-2.new.rows)) c.self.view_is
    (is_begun_at g.row.N c.self.inside.night (c.self.inside.night + 1) (found row c.self.inside.rows) (found row c.drop_unread-2.new.rows) (omega arith)
    ((begins g.row.N c.self.inside.night (c.self.inside.night + 1) c.self.inside.rows c.drop_unread.new.rows c.drop_unread-2.new.rows sets _ c.index.result.now c.index-2.result.now k (omega arith) last first c.drop_unread.ensures c.drop_unread-2.ensures next).exact row))
