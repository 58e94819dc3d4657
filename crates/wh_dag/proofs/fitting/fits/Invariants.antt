use Rattle.std.proofs.Common.{◌≡◌, ◌≤◌, ◌↔◌, All, drop, take, length}
use Rattle.std.specs.Slice.Iter.{iter_rest}
use Rattle.wh_dag.specs.CatalogParts.{FitTogether}
use Rattle.wh_dag.proofs.Remaining.{Rest}
use Rattle.wh_dag.proofs.fitting.fits.Given as goal

abbrev pub invariant-loop-view : goal.invariant-loop-view
invariant-loop-view g l = record {
  rest : FitTogether l.shape l.fn.widths l.fn.definitions
      ↔ Rest (take l.view l.seen) (drop l.view l.shape.children) (iter_rest l.widths) (iter_rest l.definitions);
  few : All (λ columns. columns ≤ 64) l.seen;
  long : length l.seen ≡ 64;
}
