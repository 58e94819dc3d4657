-- What holds of all rows.
use Rattle.std.proofs.Common.{◌≡◌, refl, suc, ◌-◌, Some, None, true, false, arith, cond}
use Rattle.wh_versions.specs.Laws.{EachPutIsRead, EachReadsBack, DroppedAreUnread}
use Rattle.wh_versions.proofs.ReadLaws.{read_put, read_put_new, put_pairs, read_back, read_older, back_pairs}
use Rattle.wh_versions.specs.Rows.{IsUnread, is_unread}
use Rattle.wh_versions.proofs.TableLaws.{unread_reads, begun_of}

pub each_put_is_read : EachPutIsRead
each_put_is_read n m c ps two are = record {
  before = λ s low high. read_put n m s c ps two are low high;
  new = read_put_new n m c ps (omega arith);
  kept = put_pairs n m c ps are;
}

pub each_reads_back : EachReadsBack
each_reads_back n s ps are = record {
  new = read_back s ps are.falling;
  before = λ r low. read_older (suc s) r ps (omega arith);
  kept = back_pairs n (suc s) ps are;
}

pub dropped_are_unread : DroppedAreUnread
dropped_are_unread n m ps is = elim (is_unread (n - 1) (suc m) ps) as (λ t. is_unread (n - 1) (suc m) ps ≡ t → None ≡ cond t None (Some ps) → IsUnread (n - 1) (suc m) ps) [
  | true ↦ λ t e s low high. unread_reads (n - 1) (suc m) s ps t low high
  | false ↦ λ t e. absurd (let c : ⊥ = cc in c)
] refl (begun_of n m (Some ps) None is)
