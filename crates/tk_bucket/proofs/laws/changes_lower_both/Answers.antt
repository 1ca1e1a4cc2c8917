use Rattle.std.proofs.Common.{◌≡◌, ◌+◌, ◌-◌, false, get_or, set, arith}
use Rattle.std.proofs.lemmas.List.Sums.{sum_by-set}
use Rattle.tk_bucket.specs.Paging.{shared_count, one_if}
use Rattle.tk_bucket.proofs.laws.changes_lower_both.Goals as goal

pub returns : goal.returns
returns c = λ p i lt enough.
    let sum : shared_count (set p.shared i false) + one_if (get_or p.shared i false) ≡ shared_count p.shared + one_if false =
    sum_by-set one_if p.shared i false false lt in
    let lower : shared_count (set p.shared i false) + one_if (get_or p.shared i false) ≡ shared_count p.shared = omega (arith, sum) in
    let taken : p.spare - one_if (get_or p.shared i false) + one_if (get_or p.shared i false) ≡ p.spare = omega (arith, lower, enough) in
    (lower, taken)
