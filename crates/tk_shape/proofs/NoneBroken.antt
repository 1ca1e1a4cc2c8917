-- A shape's numbers break no limit.
use Rattle.std.proofs.Common.{◌≡◌, ℕ, ◌≤◌, List, ◌∷◌, [], IsTrue, Some, None, cond, refl, ap, ◌∙◌}
use Rattle.std.specs.Prelude.{not, find, ◌*◌, ◌&&◌}
use Rattle.std.specs.List.{AllByRecursion}
use Rattle.std.specs.Int.{is_power_of_two}
use Rattle.std.proofs.lemmas.Bool.{and_from, le-leb}
use Rattle.tk_shape.specs.declared.shape.Shape.{Shape}
use Rattle.tk_shape.specs.Numbers.{numbers_of}
use Rattle.tk_shape.specs.Limits.{Limit, is_between, broken, numbers_in, limits, schedule_in, table_in, work_in}
use Rattle.tk_shape.specs.Ranges.{most_buckets}
use Rattle.tk_shape.proofs.Between.{between-from}

power : (a b n : ℕ) → IsTrue (is_power_of_two n) → a ≤ n → n ≤ b → IsTrue (is_power_of_two n && is_between a b n)
power a b n pow low high =
    and_from (is_power_of_two n) (is_between a b n) pow (between-from a b n low high)

all_kept : (ls : List Limit) → AllByRecursion (λ (l : Limit). IsTrue l.kept) ls →
    find (λ (l : Limit). not l.kept) ls ≡ None
all_kept [] kept = refl
all_kept (l ∷ ls) kept =
    ap (λ ok. cond (not ok) (Some l) (find (λ (k : Limit). not k.kept) ls)) kept.0 ∙ all_kept ls kept.1

pub none_broken : (s : Shape) → broken (numbers_in s.format (numbers_of s)) ≡ None
none_broken s =
    let r = s.in_range in
    let n = numbers_in s.format (numbers_of s) in
    all_kept (limits n) (
      between-from 2 8 s.servers r.servers_low r.servers_high,
      (
        power 8 (most_buckets s.format) s.buckets r.buckets_power r.buckets_low r.buckets_of_format,
        (
          between-from 1 8 s.depth r.depth_low r.depth_high,
          (
            between-from 1 (s.buckets * s.depth) s.retained r.retained_low r.retained_high,
            (
              between-from 24 1024 s.block r.block_low r.block_high,
              (
                power 64 65536 s.filter_bits r.filter_power r.filter_low r.filter_high,
                (
                  between-from 1 4 s.hits r.hits_low r.hits_high,
                  (
                    le-leb s.ahead 8 r.ahead_high,
                    (
                      between-from 1 64 s.clients r.clients_low r.clients_high,
                      (
                        between-from 1 256 s.phases r.phases_low r.phases_high,
                        (
                          between-from 1 64 s.ticks r.ticks_low r.ticks_high,
                          (
                            between-from 1 256 s.logs r.logs_low r.logs_high,
                            (
                              le-leb (schedule_in n) 65000 r.schedule,
                              (
                                le-leb (table_in n) 4194304 r.table,
                                (le-leb (work_in n) 34359738368 r.work, tt),
                              ),
                            ),
                          ),
                        ),
                      ),
                    ),
                  ),
                ),
              ),
            ),
          ),
        ),
      ),
    )
