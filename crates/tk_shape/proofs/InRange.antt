-- Numbers that break no limit are those of a shape.
use Rattle.std.proofs.Common.{◌≡◌, ℕ, ◌≤◌, List, ◌∷◌, [], Bool, true, false, IsTrue, Option, Some, None, cond, refl, arith}
use Rattle.std.specs.Prelude.{not, find, ◌&&◌, ◌*◌}
use Rattle.std.specs.List.{AllByRecursion}
use Rattle.std.specs.Int.{is_power_of_two}
use Rattle.std.proofs.lemmas.Bool.{and_parts, leb-true}
use Rattle.std.proofs.lemmas.Bool.Decides.{nat_tests}
use Rattle.tk_shape.specs.declared.shape.Shape.{Shape}
use Rattle.tk_shape.specs.Limits.{Numbers, Limit, is_between, broken, limits, schedule_in, table_in, work_in}
use Rattle.tk_shape.specs.Ranges.{IsShape, most_buckets}
use Rattle.tk_shape.proofs.Between.{between-parts}

kept_first : (kept : Bool) (l : Limit) (later : Option Limit) →
    cond (not kept) (Some l) later ≡ None → IsTrue kept × (later ≡ None)
kept_first true l later none = (refl, none)
kept_first false l later none = absurd (cc none)

all_kept : (ls : List Limit) → find (λ (l : Limit). not l.kept) ls ≡ None →
    AllByRecursion (λ (l : Limit). IsTrue l.kept) ls
all_kept [] none = tt
all_kept (l ∷ ls) none =
    let first = kept_first l.kept l (find (λ (k : Limit). not k.kept) ls) none in
    (first.0, all_kept ls first.1)

-- a power of two in a range
power : (low high n : ℕ) → IsTrue (is_power_of_two n && is_between low high n) →
    IsTrue (is_power_of_two n) × (low ≤ n) × (n ≤ high)
power low high n h =
    let both = and_parts (is_power_of_two n) (is_between low high n) h in
    let range = between-parts low high n both.1 in
    (both.0, range.0, range.1)

few_buckets : (format n : ℕ) → n ≤ most_buckets format → n ≤ 16384
few_buckets format n few = grind (arith, nat_tests)

pub in_range : (n : Numbers) → IsTrue (is_between 1 2 n.format) → broken n ≡ None →
    IsShape n.format n.servers n.buckets n.depth n.retained n.block n.filter_bits n.hits n.ahead n.clients n.phases
    n.ticks n.logs
in_range n known none =
    let servers_on = all_kept (limits n) none in
    let buckets_on = servers_on.1 in
    let depth_on = buckets_on.1 in
    let retained_on = depth_on.1 in
    let block_on = retained_on.1 in
    let filter_on = block_on.1 in
    let hits_on = filter_on.1 in
    let ahead_on = hits_on.1 in
    let clients_on = ahead_on.1 in
    let phases_on = clients_on.1 in
    let ticks_on = phases_on.1 in
    let logs_on = ticks_on.1 in
    let products = logs_on.1 in
    let format = between-parts 1 2 n.format known in
    let servers = between-parts 2 8 n.servers servers_on.0 in
    let buckets = power 8 (most_buckets n.format) n.buckets buckets_on.0 in
    let depth = between-parts 1 8 n.depth depth_on.0 in
    let retained = between-parts 1 (n.buckets * n.depth) n.retained retained_on.0 in
    let block = between-parts 24 1024 n.block block_on.0 in
    let filter = power 64 65536 n.filter_bits filter_on.0 in
    let hits = between-parts 1 4 n.hits hits_on.0 in
    let clients = between-parts 1 64 n.clients clients_on.0 in
    let phases = between-parts 1 256 n.phases phases_on.0 in
    let ticks = between-parts 1 64 n.ticks ticks_on.0 in
    let logs = between-parts 1 256 n.logs logs_on.0 in
    record {
      format_low = format.0;
      format_high = format.1;
      servers_low = servers.0;
      servers_high = servers.1;
      buckets_power = buckets.0;
      buckets_low = buckets.1;
      buckets_high = few_buckets n.format n.buckets buckets.2;
      buckets_of_format = buckets.2;
      depth_low = depth.0;
      depth_high = depth.1;
      retained_low = retained.0;
      retained_high = retained.1;
      block_low = block.0;
      block_high = block.1;
      filter_power = filter.0;
      filter_low = filter.1;
      filter_high = filter.2;
      hits_low = hits.0;
      hits_high = hits.1;
      ahead_high = leb-true n.ahead 8 ahead_on.0;
      clients_low = clients.0;
      clients_high = clients.1;
      phases_low = phases.0;
      phases_high = phases.1;
      ticks_low = ticks.0;
      ticks_high = ticks.1;
      logs_low = logs.0;
      logs_high = logs.1;
      schedule = leb-true (schedule_in n) 65000 products.0;
      table = leb-true (table_in n) 4194304 products.1.0;
      work = leb-true (work_in n) 34359738368 products.1.1.0;
    }

-- the shape of numbers
abbrev pub shape_of : (n : Numbers) → IsTrue (is_between 1 2 n.format) → broken n ≡ None → Shape
shape_of n known none =
    record {
      format = n.format;
      servers = n.servers;
      buckets = n.buckets;
      depth = n.depth;
      retained = n.retained;
      block = n.block;
      filter_bits = n.filter_bits;
      hits = n.hits;
      ahead = n.ahead;
      clients = n.clients;
      phases = n.phases;
      ticks = n.ticks;
      logs = n.logs;
      in_range = in_range n known none;
    }
