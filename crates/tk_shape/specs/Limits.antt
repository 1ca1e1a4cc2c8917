-- The limits of a run, in the order of the table of `docs/MODEL.md`, and the first of them that numbers break.
use Rattle.std.specs.Prelude.{ℕ, ◌+◌, ◌*◌, nat_le, not, ◌&&◌, Bool, List, [], ◌∷◌, find, Option, slice_index}
use Rattle.std.specs.Int.{is_power_of_two}
use Rattle.tk_shape.specs.declared.field.Field.{Field}
use Rattle.tk_shape.specs.declared.field.Field.TheVariants as field
use Rattle.tk_shape.specs.Ranges.{most_buckets}

-- the format and the numbers of a shape, in range or not
pub record Numbers : Type 0 where
  pub format : ℕ
  pub servers : ℕ
  pub buckets : ℕ
  pub depth : ℕ
  pub retained : ℕ
  pub block : ℕ
  pub filter_bits : ℕ
  pub hits : ℕ
  pub ahead : ℕ
  pub clients : ℕ
  pub phases : ℕ
  pub ticks : ℕ
  pub logs : ℕ

-- a format, and twelve numbers in their order
abbrev pub numbers_in : ℕ → List ℕ → Numbers
numbers_in format ns =
    record {
      format = format;
      servers = slice_index ns 0;
      buckets = slice_index ns 1;
      depth = slice_index ns 2;
      retained = slice_index ns 3;
      block = slice_index ns 4;
      filter_bits = slice_index ns 5;
      hits = slice_index ns 6;
      ahead = slice_index ns 7;
      clients = slice_index ns 8;
      phases = slice_index ns 9;
      ticks = slice_index ns 10;
      logs = slice_index ns 11;
    }

abbrev pub is_between : ℕ → ℕ → ℕ → Bool
is_between low high n = nat_le low n && nat_le n high

-- writes in a whole run
abbrev pub schedule_in : Numbers → ℕ
schedule_in n = n.clients * n.phases * n.ticks

-- bytes of a server's table
abbrev pub table_in : Numbers → ℕ
table_in n = n.buckets * n.depth * (16 + n.block)

-- bytes of table that all servers of a run go over
abbrev pub work_in : Numbers → ℕ
work_in n = schedule_in n * n.servers * table_in n

-- a limit: what it is on, the number that it limits, and whether that keeps it
pub record Limit : Type 0 where
  pub field : Field
  pub value : ℕ
  pub kept : Bool

abbrev pub limit : Field → ℕ → Bool → Limit
limit f n ok = record { field = f; value = n; kept = ok }

-- the limits in their order
abbrev pub limits : Numbers → List Limit
limits n =
    limit field.Servers n.servers (is_between 2 8 n.servers)
    ∷ limit field.Buckets n.buckets (is_power_of_two n.buckets && is_between 8 (most_buckets n.format) n.buckets)
    ∷ limit field.Depth n.depth (is_between 1 8 n.depth)
    ∷ limit field.Retained n.retained (is_between 1 (n.buckets * n.depth) n.retained)
    ∷ limit field.Block n.block (is_between 24 1024 n.block)
    ∷ limit field.Filter n.filter_bits (is_power_of_two n.filter_bits && is_between 64 65536 n.filter_bits)
    ∷ limit field.Hits n.hits (is_between 1 4 n.hits)
    ∷ limit field.Ahead n.ahead (nat_le n.ahead 8)
    ∷ limit field.Clients n.clients (is_between 1 64 n.clients)
    ∷ limit field.Phases n.phases (is_between 1 256 n.phases)
    ∷ limit field.Ticks n.ticks (is_between 1 64 n.ticks)
    ∷ limit field.Logs n.logs (is_between 1 256 n.logs)
    ∷ limit field.Schedule (schedule_in n) (nat_le (schedule_in n) 65000)
    ∷ limit field.Table (table_in n) (nat_le (table_in n) 4194304)
    ∷ limit field.Work (work_in n) (nat_le (work_in n) 34359738368)
    ∷ []

-- the first limit that is broken
abbrev pub broken : Numbers → Option Limit
broken n = find (λ l. not l.kept) (limits n)
