-- The words of what limits a run.
use Rattle.std.specs.Prelude.{ℕ, List, codes}
use Rattle.tk_shape.specs.declared.field.Field.{Field}
use Rattle.tk_shape.specs.declared.field.Field.TheVariants as field

abbrev pub field_name : Field → List ℕ
field_name field.Format = codes "format"
field_name field.Servers = codes "servers"
field_name field.Buckets = codes "buckets"
field_name field.Depth = codes "depth"
field_name field.Retained = codes "retained"
field_name field.Block = codes "block"
field_name field.Filter = codes "filter"
field_name field.Hits = codes "hits"
field_name field.Ahead = codes "ahead"
field_name field.Clients = codes "clients"
field_name field.Phases = codes "phases"
field_name field.Ticks = codes "ticks"
field_name field.Logs = codes "logs"
field_name field.Schedule = codes "schedule"
field_name field.Table = codes "table"
field_name field.Work = codes "work"
field_name field.Tape = codes "tape"
