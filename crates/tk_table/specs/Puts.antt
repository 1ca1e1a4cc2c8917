-- What becomes of the entries of an order when they come.
use Rattle.std.specs.Prelude.{cond, List, Option, option_map}
use Rattle.tk_shape.specs.declared.shape.Shape.{Shape}
use Rattle.tk_frames.specs.declared.entry.Placed.{Placed as AtPlace}
use Rattle.tk_frames.specs.Order.{Record, record_in, records}
use Rattle.tk_table.specs.declared.table.Put.{Put}
use Rattle.tk_table.specs.declared.table.Put.TheVariants.{Placed, Displaced}
use Rattle.tk_table.specs.Table.{is_displaced}

-- a write that comes after R
unfoldable pub put_after : Shape → List Record → Record → Put
put_after shape R w = cond (is_displaced shape R w) Displaced Placed

-- the write that an entry is, if it is one, after these entries
abbrev pub put_of : Shape → List AtPlace → AtPlace → Option Put
put_of shape E p = option_map (put_after shape (records E)) (record_in p)
