-- A shape in format 2.
use Rattle.std.proofs.Common.{arith}
use Rattle.tk_shape.specs.declared.shape.Shape.{Shape}
use Rattle.tk_shape.specs.Ranges.{IsShape}

-- numbers that are in range in either format are in range in format 2
pub in_format_2 : (shape : Shape) → IsShape 2 shape.servers shape.buckets shape.depth shape.retained shape.block
    shape.filter_bits shape.hits shape.ahead shape.clients shape.phases shape.ticks shape.logs
in_format_2 shape =
    let kept = shape.in_range in
    record {
      format_low = omega arith;
      format_high = omega arith;
      servers_low = kept.servers_low;
      servers_high = kept.servers_high;
      buckets_power = kept.buckets_power;
      buckets_low = kept.buckets_low;
      buckets_high = kept.buckets_high;
      buckets_of_format = kept.buckets_high;
      depth_low = kept.depth_low;
      depth_high = kept.depth_high;
      retained_low = kept.retained_low;
      retained_high = kept.retained_high;
      block_low = kept.block_low;
      block_high = kept.block_high;
      filter_power = kept.filter_power;
      filter_low = kept.filter_low;
      filter_high = kept.filter_high;
      hits_low = kept.hits_low;
      hits_high = kept.hits_high;
      ahead_high = kept.ahead_high;
      clients_low = kept.clients_low;
      clients_high = kept.clients_high;
      phases_low = kept.phases_low;
      phases_high = kept.phases_high;
      ticks_low = kept.ticks_low;
      ticks_high = kept.ticks_high;
      logs_low = kept.logs_low;
      logs_high = kept.logs_high;
      schedule = kept.schedule;
      table = kept.table;
      work = kept.work;
    }

-- the shape with format 2
abbrev pub lifted_shape : Shape → Shape
lifted_shape shape = record shape { format = 2; in_range = in_format_2 shape }
