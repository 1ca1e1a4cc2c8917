-- A shape, its format and its numbers.
use Rattle.std.proofs.Common.{◌≡◌}
use Rattle.std.proofs.Math.Bool.{Bool-set}
use Rattle.std.proofs.Math.Bridge.{le_prop}
use mathlib.Core.HLevel.{is_prop→PathP}
use Rattle.tk_shape.specs.declared.shape.Shape.{Shape}
use Rattle.tk_shape.specs.Numbers.{numbers_of}
use Rattle.tk_shape.specs.Ranges.{IsShape}

-- a shape's format and numbers make it
pub one_shape : (s t : Shape) → s.format ≡ t.format → numbers_of s ≡ numbers_of t → s ≡ t
one_shape s t same e =
    let a : s.servers ≡ t.servers = cc e in
    let b : s.buckets ≡ t.buckets = cc e in
    let c : s.depth ≡ t.depth = cc e in
    let d : s.retained ≡ t.retained = cc e in
    let f : s.block ≡ t.block = cc e in
    let g : s.filter_bits ≡ t.filter_bits = cc e in
    let h : s.hits ≡ t.hits = cc e in
    let k : s.ahead ≡ t.ahead = cc e in
    let l : s.clients ≡ t.clients = cc e in
    let m : s.phases ≡ t.phases = cc e in
    let n : s.ticks ≡ t.ticks = cc e in
    let o : s.logs ≡ t.logs = cc e in
    λ i. record {
      format = same i;
      servers = a i;
      buckets = b i;
      depth = c i;
      retained = d i;
      block = f i;
      filter_bits = g i;
      hits = h i;
      ahead = k i;
      clients = l i;
      phases = m i;
      ticks = n i;
      logs = o i;
      in_range =
          is_prop→PathP (λ j. IsShape (same j) (a j) (b j) (c j) (d j) (f j) (g j) (h j) (k j) (l j) (m j)
          (n j) (o j))
          (λ j. hlevel (le_prop, Bool-set)) s.in_range t.in_range i;
    }
