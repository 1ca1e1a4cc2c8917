use Rattle.std.proofs.Common.{◌≡◌, ◌*◌, ◌-◌, ◌^◌, ◌<◌, ◌≤◌}
use Rattle.tk_bucket.proofs.cut.per_page.Given as goal

abbrev pub invariant-loop-len : goal.invariant-loop-len
invariant-loop-len l = record {
  power : l.per ≡ 2 ^ l.shift;
  len : l.len ≡ l.per * l.width;
  low : l.per ≤ l.len;
  some : 1 ≤ l.per;
  few : l.per ≤ l.buckets;
  small : 1 < l.per → l.len ≤ 4096;
  bound : l.len ≤ 8320;
}

abbrev pub decreases-loop-len : goal.decreases-loop-len
decreases-loop-len l = 8320 - l.len
