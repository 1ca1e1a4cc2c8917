-- The digits so far are digits, and write the number.
use Rattle.std.proofs.Common.{◌≡◌, ℕ, ◌<◌, get_or, take}
use Rattle.std.specs.Str.Parse.{digits_value}
use Rattle.std.specs.Int.{IsInRange}
use Rattle.tk_script.proofs.numbers.plain_number.Given as goal

abbrev pub invariant-loop-byte : goal.invariant-loop-byte
invariant-loop-byte l = record {
  value : l.number ≡ digits_value 10 (take l.byte-index l.text);
  digits : (k : ℕ) → k < l.byte-index → IsInRange 48 57 (get_or l.text k 0);
}
