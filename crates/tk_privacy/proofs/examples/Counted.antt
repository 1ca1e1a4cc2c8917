-- The servers that look together, and the premises of the laws on counts.
use Rattle.std.specs.Prelude.{◌≡◌, [], ◌∷◌}
use Rattle.std.proofs.Common.{refl, lit≤}
use Rattle.tk_schedule.specs.Schedule.{serial_history}
use Rattle.tk_schedule.proofs.Offers.{serial-IsLegal}
use Rattle.tk_privacy.specs.Counts.{all_but}
use Rattle.tk_privacy.specs.Laws.{AreCompared}
use Rattle.tk_privacy.proofs.Computing.{computing}
use Rattle.tk_privacy.proofs.examples.Mirrored.{shape, script_a, script_b}

-- with server 1 hidden of three the others are 2 and 3
pub others : all_but shape 1 ≡ 2 ∷ 3 ∷ []
unfolding computing
others = refl

-- the premises of the laws are met
pub premises : AreCompared script_a script_b (serial_history shape) 1
unfolding computing
premises =
    record {
      one_shape = refl;
      legal = serial-IsLegal shape;
      hidden_low = lit≤ tt;
      hidden_high = lit≤ tt;
    }
