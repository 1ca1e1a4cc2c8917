-- A run that is clear, and one that isn't, computed.
use Rattle.std.specs.Prelude.{◌≡◌, true, false, replicate}
use Rattle.std.proofs.Common.{refl}
use Rattle.tk_schedule.specs.Schedule.{serial_history}
use Rattle.tk_words.specs.Words.{drawn, words_of}
use Rattle.tk_report.proofs.Computing.{computing}
use Rattle.tk_report.proofs.examples.PassingOver.{shape, script, tape}
use Rattle.tk_report.specs.Delivered.{IsClear, is_clear}
use Rattle.tk_report.proofs.ClearLaws.{clear-is_tested}

pub tested : is_clear script (words_of shape (drawn tape)) (serial_history shape) ≡ true
unfolding computing is_clear
tested = refl

pub clear : IsClear script (words_of shape (drawn tape)) (serial_history shape)
clear = (clear-is_tested script (words_of shape (drawn tape)) (serial_history shape)).0 tested

-- where all drawn bytes are zeros, what holds no text opens to an empty one
pub not_clear : is_clear script (words_of shape (drawn (replicate 768 0))) (serial_history shape)
    ≡ false
unfolding computing is_clear
not_clear = refl
