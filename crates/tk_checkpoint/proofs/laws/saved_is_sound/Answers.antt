use Rattle.tk_checkpoint.proofs.SoundSaved.{saved-is_sound}
use Rattle.tk_checkpoint.proofs.laws.saved_is_sound.Goals as goal

pub returns : goal.returns
returns c = λ shape E order ends. saved-is_sound shape E order ends
