-- The texts of the log so far are listed.
use Rattle.std.proofs.Common.{◌≡◌, take, filter}
use Rattle.std.specs.Prelude.{◌==◌}
use Rattle.tk_script.specs.Sent.{Sending}
use Rattle.tk_privacy.proofs.log_texts.texts_of.Given as goal

abbrev pub invariant-loop-found : goal.invariant-loop-found
invariant-loop-found l =
    l.texts.items ≡ filter (λ (y : Sending). y.log == l.log) (take l.found-index l.sent)
