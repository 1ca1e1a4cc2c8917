-- A text whose bytes are printable may be sent where it is UTF-8.
use Rattle.std.proofs.Common.{sym, ◌∙◌}
use Rattle.tk_seal.proofs.Fronts.{allowed-printable}
use Rattle.tk_seal.proofs.text.is_allowed.Goals as goal

pub returns-then-all_printable : goal.returns-then-all_printable
returns-then-all_printable c =
    allowed-printable c.args.text.now c.is_utf8_baseline.result c.is_utf8_baseline.ensures
    (sym c.all_printable.ensures ∙ c.if-all_printable.true)
