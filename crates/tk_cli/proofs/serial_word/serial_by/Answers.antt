-- The words of a book are those of its keys or its tape.
use Rattle.std.proofs.Common.{ap, sym, subst}
use Rattle.std.specs.Prelude.{OnErr}
use Rattle.tk_io.specs.Tapped.{TapsGainFronts}
use Rattle.tk_words.specs.Book.{words_in}
use Rattle.tk_words.specs.Words.{WordBook}
use Rattle.tk_run.specs.Plays.{serial_sight}
use Rattle.tk_cli.proofs.serial_word.serial_by.Goals as goal

pub returns-in-Keyed-clause-err : goal.returns-in-Keyed-clause-err
returns-in-Keyed-clause-err g c =
    let S = c.args.script.now in
    subst (λ (b : WordBook). OnErr c.serial.result (TapsGainFronts S.shape.servers
    (serial_sight S b) (g.T.Taps.tap c.args.taps.now)
    (g.T.Taps.tap c.serial.new.taps))) (sym (ap words_in c.in-Keyed.is)) c.serial.ensures.err

pub returns-in-Drawn-clause-err : goal.returns-in-Drawn-clause-err
returns-in-Drawn-clause-err g c =
    let S = c.args.script.now in
    subst (λ (b : WordBook). OnErr c.serial-in-Drawn.result (TapsGainFronts S.shape.servers
    (serial_sight S b) (g.T.Taps.tap c.args.taps.now)
    (g.T.Taps.tap c.serial-in-Drawn.new.taps))) (sym (ap words_in c.in-Drawn.is))
    c.serial-in-Drawn.ensures.err
