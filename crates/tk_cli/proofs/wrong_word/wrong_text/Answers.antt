-- What is answered to the input that was read.
use Rattle.tk_cli.specs.Limits.{input_limit}
use Rattle.tk_cli.specs.declared.request.Request.TheVariants.{Wrong}
use Rattle.tk_cli.proofs.InputLaws.{made-by, stopped-by, taken-by}
use Rattle.tk_cli.proofs.wrong_word.wrong_text.Goals as goal

pub under_replies-requires : goal.under_replies-requires
under_replies-requires g c =
    let read = c.in_ok-input.ensures.read in record { bytes = read.bytes; spelled = read.spelled }

pub returns-clause-made : goal.returns-clause-made
returns-clause-made g c =
    made-by (Wrong c.args.hidden) (g.S.Source.left c.args.source.now)
    (g.S.Source.left c.input_from.new.source) (g.S.Source.faults c.args.source.now)
    (g.S.Source.faults c.input_from.new.source) c.in_ok-input.input c.in_ok-input.ensures.read
    (λ text. text.items) c.under_replies.result c.under_replies.ensures.answer

pub returns-clause-stopped : goal.returns-clause-stopped
returns-clause-stopped g c =
    stopped-by (Wrong c.args.hidden) (g.S.Source.left c.args.source.now)
    (g.S.Source.left c.input_from.new.source) (g.S.Source.faults c.args.source.now)
    (g.S.Source.faults c.input_from.new.source) c.in_ok-input.input c.in_ok-input.ensures.read
    (λ text. text.items) c.under_replies.result c.under_replies.ensures.refused

pub returns-clause-taken : goal.returns-clause-taken
returns-clause-taken g c =
    taken-by (Wrong c.args.hidden) (g.S.Source.left c.args.source.now)
    (g.S.Source.left c.input_from.new.source) (g.S.Source.faults c.args.source.now)
    (g.S.Source.faults c.input_from.new.source) c.in_ok-input.input c.in_ok-input.ensures.read
    (λ text. text.items) input_limit c.in_ok-input.input c.under_replies.result
    c.under_replies.ensures.refused c.in_ok-input.ensures.taken
