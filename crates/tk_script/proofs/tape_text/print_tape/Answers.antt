-- The tape's bytes are the tape.
use Rattle.std.proofs.Common.{◌≡◌, ◌++◌, ℕ, List, OnOk, subst}
use Rattle.tk_script.specs.Printing.{printed_tape}
use Rattle.tk_script.specs.PrintLaws.{ReadsPrintedTape}
use Rattle.tk_script.proofs.tape_text.print_tape.Goals as goal

pub returns-clause-ok : goal.returns-clause-ok
returns-clause-ok c =
    subst (λ (bytes : List ℕ). OnOk c.print_bytes.result
    (c.print_bytes.new.out.items ≡ c.args.out.now.items ++ printed_tape bytes)) c.as_bytes.ensures
    c.print_bytes.ensures.ok

pub returns-clause-reads : goal.returns-clause-reads
returns-clause-reads c =
    subst (λ (bytes : List ℕ). OnOk c.print_bytes.result (ReadsPrintedTape bytes)) c.as_bytes.ensures
    c.print_bytes.ensures.reads
