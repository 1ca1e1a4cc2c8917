-- The words are those of the tape, so that the reads are those over it.
use Rattle.std.proofs.Common.{◌≡◌, ◌*◌, length, subst}
use Rattle.std.proofs.lemmas.Result.{IfOk-weaker}
use Rattle.std.specs.Prelude.{IfOk}
use Rattle.tk_shape.specs.Lengths.{turn_count}
use Rattle.tk_words.specs.Words.{WordBook, drawn}
use Rattle.tk_privacy.specs.Privacy.{pairs_read}
use Rattle.tk_privacy.specs.Reads.{all_reads}
use Rattle.tk_privacy.specs.Steps.{AreLastReads}
use Rattle.tk_privacy.proofs.ReadsLaws.{reads-counted, are-last_reads}
use Rattle.tk_privacy.proofs.mirrored_tape.last_reads.Goals as goal

pub returns-clause-counted : goal.returns-clause-counted
returns-clause-counted c =
    let S = c.args.script.now in
    let H = c.args.history.now in
    let b : WordBook = drawn c.args.tape.now in
    let pairs = pairs_read S b H in
    IfOk-weaker c.all_reads.result
    (λ v. v.items ≡ all_reads S.shape b H pairs S.shape.servers)
    (λ v. length v.items ≡ turn_count S.shape * S.shape.clients)
    (λ v are. reads-counted S.shape b H pairs S.shape.servers v.items are)
    (subst (λ (k : WordBook). IfOk c.all_reads.result
    (λ v. v.items ≡ all_reads S.shape k H (pairs_read S k H) S.shape.servers))
    c.in_ok-draws.ensures.book c.all_reads.ensures)

pub returns-clause-reads : goal.returns-clause-reads
returns-clause-reads c =
    let S = c.args.script.now in
    let H = c.args.history.now in
    let u = c.args.tape.now in
    let b : WordBook = drawn u in
    let pairs = pairs_read S b H in
    IfOk-weaker c.all_reads.result
    (λ v. v.items ≡ all_reads S.shape b H pairs S.shape.servers)
    (λ v. AreLastReads S.shape H pairs u v.items)
    (λ v are. are-last_reads S.shape H pairs u v.items are)
    (subst (λ (k : WordBook). IfOk c.all_reads.result
    (λ v. v.items ≡ all_reads S.shape k H (pairs_read S k H) S.shape.servers))
    c.in_ok-draws.ensures.book c.all_reads.ensures)
