-- The write comes first, then the mark, and then the read.
use Rattle.std.proofs.Common.{◌≡◌, ◌∙◌, ◌∷◌, [], ◌++◌, ◌<◌, ap, sym, subst, arith, rules, Err}
use Rattle.tk_client.specs.Client.{ClientState}
use Rattle.tk_words.specs.Words.{words_of}
use Rattle.tk_client.specs.Writing.{first_waiting}
use Rattle.tk_client.specs.Writes.{write_of}
use Rattle.embed.specs.Faults.{IsReadFault}
use Rattle.embed.specs.Servers.{AllStandFor}
use Rattle.embed.specs.Turns.{record_of, with_turn, after_read, after_turn}
use Rattle.embed.proofs.TurnLaws.{turns-phases, next-mark}
use Rattle.embed.proofs.turn.take_turn.Goals as goal

pub returns-clause-servers : goal.returns-clause-servers
unfolding with_turn
returns-clause-servers g c = λ E are.
    let s = c.args.client.now in
    let book = g.D.Draws.book c.args.draws.now in
    let low : c.args.turn < s.shape.phases =
    omega (arith, c.requires.turn_in, turns-phases s.shape c.requires.one_tick)
    in
    c.in_ok-mark.ensures.servers s.shape (E ++ record_of book c.args.turn s ∷ [])
    (c.in_ok-write.ensures.servers E are) low

pub returns-clause-client : goal.returns-clause-client
unfolding with_turn after_turn
returns-clause-client g c = λ E are.
    let s = c.args.client.now in
    let book = g.D.Draws.book c.args.draws.now in
    let turn = c.args.turn in
    let low : turn < s.shape.phases =
    omega (arith, c.requires.turn_in, turns-phases s.shape c.requires.one_tick)
    in
    let all = with_turn book turn s E in
    let wrote = c.in_ok-write.ensures.client in
    let have =
    c.in_ok-mark.ensures.servers s.shape (E ++ record_of book turn s ∷ [])
    (c.in_ok-write.ensures.servers E are) low
    in
    c.in_ok-read.ensures.client all
    (subst (λ (x : ClientState). AllStandFor x.shape all c.mark.new.servers) (sym wrote) have)
    ∙ ap (after_read book turn all) wrote

pub returns-in_err-write-clause-fault : goal.returns-in_err-write-clause-fault
returns-in_err-write-clause-fault g c = λ E are is.
    let fault = c.in_err-write.field-0.0 in
    let out : c.from_residual.result ≡ Err fault = search rules in
    rw out (subst IsReadFault (sym (c.in_err-write.ensures.due E are is)) tt)

pub returns-in_err-mark-clause-fault : goal.returns-in_err-mark-clause-fault
returns-in_err-mark-clause-fault g c = λ E are is.
    let s = c.args.client.now in
    let turn = c.args.turn in
    let book = g.D.Draws.book c.args.draws.now in
    let w = write_of (words_of s.shape book) turn s.number (first_waiting s.writing) in
    let low : turn < s.shape.phases =
    omega (arith, c.requires.turn_in, turns-phases s.shape c.requires.one_tick)
    in
    let fault = c.in_err-mark.field-0.0 in
    let out : c.from_residual-in_err-mark.result ≡ Err fault = search rules in
    rw out
    (subst IsReadFault
    (sym (c.in_err-mark.ensures.due s.shape (E ++ record_of book turn s ∷ [])
    (c.in_ok-write.ensures.servers E are) (next-mark s.shape E turn w low is))) tt)
