-- What a turn does leaves all as it is before the next one.
use Rattle.std.proofs.Common.{◌≡◌, ◌++◌, ◌∙◌, List, ap₂, sym, subst, arith, length, append-nil}
use Rattle.std.proofs.lemmas.List.{with_items_is}
use Rattle.tk_words.specs.Words.{words_of}
use Rattle.tk_frames.specs.declared.read_frame.ReadFrame.{ReadFrame}
use Rattle.tk_frames.specs.declared.entry.Placed.{Placed}
use Rattle.tk_report.specs.Clients.{AreClients}
use Rattle.tk_report.specs.Ledgers.{Keeps}
use Rattle.tk_report.specs.Turns.{placed_before}
use Rattle.tk_report.proofs.Offers.{turn-done}
use Rattle.tk_privacy.proofs.Offers.{reads-next}
use Rattle.tk_hostile.specs.Given.{sums_at}
use Rattle.tk_hostile.specs.Walks.{knows_before, pair_in, client_in, client_out}
use Rattle.tk_hostile.proofs.walk.take_turn.Goals as goal

pub write-requires-clause-group : goal.write-requires-clause-group
write-requires-clause-group g c κs within =
    let walk = c.args.walk.now in
    let S = walk.plan.now.script.now in
    let book = g.D.Draws.book walk.plan.now.draws.now in
    record {
      knows = knows_before S book walk.plan.now.history.now walk.sides (sums_at walk.replies.now)
          c.args.turn;
      is = c.requires.fold.group;
    }

pub write-requires-clause-taker : goal.write-requires-clause-taker
write-requires-clause-taker g c κs within =
    let plan = c.args.walk.now.plan.now in
    let S = plan.script.now in
    let words = words_of S.shape (g.D.Draws.book plan.draws.now) in
    let E = placed_before S words plan.history.now c.args.turn in
    subst (λ (ps : List Placed). Keeps S.shape ps c.args.fold.now.ledger) (sym (append-nil E))
    c.requires.fold.ledger

pub read_turn-requires-clause-ledger : goal.read_turn-requires-clause-ledger
read_turn-requires-clause-ledger g c κs within =
    let plan = c.args.walk.now.plan.now in
    let S = plan.script.now in
    let words = words_of S.shape (g.D.Draws.book plan.draws.now) in
    subst (λ (ps : List Placed). Keeps S.shape ps c.write.new.taker)
    (turn-done S words plan.history.now c.args.turn) c.in_ok-write.ensures.taker

pub read_turn-requires-clause-clients : goal.read_turn-requires-clause-clients
read_turn-requires-clause-clients g c κs within =
    let walk = c.args.walk.now in
    let S = walk.plan.now.script.now in
    let book = g.D.Draws.book walk.plan.now.draws.now in
    let H = walk.plan.now.history.now in
    let F = sums_at walk.replies.now in
    let written = c.in_ok-write.ensures.group (knows_before S book H walk.sides F c.args.turn)
    c.requires.fold.group in
    subst (AreClients S.shape.clients (client_in S book H walk.sides F c.args.turn))
    (sym c.as_mut_slice-clients.ensures.value) written.clients

pub returns : goal.returns
returns g c =
    let walk = c.args.walk.now in
    let S = walk.plan.now.script.now in
    let book = g.D.Draws.book walk.plan.now.draws.now in
    let words = words_of S.shape book in
    let H = walk.plan.now.history.now in
    let F = sums_at walk.replies.now in
    let written = c.in_ok-write.ensures.group (knows_before S book H walk.sides F c.args.turn)
    c.requires.fold.group in
    let group = c.write.new.self in
    let clients = c.read_turn.new.clients in
    let counted : length clients ≡ group.clients.len =
    omega (arith, c.read_turn.auto.clients, c.as_mut_slice-clients.ensures.len)
    in
    record {
      group = record {
        said = written.said;
        clients = subst (AreClients S.shape.clients (client_out S book H walk.sides F c.args.turn))
            (sym (with_items_is group.clients clients counted)) c.in_ok-reads.ensures.clients;
      };
      ledger = subst (λ (ps : List Placed). Keeps S.shape ps c.write.new.taker)
          (turn-done S words H c.args.turn) c.in_ok-write.ensures.taker;
      reads =
          c.in_ok-append.ensures.items
          ∙ ap₂ (λ (xs ys : List ReadFrame). xs ++ ys) c.requires.fold.reads
          c.in_ok-reads.ensures.reads
          ∙ sym (reads-next S.shape book H (pair_in S book H walk.sides F) walk.sides.seen c.args.turn);
    }
