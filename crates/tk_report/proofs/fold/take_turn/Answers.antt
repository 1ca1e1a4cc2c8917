-- What a turn does leaves all as it is before the next one.
use Rattle.std.proofs.Common.{◌≡◌, ◌+◌, List, sym, subst, arith, length, append-nil}
use Rattle.std.proofs.lemmas.List.{with_items_is}
use Rattle.tk_words.specs.Words.{words_of}
use Rattle.tk_frames.specs.declared.entry.Placed.{Placed}
use Rattle.tk_report.specs.Clients.{AreFollowers, known_first, follower_before}
use Rattle.tk_report.specs.Ledgers.{Keeps}
use Rattle.tk_report.specs.Turns.{placed_before}
use Rattle.tk_report.proofs.ComingLaws.{turn-done}
use Rattle.tk_report.proofs.fold.take_turn.Goals as goal

pub write-requires-clause-group : goal.write-requires-clause-group
write-requires-clause-group g c κs within =
    record { knows = known_first c.args.plan.now.script.now; is = c.requires.fold.group }

pub write-requires-clause-taker : goal.write-requires-clause-taker
write-requires-clause-taker g c κs within =
    let S = c.args.plan.now.script.now in
    let words = words_of S.shape (g.D.Draws.book c.args.plan.now.draws.now) in
    let E = placed_before S words c.args.plan.now.history.now c.args.turn in
    subst (λ (ps : List Placed). Keeps S.shape ps c.args.fold.now.ledger) (sym (append-nil E))
    c.requires.fold.ledger

pub read_turn-requires-clause-ledger : goal.read_turn-requires-clause-ledger
read_turn-requires-clause-ledger g c κs within =
    let S = c.args.plan.now.script.now in
    let words = words_of S.shape (g.D.Draws.book c.args.plan.now.draws.now) in
    let H = c.args.plan.now.history.now in
    subst (λ (ps : List Placed). Keeps S.shape ps c.write.new.taker)
    (turn-done S words H c.args.turn) c.in_ok-write.ensures.taker

pub returns : goal.returns
returns g c =
    let S = c.args.plan.now.script.now in
    let words = words_of S.shape (g.D.Draws.book c.args.plan.now.draws.now) in
    let H = c.args.plan.now.history.now in
    let was = c.args.fold.now in
    let followers = c.read_turn.new.followers in
    let looked : length followers ≡ was.followers.len =
    omega (arith, c.read_turn.auto.followers, c.as_mut_slice-followers.ensures.len)
    in
    record {
      group = c.in_ok-write.ensures.group (known_first S) c.requires.fold.group;
      followers = subst (AreFollowers S.shape.clients
          (follower_before S words H (c.args.turn + 1)))
          (sym (with_items_is was.followers followers looked)) c.in_ok-read_turn.ensures.followers;
      ledger = subst (λ (ps : List Placed). Keeps S.shape ps c.write.new.taker)
          (turn-done S words H c.args.turn) c.in_ok-write.ensures.taker;
    }
