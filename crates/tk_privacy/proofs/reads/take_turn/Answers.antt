-- What a turn does leaves all as it is before the next one.
use Rattle.std.proofs.Common.{◌≡◌, ◌+◌, ◌++◌, ◌∙◌, List, ap₂, sym, subst, arith, length, append-nil}
use Rattle.std.proofs.lemmas.List.{with_items_is}
use Rattle.tk_words.specs.Words.{words_of}
use Rattle.tk_frames.specs.declared.read_frame.ReadFrame.{ReadFrame}
use Rattle.tk_frames.specs.declared.entry.Placed.{Placed}
use Rattle.tk_report.specs.Clients.{AreFollowers, follower_before, known_first}
use Rattle.tk_report.specs.Ledgers.{Keeps}
use Rattle.tk_report.specs.Turns.{placed_before}
use Rattle.tk_report.proofs.Offers.{turn-done}
use Rattle.tk_privacy.specs.Privacy.{pairs_read}
use Rattle.tk_privacy.proofs.ReadsLaws.{reads-next}
use Rattle.tk_privacy.proofs.reads.take_turn.Goals as goal

pub write-requires-clause-group : goal.write-requires-clause-group
write-requires-clause-group g c κs within =
    record { knows = known_first c.args.plan.now.script.now; is = c.requires.fold.group }

pub write-requires-clause-taker : goal.write-requires-clause-taker
write-requires-clause-taker g c κs within =
    let S = c.args.plan.now.script.now in
    let words = words_of S.shape (g.D.Draws.book c.args.plan.now.draws.now) in
    let E = placed_before S words c.args.plan.now.history.now c.args.spot.turn in
    subst (λ (ps : List Placed). Keeps S.shape ps c.args.fold.now.ledger) (sym (append-nil E))
    c.requires.fold.ledger

pub read_turn-requires-clause-ledger : goal.read_turn-requires-clause-ledger
read_turn-requires-clause-ledger g c κs within =
    let S = c.args.plan.now.script.now in
    let words = words_of S.shape (g.D.Draws.book c.args.plan.now.draws.now) in
    let H = c.args.plan.now.history.now in
    subst (λ (ps : List Placed). Keeps S.shape ps c.write.new.taker)
    (turn-done S words H c.args.spot.turn) c.in_ok-write.ensures.taker

pub ask_turn-requires-clause-ledger : goal.ask_turn-requires-clause-ledger
ask_turn-requires-clause-ledger g c κs within =
    let S = c.args.plan.now.script.now in
    let words = words_of S.shape (g.D.Draws.book c.args.plan.now.draws.now) in
    let H = c.args.plan.now.history.now in
    subst (λ (ps : List Placed). Keeps S.shape ps c.write.new.taker)
    (turn-done S words H c.args.spot.turn) c.in_ok-write.ensures.taker

pub returns : goal.returns
returns g c =
    let S = c.args.plan.now.script.now in
    let book = g.D.Draws.book c.args.plan.now.draws.now in
    let words = words_of S.shape book in
    let H = c.args.plan.now.history.now in
    let spot = c.args.spot in
    let next = spot.turn + 1 in
    let was = c.args.fold.now in
    let followers = c.read_turn.new.followers in
    let looked : length followers ≡ was.followers.len =
    omega (
      arith,
      c.read_turn.auto.followers,
      c.ask_turn.auto.followers,
      c.as_mut_slice-followers.ensures.len,
    )
    in
    record {
      group = c.in_ok-write.ensures.group (known_first S) c.requires.fold.group;
      followers = subst (AreFollowers S.shape.clients (follower_before S words H next))
          (sym (with_items_is was.followers followers looked)) c.in_ok-read_turn.ensures.followers;
      ledger = subst (λ (ps : List Placed). Keeps S.shape ps c.write.new.taker)
          (turn-done S words H spot.turn) c.in_ok-write.ensures.taker;
      reads =
          c.in_ok-append.ensures.items
          ∙ ap₂ (λ (xs ys : List ReadFrame). xs ++ ys) c.requires.fold.reads
          c.in_ok-asked.ensures.asked
          ∙ sym (reads-next S.shape book H (pairs_read S book H) spot.server spot.turn);
    }
