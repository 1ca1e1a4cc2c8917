-- What is seen of a turn stands after what was seen before it.
use Rattle.std.proofs.Common.{◌∙◌, ap, subst, length}
use Rattle.tk_words.specs.Words.{words_of}
use Rattle.tk_frames.specs.InOrder.{IsOrder}
use Rattle.tk_report.specs.Clients.{known_first}
use Rattle.tk_report.specs.Turns.{placed_before}
use Rattle.tk_report.proofs.Offers.{turn-done}
use Rattle.tk_privacy.proofs.EnteringLaws.{entered-none, frames-next}
use Rattle.tk_privacy.proofs.server_view.view_turn.Goals as goal

pub write-requires-clause-group : goal.write-requires-clause-group
write-requires-clause-group g c κs within =
    record { knows = known_first c.args.plan.now.script.now; is = c.requires.viewed.group }

pub write-requires-clause-taker : goal.write-requires-clause-taker
write-requires-clause-taker g c κs within =
    let S = c.args.plan.now.script.now in
    let words = words_of S.shape (g.D.Draws.book c.args.plan.now.draws.now) in
    entered-none S.shape (placed_before S words c.args.plan.now.history.now c.args.turn)
    c.args.viewed.now.seen c.requires.viewed.entered

pub returns : goal.returns
returns g c =
    let S = c.args.plan.now.script.now in
    let words = words_of S.shape (g.D.Draws.book c.args.plan.now.draws.now) in
    let H = c.args.plan.now.history.now in
    let entered = c.in_ok-write.ensures.taker in
    let done = turn-done S words H c.args.turn in
    let asked = c.in_ok-ask.ensures in
    record {
      group = c.in_ok-write.ensures.group (known_first S) c.requires.viewed.group;
      entered = record {
        order = subst (IsOrder S.shape) done entered.order;
        count = asked.entries ∙ entered.count ∙ ap length done;
      };
      frames = frames-next S words H c.args.reads.now c.args.turn
          c.args.viewed.now.seen.frames.items c.write.new.taker.frames.items
          c.ask.new.self.frames.items c.requires.viewed.frames entered.frames asked.frames;
    }
