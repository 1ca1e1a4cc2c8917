-- The client at the place asks, and its read goes on its way.
use Rattle.std.proofs.Common.{◌∙◌, ◌<◌, ◌≤◌, List, refl, arith, ap, sym, subst, length, length-set}
use Rattle.std.specs.List.{AllByRecursion}
use Rattle.tk_shape.specs.declared.shape.Shape.{Shape}
use Rattle.tk_words.specs.Words.{IsBook}
use Rattle.tk_frames.specs.declared.read_frame.ReadFrame.{ReadFrame}
use Rattle.tk_frames.specs.Ranges.{IsRead}
use Rattle.tk_lists.proofs.Offers.{length-next}
use Rattle.tk_report.proofs.Offers.{split-none, split-next, split-all}
use Rattle.tk_relay.specs.Bundles.{AreOneRead}
use Rattle.tk_relay.specs.Pads.{Padding, ArePads}
use Rattle.tk_relay.specs.Reads.{IsSplitRead}
use Rattle.tk_relay.specs.Relayed.{frames_read}
use Rattle.tk_relay.specs.Running.{IsRelayed}
use Rattle.tk_relay.proofs.AskedTurns.{one-read, reads-in_range}
use Rattle.tk_relay.proofs.Paddings.{padding-at, padding-masks, paddings-shape}
use Rattle.tk_relay.proofs.RelayedReads.{one-epoch, sent-relayed}
use Rattle.tk_relay.proofs.Sent.{each-next}
use Rattle.tk_relay.proofs.asked_reads.ask_all.Goals as goal

pub asking-init : goal.asking-init
asking-init g c =
    let none = ap length c.new-reads.ensures.items in
    record {
      counted = refl;
      clients = split-none c.requires.clients.each;
      sent = none;
      reads = λ seeds are k d low. absurd (omega (arith, low, none));
    }

pub ask-requires-clause-number_in : goal.ask-requires-clause-number_in
ask-requires-clause-number_in g c κs met =
    omega (
      arith,
      c.asking-test.true,
      c.asking.invariant.counted,
      c.requires.clients.counted,
    )

pub ask-requires-clause-client : goal.ask-requires-clause-client
ask-requires-clause-client g c κs met =
    let so_far = c.asking.invariant in
    so_far.clients.due_are c.asking.i c.index-clients-i.result (omega arith)
    (omega (arith, c.asking-test.true, so_far.counted))

pub ask-requires-clause-epoch : goal.ask-requires-clause-epoch
ask-requires-clause-epoch g c κs met =
    let S = c.args.plan.now.script.now in
    c.requires.epoch
    ∙ one-epoch S.shape c.args.plan.now.history.now c.args.turn c.asking.i c.requires.serial
    c.requires.turn_in (omega (
      arith,
      c.asking-test.true,
      c.asking.invariant.counted,
      c.requires.clients.counted,
    ))

pub bounds-pads-i : goal.bounds-pads-i
bounds-pads-i g c =
    omega (
      arith,
      c.asking-test.true,
      c.asking.invariant.counted,
      c.requires.clients.counted,
      c.requires.counted,
    )

pub send-requires-clause-one_shape : goal.send-requires-clause-one_shape
send-requires-clause-one_shape g c =
    let S = c.args.plan.now.script.now in
    ap (λ (p : Padding). p.shape) c.index-pads-i.is
    ∙ paddings-shape S.shape c.requires.pads.0 c.args.turn c.args.pads.now c.requires.pads.1
    c.asking.i c.index-pads-i.result (omega (
      arith,
      c.asking-test.true,
      c.asking.invariant.counted,
      c.requires.clients.counted,
      c.requires.counted,
    ))

pub send-requires-clause-masks : goal.send-requires-clause-masks
send-requires-clause-masks g c =
    let S = c.args.plan.now.script.now in
    subst (λ (p : Padding). ArePads S.shape p.pads) (sym c.index-pads-i.is)
    (padding-masks S.shape c.requires.pads.0 c.args.turn c.args.pads.now c.requires.pads.1
    c.asking.i c.index-pads-i.result (omega (
      arith,
      c.asking-test.true,
      c.asking.invariant.counted,
      c.requires.clients.counted,
      c.requires.counted,
    )))

pub send-requires-clause-one_read : goal.send-requires-clause-one_read
send-requires-clause-one_read g c =
    let S = c.args.plan.now.script.now in
    let book = g.D.Draws.book c.args.plan.now.draws.now in
    let H = c.args.plan.now.history.now in
    let world = g.world in
    let laws = g.met.D.Draws world.𝓛 world.𝓜 world.𝓡 ((λ s x. x), (λ x. x), (λ x. x), λ x. x) in
    let serves =
    subst (λ (shape : Shape). IsBook shape book) c.args.plan.now.one_shape
    (laws.serves c.args.plan.now.draws.now)
    in
    subst (AreOneRead S.shape) (sym (c.as_slice.ensures.value ∙ c.in_ok-frames.ensures.frames))
    (one-read S book H c.args.turn c.asking.i
    (reads-in_range S book H c.args.turn c.asking.i serves c.args.plan.now.legal c.requires.turn_in
    (omega (
      arith,
      c.asking-test.true,
      c.asking.invariant.counted,
      c.requires.clients.counted,
    ))))

pub send-requires-clause-in_range : goal.send-requires-clause-in_range
send-requires-clause-in_range g c =
    let S = c.args.plan.now.script.now in
    let book = g.D.Draws.book c.args.plan.now.draws.now in
    let H = c.args.plan.now.history.now in
    let world = g.world in
    let laws = g.met.D.Draws world.𝓛 world.𝓜 world.𝓡 ((λ s x. x), (λ x. x), (λ x. x), λ x. x) in
    let serves =
    subst (λ (shape : Shape). IsBook shape book) c.args.plan.now.one_shape
    (laws.serves c.args.plan.now.draws.now)
    in
    subst (AllByRecursion (IsRead S.shape))
    (sym (c.as_slice.ensures.value ∙ c.in_ok-frames.ensures.frames))
    (reads-in_range S book H c.args.turn c.asking.i serves c.args.plan.now.legal c.requires.turn_in
    (omega (
      arith,
      c.asking-test.true,
      c.asking.invariant.counted,
      c.requires.clients.counted,
    )))

pub asking-preserved : goal.asking-preserved
asking-preserved g c =
    let S = c.args.plan.now.script.now in
    let book = g.D.Draws.book c.args.plan.now.draws.now in
    let H = c.args.plan.now.history.now in
    let turn = c.args.turn in
    let i = c.asking.i in
    let clients = c.asking.clients in
    let so_far = c.asking.invariant in
    let within : i < length clients = omega (arith, c.asking-test.true, so_far.counted) in
    let low : i < length c.args.pads.now =
    omega (arith, within, so_far.counted, c.requires.clients.counted, c.requires.counted)
    in
    let read = c.in_ok-send.field-0 in
    let pushed = c.in_ok-push.ensures.items in
    record {
      counted = length-set clients i c.ask.new.client ∙ so_far.counted;
      clients = split-next c.ask.new.client so_far.clients within c.in_ok-frames.ensures.client;
      sent = length-next c.asking.reads.items c.push.new.self.items read i pushed so_far.sent;
      reads = λ seeds are.
          let own = c.index-pads-i.is
          ∙ padding-at S.shape seeds turn c.args.pads.now are i c.index-pads-i.result low
          in
          let sent =
          subst (λ (p : Padding). IsSplitRead S.shape (frames_read S book H turn i) p.pads read) own
          (subst (λ (frames : List ReadFrame). IsSplitRead S.shape frames c.index-pads-i.result.pads read)
          (c.as_slice.ensures.value ∙ c.in_ok-frames.ensures.frames) c.in_ok-send.ensures)
          in
          each-next (λ k r. IsRelayed S book seeds H turn 0 k r) c.asking.reads.items
          c.push.new.self.items read i pushed so_far.sent (so_far.reads seeds are)
          (sent-relayed S book seeds H turn i read sent);
    }

pub returns-clause-clients : goal.returns-clause-clients
returns-clause-clients g c =
    let so_far = c.asking.invariant in
    let ended : length c.asking.clients ≤ c.asking.i =
    omega (arith, c.asking-test.false, so_far.counted)
    in
    record {
      counted = so_far.counted ∙ c.requires.clients.counted;
      each = split-all so_far.clients ended;
    }

pub returns-clause-reads : goal.returns-clause-reads
returns-clause-reads g c = λ seeds are.
    let so_far = c.asking.invariant in
    record {
      counted = omega (
        arith,
        c.asking-test.false,
        so_far.counted,
        so_far.sent,
        c.requires.clients.counted,
      );
      each = so_far.reads seeds are;
    }
