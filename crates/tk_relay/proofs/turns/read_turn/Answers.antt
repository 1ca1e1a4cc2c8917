-- All clients read one epoch, of which each server has its blocks.
use Rattle.std.proofs.Common.{◌≡◌, ◌∙◌, ◌+◌, ap, sym, subst, arith, length}
use Rattle.std.specs.Prelude.{All}
use Rattle.std.proofs.lemmas.List.{with_items_is}
use Rattle.tk_shape.specs.declared.shape.Shape.{Shape}
use Rattle.tk_words.specs.Words.{IsBook, words_of}
use Rattle.tk_report.specs.Turns.{placed_before}
use Rattle.tk_relay.specs.Pads.{Padding}
use Rattle.tk_relay.specs.Reads.{HasAllParts}
use Rattle.tk_relay.specs.Running.{AreRelayed}
use Rattle.tk_relay.proofs.Paddings.{paddings-counted, paddings-shape}
use Rattle.tk_relay.proofs.RelayedReads.{all-whole, turn-served}
use Rattle.tk_relay.proofs.turns.read_turn.Goals as goal

pub ask_all-requires-clause-counted : goal.ask_all-requires-clause-counted
ask_all-requires-clause-counted g c κs within =
    let S = c.args.plan.now.script.now in
    paddings-counted S.shape c.args.seeds.now c.args.turn c.as_slice-pads.result.now
    (c.as_slice-pads.ensures.value ∙ c.in_ok-keyed.ensures)
    ∙ c.requires.seeds

pub ask_all-requires-clause-pads : goal.ask_all-requires-clause-pads
ask_all-requires-clause-pads g c κs within =
    (c.args.seeds.now, c.as_slice-pads.ensures.value ∙ c.in_ok-keyed.ensures)

pub serve_all-requires-clause-counted : goal.serve_all-requires-clause-counted
serve_all-requires-clause-counted g c =
    let S = c.args.plan.now.script.now in
    paddings-counted S.shape c.args.seeds.now c.args.turn c.as_slice-pads.result.now
    (c.as_slice-pads.ensures.value ∙ c.in_ok-keyed.ensures)
    ∙ c.requires.seeds
    ∙ sym (ap length c.as_mut_slice.ensures.value
    ∙ (c.in_ok-reads.ensures.reads c.args.seeds.now
    (c.as_slice-pads.ensures.value ∙ c.in_ok-keyed.ensures)).counted)

pub serve_all-requires-clause-one_shape : goal.serve_all-requires-clause-one_shape
serve_all-requires-clause-one_shape g c =
    let S = c.args.plan.now.script.now in
    subst (λ (shape : Shape). All (λ (p : Padding). p.shape ≡ shape) c.as_slice-pads.result.now)
    (sym c.requires.set.same)
    (paddings-shape S.shape c.args.seeds.now c.args.turn c.as_slice-pads.result.now
    (c.as_slice-pads.ensures.value ∙ c.in_ok-keyed.ensures))

pub serve_all-requires-clause-whole : goal.serve_all-requires-clause-whole
serve_all-requires-clause-whole g c =
    let S = c.args.plan.now.script.now in
    let book = g.D.Draws.book c.args.plan.now.draws.now in
    let world = g.world in
    let laws = g.met.D.Draws world.𝓛 world.𝓜 world.𝓡 ((λ s x. x), (λ x. x), (λ x. x), λ x. x) in
    let serves =
    subst (λ (shape : Shape). IsBook shape book) c.args.plan.now.one_shape
    (laws.serves c.args.plan.now.draws.now)
    in
    subst (λ (shape : Shape). All (HasAllParts shape) c.as_mut_slice.result.now)
    (sym c.requires.set.same)
    (subst (All (HasAllParts S.shape)) (sym c.as_mut_slice.ensures.value)
    (all-whole serves c.args.plan.now.legal c.requires.turn_in
    (c.in_ok-reads.ensures.reads c.args.seeds.now (c.as_slice-pads.ensures.value ∙ c.in_ok-keyed.ensures))))

pub take_all-requires-clause-counted : goal.take_all-requires-clause-counted
take_all-requires-clause-counted g c κs within =
    let S = c.args.plan.now.script.now in
    paddings-counted S.shape c.args.seeds.now c.args.turn c.as_slice-pads.result.now
    (c.as_slice-pads.ensures.value ∙ c.in_ok-keyed.ensures)
    ∙ c.requires.seeds

pub take_all-requires-clause-reads : goal.take_all-requires-clause-reads
take_all-requires-clause-reads g c κs within =
    let S = c.args.plan.now.script.now in
    let book = g.D.Draws.book c.args.plan.now.draws.now in
    let words = words_of S.shape book in
    let H = c.args.plan.now.history.now in
    let turn = c.args.turn in
    let seeds = c.args.seeds.now in
    let E = placed_before S words H (turn + 1) in
    let pads = c.as_slice-pads.result.now in
    let own = c.as_slice-pads.ensures.value ∙ c.in_ok-keyed.ensures in
    let new = c.serve_all.new.reads in
    let counted : length new ≡ c.in_ok-reads.reads.len =
    omega (arith, c.serve_all.auto.reads, c.as_mut_slice.ensures.len)
    in
    let relayed = turn-served S book seeds H turn c.args.set.now.number pads
    c.as_mut_slice.result.now new c.args.plan.now.legal c.requires.serial c.requires.turn_in
    c.requires.epoch own
    (paddings-counted S.shape seeds turn pads own ∙ c.requires.seeds)
    (subst (AreRelayed S book seeds H turn 0) (sym c.as_mut_slice.ensures.value)
    (c.in_ok-reads.ensures.reads seeds own))
    (c.in_ok-serve_all.ensures S.shape E c.requires.set)
    in (
      seeds,
      own,
      subst (AreRelayed S book seeds H turn S.shape.servers)
          (sym (c.as_slice.ensures.value ∙ with_items_is c.in_ok-reads.reads new counted)) relayed,
    )

pub returns-clause-reads : goal.returns-clause-reads
returns-clause-reads g c =
    let S = c.args.plan.now.script.now in
    let book = g.D.Draws.book c.args.plan.now.draws.now in
    let words = words_of S.shape book in
    let H = c.args.plan.now.history.now in
    let turn = c.args.turn in
    let seeds = c.args.seeds.now in
    let E = placed_before S words H (turn + 1) in
    let pads = c.as_slice-pads.result.now in
    let own = c.as_slice-pads.ensures.value ∙ c.in_ok-keyed.ensures in
    let new = c.serve_all.new.reads in
    let counted : length new ≡ c.in_ok-reads.reads.len =
    omega (arith, c.serve_all.auto.reads, c.as_mut_slice.ensures.len)
    in
    let relayed = turn-served S book seeds H turn c.args.set.now.number pads
    c.as_mut_slice.result.now new c.args.plan.now.legal c.requires.serial c.requires.turn_in
    c.requires.epoch own
    (paddings-counted S.shape seeds turn pads own ∙ c.requires.seeds)
    (subst (AreRelayed S book seeds H turn 0) (sym c.as_mut_slice.ensures.value)
    (c.in_ok-reads.ensures.reads seeds own))
    (c.in_ok-serve_all.ensures S.shape E c.requires.set)
    in
    subst (AreRelayed S book seeds H turn S.shape.servers)
    (sym (with_items_is c.in_ok-reads.reads new counted)) relayed
