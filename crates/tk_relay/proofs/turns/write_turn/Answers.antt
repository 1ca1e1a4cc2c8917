-- What is pinned stands for the entries before its mark, and all have ordered those of the turn.
use Rattle.std.proofs.Common.{◌≡◌, ◌∙◌, List, arith, length, sym, subst, Some, slice_get}
use Rattle.std.specs.Arc.{arc_value}
use Rattle.std.proofs.lemmas.List.{with_items_is}
use Rattle.tk_words.specs.Words.{words_of}
use Rattle.tk_cluster.specs.Passes.{Passing}
use Rattle.tk_report.specs.Clients.{known_before}
use Rattle.tk_report.specs.Turns.{placed_before}
use Rattle.tk_relay.specs.Ordered.{HaveOrdered}
use Rattle.tk_relay.proofs.TakenLaws.{taken-none}
use Rattle.tk_relay.proofs.WrittenLaws.{epoch-last, group-before, turn-written}
use Rattle.tk_relay.proofs.turns.write_turn.Goals as goal

pub pin_all-requires : goal.pin_all-requires
pin_all-requires g c =
    let S = c.args.plan.now.script.now in
    let book = g.D.Draws.book c.args.plan.now.draws.now in
    let H = c.args.plan.now.history.now in
    let E = placed_before S (words_of S.shape book) H c.args.turn in
    let p = c.args.run.now.servers.publisher in (
      E,
      p,
      subst (λ (xs : List Passing). HaveOrdered g.B.Naming.shape E xs p)
          (sym c.as_mut_slice-passes.ensures.value) c.requires.run.ordered,
      c.epoch-epoch.ensures
          ∙ epoch-last S book H c.args.turn c.args.plan.now.legal c.requires.serial c.requires.turn_in,
    )

pub write-requires-clause-group : goal.write-requires-clause-group
write-requires-clause-group g c κs within =
    let S = c.args.plan.now.script.now in
    let book = g.D.Draws.book c.args.plan.now.draws.now in
    record {
      knows = known_before S (words_of S.shape book) c.args.plan.now.history.now c.args.turn;
      is = group-before c.requires.run;
    }

pub write-requires-clause-taker : goal.write-requires-clause-taker
write-requires-clause-taker g c κs within =
    let own = g.B.Naming.shape in
    let S = c.args.plan.now.script.now in
    let book = g.D.Draws.book c.args.plan.now.draws.now in
    let H = c.args.plan.now.history.now in
    let E = placed_before S (words_of S.shape book) H c.args.turn in
    let p = c.args.run.now.servers.publisher in
    let list = c.args.run.now.servers.passes in
    let passes = c.pin_all.new.passes in
    let counted : length passes ≡ list.len =
    omega (arith, c.pin_all.auto.passes, c.as_mut_slice-passes.ensures.len)
    in
    let last = c.epoch-epoch.ensures
    ∙ epoch-last S book H c.args.turn c.args.plan.now.legal c.requires.serial c.requires.turn_in
    in
    let before = subst (λ (xs : List Passing). HaveOrdered own E xs p)
    (sym c.as_mut_slice-passes.ensures.value) c.requires.run.ordered
    in
    taken-none own S.shape E _ p _ _ c.requires.run.same
    (subst (λ (xs : List Passing). HaveOrdered own E xs p) (sym (with_items_is list passes counted))
    (c.in_ok-set.ensures.ordered E p before last))
    c.requires.run.counted c.clear.ensures.items

pub returns : goal.returns
returns g c =
    let own = g.B.Naming.shape in
    let S = c.args.plan.now.script.now in
    let book = g.D.Draws.book c.args.plan.now.draws.now in
    let H = c.args.plan.now.history.now in
    let turn = c.args.turn in
    let E = placed_before S (words_of S.shape book) H turn in
    let p = c.args.run.now.servers.publisher in
    let last = epoch-last S book H turn c.args.plan.now.legal c.requires.serial c.requires.turn_in in
    let before = subst (λ (xs : List Passing). HaveOrdered own E xs p)
    (sym c.as_mut_slice-passes.ensures.value) c.requires.run.ordered
    in
    let group = c.write.new.self in
    let wrote = c.write.new.taker in
    let now = c.meet.new.self in
    let set = arc_value c.in_ok-set.set in
    let met = c.meet.ensures.met in
    rw (c.meet.ensures.taken, c.meet.ensures.seen)
    (turn-written c.requires.run wrote.passes.items now.passes.items wrote.publisher now.publisher
    wrote.taken wrote.seen.items set group c.stands.ensures.shows last
    (subst (λ n. slice_get p.shown n ≡ Some set) c.epoch-epoch.ensures
    (c.in_ok-set.ensures.set E p before (c.epoch-epoch.ensures ∙ last)))
    (c.in_ok-write.ensures.group (known_before S (words_of S.shape book) H turn)
    (group-before c.requires.run))
    c.in_ok-write.ensures.taker met)
