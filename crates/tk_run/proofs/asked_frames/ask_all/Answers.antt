-- The client at the place asks, and its frames are dealt to the lists of the servers.
use Rattle.std.proofs.Common.{◌≡◌, ◌∙◌, ◌+◌, ◌<◌, ◌≤◌, ℕ, refl, arith, ap, sym, subst, length, length-set}
use Rattle.std.proofs.lemmas.List.{with_items_is}
use Rattle.tk_run.specs.Rows.{AreRows, no_frames}
use Rattle.tk_run.specs.Under.{posed}
use Rattle.tk_report.proofs.Offers.{split-none, split-next, split-all}
use Rattle.tk_run.proofs.RowsLaws.{rows-same}
use Rattle.tk_run.proofs.UnderLaws.{posed-none, rows-asked}
use Rattle.tk_run.proofs.asked_frames.ask_all.Goals as goal

pub asking-init : goal.asking-init
asking-init g c =
    let S = c.args.plan.now.script.now in
    let book = g.D.Draws.book c.args.plan.now.draws.now in
    let H = c.args.plan.now.history.now in
    let turn = c.args.turn in
    record {
      counted = refl;
      each = c.in_ok-rows.ensures.counted;
      clients = split-none c.requires.clients.each;
      asked = λ V Es tells stands are. split-none are.each;
      posed = λ V Es tells stands are.
          rows-same S.shape.servers no_frames (posed S book H V turn 0) c.in_ok-rows.rows.items
          (λ i. posed-none S book H V turn i) c.in_ok-rows.ensures;
    }

pub ask-requires-clause-client_in : goal.ask-requires-clause-client_in
ask-requires-clause-client_in g c κs met =
    omega (
      arith,
      c.asking-test.true,
      c.asking.invariant.counted,
      c.requires.clients.counted,
    )

pub ask-requires-clause-client : goal.ask-requires-clause-client
ask-requires-clause-client g c κs met =
    let i = c.asking.i in
    let clients = c.asking.clients in
    let d = c.index-clients-i.result in
    let within : i < length clients =
    omega (arith, c.asking-test.true, c.asking.invariant.counted)
    in
    c.asking.invariant.clients.due_are i d (omega arith) within

pub asking-preserved : goal.asking-preserved
asking-preserved g c =
    let S = c.args.plan.now.script.now in
    let book = g.D.Draws.book c.args.plan.now.draws.now in
    let H = c.args.plan.now.history.now in
    let turn = c.args.turn in
    let i = c.asking.i in
    let clients = c.asking.clients in
    let d = c.index-clients-i.result in
    let so_far = c.asking.invariant in
    let within : i < length clients = omega (arith, c.asking-test.true, so_far.counted) in
    let asked = c.in_ok-frames.ensures in
    let counted : length c.deal.new.rows ≡ c.asking.rows.len =
    omega (arith, c.deal.auto.rows, c.as_mut_slice.ensures.len)
    in
    let back = with_items_is c.asking.rows c.deal.new.rows counted in
    record {
      counted = length-set clients i c.ask.new.client ∙ so_far.counted;
      each =
          ap length back ∙ c.in_ok-deal.ensures.counted ∙ ap length c.as_mut_slice.ensures.value
          ∙ so_far.each;
      clients = split-next c.ask.new.client so_far.clients within asked.client;
      asked = λ V Es tells stands are.
          let split = so_far.asked V Es tells stands are in
          split-next c.ask.new.client split within
          (asked.asked V Es tells stands (split.due_are i d (omega arith) within));
      posed = λ V Es tells stands are.
          let split = so_far.asked V Es tells stands are in
          subst (AreRows S.shape.servers (posed S book H V turn (i + 1))) (sym back)
          (rows-asked S book H V turn i c.as_mut_slice.result.now c.deal.new.rows
          c.in_ok-frames.frames.items
          (subst (AreRows S.shape.servers (posed S book H V turn i)) (sym c.as_mut_slice.ensures.value)
          (so_far.posed V Es tells stands are))
          (asked.frames V Es tells stands (split.due_are i d (omega arith) within))
          c.in_ok-deal.ensures);
    }

pub returns-clause-clients : goal.returns-clause-clients
returns-clause-clients g c =
    let so_far = c.asking.invariant in
    let ended : length c.asking.clients ≤ c.asking.i =
    omega (arith, c.asking-test.false, so_far.counted)
    in
    record {
      counted = so_far.counted ∙ c.requires.clients.counted;
      each = split-all so_far.clients ended;
    }

pub returns-clause-asked : goal.returns-clause-asked
returns-clause-asked g c V Es tells stands are =
    let so_far = c.asking.invariant in
    let ended : length c.asking.clients ≤ c.asking.i =
    omega (arith, c.asking-test.false, so_far.counted)
    in
    record {
      counted = so_far.counted ∙ c.requires.clients.counted;
      each = split-all (so_far.asked V Es tells stands are) ended;
    }

pub returns-clause-posed : goal.returns-clause-posed
returns-clause-posed g c V Es tells stands are =
    let S = c.args.plan.now.script.now in
    let book = g.D.Draws.book c.args.plan.now.draws.now in
    let H = c.args.plan.now.history.now in
    let so_far = c.asking.invariant in
    let all : c.asking.i ≡ S.shape.clients =
    omega (arith, c.asking-test.false, so_far.counted, c.requires.clients.counted)
    in
    subst (λ (n : ℕ). AreRows S.shape.servers (posed S book H V c.args.turn n) c.asking.rows.items)
    all (so_far.posed V Es tells stands are)
