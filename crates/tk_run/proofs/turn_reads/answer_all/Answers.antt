-- The server at the place answers, and its replies are dealt to the lists of the clients.
use Rattle.std.proofs.Common.{◌≡◌, ◌∙◌, ◌+◌, ◌<◌, ◌≤◌, ℕ, refl, arith, ap, sym, subst, length, length-set}
use Rattle.std.proofs.lemmas.List.{with_items_is}
use Rattle.tk_words.specs.Words.{words_of}
use Rattle.tk_report.specs.Turns.{placed_before}
use Rattle.tk_run.specs.Rows.{AreRows, no_frames}
use Rattle.tk_run.specs.Under.{replied_under}
use Rattle.tk_report.proofs.Offers.{split-none, split-next, split-all}
use Rattle.tk_run.proofs.RowsLaws.{rows-same}
use Rattle.tk_run.proofs.UnderLaws.{replied-none, rows-replied}
use Rattle.tk_run.proofs.turn_reads.answer_all.Goals as goal

pub answering-init : goal.answering-init
answering-init g c =
    let S = c.args.plan.now.script.now in
    let book = g.D.Draws.book c.args.plan.now.draws.now in
    let H = c.args.plan.now.history.now in
    let turn = c.args.turn in
    record {
      counted = refl;
      each = c.in_ok-rows.ensures.counted;
      ready = split-none c.requires.servers.each;
      rows = λ V Es tells asked are.
          rows-same S.shape.clients no_frames (replied_under S book H V turn 0) c.in_ok-rows.rows.items
          (λ k. replied-none S book H V turn k) c.in_ok-rows.ensures;
      servers = λ V Es tells asked are. split-none are.each;
    }

pub answer_one-requires-clause-server_in : goal.answer_one-requires-clause-server_in
answer_one-requires-clause-server_in g c κs met =
    omega (
      arith,
      c.answering-test.true,
      c.answering.invariant.counted,
      c.requires.servers.counted,
    )

pub answering-preserved : goal.answering-preserved
answering-preserved g c =
    let S = c.args.plan.now.script.now in
    let book = g.D.Draws.book c.args.plan.now.draws.now in
    let H = c.args.plan.now.history.now in
    let turn = c.args.turn in
    let E = placed_before S (words_of S.shape book) H (turn + 1) in
    let i = c.answering.i in
    let servers = c.answering.servers in
    let d = c.index-servers-i.result in
    let so_far = c.answering.invariant in
    let within : i < length servers = omega (arith, c.answering-test.true, so_far.counted) in
    let answered = c.in_ok-replies.ensures in
    let counted : length c.deal.new.rows ≡ c.answering.rows.len =
    omega (arith, c.deal.auto.rows, c.as_mut_slice.ensures.len)
    in
    let back = with_items_is c.answering.rows c.deal.new.rows counted in
    let place : i < length c.args.asked.now =
    omega (arith, within, so_far.counted, c.requires.servers.counted, c.requires.asked)
    in
    record {
      counted = length-set servers i c.answer_one.new.server ∙ so_far.counted;
      each =
          ap length back ∙ c.in_ok-deal.ensures.counted ∙ ap length c.as_mut_slice.ensures.value
          ∙ so_far.each;
      ready =
          split-next c.answer_one.new.server so_far.ready within
          (answered.ready S.shape E (so_far.ready.due_are i d (omega arith) within));
      rows = λ V Es tells asked are.
          let split = so_far.servers V Es tells asked are in
          subst (AreRows S.shape.clients (replied_under S book H V turn (i + 1))) (sym back)
          (rows-replied S book H V turn i c.as_mut_slice.result.now c.deal.new.rows
          c.in_ok-replies.replies.items
          (subst (AreRows S.shape.clients (replied_under S book H V turn i))
          (sym c.as_mut_slice.ensures.value) (so_far.rows V Es tells asked are))
          (answered.replies V Es tells
          (c.as_slice.ensures ∙ c.index-asked-i.is ∙ asked.each i c.index-asked-i.result place)
          (split.due_are i d (omega arith) within))
          c.in_ok-deal.ensures);
      servers = λ V Es tells asked are.
          let split = so_far.servers V Es tells asked are in
          split-next c.answer_one.new.server split within
          (answered.server V Es tells
          (c.as_slice.ensures ∙ c.index-asked-i.is ∙ asked.each i c.index-asked-i.result place)
          (split.due_are i d (omega arith) within));
    }

pub returns-clause-servers : goal.returns-clause-servers
returns-clause-servers g c =
    let so_far = c.answering.invariant in
    let ended : length c.answering.servers ≤ c.answering.i =
    omega (arith, c.answering-test.false, so_far.counted)
    in
    record {
      counted = so_far.counted ∙ c.requires.servers.counted;
      order = c.requires.servers.order;
      each = split-all so_far.ready ended;
    }

pub returns-clause-replies : goal.returns-clause-replies
returns-clause-replies g c V Es tells asked are =
    let S = c.args.plan.now.script.now in
    let book = g.D.Draws.book c.args.plan.now.draws.now in
    let H = c.args.plan.now.history.now in
    let turn = c.args.turn in
    let so_far = c.answering.invariant in
    let all : c.answering.i ≡ S.shape.servers =
    omega (arith, c.answering-test.false, so_far.counted, c.requires.servers.counted)
    in
    subst (λ (n : ℕ). AreRows S.shape.clients (replied_under S book H V turn n) c.answering.rows.items)
    all (so_far.rows V Es tells asked are)

pub returns-clause-servers_under : goal.returns-clause-servers_under
returns-clause-servers_under g c V Es tells asked are =
    let so_far = c.answering.invariant in
    let ended : length c.answering.servers ≤ c.answering.i =
    omega (arith, c.answering-test.false, so_far.counted)
    in
    record {
      counted = so_far.counted ∙ c.requires.servers.counted;
      each = split-all (so_far.servers V Es tells asked are) ended;
    }
