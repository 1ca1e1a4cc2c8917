-- The entry of each item is taken, and at the end all are.
use Rattle.std.proofs.Common.{◌≡◌, ◌∙◌, ◌<◌, ◌≤◌, ℕ, List, ap, sym, arith, length, get_or, take}
use Rattle.std.specs.Prelude.{slice_index_or}
use Rattle.std.proofs.lemmas.List.{get_or_default}
use Rattle.tk_schedule.specs.declared.item.Item.{Item}
use Rattle.tk_schedule.specs.declared.item.Item.TheVariants.{Client}
use Rattle.tk_schedule.specs.Schedule.{is_within, order_at, phase_of}
use Rattle.tk_words.specs.Words.{words_of}
use Rattle.tk_client.specs.Client.{ClientState}
use Rattle.tk_client.specs.Reader.{Reader}
use Rattle.tk_report.specs.Clients.{AreClients, client_told, client_after}
use Rattle.tk_report.specs.Entries.{write_at}
use Rattle.tk_report.specs.Turns.{placed_before, placed_in, entry_due}
use Rattle.tk_report.proofs.ListTests.{list_all-at}
use Rattle.tk_report.proofs.ComingLaws.{item-due}
use Rattle.tk_report.proofs.PlacingLaws.{took-none, took-more, took-all}
use Rattle.tk_report.proofs.WritingLaws.{after-none, after-next, after-all, after-item, client-below}
use Rattle.tk_report.proofs.turn_writes.write_turn.Goals as goal

pub items-init : goal.items-init
items-init g c =
    let S = c.args.plan.now.script.now in
    let words = words_of S.shape (g.D.Draws.book c.args.plan.now.draws.now) in
    let H = c.args.plan.now.history.now in
    record {
      items = c.order-item-items.ensures.order;
      clients = λ knows are. after-none S knows c.args.turn c.args.clients.now are;
      taker =
          took-none g.T.Takes.took S words H c.args.turn c.args.taker.now c.requires.taker;
    }

pub entry_of-requires-clause-due : goal.entry_of-requires-clause-due
entry_of-requires-clause-due g c κs within = λ k e is.
    let S = c.args.plan.now.script.now in
    let H = c.args.plan.now.history.now in
    let legal = c.args.plan.now.legal in
    let i = c.items.item-index in
    let so_far = c.items.invariant in
    let told = c.requires.clients in
    let are = so_far.clients told.knows told.are in
    let all = c.order-item-items.ensures.clients_in S.shape c.requires.turn_in legal in
    let low : k < S.shape.clients =
    client-below S.shape.clients c.order-item-items.result.now i k c.items-test.true is all
    in
    let order = order_at H c.args.turn in
    let inside : i < length order =
    omega (arith, c.items-test.true, ap (λ (xs : List Item). length xs) so_far.items)
    in
    let here : get_or order i (Client 0) ≡ Client k =
    ap (λ (xs : List Item). get_or xs i (Client 0)) (sym so_far.items) ∙ is
    in
    record {
      knows = told.knows;
      is = after-next S told.knows c.args.turn order i k (Client 0) c.items.clients e
          ((legal.each_turn c.args.turn c.requires.turn_in).each_once k low) inside here
          (omega (arith, low, are.counted)) are;
    }

pub place_next-requires : goal.place_next-requires
place_next-requires g c =
    let S = c.args.plan.now.script.now in
    let words = words_of S.shape (g.D.Draws.book c.args.plan.now.draws.now) in
    let H = c.args.plan.now.history.now in
    let i = c.items.item-index in
    let so_far = c.items.invariant in
    let items = c.order-item-items.result.now in
    let order = order_at H c.args.turn in
    let x = get_or items i (Client 0) in
    let inside : i < length order =
    omega (arith, c.items-test.true, ap (λ (xs : List Item). length xs) so_far.items)
    in
    let here : x ≡ get_or order i x =
    get_or_default items i (Client 0) x c.items-test.true
    ∙ ap (λ (xs : List Item). get_or xs i x) so_far.items
    in
    let made = c.in_ok-entry.ensures in
    let entry_is =
    made.entry ∙ ap (entry_due (write_at S words c.args.turn) (phase_of S.shape c.args.turn)) here
    in
    let before = placed_before S words H c.args.turn in
    let here_too = placed_in S words H c.args.turn i in
    let due =
    item-due S words H c.args.turn i x c.in_ok-entry.entry c.args.plan.now.legal
    c.requires.turn_in inside
    (g.met.T.Takes.in_order c.args.taker.now S.shape before here_too c.items.taker so_far.taker)
    made.in_range entry_is
    in
    record {
      was = c.args.taker.now;
      shape = S.shape;
      E = before;
      F = here_too;
      has = so_far.taker;
      next = due.next;
    }

pub items-preserved : goal.items-preserved
items-preserved g c =
    let S = c.args.plan.now.script.now in
    let words = words_of S.shape (g.D.Draws.book c.args.plan.now.draws.now) in
    let H = c.args.plan.now.history.now in
    let i = c.items.item-index in
    let so_far = c.items.invariant in
    let items = c.order-item-items.result.now in
    let order = order_at H c.args.turn in
    let x = get_or items i (Client 0) in
    let inside : i < length order =
    omega (arith, c.items-test.true, ap (λ (xs : List Item). length xs) so_far.items)
    in
    let here : x ≡ get_or order i x =
    get_or_default items i (Client 0) x c.items-test.true
    ∙ ap (λ (xs : List Item). get_or xs i x) so_far.items
    in
    let made = c.in_ok-entry.ensures in
    let entry_is =
    made.entry ∙ ap (entry_due (write_at S words c.args.turn) (phase_of S.shape c.args.turn)) here
    in
    let before = placed_before S words H c.args.turn in
    let taken = placed_in S words H c.args.turn i in
    let due =
    item-due S words H c.args.turn i x c.in_ok-entry.entry c.args.plan.now.legal
    c.requires.turn_in inside
    (g.met.T.Takes.in_order c.args.taker.now S.shape before taken c.items.taker so_far.taker)
    made.in_range entry_is
    in
    let all =
    c.order-item-items.ensures.clients_in S.shape c.requires.turn_in c.args.plan.now.legal
    in
    let once = (c.args.plan.now.legal.each_turn c.args.turn c.requires.turn_in).each_once in
    let told : (knows : ℕ → Reader) →
    AreClients S.shape.clients (client_after S knows c.args.turn (take i order)) c.items.clients →
    (k : ℕ) → x ≡ Client k → (e : ClientState) →
    slice_index_or c.items.clients k e ≡ client_told S knows c.args.turn k =
    λ knows are k is e.
    let low : k < S.shape.clients =
    client-below S.shape.clients items i k c.items-test.true is all
    in
    after-next S knows c.args.turn order i k x c.items.clients e (once k low) inside
    (sym here ∙ is) (omega (arith, low, are.counted)) are
    in
    record {
      items = so_far.items;
      clients = λ knows first.
          let are = so_far.clients knows first in
          after-item S knows c.args.turn order i x c.items.clients c.entry_of.new.clients
          inside here
          (list_all-at (is_within S.shape.clients) items i (Client 0) c.items-test.true all)
          (λ k is. made.wrote knows k is (told knows are k is)) made.marked are;
      taker =
          took-more g.T.Takes.took S words H c.args.turn c.args.taker.now i c.in_ok-entry.entry
          c.place_next.new.taker due
          (c.in_ok-place_next.ensures c.args.taker.now S.shape before taken so_far.taker due.next);
    }

pub returns-clause-taker : goal.returns-clause-taker
returns-clause-taker g c =
    let S = c.args.plan.now.script.now in
    let words = words_of S.shape (g.D.Draws.book c.args.plan.now.draws.now) in
    let H = c.args.plan.now.history.now in
    let past : length (order_at H c.args.turn) ≤ c.items.item-index =
    omega (arith, c.items-test.false, ap (λ (xs : List Item). length xs) c.items.invariant.items)
    in
    took-all g.T.Takes.took S words H c.args.turn c.args.taker.now c.items.item-index
    c.items.taker past c.items.invariant.taker

pub returns-clause-clients : goal.returns-clause-clients
returns-clause-clients g c = λ knows first.
    let S = c.args.plan.now.script.now in
    let H = c.args.plan.now.history.now in
    let turn = c.args.plan.now.legal.each_turn c.args.turn c.requires.turn_in in
    let order = order_at H c.args.turn in
    let past : length order ≤ c.items.item-index =
    omega (arith, c.items-test.false, ap (λ (xs : List Item). length xs) c.items.invariant.items)
    in
    after-all S knows c.args.turn order c.items.item-index c.items.clients past turn.each_once
    (c.items.invariant.clients knows first)
