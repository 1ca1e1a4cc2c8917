-- The one at the place reads, and the others stay as they are.
use Rattle.std.proofs.Common.{◌≡◌, ◌<◌, ◌∙◌, ◌++◌, ◌∷◌, [], arith, ℕ, length, length-set}
use Rattle.std.proofs.Common.{List, map, ap, ap₂, sym, zero-add}
use Rattle.std.specs.List.{range_with_len}
use Rattle.std.proofs.lemmas.List.FromFn.{map-range_with_len_more}
use Rattle.tk_frames.specs.declared.read_frame.ReadFrame.{ReadFrame}
use Rattle.tk_report.proofs.Offers.{split-none, split-next, split-all}
use Rattle.tk_hostile.specs.Given.{sums_at}
use Rattle.tk_hostile.specs.Walks.{read_in}
use Rattle.tk_hostile.proofs.turn_reads.read_turn.Goals as goal

pub loop-number-init : goal.loop-number-init
loop-number-init g c =
    record {
      counted = c.requires.clients.counted;
      reads = c.new-reads.ensures.items;
      clients = split-none c.requires.clients.each;
    }

pub read_one-requires-clause-client : goal.read_one-requires-clause-client
read_one-requires-clause-client g c κs met =
    let number = c.loop-number.number in
    let clients = c.loop-number.clients in
    let within : number < length clients =
    omega (arith, c.loop-number-test.true, c.loop-number.auto.clients)
    in
    c.loop-number.invariant.clients.due_are number c.index-clients-number.result (omega arith) within

pub loop-number-preserved : goal.loop-number-preserved
loop-number-preserved g c =
    let walk = c.args.walk.now in
    let S = walk.plan.now.script.now in
    let book = g.D.Draws.book walk.plan.now.draws.now in
    let H = walk.plan.now.history.now in
    let number = c.loop-number.number in
    let clients = c.loop-number.clients in
    let new = c.read_one.new.client in
    let so_far = c.loop-number.invariant in
    let read : ℕ → ReadFrame =
    read_in S book H walk.sides (sums_at walk.replies.now) walk.sides.seen c.args.turn
    in
    let within : number < length clients =
    omega (arith, c.loop-number-test.true, c.loop-number.auto.clients)
    in
    record {
      counted = length-set clients number new ∙ so_far.counted;
      reads =
          c.in_ok-push.ensures.items
          ∙ ap₂ (λ (xs : List ReadFrame) (x : ReadFrame). xs ++ x ∷ []) so_far.reads
          c.in_ok-read_one.ensures.read
          ∙ sym (map-range_with_len_more read 0 number number (zero-add number));
      clients = split-next new so_far.clients within c.in_ok-read_one.ensures.client;
    }

pub returns : goal.returns
returns g c =
    let walk = c.args.walk.now in
    let S = walk.plan.now.script.now in
    let book = g.D.Draws.book walk.plan.now.draws.now in
    let H = walk.plan.now.history.now in
    let so_far = c.loop-number.invariant in
    let read : ℕ → ReadFrame =
    read_in S book H walk.sides (sums_at walk.replies.now) walk.sides.seen c.args.turn
    in
    let all : c.loop-number.number ≡ S.shape.clients =
    omega (
      arith,
      c.loop-number-test.false,
      c.loop-number.auto.clients,
      c.loop-number.auto.number-end,
      c.requires.clients.counted,
    )
    in
    record {
      reads = so_far.reads ∙ ap (λ (n : ℕ). map read (range_with_len 0 n)) all;
      clients = record {
        counted = so_far.counted;
        each =
            split-all so_far.clients
            (omega (arith, c.loop-number-test.false, c.loop-number.auto.clients));
      };
    }
