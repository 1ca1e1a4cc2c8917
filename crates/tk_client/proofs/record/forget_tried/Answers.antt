-- One log more of which nothing is tried.
use Rattle.std.proofs.Common.{◌∙◌, ap, sym, ◌<◌, ◌≤◌, arith, add-one, List, length, get_or, set}
use Rattle.tk_client.specs.Reader.{Follow}
use Rattle.tk_client.proofs.ReaderLaws.{renewed, renewed-next, renewed-all}
use Rattle.tk_client.proofs.record.forget_tried.Goals as goal

pub loop-follow-preserved : goal.loop-follow-preserved
loop-follow-preserved c =
    let fs = c.args.follows.now in
    let i = c.loop-follow.follow-index in
    let d = c.follow-item.result in
    let f = get_or c.loop-follow.follows i d in
    let within : i < length fs =
    omega (
      arith,
      c.loop-follow-test.true,
      c.loop-follow.auto.follows,
      c.loop-follow.auto.follow-index-end,
    )
    in
    let item = ap (λ (gs : List Follow). get_or gs i d) c.loop-follow.invariant in
    ap (set c.loop-follow.follows i) c.set_tried.ensures
    ∙ ap (λ (gs : List Follow). set gs i (record f { tried = 0 })) c.loop-follow.invariant
    ∙ renewed-next fs i f d within item
    ∙ ap (λ n. renewed n fs) (sym (add-one i))

pub returns : goal.returns
returns c =
    let fs = c.args.follows.now in
    let i = c.loop-follow.follow-index in
    let past : length fs ≤ i =
    omega (
      arith,
      c.loop-follow-test.false,
      c.loop-follow.auto.follows,
      c.loop-follow.auto.follow-index-end,
    )
    in
    c.loop-follow.invariant ∙ renewed-all fs i past
