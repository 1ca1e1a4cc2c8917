-- One text more of the turn is said, and at a text of another turn or at the end all are.
use Rattle.std.proofs.Common.{◌≡◌, ◌∙◌, ◌<◌, ◌+◌, ℕ, List, refl, ap, sym, arith, length, length-set}
use Rattle.std.specs.Prelude.{slice_index_or}
use Rattle.std.proofs.lemmas.Option.{get_or_from_slice_get}
use Rattle.tk_script.specs.declared.role.Role.{Role}
use Rattle.tk_script.specs.declared.say.Say.{Say}
use Rattle.tk_script.specs.Sent.{blank_role, writer_of}
use Rattle.tk_client.specs.Writing.{with_text}
use Rattle.tk_report.specs.Queues.{turn_said, said_before}
use Rattle.tk_report.proofs.SayOrder.{now-below, said-rises, said-within}
use Rattle.tk_report.proofs.SayingLaws.{said-all, told-none, told-next, told-all}
use Rattle.tk_report.proofs.said.say_turn.Goals as goal

pub loop-place-init : goal.loop-place-init
loop-place-init c =
    let S = c.args.script.now in
    let at = c.requires.said in
    let rises = said-rises S c.args.now in
    record {
      counted = refl;
      from = omega (arith, at);
      up_to = omega (arith, at, rises);
      clients = λ knows are. told-none S knows c.args.now c.args.said c.args.clients.now at are;
    }

pub returns-then-turn-now-clause-said : goal.returns-then-turn-now-clause-said
returns-then-turn-now-clause-said c =
    let S = c.args.script.now in
    let place = c.loop-place.place in
    let y = c.say-say.result.now in
    let within : place < length S.says =
    omega (arith, ap (λ (ys : List Say). length ys) c.as_slice-place-end.ensures)
    in
    said-all S c.args.now place y c.loop-place.invariant.from c.loop-place.invariant.up_to within
    (get_or_from_slice_get S.says place y y c.say-say.ensures.say)
    (λ e. c.if-turn-now.true (c.turn.ensures.turn ∙ e))

pub returns-then-turn-now-clause-clients : goal.returns-then-turn-now-clause-clients
returns-then-turn-now-clause-clients c = λ knows are.
    let S = c.args.script.now in
    let place = c.loop-place.place in
    let y = c.say-say.result.now in
    let within : place < length S.says =
    omega (arith, ap (λ (ys : List Say). length ys) c.as_slice-place-end.ensures)
    in
    told-all S knows c.args.now place c.loop-place.clients
    (said-all S c.args.now place y c.loop-place.invariant.from c.loop-place.invariant.up_to within
    (get_or_from_slice_get S.says place y y c.say-say.ensures.say)
    (λ e. c.if-turn-now.true (c.turn.ensures.turn ∙ e)))
    (c.loop-place.invariant.clients knows are)

pub loop-place-preserved : goal.loop-place-preserved
loop-place-preserved c =
    let S = c.args.script.now in
    let g = c.args.now in
    let place = c.loop-place.place in
    let so_far = c.loop-place.invariant in
    let clients = c.loop-place.clients in
    let y = c.say-say.result.now in
    let role = c.role.result.now in
    let within : place < length S.says =
    omega (arith, ap (λ (ys : List Say). length ys) c.as_slice-place-end.ensures)
    in
    let here = get_or_from_slice_get S.says place y y c.say-say.ensures.say in
    let now : turn_said S.shape y ≡ g = sym c.turn.ensures.turn ∙ c.if-turn-now.false in
    let mine : writer_of S y.log ≡ role.writer =
    ap (λ (r : Role). r.writer)
    (get_or_from_slice_get S.roles y.log role blank_role c.role.ensures.role)
    in
    let low : role.writer < length clients =
    omega (arith, c.role.ensures.writer_in, so_far.counted, c.requires.counted)
    in
    let below = now-below S g place y within (ap (turn_said S.shape) here ∙ now) in
    let one = slice_index_or clients role.writer c.index-clients-role.result in
    let said =
    c.in-Ok.ensures.said
    ∙ ap (λ (text : List ℕ). record one { writing = with_text y.log text one.writing })
    c.as_slice.ensures
    in
    record {
      counted = length-set clients role.writer c.say_allowed.new.self ∙ so_far.counted;
      from = omega (arith, so_far.from);
      up_to = omega (arith, below);
      clients = λ knows are.
          told-next S knows g place role.writer y clients c.index-clients-role.result c.say_allowed.new.self
          within here now mine low said (so_far.clients knows are);
    }

pub returns-clause-clients : goal.returns-clause-clients
returns-clause-clients c = λ knows are.
    let S = c.args.script.now in
    let so_far = c.loop-place.invariant in
    let counted = ap (λ (ys : List Say). length ys) c.as_slice-place-end.ensures in
    let most = said-within S (c.args.now + 1) in
    let up_to = so_far.up_to in
    let all : c.loop-place.place ≡ said_before S (c.args.now + 1) =
    omega (arith, counted, most, up_to, c.loop-place-test.false)
    in
    told-all S knows c.args.now c.loop-place.place c.loop-place.clients all
    (so_far.clients knows are)
