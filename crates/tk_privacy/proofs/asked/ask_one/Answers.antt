-- Of what is asked the server sees its share.
use Rattle.std.proofs.Common.{◌∙◌, ◌<◌, ap, sym, subst, arith, length}
use Rattle.tk_shape.specs.declared.shape.Shape.{Shape}
use Rattle.tk_shape.specs.Lengths.{turn_count}
use Rattle.tk_words.specs.Words.{words_of}
use Rattle.tk_client.specs.Looking.{FollowerState, looked_for}
use Rattle.tk_client.proofs.Offers.{length-asked}
use Rattle.tk_privacy.proofs.AskingLaws.{filter-shows, read-is}
use Rattle.tk_privacy.proofs.asked.ask_one.Goals as goal

pub read_frames-requires-clause-one_shape : goal.read_frames-requires-clause-one_shape
read_frames-requires-clause-one_shape g c κs within =
    c.args.plan.now.one_shape ∙ sym (ap (λ (l : FollowerState). l.shape) c.requires.follower)

pub read_frames-requires-clause-client_in : goal.read_frames-requires-clause-client_in
read_frames-requires-clause-client_in g c κs within =
    subst (λ (shape : Shape). c.args.number < shape.clients)
    (sym (ap (λ (l : FollowerState). l.shape) c.requires.follower)) c.requires.number_in

pub read_frames-requires-clause-turn_in : goal.read_frames-requires-clause-turn_in
read_frames-requires-clause-turn_in g c κs within =
    subst (λ (shape : Shape). c.args.spot.turn < turn_count shape)
    (sym (ap (λ (l : FollowerState). l.shape) c.requires.follower)) c.requires.turn_in

pub swap_remove-requires : goal.swap_remove-requires
swap_remove-requires g c =
    let s = c.args.follower.now in
    let book = g.D.Draws.book c.args.plan.now.draws.now in
    let due = c.epoch-due.result in
    let target = looked_for (words_of s.shape book) c.filter.result.now due s in
    let servers = ap (λ (l : FollowerState). l.shape.servers) c.requires.follower in
    let asked = ap length c.in_ok-frames.ensures.frames in
    let counted = length-asked s.shape book c.args.spot.turn c.args.number due target in
    let len = c.in_ok-frames.frames.ok in
    omega (arith, c.requires.low, c.requires.high, servers, asked, counted, len)

pub returns-clause-read : goal.returns-clause-read
returns-clause-read g c =
    let plan = c.args.plan.now in
    let S = plan.script.now in
    let book = g.D.Draws.book plan.draws.now in
    let H = plan.history.now in
    let turn = c.args.spot.turn in
    let number = c.args.number in
    let due = c.epoch-due.result in
    let marks = c.filter.result.now in
    let shows = filter-shows S book H turn number c.open_to-open.result.now marks
    c.open_to-open.ensures c.filter.ensures in
    read-is S book H turn number due c.args.spot.server marks c.args.follower.now
    c.in_ok-frames.frames.items c.swap_remove.result c.requires.follower c.epoch-due.ensures shows
    c.requires.low c.requires.high c.in_ok-frames.ensures.frames c.swap_remove.ensures.value
