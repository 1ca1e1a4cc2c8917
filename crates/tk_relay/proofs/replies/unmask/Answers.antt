-- Each pad is taken off what is left.
use Rattle.std.proofs.Common.{◌≡◌, ◌∙◌, ◌-◌, ◌<◌, ◌≤◌, List, ℕ, length, ap, ap₂, sym, subst, arith}
use Rattle.tk_shape.specs.declared.shape.Shape.{Shape}
use Rattle.tk_shape.specs.Lengths.{width}
use Rattle.tk_relay.specs.Halves.{Halves, HasHalves, mixed, joined}
use Rattle.tk_relay.specs.Pads.{pad_of}
use Rattle.tk_relay.specs.Parts.{halves_of}
use Rattle.tk_relay.proofs.UnmaskLaws.{unmasking-next, unmasking-last}
use Rattle.tk_relay.proofs.replies.unmask.Goals as goal

pub loop-server-init : goal.loop-server-init
loop-server-init c =
    let n = width c.args.pads.now.shape in
    let all = joined n c.args.pads.now.pads.replies in
    let is = c.in_ok-sums.ensures in
    record {
      sized = subst (HasHalves n) (sym is) c.requires.sized;
      left = ap (λ (x : Halves). mixed x all) is;
    }

pub loop-server-preserved : goal.loop-server-preserved
loop-server-preserved c =
    let pads = c.args.pads.now in
    let replies = pads.pads.replies in
    let server = c.loop-server.server in
    let counted = c.shape.ensures.are.replies_counted in
    let same = ap (λ (s : Shape). s.servers) c.shape.ensures.shape in
    let several = pads.shape.in_range.servers_low in
    let mixed_is : c.mix.new.self ≡ mixed c.loop-server.sums (pad_of replies server) =
    c.mix.ensures
    ∙ ap₂ (λ (a b : List ℕ). mixed c.loop-server.sums (record { first = a; second = b }))
    c.reply.ensures.first c.reply.ensures.second
    in
    let low : 2 ≤ server = omega arith in
    let within : server - 2 < length replies = omega (arith, counted, several, same) in
    unmasking-next (width pads.shape) (halves_of c.args.joined.now) replies server
    c.loop-server.sums c.mix.new.self low within c.reply.ensures.sized c.loop-server.invariant
    mixed_is

pub returns : goal.returns
returns c =
    let pads = c.args.pads.now in
    let counted = c.shape.ensures.are.replies_counted in
    let same = ap (λ (s : Shape). s.servers) c.shape.ensures.shape in
    let several = pads.shape.in_range.servers_low in
    let past : length pads.pads.replies ≤ c.loop-server.server - 2 =
    omega (arith, counted, several, same)
    in
    unmasking-last (width pads.shape) (halves_of c.args.joined.now) pads.pads.replies
    c.loop-server.server c.loop-server.sums past c.loop-server.invariant
