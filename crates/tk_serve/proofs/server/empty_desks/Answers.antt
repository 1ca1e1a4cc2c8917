-- As many desks as clients are counted.
use Rattle.std.proofs.Common.{◌≡◌, ◌∙◌, ap, replicate, rules}
use Rattle.tk_serve.specs.Desks.{empty_desk}
use Rattle.tk_serve.proofs.server.empty_desks.Goals as goal

pub returns : goal.returns
returns c =
    let all : c.desks.counter ≡ c.args.clients = search rules in
    c.desks.invariant ∙ ap (λ n. replicate n empty_desk) all
