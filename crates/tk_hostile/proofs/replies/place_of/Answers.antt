-- The place is one of a read's row.
use Rattle.tk_shape.specs.Lengths.{turn_count}
use Rattle.tk_hostile.proofs.GivenLaws.{place-within}
use Rattle.tk_hostile.proofs.replies.place_of.Goals as goal

pub returns-clause-within : goal.returns-clause-within
returns-clause-within c =
    let shape = c.args.shape.now in
    place-within c.args.turn c.args.client c.args.server (turn_count shape) shape.clients
    shape.servers c.requires.turn_in c.requires.client_in c.requires.low c.requires.high
