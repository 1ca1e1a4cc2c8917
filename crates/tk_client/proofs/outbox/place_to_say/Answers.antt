-- What is refused is refused for its fault, and an allowed text has no other.
use Rattle.tk_client.proofs.Keeping.{may-allowed, refused-each}
use Rattle.tk_client.proofs.outbox.place_to_say.Goals as goal

pub returns-clause-may : goal.returns-clause-may
returns-clause-may c =
    may-allowed c.args.shape.now c.args.logs.now c.args.log c.args.text.now c.place_with_room.result
    c.requires.allowed c.place_with_room.ensures.place c.place_with_room.ensures.fits

pub returns-clause-refused : goal.returns-clause-refused
returns-clause-refused c = refused-each c.place_with_room.result _ c.place_with_room.ensures.fault
