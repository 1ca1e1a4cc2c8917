-- A turn over no entries tells only the faults of its read.
use Rattle.std.proofs.Common.{◌≡◌, [], refl, rules, Err}
use Rattle.embed.specs.Servers.{AllStandFor}
use Rattle.embed.proofs.FaultLaws.{reads-talk}
use Rattle.embed.proofs.talk.talk.Goals as goal

pub returns-in_err-take_turn-clause-fault : goal.returns-in_err-take_turn-clause-fault
returns-in_err-take_turn-clause-fault g c =
    let fault = c.in_err-take_turn.field-0.0 in
    let out : c.from_residual-in_err-take_turn.result ≡ Err fault = search rules in
    let are : AllStandFor c.say.new.self.shape [] c.as_mut_slice.result.now = search rules in
    rw out
    (reads-talk _ fault
    (c.in_err-take_turn.ensures.fault [] are (record { entries = refl; marks = refl })))
