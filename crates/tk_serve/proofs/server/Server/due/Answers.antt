-- No client has more turns than the run.
use Rattle.std.proofs.Common.{◌≡◌, ap, length, arith}
use Rattle.std.proofs.lemmas.List.{get_or_read}
use Rattle.tk_frames.proofs.Offers.{turn_count_small}
use Rattle.tk_serve.specs.Desks.{DeskView, empty_desk}
use Rattle.tk_serve.specs.Stands.{desk_at}
use Rattle.tk_serve.specs.Seats.{turns_written, newest}
use Rattle.tk_serve.proofs.StandsLaws.{due-low}
use Rattle.tk_serve.proofs.server.Server.due.Goals as goal

pub waiting-requires : goal.waiting-requires
waiting-requires c =
    let s = c.args.self.now in
    let serves = c.requires.serves in
    let at : c.index-desk.result.now ≡ desk_at s c.args.client =
    get_or_read s.desks.items _ _ c.requires.client c.index-desk.ensures empty_desk
    in
    let low = due-low serves.shape_of serves.seats_of (turns_written serves.shape_of serves.seats_of)
    (newest serves.shape_of serves.seats_of) s serves.stands c.args.client c.requires.client
    in
    omega (arith, low, turn_count_small s.shape, ap (λ (d : DeskView). length d.waiting) at)

pub overflow_add-result : goal.overflow_add-result
overflow_add-result c =
    let s = c.args.self.now in
    let serves = c.requires.serves in
    let at : c.index-desk.result.now ≡ desk_at s c.args.client =
    get_or_read s.desks.items _ _ c.requires.client c.index-desk.ensures empty_desk
    in
    let low = due-low serves.shape_of serves.seats_of (turns_written serves.shape_of serves.seats_of)
    (newest serves.shape_of serves.seats_of) s serves.stands c.args.client c.requires.client
    in
    let waiting = c.waiting.ensures in
    omega (arith, low, turn_count_small s.shape, ap (λ (d : DeskView). length d.waiting) at, waiting)
