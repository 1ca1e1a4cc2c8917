-- What a server has put at any moment.
use Rattle.tk_meeting.proofs.Terms.{◌≡◌, List, [], ◌++◌, Shape, Passing, taken, seats_next, answers_next, empty_seats}
use Rattle.tk_meeting.proofs.Terms.{ActsAsServer}
use Rattle.tk_serve.specs.Courses.{exchanged}
use Rattle.tk_meeting.proofs.programs.Moments.{Moment, moment, up-to}

pub server-moment : (shape : Shape) (past xs ys : List Passing) (acts : ActsAsServer shape past) → xs ++ ys ≡ past →
    Moment (seats_next shape) (answers_next shape) (empty_seats shape) acts.packets acts.last [] xs
unfolding exchanged
server-moment shape past xs ys acts front =
    let rest = up-to xs ys (exchanged shape acts.packets ++ taken acts.last) past acts.count front acts.order in
    moment (seats_next shape) (answers_next shape) xs rest.0 (empty_seats shape) acts.packets acts.last [] rest.1
