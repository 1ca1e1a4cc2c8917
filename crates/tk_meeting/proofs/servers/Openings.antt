-- Before anything was taken a server has the first none of each client's writes and reads.
use Rattle.tk_meeting.proofs.Terms.{ℕ, arith, length-replicate, get_or-replicate, WordBook, Script, empty_seats}
use Rattle.tk_meeting.proofs.Terms.{empty_seat}
use Rattle.tk_meeting.proofs.Canonical.{AreFronts}

pub opening-fronts : (S : Script) (b : WordBook) (j : ℕ) →
    AreFronts S b j (λ c. 0) (λ c. 0) (empty_seats S.shape)
unfolding empty_seats
opening-fronts S b j =
    record {
      counted = length-replicate S.shape.clients empty_seat;
      each = λ c client. get_or-replicate S.shape.clients c empty_seat empty_seat client;
      writes_in = λ c client. omega arith;
      reads_in = λ c client. omega arith;
    }
