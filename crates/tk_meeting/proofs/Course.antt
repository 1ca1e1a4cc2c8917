-- The course of a group apart in numbers: how far each client is, how many packets of each came to each
-- server, and what is on its way. It depends on no text and no key.
use Rattle.tk_meeting.proofs.Terms.{ℕ, min, List, [], ◌∷◌, map, ◌+◌, ◌/◌, ◌==◌, cond, ◌++◌, range_with_len, nat_lt}
use Rattle.tk_meeting.proofs.Terms.{◌&&◌, turn_count, Shape, phases_over, least, turns_read, Event, Said, Ticked}
use Rattle.tk_meeting.proofs.Terms.{WentAhead, Greeted, Up, Down, is_client, is_server, changed}
use Rattle.tk_meeting.proofs.Pace.{Pace, Kind, Wrote, Asked, first_pace, acted, ticked, sent_ahead, reply_came}
use Rattle.tk_meeting.proofs.Pace.{epoch_came, settled}

pub record Course : Type 0 where
  pub paces : ℕ → Pace
  -- by server and client
  pub writes : ℕ → ℕ → ℕ
  pub reads : ℕ → ℕ → ℕ
  -- by client and server
  pub up : ℕ → ℕ → List Kind

abbrev pub first_course : Course
first_course =
    record {
      paces = λ c. first_pace;
      writes = λ j c. 0;
      reads = λ j c. 0;
      up = λ c j. [];
    }

-- the newest epoch of a server to which so many writes of each client came
abbrev pub newest_by : Shape → (ℕ → ℕ) → ℕ
newest_by shape writes =
    phases_over shape (least (turn_count shape) (map writes (range_with_len 0 shape.clients)))

-- how many replies of server j came, and how many frames of it
abbrev pub replies_of : Pace → ℕ → ℕ
replies_of p j = settled p + cond (p.replied j) 1 0

abbrev pub came_of : Pace → ℕ → ℕ
came_of p j = replies_of p j + p.epochs j

-- how many frames tell of k reads, where epoch n is the newest
abbrev pub stream_len : Shape → ℕ → ℕ → ℕ
stream_len shape n k =
    let m = min k (turns_read shape n) in
    m + min (m / shape.ticks) n

-- client c goes on at this pace
abbrev pub goes_on : Shape → Course → ℕ → Pace → Course
goes_on shape q c p =
    let next = acted shape p in
    record q {
      paces = changed c next.pace q.paces;
      up = changed c (λ j. q.up c j ++ next.kinds) q.up;
    }

abbrev pub course_up : Course → ℕ → ℕ → List Kind → Course
course_up q c j [] = q
course_up q c j (Wrote ∷ kinds) =
    record q {
      writes = changed j (changed c (q.writes j c + 1) (q.writes j)) q.writes;
      up = changed c (changed j kinds (q.up c)) q.up;
    }
course_up q c j (Asked ∷ kinds) =
    record q {
      reads = changed j (changed c (q.reads j c + 1) (q.reads j)) q.reads;
      up = changed c (changed j kinds (q.up c)) q.up;
    }

-- the next frame of a server is a reply, unless the epoch behind the last one is due first
abbrev pub pace_down : Shape → ℕ → Pace → Pace
pace_down shape j p =
    cond (p.epochs j == replies_of p j / shape.ticks) (reply_came shape j p) (epoch_came j p)

abbrev pub course_down : Shape → Course → ℕ → ℕ → Course
course_down shape q j c =
    let p = q.paces c in
    cond (nat_lt (came_of p j) (stream_len shape (newest_by shape (q.writes j)) (q.reads j c)))
    (goes_on shape q c (pace_down shape j p)) q

unfoldable pub moves : Shape → Course → Event → Course
moves shape q (Said c log text) = q
moves shape q (Ticked c) = cond (is_client shape c) (goes_on shape q c (ticked shape (q.paces c))) q
moves shape q (WentAhead c turns) =
    cond (is_client shape c) (goes_on shape q c (sent_ahead shape turns (q.paces c))) q
moves shape q (Greeted c j count) = q
moves shape q (Up c j) =
    cond (is_client shape c && is_server shape j) (course_up q c j (q.up c j)) q
moves shape q (Down j c) =
    cond (is_server shape j && is_client shape c) (course_down shape q j c) q

unfoldable pub moved : Shape → Course → List Event → Course
moved shape q [] = q
moved shape q (x ∷ xs) = moved shape (moves shape q x) xs

-- the course of these events, from the first one on
abbrev pub course_of : Shape → List Event → Course
course_of shape events = moved shape first_course events
