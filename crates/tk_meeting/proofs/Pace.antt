-- How far a client is, in numbers. When it writes and asks follows from these alone.
use Rattle.tk_meeting.proofs.Terms.{◌≡◌, ℕ, ◌≤◌, ◌<◌, min, List, [], ◌∷◌, map, ◌+◌, cond, ◌++◌, ◌-◌, ◌*◌, Bool, true}
use Rattle.tk_meeting.proofs.Terms.{false, replicate, range_with_len, list_all, nat_lt, ◌&&◌, nat_le, not, turn_count}
use Rattle.tk_meeting.proofs.Terms.{Shape, phases_over, least_of, changed}

-- In how many turns it wrote, and in how many it asked; how many ticks wait, and how many writes may go
-- ahead; whether a read is open; and by server how many epochs it told, and whether its reply to the
-- read that is open is there.
pub record Pace : Type 0 where
  pub written : ℕ
  pub asked : ℕ
  pub ticks : ℕ
  pub ahead : ℕ
  pub is_open : Bool
  pub epochs : ℕ → ℕ
  pub replied : ℕ → Bool

abbrev pub first_pace : Pace
first_pace =
    record {
      written = 0;
      asked = 0;
      ticks = 0;
      ahead = 0;
      is_open = false;
      epochs = λ j. 0;
      replied = λ j. false;
    }

-- what a client sends: a write or a read
pub data Kind : Type 0 where
  Wrote : Kind
  Asked : Kind

-- a pace after a step, and what was sent
pub record Paced : Type 0 where
  pub pace : Pace
  pub kinds : List Kind

-- the last epoch that all servers told
abbrev pub known_by : Shape → Pace → ℕ
known_by shape p = least_of shape.phases (map p.epochs (range_with_len 1 shape.servers))

-- ---- acting

abbrev pub count_ahead : Shape → Pace → ℕ
count_ahead shape p = min p.ahead (turn_count shape - p.written)

abbrev pub gone_ahead : Shape → Pace → Pace
gone_ahead shape p =
    let n = count_ahead shape p in
    record p { written = p.written + n; ahead = p.ahead - n }

abbrev pub count_ticks : Shape → Pace → ℕ
count_ticks shape p =
    min p.ticks (min (turn_count shape) ((known_by shape p + 1) * shape.ticks) - p.written)

abbrev pub gone_by_ticks : Shape → Pace → Pace
gone_by_ticks shape p =
    let n = count_ticks shape p in
    record p { written = p.written + n; ticks = p.ticks - n }

abbrev pub asks_now : Shape → Pace → Bool
asks_now shape p =
    nat_lt p.asked p.written && not p.is_open && nat_le (phases_over shape p.asked) (known_by shape p)

abbrev pub has_asked : Pace → Pace
has_asked p = record p { asked = p.asked + 1; is_open = true }

abbrev pub paced_asking : Shape → Pace → Paced
paced_asking shape p =
    cond (asks_now shape p) (record { pace = has_asked p; kinds = Asked ∷ [] })
    (record { pace = p; kinds = [] })

-- first all writes that are due, and then a read if one is due
unfoldable pub acted : Shape → Pace → Paced
acted shape p =
    let q = gone_ahead shape p in
    let last = paced_asking shape (gone_by_ticks shape q) in
    record {
      pace = last.pace;
      kinds = replicate (count_ahead shape p + count_ticks shape q) Wrote ++ last.kinds;
    }

-- nothing is due
abbrev pub IsIdle : Shape → Pace → Type 0
IsIdle shape p =
    let idle : Paced = record { pace = p; kinds = [] } in
    acted shape p ≡ idle

-- ---- what comes to it

abbrev pub ticked : Shape → Pace → Pace
ticked shape p = record p { ticks = min (p.ticks + 1) (turn_count shape) }

abbrev pub sent_ahead : Shape → ℕ → Pace → Pace
sent_ahead shape turns p = record p { ahead = min (p.ahead + turns) (turn_count shape) }

abbrev pub with_reply_of : ℕ → Pace → Pace
with_reply_of j p = record p { replied = changed j true p.replied }

abbrev pub all_replied : Shape → Pace → Bool
all_replied shape p = list_all p.replied (range_with_len 1 shape.servers)

abbrev pub closed : Pace → Pace
closed p = record p { is_open = false; replied = λ j. false }

-- server j's reply came; with the last one the read is settled
abbrev pub reply_came : Shape → ℕ → Pace → Pace
reply_came shape j p =
    let q = with_reply_of j p in
    cond (all_replied shape q) (closed q) q

-- server j told one epoch more
abbrev pub epoch_came : ℕ → Pace → Pace
epoch_came j p = record p { epochs = changed j (p.epochs j + 1) p.epochs }

-- in how many turns its read is settled
abbrev pub settled : Pace → ℕ
settled p = cond p.is_open (p.asked - 1) p.asked

-- ---- which paces there are

pub record IsPace (shape : Shape) (p : Pace) : Type 0 where
  pub written_in : p.written ≤ turn_count shape
  pub asked_in : p.asked ≤ p.written
  pub ticks_in : p.ticks ≤ turn_count shape
  pub ahead_in : p.ahead ≤ turn_count shape
  pub open_in : p.is_open ≡ true → 0 < p.asked
  pub none_replied : p.is_open ≡ false → (j : ℕ) → p.replied j ≡ false
  pub one_missing : all_replied shape p ≡ false
  pub epochs_in : (j : ℕ) → p.epochs j ≤ shape.phases
  -- a read is asked once its epoch is known
  pub known : p.is_open ≡ true → phases_over shape (p.asked - 1) ≤ known_by shape p
