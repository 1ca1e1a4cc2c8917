-- What an event may make of a group: it stays as it is, or it goes one of these ways.
use Rattle.tk_meeting.proofs.Terms.{ℕ, List, Option, Some, None, ◌&&◌, Shape, WordBook, Fault, HostWord, Say, Tick}
use Rattle.tk_meeting.proofs.Terms.{Ahead, Has, Event, Said, Ticked, WentAhead, Greeted, Up, Down, is_client, is_server}
use Rattle.tk_meeting.proofs.Terms.{comes_down, happens, client_does, unless_ended, hears, noted, say_fault}
use Rattle.tk_meeting.proofs.Terms.{greeting_of, comes_up, Meeting}
use Rattle.tk_meeting.proofs.telling.Rising.{cond-has}

-- what an event of a client makes of it
pub client-has : (P : Meeting → Type 0) (shape : Shape) (m : Meeting) (c : ℕ) (after : Meeting) → P m → P after →
    P (client_does shape m c after)
client-has P shape m c after stays goes =
    cond-has P (is_client shape c) (unless_ended (m.ended c) m after) m (unless (m.ended c)) stays
  where
    unless : (o : Option Fault) → P (unless_ended o m after)
    unless None = goes
    unless (Some fault) = stays

-- that is so of it as it is, and of each of these ways
pub record Ways (shape : Shape) (b : ℕ → WordBook) (m : Meeting) (P : Meeting → Type 0) : Type 0 where
  pub stays : P m
  pub says : (c log : ℕ) (text : List ℕ) →
      P (hears b (noted c (record { log = log; text = text }) (say_fault m c log text) m) c (Say log text))
  pub hears_word : (c : ℕ) (word : HostWord) → P (hears b m c word)
  pub goes_up : (c j : ℕ) → P (comes_up shape m c j (m.up c j))
  pub goes_down : (j c : ℕ) → P (comes_down b m j c (m.down j c))

pub event-has : (shape : Shape) (b : ℕ → WordBook) (m : Meeting) (P : Meeting → Type 0) → Ways shape b m P →
    (x : Event) → P (happens shape b m x)
unfolding happens
event-has shape b m P w (Said c log text) =
    client-has P shape m c
    (hears b (noted c (record { log = log; text = text }) (say_fault m c log text) m) c (Say log text)) w.stays
    (w.says c log text)
event-has shape b m P w (Ticked c) = client-has P shape m c (hears b m c Tick) w.stays (w.hears_word c Tick)
event-has shape b m P w (WentAhead c turns) =
    client-has P shape m c (hears b m c (Ahead turns)) w.stays (w.hears_word c (Ahead turns))
event-has shape b m P w (Greeted c j count) =
    let word : HostWord = Has (greeting_of m c j count) in
    cond-has P (is_server shape j) (client_does shape m c (hears b m c word)) m
    (client-has P shape m c (hears b m c word) w.stays (w.hears_word c word)) w.stays
event-has shape b m P w (Up c j) =
    cond-has P (is_client shape c && is_server shape j) (comes_up shape m c j (m.up c j)) m (w.goes_up c j) w.stays
event-has shape b m P w (Down j c) =
    let after : Meeting = comes_down b m j c (m.down j c) in
    cond-has P (is_server shape j) (client_does shape m c after) m
    (client-has P shape m c after w.stays (w.goes_down j c)) w.stays
