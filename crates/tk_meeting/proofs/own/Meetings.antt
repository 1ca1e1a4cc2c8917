-- A group in which each client has a book of its own does what one does that has one book.
use Rattle.tk_meeting.proofs.Terms.{◌≡◌, ℕ, ◌<◌, List, [], ◌∷◌, cond, Bool, true, false, Option, Some, None, Result, Ok}
use Rattle.tk_meeting.proofs.Terms.{◌∙◌, refl, ap, ltb-true, Err, ◌&&◌, WordBook, Script, SayError, ActedMember, served}
use Rattle.tk_meeting.proofs.Terms.{heard, Fault, HostWord, Say, Tick, Ahead, Has, Event, Said, Ticked, WentAhead}
use Rattle.tk_meeting.proofs.Terms.{Greeted, Up, Down, is_client, is_server, comes_down, met, happens, after_events}
use Rattle.tk_meeting.proofs.Terms.{client_does, unless_ended, hears, noted, say_fault, greeting_of, comes_up, Saying}
use Rattle.tk_meeting.proofs.Terms.{changed, Meeting, member_went, opening, HaveKeys}
use Rattle.tk_meeting.proofs.own.Clients.{IsOwn}
use Rattle.tk_meeting.proofs.own.Steps.{GoesOn, StepsAlike, heard-alike, served-alike}
use Rattle.tk_meeting.proofs.own.Openings.{opening-own}
use Rattle.tk_meeting.proofs.courses.Picks.{at-place}

-- each client uses its own logs alone
abbrev AllOwn : Script → Meeting → Type 0
AllOwn S m = (c : ℕ) → c < S.shape.clients → IsOwn S c (m.members c).client

went-own : (S : Script) (m : Meeting) (c : ℕ) (r : Result ActedMember Fault) → AllOwn S m → GoesOn S c r →
    AllOwn S (member_went m c r)
went-own S m c (Err fault) all goes = all
went-own S m c (Ok t) all goes =
    λ d low. at-place (λ x k. IsOwn S x (cond k t.member (m.members x)).client) c d goes (λ _. all d low)

module _ (S : Script) (b : WordBook) (books : ℕ → WordBook) (keys : HaveKeys S b books) where
  abbrev one : ℕ → WordBook
  one = λ c. b

  -- what comes of an event is the same, and each client stays one of its own logs
  record Alike (m n : Meeting) : Type 0 where
    same : m ≡ n
    own : AllOwn S n

  still : (m : Meeting) → AllOwn S m → Alike m m
  still m all = record { same = refl; own = all }

  steps : (m : Meeting) (c : ℕ) (mine group : Result ActedMember Fault) → AllOwn S m → StepsAlike S c mine group →
      Alike (member_went m c mine) (member_went m c group)
  steps m c mine group all alike =
      record { same = ap (member_went m c) alike.same; own = went-own S m c group all alike.goes_on }

  hears-alike : (m : Meeting) (c : ℕ) (word : HostWord) → c < S.shape.clients → AllOwn S m →
      Alike (hears books m c word) (hears one m c word)
  hears-alike m c word low all =
      steps m c (heard (books c) (m.members c) (Some word)) (heard b (m.members c) (Some word)) all
      (heard-alike S b (books c) c (keys c low) (m.members c) (Some word) (all c low))

  noted-own : (m : Meeting) (c : ℕ) (y : Saying) (o : Option SayError) → AllOwn S m → AllOwn S (noted c y o m)
  noted-own m c y (Some error) all = all
  noted-own m c y None all = all

  down-alike : (m : Meeting) (j c : ℕ) (frames : List (List ℕ)) → c < S.shape.clients → AllOwn S m →
      Alike (comes_down books m j c frames) (comes_down one m j c frames)
  down-alike m j c [] low all = still m all
  down-alike m j c (frame ∷ frames) low all =
      let left : Meeting = record m { down = changed j (changed c frames (m.down j)) m.down } in
      steps left c (served (books c) (m.members c) j frame) (served b (m.members c) j frame) all
      (served-alike S b (books c) c (keys c low) (m.members c) j frame (all c low))

  up-own : (m : Meeting) (c j : ℕ) (frames : List (List ℕ)) → AllOwn S m →
      AllOwn S (comes_up S.shape m c j frames)
  up-own m c j [] all = all
  up-own m c j (frame ∷ frames) all = all

  -- an event of a client
  does-alike : (m : Meeting) (c : ℕ) (mine group : Meeting) → AllOwn S m →
      (c < S.shape.clients → Alike mine group) →
      Alike (client_does S.shape m c mine) (client_does S.shape m c group)
  does-alike m c mine group all alike = by (is_client S.shape c) refl (m.ended c)
    where
      by : (is : Bool) → is_client S.shape c ≡ is → (o : Option Fault) →
          Alike (cond is (unless_ended o m mine) m) (cond is (unless_ended o m group) m)
      by false is o = still m all
      by true is None = alike (ltb-true c S.shape.clients is)
      by true is (Some fault) = still m all

  cond-alike : (is : Bool) (m mine group : Meeting) → AllOwn S m → Alike mine group →
      Alike (cond is mine m) (cond is group m)
  cond-alike true m mine group all alike = alike
  cond-alike false m mine group all alike = still m all

  happens-alike : (m : Meeting) (x : Event) → AllOwn S m →
      Alike (happens S.shape books m x) (happens S.shape one m x)
  unfolding happens
  happens-alike m (Said c log text) all =
      let y : Saying = record { log = log; text = text } in
      let now : Meeting = noted c y (say_fault m c log text) m in
      does-alike m c (hears books now c (Say log text)) (hears one now c (Say log text)) all
      (λ low. hears-alike now c (Say log text) low (noted-own m c y (say_fault m c log text) all))
  happens-alike m (Ticked c) all =
      does-alike m c (hears books m c Tick) (hears one m c Tick) all (λ low. hears-alike m c Tick low all)
  happens-alike m (WentAhead c turns) all =
      does-alike m c (hears books m c (Ahead turns)) (hears one m c (Ahead turns)) all
      (λ low. hears-alike m c (Ahead turns) low all)
  happens-alike m (Greeted c j count) all =
      let word : HostWord = Has (greeting_of m c j count) in
      cond-alike (is_server S.shape j) m (client_does S.shape m c (hears books m c word))
      (client_does S.shape m c (hears one m c word)) all
      (does-alike m c (hears books m c word) (hears one m c word) all
      (λ low. hears-alike m c word low all))
  happens-alike m (Up c j) all =
      cond-alike (is_client S.shape c && is_server S.shape j) m (comes_up S.shape m c j (m.up c j))
      (comes_up S.shape m c j (m.up c j)) all
      (still (comes_up S.shape m c j (m.up c j)) (up-own m c j (m.up c j) all))
  happens-alike m (Down j c) all =
      cond-alike (is_server S.shape j) m (client_does S.shape m c (comes_down books m j c (m.down j c)))
      (client_does S.shape m c (comes_down one m j c (m.down j c))) all
      (does-alike m c (comes_down books m j c (m.down j c)) (comes_down one m j c (m.down j c)) all
      (λ low. down-alike m j c (m.down j c) low all))

  after-same : (events : List Event) (m : Meeting) → AllOwn S m →
      after_events S.shape books m events ≡ after_events S.shape one m events
  unfolding after_events
  after-same [] m all = refl
  after-same (x ∷ xs) m all =
      let next = happens-alike m x all in
      ap (λ (n : Meeting). after_events S.shape books n xs) next.same
      ∙ after-same xs (happens S.shape one m x) next.own

  pub same-met : (events : List Event) → met S books events ≡ met S one events
  same-met events = after-same events (opening S) (λ c low. opening-own S c low)
