-- What was said to a client may be said by it: it is of a log that the client writes, and without a fault.
use Rattle.tk_meeting.proofs.Terms.{◌≡◌, ℕ, ◌<◌, List, [], ◌∷◌, ◌==◌, cond, ◌++◌, Bool, true, false, Option, Some, None}
use Rattle.tk_meeting.proofs.Terms.{Result, Ok, ◌∙◌, refl, ap, sym, arith, subst, eqb-true, Err, false≢true, none-some}
use Rattle.tk_meeting.proofs.Terms.{AllByRecursion, ◌||◌, Shape, WordBook, writer_of, Script, fault_of, text_fault}
use Rattle.tk_meeting.proofs.Terms.{is_written, SayError, NotWriter, Written, each-append, unwritten-logs, writes_of}
use Rattle.tk_meeting.proofs.Terms.{ActedMember, served, heard, Fault, HostWord, Say, Event, comes_down, met, happens}
use Rattle.tk_meeting.proofs.Terms.{after_events, hears, noted, say_fault, comes_up, Saying, changed, Meeting}
use Rattle.tk_meeting.proofs.Terms.{member_went, opening}
use Rattle.tk_meeting.proofs.own.Openings.{kept}
use Rattle.tk_meeting.proofs.scripts.Lasting.{base_of, logs_of, LastsIn, heard-lasts, served-lasts}
use Rattle.tk_meeting.proofs.telling.Ways.{event-has}
use Rattle.tk_meeting.proofs.courses.Picks.{at-place}
use Rattle.tk_meeting.proofs.telling.Rising.{cond-has}

-- client c writes the log
pub record IsMine (S : Script) (c log : ℕ) : Type 0 where
  pub low : log < S.shape.logs
  pub mine : writer_of S log ≡ c

pub record MaySay (S : Script) (c : ℕ) (y : Saying) : Type 0 where
  pub of : IsMine S c y.log
  pub free : text_fault S.shape y.text ≡ None

-- each client has the group's shape and the logs that it writes, and all that was said to it may be said
pub record IsSayable (S : Script) (m : Meeting) : Type 0 where
  pub bases : (c : ℕ) → base_of (m.members c) ≡ (S.shape, writes_of S c)
  pub each : (c g : ℕ) → AllByRecursion (MaySay S c) (m.said c g)

-- ---- the opening

pub opening-sayable : (S : Script) → IsSayable S (opening S)
opening-sayable S =
    record {
      bases = λ c. ap (λ (logs : List ℕ). (S.shape, logs)) (unwritten-logs (writes_of S c));
      each = λ c g. tt;
    }

-- ---- a text is noted

writes-mine : (S : Script) (c : ℕ) → AllByRecursion (IsMine S c) (writes_of S c)
writes-mine S c =
    kept (IsMine S c) (λ log. writer_of S log == c) 0 S.shape.logs S.shape.logs (omega arith)
    (λ log within is. record { low = within; mine = eqb-true (writer_of S log) c is })

written-has : (P : ℕ → Type 0) (log : ℕ) (fs : List Written) → AllByRecursion P (logs_of fs) →
    is_written log fs ≡ true → P log
written-has P log [] all is = absurd (false≢true is)
written-has P log (f ∷ fs) all is = by (f.log == log) refl (written-has P log fs all.1) is
  where
    by : (b : Bool) → (f.log == log) ≡ b → (is_written log fs ≡ true → P log) →
        (b || is_written log fs) ≡ true → P log
    by true same later is = subst P (eqb-true f.log log same) all.0
    by false other later is = later is

may-say : (S : Script) (c log : ℕ) (text : List ℕ) (fs : List Written) →
    AllByRecursion (IsMine S c) (logs_of fs) → fault_of S.shape fs log text ≡ None →
    MaySay S c (record { log = log; text = text })
may-say S c log text fs all none = by (is_written log fs) refl none
  where
    by : (is : Bool) → is_written log fs ≡ is →
        cond is (text_fault S.shape text) (Some (NotWriter log)) ≡ None →
        MaySay S c (record { log = log; text = text })
    by true is none = record { of = written-has (IsMine S c) log fs all is; free = none }
    by false is none = absurd (none-some (NotWriter log) (sym none))

pub free-said : (S : Script) (m : Meeting) (c log : ℕ) (text : List ℕ) → IsSayable S m →
    say_fault m c log text ≡ None → MaySay S c (record { log = log; text = text })
free-said S m c log text is none =
    let k = (m.members c).client in
    let base : base_of (m.members c) ≡ (S.shape, writes_of S c) = is.bases c in
    let shape_is : k.shape ≡ S.shape = ap (λ (x : Shape × List ℕ). x.0) base in
    let logs_are : logs_of k.writing.logs ≡ writes_of S c = ap (λ (x : Shape × List ℕ). x.1) base in
    may-say S c log text k.writing.logs
    (subst (AllByRecursion (IsMine S c)) (sym logs_are) (writes-mine S c))
    (subst (λ (s : Shape). fault_of s k.writing.logs log text ≡ None) shape_is none)

noted-at : (S : Script) (m : Meeting) (c g : ℕ) (y : Saying) → IsSayable S m → MaySay S c y →
    (d k : ℕ) → AllByRecursion (MaySay S d)
    (changed c (changed g (m.said c g ++ y ∷ []) (m.said c)) m.said d k)
noted-at S m c g y is may d k =
    at-place (λ x t.
    AllByRecursion (MaySay S x) (cond t (changed g (m.said c g ++ y ∷ []) (m.said c)) (m.said x) k)) c d here
    (λ _. is.each d k)
  where
    here : AllByRecursion (MaySay S c) (changed g (m.said c g ++ y ∷ []) (m.said c) k)
    here =
        cond-has (AllByRecursion (MaySay S c)) (k == g) (m.said c g ++ y ∷ []) (m.said c k)
        (each-append (MaySay S c) (m.said c g) (y ∷ []) (is.each c g) (may, tt)) (is.each c k)

pub noted-sayable : (S : Script) (m : Meeting) (c : ℕ) (y : Saying) (o : Option SayError) → IsSayable S m →
    (o ≡ None → MaySay S c y) → IsSayable S (noted c y o m)
noted-sayable S m c y (Some error) is may = is
noted-sayable S m c y None is may =
    record { bases = is.bases; each = λ d k. noted-at S m c (m.members c).written y is (may refl) d k }

-- ---- a member goes on

pub went-sayable : (S : Script) (m : Meeting) (c : ℕ) (r : Result ActedMember Fault) → IsSayable S m →
    LastsIn (base_of (m.members c)) r → IsSayable S (member_went m c r)
went-sayable S m c (Err fault) is lasts = record { bases = is.bases; each = is.each }
went-sayable S m c (Ok t) is lasts =
    record {
      bases = λ d.
          at-place (λ x k. base_of (cond k t.member (m.members x)) ≡ (S.shape, writes_of S x)) c d (lasts ∙ is.bases c)
          (λ _. is.bases d);
      each = is.each;
    }

hears-sayable : (S : Script) (b : ℕ → WordBook) (m : Meeting) (c : ℕ) (word : HostWord) → IsSayable S m →
    IsSayable S (hears b m c word)
hears-sayable S b m c word is =
    went-sayable S m c (heard (b c) (m.members c) (Some word)) is
    (heard-lasts (b c) (m.members c) (Some word))

-- ---- links

up-sayable : (S : Script) (m : Meeting) (c j : ℕ) (frames : List (List ℕ)) → IsSayable S m →
    IsSayable S (comes_up S.shape m c j frames)
up-sayable S m c j [] is = is
up-sayable S m c j (frame ∷ frames) is = record { bases = is.bases; each = is.each }

down-sayable : (S : Script) (b : ℕ → WordBook) (m : Meeting) (j c : ℕ) (frames : List (List ℕ)) →
    IsSayable S m → IsSayable S (comes_down b m j c frames)
down-sayable S b m j c [] is = is
down-sayable S b m j c (frame ∷ frames) is =
    let left : Meeting = record m { down = changed j (changed c frames (m.down j)) m.down } in
    went-sayable S left c (served (b c) (m.members c) j frame)
    (record { bases = is.bases; each = is.each }) (served-lasts (b c) (m.members c) j frame)

-- ---- events

event-sayable : (S : Script) (b : ℕ → WordBook) (m : Meeting) (x : Event) → IsSayable S m →
    IsSayable S (happens S.shape b m x)
event-sayable S b m x is =
    event-has S.shape b m (IsSayable S) (record {
      stays = is;
      says = λ c log text.
          let y : Saying = record { log = log; text = text } in
          let n : Meeting = noted c y (say_fault m c log text) m in
          hears-sayable S b n c (Say log text)
          (noted-sayable S m c y (say_fault m c log text) is (free-said S m c log text is));
      hears_word = λ c word. hears-sayable S b m c word is;
      goes_up = λ c j. up-sayable S m c j (m.up c j) is;
      goes_down = λ j c. down-sayable S b m j c (m.down j c) is;
    }) x

after-sayable : (S : Script) (b : ℕ → WordBook) (m : Meeting) (events : List Event) → IsSayable S m →
    IsSayable S (after_events S.shape b m events)
unfolding after_events
after-sayable S b m [] is = is
after-sayable S b m (x ∷ xs) is =
    after-sayable S b (happens S.shape b m x) xs (event-sayable S b m x is)

pub met-sayable : (S : Script) (books : ℕ → WordBook) (events : List Event) →
    IsSayable S (met S books events)
met-sayable S books events = after-sayable S books (opening S) events (opening-sayable S)
