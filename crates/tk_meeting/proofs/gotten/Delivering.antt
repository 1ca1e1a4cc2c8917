-- What a client told of a log is delivered: in a clear run each text as it was written, and each number that
-- it told to be absent was rightly passed over.
use Rattle.tk_meeting.proofs.Terms.{◌≡◌, ℕ, ◌<◌, List, ◌++◌, Some, ◌∙◌, ap, sym, slice_get, slice_get_within}
use Rattle.tk_meeting.proofs.Terms.{turn_count, WordBook, words_of, IsBook, opened, contains_from_in, records, text_in}
use Rattle.tk_meeting.proofs.Terms.{retained, epoch_at, Script, Got, Absent, Text, retained-own, record-gives}
use Rattle.tk_meeting.proofs.Terms.{first_some-gives, before-own, get-front, honest-passing_over, entries, got_of}
use Rattle.tk_meeting.proofs.Terms.{lookup, read_over, met, IsSerial, MeetingsAreSerial, HasToldOf, Meeting}
use Rattle.tk_words.specs.Opening.{IsNumber}
use Rattle.tk_words.specs.OpeningLaws.{opens_sealed}
use Rattle.tk_report.specs.Delivered.{IsClear}
use Rattle.tk_meeting.specs.Delivery.{IsAsWritten, HasDelivered, MeetingsDeliver}
use Rattle.tk_meeting.proofs.Canonical.{serial}
use Rattle.tk_meeting.proofs.gotten.Finding.{WasFound, texts-found}

-- ---- the record that gives a text

-- a text that was found in a clear run is what was written
found-written : (S : Script) (b : WordBook) (c log s : ℕ) (text : List ℕ) → IsBook S.shape b →
    log < S.shape.logs → IsClear S (words_of S.shape b) (serial S) →
    WasFound S (words_of S.shape b) (serial S) c (turn_count S.shape) log s text →
    IsAsWritten S b c log s text
unfolding lookup
found-written S b c log s text served low clear was =
    let w = words_of S.shape b in
    let E = entries S w (serial S) in
    let e = epoch_at (serial S) was.turn c in
    let R = read_over S w (serial S) was.turn c in
    let number : IsNumber S.shape log s = record { log_in = low; number_in = was.number_in } in
    let first = first_some-gives (text_in (w.pair log s) (opened w log s)) (retained S.shape R) text was.reads.answer in
    let r = first.giver in
    let among = before-own E e r (retained-own S.shape R r first.there) in
    let own = clear.own r log s text (contains_from_in (records E) r among) number first.gives in
    let given : Some text ≡ Some own.sending.text =
    sym first.gives ∙ record-gives S w log s r (opens_sealed S.shape b served) number own
    in
    record {
      turn = was.turn;
      in_run = was.in_turns;
      reads = was.reads;
      found = r;
      is_retained = contains_from_in (retained S.shape R) r first.there;
      of_number = own;
      written = cc given;
    }

-- ---- what was told of a log

-- what it told is a front of what the log gives
front-gives : (all got rest : List Got) (s : ℕ) (x : Got) → all ≡ got ++ rest → slice_get got s ≡ Some x →
    slice_get all s ≡ Some x
front-gives all got rest s x front e =
    ap (λ gots. slice_get gots s) front ∙ get-front got rest s (slice_get_within got s x e) ∙ e

pub delivered-of : (S : Script) (b : WordBook) (m : Meeting) (c log : ℕ) → IsBook S.shape b →
    log < S.shape.logs → HasToldOf S b m c log → HasDelivered S b m c log
delivered-of S b m c log served low told =
    let w = words_of S.shape b in
    let all = got_of S w (serial S) c log in
    record {
      told = told;
      texts = λ clear s text e.
          found-written S b c log s text served low clear
          (texts-found S w (serial S) c (turn_count S.shape) log s text
          (front-gives all told.got told.rest s (Text text) told.front e));
      absent = λ s e.
          honest-passing_over S b (serial S) c log s served
          (front-gives all told.got told.rest s Absent told.front e);
    }

-- ---- groups apart

-- a meeting that does what the serial run does delivers of each log
pub serial-delivers : (S : Script) (b : WordBook) (m : Meeting) (c log : ℕ) → IsBook S.shape b →
    IsSerial S b m → c < S.shape.clients → log < S.shape.logs → HasDelivered S b m c log
serial-delivers S b m c log served serially client low =
    delivered-of S b m c log served low (serially.told_of c log client low)

-- if each meeting of a script's texts does that, then each delivers
pub serial-deliver : MeetingsAreSerial → MeetingsDeliver
serial-deliver are S b books events more served keys tells c log client low =
    serial-delivers S b (met S books events) c log served
    (are S b books events more served keys tells) client low
