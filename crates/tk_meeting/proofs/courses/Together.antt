-- A group apart is serial, and looks the same but for what it says.
use Rattle.tk_meeting.proofs.Terms.{ℕ, ◌++◌, sym, subst, WordBook, Script, met, HasWhatWasSaid, HasToldAll, IsSerial}
use Rattle.tk_meeting.proofs.Terms.{MeetingsAreSerial, Meeting}
use Rattle.tk_meeting.proofs.own.Meetings.{same-met}
use Rattle.tk_meeting.proofs.gotten.Telling.{told-of, told-whole}
use Rattle.tk_meeting.proofs.courses.Serially.{HasToldWhole, IsSerialWhole}
use Rattle.tk_meeting.proofs.courses.Gathered.{meeting-serial}

-- log by log it tells what it tells as a whole
told-all : (S : Script) (b : WordBook) (m : Meeting) (c : ℕ) → HasToldWhole S b m c → HasToldAll S b m c
told-all S b m c w =
    record {
      told = w.told;
      each_log = λ log known. told-whole S b m c log known w.told;
      logs = w.logs;
      unsent = w.unsent;
    }

log-by-log : (S : Script) (b : WordBook) (m : Meeting) → IsSerialWhole S b m → IsSerial S b m
log-by-log S b m h =
    record {
      fronts = h.fronts;
      told = h.told;
      told_of = λ c log low known.
          let t = h.told c low in
          told-of S b m c log t.turns known t.within t.told;
      quiet = h.quiet;
      over = λ c low is. told-all S b m c (h.over c low is);
      whole = λ all c low. ((h.whole all c low).0, told-all S b m c (h.whole all c low).1);
    }

-- with books of their own clients do what they do with the group's
pub meetings-are-serial : MeetingsAreSerial
meetings-are-serial S b books events more book keys tells =
    let same = same-met S b books keys in
    subst (IsSerial S b) (sym (same events))
    (log-by-log S b (met S (λ c. b) events)
    (meeting-serial S b book events more (subst (HasWhatWasSaid S) (same (events ++ more)) tells)))
