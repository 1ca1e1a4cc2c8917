-- What a meeting has of the script at a time, if the script has the texts of all that is still to come.
use Rattle.tk_meeting.proofs.Terms.{◌≡◌, ℕ, ◌<◌, List, [], ◌++◌, ◌∙◌, sym, subst, turn_count, WordBook, Script, Event}
use Rattle.tk_meeting.proofs.Terms.{met, after_events, sayings, HasWhatWasSaid, Saying, Meeting, opening}
use Rattle.tk_meeting.proofs.telling.Growing.{Grows, grows-events, after-append}

-- Of client c, which writes turn g next: the texts of the turns that it wrote are those of the script;
-- those that were said for turn g are a front of the script's; and none was said for a later turn.
pub record ForeseesOf (S : Script) (c g : ℕ) (said : ℕ → List Saying) : Type 0 where
  pub before : (k : ℕ) → k < g → k < turn_count S.shape → said k ≡ sayings S c k
  pub rest : List Saying
  pub here : g < turn_count S.shape → sayings S c g ≡ said g ++ rest
  pub behind : (k : ℕ) → g < k → said k ≡ []

pub record Foresees (S : Script) (m : Meeting) : Type 0 where
  pub each : (c : ℕ) → c < S.shape.clients → ForeseesOf S c (m.members c).written (m.said c)

-- At any time this much of the script is said, where the script has all texts, also those that are still to come.
pub foresees-by : (S : Script) (now last : Meeting) → Grows (opening S) now → Grows now last → HasWhatWasSaid S last →
    Foresees S now
foresees-by S now last first next all =
    record {
      each = λ c in_clients. let a = first c in let n = next c in record {
        before = λ k low in_turns. sym (n.past k low) ∙ all c k in_clients in_turns;
        rest = n.more;
        here = λ in_turns. sym (all c (now.members c).written in_clients in_turns) ∙ n.here;
        behind = λ k high. a.behind k high;
      };
    }

pub foresees : (S : Script) (books : ℕ → WordBook) (events more : List Event) →
    HasWhatWasSaid S (met S books (events ++ more)) → Foresees S (met S books events)
foresees S books events more tells =
    let now : Meeting = met S books events in
    foresees-by S now (after_events S.shape books now more) (grows-events S.shape books (opening S) events)
    (grows-events S.shape books now more)
    (subst (HasWhatWasSaid S) (after-append S.shape books (opening S) events more) tells)
