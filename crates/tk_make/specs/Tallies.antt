-- What is counted of a run.
use Rattle.std.specs.Prelude.{◌≡◌, ℕ, ◌-◌, ◌*◌, Bool, true, false, List, [], ◌∷◌, ◌++◌, length}
use Rattle.std.specs.Prelude.{codes, decimal, sum_by, count_by}
use Rattle.std.specs.List.{range_with_len}
use Rattle.tk_shape.specs.declared.shape.Shape.{Shape}
use Rattle.tk_shape.specs.Lengths.{turn_count}
use Rattle.tk_schedule.specs.declared.history.History.{History}
use Rattle.tk_script.specs.declared.role.Role.{Role}
use Rattle.tk_script.specs.declared.script.Script.{Script}
use Rattle.tk_words.specs.Words.{BookWords}
use Rattle.tk_client.specs.declared.got.Got.{Got}
use Rattle.tk_client.specs.declared.got.Got.TheVariants.{Absent, Text}
use Rattle.tk_client.specs.Client.{ClientState}
use Rattle.tk_report.specs.declared.outcome.Outcome.{Outcome}
use Rattle.tk_report.specs.Displaced.{displaced_count}
use Rattle.tk_report.specs.Leaving.{got_by, left_over, unsent_in_all}
use Rattle.tk_report.specs.Outcomes.{IsLeftBy}
use Rattle.tk_report.specs.Report.{got_of, role_in, role_at, line}
use Rattle.tk_make.specs.declared.counts.Counts.{Counts}
use Rattle.tk_make.specs.declared.kind.Kind.{Kind}
use Rattle.tk_make.specs.declared.kind.Kind.TheVariants as kind

-- ---- the lines

abbrev pub count_line : List ℕ → ℕ → List ℕ
count_line word n = line (word ∷ decimal n ∷ [])

abbrev pub lines_of_counts : Counts → List ℕ
lines_of_counts n =
    count_line (codes "said") n.said
    ++ count_line (codes "sent") n.sent
    ++ count_line (codes "dummies") n.dummies
    ++ count_line (codes "displaced") n.displaced
    ++ count_line (codes "delivered") n.delivered
    ++ count_line (codes "absent") n.absent
    ++ count_line (codes "unsent") n.unsent

-- ---- what numbers gave

-- whether what a number gave is of a kind
abbrev pub is_of : Kind → Got → Bool
is_of kind.Delivered (Text text) = true
is_of kind.Delivered Absent = false
is_of kind.Absent (Text text) = false
is_of kind.Absent Absent = true

-- ---- the counts

-- Of so many writes in all, what was said and is not left over was sent, and the others were
-- dummies.
abbrev pub counts_from : (said left writes displaced delivered absent : ℕ) → Counts
counts_from said left writes displaced delivered absent =
    record {
      said = said;
      sent = said - left;
      dummies = writes - (said - left);
      displaced = displaced;
      delivered = delivered;
      absent = absent;
      unsent = left;
    }

-- each client writes once a turn
abbrev pub write_count : Shape → ℕ
write_count shape = shape.clients * turn_count shape

-- ---- of what a run left

-- how many of a kind a log gave to its followers
abbrev pub given_by : List Role → List ClientState → Kind → ℕ → ℕ
given_by roles clients k log =
    sum_by (λ c. count_by (is_of k) (got_by clients c log)) (role_in roles log).followers

-- how many of a kind all logs gave to all their followers
abbrev pub given : Shape → List Role → List ClientState → Kind → ℕ
given shape roles clients k = sum_by (given_by roles clients k) (range_with_len 0 shape.logs)

abbrev pub given_in : Outcome → Kind → ℕ
given_in o k = given o.shape o.roles o.clients k

abbrev pub counts_left : Outcome → Counts
counts_left o =
    counts_from o.said (left_over o.clients) (write_count o.shape) o.displaced
    (given_in o kind.Delivered) (given_in o kind.Absent)

unfoldable pub tally_left : Outcome → List ℕ
tally_left o = lines_of_counts (counts_left o)

-- ---- of the run of a script

-- how many of a kind all followers of all logs get
abbrev pub got_count : Script → BookWords → History → Kind → ℕ
got_count S w H k =
    sum_by
    (λ log. sum_by (λ c. count_by (is_of k) (got_of S w H c log)) (role_at S log).followers)
    (range_with_len 0 S.shape.logs)

abbrev pub counts_of : Script → BookWords → History → Counts
counts_of S w H =
    counts_from (length S.says) (unsent_in_all S) (write_count S.shape) (displaced_count S w H)
    (got_count S w H kind.Delivered) (got_count S w H kind.Absent)

-- the seven counts of a run
unfoldable pub tally_of : Script → BookWords → History → List ℕ
tally_of S w H = lines_of_counts (counts_of S w H)

-- ---- promises

-- the counts of what a run left are those of the run
abbrev pub OutcomesTally : Type 0
OutcomesTally =
    (S : Script) (w : BookWords) (H : History) (o : Outcome) → IsLeftBy S w H o →
    tally_left o ≡ tally_of S w H
