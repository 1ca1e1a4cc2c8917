-- What holds of what a run leaves: its roles, its history and its clients.
use Rattle.std.specs.Prelude.{◌≡◌, ℕ, ◌+◌, ◌*◌, ◌<◌, ◌≤◌, ◌==◌, List, [], length, map, filter}
use Rattle.std.specs.Prelude.{slice_index, slice_index_or, sum_by, IsTrue}
use Rattle.std.specs.List.{list_all, list_any, range_with_len}
use Rattle.tk_shape.specs.declared.shape.Shape.{Shape}
use Rattle.tk_shape.specs.Lengths.{turn_count}
use Rattle.tk_schedule.specs.declared.history.History.{History}
use Rattle.tk_schedule.specs.Schedule.{IsLegal}
use Rattle.tk_script.specs.declared.role.Role.{Role}
use Rattle.tk_script.specs.SoundScript.{is_role}
use Rattle.tk_script.specs.declared.script.Script.{Script}
use Rattle.tk_script.specs.Sent.{unsent_count}
use Rattle.tk_words.specs.Words.{BookWords}
use Rattle.tk_client.specs.declared.got.Got.{Got}
use Rattle.tk_client.specs.Reader.{got_in}
use Rattle.tk_client.specs.Client.{ClientState}
use Rattle.tk_report.specs.Report.{role_in, report_text, report_of}
use Rattle.tk_report.specs.Clients.{AreClientsAtEnd}

-- the logs that a client writes by these roles, and those that it follows, ascending
abbrev pub writes_in : Shape → List Role → ℕ → List ℕ
writes_in shape roles c =
    filter (λ log. (role_in roles log).writer == c) (range_with_len 0 shape.logs)

abbrev pub follows_in : Shape → List Role → ℕ → List ℕ
follows_in shape roles c =
    filter (λ log. list_any (λ d. d == c) (role_in roles log).followers)
    (range_with_len 0 shape.logs)

-- the client of this number, with the logs that the roles give it
pub record IsClientOf (shape : Shape) (roles : List Role) (c : ℕ) (client : ClientState)
    : Type 0 where
  pub same : client.shape ≡ shape
  pub number : client.number ≡ c
  pub writes : map (λ f. f.log) client.writing.logs ≡ writes_in shape roles c
  pub follows : map (λ f. f.log) client.reader.follows ≡ follows_in shape roles c

-- the roles are those of a script of the shape, the history is a legal one of the shape, and there
-- is a client for each number
pub record IsOutcome (shape : Shape) (roles : List Role) (H : History)
    (clients : List ClientState) : Type 0 where
  pub roles_counted : length roles ≡ shape.logs
  pub roles_sound : IsTrue (list_all (is_role shape) roles)
  pub legal : IsLegal shape H
  pub clients_counted : length clients ≡ shape.clients
  pub each : (c : ℕ) (d : ClientState) → c < length clients →
      IsClientOf shape roles c (slice_index_or clients c d)

-- how many texts these clients have left
abbrev pub left_over : List ClientState → ℕ
left_over clients = sum_by (λ k. length k.writing.waiting) clients

-- so many texts were said as these clients have left and sent, of which each sent at most one a
-- turn
pub record CountsSaid (shape : Shape) (clients : List ClientState) (said : ℕ) : Type 0 where
  pub low : left_over clients ≤ said
  pub high : said ≤ shape.clients * turn_count shape + left_over clients

-- what a log gave to the client at a place of these
abbrev pub got_by : List ClientState → ℕ → ℕ → List Got
got_by clients c log = slice_index_or (map (λ k. got_in k.reader.follows log) clients) c []

-- how many texts it has left
abbrev pub unsent_by : List ClientState → ℕ → ℕ
unsent_by clients c = slice_index (map (λ k. length k.writing.waiting) clients) c

-- the report of a history of these roles, of which these clients are left
abbrev pub left_text : Shape → List Role → History → List ClientState → List ℕ
left_text shape roles H clients = report_text shape roles H (got_by clients) (unsent_by clients)

-- ---- the clients at the end of a run

-- they are those of an outcome
abbrev pub EndsLeave : Type 0
EndsLeave =
    (S : Script) (w : BookWords) (H : History) (clients : List ClientState) →
    AreClientsAtEnd S w H clients → IsLegal S.shape H → IsOutcome S.shape S.roles H clients

-- and its text is the report
abbrev pub EndsReport : Type 0
EndsReport =
    (S : Script) (w : BookWords) (H : History) (clients : List ClientState) →
    AreClientsAtEnd S w H clients →
    left_text S.shape S.roles H clients ≡ report_of S w H

-- the texts of the script may have been said
abbrev pub EndsCountSaid : Type 0
EndsCountSaid =
    (S : Script) (w : BookWords) (H : History) (clients : List ClientState) →
    AreClientsAtEnd S w H clients → CountsSaid S.shape clients (length S.says)

-- and those that are left are the unsent ones
abbrev pub unsent_in_all : Script → ℕ
unsent_in_all S = sum_by (unsent_count S) (range_with_len 0 S.shape.clients)

abbrev pub EndsUnsent : Type 0
EndsUnsent =
    (S : Script) (w : BookWords) (H : History) (clients : List ClientState) →
    AreClientsAtEnd S w H clients → left_over clients ≡ unsent_in_all S
