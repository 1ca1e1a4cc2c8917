-- A run whose servers reply what they will. The clients write what they would in any run, and each
-- goes on from what it reads; so what is honest of a run is that its servers are.
use Rattle.std.specs.Prelude.{◌≡◌, ℕ, zero, suc, ◌<◌, ◌≤◌, Bool, List, [], ◌∷◌, map, Option}
use Rattle.std.specs.List.{range_with_len}
use Rattle.tk_shape.specs.Lengths.{turn_count}
use Rattle.tk_schedule.specs.declared.history.History.{History}
use Rattle.tk_schedule.specs.Schedule.{IsLegal, epoch_at}
use Rattle.tk_script.specs.declared.script.Script.{Script}
use Rattle.tk_script.specs.Sent.{unsent_count}
use Rattle.tk_words.specs.Words.{WordBook, BookWords, IsBook, words_of}
use Rattle.tk_frames.specs.declared.read_frame.ReadFrame.{ReadFrame}
use Rattle.tk_frames.specs.declared.reply_frame.ReplyFrame.{ReplyFrame}
use Rattle.tk_frames.specs.Spelling.{read_frame, reply_frame}
use Rattle.tk_table.specs.Replies.{reply_to}
use Rattle.tk_table.specs.Shown.{is_shown}
use Rattle.tk_client.specs.Asked.{frame_for, pair_for}
use Rattle.tk_client.specs.Reader.{Reader, new_reader, at_epoch, target, after_read, got_in}
use Rattle.tk_client.specs.Replies.{answer_in}
use Rattle.tk_client.specs.declared.got.Got.{Got}
use Rattle.tk_client.specs.declared.target.Target.{Target}
use Rattle.tk_report.specs.Entries.{write_at}
use Rattle.tk_report.specs.Exchange.{exchange, frames_before}
use Rattle.tk_report.specs.Report.{follows_of, read_over, reader_before, report, report_text}

-- in each turn, whether the filter that a client is told shows a number of a log, and what server j
-- replies to the client's read
pub record Serving : Type 0 where
  pub shows : ℕ → ℕ → ℕ → ℕ → Bool
  pub reply : ℕ → ℕ → ℕ → ReadFrame → ReplyFrame

-- honest servers: both are of the writes that the client's read is over
abbrev pub honest : Script → BookWords → History → Serving
honest S w H =
    record {
      shows = λ g c log s. is_shown S.shape (read_over S w H g c) (w.hits log s);
      reply = λ g c j r. reply_to S.shape (read_over S w H g c) r;
    }

-- ---- a client's read in a turn, before which it is this reader

abbrev pub target_under : Script → History → Serving → ℕ → ℕ → Reader → Option Target
target_under S H V g c reader = target S.shape (V.shows g c) (at_epoch (epoch_at H g c) reader)

abbrev pub frame_under : Script → WordBook → History → Serving → ℕ → ℕ → Reader → ℕ → ReadFrame
frame_under S b H V g c reader j =
    frame_for S.shape b g c (epoch_at H g c)
    (pair_for (words_of S.shape b) g c (target_under S H V g c reader)) j

abbrev pub replies_under :
    Script → WordBook → History → Serving → ℕ → ℕ → Reader → List ReplyFrame
replies_under S b H V g c reader =
    map (λ j. V.reply g c j (frame_under S b H V g c reader j)) (range_with_len 1 S.shape.servers)

-- and the reader after it
abbrev pub reader_after : Script → WordBook → History → Serving → ℕ → ℕ → Reader → Reader
reader_after S b H V g c reader =
    let t = target_under S H V g c reader in
    after_read S.shape (at_epoch (epoch_at H g c) reader) t
    (answer_in S.shape (words_of S.shape b) (replies_under S b H V g c reader) t)

-- ---- a run

-- client c as a reader before turn g
unfoldable pub reader_under : Script → WordBook → History → Serving → ℕ → ℕ → Reader
reader_under S b H V c zero = new_reader (follows_of S c)
reader_under S b H V c (suc g) = reader_after S b H V g c (reader_under S b H V c g)

-- the read frame that it sends to server j in turn g
abbrev pub read_under : Script → WordBook → History → Serving → ℕ → ℕ → ℕ → ReadFrame
read_under S b H V g c j = frame_under S b H V g c (reader_under S b H V c g) j

abbrev pub read_replied :
    Script → WordBook → History → Serving → ℕ → ℕ → ℕ → List (List ℕ)
read_replied S b H V j g c =
    let r = read_under S b H V g c j in
    read_frame r ∷ reply_frame (V.reply g c j r) ∷ []

-- the frames that server j sees of the run, and its own
abbrev pub exchange_under : Script → WordBook → History → Serving → ℕ → List (List ℕ)
exchange_under S b H V j =
    frames_before S.shape H (write_at S (words_of S.shape b)) (read_replied S b H V j)
    (turn_count S.shape)

-- what a log gave to a client, and the report of it all
abbrev pub got_under : Script → WordBook → History → Serving → ℕ → ℕ → List Got
got_under S b H V c log = got_in (reader_under S b H V c (turn_count S.shape)).follows log

abbrev pub report_under : Script → WordBook → History → Serving → List ℕ
report_under S b H V = report_text S.shape S.roles H (got_under S b H V) (unsent_count S)

-- ---- laws

-- under honest servers a client is the reader that it is in a run
abbrev pub HonestReaders : Type 0
HonestReaders =
    (S : Script) (b : WordBook) (H : History) (c g : ℕ) → IsBook S.shape b → IsLegal S.shape H →
    c < S.shape.clients → g ≤ turn_count S.shape →
    reader_under S b H (honest S (words_of S.shape b) H) c g
    ≡ reader_before S (words_of S.shape b) H c g

-- so the servers see what they see in a run
abbrev pub HonestExchange : Type 0
HonestExchange =
    (S : Script) (b : WordBook) (H : History) (j : ℕ) → IsBook S.shape b → IsLegal S.shape H →
    exchange_under S b H (honest S (words_of S.shape b) H) j ≡ exchange S b H j

-- and the report is that of the run
abbrev pub HonestReport : Type 0
HonestReport =
    (S : Script) (b : WordBook) (H : History) → IsBook S.shape b → IsLegal S.shape H →
    report_under S b H (honest S (words_of S.shape b) H) ≡ report S b H
