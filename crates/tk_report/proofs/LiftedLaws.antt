-- What a run gives doesn't depend on the format.
use Rattle.std.proofs.Common.{◌≡◌, ℕ, zero, suc, ◌+◌, ◌==◌, max, List, [], ◌∷◌, ◌++◌, Option, Some, None, filter, count_by, refl, ap, ap₂, ◌∙◌}
use Rattle.std.specs.Prelude.{IsTrue, nat_le, find, option_map, option_and_then}
use Rattle.tk_shape.specs.declared.shape.Shape.{Shape}
use Rattle.tk_shape.specs.Lengths.{turn_count}
use Rattle.tk_shape.specs.Lifting.{lifted_shape}
use Rattle.tk_schedule.specs.declared.history.History.{History}
use Rattle.tk_schedule.specs.Schedule.{turn_at, epoch_at}
use Rattle.tk_script.specs.declared.script.Script.{Script}
use Rattle.tk_script.specs.declared.say.Say.{Say}
use Rattle.tk_script.specs.Sent.{Sending, sendings_from, sendings, sent, in_run, writer_of, unsent_count}
use Rattle.tk_script.specs.Lifting.{fits_lifted, in_format_2}
use Rattle.tk_script.proofs.Offers.{lifted-is}
use Rattle.tk_words.specs.Words.{BookWords, words_of, opened}
use Rattle.tk_words.specs.Lifting.{lifted_book}
use Rattle.tk_words.proofs.Offers.{lifted-words}
use Rattle.tk_frames.specs.Order.{Record, before}
use Rattle.tk_frames.specs.Slots.{text_in}
use Rattle.tk_frames.specs.Lists.{first_some}
use Rattle.tk_table.specs.Table.{retained_with, retained_on}
use Rattle.tk_table.specs.Shown.{is_shown}
use Rattle.tk_client.specs.Reader.{Reader, at_epoch, target, after_read, got_in}
use Rattle.tk_client.specs.declared.target.Target.{Target}
use Rattle.tk_report.specs.Entries.{write_at, entries, entries_before}
use Rattle.tk_report.specs.Report.{lookup, read_over, target_for, answered, reader_step, reader_before, got_of, history_lines, report_text, report_of}
use Rattle.tk_report.specs.Lifted.{LiftedReports}
use Rattle.tk_report.specs.Queues.{waiting_of}
use Rattle.tk_client.specs.Writes.{write_of}

-- ---- what is sent

sendings_alike : (shape : Shape) (free : ℕ) (earlier says : List Say) →
    sendings_from (lifted_shape shape) free earlier says ≡ sendings_from shape free earlier says
unfolding sendings_from
sendings_alike shape free earlier [] = refl
sendings_alike shape free earlier (y ∷ ys) =
    let turn = max (turn_at shape y.phase y.tick) free in
    ap (λ (later : List Sending). record {
      turn = turn;
      log = y.log;
      number = count_by (λ z. z.log == y.log) earlier;
      text = y.text;
    } ∷ later) (sendings_alike shape (turn + 1) (y ∷ earlier) ys)

sendings-alike : (S : Script) (fit : IsTrue (fits_lifted S)) (c : ℕ) → sendings (in_format_2 S fit) c ≡ sendings S c
sendings-alike S fit c = sendings_alike S.shape 0 [] (filter (λ y. writer_of S y.log == c) S.says)

unsent-alike : (S : Script) (fit : IsTrue (fits_lifted S)) (c : ℕ) →
    unsent_count (in_format_2 S fit) c ≡ unsent_count S c
unsent-alike S fit c = ap (count_by (λ y. nat_le (turn_count S.shape) y.turn)) (sendings-alike S fit c)

write-alike : (S : Script) (fit : IsTrue (fits_lifted S)) (w : BookWords) (g c : ℕ) →
    write_at (in_format_2 S fit) w g c ≡ write_at S w g c
unfolding write_at sent
write-alike S fit w g c =
    ap (λ (xs : List Sending). write_of w g c (option_map waiting_of (find (λ y. y.turn == g) (filter (in_run S.shape) xs))))
    (sendings-alike S fit c)

entries-alike : (S : Script) (fit : IsTrue (fits_lifted S)) (w : BookWords) (H : History) →
    entries (in_format_2 S fit) w H ≡ entries S w H
entries-alike S fit w H =
    ap (λ write. entries_before write H (turn_count S.shape)) (λ i. λ g c. write-alike S fit w g c i)

-- ---- what is retained, looked up and read

retained_alike : (shape : Shape) (R K ws : List Record) →
    retained_on (lifted_shape shape) R K ws ≡ retained_on shape R K ws
unfolding retained_on retained_with
retained_alike shape R K [] = refl
retained_alike shape R K (r ∷ rs) = retained_alike shape (R ++ r ∷ []) (retained_with shape R K r) rs

lookup-alike : (shape : Shape) (w : BookWords) (R : List Record) (log s : ℕ) →
    lookup (lifted_shape shape) w R log s ≡ lookup shape w R log s
unfolding lookup
lookup-alike shape w R log s =
    ap (first_some (text_in (w.pair log s) (opened w log s))) (retained_alike shape [] [] R)

answered-alike : (shape : Shape) (w : BookWords) (R : List Record) (t : Option Target) →
    answered (lifted_shape shape) w R t ≡ answered shape w R t
answered-alike shape w R t =
    λ i. option_and_then (λ (x : Target). lookup-alike shape w R x.log x.number i) t

target-alike : (shape : Shape) (shown : ℕ → ℕ → _) (r : Reader) → target (lifted_shape shape) shown r ≡ target shape shown r
unfolding target
target-alike shape shown r = refl

after-alike : (shape : Shape) (r : Reader) (t : Option Target) (answer : Option (List ℕ)) →
    after_read (lifted_shape shape) r t answer ≡ after_read shape r t answer
unfolding after_read
after-alike shape r None answer = refl
after-alike shape r (Some t) None = refl
after-alike shape r (Some t) (Some text) = refl

step-alike : (S : Script) (fit : IsTrue (fits_lifted S)) (w : BookWords) (H : History) (g c : ℕ) (r : Reader) →
    reader_step (in_format_2 S fit) w H g c r ≡ reader_step S w H g c r
step-alike S fit w H g c r =
    let T = in_format_2 S fit in
    let e = epoch_at H g c in
    let over : read_over T w H g c ≡ read_over S w H g c = ap (λ E. before E e) (entries-alike S fit w H) in
    let aim : target_for T w H g c r ≡ target_for S w H g c r =
    target-alike S.shape (λ log s. is_shown T.shape (read_over T w H g c) (w.hits log s)) (at_epoch e r)
    ∙ ap (λ R. target S.shape (λ log s. is_shown S.shape R (w.hits log s)) (at_epoch e r)) over
    in
    let answer : answered T.shape w (read_over T w H g c) (target_for T w H g c r)
    ≡ answered S.shape w (read_over S w H g c) (target_for S w H g c r) =
    answered-alike S.shape w (read_over T w H g c) (target_for T w H g c r) ∙ ap₂ (answered S.shape w) over aim
    in
    after-alike S.shape (at_epoch e r) (target_for T w H g c r) _
    ∙ ap₂ (after_read S.shape (at_epoch e r)) aim answer

reader-alike : (S : Script) (fit : IsTrue (fits_lifted S)) (w : BookWords) (H : History) (c g : ℕ) →
    reader_before (in_format_2 S fit) w H c g ≡ reader_before S w H c g
unfolding reader_before
reader-alike S fit w H c zero = refl
reader-alike S fit w H c (suc g) =
    ap (reader_step (in_format_2 S fit) w H g c) (reader-alike S fit w H c g)
    ∙ step-alike S fit w H g c (reader_before S w H c g)

-- ---- the report

report-alike : (S : Script) (fit : IsTrue (fits_lifted S)) (w : BookWords) (H : History) →
    report_of (in_format_2 S fit) w H ≡ report_of S w H
unfolding report_of report_text history_lines
report-alike S fit w H =
    let got : got_of (in_format_2 S fit) w H ≡ got_of S w H =
    λ i. λ c log. got_in (reader-alike S fit w H c (turn_count S.shape) i).follows log
    in
    ap₂ (report_text S.shape S.roles H) got (λ i. λ c. unsent-alike S fit c i)

pub lifted-reports : LiftedReports
lifted-reports S T b H served lifted =
    let is = lifted-is S T lifted in
    ap (λ (U : Script). report_of U (words_of U.shape (lifted_book S.shape b)) H) is.1
    ∙ ap (λ w. report_of (in_format_2 S is.0) w H) (lifted-words S.shape b served)
    ∙ report-alike S is.0 (words_of S.shape b) H
