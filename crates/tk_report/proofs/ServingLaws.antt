-- A run whose servers are honest is the run.
use Rattle.std.proofs.Common.{◌≡◌, refl, ap, sym, subst, ◌∙◌, arith, ℕ, zero, suc, ◌+◌, ◌<◌}
use Rattle.std.proofs.Common.{List, map, Option, Some, None, add-one}
use Rattle.std.specs.List.{range_with_len}
use Rattle.tk_shape.specs.Lengths.{turn_count}
use Rattle.tk_schedule.specs.declared.history.History.{History}
use Rattle.tk_schedule.specs.Schedule.{IsLegal, epoch_at}
use Rattle.tk_script.specs.declared.script.Script.{Script}
use Rattle.tk_script.specs.Sent.{unsent_count}
use Rattle.tk_words.specs.Words.{WordBook, IsBook, words_of}
use Rattle.tk_frames.specs.declared.reply_frame.ReplyFrame.{ReplyFrame}
use Rattle.tk_table.specs.Replies.{reply_to}
use Rattle.tk_table.specs.Stands.{IsPair}
use Rattle.tk_client.specs.declared.target.Target.{Target}
use Rattle.tk_client.specs.Asked.{asked, pair_for}
use Rattle.tk_client.specs.Reader.{Reader, at_epoch, after_read, got_in}
use Rattle.tk_client.specs.Replies.{answer_in, first_joined, second_joined}
use Rattle.tk_report.specs.Exchange.{read_answered, read_at, read_pair, with_reply}
use Rattle.tk_report.specs.Report.{answered, read_over, reader_before, target_at, got_of, report_of}
use Rattle.tk_report.proofs.ReadingLaws.{before-next}
use Rattle.tk_report.proofs.AgreementLaws.{turns-agree}
use Rattle.tk_report.proofs.LeavingLaws.{reports-agree}
use Rattle.tk_report.specs.Serving.{honest, frame_under, replies_under, reader_under, reader_after}
use Rattle.tk_report.specs.Serving.{read_replied, got_under, HonestReaders, HonestExchange, HonestReport}
use Rattle.tk_report.proofs.Lists.{map-map}
use Rattle.tk_report.proofs.SoundReads.{IsSound, all-sound, text-taken}

-- what honest servers reply to a read gives what is looked up
answer-told : (S : Script) (b : WordBook) (H : History) (g c : ℕ) (t : Option Target) →
    IsSound S b H g c → t ≡ target_at S (words_of S.shape b) H g c →
    let w = words_of S.shape b in
    let R = read_over S w H g c in
    answer_in S.shape w (map (reply_to S.shape R) (asked S.shape b g c (epoch_at H g c) t)) t
    ≡ answered S.shape w R t
answer-told S b H g c None sound is = refl
answer-told S b H g c (Some t) sound is =
    let w = words_of S.shape b in
    let R = read_over S w H g c in
    let e = epoch_at H g c in
    let reads = asked S.shape b g c e (Some t) in
    let rs = map (reply_to S.shape R) reads in
    text-taken S.shape b R g c e t reads rs (first_joined S.shape rs) (second_joined S.shape rs) _
    sound.ordered sound.storable sound.whole
    (subst (λ (o : Option Target). IsPair S.shape (pair_for w g c o)) (sym is) sound.pair)
    refl refl refl refl refl

-- one read more
reader-next : (S : Script) (b : WordBook) (H : History) (g c : ℕ) (r : Reader) →
    let w = words_of S.shape b in
    IsBook S.shape b → IsLegal S.shape H → g < turn_count S.shape → c < S.shape.clients →
    r ≡ reader_before S w H c g →
    reader_after S b H (honest S w H) g c r ≡ reader_before S w H c (g + 1)
reader-next S b H g c r serves legal turn_in client_in is =
    let w = words_of S.shape b in
    let R = read_over S w H g c in
    let e = epoch_at H g c in
    let r' = reader_before S w H c g in
    let t = target_at S w H g c in
    let sound = all-sound S b H g c serves legal turn_in client_in in
    let replies : replies_under S b H (honest S w H) g c r'
    ≡ map (reply_to S.shape R) (asked S.shape b g c e t) =
    sym (map-map (reply_to S.shape R) (frame_under S b H (honest S w H) g c r')
    (range_with_len 1 S.shape.servers))
    in
    ap (reader_after S b H (honest S w H) g c) is
    ∙ ap (λ (rs : List ReplyFrame). after_read S.shape (at_epoch e r') t (answer_in S.shape w rs t))
    replies
    ∙ ap (after_read S.shape (at_epoch e r') t) (answer-told S b H g c t sound refl)
    ∙ sym (before-next S w H c g)

pub honest-readers : HonestReaders
unfolding reader_under reader_before
honest-readers S b H c zero serves legal client_in within = refl
honest-readers S b H c (suc g) serves legal client_in within =
    let w = words_of S.shape b in
    reader-next S b H g c (reader_under S b H (honest S w H) c g) serves legal
    (omega (arith, within)) client_in
    (honest-readers S b H c g serves legal client_in (omega (arith, within)))
    ∙ ap (reader_before S w H c) (add-one g)

-- so it asks for what it asks for in a run, and gets the same
read-same : (S : Script) (b : WordBook) (H : History) (g c j : ℕ) → IsBook S.shape b →
    IsLegal S.shape H → g < turn_count S.shape → c < S.shape.clients →
    read_replied S b H (honest S (words_of S.shape b) H) j g c ≡ read_answered S b H j g c
unfolding read_at read_pair with_reply
read-same S b H g c j serves legal turn_in client_in =
    let w = words_of S.shape b in
    ap (λ (r : Reader). with_reply S.shape (read_over S w H g c)
    (frame_under S b H (honest S w H) g c r j))
    (honest-readers S b H c g serves legal client_in (omega (arith, turn_in)))

pub honest-exchange : HonestExchange
honest-exchange S b H j serves legal =
    turns-agree S b H H (turn_count S.shape) (read_replied S b H (honest S (words_of S.shape b) H) j)
    (read_answered S b H j) (λ k low. refl)
    (λ g c turn_in client_in. read-same S b H g c j serves legal turn_in client_in)

pub honest-report : HonestReport
unfolding report_of
honest-report S b H serves legal =
    let w = words_of S.shape b in
    reports-agree S H (got_under S b H (honest S w H)) (got_of S w H) (unsent_count S)
    (unsent_count S)
    (λ c log client_in.
    ap (λ (r : Reader). got_in r.follows log)
    (honest-readers S b H c (turn_count S.shape) serves legal client_in (omega arith)))
    (λ c client_in. refl)
