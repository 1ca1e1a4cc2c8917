-- What the clients at the end of a run give, and that they are those of its roles.
use Rattle.std.proofs.Common.{◌≡◌, refl, ap, ap₂, ◌∙◌, arith, ltb-true}
use Rattle.std.proofs.Common.{ℕ, zero, suc, ◌+◌, ◌<◌, ◌==◌, nat_lt, Bool, true, false, cond}
use Rattle.std.proofs.Common.{List, [], ◌∷◌, ◌++◌, length, map, get_or, Option, Some, None}
use Rattle.std.specs.Prelude.{flat_map, slice_set, slice_index_or, codes, ◌&&◌}
use Rattle.std.specs.List.{AllByRecursion, list_all}
use Rattle.tk_shape.specs.declared.shape.Shape.{Shape}
use Rattle.tk_shape.specs.Lengths.{turn_count}
use Rattle.tk_schedule.specs.declared.history.History.{History}
use Rattle.tk_schedule.specs.Schedule.{epoch_at}
use Rattle.tk_script.specs.declared.role.Role.{Role}
use Rattle.tk_script.specs.declared.say.Say.{Say}
use Rattle.tk_script.specs.declared.script.Script.{Script}
use Rattle.tk_script.specs.SoundScript.{is_role, is_ascending}
use Rattle.tk_script.specs.Sent.{writer_of, unsent_count}
use Rattle.std.proofs.lemmas.Bool.{and_parts as parts}
use Rattle.tk_words.specs.Words.{BookWords}
use Rattle.tk_client.specs.declared.got.Got.{Got}
use Rattle.tk_client.specs.declared.written.Written.{Written}
use Rattle.tk_client.specs.declared.target.Target.{Target}
use Rattle.tk_client.specs.Reader.{Follow, Reader, new_follow, untried, at_epoch, follow_in, follow_after, after_read}
use Rattle.tk_client.specs.Reader.{got_in}
use Rattle.tk_client.specs.Client.{ClientState}
use Rattle.tk_client.specs.Writing.{Writing, unwritten, one_more_of, with_text}
use Rattle.tk_report.specs.Queues.{writes_of, says_in, with_says, writing_before}
use Rattle.tk_report.specs.Report.{follows_of, target_for, answer_for, reader_before, got_of}
use Rattle.tk_report.specs.Report.{line, history_lines, log_lines, unsent_line, role_in, report_text, report_of}
use Rattle.tk_report.specs.Clients.{AreClientsAtEnd, client_before}
use Rattle.tk_report.specs.Leaving.{got_by, unsent_by, EndsLeave, EndsReport}
use Rattle.tk_report.proofs.QueueLaws.{unsent_waits}
use Rattle.tk_report.proofs.AgreementLaws.{flat_map-agree}

-- ---- what the client at a place gives

map-at : {X Y : Type 0} (f : X → Y) (xs : List X) (i : ℕ) (d : Y) (e : X) → i < length xs →
    get_or (map f xs) i d ≡ f (get_or xs i e)
map-at f [] i d e within = absurd (omega (arith, within))
map-at f (x ∷ xs) zero d e within = refl
map-at f (x ∷ xs) (suc i) d e within = map-at f xs i d e (omega (arith, within))

-- ---- the logs that a client writes

abbrev pub written_logs : List Written → List ℕ
written_logs logs = map (λ (f : Written). f.log) logs

pub one_more-log : (log : ℕ) (f : Written) → (one_more_of log f).log ≡ f.log
one_more-log log f =
    elim (f.log == log) as (λ b. (cond b (record f { count = f.count + 1 }) f).log ≡ f.log)
    [ true ↦ refl | false ↦ refl ]

pub one_more-logs : (log : ℕ) (logs : List Written) →
    written_logs (map (one_more_of log) logs) ≡ written_logs logs
one_more-logs log [] = refl
one_more-logs log (f ∷ logs) =
    ap₂ (λ (x : ℕ) (xs : List ℕ). x ∷ xs) (one_more-log log f) (one_more-logs log logs)

says-logs : (S : Script) (c : ℕ) (says : List Say) (w : Writing) →
    written_logs (with_says S c says w).logs ≡ written_logs w.logs
unfolding with_says
says-logs S c [] w = refl
says-logs S c (y ∷ says) w =
    says-logs S c says (cond (writer_of S y.log == c) (with_text y.log y.text w) w)
    ∙ one (writer_of S y.log == c)
  where
    one : (b : Bool) →
        written_logs (cond b (with_text y.log y.text w) w).logs ≡ written_logs w.logs
    one true = one_more-logs y.log w.logs
    one false = refl

pub unwritten-logs : (logs : List ℕ) → written_logs (map unwritten logs) ≡ logs
unwritten-logs [] = refl
unwritten-logs (x ∷ logs) = ap (λ (xs : List ℕ). x ∷ xs) (unwritten-logs logs)

pub writing-logs : (S : Script) (c g : ℕ) →
    written_logs (writing_before S c g).logs ≡ writes_of S c
unfolding writing_before
writing-logs S c zero = unwritten-logs (writes_of S c)
writing-logs S c (suc g) =
    says-logs S c (says_in S g) (writing_before S c g) ∙ writing-logs S c g

-- ---- the logs that it follows

abbrev followed_logs : List Follow → List ℕ
followed_logs follows = map (λ (f : Follow). f.log) follows

new-logs : (logs : List ℕ) → followed_logs (map new_follow logs) ≡ logs
new-logs [] = refl
new-logs (x ∷ logs) = ap (λ (xs : List ℕ). x ∷ xs) (new-logs logs)

untried-logs : (follows : List Follow) → followed_logs (map untried follows) ≡ followed_logs follows
untried-logs [] = refl
untried-logs (f ∷ follows) = ap (λ (xs : List ℕ). f.log ∷ xs) (untried-logs follows)

epoch-logs : (e : ℕ) (r : Reader) → followed_logs (at_epoch e r).follows ≡ followed_logs r.follows
epoch-logs e r =
    elim (e == r.last)
    as (λ b. followed_logs
    (cond b r (record { follows = map untried r.follows; cursor = r.cursor; last = e })).follows
    ≡ followed_logs r.follows)
    [ true ↦ refl | false ↦ untried-logs r.follows ]

pub after-log : (shape : Shape) (j : ℕ) (answer : Option (List ℕ)) (f : Follow) →
    (follow_after shape j answer f).log ≡ f.log
after-log shape j (Some text) f = refl
after-log shape j None f =
    elim (shape.ahead == 0) as (λ b. (cond b f (record f { tried = j + 1 })).log ≡ f.log)
    [ true ↦ refl | false ↦ refl ]

set-logs : (follows : List Follow) (place : ℕ) (f : Follow) →
    f.log ≡ (follow_in follows place).log →
    followed_logs (slice_set follows place f) ≡ followed_logs follows
set-logs [] place f same = refl
set-logs (x ∷ follows) zero f same = ap (λ (n : ℕ). n ∷ followed_logs follows) same
set-logs (x ∷ follows) (suc place) f same =
    ap (λ (xs : List ℕ). x.log ∷ xs) (set-logs follows place f same)

read-logs : (shape : Shape) (r : Reader) (t : Option Target) (answer : Option (List ℕ)) →
    followed_logs (after_read shape r t answer).follows ≡ followed_logs r.follows
unfolding after_read
read-logs shape r None answer = refl
read-logs shape r (Some t) answer =
    let f = follow_in r.follows t.place in
    set-logs r.follows t.place (follow_after shape t.ahead answer f)
    (after-log shape t.ahead answer f)

pub reader-logs : (S : Script) (w : BookWords) (H : History) (c g : ℕ) →
    followed_logs (reader_before S w H c g).follows ≡ follows_of S c
unfolding reader_before
reader-logs S w H c zero = new-logs (follows_of S c)
reader-logs S w H c (suc g) =
    let r = reader_before S w H c g in
    let t = target_for S w H g c r in
    read-logs S.shape (at_epoch (epoch_at H g c) r) t (answer_for S w H g c t)
    ∙ epoch-logs (epoch_at H g c) r ∙ reader-logs S w H c g

-- ---- the clients at the end of a run

pub ends-leave : EndsLeave
unfolding client_before
ends-leave S w H clients are legal =
    let n = turn_count S.shape in
    record {
      roles_counted = S.sound.roles_counted;
      roles_sound = S.sound.roles_sound;
      legal = legal;
      clients_counted = are.counted;
      each = λ c d within.
          let is : slice_index_or clients c d ≡ client_before S w H n c = at c d within in
          record {
            same = ap (λ (k : ClientState). k.shape) is;
            number = ap (λ (k : ClientState). k.number) is;
            writes = ap (λ (k : ClientState). written_logs k.writing.logs) is ∙ writing-logs S c n;
            follows = ap (λ (k : ClientState). followed_logs k.reader.follows) is
                ∙ reader-logs S w H c n;
          };
    }
  where
    at : (c : ℕ) (d : ClientState) → c < length clients →
        slice_index_or clients c d ≡ client_before S w H (turn_count S.shape) c
    at c d within = are.each c d within

-- ---- their text

flat_map-same : {X A : Type 0} (f h : X → List A) (xs : List X) →
    AllByRecursion (λ x. f x ≡ h x) xs → flat_map f xs ≡ flat_map h xs
flat_map-same f h [] same = refl
flat_map-same {X} {A} f h (x ∷ xs) same =
    ap₂ (λ (a b : List A). a ++ b) same.0 (flat_map-same f h xs same.1)

-- what passes a test that tells something
each-told : {X : Type 0} (test : X → Bool) (P : X → Type 0) (xs : List X) →
    ((x : X) → test x ≡ true → P x) → list_all test xs ≡ true → AllByRecursion P xs
each-told test P [] tells all = tt
each-told test P (x ∷ xs) tells all =
    let both = parts (test x) (list_all test xs) all in
    (tells x both.0, each-told test P xs tells both.1)

-- the followers of each log are clients
pub followers-in : (shape : Shape) (roles : List Role) (log : ℕ) → list_all (is_role shape) roles
    ≡ true →
    list_all (λ c. nat_lt c shape.clients) (role_in roles log).followers ≡ true
followers-in shape [] log all = refl
followers-in shape (role ∷ roles) zero all =
    let first = parts (is_role shape role) (list_all (is_role shape) roles) all in
    let clients = list_all (λ c. nat_lt c shape.clients) role.followers in
    let split = parts (nat_lt role.writer shape.clients && clients) (is_ascending role.followers)
    first.0
    in
    (parts (nat_lt role.writer shape.clients) clients split.0).1
followers-in shape (role ∷ roles) (suc log) all =
    followers-in shape roles log (parts (is_role shape role) (list_all (is_role shape) roles) all).1

pub got-ended : (S : Script) (w : BookWords) (H : History) (clients : List ClientState) (log c : ℕ) →
    AreClientsAtEnd S w H clients → c < S.shape.clients →
    got_by clients c log ≡ got_of S w H c log
unfolding client_before
got-ended S w H clients log c are low =
    let last = client_before S w H (turn_count S.shape) c in
    let within : c < length clients = omega (arith, are.counted, low) in
    map-at (λ (k : ClientState). got_in k.reader.follows log) clients c [] last within
    ∙ ap (λ (k : ClientState). got_in k.reader.follows log) (are.each c last within)

unsent-ended : (S : Script) (w : BookWords) (H : History) (clients : List ClientState) (c : ℕ) →
    AreClientsAtEnd S w H clients → c < S.shape.clients →
    unsent_by clients c ≡ unsent_count S c
unfolding client_before
unsent-ended S w H clients c are low =
    let last = client_before S w H (turn_count S.shape) c in
    let within : c < length clients = omega (arith, are.counted, low) in
    map-at (λ (k : ClientState). length k.writing.waiting) clients c 0 last within
    ∙ ap (λ (k : ClientState). length k.writing.waiting) (are.each c last within)
    ∙ unsent_waits S c

-- reports whose clients got the same and have as many texts left
pub reports-agree : (S : Script) (H : History) (got others : ℕ → ℕ → List Got)
    (unsent left : ℕ → ℕ) → ((c log : ℕ) → c < S.shape.clients → got c log ≡ others c log) →
    ((c : ℕ) → c < S.shape.clients → unsent c ≡ left c) →
    report_text S.shape S.roles H got unsent ≡ report_text S.shape S.roles H others left
unfolding report_text
reports-agree S H got others unsent left same_got same_left =
    let head = line (codes "report" ∷ []) ++ history_lines S.shape H in
    let end = line (codes "end" ∷ []) in
    let logs = flat_map-agree
    (λ log. flat_map (λ c. log_lines log c (got c log)) (role_in S.roles log).followers)
    (λ log. flat_map (λ c. log_lines log c (others c log)) (role_in S.roles log).followers)
    0 S.shape.logs
    (λ log low high.
    flat_map-same (λ c. log_lines log c (got c log)) (λ c. log_lines log c (others c log))
    (role_in S.roles log).followers
    (each-told (λ c. nat_lt c S.shape.clients)
    (λ c. log_lines log c (got c log) ≡ log_lines log c (others c log))
    (role_in S.roles log).followers
    (λ c t. ap (log_lines log c) (same_got c log (ltb-true c S.shape.clients t)))
    (followers-in S.shape S.roles log S.sound.roles_sound)))
    in
    let counts = flat_map-agree (λ c. unsent_line c (unsent c)) (λ c. unsent_line c (left c)) 0
    S.shape.clients
    (λ c low high. ap (unsent_line c) (same_left c (omega (arith, high))))
    in
    ap₂ (λ (a b : List ℕ). head ++ a ++ b ++ end) logs counts

pub ends-text : EndsReport
unfolding report_of
ends-text S w H clients are =
    reports-agree S H (got_by clients) (got_of S w H) (unsent_by clients) (unsent_count S)
    (λ c log low. got-ended S w H clients log c are low)
    (λ c low. unsent-ended S w H clients c are low)
