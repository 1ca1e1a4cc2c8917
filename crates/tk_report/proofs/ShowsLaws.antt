-- A report shows its history.
use Rattle.std.proofs.Common.{◌≡◌, refl, ap, ◌∙◌, arith, ℕ, zero, suc, ◌≤◌, Bool, true, ◌||◌}
use Rattle.std.proofs.Common.{List, [], ◌∷◌, ◌++◌, codes, append_assoc}
use Rattle.std.specs.Prelude.{flat_map}
use Rattle.std.specs.List.{range_with_len}
use Rattle.tk_schedule.specs.declared.history.History.{History}
use Rattle.tk_script.specs.declared.script.Script.{Script}
use Rattle.tk_script.specs.Sent.{unsent_count}
use Rattle.tk_words.specs.Words.{BookWords, words_of}
use Rattle.tk_report.specs.Report.{line, role_at, got_of, log_lines, unsent_line, history_lines, report_text, report_of}
use Rattle.tk_report.specs.Shown.{begins_with}
use Rattle.tk_report.specs.Histories.{ReportsShow}

-- what may come after a history
abbrev is_rest : List ℕ → Bool
is_rest rest = begins_with (codes "log") rest || begins_with (codes "unsent") rest

-- lines for each, in front of what may come after a history, may come after one too
each-rest : {X : Type 0} (f : X → List ℕ) →
    ((x : X) (behind : List ℕ) → is_rest behind ≡ true → is_rest (f x ++ behind) ≡ true) →
    (xs : List X) (behind : List ℕ) → is_rest behind ≡ true → is_rest (flat_map f xs ++ behind)
    ≡ true
each-rest f keeps [] behind is = is
each-rest f keeps (x ∷ xs) behind is =
    ap is_rest (append_assoc (f x) (flat_map f xs) behind)
    ∙ keeps x (flat_map f xs ++ behind) (each-rest f keeps xs behind is)

-- the lines of the logs
abbrev logs_of : Script → BookWords → History → ℕ → List ℕ
logs_of S w H log =
    flat_map (λ c. log_lines log c (got_of S w H c log)) (role_at S log).followers

log-rest : (S : Script) (w : BookWords) (H : History) (log : ℕ) (behind : List ℕ) →
    is_rest behind ≡ true → is_rest (logs_of S w H log ++ behind) ≡ true
log-rest S w H log behind is =
    each-rest (λ c. log_lines log c (got_of S w H c log)) (λ c rest _. refl)
    (role_at S log).followers behind is

-- the lines of what is unsent, of which there is one
unsent-rest : (S : Script) (n : ℕ) (behind : List ℕ) → 1 ≤ n →
    is_rest (flat_map (λ c. unsent_line c (unsent_count S c)) (range_with_len 0 n) ++ behind) ≡ true
unsent-rest S zero behind some = absurd (omega (arith, some))
unsent-rest S (suc n) behind some = refl

pub reports-show : ReportsShow
unfolding report_text report_of
reports-show S b H legal =
    let w = words_of S.shape b in
    let head = line (codes "report" ∷ []) ++ history_lines S.shape H in
    let logs = flat_map (logs_of S w H) (range_with_len 0 S.shape.logs) in
    let unsent =
    flat_map (λ c. unsent_line c (unsent_count S c)) (range_with_len 0 S.shape.clients)
    in
    let end = line (codes "end" ∷ []) in
    let is : is_rest (logs ++ (unsent ++ end)) ≡ true =
    each-rest (logs_of S w H) (log-rest S w H) (range_with_len 0 S.shape.logs) (unsent ++ end)
    (unsent-rest S S.shape.clients end S.shape.in_range.clients_low)
    in
    record {
      legal = legal;
      rest = logs ++ unsent ++ end;
      front = ap (λ (text : List ℕ). text ++ end) (append_assoc head logs unsent)
          ∙ append_assoc head (logs ++ unsent) end;
      stops = ap is_rest (append_assoc logs unsent end) ∙ is;
    }
