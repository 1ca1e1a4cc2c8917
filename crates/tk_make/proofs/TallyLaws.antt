-- The counts of what a run left are those of the run.
use Rattle.std.proofs.Common.{◌≡◌, ◌∙◌, ℕ, zero, suc, ◌+◌, ◌<◌, ◌≤◌, nat_lt, true, List, [], ◌∷◌}
use Rattle.std.proofs.Common.{ap, ap₂, sym, refl, arith, ltb-true}
use Rattle.std.specs.Prelude.{sum_by, count_by}
use Rattle.std.specs.List.{range_with_len, list_all}
use Rattle.std.proofs.lemmas.Bool.{and_parts}
use Rattle.std.proofs.lemmas.List.Sums.{sum_by-cons}
use Rattle.tk_shape.specs.declared.shape.Shape.{Shape}
use Rattle.tk_schedule.specs.declared.history.History.{History}
use Rattle.tk_script.specs.declared.role.Role.{Role}
use Rattle.tk_script.specs.declared.script.Script.{Script}
use Rattle.tk_words.specs.Words.{BookWords}
use Rattle.tk_client.specs.Client.{ClientState}
use Rattle.tk_report.specs.Clients.{AreClientsAtEnd}
use Rattle.tk_report.specs.Leaving.{got_by}
use Rattle.tk_report.specs.Outcomes.{IsLeftBy}
use Rattle.tk_report.specs.Report.{got_of, role_in}
use Rattle.tk_report.specs.declared.outcome.Outcome.{Outcome}
use Rattle.tk_report.proofs.Offers.{got-ended, followers-in, ends-unsent}
use Rattle.tk_make.specs.declared.kind.Kind.{Kind}
use Rattle.tk_make.specs.declared.kind.Kind.TheVariants as kind
use Rattle.tk_make.specs.Tallies.{is_of, given_by, given, got_count, counts_from}
use Rattle.tk_make.specs.Tallies.{write_count, lines_of_counts, tally_left, tally_of, OutcomesTally}

-- ---- sums

sum_range-same : (f h : ℕ → ℕ) (a n : ℕ) → ((k : ℕ) → a ≤ k → k < a + n → f k ≡ h k) →
    sum_by f (range_with_len a n) ≡ sum_by h (range_with_len a n)
sum_range-same f h a zero same = refl
sum_range-same f h a (suc n) same =
    sum_by-cons f a (range_with_len (a + 1) n)
    ∙ ap₂ (λ (x y : ℕ). x + y) (same a (omega arith) (omega arith))
    (sum_range-same f h (a + 1) n (λ k low high. same k (omega (arith, low)) (omega (arith, high))))
    ∙ sym (sum_by-cons h a (range_with_len (a + 1) n))

-- of numbers that are all below a limit
sum_below-same : (f h : ℕ → ℕ) (limit : ℕ) (xs : List ℕ) →
    ((k : ℕ) → k < limit → f k ≡ h k) → list_all (λ k. nat_lt k limit) xs ≡ true →
    sum_by f xs ≡ sum_by h xs
sum_below-same f h limit [] same low = refl
sum_below-same f h limit (x ∷ xs) same low =
    let both = and_parts (nat_lt x limit) (list_all (λ k. nat_lt k limit) xs) low in
    sum_by-cons f x xs
    ∙ ap₂ (λ (a b : ℕ). a + b) (same x (ltb-true x limit both.0))
    (sum_below-same f h limit xs same both.1)
    ∙ sym (sum_by-cons h x xs)

-- ---- what followers got

given-ended : (S : Script) (w : BookWords) (H : History) (clients : List ClientState) (k : Kind) →
    AreClientsAtEnd S w H clients → given S.shape S.roles clients k ≡ got_count S w H k
given-ended S w H clients k are =
    sum_range-same (given_by S.roles clients k)
    (λ log. sum_by (λ c. count_by (is_of k) (got_of S w H c log)) (role_in S.roles log).followers)
    0 S.shape.logs
    (λ log low high.
    sum_below-same (λ c. count_by (is_of k) (got_by clients c log))
    (λ c. count_by (is_of k) (got_of S w H c log)) S.shape.clients (role_in S.roles log).followers
    (λ c client. ap (count_by (is_of k)) (got-ended S w H clients log c are client))
    (followers-in S.shape S.roles log S.sound.roles_sound))

given-left : (S : Script) (w : BookWords) (H : History) (o : Outcome) (k : Kind) →
    IsLeftBy S w H o → given o.shape o.roles o.clients k ≡ got_count S w H k
given-left S w H o k left =
    ap₂ (λ (shape : Shape) (roles : List Role). given shape roles o.clients k) left.shape left.roles
    ∙ given-ended S w H o.clients k left.clients

same-counts : {a b c d e f said left writes displaced delivered absent : ℕ} → a ≡ said →
    b ≡ left → c ≡ writes → d ≡ displaced → e ≡ delivered → f ≡ absent →
    counts_from a b c d e f ≡ counts_from said left writes displaced delivered absent
same-counts {a} {b} {c} {d} {e} {f} {said} {left} {writes} {displaced} {delivered} {absent}
    said_is left_is writes_is displaced_is delivered_is absent_is =
    ap (λ (n : ℕ). counts_from n b c d e f) said_is
    ∙ ap (λ (n : ℕ). counts_from said n c d e f) left_is
    ∙ ap (λ (n : ℕ). counts_from said left n d e f) writes_is
    ∙ ap (λ (n : ℕ). counts_from said left writes n e f) displaced_is
    ∙ ap (λ (n : ℕ). counts_from said left writes displaced n f) delivered_is
    ∙ ap (λ (n : ℕ). counts_from said left writes displaced delivered n) absent_is

pub outcomes-tally : OutcomesTally
unfolding tally_left tally_of
outcomes-tally S w H o left =
    ap lines_of_counts
    (same-counts left.said (ends-unsent S w H o.clients left.clients)
    (ap write_count left.shape) left.displaced
    (given-left S w H o kind.Delivered left) (given-left S w H o kind.Absent left))
