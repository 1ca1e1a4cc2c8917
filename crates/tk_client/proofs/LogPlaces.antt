-- Where a log stands among those that are written, and how its count rises there.
use Rattle.std.proofs.Common.{◌≡◌, ◌≢◌, ◌<◌, ◌≤◌, ◌+◌, ℕ, zero, suc, refl, sym, ap, ◌∙◌, List, []}
use Rattle.std.proofs.Common.{◌∷◌, Bool, true, false, cond, not, length, map, get_or, set, arith}
use Rattle.std.proofs.Common.{tests, eqb-true, ne_eqb}
use Rattle.std.specs.Prelude.{◌==◌, ◌||◌, nat_lt, position, All, Option, Some, None}
use Rattle.std.specs.List.{list_any, position_or_len, AllPairs}
use Rattle.std.specs.List.Sorted.{IsStrictlyIncreasing}
use Rattle.std.proofs.lemmas.List.{get_or-map, length-map}
use Rattle.std.proofs.lemmas.List.Kept.{AllPairs-from_increasing}
use Rattle.std.proofs.lemmas.List.Quantifiers.{position-Some}
use Rattle.tk_client.specs.declared.written.Written.{Written}
use Rattle.tk_client.specs.Writing.{unwritten, count_of, one_more_of}
use Rattle.tk_client.specs.Saying.{is_written}
use Rattle.tk_client.specs.Outboxes.{logs_of}

abbrev pub is_log : ℕ → Written → Bool
is_log log f = f.log == log

-- ---- whether a place is found says whether the log is written

found-any : {X : Type 0} (p : X → Bool) (xs : List X) →
    nat_lt (position_or_len p xs) (length xs) ≡ list_any p xs
found-any p [] = refl
found-any p (x ∷ xs) =
    elim (p x) as (λ b. nat_lt (cond (not b) (1 + position_or_len p xs) 0) (length (x ∷ xs))
    ≡ (b || list_any p xs)) [
      | true ↦ some (length xs)
      | false ↦ one_more (position_or_len p xs) (length xs) ∙ found-any p xs
    ]
  where
    some : (n : ℕ) → nat_lt 0 (suc n) ≡ true
    some n = grind (arith, tests)

    one_more : (i n : ℕ) → nat_lt (1 + i) (suc n) ≡ nat_lt i n
    one_more i n = grind (arith, tests)

position-any : (log : ℕ) (logs : List Written) →
    position (is_log log) logs ≡ cond (is_written log logs)
    (Some (position_or_len (is_log log) logs)) None
position-any log logs =
    ap (λ b. cond b (Some (position_or_len (is_log log) logs)) None) (found-any (is_log log) logs)

pub written-at : (log : ℕ) (logs : List Written) (i : ℕ) → Some i ≡ position (is_log log) logs →
    is_written log logs ≡ true
written-at log logs i at =
    elim (is_written log logs) as (λ b. Some i ≡ cond b
    (Some (position_or_len (is_log log) logs)) None → b ≡ true)
    [ true ↦ λ e. refl | false ↦ λ e. absurd (none e) ]
    (at ∙ position-any log logs)
  where
    none : ◌≡◌ {A = Option ℕ} (Some i) None → ⊥
    none e = cc e

pub not_written-at : (log : ℕ) (logs : List Written) → position (is_log log) logs ≡ None →
    is_written log logs ≡ false
not_written-at log logs none =
    elim (is_written log logs) as (λ b. cond b (Some (position_or_len (is_log log) logs)) None
    ≡ None → b ≡ false)
    [ true ↦ λ e. absurd (some e) | false ↦ λ e. refl ]
    (sym (position-any log logs) ∙ none)
  where
    some : ◌≡◌ {A = Option ℕ} (Some (position_or_len (is_log log) logs)) None → ⊥
    some e = cc e

-- ---- one text more of a log leaves the logs as they are

same_log : (log : ℕ) (f : Written) → (one_more_of log f).log ≡ f.log
same_log log f =
    elim (f.log == log) as (λ b. (cond b (record f { count = f.count + 1 }) f).log ≡ f.log)
    [ true ↦ refl | false ↦ refl ]

pub logs_of-more : (log : ℕ) (logs : List Written) →
    logs_of (map (one_more_of log) logs) ≡ logs_of logs
logs_of-more log [] = refl
logs_of-more log (f ∷ logs) =
    ap (λ n. n ∷ logs_of (map (one_more_of log) logs)) (same_log log f)
    ∙ ap (λ ns. f.log ∷ ns) (logs_of-more log logs)

pub is_written-more : (log other : ℕ) (logs : List Written) →
    is_written other (map (one_more_of log) logs) ≡ is_written other logs
is_written-more log other [] = refl
is_written-more log other (f ∷ logs) =
    ap (λ n. (n == other) || is_written other (map (one_more_of log) logs)) (same_log log f)
    ∙ ap (λ b. (f.log == other) || b) (is_written-more log other logs)

pub logs_of-unwritten : (logs : List ℕ) → logs_of (map unwritten logs) ≡ logs
logs_of-unwritten [] = refl
logs_of-unwritten (log ∷ logs) = ap (λ ns. log ∷ ns) (logs_of-unwritten logs)

-- a log that is written is one of the shape
pub written-in : (n log : ℕ) (logs : List Written) → All (λ l. l < n) (logs_of logs) →
    is_written log logs ≡ true → log < n
written-in n log [] within here = absurd (cc here)
written-in n log (f ∷ logs) within here =
    elim (f.log == log) as (λ b. (f.log == log) ≡ b → (b || is_written log logs) ≡ true → log < n) [
      | true ↦ λ e h. let first : f.log < n =
          within 0 0 (omega arith) in omega (arith, first, eqb-true f.log log e)
      | false ↦ λ e h. written-in n log logs
          (λ k d within_k. within (suc k) d (omega (arith, within_k))) h
    ] refl here

-- ---- the count that rises is the one at the log's place

none-more : (log : ℕ) (logs : List Written) (d : Written) →
    ((k : ℕ) → k < length logs → (get_or logs k d).log ≢ log) → map (one_more_of log) logs ≡ logs
none-more log [] d others = refl
none-more log (f ∷ logs) d others =
    ap (λ b. cond b (record f { count = f.count + 1 }) f ∷ map (one_more_of log) logs)
    (ne_eqb f.log log (others 0 (omega arith)))
    ∙ ap (λ fs. f ∷ fs) (none-more log logs d (λ k h. others (suc k) (omega (arith, h))))

more-at_place : (log : ℕ) (logs : List Written) (i : ℕ) (d : Written) → i < length logs →
    (is_log log (get_or logs i d) ≡ true) →
    ((k : ℕ) → k < length logs → k ≢ i → (get_or logs k d).log ≢ log) →
    map (one_more_of log) logs ≡ set logs i
    (record (get_or logs i d) { count = (get_or logs i d).count + 1 })
more-at_place log [] i d within here others = absurd (omega (arith, within))
more-at_place log (f ∷ logs) zero d within here others =
    ap (λ b. cond b (record f { count = f.count + 1 }) f ∷ map (one_more_of log) logs) here
    ∙ ap (λ fs. record f { count = f.count + 1 } ∷ fs)
    (none-more log logs d (λ k h. others (suc k) (omega (arith, h))
    (λ e. absurd (omega (arith, e)))))
more-at_place log (f ∷ logs) (suc i) d within here others =
    ap (λ b. cond b (record f { count = f.count + 1 }) f ∷ map (one_more_of log) logs)
    (ne_eqb f.log log (others 0 (omega arith) (λ e. absurd (omega (arith, e)))))
    ∙ ap (λ fs. f ∷ fs) (more-at_place log logs i d (omega (arith, within)) here
    (λ k h other. others (suc k) (omega (arith, h)) (λ e. other (omega (arith, e)))))

-- the count of a log is the one at its place
pub count_of-at : (log : ℕ) (logs : List Written) (i : ℕ) (d : Written) →
    Some i ≡ position (is_log log) logs →
    (get_or logs i d).count ≡ count_of log logs
count_of-at log logs i d at =
    let place = position-Some (is_log log) logs i d (sym at) in
    first log logs i d place.0 place.1 place.2
  where
    first : (log : ℕ) (logs : List Written) (i : ℕ) (d : Written) → i < length logs →
        is_log log (get_or logs i d) ≡ true →
        ((k : ℕ) → k < i → is_log log (get_or logs k d) ≡ false) →
        (get_or logs i d).count ≡ count_of log logs
    first log [] i d within here before = absurd (omega (arith, within))
    first log (f ∷ logs) zero d within here before =
        ap (λ b. cond b f.count (count_of log logs)) (sym here)
    first log (f ∷ logs) (suc i) d within here before =
        first log logs i d (omega (arith, within)) here (λ k h. before (suc k) (omega (arith, h)))
        ∙ ap (λ b. cond b f.count (count_of log logs)) (sym (before 0 (omega arith)))

-- of two places at different heights only one has this height
one_place : (k i a b n : ℕ) → (k < i → a < b) → (i < k → b < a) → a ≡ n → b ≡ n → k ≢ i → ⊥
one_place k i a b n low high a_is b_is other =
    elim (nat_lt k i) as (λ t. nat_lt k i ≡ t → ⊥) [
      | true ↦ λ e. let less = low (below e) in omega (arith, less, a_is, b_is)
      | false ↦ λ e. let up_to = not_below e in let less =
          high (omega (arith, up_to, other)) in omega (arith, less, a_is, b_is)
    ] refl
  where
    below : nat_lt k i ≡ true → k < i
    below e = grind (arith, tests)

    not_below : nat_lt k i ≡ false → i ≤ k
    not_below e = grind (arith, tests)

-- one text more of a log is one more at its place, where the logs ascend
pub more-at : (log : ℕ) (logs : List Written) (i : ℕ) (d : Written) →
    IsStrictlyIncreasing (logs_of logs) →
    Some i ≡ position (is_log log) logs →
    map (one_more_of log) logs ≡ set logs i
    (record (get_or logs i d) { count = (get_or logs i d).count + 1 })
more-at log logs i d ascending at =
    let place = position-Some (is_log log) logs i d (sym at) in
    let here : (get_or logs i d).log ≡ log = eqb-true (get_or logs i d).log log place.1 in
    let log_at : (k : ℕ) → k < length logs → get_or (logs_of logs) k 0 ≡ (get_or logs k d).log =
    λ k h. get_or-map (λ (f : Written). f.log) logs k d 0 h
    in
    let pairs = AllPairs-from_increasing (logs_of logs) ascending in
    more-at_place log logs i d place.0 place.1 (apart logs i d log place.0 here log_at pairs)
  where
    apart : (logs : List Written) (i : ℕ) (d : Written) (log : ℕ) → i < length logs →
        (get_or logs i d).log ≡ log →
        ((k : ℕ) → k < length logs → get_or (logs_of logs) k 0 ≡ (get_or logs k d).log) →
        AllPairs (λ x y. x < y) (logs_of logs) →
        (k : ℕ) → k < length logs → k ≢ i → (get_or logs k d).log ≢ log
    apart logs i d log within here log_at pairs k k_in other same =
        let counted : length (logs_of logs) ≡ length logs = length-map logs (λ f. f.log) in
        let low : k < i → get_or (logs_of logs) k 0 < get_or (logs_of logs) i 0 =
        λ h. pairs k i 0 h (omega arith) in
        let high : i < k → get_or (logs_of logs) i 0 < get_or (logs_of logs) k 0 =
        λ h. pairs i k 0 h (omega arith) in
        one_place k i _ _ log low high (log_at k k_in ∙ same) (log_at i within ∙ here) other

-- the same, told of what was read at the place
pub more-read : (log : ℕ) (logs : List Written) (i : ℕ) (d e : Written) (count : ℕ) →
    IsStrictlyIncreasing (logs_of logs) →
    Some i ≡ position (is_log log) logs → d ≡ get_or logs i d → e ≡ get_or logs i e →
    count ≡ e.count + 1 →
    set logs i (record { log = d.log; count = count }) ≡ map (one_more_of log) logs
more-read log logs i d e count ascending at d_is e_is count_is =
    let same_log : d.log ≡ (get_or logs i d).log = ap (λ (f : Written). f.log) d_is in
    let same_count : count ≡ (get_or logs i d).count + 1 =
    omega (
      arith,
      count_is,
      ap (λ (f : Written). f.count) e_is,
      count_of-at log logs i d at,
      count_of-at log logs i e at,
    )
    in
    let same : ◌≡◌ {A = List Written} (set logs i (record { log = d.log; count = count }))
    (set logs i (record { log = (get_or logs i d).log; count = (get_or logs i d).count + 1 })) =
    λ j. set logs i (record { log = same_log j; count = same_count j })
    in
    same ∙ sym (more-at log logs i d ascending at)

pub count-read : (log : ℕ) (logs : List Written) (i : ℕ) (e : Written) →
    Some i ≡ position (is_log log) logs →
    e ≡ get_or logs i e → e.count ≡ count_of log logs
count-read log logs i e at e_is = ap (λ (f : Written). f.count) e_is ∙ count_of-at log logs i e at
