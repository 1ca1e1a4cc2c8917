-- A reader passes over nothing but what wasn't retained where it read.
use Rattle.std.proofs.Common.{◌≡◌, refl, ap, ap₂, sym, ◌∙◌, subst, arith, ◌⊎◌, inl, inr}
use Rattle.std.proofs.Common.{ℕ, zero, suc, ◌+◌, ◌-◌, ◌<◌, ◌≤◌, nat_lt, ◌==◌, lt-ltb, ltb-true}
use Rattle.std.proofs.Common.{Bool, true, false, cond, ◌&&◌, eqb-true, zero-add, suc-add}
use Rattle.std.proofs.Common.{List, [], ◌∷◌, ◌++◌, length, map, filter, find, replicate, slice_get, append_assoc}
use Rattle.std.proofs.Common.{slice_index_or, slice_set, Option, Some, None}
use Rattle.std.specs.List.{AllByRecursion, range_with_len}
use Rattle.std.specs.Option.{option_or}
use Rattle.std.proofs.lemmas.Bool.{cases_lt, and_parts as parts}
use Rattle.std.proofs.lemmas.Option.{same_Some, slice_get_within}
use Rattle.tk_lists.proofs.Offers.{option_map-from}
use Rattle.tk_shape.specs.declared.shape.Shape.{Shape}
use Rattle.tk_shape.specs.Lengths.{turn_count}
use Rattle.tk_schedule.specs.declared.history.History.{History}
use Rattle.tk_schedule.specs.Schedule.{epoch_at}
use Rattle.tk_script.specs.declared.script.Script.{Script}
use Rattle.tk_words.specs.Words.{BookWords, words_of}
use Rattle.tk_words.specs.Opening.{IsNumber, OpensSealed}
use Rattle.tk_words.specs.OpeningLaws.{opens_sealed}
use Rattle.tk_frames.specs.Order.{before}
use Rattle.tk_frames.specs.Lists.{first_some}
use Rattle.tk_client.specs.declared.got.Got.{Got}
use Rattle.tk_client.specs.declared.got.Got.TheVariants.{Absent, Text}
use Rattle.tk_table.specs.Shown.{is_shown}
use Rattle.tk_report.specs.Entries.{entries}
use Rattle.tk_client.specs.declared.target.Target.{Target}
use Rattle.tk_client.specs.Reader.{Follow, Reader, next_of, new_follow, untried}
use Rattle.tk_client.specs.Reader.{at_epoch, wanted, follow_at, number_ahead, target_in, target, places_from_cursor}
use Rattle.tk_client.specs.Reader.{follow_after, after_read, first_got, got_in}
use Rattle.tk_report.specs.Report.{lookup, is_follower, read_over, target_for, answer_for}
use Rattle.tk_report.specs.Report.{reader_step, reader_before, target_at}
use Rattle.tk_report.specs.PassingOver.{IsNotRetained, IsRightlyPassed, HonestPassingOver}
use Rattle.tk_report.proofs.RetainedLaws.{not_shown-not_retained, not_found-not_retained}

-- ---- the number that is wanted

-- of n numbers from a on, one that passes, and none before it does
record IsFirst (test : ℕ → Bool) (a n j : ℕ) : Type 0 where
  passes : test j ≡ true
  above : a ≤ j
  within : j < a + n
  fail_before : (i : ℕ) → a ≤ i → i < j → test i ≡ false

find-first : (test : ℕ → Bool) (a n j : ℕ) → find test (range_with_len a n) ≡ Some j →
    IsFirst test a n j
find-first test a zero j e = absurd (cc e)
find-first test a (suc n) j e =
    elim (test a)
    as (λ b. test a ≡ b → cond b (Some a) (find test (range_with_len (a + 1) n)) ≡ Some j →
    IsFirst test a (suc n) j) [
      | true ↦ λ hit here. let same = same_Some a j here in
          record {
            passes = subst (λ k. test k ≡ true) same hit;
            above = omega (arith, same);
            within = omega (arith, same);
            fail_before = λ i low high. absurd (omega (arith, low, high, same));
          }
      | false ↦ λ miss later. let behind = find-first test (a + 1) n j later in
          record {
            passes = behind.passes;
            above = let above = behind.above in omega (arith, above);
            within = let below = behind.within in omega (arith, below);
            fail_before = λ i low high. elim (cases_lt a i) [
              | inl above ↦ behind.fail_before i (omega (arith, above)) high
              | inr below ↦
                  let same : a ≡ i = omega (arith, low, below) in
                  subst (λ k. test k ≡ false) same miss
            ];
          }
    ] refl e

-- a number that is found from tried on
reached-ahead : (tried ahead j : ℕ) → tried ≤ j → j < tried + (ahead - tried) → 1 ≤ j → j < ahead
reached-ahead tried ahead j low within some = elim (cases_lt tried ahead) [
  | inl less ↦ omega (arith, less, within)
  | inr past ↦ absurd (omega (arith, past, within, low))
]

-- the number is one of the run, the next one or one that reading ahead reaches, and those before it
-- were tried already or aren't shown
pub record IsWanted (shape : Shape) (shown : ℕ → ℕ → Bool) (f : Follow) (j : ℕ) : Type 0 where
  pub in_run : next_of f + j < turn_count shape
  pub reached : 1 ≤ j → j < shape.ahead
  pub earlier : (i : ℕ) → i < j → (i < f.tried) ⊎ (shown f.log (next_of f + i) ≡ false)

wanted-next : (n count j : ℕ) → cond (nat_lt n count) (Some 0) None ≡ Some j →
    (n < count) × (0 ≡ j)
wanted-next n count j e =
    elim (nat_lt n count)
    as (λ b. nat_lt n count ≡ b → cond b (Some 0) None ≡ Some j → (n < count) × (0 ≡ j)) [
      | true ↦ λ low here. (ltb-true n count low, same_Some 0 j here)
      | false ↦ λ _ none. absurd (cc none)
    ] refl e

second_fails : (a b : Bool) → a ≡ true → (a && b) ≡ false → b ≡ false
second_fails a b passes fails = sym (ap (λ x. x && b) passes) ∙ fails

wanted-is : (shape : Shape) (shown : ℕ → ℕ → Bool) (f : Follow) (j : ℕ) →
    wanted shape shown f ≡ Some j → IsWanted shape shown f j
wanted-is shape shown f j e =
    let n = next_of f in
    let test : ℕ → Bool = λ i. nat_lt (n + i) (turn_count shape) && shown f.log (n + i) in
    let ahead = range_with_len f.tried (shape.ahead - f.tried) in
    elim (shape.ahead == 0)
    as (λ b. cond b (cond (nat_lt n (turn_count shape)) (Some 0) None) (find test ahead) ≡ Some j →
    IsWanted shape shown f j) [
      | true ↦ λ next. let is = wanted-next n (turn_count shape) j next in
          record {
            in_run = omega (arith, is.0, is.1);
            reached = λ some. absurd (omega (arith, some, is.1));
            earlier = λ i low. absurd (omega (arith, low, is.1));
          }
      | false ↦ λ found.
          let first = find-first test f.tried (shape.ahead - f.tried) j found in
          let both = parts (nat_lt (n + j) (turn_count shape)) (shown f.log (n + j)) first.passes in
          let low = ltb-true (n + j) (turn_count shape) both.0 in
          record {
            in_run = low;
            reached = reached-ahead f.tried shape.ahead j first.above first.within;
            earlier = λ i less. elim (cases_lt i f.tried) [
              | inl tried ↦ inl tried
              | inr not_tried ↦
                  let in_run : n + i < turn_count shape = omega (arith, low, less) in
                  inr (second_fails (nat_lt (n + i) (turn_count shape)) (shown f.log (n + i))
                  (lt-ltb (n + i) (turn_count shape) in_run) (first.fail_before i not_tried less))
            ];
          }
    ] e

-- a target is the number wanted of the log at its place
pub record IsTargetOf (shape : Shape) (shown : ℕ → ℕ → Bool) (r : Reader) (t : Target) : Type 0 where
  pub of_log : t.log ≡ (follow_at r t.place).log
  pub of_number : t.number ≡ next_of (follow_at r t.place) + t.ahead
  pub is_wanted : IsWanted shape shown (follow_at r t.place) t.ahead

first_some-from : {X Y : Type 0} (f : X → Option Y) (xs : List X) (y : Y) →
    first_some f xs ≡ Some y → (x : X) × (f x ≡ Some y)
first_some-from f [] y e = absurd (cc e)
first_some-from {X} {Y} f (x ∷ xs) y e =
    elim (f x) as (λ o. f x ≡ o → option_or o (first_some f xs) ≡ Some y →
    (z : X) × (f z ≡ Some y)) [
      | None ↦ λ _ later. first_some-from f xs y later
      | Some z ↦ λ here same. (x, here ∙ same)
    ] refl e

pub target-is : (shape : Shape) (shown : ℕ → ℕ → Bool) (r : Reader) (t : Target) →
    target shape shown r ≡ Some t → IsTargetOf shape shown r t
unfolding target
target-is shape shown r t e =
    let given = first_some-from
    (target_in shape shown r.follows) (places_from_cursor r) t e
    in
    let i = given.0 in
    let wants = wanted shape shown (follow_at r i) in
    let number = option_map-from (number_ahead i (follow_at r i)) wants t given.1 in
    let j = number.0 in
    let here : IsTargetOf shape shown r (number_ahead i (follow_at r i) j) = record {
      of_log = refl;
      of_number = refl;
      is_wanted = wanted-is shape shown (follow_at r i) j number.1;
    }
    in
    subst (IsTargetOf shape shown r) number.2 here

-- ---- what a log gave

pub get-front : {X : Type 0} (xs ys : List X) (i : ℕ) → i < length xs →
    slice_get (xs ++ ys) i ≡ slice_get xs i
get-front [] ys i low = absurd (omega (arith, low))
get-front (x ∷ xs) ys zero low = refl
get-front (x ∷ xs) ys (suc i) low = get-front xs ys i (omega (arith, low))

pub get-behind : {X : Type 0} (xs ys : List X) (i : ℕ) →
    slice_get (xs ++ ys) (length xs + i) ≡ slice_get ys i
get-behind [] ys i = ap (slice_get ys) (zero-add i)
get-behind (x ∷ xs) ys i =
    ap (slice_get (x ∷ (xs ++ ys))) (suc-add (length xs) i) ∙ get-behind xs ys i

-- so many numbers without a text, and one with it
abbrev pub absent_then : ℕ → List ℕ → List Got
absent_then j text = replicate j Absent ++ Text text ∷ []

get-text : (j : ℕ) (text : List ℕ) → slice_get (absent_then j text) j ≡ Some (Text text)
get-text zero text = refl
get-text (suc j) text = get-text j text

get-absent : (j i : ℕ) (text : List ℕ) → i < j → slice_get (absent_then j text) i ≡ Some Absent
get-absent zero i text low = absurd (omega (arith, low))
get-absent (suc j) zero text low = refl
get-absent (suc j) (suc i) text low = get-absent j i text (omega (arith, low))

absent-before : (j i : ℕ) (text : List ℕ) → slice_get (absent_then j text) i ≡ Some Absent → i < j
absent-before zero zero text e = absurd (cc e)
absent-before zero (suc i) text e = absurd (cc e)
absent-before (suc j) zero text e = omega arith
absent-before (suc j) (suc i) text e = let low = absent-before j i text e in omega (arith, low)

-- what comes after changes nothing
passed-more : (S : Script) (w : BookWords) (H : History) (c log : ℕ) (got more : List Got) (s : ℕ) →
    IsRightlyPassed S w H c log got s → IsRightlyPassed S w H c log (got ++ more) s
passed-more S w H c log got more s p =
    let next = p.next in
    let within = slice_get_within got p.number (Text p.text) next.gave in
    record {
      number = p.number;
      text = p.text;
      next = record {
        behind = next.behind;
        gave = get-front got more p.number within ∙ next.gave;
        between = λ k low high.
            get-front got more k (omega (arith, within, high)) ∙ next.between k low high;
      };
      turn = p.turn;
      in_run = p.in_run;
      reads = p.reads;
      not_retained = p.not_retained;
      two_ahead = p.two_ahead;
    }

-- ---- a log that is followed

-- Each number that is recorded absent was rightly passed over. Of those that were tried in vain in
-- epoch e, none is retained in it.
record IsHonest (S : Script) (w : BookWords) (H : History) (c e : ℕ) (f : Follow) : Type 0 where
  log_in : f.log < S.shape.logs
  passed : (s : ℕ) → slice_get f.got s ≡ Some Absent → IsRightlyPassed S w H c f.log f.got s
  tried : (i : ℕ) → i < f.tried →
      IsNotRetained S w (before (entries S w H) e) f.log (next_of f + i)

abbrev AreHonest : Script → BookWords → History → ℕ → ℕ → List Follow → Type 0
AreHonest S w H c e follows = AllByRecursion (IsHonest S w H c e) follows

new-honest : (S : Script) (w : BookWords) (H : History) (c log : ℕ) → log < S.shape.logs →
    IsHonest S w H c 0 (new_follow log)
new-honest S w H c log within =
    record {
      log_in = within;
      passed = λ s e. absurd (cc e);
      tried = λ i low. absurd (omega (arith, low));
    }

new-are-honest : (S : Script) (w : BookWords) (H : History) (c a n : ℕ) → a + n ≤ S.shape.logs →
    AreHonest S w H c 0 (map new_follow (filter (is_follower S c) (range_with_len a n)))
new-are-honest S w H c a zero within = tt
new-are-honest S w H c a (suc n) within =
    let later = new-are-honest S w H c (a + 1) n (omega (arith, within)) in
    let behind = filter (is_follower S c) (range_with_len (a + 1) n) in
    elim (is_follower S c a)
    as (λ b. AreHonest S w H c 0 (map new_follow (cond b (a ∷ behind) behind))) [
      | true ↦ (new-honest S w H c a (omega (arith, within)), later)
      | false ↦ later
    ]

untried-honest : (S : Script) (w : BookWords) (H : History) (c last e : ℕ) (follows : List Follow) →
    AreHonest S w H c last follows → AreHonest S w H c e (map untried follows)
untried-honest S w H c last e [] are = tt
untried-honest S w H c last e (f ∷ follows) are =
    let now : IsHonest S w H c e (untried f) = record {
      log_in = are.0.log_in;
      passed = are.0.passed;
      tried = λ i low. absurd (omega (arith, low));
    }
    in
    (now, untried-honest S w H c last e follows are.1)

-- a reader at the epoch that it reads
record IsHonestAt (S : Script) (w : BookWords) (H : History) (c e : ℕ) (r : Reader) : Type 0 where
  last : r.last ≡ e
  follows : AreHonest S w H c e r.follows

epoch-honest : (S : Script) (w : BookWords) (H : History) (c e : ℕ) (r : Reader) →
    AreHonest S w H c r.last r.follows → IsHonestAt S w H c e (at_epoch e r)
epoch-honest S w H c e r are =
    let later : Reader = record { follows = map untried r.follows; cursor = r.cursor; last = e } in
    elim (e == r.last) as (λ b. (e == r.last) ≡ b → IsHonestAt S w H c e (cond b r later)) [
      | true ↦ λ same. let last = sym (eqb-true e r.last same) in
          record { last = last; follows = subst (λ n. AreHonest S w H c n r.follows) last are }
      | false ↦ λ _.
          record { last = refl; follows = untried-honest S w H c r.last e r.follows are }
    ] refl

-- ---- a log after a read

-- a read in turn g for the number of a log that is j ahead of the next one
record IsReadOf (S : Script) (w : BookWords) (H : History) (c g j : ℕ) (f : Follow) : Type 0 where
  in_run : g < turn_count S.shape
  target : Target
  asks : target_at S w H g c ≡ Some target
  of_log : target.log ≡ f.log
  of_number : target.number ≡ next_of f + j
  number_in : next_of f + j < turn_count S.shape
  reached : 1 ≤ j → j < S.shape.ahead
  earlier : (i : ℕ) → i < j → IsNotRetained S w (read_over S w H g c) f.log (next_of f + i)

-- a number before the one that was found is rightly passed over
passed-now : (S : Script) (w : BookWords) (H : History) (c g j i : ℕ) (f : Follow)
    (text : List ℕ) → IsReadOf S w H c g j f →
    lookup S.shape w (read_over S w H g c) f.log (next_of f + j) ≡ Some text → i < j →
    IsRightlyPassed S w H c f.log (f.got ++ absent_then j text) (next_of f + i)
passed-now S w H c g j i f text read found less =
    let new = absent_then j text in
    record {
      number = next_of f + j;
      text = text;
      next = record {
        behind = omega (arith, less);
        gave = get-behind f.got new j ∙ get-text j text;
        between = λ k low high. absent-at k (omega (arith, low)) high;
      };
      turn = g;
      in_run = read.in_run;
      reads = record {
        target = read.target;
        asks = read.asks;
        of_log = read.of_log;
        of_number = read.of_number;
        answer = found;
      };
      not_retained = read.earlier i less;
      two_ahead = let low = read.reached (omega (arith, less)) in omega (arith, less, low);
    }
  where
    absent-at : (k : ℕ) → next_of f ≤ k → k < next_of f + j →
        slice_get (f.got ++ absent_then j text) k ≡ Some Absent
    absent-at k low high =
        let at : next_of f + (k - next_of f) ≡ k = omega (arith, low) in
        ap (slice_get (f.got ++ absent_then j text)) (sym at)
        ∙ get-behind f.got (absent_then j text) (k - next_of f)
        ∙ get-absent j (k - next_of f) text (omega (arith, low, high))

-- a log with what it gave so far, of which nothing more was tried
abbrev pub settled : Follow → List Got → Follow
settled f got = record { log = f.log; got = got; tried = 0 }

found-honest : (S : Script) (w : BookWords) (H : History) (c g e j : ℕ) (f : Follow)
    (text : List ℕ) → IsHonest S w H c e f → IsReadOf S w H c g j f →
    lookup S.shape w (read_over S w H g c) f.log (next_of f + j) ≡ Some text →
    IsHonest S w H c e (follow_after S.shape j (Some text) f)
found-honest S w H c g e j f text honest read found =
    let one_by_one = append_assoc f.got (replicate j Absent) (Text text ∷ []) in
    let now : IsHonest S w H c e (settled f (f.got ++ new)) = record {
      log_in = honest.log_in;
      passed = passed_or_before;
      tried = λ i low. absurd (omega (arith, low));
    }
    in
    subst (IsHonest S w H c e) (ap (settled f) (sym one_by_one)) now
  where
    new : List Got
    new = absent_then j text

    passed_or_before : (s : ℕ) → slice_get (f.got ++ new) s ≡ Some Absent →
        IsRightlyPassed S w H c f.log (f.got ++ new) s
    passed_or_before s absent =
        elim (cases_lt s (next_of f)) [
          | inl old ↦ passed-more S w H c f.log f.got new s
              (honest.passed s (sym (get-front f.got new s old) ∙ absent))
          | inr behind ↦
              let at : next_of f + (s - next_of f) ≡ s = omega (arith, behind) in
              let here = sym (get-behind f.got new (s - next_of f))
              ∙ ap (slice_get (f.got ++ new)) at ∙ absent
              in
              let less = absent-before j (s - next_of f) text here in
              subst (IsRightlyPassed S w H c f.log (f.got ++ new)) at
              (passed-now S w H c g j (s - next_of f) f text read found less)
        ]

missed-honest : (S : Script) (w : BookWords) (H : History) (c g j : ℕ) (f : Follow) →
    OpensSealed S.shape w → IsHonest S w H c (epoch_at H g c) f → IsReadOf S w H c g j f →
    lookup S.shape w (read_over S w H g c) f.log (next_of f + j) ≡ None →
    IsHonest S w H c (epoch_at H g c) (follow_after S.shape j None f)
missed-honest S w H c g j f opens honest read none =
    let R = read_over S w H g c in
    let number : IsNumber S.shape f.log (next_of f + j) =
    record { log_in = honest.log_in; number_in = read.number_in }
    in
    let not_here = not_found-not_retained S w R f.log (next_of f + j) opens number none in
    let after : IsHonest S w H c (epoch_at H g c) (record f { tried = j + 1 }) = record {
      log_in = honest.log_in;
      passed = honest.passed;
      tried = λ i low. elim (cases_lt i j) [
        | inl less ↦ read.earlier i less
        | inr most ↦
            let same : next_of f + j ≡ next_of f + i = omega (arith, low, most) in
            subst (IsNotRetained S w R f.log) same not_here
      ];
    }
    in
    elim (S.shape.ahead == 0)
    as (λ b. IsHonest S w H c (epoch_at H g c) (cond b f (record f { tried = j + 1 })))
    [ true ↦ honest | false ↦ after ]

answered-honest : (S : Script) (w : BookWords) (H : History) (c g j : ℕ) (f : Follow)
    (answer : Option (List ℕ)) → OpensSealed S.shape w → IsHonest S w H c (epoch_at H g c) f →
    IsReadOf S w H c g j f →
    lookup S.shape w (read_over S w H g c) f.log (next_of f + j) ≡ answer →
    IsHonest S w H c (epoch_at H g c) (follow_after S.shape j answer f)
answered-honest S w H c g j f None opens honest read none =
    missed-honest S w H c g j f opens honest read none
answered-honest S w H c g j f (Some text) opens honest read found =
    found-honest S w H c g (epoch_at H g c) j f text honest read found

-- ---- a reader after a turn

-- what the filter of a client's read shows
abbrev pub shown_over : Script → BookWords → History → ℕ → ℕ → ℕ → ℕ → Bool
shown_over S w H g c log s = is_shown S.shape (read_over S w H g c) (w.hits log s)

each-set : {X : Type 0} (P : X → Type 0) (xs : List X) (i : ℕ) (d y : X) → AllByRecursion P xs →
    (P (slice_index_or xs i d) → P y) → AllByRecursion P (slice_set xs i y)
each-set P [] i d y each new = tt
each-set P (x ∷ xs) zero d y each new = (new each.0, each.1)
each-set P (x ∷ xs) (suc i) d y each new = (each.0, each-set P xs i d y each.1 new)

-- what the read is of
read-of : (S : Script) (w : BookWords) (H : History) (c g : ℕ) (r : Reader) (t : Target) →
    g < turn_count S.shape → target_at S w H g c ≡ Some t →
    IsTargetOf S.shape (shown_over S w H g c) r t →
    IsHonest S w H c (epoch_at H g c) (follow_at r t.place) →
    IsReadOf S w H c g t.ahead (follow_at r t.place)
read-of S w H c g r t in_run asks is honest =
    let f = follow_at r t.place in
    let wants = is.is_wanted in
    record {
      in_run = in_run;
      target = t;
      asks = asks;
      of_log = is.of_log;
      of_number = is.of_number;
      number_in = wants.in_run;
      reached = wants.reached;
      earlier = λ i less. elim (wants.earlier i less) [
        | inl tried ↦ honest.tried i tried
        | inr hidden ↦
            not_shown-not_retained S w H (epoch_at H g c) f.log (next_of f + i) hidden
      ];
    }

-- the reader after a read for this target
read-honest : (S : Script) (w : BookWords) (H : History) (c g : ℕ) (r : Reader)
    (t : Option Target) → OpensSealed S.shape w → g < turn_count S.shape →
    target_at S w H g c ≡ t → IsHonestAt S w H c (epoch_at H g c) r →
    target S.shape (shown_over S w H g c) r ≡ t →
    IsHonestAt S w H c (epoch_at H g c) (after_read S.shape r t (answer_for S w H g c t))
unfolding after_read
read-honest S w H c g r None opens in_run asks at aimed = at
read-honest S w H c g r (Some t) opens in_run asks at aimed =
    let e = epoch_at H g c in
    let f = follow_at r t.place in
    let is = target-is S.shape (shown_over S w H g c) r t aimed in
    let answer = answer_for S w H g c (Some t) in
    let gives : lookup S.shape w (read_over S w H g c) f.log (next_of f + t.ahead) ≡ answer =
    ap₂ (lookup S.shape w (read_over S w H g c)) (sym is.of_log) (sym is.of_number)
    in
    record {
      last = at.last;
      follows = each-set (IsHonest S w H c e) r.follows t.place (new_follow 0)
          (follow_after S.shape t.ahead answer f) at.follows
          (λ honest. answered-honest S w H c g t.ahead f answer opens honest
          (read-of S w H c g r t in_run asks is honest) gives);
    }

-- before each turn a reader's logs are honest
before-honest : (S : Script) (w : BookWords) (H : History) (c : ℕ) → OpensSealed S.shape w →
    (g : ℕ) → g ≤ turn_count S.shape →
    AreHonest S w H c (reader_before S w H c g).last (reader_before S w H c g).follows
unfolding reader_before
before-honest S w H c opens zero within = new-are-honest S w H c 0 S.shape.logs (omega arith)
before-honest S w H c opens (suc g) within =
    let e = epoch_at H g c in
    let r = reader_before S w H c g in
    let earlier = before-honest S w H c opens g (omega (arith, within)) in
    let after = read-honest S w H c g (at_epoch e r) (target_for S w H g c r) opens
    (omega (arith, within)) refl (epoch-honest S w H c e r earlier) refl
    in
    subst (λ n. AreHonest S w H c n (reader_step S w H g c r).follows) (sym after.last)
    after.follows

-- ---- the whole run

got-passed : (S : Script) (w : BookWords) (H : History) (c e log s : ℕ) (follows : List Follow) →
    AreHonest S w H c e follows → slice_get (got_in follows log) s ≡ Some Absent →
    IsRightlyPassed S w H c log (got_in follows log) s
got-passed S w H c e log s [] are absent = absurd (cc absent)
got-passed S w H c e log s (f ∷ follows) are absent =
    let later = filter (λ (h : Follow). h.log == log) follows in
    elim (f.log == log)
    as (λ b. (f.log == log) ≡ b →
    slice_get (first_got (cond b (f ∷ later) later)) s ≡ Some Absent →
    IsRightlyPassed S w H c log (first_got (cond b (f ∷ later) later)) s) [
      | true ↦ λ same here.
          subst (λ k. IsRightlyPassed S w H c k f.got s) (eqb-true f.log log same)
          (are.0.passed s here)
      | false ↦ λ _ there. got-passed S w H c e log s follows are.1 there
    ] refl absent

pub honest-passing_over : HonestPassingOver
honest-passing_over S b H c log s served absent =
    let w = words_of S.shape b in
    let r = reader_before S w H c (turn_count S.shape) in
    got-passed S w H c r.last log s r.follows
    (before-honest S w H c (opens_sealed S.shape b served) (turn_count S.shape) (omega arith))
    absent
