-- How many texts clients have left at the end of a run, and how many were said.
use Rattle.std.proofs.Common.{◌≡◌, ◌∙◌, ℕ, zero, suc, ◌+◌, ◌-◌, ◌*◌, ◌<◌, ◌≤◌, refl, ap}
use Rattle.std.proofs.Common.{arith, true, false, Bool, cond, max, List, [], ◌∷◌, length}
use Rattle.std.proofs.Common.{filter, count_by, get_or, eq-eqb, ne_eqb, inl, inr}
use Rattle.std.specs.Prelude.{◌==◌, ◌&&◌, nat_le, nat_lt, sum_by}
use Rattle.std.specs.List.{range_with_len, AllByRecursion, list_all}
use Rattle.std.proofs.Math.Nat.{suc-mul, zero-mul, le-max_right}
use Rattle.std.proofs.lemmas.Bool.{cases_lt, le-leb, ltb-true, and_parts as parts}
use Rattle.std.proofs.lemmas.List.Sums.{sum_by-cons, count_by-le-length, length-filter}
use Rattle.tk_shape.specs.declared.shape.Shape.{Shape}
use Rattle.tk_shape.specs.Lengths.{turn_count}
use Rattle.tk_schedule.specs.Schedule.{turn_at}
use Rattle.tk_script.specs.declared.role.Role.{Role}
use Rattle.tk_script.specs.declared.say.Say.{Say}
use Rattle.tk_script.specs.declared.script.Script.{Script}
use Rattle.tk_script.specs.SoundScript.{is_role, is_ascending}
use Rattle.tk_script.specs.Sent.{Sending, blank_role, writer_of, sendings_from, sendings, unsent_count}
use Rattle.tk_client.specs.Client.{ClientState}
use Rattle.tk_report.specs.Clients.{client_before}
use Rattle.tk_report.specs.Leaving.{left_over, EndsCountSaid, EndsUnsent}
use Rattle.tk_report.proofs.QueueLaws.{unsent_waits}
use Rattle.tk_report.proofs.EachLaws.{each-weaker}
use Rattle.tk_report.proofs.SayOrder.{IsSaid, all-said}

-- ---- sums over the numbers of clients

zero-sums : (s n : ℕ) → sum_by (λ (c : ℕ). 0) (range_with_len s n) ≡ 0
zero-sums s zero = refl
zero-sums s (suc n) =
    omega (
      arith,
      sum_by-cons (λ (c : ℕ). 0) s (range_with_len (s + 1) n),
      zero-sums (s + 1) n,
    )

two-sums : (f h : ℕ → ℕ) (s n : ℕ) →
    sum_by (λ c. f c + h c) (range_with_len s n)
    ≡ sum_by f (range_with_len s n) + sum_by h (range_with_len s n)
two-sums f h s zero = refl
two-sums f h s (suc n) =
    let rest = range_with_len (s + 1) n in
    omega (
      arith,
      sum_by-cons (λ c. f c + h c) s rest,
      sum_by-cons f s rest,
      sum_by-cons h s rest,
      two-sums f h (s + 1) n,
    )

-- each is bounded by another
sums-le : (f h : ℕ → ℕ) (s n : ℕ) → ((c : ℕ) → f c ≤ h c) →
    sum_by f (range_with_len s n) ≤ sum_by h (range_with_len s n)
sums-le f h s zero each = omega arith
sums-le f h s (suc n) each =
    let rest = range_with_len (s + 1) n in
    omega (
      arith,
      sum_by-cons f s rest,
      sum_by-cons h s rest,
      each s,
      sums-le f h (s + 1) n each,
    )

-- and by no more than so much above it
sums-above : (f h : ℕ → ℕ) (m s n : ℕ) → ((c : ℕ) → f c ≤ h c + m) →
    sum_by f (range_with_len s n) ≤ n * m + sum_by h (range_with_len s n)
sums-above f h m s zero each = omega (arith, zero-mul m)
sums-above f h m s (suc n) each =
    let rest = range_with_len (s + 1) n in
    omega (
      arith,
      sum_by-cons f s rest,
      sum_by-cons h s rest,
      each s,
      suc-mul n m,
      sums-above f h m (s + 1) n each,
    )

-- a number stands once among those of a range in which it is
none-below : (w s n : ℕ) → w < s →
    sum_by (λ c. cond (w == c) 1 0) (range_with_len s n) ≡ 0
none-below w s zero low = refl
none-below w s (suc n) low =
    let rest = range_with_len (s + 1) n in
    let apart : (w == s) ≡ false = ne_eqb w s (λ e. omega (arith, e, low)) in
    omega (
      arith,
      sum_by-cons (λ c. cond (w == c) 1 0) s rest,
      ap (λ (b : Bool). cond {A = ℕ} b 1 0) apart,
      none-below w (s + 1) n (omega (arith, low)),
    )

once-within : (w s n : ℕ) → s ≤ w → w < s + n →
    sum_by (λ c. cond (w == c) 1 0) (range_with_len s n) ≡ 1
once-within w s zero low high = absurd (omega (arith, low, high))
once-within w s (suc n) low high =
    let rest = range_with_len (s + 1) n in
    let whole = sum_by-cons (λ c. cond (w == c) 1 0) s rest in
    elim (cases_lt s w) [
      | inl later ↦
          let apart : (w == s) ≡ false = ne_eqb w s (λ e. omega (arith, e, later)) in
          omega (
            arith,
            whole,
            ap (λ (b : Bool). cond {A = ℕ} b 1 0) apart,
            once-within w (s + 1) n (omega (arith, later)) (omega (arith, high)),
          )
      | inr here ↦
          let same : (w == s) ≡ true = eq-eqb w s (omega (arith, low, here)) in
          omega (
            arith,
            whole,
            ap (λ (b : Bool). cond {A = ℕ} b 1 0) same,
            none-below w (s + 1) n (omega (arith, low, here)),
          )
    ]

-- ---- each text has one writer

-- the texts of a client
abbrev texts_of : Script → List Say → ℕ → ℕ
texts_of S says c = count_by (λ (y : Say). writer_of S y.log == c) says

texts-shared : (S : Script) (says : List Say) →
    AllByRecursion (λ (y : Say). writer_of S y.log < S.shape.clients) says →
    sum_by (texts_of S says) (range_with_len 0 S.shape.clients) ≡ length says
texts-shared S [] within = zero-sums 0 S.shape.clients
texts-shared S (y ∷ says) within =
    let clients = range_with_len 0 S.shape.clients in
    let one = λ (c : ℕ). cond {A = ℕ} (writer_of S y.log == c) 1 0 in
    omega (
      arith,
      sums-same (texts_of S (y ∷ says)) (λ c. one c + texts_of S says c) 0 S.shape.clients
          (λ c. sum_by-cons (λ (z : Say). cond (writer_of S z.log == c) 1 0) y says),
      two-sums one (texts_of S says) 0 S.shape.clients,
      once-within (writer_of S y.log) 0 S.shape.clients (omega arith) (omega (arith, within.0)),
      texts-shared S says within.1,
    )
  where
    sums-same : (f h : ℕ → ℕ) (s n : ℕ) → ((c : ℕ) → f c ≡ h c) →
        sum_by f (range_with_len s n) ≡ sum_by h (range_with_len s n)
    sums-same f h s n each = λ i. sum_by (λ c. each c i) (range_with_len s n)

-- who writes a log is a client
writer-in : (shape : Shape) (roles : List Role) (log : ℕ) → AllByRecursion
    (λ (r : Role). r.writer < shape.clients) roles → log < length roles → (d : Role) →
    (get_or roles log d).writer < shape.clients
writer-in shape [] log each low d = absurd (omega (arith, low))
writer-in shape (role ∷ roles) zero each low d = each.0
writer-in shape (role ∷ roles) (suc log) each low d =
    writer-in shape roles log each.1 (omega (arith, low)) d

writers-in : (shape : Shape) (roles : List Role) → list_all (is_role shape) roles ≡ true →
    AllByRecursion (λ (r : Role). r.writer < shape.clients) roles
writers-in shape [] all = tt
writers-in shape (role ∷ roles) all =
    let both = parts (is_role shape role) (list_all (is_role shape) roles) all in
    let clients = list_all (λ c. nat_lt c shape.clients) role.followers in
    let split = parts (nat_lt role.writer shape.clients && clients) (is_ascending role.followers)
    both.0
    in (
      ltb-true role.writer shape.clients
          (parts (nat_lt role.writer shape.clients) clients split.0).0,
      writers-in shape roles both.1,
    )

texts-within : (S : Script) →
    AllByRecursion (λ (y : Say). writer_of S y.log < S.shape.clients) S.says
texts-within S =
    each-weaker (IsSaid S.shape) (λ (y : Say). writer_of S y.log < S.shape.clients) S.says
    (λ y said. writer-in S.shape S.roles y.log (writers-in S.shape S.roles S.sound.roles_sound)
    (omega (arith, said.log_in, S.sound.roles_counted)) blank_role)
    (all-said S.shape S.says S.sound.says_sound)

-- ---- what a client sends

length-sendings : (shape : Shape) (free : ℕ) (earlier ys : List Say) →
    length (sendings_from shape free earlier ys) ≡ length ys
unfolding sendings_from
length-sendings shape free earlier [] = refl
length-sendings shape free earlier (y ∷ ys) =
    ap suc
    (length-sendings shape (max (turn_at shape y.phase y.tick) free + 1) (y ∷ earlier) ys)

abbrev is_late : ℕ → Sending → Bool
is_late n y = nat_le n y.turn

-- at most one text is sent in each turn from the first free one on
sent-few : (shape : Shape) (n free : ℕ) (earlier ys : List Say) →
    length ys ≤ count_by (is_late n) (sendings_from shape free earlier ys) + (n - free)
unfolding sendings_from
sent-few shape n free earlier [] = omega arith
sent-few shape n free earlier (y ∷ ys) =
    let turn = max (turn_at shape y.phase y.tick) free in
    let after : free ≤ turn = le-max_right (turn_at shape y.phase y.tick) free in
    let rest = sendings_from shape (turn + 1) (y ∷ earlier) ys in
    let one : Sending = record {
      turn = turn;
      log = y.log;
      number = count_by (λ z. z.log == y.log) earlier;
      text = y.text;
    }
    in
    let whole = sum_by-cons (λ (z : Sending). cond (is_late n z) 1 0) one rest in
    let more = sent-few shape n (turn + 1) (y ∷ earlier) ys in
    elim (cases_lt turn n) [
      | inl early ↦ omega (arith, whole, more, after, early)
      | inr late ↦
          let test : nat_le n turn ≡ true = le-leb n turn (omega (arith, late)) in
          omega (arith, whole, more, late, ap (λ (b : Bool). cond {A = ℕ} b 1 0) test)
    ]

-- no more texts are left than a client has, and at most one a turn is not
left-few : (S : Script) (c : ℕ) → unsent_count S c ≤ texts_of S S.says c
left-few S c =
    let mine = filter (λ (y : Say). writer_of S y.log == c) S.says in
    omega (
      arith,
      count_by-le-length (is_late (turn_count S.shape)) (sendings S c),
      length-sendings S.shape 0 [] mine,
      length-filter (λ (y : Say). writer_of S y.log == c) S.says,
    )

left-most : (S : Script) (c : ℕ) → texts_of S S.says c ≤ unsent_count S c + turn_count S.shape
left-most S c =
    let mine = filter (λ (y : Say). writer_of S y.log == c) S.says in
    omega (
      arith,
      sent-few S.shape (turn_count S.shape) 0 [] mine,
      length-filter (λ (y : Say). writer_of S y.log == c) S.says,
    )

-- ---- what clients have left

left-summed : (clients : List ClientState) (h : ℕ → ℕ) (s : ℕ) →
    ((i : ℕ) (d : ClientState) → i < length clients →
    length (get_or clients i d).writing.waiting ≡ h (s + i)) →
    left_over clients ≡ sum_by h (range_with_len s (length clients))
left-summed [] h s each = refl
left-summed (k ∷ clients) h s each =
    let rest = range_with_len (s + 1) (length clients) in
    let here : s + 0 ≡ s = omega arith in
    omega (
      arith,
      sum_by-cons (λ (d : ClientState). length d.writing.waiting) k clients,
      sum_by-cons h s rest,
      each 0 k (omega arith) ∙ ap h here,
      left-summed clients h (s + 1)
          (λ i d low.
          let there : s + suc i ≡ s + 1 + i = omega arith in
          each (suc i) d (omega (arith, low)) ∙ ap h there),
    )

pub ends-unsent : EndsUnsent
unfolding client_before
ends-unsent S w H clients are =
    left-summed clients (unsent_count S) 0
    (λ i d low.
    let here : i ≡ 0 + i = omega arith in
    ap (λ (k : ClientState). length k.writing.waiting) (are.each i d low)
    ∙ unsent_waits S i
    ∙ ap (unsent_count S) here)
    ∙ ap (λ (n : ℕ). sum_by (unsent_count S) (range_with_len 0 n)) are.counted

pub ends-count_said : EndsCountSaid
ends-count_said S w H clients are =
    let n = S.shape.clients in
    let left = ends-unsent S w H clients are in
    let all = texts-shared S S.says (texts-within S) in
    record {
      low = omega (arith, left, all, sums-le (unsent_count S) (texts_of S S.says) 0 n (left-few S));
      high =
          omega (
            arith,
            left,
            all,
            sums-above (texts_of S S.says) (unsent_count S) (turn_count S.shape) 0 n (left-most S),
          );
    }
