-- What a reader reads is the same by its client's own book: it looks at numbers of followed logs alone.
use Rattle.tk_meeting.proofs.Terms.{◌≡◌, ℕ, ◌≤◌, ◌<◌, List, [], ◌∷◌, length, map, ◌+◌, ◌==◌, cond, ◌-◌, Bool, true}
use Rattle.tk_meeting.proofs.Terms.{false, Option, Some, None, refl, ap, sym, zero, suc, arith, subst, ◌%◌, ap₂}
use Rattle.tk_meeting.proofs.Terms.{slice_set, mod_below, range_with_len, AllByRecursion, option_or, nat_lt, ◌&&◌}
use Rattle.tk_meeting.proofs.Terms.{option_map, find, turn_count, Shape, first_some, Reader, Follow, next_of, untried}
use Rattle.tk_meeting.proofs.Terms.{at_epoch, follow_after, after_read, target, follow_in, wanted, number_ahead}
use Rattle.tk_meeting.proofs.Terms.{target_in, places_from_cursor, Target, after-log, each-append}

-- the logs of a reader are of a kind, and its search begins among them
pub record Follows (P : ℕ → Type 0) (r : Reader) : Type 0 where
  pub each : AllByRecursion (λ (f : Follow). P f.log) r.follows
  pub cursor_in : r.cursor ≤ length r.follows

-- the same is found where the same is told of each number
find-same : (f g : ℕ → Bool) (xs : List ℕ) → ((x : ℕ) → f x ≡ g x) → find f xs ≡ find g xs
find-same f g [] same = refl
find-same f g (x ∷ xs) same =
    ap₂ (λ (here : Bool) (later : Option ℕ). cond here (Some x) later) (same x) (find-same f g xs same)

wanted-same : (shape : Shape) (shown told : ℕ → ℕ → Bool) (f : Follow) →
    ((s : ℕ) → shown f.log s ≡ told f.log s) → wanted shape shown f ≡ wanted shape told f
wanted-same shape shown told f same =
    ap (λ (found : Option ℕ). cond (shape.ahead == 0)
    (cond (nat_lt (next_of f) (turn_count shape)) (Some 0) None) found)
    (find-same
    (λ j. nat_lt (next_of f + j) (turn_count shape) && shown f.log (next_of f + j))
    (λ j. nat_lt (next_of f + j) (turn_count shape) && told f.log (next_of f + j))
    (range_with_len f.tried (shape.ahead - f.tried))
    (λ j. ap (λ (is : Bool). nat_lt (next_of f + j) (turn_count shape) && is) (same (next_of f + j))))

-- ---- places

follow-at : (P : ℕ → Type 0) (follows : List Follow) (i : ℕ) → i < length follows →
    AllByRecursion (λ (f : Follow). P f.log) follows → P (follow_in follows i).log
follow-at P [] i low all = absurd (omega (arith, low))
follow-at P (f ∷ fs) zero low all = all.0
follow-at P (f ∷ fs) (suc i) low all = follow-at P fs i (omega (arith, low)) all.1

target_in-same : (shape : Shape) (shown told : ℕ → ℕ → Bool) (follows : List Follow) (i : ℕ) →
    ((s : ℕ) → shown (follow_in follows i).log s ≡ told (follow_in follows i).log s) →
    target_in shape shown follows i ≡ target_in shape told follows i
target_in-same shape shown told follows i same =
    ap (λ (o : Option ℕ). option_map (number_ahead i (follow_in follows i)) o)
    (wanted-same shape shown told (follow_in follows i) same)

first-same : {Y : Type 0} (f g : ℕ → Option Y) (xs : List ℕ) →
    AllByRecursion (λ x. f x ≡ g x) xs → first_some f xs ≡ first_some g xs
first-same f g [] same = refl
first-same {Y} f g (x ∷ xs) same =
    ap₂ (λ (here later : Option Y). option_or here later) same.0 (first-same f g xs same.1)

all-range : (P : ℕ → Type 0) (a n : ℕ) → ((i : ℕ) → i < a + n → P i) →
    AllByRecursion P (range_with_len a n)
all-range P a zero each = tt
all-range P a (suc n) each =
    (each a (omega arith), all-range P (a + 1) n (λ i low. each i (omega (arith, low))))

all-places : (P : ℕ → Type 0) (r : Reader) → r.cursor ≤ length r.follows →
    ((i : ℕ) → i < length r.follows → P i) → AllByRecursion P (places_from_cursor r)
all-places P r within each =
    each-append P (range_with_len r.cursor (length r.follows - r.cursor)) (range_with_len 0 r.cursor)
    (all-range P r.cursor (length r.follows - r.cursor) (λ i low. each i (omega (arith, low, within))))
    (all-range P 0 r.cursor (λ i low. each i (omega (arith, low, within))))

-- ---- targets

-- the target is the same where the same is shown of the logs that are followed
pub target-same : (shape : Shape) (shown told : ℕ → ℕ → Bool) (r : Reader) →
    Follows (λ log. (s : ℕ) → shown log s ≡ told log s) r →
    target shape shown r ≡ target shape told r
unfolding target
target-same shape shown told r same =
    first-same (target_in shape shown r.follows) (target_in shape told r.follows)
    (places_from_cursor r)
    (all-places (λ i. target_in shape shown r.follows i ≡ target_in shape told r.follows i) r
    same.cursor_in
    (λ i low. target_in-same shape shown told r.follows i
    (follow-at (λ log. (s : ℕ) → shown log s ≡ told log s) r.follows i low same.each)))

-- a target that is found is of a log that is followed, and lies at a place of one
pub record IsFound (P : ℕ → Type 0) (r : Reader) (t : Target) : Type 0 where
  pub of : P t.log
  pub place_in : t.place < length r.follows

abbrev pub IsFoundOrNone : (ℕ → Type 0) → Reader → Option Target → Type 0
IsFoundOrNone P r None = Unit {0}
IsFoundOrNone P r (Some t) = IsFound P r t

here-or-later : {Y : Type 0} (Q : Option Y → Type 0) (o later : Option Y) → Q o → Q later → Q (option_or o later)
here-or-later Q None later here behind = behind
here-or-later Q (Some y) later here behind = here

first-found : {Y : Type 0} (Q : Option Y → Type 0) (f : ℕ → Option Y) (xs : List ℕ) →
    Q None → AllByRecursion (λ x. Q (f x)) xs → Q (first_some f xs)
first-found Q f [] none each = none
first-found Q f (x ∷ xs) none each = here-or-later Q (f x) (first_some f xs) each.0 (first-found Q f xs none each.1)

pub target-found : (P : ℕ → Type 0) (shape : Shape) (shown : ℕ → ℕ → Bool) (r : Reader) →
    Follows P r → IsFoundOrNone P r (target shape shown r)
unfolding target
target-found P shape shown r all =
    first-found (IsFoundOrNone P r) (target_in shape shown r.follows) (places_from_cursor r) tt
    (all-places (λ i. IsFoundOrNone P r (target_in shape shown r.follows i)) r all.cursor_in one)
  where
    by : (i : ℕ) → i < length r.follows → (o : Option ℕ) →
        IsFoundOrNone P r (option_map (number_ahead i (follow_in r.follows i)) o)
    by i low None = tt
    by i low (Some j) =
        record { of = follow-at P r.follows i low all.each; place_in = low }

    one : (i : ℕ) → i < length r.follows → IsFoundOrNone P r (target_in shape shown r.follows i)
    one i low = by i low (wanted shape shown (follow_in r.follows i))

-- ---- readers that are kept

untried-each : (P : ℕ → Type 0) (follows : List Follow) →
    AllByRecursion (λ (f : Follow). P f.log) follows →
    AllByRecursion (λ (f : Follow). P f.log) (map untried follows)
untried-each P [] all = tt
untried-each P (f ∷ fs) all = (all.0, untried-each P fs all.1)

untried-length : (follows : List Follow) → length (map untried follows) ≡ length follows
untried-length [] = refl
untried-length (f ∷ fs) = ap suc (untried-length fs)

pub epoch-follows : (P : ℕ → Type 0) (e : ℕ) (r : Reader) → Follows P r → Follows P (at_epoch e r)
epoch-follows P e r all = by (e == r.last)
  where
    by : (is : Bool) → Follows P
        (cond is r (record { follows = map untried r.follows; cursor = r.cursor; last = e }))
    by true = all
    by false =
        record {
          each = untried-each P r.follows all.each;
          cursor_in = subst (λ n. r.cursor ≤ n) (sym (untried-length r.follows)) all.cursor_in;
        }

set-each : (P : ℕ → Type 0) (follows : List Follow) (place : ℕ) (f : Follow) →
    AllByRecursion (λ (g : Follow). P g.log) follows → P f.log →
    AllByRecursion (λ (g : Follow). P g.log) (slice_set follows place f)
set-each P [] place f all one = tt
set-each P (g ∷ gs) zero f all one = (one, all.1)
set-each P (g ∷ gs) (suc place) f all one = (all.0, set-each P gs place f all.1 one)

set-length : (follows : List Follow) (place : ℕ) (f : Follow) →
    length (slice_set follows place f) ≡ length follows
set-length [] place f = refl
set-length (g ∷ gs) zero f = refl
set-length (g ∷ gs) (suc place) f = ap suc (set-length gs place f)

mod-low : (a n : ℕ) → 0 < n → a % n ≤ n
mod-low a n some = let low = mod_below a n some in omega (arith, low)

pub read-follows : (P : ℕ → Type 0) (shape : Shape) (r : Reader) (t : Option Target)
    (answer : Option (List ℕ)) → Follows P r → IsFoundOrNone P r t →
    Follows P (after_read shape r t answer)
unfolding after_read
read-follows P shape r None answer all found = all
read-follows P shape r (Some t) answer all found =
    let f = follow_in r.follows t.place in
    let g = follow_after shape t.ahead answer f in
    let n = length r.follows in
    let low = found.place_in in
    record {
      each = set-each P r.follows t.place g all.each
          (subst P (sym (after-log shape t.ahead answer f)) (follow-at P r.follows t.place low all.each));
      cursor_in = subst (λ (k : ℕ). (t.place + 1) % n ≤ k) (sym (set-length r.follows t.place g))
          (mod-low (t.place + 1) n (omega (arith, low)));
    }
