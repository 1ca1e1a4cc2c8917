-- The logs of a reader: where a search of them begins and ends, and what a new epoch makes of them.
use Rattle.std.proofs.Common.{◌≡◌, refl, ap, sym, ◌∙◌, arith, ℕ, zero, suc, ◌+◌, ◌-◌, ◌%◌, ◌<◌, ◌≤◌}
use Rattle.std.proofs.Common.{Bool, true, false, cond, Option, Some, None}
use Rattle.std.proofs.Common.{List, [], ◌∷◌, ◌++◌, length, map, filter, set, get_or}
use Rattle.std.specs.Prelude.{◌==◌, not, find, slice_set}
use Rattle.std.specs.List.{range_with_len}
use Rattle.std.specs.Option.{option_or, option_map_or}
use Rattle.std.proofs.lemmas.Bool.{eqb-true}
use Rattle.std.proofs.lemmas.List.{map-set, length-map}
use Rattle.tk_shape.specs.declared.shape.Shape.{Shape}
use Rattle.tk_frames.specs.Lists.{first_some}
use Rattle.tk_client.specs.Reader.{Follow, untried, follow_after, Reader, at_epoch, Target, target, after_read}
use Rattle.tk_client.specs.declared.got.Got.{Got}
use Rattle.tk_client.specs.Reader.{follow_in, target_in, first_got, got_in}
use Rattle.tk_client.specs.Searching.{follows_anew}

-- ---- the first that is given

first_some-append : {X Y : Type 0} (f : X → Option Y) (xs ys : List X) →
    first_some f (xs ++ ys) ≡ option_or (first_some f xs) (first_some f ys)
first_some-append f [] ys = refl
first_some-append f (x ∷ xs) ys =
    let both = first_some f (xs ++ ys) in
    let later = first_some f xs in
    elim (f x) as (λ o. option_or o both ≡ option_or (option_or o later) (first_some f ys))
    [ None ↦ first_some-append f xs ys | Some y ↦ refl ]

-- of the numbers from i on that are below n: what i gives, or else what the later ones give
first_some-next : {Y : Type 0} (f : ℕ → Option Y) (i n : ℕ) → i < n →
    let later = first_some f (range_with_len (i + 1) (n - (i + 1))) in
    first_some f (range_with_len i (n - i)) ≡ option_or (f i) later
first_some-next f i n within = ap (λ k. first_some f (range_with_len i k)) longer
  where
    longer : n - i ≡ suc (n - (i + 1))
    longer = omega arith

pub first_some-here : {Y : Type 0} (f : ℕ → Option Y) (i n : ℕ) (y : Y) →
    i < n → f i ≡ Some y → first_some f (range_with_len i (n - i)) ≡ Some y
first_some-here f i n y within gives =
    let later = first_some f (range_with_len (i + 1) (n - (i + 1))) in
    first_some-next f i n within ∙ ap (λ o. option_or o later) gives

pub first_some-later : {Y : Type 0} (f : ℕ → Option Y) (i n : ℕ) → i < n → f i ≡ None →
    first_some f (range_with_len i (n - i)) ≡ first_some f (range_with_len (i + 1) (n - (i + 1)))
first_some-later f i n within gives =
    let later = first_some f (range_with_len (i + 1) (n - (i + 1))) in
    first_some-next f i n within ∙ ap (λ o. option_or o later) gives

-- ---- a new epoch

-- nothing counts as tried of the first so many logs
abbrev pub renewed : ℕ → List Follow → List Follow
renewed zero fs = fs
renewed (suc n) [] = []
renewed (suc n) (f ∷ fs) = untried f ∷ renewed n fs

pub renewed-next : (fs : List Follow) (i : ℕ) (f d : Follow) → i < length fs →
    f ≡ get_or (renewed i fs) i d → set (renewed i fs) i (untried f) ≡ renewed (suc i) fs
renewed-next [] i f d within is = absurd (omega (arith, within))
renewed-next (g ∷ fs) zero f d within is = ap (λ h. untried h ∷ fs) is
renewed-next (g ∷ fs) (suc i) f d within is =
    ap (λ gs. untried g ∷ gs) (renewed-next fs i f d (omega (arith, within)) is)

pub renewed-all : (fs : List Follow) (n : ℕ) → length fs ≤ n → renewed n fs ≡ map untried fs
renewed-all [] zero all = refl
renewed-all [] (suc n) all = refl
renewed-all (f ∷ fs) zero all = absurd (omega (arith, all))
renewed-all (f ∷ fs) (suc n) all =
    ap (λ gs. untried f ∷ gs) (renewed-all fs n (omega (arith, all)))

-- what the one that is found gave; nothing where none is
abbrev pub got_by : Option Follow → List Got
got_by found = option_map_or (λ f. f.got) found []

pub got-found : (fs : List Follow) (log : ℕ) → got_in fs log ≡ got_by (find (λ f. f.log == log) fs)
got-found [] log = refl
got-found (f ∷ fs) log =
    let later = filter (λ (g : Follow). g.log == log) fs in
    let found = find (λ (g : Follow). g.log == log) fs in
    elim (f.log == log)
    as (λ b. first_got (cond b (f ∷ later) later) ≡ got_by (cond b (Some f) found))
    [ true ↦ refl | false ↦ got-found fs log ]

-- the log at a place, of all anew
get-untried : (fs : List Follow) (i : ℕ) → follow_in (map untried fs) i ≡ untried (follow_in fs i)
get-untried [] i = refl
get-untried (f ∷ fs) zero = refl
get-untried (f ∷ fs) (suc i) = get-untried fs i

pub length-anew : (anew : Bool) (fs : List Follow) → length (follows_anew anew fs) ≡ length fs
length-anew true fs = length-map fs untried
length-anew false fs = refl

-- a log of which a text came is the same whether it was new before or not
pub settled-anew : (anew : Bool) (shape : Shape) (j : ℕ) (text : List ℕ) (fs : List Follow)
    (i : ℕ) →
    follows_anew anew (slice_set fs i (follow_after shape j (Some text) (follow_in fs i)))
    ≡ slice_set (follows_anew anew fs) i
    (follow_after shape j (Some text) (follow_in (follows_anew anew fs) i))
settled-anew true shape j text fs i =
    map-set untried fs i (follow_after shape j (Some text) (follow_in fs i))
    ∙ ap (λ f. slice_set (map untried fs) i (follow_after shape j (Some text) f))
    (sym (get-untried fs i))
settled-anew false shape j text fs i = refl

-- a reader at an epoch, told by whether the epoch is a new one
pub at_epoch-anew : (e : ℕ) (r : Reader) →
    at_epoch e r
    ≡ record { follows = follows_anew (not (e == r.last)) r.follows; cursor = r.cursor; last = e }
at_epoch-anew e r = by (e == r.last) refl
  where
    later : Reader
    later = record { follows = map untried r.follows; cursor = r.cursor; last = e }

    by : (b : Bool) → (e == r.last) ≡ b →
        cond b r later
        ≡ record { follows = follows_anew (not b) r.follows; cursor = r.cursor; last = e }
    by true same =
        ap (λ l. record { follows = r.follows; cursor = r.cursor; last = l })
        (sym (eqb-true e r.last same))
    by false other = refl

-- the target: from the cursor on, or else before it
pub target-anew : (shape : Shape) (shown : ℕ → ℕ → Bool) (e : ℕ) (r : Reader) →
    let gives = target_in shape shown (follows_anew (not (e == r.last)) r.follows) in
    target shape shown (at_epoch e r)
    ≡ option_or (first_some gives (range_with_len r.cursor (length r.follows - r.cursor)))
    (first_some gives (range_with_len 0 (r.cursor - 0)))
unfolding target
target-anew shape shown e r =
    let anew = not (e == r.last) in
    let fs = follows_anew anew r.follows in
    let now : Reader = record { follows = fs; cursor = r.cursor; last = e } in
    let gives = target_in shape shown fs in
    let behind = range_with_len r.cursor (length r.follows - r.cursor) in
    let all : r.cursor ≡ r.cursor - 0 = omega arith in
    ap (target shape shown) (at_epoch-anew e r)
    ∙ ap (λ n. first_some gives
    (range_with_len r.cursor (n - r.cursor) ++ range_with_len 0 r.cursor))
    (length-anew anew r.follows)
    ∙ first_some-append gives behind (range_with_len 0 r.cursor)
    ∙ ap (λ n. option_or (first_some gives behind) (first_some gives (range_with_len 0 n))) all

-- the reader after a dummy read, and after one that is for a target
pub after-nothing : (shape : Shape) (e : ℕ) (r : Reader) (answer : Option (List ℕ)) (new : Reader) →
    new
    ≡ record { follows = follows_anew (not (e == r.last)) r.follows; cursor = r.cursor; last = e } →
    new ≡ after_read shape (at_epoch e r) None answer
unfolding after_read
after-nothing shape e r answer new is = is ∙ sym (at_epoch-anew e r)

pub after-target : (shape : Shape) (e : ℕ) (r : Reader) (t : Target) (answer : Option (List ℕ))
    (new : Reader) →
    let known = follows_anew (not (e == r.last)) r.follows in
    new ≡ record {
      follows = slice_set known t.place
          (follow_after shape t.ahead answer (follow_in known t.place));
      cursor = (t.place + 1) % length r.follows;
      last = e;
    } →
    new ≡ after_read shape (at_epoch e r) (Some t) answer
unfolding after_read
after-target shape e r t answer new is =
    let anew = not (e == r.last) in
    let known = follows_anew anew r.follows in
    let with : Reader → ℕ → Reader = λ s n. record s {
      follows = slice_set s.follows t.place
          (follow_after shape t.ahead answer (follow_in s.follows t.place));
      cursor = (t.place + 1) % n;
    } in
    let now : Reader = record { follows = known; cursor = r.cursor; last = e } in
    is
    ∙ ap (with now) (sym (length-anew anew r.follows))
    ∙ ap (λ s. after_read shape s (Some t) answer) (sym (at_epoch-anew e r))
