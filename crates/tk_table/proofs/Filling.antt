-- A list that is replaced element by element.
use Rattle.std.proofs.Common.{◌≡◌, ℕ, zero, suc, ◌+◌, ◌<◌, ◌≤◌, List, [], ◌∷◌, ◌++◌, length, map, get_or}
use Rattle.std.proofs.Common.{set, take, drop, replicate, refl, sym, ap, ◌∙◌, arith, append-nil}
use Rattle.std.specs.Prelude.{Option, None}
use Rattle.std.proofs.lemmas.List.{get_or-set_same, set-set, take_all, drop_all, length-append}
use Rattle.std.proofs.lemmas.List.{length-drop, length-take-le, length-replicate, get_or-replicate}
use Rattle.tk_place.specs.Place.{Others, slots_of}
use Rattle.tk_table.specs.Rows.{with_other}
use Rattle.tk_table.specs.Table.{SlotTable, bucket_at, other_in, others_from}
use Rattle.tk_table.proofs.Seen.{length-others, slots_seen}

-- the first elements are new
abbrev pub replaced : {X : Type 0} → ℕ → List X → List X → List X
replaced i new old = take i new ++ drop i old

pub set-replaced : {X : Type 0} (i : ℕ) (new old : List X) (d : X) → i < length new → i < length old →
    set (replaced i new old) i (get_or new i d) ≡ replaced (suc i) new old
set-replaced i [] old d low long = absurd (omega arith)
set-replaced i (x ∷ new) [] d low long = absurd (omega arith)
set-replaced zero (x ∷ new) (y ∷ old) d low long = refl
set-replaced (suc i) (x ∷ new) (y ∷ old) d low long =
    ap (λ ys. x ∷ ys) (set-replaced i new old d (omega arith) (omega arith))

pub get_or-replaced : {X : Type 0} (i : ℕ) (new old : List X) (d : X) → i ≤ length new → i < length old →
    get_or (replaced i new old) i d ≡ get_or old i d
get_or-replaced zero new old d low long = refl
get_or-replaced (suc i) [] old d low long = absurd (omega arith)
get_or-replaced (suc i) (x ∷ new) [] d low long = absurd (omega arith)
get_or-replaced (suc i) (x ∷ new) (y ∷ old) d low long =
    get_or-replaced i new old d (omega arith) (omega arith)

pub length-replaced : {X : Type 0} (i : ℕ) (new old : List X) → i ≤ length new → i ≤ length old →
    length (replaced i new old) ≡ length old
length-replaced i new old low long =
    length-append (take i new) (drop i old)
    ∙ omega (arith, length-take-le i new low, length-drop i old)

pub replaced-all : {X : Type 0} (i : ℕ) (new old : List X) → length new ≤ i → length old ≤ i →
    replaced i new old ≡ new
replaced-all i new old a b =
    ap (λ ys. take i new ++ ys) (drop_all i old b) ∙ append-nil (take i new) ∙ take_all i new a

-- ---- one bucket

-- the first slots of a bucket are filled
abbrev pub IsFilled : Others → ℕ → ℕ → List (Option ℕ) → Others → Type 0
IsFilled T b i slots now = now ≡ set T b (replaced i slots (slots_of T b))

module _ (T : Others) (b : ℕ) (slots : List (Option ℕ)) (low : b < length T)
    (long : length (slots_of T b) ≡ length slots) where
  pub filled_more : (i : ℕ) (now next : Others) (other : Option ℕ) → i < length slots →
      other ≡ get_or slots i None → IsFilled T b i slots now → next ≡ with_other now (b, i) other →
      IsFilled T b (i + 1) slots next
  filled_more i now next other few seen is made =
      let old = slots_of T b in
      let row = ap (λ X. slots_of X b) is ∙ get_or-set_same T b (replaced i slots old) [] low in
      let more : suc i ≡ i + 1 = omega arith in
      made
      ∙ ap (λ r. set now b (set r i other)) row
      ∙ ap (λ X. set X b (set (replaced i slots old) i other)) is
      ∙ set-set T b (replaced i slots old) (set (replaced i slots old) i other)
      ∙ ap (λ o. set T b (set (replaced i slots old) i o)) seen
      ∙ ap (set T b) (set-replaced i slots old None few (omega arith))
      ∙ ap (λ n. set T b (replaced n slots old)) more

-- ---- all buckets

abbrev no_entry : Option ℕ
no_entry = None

-- buckets without entries
abbrev pub no_entries : ℕ → List (Option ℕ)
no_entries depth = replicate depth None

abbrev pub blank : ℕ → ℕ → Others
blank buckets depth = replicate buckets (no_entries depth)

-- the first buckets are filled
abbrev pub AreFilled : Others → Others → ℕ → Others → Type 0
AreFilled new old b now = now ≡ replaced b new old

module _ (T : SlotTable) (buckets depth : ℕ) (wide : length T ≡ buckets) where
  module _ (b : ℕ) (now : Others) (low : b < buckets)
      (is : AreFilled (others_from 0 T) (blank buckets depth) b now) where
    long : length (others_from 0 T) ≡ buckets
    long = length-others 0 T ∙ wide

    pub blank_row : length (slots_of now b) ≡ depth
    unfolding long
    blank_row =
        ap (λ X. length (slots_of X b)) is
        ∙ ap length (get_or-replaced b (others_from 0 T) (blank buckets depth) []
        (omega (arith, long)) (omega (arith, length-replicate buckets (no_entries depth))))
        ∙ ap length (get_or-replicate buckets b (no_entries depth) [] low)
        ∙ length-replicate depth no_entry

    pub blank_within : b < length now
    unfolding long
    blank_within =
        let count = ap length is
        ∙ length-replaced b (others_from 0 T) (blank buckets depth)
        (omega (arith, long)) (omega (arith, length-replicate buckets (no_entries depth)))
        ∙ length-replicate buckets (no_entries depth) in
        omega (arith, count)

    pub bucket_filled : (next : Others) → next ≡ set now b (map (other_in b) (bucket_at T b)) →
        AreFilled (others_from 0 T) (blank buckets depth) (b + 1) next
    unfolding long
    bucket_filled next made =
        let more : suc b ≡ b + 1 = omega arith in
        made ∙ ap (λ X. set X b (map (other_in b) (bucket_at T b))) is
        ∙ ap (set (replaced b (others_from 0 T) (blank buckets depth)) b) (sym (slots_seen T b))
        ∙ set-replaced b (others_from 0 T) (blank buckets depth) []
        (omega (arith, long)) (omega (arith, length-replicate buckets (no_entries depth)))
        ∙ ap (λ n. replaced n (others_from 0 T) (blank buckets depth)) more

  pub all_filled : (b : ℕ) (now : Others) → buckets ≤ b →
      AreFilled (others_from 0 T) (blank buckets depth) b now → now ≡ others_from 0 T
  all_filled b now high is =
      is ∙ replaced-all b (others_from 0 T) (blank buckets depth)
      (omega (arith, length-others 0 T)) (omega (arith, length-replicate buckets (no_entries depth)))
