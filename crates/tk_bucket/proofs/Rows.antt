-- Lists joined, of which each has the same length: places, changes and runs.
use Rattle.std.proofs.Common.{◌≡◌, ℕ, zero, suc, ◌+◌, ◌-◌, ◌*◌, ◌<◌, List, [], ◌∷◌, ◌++◌, map, length, get_or, set, take, drop, refl, sym, ap, ◌∙◌, arith, length-append}
use Rattle.std.specs.List.{flat_map, concat}
use Rattle.std.proofs.Math.ListN.{get_or-append}
use Rattle.std.proofs.Math.Seq.{drop-append_seam}
use Rattle.std.proofs.lemmas.List.{get_or-append_right, set-append_left, set-append_right, map-append, drop-drop, drop-append-le, take-append-le, length-drop}
use Rattle.tk_kernel.specs.Pieces.{AllSized}
use Rattle.tk_kernel.proofs.Offers.{AllSized-append}
use Rattle.tk_answer.specs.Runs.{IsRun}

-- ---- lists of one length

pub AllSized-get : (size : ℕ) (vs : List (List ℕ)) (i : ℕ) (d : List ℕ) → AllSized size vs → i < length vs → length (get_or vs i d) ≡ size
AllSized-get size [] i d h lt = absurd (omega arith)
AllSized-get size (v ∷ vs) zero d h lt = h.0
AllSized-get size (v ∷ vs) (suc i) d h lt = AllSized-get size vs i d h.1 (omega arith)

-- ---- rows

module _ {Y : Type 0} (f : List ℕ → List Y) (size n : ℕ) (rows : (x : List ℕ) → length x ≡ size → length (f x) ≡ n) where
  pub length_rows : (xs : List (List ℕ)) → AllSized size xs → length (flat_map f xs) ≡ length xs * n
  length_rows [] h = omega arith
  length_rows (x ∷ xs) h = length-append (f x) (flat_map f xs) ∙ omega (arith, rows x h.0, length_rows xs h.1)

  -- entry j of row i
  pub get_row : (xs : List (List ℕ)) (i j b : ℕ) (e : List ℕ) (d : Y) → AllSized size xs → i < length xs → j < n → b ≡ i * n + j →
      get_or (flat_map f xs) b d ≡ get_or (f (get_or xs i e)) j d
  get_row [] i j b e d h lt jn at = absurd (omega arith)
  get_row (x ∷ xs) zero j b e d h lt jn at =
      let here : b ≡ j = omega arith in
      rw here (get_or-append (f x) (flat_map f xs) d j (omega (arith, rows x h.0)))
  get_row (x ∷ xs) (suc i) j b e d h lt jn at =
      let more : suc i * n ≡ n + i * n = omega arith in
      let past : b - n ≡ i * n + j = omega arith in
      get_or-append_right (f x) (flat_map f xs) n b d (rows x h.0) (omega arith)
      ∙ get_row xs i j (b - n) e d h.1 (omega arith) jn past

  -- entry j of row i changed, which makes row i that of w
  pub set_row : (xs : List (List ℕ)) (i j b : ℕ) (e w : List ℕ) (y : Y) → AllSized size xs → i < length xs → j < n → b ≡ i * n + j → f w ≡ set (f (get_or xs i e)) j y →
      set (flat_map f xs) b y ≡ flat_map f (set xs i w)
  set_row [] i j b e w y h lt jn at fw = absurd (omega arith)
  set_row (x ∷ xs) zero j b e w y h lt jn at fw =
      let here : b ≡ j = omega arith in
      rw here (set-append_left (f x) (flat_map f xs) j y (omega (arith, rows x h.0)) ∙ ap (λ zs. zs ++ flat_map f xs) (sym fw))
  set_row (x ∷ xs) (suc i) j b e w y h lt jn at fw =
      let more : suc i * n ≡ n + i * n = omega arith in
      let past : b - n ≡ i * n + j = omega arith in
      set-append_right (f x) (flat_map f xs) n b y (rows x h.0) (omega arith)
      ∙ ap (λ zs. f x ++ zs) (set_row xs i j (b - n) e w y h.1 (omega arith) jn past fw)

pub map-flat_map : {Y Z : Type 0} (g : Y → Z) (f : List ℕ → List Y) (xs : List (List ℕ)) → map g (flat_map f xs) ≡ flat_map (λ x. map g (f x)) xs
map-flat_map g f [] = refl
map-flat_map g f (x ∷ xs) = map-append g (f x) (flat_map f xs) ∙ ap (λ zs. map g (f x) ++ zs) (map-flat_map g f xs)

-- ---- runs

-- a run of what stands in front
run-append_left : (vs ws : List (List ℕ)) (j : ℕ) (bytes : List ℕ) → IsRun vs j bytes → IsRun (vs ++ ws) j bytes
run-append_left vs ws j bytes run =
    let same : drop j (vs ++ ws) ≡ drop j vs ++ ws = drop-append-le j vs ws (omega (arith, run.within)) in
    let cut : take run.count (drop j vs ++ ws) ≡ take run.count (drop j vs) = take-append-le run.count (drop j vs) ws (omega (arith, run.within, length-drop j vs)) in
    record {
      count = run.count;
      some = run.some;
      within = omega (arith, run.within, length-append vs ws);
      joined = run.joined ∙ sym (ap (λ zs. concat (take run.count zs)) same ∙ ap concat cut);
    }

drop_past : (vs ws : List (List ℕ)) (n j : ℕ) → length vs ≡ n → drop (n + j) (vs ++ ws) ≡ drop j ws
drop_past vs ws n j long = sym (drop-drop j n (vs ++ ws)) ∙ ap (drop j) (ap (λ m. drop m (vs ++ ws)) (sym long) ∙ drop-append_seam vs ws)

run-append_right : (vs ws : List (List ℕ)) (n j : ℕ) (bytes : List ℕ) → length vs ≡ n → IsRun ws j bytes → IsRun (vs ++ ws) (n + j) bytes
run-append_right vs ws n j bytes long run =
    let past : drop (n + j) (vs ++ ws) ≡ drop j ws = drop_past vs ws n j long in
    record {
      count = run.count;
      some = run.some;
      within = omega (arith, run.within, length-append vs ws);
      joined = run.joined ∙ sym (ap (λ zs. concat (take run.count zs)) past);
    }

module _ (f : List ℕ → List (List ℕ)) (size n : ℕ) (rows : (x : List ℕ) → length x ≡ size → length (f x) ≡ n) where
  -- a run in row i
  pub run_in_row : (xs : List (List ℕ)) (i j b : ℕ) (e bytes : List ℕ) → AllSized size xs → i < length xs → b ≡ i * n + j → IsRun (f (get_or xs i e)) j bytes →
      IsRun (flat_map f xs) b bytes
  run_in_row [] i j b e bytes h lt at run = absurd (omega arith)
  run_in_row (x ∷ xs) zero j b e bytes h lt at run =
      let here : b ≡ j = omega arith in
      rw here (run-append_left (f x) (flat_map f xs) j bytes run)
  run_in_row (x ∷ xs) (suc i) j b e bytes h lt at run =
      let more : b ≡ n + (i * n + j) = omega arith in
      rw more (run-append_right (f x) (flat_map f xs) n (i * n + j) bytes (rows x h.0) (run_in_row xs i j (i * n + j) e bytes h.1 (omega arith) refl run))

  -- all blocks of all rows
  pub AllSized-rows : (width : ℕ) → ((x : List ℕ) → length x ≡ size → AllSized width (f x)) → (xs : List (List ℕ)) → AllSized size xs → AllSized width (flat_map f xs)
  AllSized-rows width each [] h = tt
  AllSized-rows width each (x ∷ xs) h = AllSized-append width (f x) (flat_map f xs) (each x h.0) (AllSized-rows width each xs h.1)
