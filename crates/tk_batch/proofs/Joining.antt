-- The answers to all chunks, one after the other, are those to all rows.
use Rattle.std.proofs.Common.{◌≡◌, ℕ, suc, ◌+◌, ◌*◌, List, [], ◌∷◌, ◌++◌, map}
use Rattle.std.proofs.Common.{take, drop, refl, ap, ap₂, sym, ◌∙◌, subst, append_assoc, append-nil, arith}
use Rattle.std.specs.Prelude.{slice_index_or, Vec, Ok, Err, IfOk}
use Rattle.std.specs.Global.{Global}
use Rattle.std.proofs.lemmas.List.{map-append, take-append-drop, drop-drop, length-drop}
use Rattle.tk_batch.specs.Parts.{Part, Joins, HasChunks}

-- one part more
pub joins-more : (parts : List Part) (all : List (List ℕ)) (part : Vec (List ℕ) Global) →
    Joins parts all → Joins (parts ++ Ok part ∷ []) (all ++ part.items)
joins-more [] all part j =
    ([], ap (λ (xs : List (List ℕ)). xs ++ part.items) j ∙ sym (append-nil part.items), refl)
joins-more (Ok first ∷ parts) all part (behind, whole, rest) = (
  behind ++ part.items,
  ap (λ (xs : List (List ℕ)). xs ++ part.items) whole
      ∙ append_assoc first.items behind part.items,
  joins-more parts behind part rest,
)
joins-more (Err refusal ∷ parts) all part j = absurd j

module _ (answer : List ℕ → List ℕ) (size : ℕ) where
  answers : List (Vec ℕ Global) → List (List ℕ)
  answers rows = map answer (map (λ row. row.items) rows)

  answers-append : (xs ys : List (Vec ℕ Global)) → answers (xs ++ ys) ≡ answers xs ++ answers ys
  unfolding answers
  answers-append xs ys =
      ap (map answer) (map-append (λ row. row.items) xs ys)
      ∙ map-append answer (map (λ row. row.items) xs) (map (λ row. row.items) ys)

  -- the chunks after the first
  chunks-behind : (part : Part) (parts : List Part) (rows : List (Vec ℕ Global)) →
      HasChunks answer size rows (part ∷ parts) → HasChunks answer size (drop size rows) parts
  unfolding answers
  chunks-behind part parts rows c =
      record {
        reach = omega (arith, c.reach, length-drop size rows);
        each = λ n d less.
            subst (λ (chunk : List (Vec ℕ Global)).
            IfOk (slice_index_or parts n d) (λ sums. sums.items ≡ answers chunk))
            (ap (take size) (ap (λ k. drop k rows) (omega arith) ∙ sym (drop-drop (n * size) size rows)))
            (c.each (suc n) d (omega arith));
      }

  pub all-chunks : (parts : List Part) (rows : List (Vec ℕ Global)) (all : List (List ℕ)) →
      HasChunks answer size rows parts → Joins parts all →
      all ≡ map answer (map (λ row. row.items) rows)
  unfolding answers
  all-chunks [] [] all c j = j
  all-chunks [] (row ∷ rows) all c j = absurd (let reach = c.reach in omega arith)
  all-chunks (Err refusal ∷ parts) rows all c j = absurd j
  all-chunks (Ok part ∷ parts) rows all c (behind, whole, rest) =
      let none : 0 * size ≡ 0 = omega arith in
      let first : part.items ≡ answers (take size rows) =
      c.each 0 (Ok part) (omega arith) ∙ ap (λ k. answers (take size (drop k rows))) none
      in
      let others : behind ≡ answers (drop size rows) =
      all-chunks parts (drop size rows) behind (chunks-behind (Ok part) parts rows c) rest in
      whole ∙ ap₂ (λ (xs ys : List (List ℕ)). xs ++ ys) first others
      ∙ sym (answers-append (take size rows) (drop size rows))
      ∙ ap answers (take-append-drop size rows)

  -- so are those that were joined, if they were
  pub joined-all : (rows : List (Vec ℕ Global)) (vectors : List (List ℕ)) (parts : List Part)
      (r : Part) → HasChunks answer size rows parts → map (λ row. row.items) rows ≡ vectors →
      IfOk r (λ all. Joins parts all.items) → IfOk r (λ sums. sums.items ≡ map answer vectors)
  joined-all rows vectors parts (Ok all) c same j =
      all-chunks parts rows all.items c j ∙ ap (map answer) same
  joined-all rows vectors parts (Err refusal) c same j = tt
