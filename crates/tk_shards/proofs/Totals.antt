-- The sums over all ranges, added, are those over the whole list.
use Rattle.std.proofs.Common.{◌≡◌, ℕ, zero, suc, ◌+◌, ◌*◌, ◌<◌, ◌≤◌, List, [], ◌∷◌, ◌++◌, length, map}
use Rattle.std.proofs.Common.{replicate, take, drop, refl, ap, ap₂, sym, ◌∙◌, subst, arith}
use Rattle.std.specs.Prelude.{slice_index_or, Vec, Ok, Err, IfOk}
use Rattle.std.specs.Global.{Global}
use Rattle.std.specs.List.{All}
use Rattle.std.proofs.lemmas.List.{map-append, take-append-drop, length-drop, drop-drop}
use Rattle.std.proofs.lemmas.List.Elements.{All-head, All-tail, All-take, All-drop}
use Rattle.tk_kernel.specs.Xor.{xor_bytes, xor_all}
use Rattle.tk_kernel.specs.Pieces.{AllSized}
use Rattle.tk_kernel.specs.Chosen.{chosen_from, chosen_sum}
use Rattle.tk_kernel.proofs.Offers.{xor_all-append, xor_bytes_assoc, xor_bytes-zeros, length-xor_all, length-xor_bytes}
use Rattle.tk_kernel.proofs.Offers.{AllSized-chosen_from, AllSized-append, chosen_from-append}
use Rattle.tk_shards.specs.Ranged.{Ranged, part_of}
use Rattle.tk_shards.specs.Parts.{Part, HasParts, sum_in, xor_rows, HasLengths, AreAlike, AddUp, IsTotal}
use Rattle.tk_shards.specs.Shards.{blocks_of, AreInRow, IsOfWidth}

none-left : {X : Type 0} (xs : List X) → length xs ≤ 0 → xs ≡ []
none-left [] none = refl
none-left (x ∷ xs) none = absurd (omega (arith, none))

All-one : {X : Type 0} (P : X → Type 0) (x : X) → P x → All P (x ∷ [])
All-one P x is zero d low = is
All-one P x is (suc k) d low = absurd (omega (arith, low))

pub lengths-xor_rows : (xs ys : List (List ℕ)) → map length ys ≡ map length xs →
    map length (xor_rows xs ys) ≡ map length xs
lengths-xor_rows [] ys e = refl
lengths-xor_rows (x ∷ xs) [] e = e
lengths-xor_rows (x ∷ xs) (y ∷ ys) e =
    let first : length y ≡ length x = cc in
    let others : map length ys ≡ map length xs = cc in
    ap₂ (λ n ns. n ∷ ns) (length-xor_bytes x y (sym first)) (lengths-xor_rows xs ys others)

-- one part more
pub added-more : (start : List (List ℕ)) (parts : List Part) (all : List (List ℕ)) (part : Vec (List ℕ) Global) →
    AddUp start parts all → AddUp start (parts ++ Ok part ∷ []) (xor_rows all part.items)
added-more start [] all part e = ap (λ xs. xor_rows xs part.items) e
added-more start (Ok first ∷ parts) all part h = added-more (xor_rows start first.items) parts all part h
added-more start (Err refusal ∷ parts) all part h = absurd h

module _ (width : ℕ) where
  length-part : (r : Ranged) (v : List ℕ) → IsOfWidth width r → length (part_of r v) ≡ width
  length-part r v h =
      length-xor_all r.width (chosen_from r.first r.blocks v)
      (subst (λ w. AllSized w (chosen_from r.first r.blocks v)) (sym h.wide)
      (AllSized-chosen_from width r.first r.blocks v h.sized))
      ∙ h.wide

  sized-parts : (rs : List Ranged) (v : List ℕ) → All (IsOfWidth width) rs →
      AllSized width (map (λ r. part_of r v) rs)
  sized-parts [] v each = tt
  sized-parts (r ∷ rs) v each = (
    length-part r v (All-head (IsOfWidth width) r rs each),
    sized-parts rs v (All-tail (IsOfWidth width) r rs each),
  )

  pub length-sum_in : (rs : List Ranged) (v : List ℕ) → All (IsOfWidth width) rs →
      length (sum_in width rs v) ≡ width
  unfolding sum_in
  length-sum_in rs v each =
      length-xor_all width (map (λ r. part_of r v) rs) (sized-parts rs v each)

  sum_in-append : (rs qs : List Ranged) (v : List ℕ) → All (IsOfWidth width) qs →
      sum_in width (rs ++ qs) v ≡ xor_bytes (sum_in width rs v) (sum_in width qs v)
  unfolding sum_in
  sum_in-append rs qs v each =
      ap (xor_all width) (map-append (λ r. part_of r v) rs qs)
      ∙ xor_all-append width (map (λ r. part_of r v) rs) (map (λ r. part_of r v) qs)
      (sized-parts qs v each)

  pub sum_in-none : (v : List ℕ) → sum_in width [] v ≡ replicate width 0
  unfolding sum_in
  sum_in-none v = refl

  sum_in-one : (r : Ranged) (v : List ℕ) → IsOfWidth width r → sum_in width (r ∷ []) v ≡ part_of r v
  unfolding sum_in
  sum_in-one r v wide =
      ap (λ n. xor_bytes (part_of r v) (replicate n 0)) (sym (length-part r v wide))
      ∙ xor_bytes-zeros (part_of r v)

  -- one range more
  pub sum_in-more : (rs : List Ranged) (r : Ranged) (v : List ℕ) → IsOfWidth width r →
      sum_in width (rs ++ r ∷ []) v ≡ xor_bytes (sum_in width rs v) (part_of r v)
  sum_in-more rs r v wide =
      sum_in-append rs (r ∷ []) v (All-one (IsOfWidth width) r wide)
      ∙ ap (xor_bytes (sum_in width rs v)) (sum_in-one r v wide)

  -- a sum without ranges adds nothing
  nothing-more : (f : List ℕ → List ℕ) (v : List ℕ) → length (f v) ≡ width →
      f v ≡ xor_bytes (f v) (sum_in width [] v)
  nothing-more f v long =
      sym (ap (xor_bytes (f v)) (sum_in-none v ∙ ap (λ n. replicate n 0) (sym long))
      ∙ xor_bytes-zeros (f v))

  module _ (size : ℕ) (vs : List (List ℕ)) where
    -- each part, made or not, of the ranges in chunks
    InChunks : List Ranged → List Part → Type 0
    InChunks rs [] = rs ≡ []
    InChunks rs (part ∷ parts) =
        IfOk part (λ sums. sums.items ≡ map (sum_in width (take size rs)) vs)
        × InChunks (drop size rs) parts

    parts-behind : (rs : List Ranged) (part : Part) (parts : List Part) →
        HasParts width size rs vs (part ∷ parts) → HasParts width size (drop size rs) vs parts
    parts-behind rs part parts h =
        record {
          reach = let all = h.reach in
              let more : suc (length parts) * size ≡ size + length parts * size = omega arith in
              omega (arith, length-drop size rs);
          each = λ n d less.
              let next : size + n * size ≡ suc n * size = omega arith in
              subst (λ (qs : List Ranged). IfOk (slice_index_or parts n d)
              (λ sums. sums.items ≡ map (sum_in width (take size qs)) vs))
              (ap (λ m. drop m rs) (sym next) ∙ sym (drop-drop (n * size) size rs))
              (h.each (suc n) d (omega (arith, less)));
        }

    in-chunks : (rs : List Ranged) (parts : List Part) → HasParts width size rs vs parts →
        InChunks rs parts
    unfolding InChunks
    in-chunks rs [] h = none-left rs (let all = h.reach in omega arith)
    in-chunks rs (part ∷ parts) h =
        let none : 0 * size ≡ 0 = omega arith in
        let first : drop (0 * size) rs ≡ rs = ap (λ m. drop m rs) none in (
          subst (λ (qs : List Ranged). IfOk part
              (λ sums. sums.items ≡ map (sum_in width (take size qs)) vs)) first
              (h.each 0 part (omega arith)),
          in-chunks (drop size rs) parts (parts-behind rs part parts h),
        )

    -- ---- all are as long

    abbrev lengths : List ℕ
    lengths = map (λ v. width) vs

    sum-lengths : (rs : List Ranged) → All (IsOfWidth width) rs → (us : List (List ℕ)) →
        map length (map (sum_in width rs) us) ≡ map (λ v. width) us
    sum-lengths rs each [] = refl
    sum-lengths rs each (u ∷ us) =
        ap₂ (λ n ns. n ∷ ns) (length-sum_in rs u each) (sum-lengths rs each us)

    alike-from : (rs : List Ranged) (parts : List Part) → All (IsOfWidth width) rs →
        InChunks rs parts → (k : ℕ) (d : Part) → k < length parts →
        HasLengths lengths (slice_index_or parts k d)
    unfolding InChunks
    alike-from rs [] each h k d less = absurd (omega arith)
    alike-from rs (Ok part ∷ parts) each h zero d less =
        ap (map length) h.0
        ∙ sum-lengths (take size rs) (All-take (IsOfWidth width) size rs each) vs
    alike-from rs (Err refusal ∷ parts) each h zero d less = tt
    alike-from rs (part ∷ parts) each h (suc k) d less =
        alike-from (drop size rs) parts (All-drop (IsOfWidth width) size rs each) h.1 k d
        (omega arith)

    alike-chunks : (rs : List Ranged) (parts : List Part) → 0 < length rs →
        All (IsOfWidth width) rs → InChunks rs parts → AreAlike parts
    unfolding InChunks
    alike-chunks rs [] some each h = absurd (omega (arith, some, ap length h))
    alike-chunks rs (Err refusal ∷ parts) some each h = tt
    alike-chunks rs (Ok part ∷ parts) some each h =
        let first : map length part.items ≡ lengths =
        ap (map length) h.0
        ∙ sum-lengths (take size rs) (All-take (IsOfWidth width) size rs each) vs
        in
        subst (λ ns. All (HasLengths ns) parts) (sym first)
        (alike-from (drop size rs) parts (All-drop (IsOfWidth width) size rs each) h.1)

    -- the parts of ranges of one width have sums as long
    pub parts-alike : (rs : List Ranged) (parts : List Part) → 0 < length rs →
        All (IsOfWidth width) rs → HasParts width size rs vs parts → AreAlike parts
    parts-alike rs parts some each h = alike-chunks rs parts some each (in-chunks rs parts h)

  -- ---- added up

  rows-added : (f g : List ℕ → List ℕ) (vs : List (List ℕ)) →
      xor_rows (map f vs) (map g vs) ≡ map (λ v. xor_bytes (f v) (g v)) vs
  rows-added f g [] = refl
  rows-added f g (v ∷ vs) = ap (λ xs. xor_bytes (f v) (g v) ∷ xs) (rows-added f g vs)

  map-same : (f g : List ℕ → List ℕ) → ((v : List ℕ) → f v ≡ g v) → (vs : List (List ℕ)) →
      map f vs ≡ map g vs
  map-same f g same [] = refl
  map-same f g same (v ∷ vs) = ap₂ (λ x xs. x ∷ xs) (same v) (map-same f g same vs)

  -- the sums of the first ranges and those of the others
  sum_in-split : (size : ℕ) (rs : List Ranged) (v : List ℕ) → All (IsOfWidth width) rs →
      xor_bytes (sum_in width (take size rs) v) (sum_in width (drop size rs) v) ≡ sum_in width rs v
  sum_in-split size rs v each =
      sym (sum_in-append (take size rs) (drop size rs) v (All-drop (IsOfWidth width) size rs each))
      ∙ ap (λ qs. sum_in width qs v) (take-append-drop size rs)

  total-added : (size : ℕ) (vs : List (List ℕ)) (rs : List Ranged) (parts : List Part)
      (f : List ℕ → List ℕ) (start all : List (List ℕ)) → All (IsOfWidth width) rs →
      ((v : List ℕ) → length (f v) ≡ width) → start ≡ map f vs → InChunks size vs rs parts →
      AddUp start parts all → all ≡ map (λ v. xor_bytes (f v) (sum_in width rs v)) vs
  unfolding InChunks
  total-added size vs rs [] f start all each long begun h e =
      e ∙ begun
      ∙ map-same f (λ v. xor_bytes (f v) (sum_in width rs v))
      (λ v. nothing-more f v (long v) ∙ ap (λ qs. xor_bytes (f v) (sum_in width qs v)) (sym h)) vs
  total-added size vs rs (Err refusal ∷ parts) f start all each long begun h e = absurd e
  total-added size vs rs (Ok part ∷ parts) f start all each long begun h e =
      let taken = sum_in width (take size rs) in
      let rest = drop size rs in
      let wide = All-take (IsOfWidth width) size rs each in
      let next : xor_rows start part.items ≡ map (λ v. xor_bytes (f v) (taken v)) vs =
      ap₂ xor_rows begun h.0 ∙ rows-added f taken vs in
      total-added size vs rest parts (λ v. xor_bytes (f v) (taken v))
      (xor_rows start part.items) all (All-drop (IsOfWidth width) size rs each)
      (λ v. length-xor_bytes (f v) (taken v) (long v ∙ sym (length-sum_in (take size rs) v wide))
      ∙ long v) next h.1 e
      ∙ map-same (λ v. xor_bytes (xor_bytes (f v) (taken v)) (sum_in width rest v))
      (λ v. xor_bytes (f v) (sum_in width rs v))
      (λ v. xor_bytes_assoc (f v) (taken v) (sum_in width rest v)
      ∙ ap (xor_bytes (f v)) (sum_in-split size rs v each)) vs

  pub AllSized-blocks : (rs : List Ranged) → All (IsOfWidth width) rs → AllSized width (blocks_of rs)
  AllSized-blocks [] each = tt
  AllSized-blocks (r ∷ rs) each =
      AllSized-append width r.blocks (blocks_of rs) (All-head (IsOfWidth width) r rs each).sized
      (AllSized-blocks rs (All-tail (IsOfWidth width) r rs each))

  pub length-sum : (rs : List Ranged) (v : List ℕ) → All (IsOfWidth width) rs →
      length (chosen_sum width (blocks_of rs) v) ≡ width
  unfolding chosen_sum
  length-sum rs v each =
      length-xor_all width (chosen_from 0 (blocks_of rs) v)
      (AllSized-chosen_from width 0 (blocks_of rs) v (AllSized-blocks rs each))

  -- the parts of a vector's sum, added
  parts-sum : (n : ℕ) (rs : List Ranged) (v : List ℕ) → AreInRow n rs → All (IsOfWidth width) rs →
      xor_all width (map (λ r. part_of r v) rs) ≡ xor_all width (chosen_from n (blocks_of rs) v)
  parts-sum n [] v row each = refl
  parts-sum n (r ∷ rs) v row each =
      let wide = All-head (IsOfWidth width) r rs each in
      let others = All-tail (IsOfWidth width) r rs each in
      let behind = chosen_from (n + length r.blocks) (blocks_of rs) v in
      ap (λ w. xor_bytes (xor_all w (chosen_from r.first r.blocks v))
      (xor_all width (map (λ r. part_of r v) rs))) wide.wide
      ∙ ap (λ k. xor_bytes (xor_all width (chosen_from k r.blocks v))
      (xor_all width (map (λ r. part_of r v) rs))) row.0
      ∙ ap (xor_bytes (xor_all width (chosen_from n r.blocks v))) (parts-sum (n + length r.blocks) rs v row.1 others)
      ∙ sym (xor_all-append width (chosen_from n r.blocks v) behind
      (AllSized-chosen_from width (n + length r.blocks) (blocks_of rs) v (AllSized-blocks rs others)))
      ∙ ap (xor_all width) (sym (chosen_from-append n r.blocks (blocks_of rs) v))

  -- the sum over ranges that make all blocks
  sum_in-all : (rs : List Ranged) (v : List ℕ) → AreInRow 0 rs → All (IsOfWidth width) rs →
      sum_in width rs v ≡ chosen_sum width (blocks_of rs) v
  unfolding sum_in chosen_sum
  sum_in-all rs v row each = parts-sum 0 rs v row each

  -- of all parts the sums are those over the whole list
  total-is : (size : ℕ) (vs : List (List ℕ)) (rs : List Ranged) (parts : List Part)
      (all : List (List ℕ)) → AreInRow 0 rs → All (IsOfWidth width) rs → InChunks size vs rs parts →
      IsTotal parts all → all ≡ map (chosen_sum width (blocks_of rs)) vs
  unfolding InChunks
  total-is size vs rs [] all row each h e = absurd e
  total-is size vs rs (Err refusal ∷ parts) all row each h e = absurd e
  total-is size vs rs (Ok part ∷ parts) all row each h e =
      let wide = All-take (IsOfWidth width) size rs each in
      total-added size vs (drop size rs) parts (sum_in width (take size rs)) part.items all
      (All-drop (IsOfWidth width) size rs each) (λ v. length-sum_in (take size rs) v wide) h.0 h.1 e
      ∙ map-same
      (λ v. xor_bytes (sum_in width (take size rs) v) (sum_in width (drop size rs) v))
      (chosen_sum width (blocks_of rs))
      (λ v. sum_in-split size rs v each ∙ sum_in-all rs v row each) vs

  -- so are those that were made, if there was memory
  pub totals-are : (size : ℕ) (vs : List (List ℕ)) (rs : List Ranged) (parts : List Part)
      (sums : Part) → AreInRow 0 rs → All (IsOfWidth width) rs → HasParts width size rs vs parts →
      IfOk sums (λ all. IsTotal parts all.items) →
      IfOk sums (λ all. all.items ≡ map (chosen_sum width (blocks_of rs)) vs)
  totals-are size vs rs parts (Ok all) row each h e =
      total-is size vs rs parts all.items row each (in-chunks size vs rs parts h) e
  totals-are size vs rs parts (Err refusal) row each h e = tt
