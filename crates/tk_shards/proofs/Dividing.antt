-- Blocks copied range by range.
use Rattle.std.proofs.Common.{◌≡◌, ℕ, ◌+◌, ◌-◌, ◌<◌, ◌≤◌, Bool, true, false, cond, ◌||◌, List, [], ◌∷◌, ◌++◌}
use Rattle.std.proofs.Common.{length, map, take, drop}
use Rattle.std.proofs.Common.{refl, ap, sym, ◌∙◌, arith, append_assoc, append-nil, length-append, take-add}
use Rattle.std.proofs.Common.{true≢false, ltb-false}
use Rattle.std.specs.Prelude.{Option, Some, None, nat_lt, slice_index_or}
use Rattle.std.specs.List.{All}
use Rattle.std.proofs.lemmas.List.{length-drop, length-take-le, take_all, at_drop_more, at_drop_all, map-append}
use Rattle.std.proofs.lemmas.List.Elements.{All-push}
use Rattle.tk_kernel.specs.Pieces.{AllSized}
use Rattle.tk_shards.specs.Division.{Divided, first_cut, ranges_from, ranges_of}
use Rattle.tk_shards.specs.Ranged.{Ranged, range_of, range_in}
use Rattle.tk_shards.specs.Shards.{blocks_of, AreInRow, IsOfWidth, AreDivided}
use Rattle.tk_shards.proofs.Row.{row-more, blocks-more}

cond-none : (t : Bool) (i : ℕ) (x : Option ℕ) → cond t (Some i) x ≡ None → (t ≡ false) × (x ≡ None)
cond-none true i x e = let never : ⊥ = cc in absurd never
cond-none false i x e = (refl, e)

or-false : (s t : Bool) → (s || t) ≡ false → (s ≡ false) × (t ≡ false)
or-false true t e = absurd (true≢false e)
or-false false t e = (refl, e)

-- the next cut divides what is left
pub record IsNextCut (i first buckets c : ℕ) (cs : List ℕ) : Type 0 where
  pub order : first ≤ c
  pub within : c ≤ buckets
  pub kept : first_cut (i + 1) c buckets cs ≡ None

pub next-cut : (i first buckets c : ℕ) (cs : List ℕ) → first_cut i first buckets (c ∷ cs) ≡ None →
    IsNextCut i first buckets c cs
next-cut i first buckets c cs e =
    let (tests, kept) = cond-none (nat_lt c first || nat_lt buckets c) i (first_cut (i + 1) c buckets cs) e in
    let (below, above) = or-false (nat_lt c first) (nat_lt buckets c) tests in
    record {
      order = ltb-false c first below;
      within = ltb-false buckets c above;
      kept = kept;
    }

-- the ranges before cut number i, the next of which begins at block number first
pub record IsDividing (width : ℕ) (blocks : List (List ℕ)) (d : Divided) (i first : ℕ)
    (rs : List Ranged) : Type 0 where
  pub row : AreInRow 0 rs
  pub sized : All (IsOfWidth width) rs
  pub so_far : blocks_of rs ≡ take first blocks
  pub ranges : map range_of rs ++ ranges_from first d.buckets (drop i d.cuts) ≡ ranges_of d
  pub kept : first_cut i first d.buckets (drop i d.cuts) ≡ None
  pub within : first ≤ d.buckets

module _ (width : ℕ) (blocks : List (List ℕ)) (d : Divided) where
  pub dividing-none : first_cut 0 0 d.buckets d.cuts ≡ None → IsDividing width blocks d 0 0 []
  dividing-none kept =
      record {
        row = tt;
        sized = λ k e less. absurd (omega (arith, less));
        so_far = refl;
        ranges = refl;
        kept = kept;
        within = omega arith;
      }

  pub cut-next : (i first : ℕ) (rs : List Ranged) (c : ℕ) → IsDividing width blocks d i first rs → i < length d.cuts →
      c ≡ slice_index_or d.cuts i 0 → IsNextCut i first d.buckets c (drop (i + 1) d.cuts)
  cut-next i first rs c dividing less is =
      next-cut i first d.buckets c (drop (i + 1) d.cuts)
      (ap (λ x. first_cut i first d.buckets (x ∷ drop (i + 1) d.cuts)) is
      ∙ sym (at_drop_more (first_cut i first d.buckets) d.cuts i 0 less) ∙ dividing.kept)

  module _ (count : d.buckets ≡ length blocks) where
    length-range : (first c : ℕ) → first ≤ c → c ≤ d.buckets →
        length (take (c - first) (drop first blocks)) ≡ c - first
    length-range first c order within =
        length-take-le (c - first) (drop first blocks) (omega (arith, length-drop first blocks))

    of-width : (first c : ℕ) → AllSized width (range_in width first c blocks).blocks →
        IsOfWidth width (range_in width first c blocks)
    of-width first c each = record { wide = refl; sized = each }

    range-is : (first c : ℕ) → first ≤ c → c ≤ d.buckets → range_of (range_in width first c blocks) ≡ (first, c)
    range-is first c order within =
        let ends : first + length (take (c - first) (drop first blocks)) ≡ c =
        omega (arith, length-range first c order within) in
        ap (λ n. (first, n)) ends

    blocks-upto : (first c : ℕ) (rs : List Ranged) → first ≤ c → blocks_of rs ≡ take first blocks →
        blocks_of (rs ++ range_in width first c blocks ∷ []) ≡ take c blocks
    blocks-upto first c rs order so_far =
        let upto : first + (c - first) ≡ c = omega arith in
        blocks-more rs (range_in width first c blocks)
        ∙ ap (λ (ys : List (List ℕ)). ys ++ take (c - first) (drop first blocks)) so_far
        ∙ sym (take-add first (c - first) blocks) ∙ ap (λ n. take n blocks) upto

    row-upto : (first c : ℕ) (rs : List Ranged) → first ≤ d.buckets → blocks_of rs ≡ take first blocks →
        AreInRow 0 rs →
        AreInRow 0 (rs ++ range_in width first c blocks ∷ [])
    row-upto first c rs within so_far row =
        let long : length (blocks_of rs) ≡ first =
        ap length so_far ∙ length-take-le first blocks (omega (arith, count)) in
        row-more 0 rs (range_in width first c blocks) row (omega (arith, long))

    ranges-upto : (first c : ℕ) (rs : List Ranged) (others : List (ℕ × ℕ)) → first ≤ c → c ≤ d.buckets →
        map range_of (rs ++ range_in width first c blocks ∷ []) ++ others ≡ map range_of rs ++ ((first, c) ∷ others)
    ranges-upto first c rs others order within =
        ap (λ (ys : List (ℕ × ℕ)). ys ++ others) (map-append range_of rs (range_in width first c blocks ∷ []))
        ∙ append_assoc (map range_of rs) (range_of (range_in width first c blocks) ∷ []) others
        ∙ ap (λ x. map range_of rs ++ (x ∷ others)) (range-is first c order within)

    -- one range more
    pub dividing-more : (i first : ℕ) (rs : List Ranged) (c : ℕ) → IsDividing width blocks d i first rs →
        i < length d.cuts →
        c ≡ slice_index_or d.cuts i 0 → AllSized width (range_in width first c blocks).blocks →
        IsDividing width blocks d (i + 1) c (rs ++ range_in width first c blocks ∷ [])
    dividing-more i first rs c dividing less is each =
        let next = cut-next i first rs c dividing less is in
        let others = drop (i + 1) d.cuts in
        record {
          row = row-upto first c rs dividing.within dividing.so_far dividing.row;
          sized = All-push (IsOfWidth width) rs (range_in width first c blocks) dividing.sized
              (of-width first c each);
          so_far = blocks-upto first c rs next.order dividing.so_far;
          ranges =
              ranges-upto first c rs (ranges_from c d.buckets others) next.order next.within
              ∙ ap (λ ys. map range_of rs ++ ys)
              (ap (λ x. ranges_from first d.buckets (x ∷ others)) is
              ∙ sym (at_drop_more (ranges_from first d.buckets) d.cuts i 0 less))
              ∙ dividing.ranges;
          kept = next.kept;
          within = next.within;
        }

    -- and the last
    pub divided : (i first : ℕ) (rs : List Ranged) → IsDividing width blocks d i first rs → length d.cuts ≤ i →
        AllSized width (range_in width first d.buckets blocks).blocks →
        AreDivided width blocks d (rs ++ range_in width first d.buckets blocks ∷ [])
    divided i first rs dividing last each =
        let order = dividing.within in
        let more = length-append rs (range_in width first d.buckets blocks ∷ []) in
        record {
          any = omega (arith, more);
          row = row-upto first d.buckets rs dividing.within dividing.so_far dividing.row;
          sized = All-push (IsOfWidth width) rs (range_in width first d.buckets blocks) dividing.sized
              (of-width first d.buckets each);
          all = blocks-upto first d.buckets rs order dividing.so_far
              ∙ take_all d.buckets blocks (omega (arith, count));
          ranges =
              sym (append-nil (map range_of (rs ++ range_in width first d.buckets blocks ∷ [])))
              ∙ ranges-upto first d.buckets rs [] order (omega arith)
              ∙ ap (λ ys. map range_of rs ++ ys) (sym (at_drop_all (ranges_from first d.buckets) d.cuts i last))
              ∙ dividing.ranges;
        }
