-- Ranges one behind the other.
use Rattle.std.proofs.Common.{◌≡◌, ℕ, zero, suc, ◌+◌, ◌-◌, ◌*◌, ◌<◌, ◌≤◌, List, [], ◌∷◌, ◌++◌, length, map}
use Rattle.std.proofs.Common.{take, drop, set}
use Rattle.std.proofs.Common.{refl, ap, ap₂, sym, ◌∙◌, subst, arith, append_assoc, append-nil, length-append, inl, inr}
use Rattle.std.specs.Prelude.{slice_index_or}
use Rattle.std.specs.List.{All, concat}
use Rattle.std.proofs.lemmas.List.{length-drop, drop_at, drop-drop, drop-append-le, take-append-le}
use Rattle.std.proofs.lemmas.List.{set-append_left, set-append_right, length-set}
use Rattle.std.proofs.lemmas.Bool.{cases_lt}
use Rattle.std.proofs.lemmas.List.Elements.{All-set}
use Rattle.tk_kernel.specs.Pieces.{AllSized}
use Rattle.tk_kernel.proofs.Offers.{AllSized-set}
use Rattle.tk_answer.specs.Runs.{IsRun}
use Rattle.tk_shards.specs.Ranged.{Ranged, range_of}
use Rattle.tk_shards.specs.Shards.{Sharded, sharded, blocks_of, AreInRow, IsOfWidth, IsIn, AreShards}
use Rattle.tk_shards.specs.Parts.{IsAsked}

-- where range number k begins, and the blocks before and behind it
pub first-at : (n k : ℕ) (rs : List Ranged) (d : Ranged) → AreInRow n rs → k < length rs →
    (slice_index_or rs k d).first ≡ n + length (blocks_of (take k rs))
first-at n k [] d row h = absurd (omega arith)
first-at n zero (r ∷ rs) d row h = row.0 ∙ omega arith
first-at n (suc k) (r ∷ rs) d row h =
    let more : n + length r.blocks + length (blocks_of (take k rs)) ≡ n + length (r.blocks ++ blocks_of (take k rs)) =
    omega (arith, length-append r.blocks (blocks_of (take k rs))) in
    first-at (n + length r.blocks) k rs d row.1 (omega arith) ∙ more

pub split-at : (k : ℕ) (rs : List Ranged) (d : Ranged) → k < length rs →
    blocks_of rs ≡ blocks_of (take k rs) ++ ((slice_index_or rs k d).blocks ++ blocks_of (drop (suc k) rs))
split-at k [] d h = absurd (omega arith)
split-at zero (r ∷ rs) d h = refl
split-at (suc k) (r ∷ rs) d h =
    ap (λ ys. r.blocks ++ ys) (split-at k rs d (omega arith))
    ∙ sym (append_assoc r.blocks (blocks_of (take k rs))
    ((slice_index_or rs k d).blocks ++ blocks_of (drop (suc k) rs)))

-- a range ends where the next begins, and the last where all end
pub next-first : (n k : ℕ) (rs : List Ranged) (d : Ranged) → AreInRow n rs → suc k < length rs →
    (slice_index_or rs (suc k) d).first ≡ (slice_index_or rs k d).first + length (slice_index_or rs k d).blocks
next-first n k [] d row h = absurd (omega arith)
next-first n zero (r ∷ []) d row h = absurd (omega arith)
next-first n zero (r ∷ q ∷ rs) d row h = row.1.0 ∙ ap (λ m. m + length r.blocks) (sym row.0)
next-first n (suc k) (r ∷ rs) d row h = next-first (n + length r.blocks) k rs d row.1 (omega arith)

pub last-end : (n k : ℕ) (rs : List Ranged) (d : Ranged) → AreInRow n rs → suc k ≡ length rs →
    (slice_index_or rs k d).first + length (slice_index_or rs k d).blocks ≡ n + length (blocks_of rs)
last-end n k [] d row h = absurd (omega arith)
last-end n zero (r ∷ []) d row h =
    ap (λ m. m + length r.blocks) row.0 ∙ ap (λ ys. n + length ys) (sym (append-nil r.blocks))
last-end n zero (r ∷ q ∷ rs) d row h = absurd (omega arith)
last-end n (suc k) (r ∷ rs) d row h =
    last-end (n + length r.blocks) k rs d row.1 (omega arith)
    ∙ omega (arith, length-append r.blocks (blocks_of rs))

-- the last range that begins at a block or before it, has that block
pub found-in : (rs : List Ranged) (i low high : ℕ) → AreInRow 0 rs → i < length (blocks_of rs) → low < high →
    high ≤ suc low →
    high ≤ length rs → ((d : Ranged) → (slice_index_or rs low d).first ≤ i) →
    ((d : Ranged) → high < length rs → i < (slice_index_or rs high d).first) → IsIn rs i low
found-in rs i low high row inside order near within begun later =
    record {
      within = omega arith;
      begun = begun;
      before = λ d. elim (cases_lt (suc low) (length rs)) [
        | inl more ↦
            let next : high ≡ suc low = omega arith in
            let ends : i < (slice_index_or rs (suc low) d).first =
            subst (λ k. i < (slice_index_or rs k d).first) next (later d (omega arith)) in
            omega (arith, ends, next-first 0 low rs d row more)
        | inr last ↦ omega (arith, last-end 0 low rs d row (omega arith))
      ];
    }

-- one range more
pub row-more : (n : ℕ) (rs : List Ranged) (r : Ranged) → AreInRow n rs → r.first ≡ n + length (blocks_of rs) →
    AreInRow n (rs ++ r ∷ [])
row-more n [] r row e = (e ∙ omega arith, tt)
row-more n (q ∷ qs) r row e =
    (row.0, row-more (n + length q.blocks) qs r row.1 (e ∙ omega (arith, length-append q.blocks (blocks_of qs))))

pub blocks-more : (rs : List Ranged) (r : Ranged) → blocks_of (rs ++ r ∷ []) ≡ blocks_of rs ++ r.blocks
blocks-more [] r = append-nil r.blocks
blocks-more (q ∷ qs) r =
    ap (λ ys. q.blocks ++ ys) (blocks-more qs r) ∙ sym (append_assoc q.blocks (blocks_of qs) r.blocks)

-- a run of a range is a run of all blocks
pub run-among : (before own after : List (List ℕ)) (i : ℕ) (bytes : List ℕ) → IsRun own i bytes →
    IsRun (before ++ (own ++ after)) (length before + i) bytes
run-among before own after i bytes run =
    let here : drop (length before + i) (before ++ (own ++ after)) ≡ drop i own ++ after =
    sym (drop-drop i (length before) (before ++ (own ++ after)))
    ∙ ap (drop i) (drop_at before (own ++ after) (length before) refl)
    ∙ drop-append-le i own after (omega (arith, run.within)) in
    record {
      count = run.count;
      some = run.some;
      within = omega (arith, run.within, length-append before (own ++ after), length-append own after);
      joined =
          run.joined
          ∙ ap concat (sym (ap (take run.count) here
          ∙ take-append-le run.count (drop i own) after (omega (arith, run.within, length-drop i own))));
    }

pub run-of-all : (rs : List Ranged) (d : Ranged) (i k : ℕ) (bytes : List ℕ) → AreInRow 0 rs → IsIn rs i k →
    IsRun (slice_index_or rs k d).blocks (i - (slice_index_or rs k d).first) bytes → IsRun (blocks_of rs) i bytes
run-of-all rs d i k bytes row is run =
    let r = slice_index_or rs k d in
    let before = blocks_of (take k rs) in
    let after = blocks_of (drop (suc k) rs) in
    let at : length before + (i - r.first) ≡ i = omega (arith, first-at 0 k rs d row is.within, is.begun d) in
    subst (λ vs. IsRun vs i bytes) (sym (split-at k rs d is.within))
    (subst (λ n. IsRun (before ++ (r.blocks ++ after)) n bytes) at
    (run-among before r.blocks after (i - r.first) bytes run))

-- a range with one block written anew
abbrev pub written : Ranged → ℕ → List ℕ → Ranged
written r i block = record { width = r.width; first = r.first; blocks = set r.blocks i block }

-- a set of these parts
abbrev pub shown_as : ℕ → List (List ℕ) → List (ℕ × ℕ) → Sharded
shown_as width blocks ranges = record { width = width; blocks = blocks; ranges = ranges }

-- the ranges with that one, where n is the number of the first block
pub record AreWritten (n : ℕ) (rs new : List Ranged) (i : ℕ) (block : List ℕ) : Type 0 where
  pub row : AreInRow n new
  pub count : length new ≡ length rs
  pub blocks : blocks_of new ≡ set (blocks_of rs) (i - n) block
  pub ranges : map range_of new ≡ map range_of rs

pub written-at : (n k : ℕ) (rs : List Ranged) (d : Ranged) (i : ℕ) (block : List ℕ) → AreInRow n rs → k < length rs →
    (slice_index_or rs k d).first ≤ i → i < (slice_index_or rs k d).first + length (slice_index_or rs k d).blocks →
    AreWritten n rs (set rs k (written (slice_index_or rs k d) (i - (slice_index_or rs k d).first) block)) i block
written-at n k [] d i block row less low high = absurd (omega arith)
written-at n zero (r ∷ rs) d i block row less low high =
    let same : length (set r.blocks (i - r.first) block) ≡ length r.blocks =
    length-set r.blocks (i - r.first) block in
    let within : i - r.first < length r.blocks = omega arith in
    record {
      row = (row.0, subst (λ m. AreInRow (n + m) rs) (sym same) row.1);
      count = refl;
      blocks = sym (set-append_left r.blocks (blocks_of rs) (i - r.first) block within)
          ∙ ap (λ m. set (r.blocks ++ blocks_of rs) (i - m) block) row.0;
      ranges = ap (λ m. (r.first, r.first + m) ∷ map range_of rs) same;
    }
written-at n (suc k) (r ∷ rs) d i block row less low high =
    let q = slice_index_or rs k d in
    let begins = first-at (n + length r.blocks) k rs d row.1 (omega arith) in
    let later = written-at (n + length r.blocks) k rs d i block row.1 (omega arith) low high in
    let past : n + length r.blocks ≤ i = omega (arith, begins) in
    let at : i - (n + length r.blocks) ≡ i - n - length r.blocks = omega arith in
    record {
      row = (row.0, later.row);
      count = ap suc later.count;
      blocks = ap (λ ys. r.blocks ++ ys) (later.blocks ∙ ap (λ m. set (blocks_of rs) m block) at)
          ∙ sym (set-append_right r.blocks (blocks_of rs) (length r.blocks) (i - n) block refl (omega arith));
      ranges = ap (λ ys. range_of r ∷ ys) later.ranges;
    }

-- the same of the ranges of a set
pub record IsWritten (width count : ℕ) (rs new : List Ranged) (i : ℕ) (block : List ℕ) : Type 0 where
  pub kept : AreShards width count new
  pub shown : sharded width new
      ≡ shown_as width (set (blocks_of rs) i block) (map range_of rs)

pub written-in : (width count i k : ℕ) (rs : List Ranged) (d shard : Ranged) (block : List ℕ) →
    AreShards width count rs → IsIn rs i k →
    length block ≡ width → d ≡ slice_index_or rs k d → shard ≡ written d (i - d.first) block →
    IsWritten width count rs (set rs k shard) i block
written-in width count i k rs d shard block shards is long at e =
    let r = slice_index_or rs k d in
    let wide : IsOfWidth width r = shards.sized k d is.within in
    let now = written r (i - r.first) block in
    let all = written-at 0 k rs d i block shards.row is.within (is.begun d) (is.before d) in
    let from : i - 0 ≡ i = omega arith in
    let written_blocks : blocks_of (set rs k now) ≡ set (blocks_of rs) i block =
    all.blocks ∙ ap (λ n. set (blocks_of rs) n block) from in
    let same : shard ≡ now = e ∙ ap (λ (q : Ranged). written q (i - q.first) block) at in
    let each : AllSized width (set r.blocks (i - r.first) block) =
    AllSized-set width r.blocks (i - r.first) block wide.sized long in
    let sized : All (IsOfWidth width) (set rs k now) =
    All-set (IsOfWidth width) rs k now (record { wide = wide.wide; sized = each }) shards.sized in
    subst (λ q. IsWritten width count rs (set rs k q) i block) (sym same)
    record {
      kept = record {
        some = shards.some;
        any = omega (arith, all.count, shards.any);
        row = all.row;
        sized = sized;
        counted = ap length written_blocks ∙ length-set (blocks_of rs) i block ∙ shards.counted;
        small = shards.small;
      };
      shown = ap₂ (shown_as width) written_blocks all.ranges;
    }

-- all ranges lie among the blocks for which vectors have bits
pub asked-all : (width count : ℕ) (rs : List Ranged) (vectors : List (List ℕ)) → AreShards width count rs →
    All (λ v. 8 * length v ≡ length (blocks_of rs)) vectors → All (IsAsked width vectors) rs
asked-all width count rs vectors shards bits k d low =
    let r = slice_index_or rs k d in
    let wide : IsOfWidth width r = shards.sized k d low in
    let before = blocks_of (take k rs) in
    let after = blocks_of (drop (suc k) rs) in
    let ends : r.first + length r.blocks ≤ length (blocks_of rs) =
    omega (
      arith,
      first-at 0 k rs d shards.row low,
      ap length (split-at k rs d low),
      length-append before (r.blocks ++ after),
      length-append r.blocks after,
    ) in
    record {
      wide = wide.wide;
      sized = wide.sized;
      reach = λ j e within. omega (arith, ends, bits j e within);
    }
