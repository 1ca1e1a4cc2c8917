-- What shares are for.
use Rattle.std.specs.Prelude.{◌≡◌, ℕ, ◌*◌, ◌<◌, List, [], map, length, slice_get, slice_index_or, Some}
use Rattle.tk_kernel.specs.Xor.{xor_all}
use Rattle.tk_kernel.specs.Pieces.{AllSized}
use Rattle.tk_kernel.specs.Chosen.{chosen_sum}
use Rattle.tk_bits.specs.Shares.{unit_vector, last_share, share, shares, vectors_in}

-- the first servers get the drawn vectors in their order, each with its seed, and the last one gets the computed vector
-- without a seed
abbrev pub LastIsComputed : Type 0
LastIsComputed =
    (size i : ℕ) (seeds drawn : List (List ℕ))
    → ((j : ℕ) → j < length drawn
    → slice_get (shares size i seeds drawn) j ≡ Some (share (slice_index_or seeds j []) (slice_index_or drawn j [])))
    × (slice_get (shares size i seeds drawn) (length drawn) ≡ Some (share [] (last_share size i drawn)))

-- the vectors of all shares of a bucket join to its unit vector
abbrev pub SharesJoin : Type 0
SharesJoin =
    (size i : ℕ) (seeds drawn : List (List ℕ)) → AllSized size drawn
    → xor_all size (vectors_in (shares size i seeds drawn)) ≡ unit_vector size i

-- the sum that joined vectors choose is the joined sums that each of them chooses
abbrev pub SumsAdd : Type 0
SumsAdd =
    (width size : ℕ) (blocks vectors : List (List ℕ)) → AllSized width blocks → AllSized size vectors
    → chosen_sum width blocks (xor_all size vectors) ≡ xor_all width (map (chosen_sum width blocks) vectors)

-- servers with equal blocks answer the shares of bucket i, one each, and their answers join to block i
abbrev pub AnswersJoin : Type 0
AnswersJoin =
    (width size i : ℕ) (blocks seeds drawn : List (List ℕ)) → AllSized width blocks → length blocks ≡ 8 * size
    → AllSized size drawn → i < length blocks
    → slice_get blocks i ≡ Some (xor_all width (map (chosen_sum width blocks) (vectors_in (shares size i seeds drawn))))
