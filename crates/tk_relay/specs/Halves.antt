-- What a read has for each of its two buckets.
use Rattle.std.specs.Prelude.{◌≡◌, ℕ, List, [], ◌++◌, length, take, drop, map}
use Rattle.tk_kernel.specs.Xor.{xor_bytes, xor_all}

-- bytes for either bucket of a read: two vectors, two sums, or what masks them
pub record Halves : Type 0 where
  pub first : List ℕ
  pub second : List ℕ

-- each half has so many bytes
pub record HasHalves (size : ℕ) (x : Halves) : Type 0 where
  pub first : length x.first ≡ size
  pub second : length x.second ≡ size

abbrev pub blank_halves : Halves
blank_halves = record { first = []; second = [] }

-- the halves of so many bytes each that these bytes are, and the bytes that halves are
abbrev pub halves_in : ℕ → List ℕ → Halves
halves_in size bytes = record { first = take size bytes; second = drop size bytes }

abbrev pub halves_bytes : Halves → List ℕ
halves_bytes x = x.first ++ x.second

-- half by half XORed
abbrev pub mixed : Halves → Halves → Halves
mixed x y =
    record { first = xor_bytes x.first y.first; second = xor_bytes x.second y.second }

-- all of them XORed, where each half has so many bytes
abbrev pub joined : ℕ → List Halves → Halves
joined size xs =
    record {
      first = xor_all size (map (λ (x : Halves). x.first) xs);
      second = xor_all size (map (λ (x : Halves). x.second) xs);
    }
