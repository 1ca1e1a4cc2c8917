-- Marks as numbers, 64 each.
use Rattle.std.specs.Prelude.{◌≡◌, ℕ, ◌+◌, ◌*◌, ◌/◌, ◌%◌, ◌^◌, ◌==◌, Bool, cond, List, [], ◌∷◌, map, take, drop, slice_index_or}
use Rattle.std.specs.List.{range_with_len}

-- the number whose binary digits are these marks, the first one the lowest
abbrev pub number_of : List Bool → ℕ
number_of [] = 0
number_of (b ∷ bs) = cond b 1 0 + 2 * number_of bs

-- a number's binary digit at a place, the lowest at place 0
abbrev pub digit : ℕ → ℕ → Bool
digit n i = n / 2 ^ i % 2 == 1

-- the mark at a place that numbers have, 64 each
abbrev pub mark_at : List ℕ → ℕ → Bool
mark_at ns i = digit (slice_index_or ns (i / 64) 0) (i % 64)

-- the first marks that numbers have, so many
abbrev pub marks_in : ℕ → List ℕ → List Bool
marks_in count ns = map (mark_at ns) (range_with_len 0 count)

-- each number has the next 64 marks, and the last one those that are left
abbrev pub ArePacked : List ℕ → List Bool → Type 0
ArePacked [] marks = marks ≡ []
ArePacked (n ∷ ns) marks = (n ≡ number_of (take 64 marks)) × ArePacked ns (drop 64 marks)
