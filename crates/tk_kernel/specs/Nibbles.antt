-- The sums of all choices of four.
use Rattle.std.specs.Prelude.{ℕ, ◌/◌, ◌%◌, ◌+◌, ◌*◌, zero, suc, List, [], ◌∷◌, replicate, slice_index_or}
use Rattle.std.specs.Simd.Lanes.{chunk}
use Rattle.tk_kernel.specs.Xor.{xor_bytes}

-- number v is the sum of those of a, b, c and d whose bit is set in v
abbrev pub table : ℕ → List ℕ → List ℕ → List ℕ → List ℕ → List (List ℕ)
table n a b c d =
    let o = replicate n 0 in
    let ob = xor_bytes b o in
    let oc = xor_bytes c o in
    let obc = xor_bytes b oc in
    let od = xor_bytes d o in
    let obd = xor_bytes b od in
    let ocd = xor_bytes c od in
    let obcd = xor_bytes b ocd in
    o ∷ xor_bytes a o ∷ ob ∷ xor_bytes a ob ∷ oc ∷ xor_bytes a oc ∷ obc ∷ xor_bytes a obc
    ∷ od ∷ xor_bytes a od ∷ obd ∷ xor_bytes a obd
    ∷ ocd ∷ xor_bytes a ocd ∷ obcd ∷ xor_bytes a obcd ∷ []

-- a sum, and added to it of each table the entry that four bits of a word name, the lowest four of the first table
abbrev pub taken : List (List (List ℕ)) → List ℕ → ℕ → List ℕ
taken [] sum word = sum
taken (t ∷ ts) sum word = taken ts (xor_bytes sum (slice_index_or t (word % 16) [])) (word / 16)

-- the table of the n bytes from number i on of four blocks, the first of them number at
abbrev pub table_at : ℕ → ℕ → ℕ → List ℕ → ℕ → List (List ℕ)
table_at n size i blocks at =
    table n
    (chunk (at * size + i) n blocks)
    (chunk ((at + 1) * size + i) n blocks)
    (chunk ((at + 2) * size + i) n blocks)
    (chunk ((at + 3) * size + i) n blocks)

-- count of these tables, the first of them number h
abbrev pub tables_of : ℕ → ℕ → ℕ → List ℕ → ℕ → ℕ → List (List (List ℕ))
tables_of n size i blocks h zero = []
tables_of n size i blocks h (suc count) =
    table_at n size i blocks (4 * h) ∷ tables_of n size i blocks (h + 1) count
