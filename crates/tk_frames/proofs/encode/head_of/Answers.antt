-- Four bytes and four bytes and four bytes are all of them.
use Rattle.std.proofs.Common.{◌≡◌, ◌∙◌, ◌∷◌, ◌++◌, [], List, ℕ, length, ap, refl, rules, arith}
use Rattle.std.specs.Prelude.{slice_index_or}
use Rattle.std.specs.List.{flat_map}
use Rattle.tk_frames.specs.Spelling.{be32}
use Rattle.tk_frames.proofs.encode.head_of.Goals as goal

-- three numbers, as they are in a list of three
three : (xs : List ℕ) → length xs ≡ 3 →
    slice_index_or xs 0 0 ∷ slice_index_or xs 1 0 ∷ slice_index_or xs 2 0 ∷ [] ≡ xs
three [] long = absurd (omega (arith, long))
three (a ∷ []) long = absurd (omega (arith, long))
three (a ∷ b ∷ []) long = absurd (omega (arith, long))
three (a ∷ b ∷ c ∷ []) long = refl
three (a ∷ b ∷ c ∷ d ∷ xs) long = absurd (omega (arith, long))

-- the four bytes of a number, and others after them
four : (n : ℕ) (bytes rest : List ℕ) → bytes ≡ be32 n →
    slice_index_or bytes 0 0 ∷ slice_index_or bytes 1 0 ∷ slice_index_or bytes 2 0
    ∷ slice_index_or bytes 3 0 ∷ rest
    ≡ be32 n ++ rest
four n bytes rest is =
    ap (λ (xs : List ℕ). slice_index_or xs 0 0 ∷ slice_index_or xs 1 0 ∷ slice_index_or xs 2 0
    ∷ slice_index_or xs 3 0 ∷ rest) is

pub returns : goal.returns
returns c =
    let asker = c.args.asker in
    let long : length asker ≡ 3 = search rules in
    let a = slice_index_or asker 0 0 in
    let b = slice_index_or asker 1 0 in
    let d = slice_index_or asker 2 0 in
    let last = four d c.to_be_bytes-e.result [] c.to_be_bytes-e.ensures in
    let bytes = c.to_be_bytes-t.result in
    let then = λ (xs : List ℕ). slice_index_or bytes 0 0 ∷ slice_index_or bytes 1 0
    ∷ slice_index_or bytes 2 0 ∷ slice_index_or bytes 3 0 ∷ xs in
    let first = c.to_be_bytes-c.result in
    let before = λ (xs : List ℕ). c.args.kind ∷ 1 ∷ slice_index_or first 0 0 ∷ slice_index_or first 1 0
    ∷ slice_index_or first 2 0 ∷ slice_index_or first 3 0 ∷ xs in
    ap before (ap then last ∙ four b bytes (be32 d ++ []) c.to_be_bytes-t.ensures)
    ∙ ap (λ (xs : List ℕ). c.args.kind ∷ 1 ∷ xs) (four a first (be32 b ++ (be32 d ++ [])) c.to_be_bytes-c.ensures)
    ∙ ap (λ (xs : List ℕ). c.args.kind ∷ 1 ∷ flat_map be32 xs) (three asker long)
