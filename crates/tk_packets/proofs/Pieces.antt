-- A buffer that is filled piece after piece, and what was taken for it.
use Rattle.std.proofs.Common.{◌≡◌, ℕ, ◌+◌, ◌≤◌, List, ◌++◌, length, take, drop, Option, Some, None, refl, ap, sym}
use Rattle.std.proofs.Common.{◌∙◌, arith, take-add, length-take, append_assoc}
use Rattle.std.proofs.lemmas.List.{take_at, drop_at, take-take}
use Rattle.std.proofs.lemmas.Slice.{take-put_mid}
use borrow.Rule.Slice.PartMut.{put_mid}
use Rattle.tk_io.specs.Content.{before_taking, emptied}

-- where all was taken of what is left after a taking, all was taken
pub emptied-before : (taken : List ℕ) (rest : Option (List ℕ)) → emptied (before_taking taken rest) ≡ emptied rest
emptied-before taken None = refl
emptied-before taken (Some rest) = refl

-- the first done bytes of a buffer, and then the first n of what was put behind them
pub filled_more : (old piece : List ℕ) (done k n : ℕ) → done ≤ length old → n ≤ length piece →
    take (done + n) (put_mid done k old piece) ≡ take done old ++ take n piece
filled_more old piece done k n within some =
    let front : length (take done old) ≡ done = omega (arith, length-take done old) in
    sym (take-take (done + n) (done + length piece) (put_mid done k old piece) (omega arith))
    ∙ ap (take (done + n)) (take-put_mid done k old piece (done + length piece) refl within)
    ∙ take-add done n (take done old ++ piece)
    ∙ ap (λ xs. xs ++ take n (drop done (take done old ++ piece))) (take_at (take done old) piece done front)
    ∙ ap (λ xs. take done old ++ take n xs) (drop_at (take done old) piece done front)

-- three parts that come behind a list
pub three-parts : (old first second third a b c : List ℕ) {x y z : List ℕ} → first ≡ old ++ x →
    second ≡ first ++ y → third ≡ second ++ z → x ≡ a → y ≡ b → z ≡ c → third ≡ old ++ ((a ++ b) ++ c)
three-parts old first second third a b c {x} {y} {z} one two three xa yb zc =
    three ∙ ap (λ s. s ++ z) (two ∙ ap (λ s. s ++ y) one)
    ∙ ap (λ s. s ++ z) (append_assoc old x y) ∙ append_assoc old (x ++ y) z
    ∙ ap (λ s. old ++ ((s ++ y) ++ z)) xa ∙ ap (λ s. old ++ ((a ++ s) ++ z)) yb
    ∙ ap (λ s. old ++ ((a ++ b) ++ s)) zc
