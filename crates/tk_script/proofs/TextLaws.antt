-- Words at the front of a line.
use Rattle.std.proofs.Common.{◌≡◌, ℕ, ◌-◌, List, ◌++◌, length, take, drop, ap, sym, ◌∙◌, arith}
use Rattle.std.proofs.lemmas.List.{take_rest, take-append-drop, take_at}

pub front_is : (line words rest : List ℕ) → line ≡ words ++ rest → take (length words) line ≡ words
front_is line words rest e =
    ap (take (length words)) e ∙ take_at words rest (length words) (omega arith)

pub behind_is : (line words : List ℕ) → take (length words) line ≡ words →
    line ≡ words ++ take (length line - length words) (drop (length words) line)
behind_is line words front =
    sym (take-append-drop (length words) line) ∙ ap (λ t. t ++ drop (length words) line) front
    ∙ ap (λ t. words ++ t) (sym (take_rest line (length words)))
