-- The pieces behind the words of a cell are those of either bucket.
use Rattle.std.proofs.Common.{◌≡◌, ◌-◌, ◌*◌, ◌++◌, ◌∙◌, List, ℕ, ap, ap₂, take, drop, flat_map, append_assoc}
use Rattle.tk_shape.specs.Lengths.{piece_len}
use Rattle.tk_kernel.specs.Pieces.{pieces}
use Rattle.tk_words.specs.Lifting.{with_zero_seed}
use Rattle.tk_words.proofs.Written.{twice}
use Rattle.tk_words.proofs.lifting.push_read_cell.Goals as goal

pub returns : goal.returns
returns c =
    let shape = c.args.shape.now in
    let cell = c.args.cell.now in
    let count = 2 * (shape.servers - 1) in
    let old = c.args.out.now.items in
    let words : c.extend_from_slice.new.self.items ≡ old ++ take 8 cell =
    c.in_ok-extend_from_slice.ensures.items ∙ ap (λ (xs : List ℕ). old ++ xs) c.split_at.ensures.front
    in
    let seeded : flat_map with_zero_seed (pieces c.piece_len.result count c.split_at.result.1.now) ≡ _ =
    ap₂ (λ n (bytes : List ℕ). flat_map with_zero_seed (pieces n count bytes)) c.piece_len.ensures c.split_at.ensures.back
    ∙ twice with_zero_seed (piece_len shape) (shape.servers - 1) (drop 8 cell)
    in
    c.in_ok-push_with_seeds.ensures
    ∙ ap₂ (λ (xs ys : List ℕ). xs ++ ys) words seeded
    ∙ append_assoc old (take 8 cell) _
