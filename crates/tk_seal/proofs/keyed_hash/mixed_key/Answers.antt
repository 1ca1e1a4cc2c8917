use Rattle.std.proofs.Common.{List, ℕ, ◌++◌, map, bit_xor, length, ap, ap₂, ◌∙◌}
use Rattle.std.proofs.lemmas.List.{drop-replicate}
use Rattle.tk_seal.proofs.keyed_hash.mixed_key.Goals as goal

pub returns : goal.returns
returns c =
    c.mix.ensures
    ∙ ap (map (λ k. bit_xor k c.args.with)) (ap₂ (λ (xs ys : List ℕ). xs ++ ys) c.copy_from_slice.ensures.after (drop-replicate {X = ℕ} (length c.args.key.now) 64 0))
