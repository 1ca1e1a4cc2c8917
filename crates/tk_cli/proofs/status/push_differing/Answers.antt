-- The name after the word.
use Rattle.std.proofs.Common.{◌∙◌, ◌++◌, ap, append_assoc, codes, ℕ, List}
use Rattle.tk_cli.proofs.status.push_differing.Goals as goal

pub returns : goal.returns
returns c =
    let word = codes "talek: shapes " in
    let old = c.args.out.now.items in
    c.in_ok-extend_from_slice-2.ensures.items
    ∙ ap (λ (xs : List ℕ). xs ++ c.name.result.now) c.in_ok-extend_from_slice.ensures.items
    ∙ append_assoc old word c.name.result.now
    ∙ ap (λ (n : List ℕ). old ++ (word ++ n)) c.name.ensures
