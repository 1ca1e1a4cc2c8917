-- The six parts of the numbers in front.
use Rattle.std.proofs.Common.{◌∙◌, ◌∷◌, ◌++◌, [], List, ℕ, ap, ap₂}
use Rattle.std.specs.List.{flat_map}
use Rattle.tk_shape.specs.declared.shape.Shape.{Shape}
use Rattle.tk_shape.specs.Numbers.{numbers_of}
use Rattle.tk_frames.specs.Spelling.{be32, be64}
use Rattle.tk_checkpoint.proofs.Appending.{six_joined}
use Rattle.tk_checkpoint.proofs.save.put_head.Goals as goal

pub returns-clause-items : goal.returns-clause-items
returns-clause-items c =
    let s = c.args.state.now in
    let numbers = c.numbers.ensures ∙ ap numbers_of c.shape-2.ensures in
    c.put_u32-3.ensures.items
    ∙ ap (λ (x : List ℕ). x ++ be32 c.args.count)
    (c.put_u32-2.ensures.items
    ∙ ap₂ (λ (x : List ℕ) n. x ++ be32 n)
    (c.put_u64.ensures.items
    ∙ ap₂ (λ (x : List ℕ) n. x ++ be64 n)
    (c.put_words.ensures.items
    ∙ ap₂ (λ (x : List ℕ) ns. x ++ flat_map be32 ns)
    (c.put_u32.ensures.items
    ∙ ap₂ (λ (x : List ℕ) (sh : Shape). x ++ be32 sh.format) c.put.ensures.items c.shape.ensures)
    numbers)
    c.applied.ensures)
    c.last.ensures)
    ∙ six_joined c.args.out.now.items (84 ∷ 65 ∷ 76 ∷ 75 ∷ 1 ∷ []) (be32 s.shape.format)
    (flat_map be32 (numbers_of s.shape)) (be64 s.applied) (be32 s.last) (be32 c.args.count)
