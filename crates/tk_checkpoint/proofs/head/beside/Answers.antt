use Rattle.std.proofs.Common.{[], ◌∷◌}
use Rattle.tk_checkpoint.proofs.head.beside.Goals as goal

-- each pair stands at its place
pub returns : goal.returns
returns c =
    λ i. c.at.ensures i ∷ c.at-2.ensures i ∷ c.at-3.ensures i ∷ c.at-4.ensures i
    ∷ c.at-5.ensures i ∷ c.at-6.ensures i ∷ c.at-7.ensures i ∷ c.at-8.ensures i
    ∷ c.at-9.ensures i ∷ c.at-10.ensures i ∷ c.at-11.ensures i ∷ c.at-12.ensures i
    ∷ c.at-13.ensures i ∷ []
