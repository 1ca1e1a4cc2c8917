-- Parts of one size, gathered.
use Rattle.std.proofs.Common.{◌∙◌, ap, sym, arith, ℕ, ◌≤◌, List, [], ◌∷◌, length, map}
use Rattle.std.specs.List.{AllByRecursion}
use Rattle.tk_relay.specs.declared.part.Part.{Part}
use Rattle.tk_relay.specs.Halves.{HasHalves, joined}
use Rattle.tk_relay.specs.Parts.{halves_of}
use Rattle.tk_relay.specs.Serving.{IsAlike, AreOfOneRead, gathered_part}
use Rattle.tk_relay.proofs.Mixing.{joined-sized}

-- each has halves of so many bytes
abbrev pub AreSized : ℕ → List Part → Type 0
AreSized n parts = AllByRecursion (λ (p : Part). HasHalves n (halves_of p)) parts

alike-to : (n : ℕ) (first : Part) (parts : List Part) → HasHalves n (halves_of first) →
    AreSized n parts → AllByRecursion (IsAlike first) parts
alike-to n first [] like sized = tt
alike-to n first (p ∷ ps) like sized = (
  record {
    first_half = sized.0.first ∙ sym like.first;
    second_half = sized.0.second ∙ sym like.second;
  },
  alike-to n first ps like sized.1,
)

pub sized-alike : (n : ℕ) (parts : List Part) → AreSized n parts → AreOfOneRead parts
sized-alike n [] sized = tt
sized-alike n (p ∷ ps) sized = alike-to n p (p ∷ ps) sized.0 sized

all-halves : (n : ℕ) (parts : List Part) → AreSized n parts →
    AllByRecursion (HasHalves n) (map halves_of parts)
all-halves n [] sized = tt
all-halves n (p ∷ ps) sized = (sized.0, all-halves n ps sized.1)

pub gathered-as : (n : ℕ) (parts : List Part) → 1 ≤ length parts → AreSized n parts →
    HasHalves n (halves_of (gathered_part parts))
unfolding gathered_part
gathered-as n [] some sized = absurd (omega (arith, some))
gathered-as n (p ∷ ps) some sized =
    let all = map halves_of (p ∷ ps) in
    let joined_sized = joined-sized n all (all-halves n (p ∷ ps) sized) in
    record {
      first = ap (λ k. length (joined k all).first) sized.0.first ∙ joined_sized.first;
      second = ap (λ k. length (joined k all).second) sized.0.second ∙ joined_sized.second;
    }
