-- Parts mixed one after the other.
use Rattle.std.proofs.Common.{◌≡◌, ◌∙◌, ◌<◌, ◌≤◌, ℕ, ◌+◌, List, [], ◌∷◌, length, map, drop, get_or, replicate}
use Rattle.std.proofs.Common.{ap, sym, arith, add-one, drop-cons}
use Rattle.std.proofs.lemmas.List.{drop_all}
use Rattle.std.proofs.lemmas.List.Elements.{All-from_recursion}
use Rattle.tk_kernel.specs.Xor.{xor_bytes}
use Rattle.tk_kernel.proofs.Offers.{length-xor_bytes, xor_bytes-zeros}
use Rattle.tk_relay.specs.declared.part.Part.{Part}
use Rattle.tk_relay.specs.Halves.{Halves, mixed, joined}
use Rattle.tk_relay.specs.Parts.{halves_of, first_part, blank_part}
use Rattle.tk_relay.specs.Serving.{IsAlike, AreOfOneRead}
use Rattle.tk_relay.proofs.Mixing.{mixed-assoc}

-- the halves of parts joined, each as long as those of one
abbrev pub joined_as : Part → List Part → Halves
joined_as like parts =
    record {
      first = (joined (length like.first) (map halves_of parts)).first;
      second = (joined (length like.second) (map halves_of parts)).second;
    }

-- of parts from number i on the first stands apart
from-next : (parts : List Part) (i : ℕ) → i < length parts →
    drop i parts ≡ get_or parts i blank_part ∷ drop (i + 1) parts
from-next parts i within =
    drop-cons parts i blank_part within
    ∙ ap (λ n. get_or parts i blank_part ∷ drop n parts) (sym (add-one i))

-- what is joined so far, with the parts from number i on
pub record Joining (parts : List Part) (i : ℕ) (sum : Halves) : Type 0 where
  pub first_len : length sum.first ≡ length (first_part parts).first
  pub second_len : length sum.second ≡ length (first_part parts).second
  pub all : mixed sum (joined_as (first_part parts) (drop i parts)) ≡ joined_as (first_part parts) parts

pub joining-next : (parts : List Part) (i : ℕ) (sum new : Halves) → i < length parts →
    AreOfOneRead parts → Joining parts i sum →
    new ≡ mixed sum (halves_of (get_or parts i blank_part)) → Joining parts (i + 1) new
joining-next parts i sum new within alike so_far is =
    let like = first_part parts in
    let x = get_or parts i blank_part in
    let rest = joined_as like (drop (i + 1) parts) in
    let sized = All-from_recursion (IsAlike like) parts alike i blank_part within in
    record {
      first_len =
          ap (λ (h : Halves). length h.first) is
          ∙ length-xor_bytes sum.first x.first (so_far.first_len ∙ sym sized.first_half)
          ∙ so_far.first_len;
      second_len =
          ap (λ (h : Halves). length h.second) is
          ∙ length-xor_bytes sum.second x.second (so_far.second_len ∙ sym sized.second_half)
          ∙ so_far.second_len;
      all =
          ap (λ (h : Halves). mixed h rest) is
          ∙ mixed-assoc sum (halves_of x) rest
          ∙ ap (λ (ps : List Part). mixed sum (joined_as like ps)) (sym (from-next parts i within))
          ∙ so_far.all;
    }

-- after the last part all are joined
pub joining-last : (parts : List Part) (i : ℕ) (sum : Halves) → length parts ≤ i →
    Joining parts i sum → sum ≡ joined_as (first_part parts) parts
joining-last parts i sum past so_far =
    sym (λ k. record {
      first = (ap (λ n. xor_bytes sum.first (replicate n 0)) (sym so_far.first_len)
          ∙ xor_bytes-zeros sum.first) k;
      second = (ap (λ n. xor_bytes sum.second (replicate n 0)) (sym so_far.second_len)
          ∙ xor_bytes-zeros sum.second) k;
    })
    ∙ ap (λ (ps : List Part). mixed sum (joined_as (first_part parts) ps))
    (sym (drop_all i parts past))
    ∙ so_far.all

-- the first part alone
pub joining-first : (parts : List Part) (sum : Halves) → 1 ≤ length parts →
    sum ≡ halves_of (first_part parts) → Joining parts 1 sum
joining-first [] sum some is = absurd (omega (arith, some))
joining-first (p ∷ ps) sum some is =
    record {
      first_len = ap (λ (h : Halves). length h.first) is;
      second_len = ap (λ (h : Halves). length h.second) is;
      all = ap (λ (h : Halves). mixed h (joined_as p ps)) is;
    }
