-- Halves cut from bytes.
use Rattle.std.proofs.Common.{◌≡◌, ℕ, zero, suc, ◌+◌, ◌-◌, ◌*◌, ◌≤◌, ◌<◌, List, [], ◌∷◌, ◌++◌, length, map, get_or, take, drop}
use Rattle.std.proofs.Common.{ap, ◌∙◌, arith}
use Rattle.std.specs.List.{AllByRecursion}
use Rattle.std.proofs.lemmas.List.{length-map, length-take-le, length-drop, get_or-map, take_at, drop_at}
use Rattle.tk_kernel.specs.Pieces.{pieces}
use Rattle.tk_kernel.proofs.Offers.{length-pieces, get_or-pieces, pieces-append}
use Rattle.tk_relay.specs.Halves.{Halves, HasHalves, blank_halves, halves_in, halves_bytes}
use Rattle.tk_relay.specs.Pads.{halves_list}

-- bytes of twice a size have two halves of it
pub cut-sized : (size : ℕ) (bytes : List ℕ) → length bytes ≡ 2 * size → HasHalves size (halves_in size bytes)
cut-sized size bytes long =
    record {
      first = length-take-le size bytes (omega (arith, long));
      second = omega (arith, length-drop size bytes, long);
    }

-- halves in a row are cut again
pub cut-again : (size : ℕ) (x : Halves) → HasHalves size x → halves_in size (halves_bytes x) ≡ x
cut-again size x sized = λ i. record {
  first = take_at x.first x.second size sized.first i;
  second = drop_at x.first x.second size sized.first i;
}

pub length-halves_list : (size count : ℕ) (bytes : List ℕ) → length (halves_list size count bytes) ≡ count
length-halves_list size count bytes =
    length-map (pieces (2 * size) count bytes) (halves_in size) ∙ length-pieces (2 * size) count bytes

pub each-sized : (size count : ℕ) (bytes : List ℕ) → count * (2 * size) ≤ length bytes →
    AllByRecursion (HasHalves size) (halves_list size count bytes)
each-sized size zero bytes enough = tt
each-sized size (suc count) bytes enough = (
  cut-sized size (take (2 * size) bytes) (length-take-le (2 * size) bytes (omega (arith, enough))),
  each-sized size count (drop (2 * size) bytes) (omega (arith, enough, length-drop (2 * size) bytes)),
)

-- one of them
pub halves-at : (size count i : ℕ) (bytes : List ℕ) → i < count →
    get_or (halves_list size count bytes) i blank_halves
    ≡ halves_in size (take (2 * size) (drop (i * (2 * size)) bytes))
halves-at size count i bytes low =
    get_or-map (halves_in size) (pieces (2 * size) count bytes) i [] blank_halves
    (omega (arith, low, length-pieces (2 * size) count bytes))
    ∙ ap (halves_in size) (get_or-pieces (2 * size) count i bytes [] low)

-- the first, and the others
pub halves-more : (size count : ℕ) (x rest : List ℕ) → length x ≡ 2 * size →
    halves_list size (suc count) (x ++ rest) ≡ halves_in size x ∷ halves_list size count rest
halves-more size count x rest long =
    ap (map (halves_in size)) (pieces-append (2 * size) count x rest long)

-- bytes of so many pieces, without one of them
pub left-next : (n i each long left : ℕ) → i < n → long ≡ (n - i) * each → left ≡ long - each →
    left ≡ (n - (i + 1)) * each
left-next n i each long left low long_is left_is =
    let more : n - i ≡ suc (n - (i + 1)) = omega (arith, low) in
    let parts : (n - i) * each ≡ each + (n - (i + 1)) * each =
    ap (λ k. k * each) more ∙ omega arith
    in
    omega (arith, long_is, left_is, parts)
