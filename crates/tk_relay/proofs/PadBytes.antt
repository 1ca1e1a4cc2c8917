-- The bytes that pads are: they are cut from these again, and what is made of pads of bytes is bytes.
use Rattle.std.proofs.Common.{◌≡◌, ℕ, zero, suc, ◌+◌, ◌-◌, ◌*◌, ◌≤◌, List, [], ◌∷◌, ◌++◌, length, map}
use Rattle.std.proofs.Common.{take, drop, get_or, set, refl, ap, ap₂, sym, subst, ◌∙◌, arith, append_assoc, append-nil}
use Rattle.std.specs.Prelude.{flat_map}
use Rattle.std.specs.List.{concat, AllByRecursion}
use Rattle.std.proofs.lemmas.List.{length-append, take-append-drop, take_all, drop_at}
use Rattle.tk_shape.specs.declared.shape.Shape.{Shape}
use Rattle.tk_shape.specs.Lengths.{vector_len, width}
use Rattle.tk_kernel.specs.Pieces.{pieces}
use Rattle.tk_kernel.proofs.Offers.{concat-pieces}
use Rattle.tk_counts.proofs.Offers.{AreBytes, no_bytes, bytes-append, bytes-front, bytes-rest, bytes-xor}
use Rattle.tk_relay.specs.Halves.{Halves, HasHalves, blank_halves, halves_in, halves_bytes, mixed}
use Rattle.tk_relay.specs.Pads.{request_len, reply_pad_len, halves_list, pad_of}
use Rattle.tk_relay.specs.Sights.{moved, moved_last}
use Rattle.tk_relay.specs.Counts.{PadsAreCut, PadsAreSpelled}
use Rattle.tk_relay.proofs.Cutting.{cut-again, halves-more}
use Rattle.tk_relay.proofs.PadLaws.{pads-are, requests-within, replies-long}

-- ---- cut from bytes

-- halves are the bytes that they are cut from
bytes-cut : (size : ℕ) (cuts : List (List ℕ)) → flat_map halves_bytes (map (halves_in size) cuts) ≡ concat cuts
bytes-cut size [] = refl
bytes-cut size (bytes ∷ cuts) = ap₂ (λ (x y : List ℕ). x ++ y) (take-append-drop size bytes) (bytes-cut size cuts)

bytes-listed : (size count : ℕ) (bytes : List ℕ) → count * (2 * size) ≤ length bytes →
    flat_map halves_bytes (halves_list size count bytes) ≡ take (count * (2 * size)) bytes
bytes-listed size count bytes enough =
    bytes-cut size (pieces (2 * size) count bytes) ∙ concat-pieces (2 * size) count bytes enough

length-halves : (size : ℕ) (x : Halves) → HasHalves size x → length (halves_bytes x) ≡ 2 * size
length-halves size x sized = omega (arith, length-append x.first x.second, sized.first, sized.second)

length-bytes : (size : ℕ) (xs : List Halves) → AllByRecursion (HasHalves size) xs →
    length (flat_map halves_bytes xs) ≡ length xs * (2 * size)
length-bytes size [] all = omega arith
length-bytes size (x ∷ xs) all =
    let more : suc (length xs) * (2 * size) ≡ 2 * size + length xs * (2 * size) = omega arith in
    omega (
      arith,
      length-append (halves_bytes x) (flat_map halves_bytes xs),
      length-halves size x all.0,
      length-bytes size xs all.1,
      more,
    )

-- and they are cut from these bytes, whatever comes behind
listed-again : (size : ℕ) (xs : List Halves) (rest : List ℕ) → AllByRecursion (HasHalves size) xs →
    halves_list size (length xs) (flat_map halves_bytes xs ++ rest) ≡ xs
listed-again size [] rest all = refl
listed-again size (x ∷ xs) rest all =
    ap (halves_list size (suc (length xs))) (append_assoc (halves_bytes x) (flat_map halves_bytes xs) rest)
    ∙ halves-more size (length xs) (halves_bytes x) (flat_map halves_bytes xs ++ rest)
    (length-halves size x all.0)
    ∙ ap₂ (λ (y : Halves) (ys : List Halves). y ∷ ys) (cut-again size x all.0) (listed-again size xs rest all.1)

pub pads_are_cut : PadsAreCut
pads_are_cut shape bytes is =
    let others = shape.servers - 1 in
    let asked = others * request_len shape in
    let rest = drop asked bytes in
    let requests : List Halves = halves_list (vector_len shape) others bytes in
    let replies : List Halves = halves_list (width shape) others rest in
    let long = replies-long shape bytes is.counted in
    let spelled : flat_map halves_bytes requests ++ flat_map halves_bytes replies ≡ bytes =
    ap₂ (λ (x y : List ℕ). x ++ y)
    (bytes-listed (vector_len shape) others bytes (requests-within shape bytes is.counted))
    (bytes-listed (width shape) others rest (omega (arith, long))
    ∙ take_all (others * reply_pad_len shape) rest (omega (arith, long)))
    ∙ take-append-drop asked bytes
    in (
      record { are = pads-are shape bytes is.counted; bytes = subst AreBytes (sym spelled) is.below },
      spelled,
    )

pub pads_are_spelled : PadsAreSpelled
pads_are_spelled shape pads is =
    let others = shape.servers - 1 in
    let asked : List ℕ = flat_map halves_bytes pads.requests in
    let replied : List ℕ = flat_map halves_bytes pads.replies in
    let asked_long : length asked ≡ others * request_len shape =
    length-bytes (vector_len shape) pads.requests is.are.requests_sized
    ∙ ap (λ n. n * request_len shape) is.are.requests_counted
    in
    let replied_long : length replied ≡ others * reply_pad_len shape =
    length-bytes (width shape) pads.replies is.are.replies_sized
    ∙ ap (λ n. n * reply_pad_len shape) is.are.replies_counted
    in
    let both : others * (request_len shape + reply_pad_len shape)
    ≡ others * request_len shape + others * reply_pad_len shape = omega arith in
    let requests : halves_list (vector_len shape) others (asked ++ replied) ≡ pads.requests =
    ap (λ n. halves_list (vector_len shape) n (asked ++ replied)) (sym is.are.requests_counted)
    ∙ listed-again (vector_len shape) pads.requests replied is.are.requests_sized
    in
    let replies : halves_list (width shape) others (drop (others * request_len shape) (asked ++ replied))
    ≡ pads.replies =
    ap (halves_list (width shape) others) (drop_at asked replied (others * request_len shape) asked_long
    ∙ sym (append-nil replied))
    ∙ ap (λ n. halves_list (width shape) n (replied ++ [])) (sym is.are.replies_counted)
    ∙ listed-again (width shape) pads.replies [] is.are.replies_sized
    in (
      record {
        counted = omega (arith, length-append asked replied, asked_long, replied_long, both);
        below = is.bytes;
      },
      λ i. record { requests = requests i; replies = replies i },
    )

-- ---- what is made of pads of bytes

bytes-mixed : (x y : Halves) → AreBytes (halves_bytes x) → AreBytes (halves_bytes y) →
    AreBytes (halves_bytes (mixed x y))
bytes-mixed x y these those =
    let one = mixed x y in
    bytes-append one.first one.second
    (bytes-xor x.first y.first (bytes-front x.first x.second these) (bytes-front y.first y.second those))
    (bytes-xor x.second y.second (bytes-rest x.first x.second these) (bytes-rest y.first y.second those))

-- one of them, and all of them with another one in a place
bytes-one : (xs : List Halves) (k : ℕ) → AreBytes (flat_map halves_bytes xs) →
    AreBytes (halves_bytes (get_or xs k blank_halves))
bytes-one [] k are = no_bytes
bytes-one (x ∷ xs) zero are = bytes-front (halves_bytes x) (flat_map halves_bytes xs) are
bytes-one (x ∷ xs) (suc k) are = bytes-one xs k (bytes-rest (halves_bytes x) (flat_map halves_bytes xs) are)

bytes-set : (xs : List Halves) (k : ℕ) (x : Halves) → AreBytes (flat_map halves_bytes xs) →
    AreBytes (halves_bytes x) → AreBytes (flat_map halves_bytes (set xs k x))
bytes-set [] k x are new = no_bytes
bytes-set (y ∷ xs) zero x are new =
    bytes-append (halves_bytes x) (flat_map halves_bytes xs) new
    (bytes-rest (halves_bytes y) (flat_map halves_bytes xs) are)
bytes-set (y ∷ xs) (suc k) x are new =
    bytes-append (halves_bytes y) (flat_map halves_bytes (set xs k x))
    (bytes-front (halves_bytes y) (flat_map halves_bytes xs) are)
    (bytes-set xs k x (bytes-rest (halves_bytes y) (flat_map halves_bytes xs) are) new)

pub bytes-moved : (shape : Shape) (old new : Halves) (pads : List Halves) → AreBytes (halves_bytes old) →
    AreBytes (halves_bytes new) → AreBytes (flat_map halves_bytes pads) →
    AreBytes (flat_map halves_bytes (moved_last shape old new pads))
bytes-moved shape old new pads from to are =
    let pad = pad_of pads shape.servers in
    bytes-set pads (shape.servers - 2) (moved old new pad) are
    (bytes-mixed (mixed pad old) new (bytes-mixed pad old (bytes-one pads (shape.servers - 2) are) from) to)
