-- Parts are read from their bundle, and bytes without a fault spell the parts that are read from them.
use Rattle.std.proofs.Common.{◌≡◌, ℕ, zero, suc, ◌+◌, ◌-◌, ◌*◌, ◌≤◌, ◌<◌, List, [], ◌∷◌, ◌++◌, length, map, take, drop}
use Rattle.std.proofs.Common.{flat_map, None, refl, ap, ap₂, sym, ◌∙◌, arith, append_assoc}
use Rattle.std.specs.List.{AllByRecursion}
use Rattle.std.proofs.lemmas.List.{length-append, length-drop, length-map, take-append-drop}
use Rattle.tk_shape.specs.declared.shape.Shape.{Shape}
use Rattle.tk_shape.specs.Lengths.{vector_len}
use Rattle.tk_frames.specs.Fields.{number_at}
use Rattle.tk_frames.specs.Faults.{first_fault}
use Rattle.tk_frames.specs.Spelling.{asked_frame}
use Rattle.tk_frames.proofs.Offers.{IsBytes, AskerFits, asker-again, asked_stands, asked_passes}
use Rattle.tk_relay.specs.declared.part.Part.{Part}
use Rattle.tk_relay.specs.Halves.{Halves, HasHalves, halves_in}
use Rattle.tk_relay.specs.Pads.{halves_list}
use Rattle.tk_relay.specs.Parts.{part_with, halves_of, first_part, IsPart}
use Rattle.tk_relay.specs.Bundles.{part_bytes, bundle_frame, bundle_len, bundle_checks, IsOfOne, AreParts, parts_in}
use Rattle.tk_relay.proofs.Cutting.{cut-again, length-halves_list, each-sized, halves-more}
use Rattle.tk_relay.proofs.PartLaws.{part-names}

-- ---- parts of one read

module _ (c g e : ℕ) where
  -- the first of them names it
  record NamesIt (p : Part) : Type 0 where
    pub client : p.client ≡ c
    pub turn : p.turn ≡ g
    pub epoch : p.epoch ≡ e

  first-names : (xs : List Halves) → 1 ≤ length xs → NamesIt (first_part (map (part_with c g e) xs))
  first-names [] some = absurd (omega (arith, some))
  first-names (x ∷ xs) some = record { client = refl; turn = refl; epoch = refl }

  all-of_one : (first : Part) (xs : List Halves) → NamesIt first →
      AllByRecursion (IsOfOne first) (map (part_with c g e) xs)
  all-of_one first [] names = tt
  all-of_one first (x ∷ xs) names = (
    record { client = sym names.client; turn = sym names.turn; epoch = sym names.epoch },
    all-of_one first xs names,
  )

  all-in_range : (shape : Shape) (size : ℕ) (xs : List Halves) → AskerFits shape c g e →
      AllByRecursion (HasHalves size) xs →
      AllByRecursion (IsPart shape size) (map (part_with c g e) xs)
  all-in_range shape size [] fits sized = tt
  all-in_range shape size (x ∷ xs) fits sized = (
    record {
      client = fits.client_fits;
      turn = fits.turn_fits;
      epoch = fits.epoch_fits;
      halves = sized.0;
    },
    all-in_range shape size xs fits sized.1,
  )

  -- cut from bytes, they give the bytes again
  cut-joined : (size count : ℕ) (bytes : List ℕ) → length bytes ≡ count * (2 * size) →
      flat_map part_bytes (map (part_with c g e) (halves_list size count bytes)) ≡ bytes
  cut-joined size zero [] long = refl
  cut-joined size zero (b ∷ bytes) long = absurd (omega (arith, long))
  cut-joined size (suc count) bytes long =
      let front = take (2 * size) bytes in
      let rest = drop (2 * size) bytes in
      ap₂ (λ (x y : List ℕ). x ++ y) (take-append-drop size front)
      (cut-joined size count rest (omega (arith, long, length-drop (2 * size) bytes)))
      ∙ take-append-drop (2 * size) bytes

  -- spelled, they are cut again
  spelled-cut : (size : ℕ) (parts : List Part) →
      AllByRecursion (λ (p : Part). HasHalves size (halves_of p)) parts →
      AllByRecursion NamesIt parts →
      map (part_with c g e) (halves_list size (length parts) (flat_map part_bytes parts)) ≡ parts
  spelled-cut size [] sized names = refl
  spelled-cut size (p ∷ ps) sized names =
      let long : length (part_bytes p) ≡ 2 * size =
      omega (arith, length-append p.first p.second, sized.0.first, sized.0.second)
      in
      ap (map (part_with c g e))
      (halves-more size (length ps) (part_bytes p) (flat_map part_bytes ps) long)
      ∙ ap₂ (λ (x : Part) (xs : List Part). x ∷ xs)
      (ap (part_with c g e) (cut-again size (halves_of p) sized.0)
      ∙ (λ i. record p {
        client = sym names.0.client i;
        turn = sym names.0.turn i;
        epoch = sym names.0.epoch i;
      }))
      (spelled-cut size ps sized.1 names.1)

-- ---- the bundle

length-spelled : (size : ℕ) (parts : List Part) →
    AllByRecursion (λ (p : Part). HasHalves size (halves_of p)) parts →
    length (flat_map part_bytes parts) ≡ length parts * (2 * size)
length-spelled size [] sized = let none : 0 * (2 * size) ≡ 0 = omega arith in sym none
length-spelled size (p ∷ ps) sized =
    let more : suc (length ps) * (2 * size) ≡ 2 * size + length ps * (2 * size) = omega arith in
    let long : length (part_bytes p) ≡ 2 * size =
    omega (arith, length-append p.first p.second, sized.0.first, sized.0.second)
    in
    length-append (part_bytes p) (flat_map part_bytes ps)
    ∙ ap₂ (λ (x y : ℕ). x + y) long (length-spelled size ps sized.1)
    ∙ sym more

pub bundle_found : (shape : Shape) (bytes : List ℕ) → IsBytes bytes →
    first_fault (bundle_checks shape bytes) ≡ None →
    AreParts shape (parts_in shape bytes) × (bytes ≡ bundle_frame (parts_in shape bytes))
bundle_found shape bytes fits none =
    let c = number_at 2 bytes in
    let g = number_at 6 bytes in
    let e = number_at 10 bytes in
    let size = vector_len shape in
    let rest = drop 14 bytes in
    let several = shape.in_range.servers_low in
    let stands = asked_stands shape (bundle_len shape) 8 bytes fits (omega arith) none in
    let enough : length rest ≡ shape.servers * (2 * size) = omega (arith, stands.long, length-drop 14 bytes) in
    let xs = halves_list size shape.servers rest in
    let counted = length-halves_list size shape.servers rest in
    let names = first-names c g e xs (omega (arith, counted, several)) in (
      record {
        counted = length-map xs (part_with c g e) ∙ counted;
        in_range = all-in_range c g e shape size xs stands.asker
            (each-sized size shape.servers rest (omega (arith, enough)));
        of_one = all-of_one c g e (first_part (map (part_with c g e) xs)) xs names;
      },
      stands.spelled
          ∙ (λ i. asked_frame 8 (sym names.client i) (sym names.turn i) (sym names.epoch i)
          (sym (cut-joined c g e size shape.servers rest enough) i)),
    )

sized-parts : (shape : Shape) (size : ℕ) (parts : List Part) →
    AllByRecursion (IsPart shape size) parts →
    AllByRecursion (λ (p : Part). HasHalves size (halves_of p)) parts
sized-parts shape size [] fits = tt
sized-parts shape size (p ∷ ps) fits = (fits.0.halves, sized-parts shape size ps fits.1)

named-parts : (first : Part) (parts : List Part) → AllByRecursion (IsOfOne first) parts →
    AllByRecursion (NamesIt first.client first.turn first.epoch) parts
named-parts first [] of_one = tt
named-parts first (p ∷ ps) of_one = (
  record { client = of_one.0.client; turn = of_one.0.turn; epoch = of_one.0.epoch },
  named-parts first ps of_one.1,
)

first-in_range : (shape : Shape) (size : ℕ) (parts : List Part) →
    AllByRecursion (IsPart shape size) parts → 1 ≤ length parts →
    IsPart shape size (first_part parts)
first-in_range shape size [] fits some = absurd (omega (arith, some))
first-in_range shape size (p ∷ ps) fits some = fits.0

pub bundle-again : (shape : Shape) (parts : List Part) → AreParts shape parts →
    parts_in shape (bundle_frame parts) ≡ parts
bundle-again shape parts are =
    let first = first_part parts in
    let size = vector_len shape in
    let rest = flat_map part_bytes parts in
    let several = shape.in_range.servers_low in
    let counted = are.counted in
    let fits = part-names shape size first
    (first-in_range shape size parts are.in_range (omega (arith, counted, several)))
    in
    let asker = asker-again shape 8 first.client first.turn first.epoch rest fits in
    (λ i. map (part_with (asker.client_again i) (asker.turn_again i) (asker.epoch_again i))
    (halves_list size (sym counted i) rest))
    ∙ spelled-cut first.client first.turn first.epoch size parts
    (sized-parts shape size parts are.in_range)
    (named-parts first parts are.of_one)

pub bundle_passes : (shape : Shape) (parts : List Part) → AreParts shape parts →
    first_fault (bundle_checks shape (bundle_frame parts)) ≡ None
bundle_passes shape parts are =
    let first = first_part parts in
    let size = vector_len shape in
    let several = shape.in_range.servers_low in
    let counted = are.counted in
    let long = length-spelled size parts (sized-parts shape size parts are.in_range) in
    asked_passes shape (bundle_len shape) 8 first.client first.turn first.epoch
    (flat_map part_bytes parts)
    (part-names shape size first
    (first-in_range shape size parts are.in_range (omega (arith, counted, several))))
    (ap (λ n. 14 + n) (long ∙ ap (λ n. n * (2 * size)) counted) ∙ omega arith)

-- ---- parts read one after the other

-- the parts so far, with one more and without its bytes
pub parts-next : (make : Halves → Part) (size count i : ℕ) (done new : List Part) (p : Part)
    (rest vectors others : List ℕ) (total : List Part) → i < count →
    vectors ≡ take (2 * size) rest → others ≡ drop (2 * size) rest →
    p ≡ make (halves_in size vectors) → new ≡ done ++ p ∷ [] →
    done ++ map make (halves_list size (count - i) rest) ≡ total →
    new ++ map make (halves_list size (count - (i + 1)) others) ≡ total
parts-next make size count i done new p rest vectors others total low front back is pushed so_far =
    let more : count - i ≡ suc (count - (i + 1)) = omega (arith, low) in
    let left = map make (halves_list size (count - (i + 1)) others) in
    let next : map make (halves_list size (count - i) rest) ≡ p ∷ left =
    ap (λ n. map make (halves_list size n rest)) more
    ∙ ap₂ (λ (v w : List ℕ). make (halves_in size v) ∷ map make (halves_list size (count - (i + 1)) w))
    (sym front) (sym back)
    ∙ ap (λ (q : Part). q ∷ left) (sym is)
    in
    ap (λ (ps : List Part). ps ++ left) pushed
    ∙ append_assoc done (p ∷ []) left
    ∙ ap (λ (ps : List Part). done ++ ps) (sym next)
    ∙ so_far
