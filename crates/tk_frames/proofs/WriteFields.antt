-- The fields of a write: what is read is spelled so, and what is spelled so is read.
use Rattle.std.proofs.Common.{◌≡◌, ℕ, ◌+◌, ◌*◌, ◌^◌, ◌<◌, ◌≤◌, List, [], ◌∷◌, ◌++◌, length, drop, map, None, refl, sym, ap, ◌∙◌, arith}
use Rattle.std.specs.List.{flat_map, AllByRecursion}
use Rattle.std.proofs.lemmas.Bool.{ltb-true, lt-ltb}
use Rattle.std.proofs.lemmas.List.{drop_at, length-append, length-drop}
use Rattle.std.proofs.lemmas.Nat.{from_be_bytes-to_be_bytes_4}
use Rattle.tk_shape.specs.declared.shape.Shape.{Shape}
use Rattle.tk_frames.specs.declared.write_frame.WriteFrame.{WriteFrame}
use Rattle.tk_frames.specs.declared.fault.Name.TheVariants as name
use Rattle.tk_frames.specs.Spelling.{be32, write_fields}
use Rattle.tk_frames.specs.Ranges.{IsWrite}
use Rattle.tk_frames.specs.Fields.{number_at, numbers, write_in}
use Rattle.tk_frames.specs.Faults.{first_fault, check_on, client_check, turn_check, hit_check, write_field_checks}
use Rattle.tk_frames.proofs.Bounds.{turn_count_small}
use Rattle.tk_frames.proofs.BigEndian.{IsBytes, IsBytes-drop, number-join, length-numbers, numbers-join, length-be32s, numbers-again}
use Rattle.tk_frames.proofs.Checking.{none-first, none-both, hits_below, hits_pass}

-- numbers below a bound that fits are below 2 ^ 32
pub all_fit : (limit : ℕ) (ns : List ℕ) → limit ≤ 2 ^ 32 → AllByRecursion (λ n. n < limit) ns → AllByRecursion (λ n. n < 2 ^ 32) ns
all_fit limit [] le fits = tt
all_fit limit (n ∷ ns) le fits = (omega (arith, fits.0), all_fit limit ns le fits.1)

pub length-write_fields : (w : WriteFrame) → length (write_fields w) ≡ 16 + 4 * length w.hits + length w.block
length-write_fields w = omega (arith, length-append (flat_map be32 w.hits) w.block, length-be32s w.hits)

-- the bytes are the spelling of the write that is read from them
pub fields-join : (shape : Shape) (fields : List ℕ) → IsBytes fields → 16 + 4 * shape.hits ≤ length fields → write_fields (write_in shape fields) ≡ fields
fields-join shape fields fits le =
    let tail = drop 16 fields in
    let hits = numbers-join shape.hits tail (IsBytes-drop 16 fields fits) (omega (arith, length-drop 16 fields)) in
    let at0 : be32 (number_at 0 fields) ++ drop 4 fields ≡ fields = number-join 0 4 fields fits refl (omega arith) in
    let at4 = number-join 4 8 fields fits refl (omega arith) in
    let at8 = number-join 8 12 fields fits refl (omega arith) in
    let at12 = number-join 12 16 fields fits refl (omega arith) in
    ap (λ rest. be32 (number_at 0 fields) ++ (be32 (number_at 4 fields) ++ (be32 (number_at 8 fields) ++ (be32 (number_at 12 fields) ++ rest)))) hits
    ∙ ap (λ rest. be32 (number_at 0 fields) ++ (be32 (number_at 4 fields) ++ (be32 (number_at 8 fields) ++ rest))) at12
    ∙ ap (λ rest. be32 (number_at 0 fields) ++ (be32 (number_at 4 fields) ++ rest)) at8
    ∙ ap (λ rest. be32 (number_at 0 fields) ++ rest) at4
    ∙ at0

-- the write is read from its spelling
pub fields-again : (shape : Shape) (w : WriteFrame) → IsWrite shape w → write_in shape (write_fields w) ≡ w
fields-again shape w fits =
    let ranges = shape.in_range in
    let client = from_be_bytes-to_be_bytes_4 w.client (omega (arith, fits.client, ranges.clients_high)) in
    let turn = from_be_bytes-to_be_bytes_4 w.turn (omega (arith, fits.turn, turn_count_small shape)) in
    let first = from_be_bytes-to_be_bytes_4 w.first (omega (arith, fits.first, ranges.buckets_high)) in
    let second = from_be_bytes-to_be_bytes_4 w.second (omega (arith, fits.second, ranges.buckets_high)) in
    let hits : numbers shape.hits (flat_map be32 w.hits ++ w.block) ≡ w.hits =
    ap (λ count. numbers count (flat_map be32 w.hits ++ w.block)) (sym fits.hits_counted)
    ∙ numbers-again w.hits w.block (all_fit shape.filter_bits w.hits (omega (arith, ranges.filter_high)) fits.hits) in
    let block : drop (4 * shape.hits) (flat_map be32 w.hits ++ w.block) ≡ w.block =
    drop_at (flat_map be32 w.hits) w.block (4 * shape.hits) (omega (arith, length-be32s w.hits, fits.hits_counted)) in
    λ i. record { client = client i; turn = turn i; first = first i; second = second i; hits = hits i; block = block i }

-- ---- the checks are those of the ranges

pub fields_in_range : (shape : Shape) (fields : List ℕ) → length fields ≡ 16 + 4 * shape.hits + shape.block →
    first_fault (write_field_checks shape fields) ≡ None → IsWrite shape (write_in shape fields)
fields_in_range shape fields long e =
    let hits = map (hit_check shape) (numbers shape.hits (drop 16 fields)) in
    let on_first = check_on name.First (number_at 8 fields) _ in
    let on_second = check_on name.Second (number_at 12 fields) _ in
    let client = none-first (client_check shape (number_at 0 fields)) (turn_check shape (number_at 4 fields) ∷ on_first ∷ on_second ∷ hits) e in
    let turn = none-first (turn_check shape (number_at 4 fields)) (on_first ∷ on_second ∷ hits) client.1 in
    let first = none-first on_first (on_second ∷ hits) turn.1 in
    let second = none-first on_second hits first.1 in
    record {
      client = ltb-true _ _ client.0;
      turn = ltb-true _ _ turn.0;
      first = ltb-true _ _ first.0;
      second = ltb-true _ _ second.0;
      hits = hits_below shape _ second.1;
      hits_counted = length-numbers shape.hits (drop 16 fields);
      block_len = omega (arith, length-drop (4 * shape.hits) (drop 16 fields), length-drop 16 fields);
    }

pub fields_pass : (shape : Shape) (fields : List ℕ) → IsWrite shape (write_in shape fields) → first_fault (write_field_checks shape fields) ≡ None
fields_pass shape fields fits =
    let hits = map (hit_check shape) (numbers shape.hits (drop 16 fields)) in
    let on_first = check_on name.First (number_at 8 fields) _ in
    let on_second = check_on name.Second (number_at 12 fields) _ in
    none-both (client_check shape (number_at 0 fields)) (turn_check shape (number_at 4 fields) ∷ on_first ∷ on_second ∷ hits) (lt-ltb _ _ fits.client)
    (none-both (turn_check shape (number_at 4 fields)) (on_first ∷ on_second ∷ hits) (lt-ltb _ _ fits.turn)
    (none-both on_first (on_second ∷ hits) (lt-ltb _ _ fits.first)
    (none-both on_second hits (lt-ltb _ _ fits.second)
    (hits_pass shape (numbers shape.hits (drop 16 fields)) fits.hits))))
