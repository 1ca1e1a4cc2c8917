-- A write is read from its spelling.
use Rattle.std.proofs.Common.{◌≡◌, ℕ, ◌*◌, ◌^◌, ◌<◌, refl, ap, sym, ◌∙◌, arith, ◌≤◌, List, [], ◌∷◌, ◌++◌, length, drop}
use Rattle.std.specs.List.{flat_map, AllByRecursion}
use Rattle.std.proofs.lemmas.Nat.{from_be_bytes-to_be_bytes_4}
use Rattle.std.proofs.lemmas.List.{drop_at}
use Rattle.tk_shape.specs.declared.shape.Shape.{Shape}
use Rattle.tk_frames.specs.declared.write_frame.WriteFrame.{WriteFrame}
use Rattle.tk_frames.specs.Spelling.{be32, write_frame}
use Rattle.tk_frames.specs.Ranges.{IsWrite}
use Rattle.tk_frames.specs.Fields.{numbers, write_in}
use Rattle.tk_frames.proofs.Offers.{turn_count_small, length-be32s}

numbers-read : (most : ℕ) (ns rest : List ℕ) → most ≤ 2 ^ 32 → AllByRecursion (λ n. n < most) ns →
    numbers (length ns) (flat_map be32 ns ++ rest) ≡ ns
unfolding numbers
numbers-read most [] rest small fits = refl
numbers-read most (n ∷ ns) rest small fits =
    rw (from_be_bytes-to_be_bytes_4 n (omega (arith, fits.0, small)), numbers-read most ns rest small fits.1) refl

pub write-read : (shape : Shape) (w : WriteFrame) → IsWrite shape w → w ≡ write_in shape (drop 2 (write_frame w))
write-read shape w fits =
    let ranges = shape.in_range in
    let client = sym (from_be_bytes-to_be_bytes_4 w.client (omega (arith, fits.client, ranges.clients_high))) in
    let turn = sym (from_be_bytes-to_be_bytes_4 w.turn (omega (arith, fits.turn, turn_count_small shape))) in
    let first = sym (from_be_bytes-to_be_bytes_4 w.first (omega (arith, fits.first, ranges.buckets_high))) in
    let second = sym (from_be_bytes-to_be_bytes_4 w.second (omega (arith, fits.second, ranges.buckets_high))) in
    let hits : w.hits ≡ numbers shape.hits (flat_map be32 w.hits ++ w.block) =
    sym (ap (λ count. numbers count (flat_map be32 w.hits ++ w.block)) (sym fits.hits_counted)
    ∙ numbers-read shape.filter_bits w.hits w.block (omega (arith, ranges.filter_high)) fits.hits)
    in
    let block : w.block ≡ drop (4 * shape.hits) (flat_map be32 w.hits ++ w.block) =
    sym (drop_at (flat_map be32 w.hits) w.block (4 * shape.hits)
    (omega (arith, length-be32s w.hits, fits.hits_counted)))
    in
    λ i. record { client = client i; turn = turn i; first = first i; second = second i; hits = hits i; block = block i }
