-- What sound bytes have is spelled as those bytes.
use Rattle.std.proofs.Common.{◌≡◌, ℕ, zero, suc, ◌+◌, ◌*◌, ◌<◌, ◌≤◌, true, List, [], ◌∷◌, ◌++◌, length, drop, refl}
use Rattle.std.proofs.Common.{sym, ap, ap₂, ◌∙◌, arith, append_assoc}
use Rattle.std.specs.Prelude.{◌==◌, ◌&&◌, slice_index}
use Rattle.std.specs.List.{flat_map, concat}
use Rattle.std.proofs.lemmas.Bool.{and_parts, eqb-true}
use Rattle.std.proofs.lemmas.List.{drop-drop, length-drop, take_all}
use Rattle.tk_shape.specs.declared.shape.Shape.{Shape}
use Rattle.tk_shape.specs.Lengths.{width}
use Rattle.tk_kernel.proofs.Offers.{concat-pieces, all_pieces-append}
use Rattle.tk_frames.specs.Spelling.{be32, be64}
use Rattle.tk_frames.specs.Fields.{number_at, long_at, numbers}
use Rattle.tk_frames.proofs.Offers.{IsBytes, IsBytes-drop, number-join, long-join, numbers-join, length-numbers}
use Rattle.tk_bucket.proofs.Offers.{blocks_of-table_in}
use Rattle.tk_bloom.specs.Windows.{pushes_in}
use Rattle.tk_table.specs.Restoring.{table_spelled}
use Rattle.tk_checkpoint.specs.Saved.{spelling, window_bytes, table_bytes, head_len, entry_len, table_len}
use Rattle.tk_checkpoint.specs.Reading.{numbers_in, applied_in, last_in, count_in, window_part, table_part, positions_from}
use Rattle.tk_checkpoint.specs.Reading.{hits_from, positions_in, hits_in, saved_in}
use Rattle.tk_checkpoint.specs.Sound.{is_magic}
use Rattle.tk_checkpoint.proofs.ReadBack.{blocks-joined}
use Rattle.tk_checkpoint.proofs.Heads.{StandsHead}
use Rattle.tk_checkpoint.proofs.Places.{length-positions}
use Rattle.tk_checkpoint.proofs.Sounds.{room_for_window, whole_table}

-- ---- the numbers in front

five : (bytes : List ℕ) → is_magic bytes ≡ true → slice_index bytes 4 ≡ 1 → 5 ≤ length bytes →
    84 ∷ 65 ∷ 76 ∷ 75 ∷ 1 ∷ drop 5 bytes ≡ bytes
five [] magic version long = absurd (omega (arith, long))
five (a ∷ []) magic version long = absurd (omega (arith, long))
five (a ∷ b ∷ []) magic version long = absurd (omega (arith, long))
five (a ∷ b ∷ c ∷ []) magic version long = absurd (omega (arith, long))
five (a ∷ b ∷ c ∷ d ∷ []) magic version long = absurd (omega (arith, long))
five (a ∷ b ∷ c ∷ d ∷ e ∷ rest) magic version long =
    let p = and_parts (a == 84 && b == 65 && c == 76) (d == 75) magic in
    let q = and_parts (a == 84 && b == 65) (c == 76) p.0 in
    let r = and_parts (a == 84) (b == 65) q.0 in
    ap₂ (λ x y. x ∷ y ∷ 76 ∷ 75 ∷ 1 ∷ rest) (sym (eqb-true a 84 r.0)) (sym (eqb-true b 65 r.1))
    ∙ ap₂ (λ x y. a ∷ b ∷ x ∷ y ∷ 1 ∷ rest) (sym (eqb-true c 76 q.1)) (sym (eqb-true d 75 p.1))
    ∙ ap (λ x. a ∷ b ∷ c ∷ d ∷ x ∷ rest) (sym version)

-- one number more in front
one_more : (place next : ℕ) (ns tail bytes : List ℕ) → IsBytes bytes → next ≡ place + 4 → next ≤ length bytes →
    flat_map be32 ns ++ tail ≡ drop next bytes →
    flat_map be32 (number_at place bytes ∷ ns) ++ tail ≡ drop place bytes
one_more place next ns tail bytes fits at low rest =
    append_assoc (be32 (number_at place bytes)) (flat_map be32 ns) tail
    ∙ ap (λ ys. be32 (number_at place bytes) ++ ys) rest
    ∙ number-join place next bytes fits at low

-- so many numbers from a place on
abbrev numbers_by : ℕ → ℕ → List ℕ → List ℕ
numbers_by zero place bytes = []
numbers_by (suc count) place bytes = number_at place bytes ∷ numbers_by count (place + 4) bytes

so_many : (count place : ℕ) (bytes : List ℕ) → IsBytes bytes → place + 4 * count ≤ length bytes →
    flat_map be32 (numbers_by count place bytes) ++ drop (place + 4 * count) bytes ≡ drop place bytes
so_many zero place bytes fits long = let none : place + 4 * 0 ≡ place = omega arith in ap (λ n. drop n bytes) none
so_many (suc count) place bytes fits long =
    let more : place + 4 * suc count ≡ place + 4 + 4 * count = omega arith in
    let others = numbers_by count (place + 4) bytes in
    ap (λ n. flat_map be32 (number_at place bytes ∷ others) ++ drop n bytes) more
    ∙ one_more place (place + 4) others (drop (place + 4 + 4 * count) bytes) bytes fits refl (omega (arith, long, more))
    (so_many count (place + 4) bytes fits (omega (arith, long, more)))

numbers_again : (bytes : List ℕ) → IsBytes bytes → 57 ≤ length bytes →
    flat_map be32 (numbers_in bytes) ++ drop 57 bytes ≡ drop 5 bytes
numbers_again bytes fits long = so_many 13 5 bytes fits long

-- what stands between the numbers of the shape and the window
counts_again : (bytes : List ℕ) → IsBytes bytes → 73 ≤ length bytes →
    be64 (applied_in bytes) ++ (be32 (last_in bytes) ++ (be32 (count_in bytes) ++ drop 73 bytes)) ≡ drop 57 bytes
counts_again bytes fits long =
    ap (λ ys. be64 (applied_in bytes) ++ (be32 (last_in bytes) ++ ys)) (number-join 69 73 bytes fits refl long)
    ∙ ap (λ ys. be64 (applied_in bytes) ++ ys) (number-join 65 69 bytes fits refl (omega (arith, long)))
    ∙ long-join 57 65 bytes fits refl (omega (arith, long))

-- all of it
front_again : (bytes : List ℕ) → IsBytes bytes → 73 ≤ length bytes → is_magic bytes ≡ true → slice_index bytes 4 ≡ 1 →
    (84 ∷ 65 ∷ 76 ∷ 75 ∷ 1 ∷ (((flat_map be32 (numbers_in bytes) ++ be64 (applied_in bytes)) ++ be32 (last_in bytes)) ++ be32 (count_in bytes)))
    ++ drop 73 bytes ≡ bytes
front_again bytes fits long magic version =
    let N = flat_map be32 (numbers_in bytes) in
    let A = be64 (applied_in bytes) in
    let L = be32 (last_in bytes) in
    let C = be32 (count_in bytes) in
    let T = drop 73 bytes in
    let apart : ((((N ++ A) ++ L) ++ C) ++ T) ≡ N ++ (A ++ (L ++ (C ++ T))) =
    append_assoc ((N ++ A) ++ L) C T ∙ append_assoc (N ++ A) L (C ++ T) ∙ append_assoc N A (L ++ (C ++ T)) in
    ap (λ ys. 84 ∷ 65 ∷ 76 ∷ 75 ∷ 1 ∷ ys)
    (apart ∙ ap (λ ys. N ++ ys) (counts_again bytes fits long) ∙ numbers_again bytes fits (omega (arith, long)))
    ∙ five bytes magic version (omega (arith, long))

-- ---- the window

write_again : (hits : ℕ) (bytes : List ℕ) → IsBytes bytes → 8 + 4 * hits ≤ length bytes →
    (be64 (long_at 0 bytes) ++ flat_map be32 (numbers hits (drop 8 bytes))) ++ drop (8 + 4 * hits) bytes ≡ bytes
write_again hits bytes fits long =
    let rest = drop 8 bytes in
    let room : 4 * hits ≤ length rest = omega (arith, long, length-drop 8 bytes) in
    append_assoc (be64 (long_at 0 bytes)) (flat_map be32 (numbers hits rest)) (drop (8 + 4 * hits) bytes)
    ∙ ap (λ ys. be64 (long_at 0 bytes) ++ (flat_map be32 (numbers hits rest) ++ ys)) (sym (drop-drop (4 * hits) 8 bytes))
    ∙ ap (λ ys. be64 (long_at 0 bytes) ++ ys) (numbers-join hits rest (IsBytes-drop 8 bytes fits) room)
    ∙ long-join 0 8 bytes fits refl (omega (arith, long))

window_again : (hits count : ℕ) (bytes : List ℕ) → 0 < hits → IsBytes bytes → count * (8 + 4 * hits) ≤ length bytes →
    window_bytes (positions_from hits count bytes) (pushes_in hits (hits_from hits count bytes))
    ++ drop (count * (8 + 4 * hits)) bytes ≡ bytes
unfolding positions_from hits_from
window_again hits zero bytes some fits long =
    let none : 0 * (8 + 4 * hits) ≡ 0 = omega arith in ap (λ n. drop n bytes) none
window_again hits (suc count) bytes some fits long =
    let len = 8 + 4 * hits in
    let rest = drop len bytes in
    let here = numbers hits (drop 8 bytes) in
    let front = be64 (long_at 0 bytes) ++ flat_map be32 here in
    let others = window_bytes (positions_from hits count rest) (pushes_in hits (hits_from hits count rest)) in
    let all : suc count * len ≡ len + count * len = omega arith in
    let room : len ≤ length bytes = omega (arith, long, all) in
    let left : count * len ≤ length rest = omega (arith, long, all, length-drop len bytes) in
    let split = all_pieces-append hits here (hits_from hits count rest) some (length-numbers hits (drop 8 bytes)) in
    ap (λ pushes. window_bytes (long_at 0 bytes ∷ positions_from hits count rest) pushes ++ drop (suc count * len) bytes) split
    ∙ append_assoc front others (drop (suc count * len) bytes)
    ∙ ap (λ n. front ++ (others ++ drop n bytes)) all
    ∙ ap (λ ys. front ++ (others ++ ys)) (sym (drop-drop (count * len) len bytes))
    ∙ ap (λ ys. front ++ ys) (window_again hits count rest some (IsBytes-drop len bytes fits) left)
    ∙ write_again hits bytes fits room

-- ---- the table

table_again : (shape : Shape) (bytes : List ℕ) → IsBytes bytes → length bytes ≡ table_len shape →
    table_bytes (table_spelled shape bytes) ≡ bytes
table_again shape bytes fits long =
    let wide = width shape in
    sym (blocks-joined (table_spelled shape bytes))
    ∙ ap concat (blocks_of-table_in shape.buckets shape.depth shape.block bytes fits (omega (arith, long)))
    ∙ concat-pieces wide shape.buckets bytes (omega (arith, long))
    ∙ take_all (shape.buckets * wide) bytes (omega (arith, long))

-- ---- all of it

pub spelled_again : (shape : Shape) (bytes : List ℕ) → IsBytes bytes → StandsHead shape bytes →
    spelling shape (saved_in shape bytes) ≡ bytes
unfolding spelling saved_in
spelled_again shape bytes fits head =
    let low = shape.in_range.hits_low in
    let long : 73 ≤ length bytes = omega (arith, head.long) in
    let window = window_part bytes in
    let table = table_part shape bytes in
    let here = window_bytes (positions_in shape bytes) (pushes_in shape.hits (hits_in shape bytes)) in
    let count = length-positions shape.hits (count_in bytes) window in
    let in_window = IsBytes-drop head_len bytes fits in
    let in_table = IsBytes-drop (count_in bytes * entry_len shape) window in_window in
    let front : List ℕ → ℕ → List ℕ = λ ns n.
    84 ∷ 65 ∷ 76 ∷ 75 ∷ 1 ∷ (((flat_map be32 ns ++ be64 (applied_in bytes)) ++ be32 (last_in bytes)) ++ be32 n) in
    ap₂ (λ ns n. front ns n ++ (here ++ table_bytes (table_spelled shape table))) (sym head.numbers) count
    ∙ ap (λ ys. front (numbers_in bytes) (count_in bytes) ++ (here ++ ys))
    (table_again shape table in_table (whole_table shape bytes head))
    ∙ ap (λ ys. front (numbers_in bytes) (count_in bytes) ++ ys)
    (window_again shape.hits (count_in bytes) window (omega (arith, low)) in_window (room_for_window shape bytes head))
    ∙ front_again bytes fits long head.magic head.version
