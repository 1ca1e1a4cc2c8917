-- The bytes of the next words of a generator are those of the words by their places.
use Rattle.std.proofs.Common.{◌≡◌, ℕ, zero, suc, ◌+◌, ◌*◌, ◌/◌, ◌%◌, ◌^◌, ◌<◌, ◌≤◌, List, [], ◌++◌, take, ap, ap₂, sym, ◌∙◌, arith, append_assoc, append-nil, add-zero, length, length-append, refl}
use Rattle.std.proofs.lemmas.List.{length-take-le}
use Rattle.std.specs.List.{flat_map, range_with_len}
use Rattle.std.specs.Int.{w32, to_le_bytes, div_ceil}
use Rattle.rand_core.specs.Steps.{word_bytes, fill_via_u32}
use Rattle.rand_chacha.specs.ChaCha.{ChaCha, next_word, key_of}
use Rattle.tk_handle.specs.Handle.{Place, word, key_bytes}

-- one piece more, at the end
flat_map-range_more : (f : ℕ → List ℕ) (a n : ℕ) → flat_map f (range_with_len a (suc n)) ≡ flat_map f (range_with_len a n) ++ f (a + n)
flat_map-range_more f a zero = append-nil (f a) ∙ ap f (sym (add-zero a))
flat_map-range_more f a (suc n) =
    let e : a + 1 + n ≡ a + suc n = omega arith in
    ap (λ (xs : List ℕ). f a ++ xs) (flat_map-range_more f (a + 1) n)
    ∙ sym (append_assoc (f a) (flat_map f (range_with_len (a + 1) n)) (f (a + 1 + n)))
    ∙ ap (λ k. (f a ++ flat_map f (range_with_len (a + 1) n)) ++ f k) e

-- the generator of a key and a stream, whose next word is at this place
abbrev pub generator_at : List ℕ → ℕ → ℕ → ChaCha
generator_at key stream place = record { key = key_of key; stream = stream; word_pos = place }

abbrev pub bytes_at : List ℕ → ℕ → ℕ → List ℕ
bytes_at key stream place = to_le_bytes w32 (word key stream place)

pub word_bytes_are : (key : List ℕ) (stream place k : ℕ) → place + k < 2 ^ 68 →
    word_bytes (to_le_bytes w32) (next_word 10) k (generator_at key stream place)
    ≡ (flat_map (bytes_at key stream) (range_with_len place k), generator_at key stream (place + k))
unfolding word_bytes word
word_bytes_are key stream place zero h = ap (λ p. ([], generator_at key stream p)) (sym (add-zero place))
word_bytes_are key stream place (suc k) h =
    let small : (place + k + 1) % 2 ^ 68 ≡ place + suc k = omega arith in
    ap (λ (b : List ℕ × ChaCha). (b.0 ++ to_le_bytes w32 (next_word 10 b.1).0, (next_word 10 b.1).1)) (word_bytes_are key stream place k (omega arith))
    ∙ ap₂ (λ xs p. (xs, generator_at key stream p)) (sym (flat_map-range_more (bytes_at key stream) place k)) small

pub fill_via_u32-is : (key : List ℕ) (stream place n : ℕ) → place < 2 ^ 33 → n ≤ 65536 →
    (fill_via_u32 (next_word 10) n (generator_at key stream place)).0 ≡ key_bytes key stream place n
unfolding key_bytes
fill_via_u32-is key stream place n low short =
    let count : (n + 3) / 4 ≡ div_ceil n 4 = omega arith in
    let all = word_bytes_are key stream place ((n + 3) / 4) (omega arith) in
    ap (λ (b : List ℕ × ChaCha). take n b.0) all ∙ ap (λ k. take n (flat_map (bytes_at key stream) (range_with_len place k))) count

-- and the generator is after them
fill_via_u32-moves : (key : List ℕ) (stream place n : ℕ) → place < 2 ^ 33 → n ≤ 65536 →
    (fill_via_u32 (next_word 10) n (generator_at key stream place)).1 ≡ generator_at key stream (place + div_ceil n 4)
fill_via_u32-moves key stream place n low short =
    let count : (n + 3) / 4 ≡ div_ceil n 4 = omega arith in
    let all = word_bytes_are key stream place ((n + 3) / 4) (omega arith) in
    ap (λ (b : List ℕ × ChaCha). b.1) all ∙ ap (λ k. generator_at key stream (place + k)) count

abbrev generator : List ℕ → ℕ → ℕ → ChaCha
generator key stream place = record { key = key; stream = stream; word_pos = place }

-- a generator by its parts
pub is_at : (key : List ℕ) (stream : ℕ) (g : ChaCha) → g.key ≡ key_of key → g.stream ≡ stream → g ≡ generator_at key stream g.word_pos
is_at key stream g same_key same_stream =
    ap (λ k. generator k g.stream g.word_pos) same_key ∙ ap (λ s. generator (key_of key) s g.word_pos) same_stream

-- the bytes that it writes, and where it is then
pub filled : (key : List ℕ) (stream n : ℕ) (g now : ChaCha) (out : List ℕ) → g.key ≡ key_of key → g.stream ≡ stream → g.word_pos < 2 ^ 33 →
    n ≤ 65536 → (out, now) ≡ fill_via_u32 (next_word 10) n g →
    (out ≡ key_bytes key stream g.word_pos n) × (now ≡ generator_at key stream (g.word_pos + div_ceil n 4))
filled key stream n g now out same_key same_stream low short e =
    let at = is_at key stream g same_key same_stream in (
      ap (λ (b : List ℕ × ChaCha). b.0) e ∙ ap (λ (h : ChaCha). (fill_via_u32 (next_word 10) n h).0) at
          ∙ fill_via_u32-is key stream g.word_pos n low short,
      ap (λ (b : List ℕ × ChaCha). b.1) e ∙ ap (λ (h : ChaCha). (fill_via_u32 (next_word 10) n h).1) at
          ∙ fill_via_u32-moves key stream g.word_pos n low short,
    )

-- a place by its parts
abbrev pub placed : List ℕ → ℕ → ℕ → Place
placed key stream place = record { key = key; stream = stream; place = place }

length-range_bytes : (key : List ℕ) (stream place k : ℕ) → length (flat_map (bytes_at key stream) (range_with_len place k)) ≡ 4 * k
length-range_bytes key stream place zero = refl
length-range_bytes key stream place (suc k) =
    length-append (bytes_at key stream place) (flat_map (bytes_at key stream) (range_with_len (place + 1) k))
    ∙ ap (λ n. 4 + n) (length-range_bytes key stream (place + 1) k) ∙ omega arith

-- there are as many as are asked for
pub length-key_bytes : (key : List ℕ) (stream place n : ℕ) → length (key_bytes key stream place n) ≡ n
unfolding key_bytes
length-key_bytes key stream place n =
    length-take-le n (flat_map (bytes_at key stream) (range_with_len place (div_ceil n 4)))
    (omega (arith, length-range_bytes key stream place (div_ceil n 4)))
