-- Blocks chosen by bytes of a vector, by the sums of all choices of four.
use Rattle.std.proofs.Common.{◌≡◌, ℕ, zero, suc, ◌+◌, ◌*◌, ◌/◌, ◌%◌, ◌<◌, ◌≤◌, ◌==◌, true, false, cond, List, [], ◌∷◌, ◌++◌, length, take, drop, set, slice_index, ◌^◌, slice_index_or, replicate, refl, ap, ap₂, sym, ◌∙◌, arith, append_assoc}
use Rattle.std.specs.Simd.Lanes.{chunk}
use Rattle.std.proofs.Math.Nat.{mul-le-mul_right}
use Rattle.std.proofs.lemmas.List.{take_more_set, take-take, take_all, length-drop, drop-drop}
use Rattle.std.proofs.lemmas.Simd.{length-chunk}
use Rattle.std.specs.List.{AllByRecursion}
use Rattle.tk_kernel.specs.Xor.{xor_bytes, xor_all}
use Rattle.tk_kernel.specs.Chosen.{has_bit, chosen_from}
use Rattle.tk_kernel.specs.Pieces.{pieces, AllSized}
use Rattle.tk_kernel.proofs.Sums.{xor_bytes_assoc, xor_bytes-zeros, length-xor_bytes, length-xor_all, xor_all-append}
use Rattle.tk_kernel.proofs.Cuts.{AllSized-pieces}
use Rattle.tk_kernel.proofs.Chosen.{AllSized-chosen_from, chosen_from-append}
use Rattle.tk_kernel.proofs.Fronts.{chunk-zeros, chunk-xor_bytes, chunk-block}
use Rattle.tk_kernel.proofs.Passes.{pieces-add}
use Rattle.tk_kernel.specs.Nibbles.{table, table_at, tables_of, taken}
use Rattle.tk_kernel.specs.Words.{bytes_of}

-- a sum, and added to it for each byte an entry of each of two tables
abbrev added : List (List (List ℕ)) → List ℕ → List ℕ → List ℕ
added tables sum [] = sum
added [] sum (x ∷ xs) = sum
added (t ∷ []) sum (x ∷ xs) = sum
added (t ∷ u ∷ ts) sum (x ∷ xs) =
    let entries = xor_bytes (slice_index_or t (x % 16) []) (slice_index_or u (x / 16) []) in
    added ts (xor_bytes sum entries) xs

-- what the bytes of a word take is what the word takes
taken-added : (count word : ℕ) (tables : List (List (List ℕ))) (sum : List ℕ) → length tables ≡ 2 * count →
    taken tables sum word ≡ added tables sum (bytes_of count word)
taken-added zero word [] sum e = refl
taken-added zero word (t ∷ ts) sum e = absurd (omega arith)
taken-added (suc count) word [] sum e = absurd (omega arith)
taken-added (suc count) word (t ∷ []) sum e = absurd (omega arith)
taken-added (suc count) word (t ∷ u ∷ ts) sum e =
    let low : word % 16 ≡ word % 256 % 16 = omega arith in
    let high : word / 16 % 16 ≡ word % 256 / 16 = omega arith in
    let next : word / 16 / 16 ≡ word / 256 = omega arith in
    let a = slice_index_or t (word % 256 % 16) [] in
    let b = slice_index_or u (word % 256 / 16) [] in
    ap (λ m. taken ts (xor_bytes (xor_bytes sum (slice_index_or t m [])) (slice_index_or u (word / 16 % 16) [])) (word / 16 / 16)) low
    ∙ ap₂ (λ m rest. taken ts (xor_bytes (xor_bytes sum a) (slice_index_or u m [])) rest) high next
    ∙ ap (λ xs. taken ts xs (word / 256)) (xor_bytes_assoc sum a b)
    ∙ taken-added count (word / 256) ts (xor_bytes sum (xor_bytes a b)) (omega arith)

length-bytes_of : (count word : ℕ) → length (bytes_of count word) ≡ count
length-bytes_of zero word = refl
length-bytes_of (suc count) word = ap suc (length-bytes_of count (word / 256))

length-tables_of : (n size i : ℕ) (blocks : List ℕ) (h count : ℕ) → length (tables_of n size i blocks h count) ≡ count
length-tables_of n size i blocks h zero = refl
length-tables_of n size i blocks h (suc count) = ap suc (length-tables_of n size i blocks (h + 1) count)

take-bytes_of : (n m word : ℕ) → n ≤ m → take n (bytes_of m word) ≡ bytes_of n word
take-bytes_of zero m word h = refl
take-bytes_of (suc n) zero word h = absurd (omega arith)
take-bytes_of (suc n) (suc m) word h = ap (λ bs. word % 256 ∷ bs) (take-bytes_of n m (word / 256) (omega arith))

-- the first bytes of a word whose bytes begin with those of a list
pub first_bytes_of : (word i : ℕ) (eight bytes : List ℕ) → length bytes ≤ 8 → length bytes ≤ i →
    bytes_of 8 word ≡ eight → take i eight ≡ take i bytes → bytes_of (length bytes) word ≡ bytes
first_bytes_of word i eight bytes few upto all begun =
    let n = length bytes in
    sym (take-bytes_of n 8 word few)
    ∙ ap (take n) all
    ∙ sym (take-take n i eight upto)
    ∙ ap (take n) begun
    ∙ take-take n i bytes upto
    ∙ take_all n bytes (omega arith)

byte_set : (to bytes : List ℕ) (i : ℕ) → i < length to → i < length bytes → take i to ≡ take i bytes →
    take (suc i) (set to i (slice_index bytes i)) ≡ take (suc i) bytes
byte_set [] bytes i h k e = absurd (omega arith)
byte_set (x ∷ xs) [] i h k e = absurd (omega arith)
byte_set (x ∷ xs) (y ∷ ys) zero h k e = refl
byte_set (x ∷ xs) (y ∷ ys) (suc i) h k e =
    ap₂ (λ z zs. z ∷ zs) (ap (λ zs. slice_index zs 0) e) (byte_set xs ys i (omega arith) (omega arith) (ap (drop 1) e))

-- one byte more of a list copied
pub byte_copied : (to bytes : List ℕ) (i : ℕ) → i < length to → i < length bytes → take i to ≡ take i bytes →
    take (i + 1) (set to i (slice_index bytes i)) ≡ take (i + 1) bytes
byte_copied to bytes i h k e =
    let next : i + 1 ≡ suc i = omega arith in
    ap (λ n. take n (set to i (slice_index bytes i))) next
    ∙ byte_set to bytes i h k e
    ∙ ap (λ n. take n bytes) (sym next)

bytes-small : (count word : ℕ) → AllByRecursion (λ x. x < 256) (bytes_of count word)
bytes-small zero word = tt
bytes-small (suc count) word = (omega arith, bytes-small count (word / 256))

-- one table more
pub taken-next : (tables : List (List (List ℕ))) (h : ℕ) (sum new : List ℕ) (word left : ℕ) → h < length tables →
    new ≡ xor_bytes sum (slice_index_or (slice_index_or tables h []) (word % 16) []) → left ≡ word / 16 →
    taken (drop h tables) sum word ≡ taken (drop (suc h) tables) new left
taken-next [] h sum new word left less entry next = absurd (omega arith)
taken-next (t ∷ ts) zero sum new word left less entry next =
    ap₂ (λ xs m. taken ts xs m) (sym entry) (sym next)
taken-next (t ∷ ts) (suc h) sum new word left less entry next =
    taken-next ts h sum new word left (omega arith) entry next

pub taken-all : (tables : List (List (List ℕ))) (sum : List ℕ) (word : ℕ) → taken (drop (length tables) tables) sum word ≡ sum
taken-all [] sum word = refl
taken-all (t ∷ ts) sum word = taken-all ts sum word

pub table_made : (n size i h count : ℕ) (blocks : List ℕ) (tables : List (List (List ℕ))) (t : List (List ℕ)) → h < length tables → t ≡ table_at n size i blocks (4 * h) →
    take (h + 1) (set tables h t) ++ tables_of n size i blocks (h + 1) count ≡ take h tables ++ tables_of n size i blocks h (suc count)
table_made n size i h count blocks tables t room e =
    let others = tables_of n size i blocks (h + 1) count in
    ap (λ ts. ts ++ others) (take_more_set tables h t room)
    ∙ append_assoc (take h tables) (t ∷ []) others
    ∙ ap (λ u. take h tables ++ (u ∷ others)) e

-- the same choice by other bits
pub chosen_from-same : (i j : ℕ) (bs : List (List ℕ)) (v w : List ℕ) → ((k : ℕ) → k < length bs → has_bit v (i + k) ≡ has_bit w (j + k)) → chosen_from i bs v ≡ chosen_from j bs w
chosen_from-same i j [] v w same = refl
chosen_from-same i j (b ∷ bs) v w same =
    let here : has_bit v i ≡ has_bit w j = ap (has_bit v) (omega arith) ∙ same 0 (omega arith) ∙ ap (has_bit w) (omega arith) in
    let others : chosen_from (i + 1) bs v ≡ chosen_from (j + 1) bs w =
    chosen_from-same (i + 1) (j + 1) bs v w (λ k h. ap (has_bit v) (omega arith) ∙ same (suc k) (omega arith) ∙ ap (has_bit w) (omega arith)) in
    ap₂ (λ t rest. cond t (b ∷ rest) rest) here others

low_bits : (x : ℕ) (xs : List ℕ) (k : ℕ) → k < 4 → has_bit (x ∷ xs) (0 + k) ≡ has_bit (x % 16 ∷ []) (0 + k)
low_bits x xs zero h = ap (λ m. m == 1) (omega arith)
low_bits x xs (suc zero) h = ap (λ m. m == 1) (omega arith)
low_bits x xs (suc (suc zero)) h = ap (λ m. m == 1) (omega arith)
low_bits x xs (suc (suc (suc zero))) h = ap (λ m. m == 1) (omega arith)
low_bits x xs (suc (suc (suc (suc k)))) h = absurd (omega arith)

high_bits : (x : ℕ) (xs : List ℕ) (k : ℕ) → k < 4 → has_bit (x ∷ xs) (4 + k) ≡ has_bit (x / 16 ∷ []) (0 + k)
high_bits x xs zero h = ap (λ m. m == 1) (omega arith)
high_bits x xs (suc zero) h = ap (λ m. m == 1) (omega arith)
high_bits x xs (suc (suc zero)) h = ap (λ m. m == 1) (omega arith)
high_bits x xs (suc (suc (suc zero))) h = ap (λ m. m == 1) (omega arith)
high_bits x xs (suc (suc (suc (suc k)))) h = absurd (omega arith)

next_bits : (x : ℕ) (xs : List ℕ) (k : ℕ) → has_bit (x ∷ xs) (8 + k) ≡ has_bit xs (0 + k)
next_bits x xs k =
    let byte : (8 + k) / 8 ≡ suc ((0 + k) / 8) = omega arith in
    let bit : (8 + k) % 8 ≡ (0 + k) % 8 = omega arith in
    ap₂ (λ q r. slice_index (x ∷ xs) q / 2 ^ r % 2 == 1) byte bit

-- an entry of a table
entry_is : (n : ℕ) (a b c d : List ℕ) (v : ℕ) → v < 16 → slice_index_or (table n a b c d) v [] ≡ xor_all n (chosen_from 0 (a ∷ b ∷ c ∷ d ∷ []) (v ∷ []))
entry_is n a b c d zero h = refl
entry_is n a b c d (suc zero) h = refl
entry_is n a b c d (suc (suc zero)) h = refl
entry_is n a b c d (suc (suc (suc zero))) h = refl
entry_is n a b c d (suc (suc (suc (suc zero)))) h = refl
entry_is n a b c d (suc (suc (suc (suc (suc zero))))) h = refl
entry_is n a b c d (suc (suc (suc (suc (suc (suc zero)))))) h = refl
entry_is n a b c d (suc (suc (suc (suc (suc (suc (suc zero))))))) h = refl
entry_is n a b c d (suc (suc (suc (suc (suc (suc (suc (suc zero)))))))) h = refl
entry_is n a b c d (suc (suc (suc (suc (suc (suc (suc (suc (suc zero))))))))) h = refl
entry_is n a b c d (suc (suc (suc (suc (suc (suc (suc (suc (suc (suc zero)))))))))) h = refl
entry_is n a b c d (suc (suc (suc (suc (suc (suc (suc (suc (suc (suc (suc zero))))))))))) h = refl
entry_is n a b c d (suc (suc (suc (suc (suc (suc (suc (suc (suc (suc (suc (suc zero)))))))))))) h = refl
entry_is n a b c d (suc (suc (suc (suc (suc (suc (suc (suc (suc (suc (suc (suc (suc zero))))))))))))) h = refl
entry_is n a b c d (suc (suc (suc (suc (suc (suc (suc (suc (suc (suc (suc (suc (suc (suc zero)))))))))))))) h = refl
entry_is n a b c d (suc (suc (suc (suc (suc (suc (suc (suc (suc (suc (suc (suc (suc (suc (suc zero))))))))))))))) h = refl
entry_is n a b c d (suc (suc (suc (suc (suc (suc (suc (suc (suc (suc (suc (suc (suc (suc (suc (suc v)))))))))))))))) h = absurd (omega arith)

-- the same bytes of each block
abbrev chunks : ℕ → ℕ → List (List ℕ) → List (List ℕ)
chunks i n [] = []
chunks i n (b ∷ bs) = chunk i n b ∷ chunks i n bs

chunk_all : (n size i f : ℕ) (bs : List (List ℕ)) (v : List ℕ) → i + n ≤ size → chunk i n (xor_all size (chosen_from f bs v)) ≡ xor_all n (chosen_from f (chunks i n bs) v)
chunk_all n size i f [] v h = chunk-zeros i n size h
chunk_all n size i f (b ∷ bs) v h =
    let rest = chosen_from (f + 1) bs v in
    let lanes = chosen_from (f + 1) (chunks i n bs) v in
    let others : chunk i n (xor_all size rest) ≡ xor_all n lanes = chunk_all n size i (f + 1) bs v h in
    elim (has_bit v f) as (λ t. chunk i n (xor_all size (cond t (b ∷ rest) rest)) ≡ xor_all n (cond t (chunk i n b ∷ lanes) lanes))
    [ true ↦ chunk-xor_bytes i n b (xor_all size rest) ∙ ap (xor_bytes (chunk i n b)) others | false ↦ others ]

-- the blocks from number p + j on
abbrev rows : ℕ → List ℕ → ℕ → ℕ → ℕ → List (List ℕ)
rows size blocks p j zero = []
rows size blocks p j (suc count) = take size (drop ((p + j) * size) blocks) ∷ rows size blocks p (j + 1) count

rows_are : (size : ℕ) (blocks : List ℕ) (p j count : ℕ) → pieces size count (drop ((p + j) * size) blocks) ≡ rows size blocks p j count
rows_are size blocks p j zero = refl
rows_are size blocks p j (suc count) =
    let next : (p + j) * size + size ≡ (p + (j + 1)) * size = omega arith in
    ap (λ bs. take size (drop ((p + j) * size) blocks) ∷ pieces size count bs) (drop-drop size ((p + j) * size) blocks ∙ ap (λ m. drop m blocks) next)
    ∙ ap (λ bs. take size (drop ((p + j) * size) blocks) ∷ bs) (rows_are size blocks p (j + 1) count)

lane_is : (n size i : ℕ) (blocks : List ℕ) (q p j : ℕ) → i + n ≤ size → q ≡ p + j → chunk (q * size + i) n blocks ≡ chunk i n (take size (drop ((p + j) * size) blocks))
lane_is n size i blocks q p j h e = ap (λ m. chunk (m * size + i) n blocks) e ∙ sym (chunk-block (p + j) size i n blocks h)

-- what one byte chooses
lanes_of_byte : (n : ℕ) (a b c d e f g k : List ℕ) (x : ℕ) (xs : List ℕ) → x < 256 → AllSized n (e ∷ f ∷ g ∷ k ∷ []) →
    xor_bytes (slice_index_or (table n a b c d) (x % 16) []) (slice_index_or (table n e f g k) (x / 16) [])
    ≡ xor_all n (chosen_from 0 (a ∷ b ∷ c ∷ d ∷ e ∷ f ∷ g ∷ k ∷ []) (x ∷ xs))
lanes_of_byte n a b c d e f g k x xs h sized =
    let v = x ∷ xs in
    let lower = a ∷ b ∷ c ∷ d ∷ [] in
    let upper = e ∷ f ∷ g ∷ k ∷ [] in
    ap₂ xor_bytes
    (entry_is n a b c d (x % 16) (omega arith) ∙ ap (xor_all n) (sym (chosen_from-same 0 0 lower v (x % 16 ∷ []) (low_bits x xs))))
    (entry_is n e f g k (x / 16) (omega arith) ∙ ap (xor_all n) (sym (chosen_from-same 4 0 upper v (x / 16 ∷ []) (high_bits x xs))))
    ∙ sym (xor_all-append n (chosen_from 0 lower v) (chosen_from 4 upper v) (AllSized-chosen_from n 4 upper v sized))
    ∙ ap (xor_all n) (sym (chosen_from-append 0 lower upper v))

lists : {a b c d e f g k a' b' c' d' e' f' g' k' : List ℕ} → a ≡ a' → b ≡ b' → c ≡ c' → d ≡ d' → e ≡ e' → f ≡ f' → g ≡ g' → k ≡ k' →
    (a ∷ b ∷ c ∷ d ∷ e ∷ f ∷ g ∷ k ∷ []) ≡ (a' ∷ b' ∷ c' ∷ d' ∷ e' ∷ f' ∷ g' ∷ k' ∷ [])
lists ea eb ec ed ee ef eg ek =
    ap₂ (λ x xs. x ∷ xs) ea (ap₂ (λ x xs. x ∷ xs) eb (ap₂ (λ x xs. x ∷ xs) ec (ap₂ (λ x xs. x ∷ xs) ed
    (ap₂ (λ x xs. x ∷ xs) ee (ap₂ (λ x xs. x ∷ xs) ef (ap₂ (λ x xs. x ∷ xs) eg (ap (λ x. x ∷ []) ek)))))))

room : (m most size i n len : ℕ) → m < most → i + n ≤ size → most * size ≤ len → m * size + i + n ≤ len
room m most size i n len less within fits =
    let more : (m + 1) * size ≤ most * size = mul-le-mul_right size (omega arith) in
    omega arith

byte_is : (n size i h x : ℕ) (xs blocks : List ℕ) → i + n ≤ size → (4 * h + 8) * size ≤ length blocks → x < 256 →
    xor_bytes (slice_index_or (table_at n size i blocks (4 * h)) (x % 16) []) (slice_index_or (table_at n size i blocks (4 * (h + 1))) (x / 16) [])
    ≡ chunk i n (xor_all size (chosen_from 0 (pieces size 8 (drop (4 * h * size) blocks)) (x ∷ xs)))
byte_is n size i h x xs blocks within fits small =
    let p = 4 * h in
    let q = 4 * (h + 1) in
    let first : p + 0 ≡ p = omega arith in
    let l0 = lane_is n size i blocks p p 0 within (omega arith) in
    let l1 = lane_is n size i blocks (p + 1) p 1 within (omega arith) in
    let l2 = lane_is n size i blocks (p + 2) p 2 within (omega arith) in
    let l3 = lane_is n size i blocks (p + 3) p 3 within (omega arith) in
    let l4 = lane_is n size i blocks q p 4 within (omega arith) in
    let l5 = lane_is n size i blocks (q + 1) p 5 within (omega arith) in
    let l6 = lane_is n size i blocks (q + 2) p 6 within (omega arith) in
    let l7 = lane_is n size i blocks (q + 3) p 7 within (omega arith) in
    let long : (m : ℕ) → m ≤ q + 3 → length (chunk (m * size + i) n blocks) ≡ n = λ m k. length-chunk (m * size + i) n blocks (room m (4 * h + 8) size i n (length blocks) (omega arith) within fits) in
    lanes_of_byte n _ _ _ _ _ _ _ _ x xs small (long q (omega arith), (long (q + 1) (omega arith), (long (q + 2) (omega arith), (long (q + 3) (omega arith), tt))))
    ∙ ap (λ bs. xor_all n (chosen_from 0 bs (x ∷ xs))) (lists l0 l1 l2 l3 l4 l5 l6 l7)
    ∙ sym (chunk_all n size i 0 (rows size blocks p 0 8) (x ∷ xs) within)
    ∙ ap (λ bs. chunk i n (xor_all size (chosen_from 0 bs (x ∷ xs)))) (sym (rows_are size blocks p 0 8) ∙ ap (λ m. pieces size 8 (drop (m * size) blocks)) first)

shorter : (a b size len : ℕ) → a ≤ b → b * size ≤ len → a * size ≤ len
shorter a b size len less fits =
    let more : a * size ≤ b * size = mul-le-mul_right size less in
    omega arith

behind : (p count size : ℕ) (blocks : List ℕ) → (p + count) * size ≤ length blocks → count * size ≤ length (drop (p * size) blocks)
behind p count size blocks fits = omega (arith, length-drop (p * size) blocks)

longer : (i n size len : ℕ) → i + n ≤ size → len ≡ size → i + n ≤ len
longer i n size len h e = omega arith

-- what the bytes choose, two tables for each of them
added_is : (n size i : ℕ) (blocks : List ℕ) → i + n ≤ size → (bits : List ℕ) (h : ℕ) (sum : List ℕ) → length sum ≡ n → AllByRecursion (λ x. x < 256) bits →
    (4 * h + 8 * length bits) * size ≤ length blocks →
    added (tables_of n size i blocks h (2 * length bits)) sum bits
    ≡ xor_bytes sum (chunk i n (xor_all size (chosen_from 0 (pieces size (8 * length bits) (drop (4 * h * size) blocks)) bits)))
added_is n size i blocks within [] h sum e small fits =
    sym (ap (xor_bytes sum) (chunk-zeros i n size within) ∙ ap (λ m. xor_bytes sum (replicate m 0)) (sym e) ∙ xor_bytes-zeros sum)
added_is n size i blocks within (x ∷ xs) h sum e small fits =
    let v = x ∷ xs in
    let m = length xs in
    let twice : 2 * suc m ≡ suc (suc (2 * m)) = omega arith in
    let eight : 8 + 8 * m ≡ 8 * suc m = omega arith in
    let next : 4 * h * size + 8 * size ≡ 4 * (h + 1 + 1) * size = omega arith in
    let bytes = drop (4 * h * size) blocks in
    let rest = pieces size (8 * m) (drop (4 * (h + 1 + 1) * size) blocks) in
    let here = chosen_from 0 (pieces size 8 bytes) v in
    let later = chosen_from 0 rest xs in
    let entries = xor_bytes (slice_index_or (table_at n size i blocks (4 * h)) (x % 16) []) (slice_index_or (table_at n size i blocks (4 * (h + 1))) (x / 16) []) in
    let one : (4 * h + 8) * size ≤ length blocks = shorter (4 * h + 8) (4 * h + 8 * suc m) size (length blocks) (omega arith) fits in
    let others : (4 * (h + 1 + 1) + 8 * m) * size ≤ length blocks = shorter (4 * (h + 1 + 1) + 8 * m) (4 * h + 8 * suc m) size (length blocks) (omega arith) fits in
    let byte : entries ≡ chunk i n (xor_all size here) = byte_is n size i h x xs blocks within one small.0 in
    let begun : 8 * size ≤ length bytes = behind (4 * h) 8 size blocks one in
    let left : 8 * m * size ≤ length (drop (4 * (h + 1 + 1) * size) blocks) = behind (4 * (h + 1 + 1)) (8 * m) size blocks others in
    let here_sized : AllSized size here = AllSized-chosen_from size 0 (pieces size 8 bytes) v (AllSized-pieces size 8 bytes begun) in
    let later_sized : AllSized size later = AllSized-chosen_from size 0 rest xs (AllSized-pieces size (8 * m) (drop (4 * (h + 1 + 1) * size) blocks) left) in
    let entries_long : length entries ≡ n =
    ap length byte ∙ length-chunk i n (xor_all size here) (longer i n size (length (xor_all size here)) within (length-xor_all size here here_sized)) in
    let sum_long : length (xor_bytes sum entries) ≡ n = length-xor_bytes sum entries (e ∙ sym entries_long) ∙ e in
    let bits_next : chosen_from 8 rest v ≡ later = chosen_from-same 8 0 rest v xs (λ k _. next_bits x xs k) in
    let joined : here ++ later ≡ chosen_from 0 (pieces size (8 * suc m) bytes) v =
    ap (λ cs. here ++ cs) (sym bits_next)
    ∙ sym (chosen_from-append 0 (pieces size 8 bytes) rest v)
    ∙ ap (λ bs. chosen_from 0 (pieces size 8 bytes ++ pieces size (8 * m) bs) v) (ap (λ k. drop k blocks) (sym next) ∙ sym (drop-drop (8 * size) (4 * h * size) blocks))
    ∙ ap (λ ps. chosen_from 0 ps v) (sym (pieces-add size 8 (8 * m) bytes))
    ∙ ap (λ k. chosen_from 0 (pieces size k bytes) v) eight in
    ap (λ k. added (tables_of n size i blocks h k) sum v) twice
    ∙ added_is n size i blocks within xs (h + 1 + 1) (xor_bytes sum entries) sum_long small.1 others
    ∙ ap (λ lanes. xor_bytes (xor_bytes sum lanes) (chunk i n (xor_all size later))) byte
    ∙ xor_bytes_assoc sum (chunk i n (xor_all size here)) (chunk i n (xor_all size later))
    ∙ ap (xor_bytes sum) (sym (chunk-xor_bytes i n (xor_all size here) (xor_all size later)))
    ∙ ap (λ ys. xor_bytes sum (chunk i n ys)) (sym (xor_all-append size here later later_sized))
    ∙ ap (λ cs. xor_bytes sum (chunk i n (xor_all size cs))) joined

-- what so many bytes of a word choose, by two tables for each
pub taken_is : (n size i count : ℕ) (blocks sum : List ℕ) (word : ℕ) → i + n ≤ size → length sum ≡ n → 8 * count * size ≤ length blocks →
    taken (tables_of n size i blocks 0 (2 * count)) sum word
    ≡ xor_bytes sum (chunk i n (xor_all size (chosen_from 0 (pieces size (8 * count) blocks) (bytes_of count word))))
taken_is n size i count blocks sum word within e fits =
    let bits = bytes_of count word in
    let long : length bits ≡ count = length-bytes_of count word in
    let none : 4 * 0 * size ≡ 0 = omega arith in
    let all : (4 * 0 + 8 * length bits) * size ≡ 8 * count * size = ap (λ m. m * size) (omega (arith, long)) in
    taken-added count word (tables_of n size i blocks 0 (2 * count)) sum (length-tables_of n size i blocks 0 (2 * count))
    ∙ ap (λ m. added (tables_of n size i blocks 0 (2 * m)) sum bits) (sym long)
    ∙ added_is n size i blocks within bits 0 sum e (bytes-small count word) (omega (arith, all, fits))
    ∙ ap₂ (λ m k. xor_bytes sum (chunk i n (xor_all size (chosen_from 0 (pieces size (8 * k) (drop m blocks)) bits)))) none long

-- each of sixteen places set
pub sixteen_set : (xs : List (List ℕ)) → length xs ≡ 16 → (a0 a1 a2 a3 a4 a5 a6 a7 a8 a9 a10 a11 a12 a13 a14 a15 : List ℕ) →
    set (set (set (set (set (set (set (set (set (set (set (set (set (set (set (set xs 0 a0) 1 a1) 2 a2) 3 a3) 4 a4) 5 a5) 6 a6) 7 a7) 8 a8) 9 a9) 10 a10) 11 a11) 12 a12) 13 a13) 14 a14) 15 a15 ≡ a0 ∷ a1 ∷ a2 ∷ a3 ∷ a4 ∷ a5 ∷ a6 ∷ a7 ∷ a8 ∷ a9 ∷ a10 ∷ a11 ∷ a12 ∷ a13 ∷ a14 ∷ a15 ∷ []
sixteen_set [] e a0 a1 a2 a3 a4 a5 a6 a7 a8 a9 a10 a11 a12 a13 a14 a15 = absurd (omega arith)
sixteen_set (x0 ∷ []) e a0 a1 a2 a3 a4 a5 a6 a7 a8 a9 a10 a11 a12 a13 a14 a15 = absurd (omega arith)
sixteen_set (x0 ∷ x1 ∷ []) e a0 a1 a2 a3 a4 a5 a6 a7 a8 a9 a10 a11 a12 a13 a14 a15 = absurd (omega arith)
sixteen_set (x0 ∷ x1 ∷ x2 ∷ []) e a0 a1 a2 a3 a4 a5 a6 a7 a8 a9 a10 a11 a12 a13 a14 a15 = absurd (omega arith)
sixteen_set (x0 ∷ x1 ∷ x2 ∷ x3 ∷ []) e a0 a1 a2 a3 a4 a5 a6 a7 a8 a9 a10 a11 a12 a13 a14 a15 = absurd (omega arith)
sixteen_set (x0 ∷ x1 ∷ x2 ∷ x3 ∷ x4 ∷ []) e a0 a1 a2 a3 a4 a5 a6 a7 a8 a9 a10 a11 a12 a13 a14 a15 = absurd (omega arith)
sixteen_set (x0 ∷ x1 ∷ x2 ∷ x3 ∷ x4 ∷ x5 ∷ []) e a0 a1 a2 a3 a4 a5 a6 a7 a8 a9 a10 a11 a12 a13 a14 a15 = absurd (omega arith)
sixteen_set (x0 ∷ x1 ∷ x2 ∷ x3 ∷ x4 ∷ x5 ∷ x6 ∷ []) e a0 a1 a2 a3 a4 a5 a6 a7 a8 a9 a10 a11 a12 a13 a14 a15 = absurd (omega arith)
sixteen_set (x0 ∷ x1 ∷ x2 ∷ x3 ∷ x4 ∷ x5 ∷ x6 ∷ x7 ∷ []) e a0 a1 a2 a3 a4 a5 a6 a7 a8 a9 a10 a11 a12 a13 a14 a15 = absurd (omega arith)
sixteen_set (x0 ∷ x1 ∷ x2 ∷ x3 ∷ x4 ∷ x5 ∷ x6 ∷ x7 ∷ x8 ∷ []) e a0 a1 a2 a3 a4 a5 a6 a7 a8 a9 a10 a11 a12 a13 a14 a15 = absurd (omega arith)
sixteen_set (x0 ∷ x1 ∷ x2 ∷ x3 ∷ x4 ∷ x5 ∷ x6 ∷ x7 ∷ x8 ∷ x9 ∷ []) e a0 a1 a2 a3 a4 a5 a6 a7 a8 a9 a10 a11 a12 a13 a14 a15 = absurd (omega arith)
sixteen_set (x0 ∷ x1 ∷ x2 ∷ x3 ∷ x4 ∷ x5 ∷ x6 ∷ x7 ∷ x8 ∷ x9 ∷ x10 ∷ []) e a0 a1 a2 a3 a4 a5 a6 a7 a8 a9 a10 a11 a12 a13 a14 a15 = absurd (omega arith)
sixteen_set (x0 ∷ x1 ∷ x2 ∷ x3 ∷ x4 ∷ x5 ∷ x6 ∷ x7 ∷ x8 ∷ x9 ∷ x10 ∷ x11 ∷ []) e a0 a1 a2 a3 a4 a5 a6 a7 a8 a9 a10 a11 a12 a13 a14 a15 = absurd (omega arith)
sixteen_set (x0 ∷ x1 ∷ x2 ∷ x3 ∷ x4 ∷ x5 ∷ x6 ∷ x7 ∷ x8 ∷ x9 ∷ x10 ∷ x11 ∷ x12 ∷ []) e a0 a1 a2 a3 a4 a5 a6 a7 a8 a9 a10 a11 a12 a13 a14 a15 = absurd (omega arith)
sixteen_set (x0 ∷ x1 ∷ x2 ∷ x3 ∷ x4 ∷ x5 ∷ x6 ∷ x7 ∷ x8 ∷ x9 ∷ x10 ∷ x11 ∷ x12 ∷ x13 ∷ []) e a0 a1 a2 a3 a4 a5 a6 a7 a8 a9 a10 a11 a12 a13 a14 a15 = absurd (omega arith)
sixteen_set (x0 ∷ x1 ∷ x2 ∷ x3 ∷ x4 ∷ x5 ∷ x6 ∷ x7 ∷ x8 ∷ x9 ∷ x10 ∷ x11 ∷ x12 ∷ x13 ∷ x14 ∷ []) e a0 a1 a2 a3 a4 a5 a6 a7 a8 a9 a10 a11 a12 a13 a14 a15 = absurd (omega arith)
sixteen_set (x0 ∷ x1 ∷ x2 ∷ x3 ∷ x4 ∷ x5 ∷ x6 ∷ x7 ∷ x8 ∷ x9 ∷ x10 ∷ x11 ∷ x12 ∷ x13 ∷ x14 ∷ x15 ∷ []) e a0 a1 a2 a3 a4 a5 a6 a7 a8 a9 a10 a11 a12 a13 a14 a15 = refl
sixteen_set (x0 ∷ x1 ∷ x2 ∷ x3 ∷ x4 ∷ x5 ∷ x6 ∷ x7 ∷ x8 ∷ x9 ∷ x10 ∷ x11 ∷ x12 ∷ x13 ∷ x14 ∷ x15 ∷ x16 ∷ xs) e a0 a1 a2 a3 a4 a5 a6 a7 a8 a9 a10 a11 a12 a13 a14 a15 = absurd (omega arith)
