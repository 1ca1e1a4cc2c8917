-- What stands before the bytes of a packet, and before the marks of an epoch.
use Rattle.std.proofs.Common.{◌≡◌, ℕ, ◌+◌, ◌<◌, ◌≤◌, List, [], ◌∷◌, ◌++◌, length, take, drop, get_or, refl, ap, sym}
use Rattle.std.proofs.Common.{◌∙◌, arith, Option, inr, append-nil, length-append}
use Rattle.std.specs.Int.{w32, from_be_bytes}
use Rattle.std.proofs.lemmas.Nat.{be_bytes_4}
use Rattle.std.proofs.lemmas.List.{length-take, length-drop, take-append-drop, drop-drop, take_all}
use Rattle.std.proofs.lemmas.List.{drop_all, drop-append-le, take-append-le}
use Rattle.tk_io.specs.Content.{before_taking, emptied}
use Rattle.tk_frames.proofs.Offers.{IsBytes, IsBytes-drop, IsBytes-take}
use Rattle.tk_frames.specs.Spelling.{be32}
use Rattle.tk_frames.specs.Fields.{number_at}
use Rattle.tk_packets.specs.Packets.{packet, packet_bytes, EndsWithin, TakesAtMost}
use Rattle.tk_packets.specs.Frames.{epoch_frame}
use Rattle.tk_io.proofs.Offers.{taken_more}
use Rattle.tk_packets.proofs.Pieces.{emptied-before}

-- four bytes are the spelling of the number in them
pub number-joined : (place : ℕ) (bytes : List ℕ) → IsBytes bytes → place + 4 ≤ length bytes →
    be32 (number_at place bytes) ++ drop (place + 4) bytes ≡ drop place bytes
number-joined place bytes fits long =
    let rest = drop place bytes in
    let enough : 4 ≤ length rest = omega (arith, length-drop place bytes) in
    let front : be32 (number_at place bytes) ≡ take 4 rest =
    be_bytes_4 (take 4 rest) _ (omega (arith, length-take 4 rest))
    (IsBytes-take 4 rest (IsBytes-drop place bytes fits)) refl
    in
    let behind : drop (place + 4) bytes ≡ drop 4 rest =
    sym (drop-drop 4 place bytes)
    in
    ap (λ xs. xs ++ drop (place + 4) bytes) front ∙ ap (λ xs. take 4 rest ++ xs) behind
    ∙ take-append-drop 4 rest

-- eight bytes are two numbers
pub head-joined : (head : List ℕ) → IsBytes head → length head ≡ 8 →
    be32 (number_at 0 head) ++ be32 (number_at 4 head) ≡ head
head-joined head fits long =
    let first = number-joined 0 head fits (omega (arith, long)) in
    let second = number-joined 4 head fits (omega (arith, long)) in
    let nothing : drop 8 head ≡ [] = drop_all 8 head (omega (arith, long)) in
    let last : be32 (number_at 4 head) ≡ drop 4 head =
    sym (append-nil (be32 (number_at 4 head)))
    ∙ ap (λ xs. be32 (number_at 4 head) ++ xs) (sym nothing) ∙ second
    in
    ap (λ xs. be32 (number_at 0 head) ++ xs) last ∙ first

-- the number behind the first four of eight bytes, whatever comes after them
number-front : (head rest : List ℕ) → length head ≡ 8 → number_at 4 (head ++ rest) ≡ number_at 4 head
number-front head rest long =
    let behind : drop 4 (head ++ rest) ≡ drop 4 head ++ rest =
    drop-append-le 4 head rest (omega (arith, long))
    in
    let four : length (drop 4 head) ≡ 4 = omega (arith, long, length-drop 4 head) in
    ap (λ xs. from_be_bytes w32 (take 4 xs)) behind
    ∙ ap (from_be_bytes w32) (take-append-le 4 (drop 4 head) rest (omega (arith, four)))

-- ---- a packet

-- What was taken of a source: eight bytes, and bytes behind them.
pub record TakenTwice (old middle new : Option (List ℕ)) (head bytes : List ℕ) (n m : ℕ) : Type 0 where
  pub long : length head ≡ 8
  pub all : 8 ≤ n
  pub first : old ≡ before_taking (take n head) middle
  pub second : middle ≡ before_taking (take m bytes) new

whole : (n : ℕ) (head : List ℕ) → length head ≡ 8 → 8 ≤ n → take n head ≡ head
whole n head long all = take_all n head (omega (arith, long, all))

pub taken-packet : (old middle new : Option (List ℕ)) (head bytes : List ℕ) (n m peer count : ℕ) →
    TakenTwice old middle new head bytes n m → be32 peer ++ be32 count ≡ head → length bytes ≡ count →
    length bytes ≤ m → old ≡ before_taking (packet_bytes (packet peer bytes)) new
unfolding packet_bytes
taken-packet old middle new head bytes n m peer count taken spelled counted enough =
    let heads : be32 peer ++ be32 (length bytes) ≡ take n head =
    ap (λ k. be32 peer ++ be32 k) counted ∙ spelled ∙ sym (whole n head taken.long taken.all)
    in
    taken_more old middle new (take n head) (take m bytes) taken.first taken.second
    ∙ ap (λ xs. before_taking (take n head ++ xs) new) (take_all m bytes enough)
    ∙ ap (λ xs. before_taking (xs ++ bytes) new) (sym heads)

pub taken-cut : (old middle new : Option (List ℕ)) (head bytes : List ℕ) (n m most : ℕ) →
    TakenTwice old middle new head bytes n m → length bytes ≡ number_at 4 head →
    m < length bytes → number_at 4 head ≤ most → new ≡ emptied middle → EndsWithin most old new
taken-cut old middle new head bytes n m most taken counted fewer allowed end =
    let front = whole n head taken.long taken.all in
    let both = take n head ++ take m bytes in
    let same : number_at 4 both ≡ number_at 4 head =
    ap (λ xs. number_at 4 (xs ++ take m bytes)) front ∙ number-front head (take m bytes) taken.long
    in
    let count : length both ≡ 8 + m =
    length-append (take n head) (take m bytes)
    ∙ omega (arith, ap length front, taken.long, length-take m bytes, fewer)
    in
    record {
      taken = both;
      all = taken_more old middle new (take n head) (take m bytes) taken.first taken.second;
      end = end ∙ sym (ap emptied taken.first ∙ emptied-before (take n head) middle);
      cut =
          record {
            some = omega (arith, count);
            within = inr (omega (arith, same, allowed), omega (arith, same, count, counted, fewer));
          };
    }

-- at most eight bytes, and then at most most
pub takes-both : (old middle new : Option (List ℕ)) (head : List ℕ) (n m most : ℕ) → length head ≡ 8 →
    old ≡ before_taking (take n head) middle → m ≤ most → TakesAtMost m middle new →
    TakesAtMost (8 + most) old new
takes-both old middle new head n m most long first low rest =
    record {
      taken = take n head ++ rest.taken;
      front = taken_more old middle new (take n head) rest.taken first rest.front;
      few =
          omega (arith, length-append (take n head) rest.taken, length-take n head, long, rest.few, low);
    }

-- ---- an epoch

first-two : (kind version : ℕ) (bytes : List ℕ) → 2 ≤ length bytes → get_or bytes 0 0 ≡ kind →
    get_or bytes 1 0 ≡ version → bytes ≡ kind ∷ version ∷ drop 2 bytes
first-two kind version [] long k v = absurd (omega arith)
first-two kind version (a ∷ []) long k v = absurd (omega arith)
first-two kind version (a ∷ b ∷ bytes) long k v =
    ap (λ x. x ∷ b ∷ bytes) k ∙ ap (λ y. kind ∷ y ∷ bytes) v

pub epoch-spelled : (bytes : List ℕ) (epoch : ℕ) (marks : List ℕ) → IsBytes bytes → 6 ≤ length bytes →
    get_or bytes 0 0 ≡ 11 → get_or bytes 1 0 ≡ 1 → epoch ≡ number_at 2 bytes → marks ≡ drop 6 bytes →
    bytes ≡ epoch_frame (record { epoch = epoch; marks = marks })
epoch-spelled bytes epoch marks fits long kind version number behind =
    first-two 11 1 bytes (omega (arith, long)) kind version
    ∙ ap (λ xs. 11 ∷ 1 ∷ xs) (sym (number-joined 2 bytes fits (omega (arith, long))))
    ∙ ap (λ n. 11 ∷ 1 ∷ (be32 n ++ drop 6 bytes)) (sym number)
    ∙ ap (λ xs. 11 ∷ 1 ∷ (be32 epoch ++ xs)) (sym behind)
