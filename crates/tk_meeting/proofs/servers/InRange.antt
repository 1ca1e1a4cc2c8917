-- The writes and the reads of the serial run are in range.
use Rattle.tk_meeting.proofs.Terms.{◌≡◌, ℕ, ◌≤◌, ◌<◌, List, length, map, ◌+◌, Option, Some, None, sym, zero, suc, arith}
use Rattle.tk_meeting.proofs.Terms.{subst, ◌%◌, mod-lt, length-map-range_with_len, range_with_len, AllByRecursion}
use Rattle.tk_meeting.proofs.Terms.{option_map, turn_count, Shape, WordBook, words_of, IsBook, drawn, keyed, hits_of}
use Rattle.tk_meeting.proofs.Terms.{fresh_write, FreshWrite, IsRead, IsWrite, WriteFrame, phases_over, epoch_at, sent}
use Rattle.tk_meeting.proofs.Terms.{Script, frame_with, write_of, Waiting, write_at-client, write_at-turn, pair-low}
use Rattle.tk_meeting.proofs.Terms.{length-written, some_buckets, write_at, read_at, read_pair, waiting_of}
use Rattle.tk_meeting.proofs.Terms.{phase-before}
use Rattle.tk_client.proofs.InRangeLaws.{frame-in_range}
use Rattle.tk_meeting.proofs.Canonical.{serial, write_in, read_from}
use Rattle.tk_meeting.proofs.servers.Streams.{read-epoch}

-- buckets and filter positions that a shape has
record IsPlaced (shape : Shape) (first second : ℕ) (hits : List ℕ) : Type 0 where
  first_low : first < shape.buckets
  second_low : second < shape.buckets
  hits_low : AllByRecursion (λ h. h < shape.filter_bits) hits
  hits_counted : length hits ≡ shape.hits

-- numbers that are left by a division
remainders : (f : ℕ → ℕ) (n a count : ℕ) → 0 < n →
    AllByRecursion (λ h. h < n) (map (λ i. f i % n) (range_with_len a count))
remainders f n a zero some = tt
remainders f n a (suc count) some = (mod-lt (f a) some, remainders f n (a + 1) count some)

some_bits : (shape : Shape) → 0 < shape.filter_bits
some_bits shape = let low = shape.in_range.filter_low in omega (arith, low)

-- numbers of words, as buckets and filter positions
by-words : (shape : Shape) (x y : ℕ) (f : ℕ → ℕ) (a : ℕ) →
    IsPlaced shape (x % shape.buckets) (y % shape.buckets)
    (map (λ i. f i % shape.filter_bits) (range_with_len a shape.hits))
by-words shape x y f a =
    record {
      first_low = mod-lt x (some_buckets shape);
      second_low = mod-lt y (some_buckets shape);
      hits_low = remainders f shape.filter_bits a shape.hits (some_bits shape);
      hits_counted = length-map-range_with_len (λ i. f i % shape.filter_bits) a shape.hits;
    }

fresh-placed : (shape : Shape) (b : WordBook) (g c : ℕ) → (let w : FreshWrite = fresh_write shape b g c in
    IsPlaced shape w.first w.second w.hits)
unfolding fresh_write
fresh-placed shape (keyed handles seeds) g c = by-words shape _ _ _ 2
fresh-placed shape (drawn tape) g c = by-words shape _ _ _ 0

hits-placed : (shape : Shape) (b : WordBook) (log s : ℕ) → IsPlaced shape 0 0 (hits_of shape b log s)
unfolding hits_of
hits-placed shape (keyed handles seeds) log s =
    let is = by-words shape 0 0 _ 1 in
    record {
      first_low = some_buckets shape;
      second_low = some_buckets shape;
      hits_low = is.hits_low;
      hits_counted = is.hits_counted;
    }
hits-placed shape (drawn tape) log s =
    let is = by-words shape 0 0 _ 0 in
    record {
      first_low = some_buckets shape;
      second_low = some_buckets shape;
      hits_low = is.hits_low;
      hits_counted = is.hits_counted;
    }

write-placed : (shape : Shape) (b : WordBook) (g c : ℕ) (o : Option Waiting) →
    (let w : WriteFrame = write_of (words_of shape b) g c o in IsPlaced shape w.first w.second w.hits)
write-placed shape b g c None = fresh-placed shape b g c
write-placed shape b g c (Some y) =
    let pair = pair-low shape b y.log y.number in
    let hits = hits-placed shape b y.log y.number in
    record {
      first_low = pair.0;
      second_low = pair.1;
      hits_low = hits.hits_low;
      hits_counted = hits.hits_counted;
    }

written-placed : (S : Script) (b : WordBook) (c g : ℕ) → (let w : WriteFrame = write_in S b c g in
    IsPlaced S.shape w.first w.second w.hits)
unfolding write_at
written-placed S b c g = write-placed S.shape b g c (option_map waiting_of (sent S g c))

pub write-in_range : (S : Script) (b : WordBook) (c g : ℕ) → IsBook S.shape b → c < S.shape.clients →
    g < turn_count S.shape → IsWrite S.shape (write_in S b c g)
write-in_range S b c g served client turn =
    let w = words_of S.shape b in
    let placed = written-placed S b c g in
    record {
      client = subst (λ k. k < S.shape.clients) (sym (write_at-client S w g c)) client;
      turn = subst (λ k. k < turn_count S.shape) (sym (write_at-turn S w g c)) turn;
      first = placed.first_low;
      second = placed.second_low;
      hits = placed.hits_low;
      hits_counted = placed.hits_counted;
      block_len = length-written S b g c served turn client;
    }

pub read-in_range : (S : Script) (b : WordBook) (c j g : ℕ) → IsBook S.shape b → c < S.shape.clients →
    1 ≤ j → j ≤ S.shape.servers → g < turn_count S.shape → IsRead S.shape (read_from S b c j g)
unfolding read_at frame_with
read-in_range S b c j g served client low high turn =
    let epoch : epoch_at (serial S) g c ≡ phases_over S.shape g = read-epoch S b c j g client turn in
    let some = S.shape.in_range.ticks_low in
    let phase : phases_over S.shape g < S.shape.phases =
    phase-before S.shape.ticks S.shape.phases g some turn
    in
    frame-in_range S.shape b g c (epoch_at (serial S) g c) (read_pair S (words_of S.shape b) (serial S) g c)
    served turn client j low high (omega (arith, epoch, phase))
