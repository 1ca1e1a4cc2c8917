-- What a client asks over a book that serves its shape is in range.
use Rattle.std.proofs.Common.{◌≡◌, refl, ap, ap₂, sym, ◌∙◌, arith, Bool, true, false, cond}
use Rattle.std.proofs.Common.{ℕ, zero, suc, ◌+◌, ◌-◌, ◌*◌, ◌%◌, ◌<◌, ◌≤◌, ltb-true}
use Rattle.std.proofs.Common.{List, [], ◌∷◌, ◌++◌, length, map, drop, length-append, length-drop, Option}
use Rattle.std.specs.Prelude.{slice_index_or, Some, None, nat_lt, ◌==◌, ◌&&◌}
use Rattle.std.specs.List.{AllByRecursion, range_with_len}
use Rattle.std.proofs.lemmas.Bool.{eqb-true, and_parts}
use Rattle.std.proofs.lemmas.List.{length-map, length-take-le, take_at, drop_at, get_or_append_left}
use Rattle.std.proofs.lemmas.Nat.{mod_below}
use Rattle.tk_shape.specs.declared.shape.Shape.{Shape}
use Rattle.tk_shape.specs.Lengths.{turn_count, seed_len, vector_len, piece_len, read_cell_len}
use Rattle.tk_handle.specs.Handle.{key_bytes, expanded}
use Rattle.tk_handle.proofs.Offers.{length-key_bytes}
use Rattle.tk_kernel.specs.Pieces.{AllSized}
use Rattle.tk_kernel.proofs.Offers.{length-pieces, AllSized-pieces, AllSized-map}
use Rattle.tk_bits.specs.Shares.{Share, last_share, completed, shares, share_at}
use Rattle.tk_bits.proofs.Offers.{length-last_share, vector-at, seed-at}
use Rattle.tk_words.specs.Words.{WordBook, keyed, drawn, words_of, IsBook, BothBuckets}
use Rattle.tk_words.specs.Words.{cut_for_both, for_each, keyed_for_both, cell_pieces}
use Rattle.tk_words.specs.Words.{piece_seed, piece_vector, shows_vectors}
use Rattle.tk_words.specs.Words.{pair_of, fresh_pair, fresh_seeds, fresh_vectors, seed_at, read_cell, read_part}
use Rattle.tk_words.specs.CellLaws.{place_within, length-piece, length-read_part}
use Rattle.tk_frames.specs.declared.read_frame.ReadFrame.{ReadFrame}
use Rattle.tk_frames.specs.declared.seeds.Seeds.TheVariants.{Plain, Seeded, Shown}
use Rattle.tk_frames.specs.Ranges.{IsRead, AreTwoSeeds, AreSeeds, Expand, AreTold}
use Rattle.tk_client.specs.Reader.{Target}
use Rattle.tk_client.specs.Asked.{pair_for, frame_with, frame_for, asked, AreForBoth}
use Rattle.tk_client.specs.Laws.{AskedAreInRange, PairsAreInRange, VectorsAreWhole, SeedsAreWhole}

-- ---- the buckets

bucket_in : (shape : Shape) (n : ℕ) → n % shape.buckets < shape.buckets
bucket_in shape n =
    let low = shape.in_range.buckets_low in
    mod_below n shape.buckets (omega (arith, low))

-- the buckets that are asked for are buckets of the table
pub pair-in_range : PairsAreInRange
unfolding pair_of fresh_pair
pair-in_range shape (keyed handles seeds) g c None =
    (bucket_in shape _, bucket_in shape _)
pair-in_range shape (keyed handles seeds) g c (Some t) =
    (bucket_in shape _, bucket_in shape _)
pair-in_range shape (drawn tape) g c None =
    (bucket_in shape _, bucket_in shape _)
pair-in_range shape (drawn tape) g c (Some t) =
    (bucket_in shape _, bucket_in shape _)

-- ---- the seeds and vectors that are drawn

-- bytes that are long enough, cut for both buckets
cut-whole : (shape : Shape) (size : ℕ) (bytes : List ℕ) →
    2 * (shape.servers - 1) * size ≤ length bytes →
    AreForBoth shape size (cut_for_both shape size bytes)
cut-whole shape size bytes long =
    let each = shape.servers - 1 in
    let behind = drop (each * size) bytes in
    record {
      first_each = length-pieces size each bytes;
      second_each = length-pieces size each behind;
      first_sized = AllSized-pieces size each bytes (omega (arith, long));
      second_sized = AllSized-pieces size each behind
          (omega (arith, long, length-drop (each * size) bytes));
    }

each-whole : (shape : Shape) (f : List ℕ → List ℕ) (a b : ℕ) (both : BothBuckets) →
    ((v : List ℕ) → length v ≡ a → length (f v) ≡ b) → AreForBoth shape a both →
    AreForBoth shape b (for_each f both)
each-whole shape f a b both becomes whole =
    record {
      first_each = length-map both.first f ∙ whole.first_each;
      second_each = length-map both.second f ∙ whole.second_each;
      first_sized = AllSized-map f a b both.first becomes whole.first_sized;
      second_sized = AllSized-map f a b both.second becomes whole.second_sized;
    }

-- what a client's seed gives for both buckets
keyed-whole : (shape : Shape) (size : ℕ) (seed : List ℕ) (g : ℕ) →
    AreForBoth shape size (keyed_for_both shape size seed g)
keyed-whole shape size seed g =
    let all = 2 * (shape.servers - 1) * size in
    let long = length-key_bytes seed (2 * g + 1) 16 all in
    cut-whole shape size (key_bytes seed (2 * g + 1) 16 all) (omega (arith, long))

-- the pieces of a read cell
pieces-whole : (shape : Shape) (tape : List ℕ) (g c : ℕ) → IsBook shape (drawn tape) →
    g < turn_count shape → c < shape.clients →
    AreForBoth shape (piece_len shape) (cell_pieces shape (read_cell shape tape g c))
pieces-whole shape tape g c whole turn_in client_in =
    let size = read_cell_len shape in
    let place = g * shape.clients + c in
    let part = read_part shape tape in
    let within : (place + 1) * size ≤ length part =
    rw (length-read_part shape tape whole)
    (place_within g c (turn_count shape) shape.clients size turn_in client_in)
    in
    let long = length-piece size place part within in
    let cell = read_cell shape tape g c in
    cut-whole shape (piece_len shape) (drop 8 cell) (omega (arith, long, length-drop 8 cell))

-- they have a bit for each bucket
pub fresh-whole : VectorsAreWhole
unfolding fresh_vectors
fresh-whole shape (keyed handles seeds) g c served turn_in client_in =
    let size = vector_len shape in
    let seed = seed_at seeds c in
    let told = keyed_for_both shape (seed_len shape) seed g in
    elim (shape.format == 2) as (λ (two : Bool). AreForBoth shape size
    (cond two (for_each (expanded size) told) (keyed_for_both shape size seed g))) [
      | true ↦ each-whole shape (expanded size) (seed_len shape) size told
          (λ v long. length-key_bytes v 0 0 size) (keyed-whole shape (seed_len shape) seed g)
      | false ↦ keyed-whole shape size seed g
    ]
fresh-whole shape (drawn tape) g c whole turn_in client_in =
    let pieces = cell_pieces shape (read_cell shape tape g c) in
    each-whole shape (piece_vector shape) (piece_len shape) (vector_len shape) pieces
    (λ v long. omega (arith, long, length-drop (seed_len shape) v))
    (pieces-whole shape tape g c whole turn_in client_in)

-- and the seeds have their length
pub seeds-whole : SeedsAreWhole
unfolding fresh_seeds
seeds-whole shape (keyed handles seeds) g c served turn_in client_in =
    keyed-whole shape (seed_len shape) (seed_at seeds c) g
seeds-whole shape (drawn tape) g c whole turn_in client_in =
    let pieces = cell_pieces shape (read_cell shape tape g c) in
    each-whole shape (piece_seed shape) (piece_len shape) (seed_len shape) pieces
    (λ v long. length-take-le (seed_len shape) v (omega (arith, long)))
    (pieces-whole shape tape g c whole turn_in client_in)

-- ---- the frames

-- a frame for each server
pub length-asked : (shape : Shape) (b : WordBook) (g c e : ℕ) (t : Option Target) →
    length (asked shape b g c e t) ≡ shape.servers
length-asked shape b g c e t =
    length-map (range_with_len 1 shape.servers) _ ∙ length-range 1 shape.servers
  where
    length-range : (k n : ℕ) → length (range_with_len k n) ≡ n
    length-range k zero = refl
    length-range k (suc n) = ap suc (length-range (k + 1) n)

AllSized-push : (size : ℕ) (vs : List (List ℕ)) (v : List ℕ) → AllSized size vs → length v ≡ size →
    AllSized size (vs ++ v ∷ [])
AllSized-push size [] v h e = (e, tt)
AllSized-push size (u ∷ us) v h e = (h.0, AllSized-push size us v h.1 e)

pub AllSized-completed : (size i : ℕ) (vs : List (List ℕ)) → AllSized size vs →
    AllSized size (completed size i vs)
AllSized-completed size i vs h =
    AllSized-push size vs (last_share size i vs) h (length-last_share size i vs h)

pub length-completed : (size i n : ℕ) (vs : List (List ℕ)) → 0 < n → length vs ≡ n - 1 →
    length (completed size i vs) ≡ n
length-completed size i n vs some each =
    let more = length-append vs (last_share size i vs ∷ []) in
    omega (arith, more, each, some)

sized_at : (size i : ℕ) (vs : List (List ℕ)) → AllSized size vs → i < length vs →
    length (slice_index_or vs i []) ≡ size
sized_at size i [] h low = absurd (omega (arith, low))
sized_at size zero (v ∷ vs) h low = h.0
sized_at size (suc i) (v ∷ vs) h low = sized_at size i vs h.1 (omega (arith, low))

get-map : (f : List ℕ → List ℕ) (vs : List (List ℕ)) (i : ℕ) → i < length vs →
    slice_index_or (map f vs) i [] ≡ f (slice_index_or vs i [])
get-map f [] i low = absurd (omega (arith, low))
get-map f (v ∷ vs) zero low = refl
get-map f (v ∷ vs) (suc i) low = get-map f vs i (omega (arith, low))

-- what server j gets for one bucket, of what is drawn
record IsShareOf (shape : Shape) (seeds vectors : List (List ℕ)) (j : ℕ) (one : Share) : Type 0 where
  vector_long : length one.vector ≡ vector_len shape
  seed_long : j < shape.servers → shape.format ≡ 2 → length one.seed ≡ 32
  expands : j < shape.servers → vectors ≡ map (expanded (vector_len shape)) seeds →
      one.vector ≡ expanded (vector_len shape) one.seed

share-of : (shape : Shape) (bucket : ℕ) (seeds vectors : List (List ℕ)) →
    length seeds ≡ shape.servers - 1 → length vectors ≡ shape.servers - 1 →
    AllSized (seed_len shape) seeds → AllSized (vector_len shape) vectors → (j : ℕ) → 1 ≤ j →
    j ≤ shape.servers →
    IsShareOf shape seeds vectors j (share_at (shares (vector_len shape) bucket seeds vectors) (j - 1))
share-of shape bucket seeds vectors seeds_each vectors_each seeds_sized vectors_sized j low high =
    let size = vector_len shape in
    let servers = shape.in_range.servers_low in
    let some : 0 < shape.servers = omega (arith, servers) in
    let all = completed size bucket vectors in
    let counted = length-completed size bucket shape.servers vectors some vectors_each in
    let one = share_at (shares size bucket seeds vectors) (j - 1) in
    let vector_is = vector-at size bucket (j - 1) seeds vectors in
    let seed_is : j < shape.servers → one.seed ≡ slice_index_or seeds (j - 1) [] = λ less.
    seed-at size bucket (j - 1) seeds vectors (omega (arith, less, low, vectors_each)) in
    record {
      vector_long =
          ap length vector_is
          ∙ sized_at size (j - 1) all (AllSized-completed size bucket vectors vectors_sized)
          (omega (arith, counted, low, high));
      seed_long = λ less format.
          ap length (seed_is less)
          ∙ sized_at (seed_len shape) (j - 1) seeds seeds_sized (omega (arith, less, low, seeds_each))
          ∙ ap (λ n. cond (n == 2) 32 0) format;
      expands = λ less expands.
          vector_is
          ∙ get_or_append_left vectors (last_share size bucket vectors ∷ []) [] (j - 1)
          (omega (arith, less, low, vectors_each))
          ∙ ap (λ (vs : List (List ℕ)). slice_index_or vs (j - 1) []) expands
          ∙ get-map (expanded size) seeds (j - 1) (omega (arith, less, low, seeds_each))
          ∙ ap (expanded size) (sym (seed_is less));
    }

-- two seeds, one after the other, expand to two vectors
two-expand : (size : ℕ) (s t x y : List ℕ) → length s ≡ 32 → length x ≡ size → length y ≡ size →
    x ≡ expanded size s → y ≡ expanded size t → Expand (s ++ t) x y
two-expand size s t x y long x_long y_long x_is y_is =
    record {
      first_is = x_is ∙ ap₂ expanded (sym x_long) (sym (take_at s t 32 long));
      second_is = y_is ∙ ap₂ expanded (sym y_long) (sym (drop_at s t 32 long));
    }

-- whether server j is told seeds
abbrev is_seeded : Shape → ℕ → Bool
is_seeded shape j = nat_lt j shape.servers && shape.format == 2

told_seeds : (shape : Shape) (shows : Bool) (s t : List ℕ) (told : Bool) →
    (told ≡ true → AreTwoSeeds shape (s ++ t)) →
    AreSeeds shape (cond told (cond shows (Shown (s ++ t)) (Seeded (s ++ t))) Plain)
told_seeds shape true s t true are = are refl
told_seeds shape false s t true are = are refl
told_seeds shape shows s t false are = tt

told_vectors : (shows : Bool) (s x y : List ℕ) (told : Bool) →
    (told ≡ true → shows ≡ false → Expand s x y) →
    AreTold (cond told (cond shows (Shown s) (Seeded s)) Plain) x y
told_vectors true s x y true expand = tt
told_vectors false s x y true expand = expand refl refl
told_vectors shows s x y false expand = tt

-- keyed vectors are what their seeds expand to in format 2
expanded-keyed : (shape : Shape) (b : WordBook) (g c : ℕ) → shows_vectors b ≡ false →
    shape.format ≡ 2 →
    fresh_vectors shape b g c ≡ for_each (expanded (vector_len shape)) (fresh_seeds shape b g c)
unfolding fresh_seeds fresh_vectors
expanded-keyed shape (drawn tape) g c hidden format = absurd (cc hidden)
expanded-keyed shape (keyed handles seeds) g c hidden format =
    let size = vector_len shape in
    let seed = seed_at seeds c in
    ap (λ n. cond (n == 2) (for_each (expanded size) (keyed_for_both shape (seed_len shape) seed g))
    (keyed_for_both shape size seed g)) format

module _ (shape : Shape) (b : WordBook) (g c e : ℕ) (pair : ℕ × ℕ) (served : IsBook shape b)
    (turn_in : g < turn_count shape) (client_in : c < shape.clients) (j : ℕ) (low : 1 ≤ j)
    (high : j ≤ shape.servers) where
  abbrev frame : ReadFrame
  frame = frame_for shape b g c e pair j

  first_share : IsShareOf shape (fresh_seeds shape b g c).first (fresh_vectors shape b g c).first j
      (share_at (shares (vector_len shape) pair.0 (fresh_seeds shape b g c).first
      (fresh_vectors shape b g c).first) (j - 1))
  first_share =
      let seeds = seeds-whole shape b g c served turn_in client_in in
      let drawn = fresh-whole shape b g c served turn_in client_in in
      share-of shape pair.0 (fresh_seeds shape b g c).first (fresh_vectors shape b g c).first
      seeds.first_each drawn.first_each seeds.first_sized drawn.first_sized j low high

  second_share : IsShareOf shape (fresh_seeds shape b g c).second
      (fresh_vectors shape b g c).second j
      (share_at (shares (vector_len shape) pair.1 (fresh_seeds shape b g c).second
      (fresh_vectors shape b g c).second) (j - 1))
  second_share =
      let seeds = seeds-whole shape b g c served turn_in client_in in
      let drawn = fresh-whole shape b g c served turn_in client_in in
      share-of shape pair.1 (fresh_seeds shape b g c).second (fresh_vectors shape b g c).second
      seeds.second_each drawn.second_each seeds.second_sized drawn.second_sized j low high

  pub frame-told : AreTold frame.seeds frame.first frame.second
  unfolding frame_with
  frame-told =
      told_vectors (shows_vectors b) _ frame.first frame.second (is_seeded shape j) (λ told hidden.
      let parts = and_parts (nat_lt j shape.servers) (shape.format == 2) told in
      let less = ltb-true j shape.servers parts.0 in
      let format = eqb-true shape.format 2 parts.1 in
      let expands = expanded-keyed shape b g c hidden format in
      two-expand (vector_len shape) _ _ frame.first frame.second (first_share.seed_long less format)
      first_share.vector_long second_share.vector_long
      (first_share.expands less (ap (λ (both : BothBuckets). both.first) expands))
      (second_share.expands less (ap (λ (both : BothBuckets). both.second) expands)))

  pub frame-in_range : e ≤ shape.phases → IsRead shape frame
  unfolding frame_with
  frame-in_range epoch_in =
      let one = share_at (shares (vector_len shape) pair.0 (fresh_seeds shape b g c).first
      (fresh_vectors shape b g c).first) (j - 1) in
      let other = share_at (shares (vector_len shape) pair.1 (fresh_seeds shape b g c).second
      (fresh_vectors shape b g c).second) (j - 1) in
      record {
        client = client_in;
        turn = turn_in;
        epoch = epoch_in;
        first_len = first_share.vector_long;
        second_len = second_share.vector_long;
        seeds = told_seeds shape (shows_vectors b) one.seed other.seed (is_seeded shape j) (λ told.
            let parts = and_parts (nat_lt j shape.servers) (shape.format == 2) told in
            let less = ltb-true j shape.servers parts.0 in
            let format = eqb-true shape.format 2 parts.1 in
            record {
              format = format;
              long =
                  length-append one.seed other.seed
                  ∙ ap₂ (λ n m. n + m) (first_share.seed_long less format)
                  (second_share.seed_long less format);
            });
        told = frame-told;
      }

frames_in_range : (shape : Shape) (b : WordBook) (g c e : ℕ) (pair : ℕ × ℕ) → IsBook shape b →
    g < turn_count shape → c < shape.clients → e ≤ shape.phases → (j n : ℕ) → 1 ≤ j →
    j + n ≤ shape.servers + 1 →
    AllByRecursion (IsRead shape) (map (frame_for shape b g c e pair) (range_with_len j n))
frames_in_range shape b g c e pair served turn_in client_in epoch_in j zero low high = tt
frames_in_range shape b g c e pair served turn_in client_in epoch_in j (suc n) low high = (
  frame-in_range shape b g c e pair served turn_in client_in j low (omega (arith, high)) epoch_in,
  frames_in_range shape b g c e pair served turn_in client_in epoch_in (j + 1) n (omega arith)
      (omega (arith, high)),
)

-- whatever a read is for, its frames are in range
pub asked-in_range : AskedAreInRange
asked-in_range shape b g c e t served turn_in client_in epoch_in =
    frames_in_range shape b g c e (pair_for (words_of shape b) g c t) served turn_in client_in
    epoch_in 1 shape.servers (omega arith) (omega arith)
