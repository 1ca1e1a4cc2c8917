-- What a client asks of every server in a turn.
use Rattle.std.specs.Prelude.{◌≡◌, ℕ, ◌-◌, ◌==◌, nat_lt, ◌&&◌, Bool, cond, List, ◌++◌, length, map, Option, Some, None}
use Rattle.std.specs.List.{range_with_len}
use Rattle.tk_shape.specs.declared.shape.Shape.{Shape}
use Rattle.tk_shape.specs.Lengths.{vector_len}
use Rattle.tk_kernel.specs.Pieces.{AllSized}
use Rattle.tk_bits.specs.Shares.{Share, shares, share_at}
use Rattle.tk_words.specs.Words.{WordBook, BookWords, BothBuckets, words_of, fresh_seeds, fresh_vectors, shows_vectors}
use Rattle.tk_frames.specs.declared.read_frame.ReadFrame.{ReadFrame}
use Rattle.tk_frames.specs.declared.seeds.Seeds.{Seeds}
use Rattle.tk_frames.specs.declared.seeds.Seeds.TheVariants.{Plain, Seeded, Shown}
use Rattle.tk_bloom.specs.Filters.{all_marked}
use Rattle.tk_client.specs.Reader.{Target}

-- whether a filter shows a number of a log: it has all of its filter positions
abbrev pub shown_by : List Bool → BookWords → ℕ → ℕ → Bool
shown_by marks w log number = all_marked marks (w.hits log number)

-- the buckets of a client's read: those of its target, or for a dummy those that are drawn
abbrev pub pair_for : BookWords → ℕ → ℕ → Option Target → ℕ × ℕ
pair_for w g c None = w.fresh_pair g c
pair_for w g c (Some t) = w.pair t.log t.number

-- how server j is told its vectors: in format 2 each server but the last by its two seeds, with the
-- vectors shown beside them or not
abbrev pub seeds_told : Shape → Bool → ℕ → List ℕ → Seeds
seeds_told shape shows j seeds =
    cond (nat_lt j shape.servers && shape.format == 2) (cond shows (Shown seeds) (Seeded seeds))
    Plain

-- the read frame for server j, where these are the shares of either bucket, server by server
unfoldable pub frame_with :
    Shape → Bool → ℕ → ℕ → ℕ → List Share → List Share → ℕ → ReadFrame
frame_with shape shows g c e first second j =
    let one = share_at first (j - 1) in
    let other = share_at second (j - 1) in
    record {
      client = c;
      turn = g;
      epoch = e;
      first = one.vector;
      second = other.vector;
      seeds = seeds_told shape shows j (one.seed ++ other.seed);
    }

-- the read frame for server j of a client's read of these buckets over epoch e
abbrev pub frame_for : Shape → WordBook → ℕ → ℕ → ℕ → ℕ × ℕ → ℕ → ReadFrame
frame_for shape b g c e pair j =
    let size = vector_len shape in
    let seeds = fresh_seeds shape b g c in
    let drawn = fresh_vectors shape b g c in
    frame_with shape (shows_vectors b) g c e (shares size pair.0 seeds.first drawn.first)
    (shares size pair.1 seeds.second drawn.second)
    j

-- the frames for all servers, in their order, of a read over epoch e that is for a target or for
-- nothing
abbrev pub asked : Shape → WordBook → ℕ → ℕ → ℕ → Option Target → List ReadFrame
asked shape b g c e t =
    map (frame_for shape b g c e (pair_for (words_of shape b) g c t)) (range_with_len 1 shape.servers)

-- for either bucket one for each server but the last, of this size
pub record AreForBoth (shape : Shape) (size : ℕ) (both : BothBuckets) : Type 0 where
  pub first_each : length both.first ≡ shape.servers - 1
  pub second_each : length both.second ≡ shape.servers - 1
  pub first_sized : AllSized size both.first
  pub second_sized : AllSized size both.second

-- drawn vectors as they should be, with a bit for each bucket
abbrev pub AreWhole : Shape → BothBuckets → Type 0
AreWhole shape vectors = AreForBoth shape (vector_len shape) vectors
