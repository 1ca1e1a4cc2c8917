-- Frames made of bytes in which what all servers get lies one after the other.
use Rattle.std.specs.Prelude.{◌≡◌, ℕ, ◌-◌, ◌*◌, Bool, List, [], ◌++◌, length, map, take, drop, slice_index_or}
use Rattle.std.specs.List.{AllByRecursion, range_with_len}
use Rattle.tk_shape.specs.declared.shape.Shape.{Shape}
use Rattle.tk_shape.specs.Lengths.{seed_len, vector_len}
use Rattle.tk_kernel.specs.Pieces.{all_pieces}
use Rattle.tk_words.specs.Pieces.{piece}
use Rattle.tk_frames.specs.declared.read_frame.ReadFrame.{ReadFrame}
use Rattle.tk_frames.specs.Ranges.{AreTold}
use Rattle.tk_client.specs.declared.query.Asker.{Asker}
use Rattle.tk_client.specs.declared.query.Query.{Query}
use Rattle.tk_client.specs.Asked.{seeds_told}

-- the seed and the vector of a server, by its number
pub record Cut : Type 0 where
  pub seed : ℕ → List ℕ
  pub vector : ℕ → List ℕ

abbrev pub cut : Shape → List ℕ → List ℕ → Cut
cut shape seeds vectors =
    record {
      seed = λ j. piece (seed_len shape) (j - 1) seeds;
      vector = λ j. slice_index_or (all_pieces (vector_len shape) vectors) (j - 1) [];
    }

-- the frame for server j with these for either bucket
unfoldable pub frame_from : Shape → Bool → Asker → Cut → Cut → ℕ → ReadFrame
frame_from shape shows a first second j =
    record {
      client = a.client;
      turn = a.turn;
      epoch = a.epoch;
      first = first.vector j;
      second = second.vector j;
      seeds = seeds_told shape shows j (first.seed j ++ second.seed j);
    }

-- how long the seeds for one bucket are, and how long the drawn vectors
abbrev pub seeds_each : Shape → ℕ
seeds_each shape = (shape.servers - 1) * seed_len shape

abbrev pub drawn_each : Shape → ℕ
drawn_each shape = (shape.servers - 1) * vector_len shape

-- a query has for either bucket the seeds and vectors that it should have
pub record IsQuery (shape : Shape) (q : Query) : Type 0 where
  pub seeds_long : length q.seeds ≡ 2 * seeds_each shape
  pub drawn_long : length q.drawn ≡ 2 * drawn_each shape
  pub last_long : length q.last ≡ 2 * vector_len shape

-- what a query has for the first bucket, and what for the second
abbrev pub first_cut : Shape → Query → Cut
first_cut shape q =
    cut shape (take (seeds_each shape) q.seeds)
    (take (drawn_each shape) q.drawn ++ take (vector_len shape) q.last)

abbrev pub second_cut : Shape → Query → Cut
second_cut shape q =
    cut shape (drop (seeds_each shape) q.seeds)
    (drop (drawn_each shape) q.drawn ++ drop (vector_len shape) q.last)

-- what a query asks of server j, and what of all
abbrev pub query_frame : Shape → Query → ℕ → ReadFrame
query_frame shape q = frame_from shape q.shows q.asker (first_cut shape q) (second_cut shape q)

abbrev pub query_frames : Shape → Query → List ReadFrame
query_frames shape q = map (query_frame shape q) (range_with_len 1 shape.servers)

-- in each of these frames vectors that seeds alone tell are what the seeds expand to
abbrev pub AreAllTold : List ReadFrame → Type 0
AreAllTold frames = AllByRecursion (λ (r : ReadFrame). AreTold r.seeds r.first r.second) frames
