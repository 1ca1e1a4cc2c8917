-- What holds of all that a client asks over a book that serves its shape.
use Rattle.std.specs.Prelude.{ℕ, ◌<◌, ◌≤◌, Option}
use Rattle.std.specs.List.{AllByRecursion}
use Rattle.tk_shape.specs.declared.shape.Shape.{Shape}
use Rattle.tk_shape.specs.Lengths.{turn_count, seed_len}
use Rattle.tk_words.specs.Words.{WordBook, IsBook, words_of, fresh_seeds, fresh_vectors}
use Rattle.tk_frames.specs.Ranges.{IsRead}
use Rattle.tk_client.specs.Reader.{Target}
use Rattle.tk_client.specs.Asked.{pair_for, asked, AreForBoth, AreWhole}

-- whatever a read is for, its frames are in range where its client, turn and epoch are
abbrev pub AskedAreInRange : Type 0
AskedAreInRange =
    (shape : Shape) (b : WordBook) (g c e : ℕ) (t : Option Target) → IsBook shape b →
    g < turn_count shape → c < shape.clients → e ≤ shape.phases →
    AllByRecursion (IsRead shape) (asked shape b g c e t)

-- the two buckets of a read, whatever it is for, are buckets of the table
abbrev pub PairsAreInRange : Type 0
PairsAreInRange =
    (shape : Shape) (b : WordBook) (g c : ℕ) (t : Option Target) →
    let pair = pair_for (words_of shape b) g c t in
    (pair.0 < shape.buckets) × (pair.1 < shape.buckets)

-- the vectors that are drawn for a read have a bit for each bucket
abbrev pub VectorsAreWhole : Type 0
VectorsAreWhole =
    (shape : Shape) (b : WordBook) (g c : ℕ) → IsBook shape b → g < turn_count shape →
    c < shape.clients → AreWhole shape (fresh_vectors shape b g c)

-- and the seeds have the length that the format gives them
abbrev pub SeedsAreWhole : Type 0
SeedsAreWhole =
    (shape : Shape) (b : WordBook) (g c : ℕ) → IsBook shape b → g < turn_count shape →
    c < shape.clients → AreForBoth shape (seed_len shape) (fresh_seeds shape b g c)
