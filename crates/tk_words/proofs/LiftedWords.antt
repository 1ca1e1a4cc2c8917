-- A book in format 2 serves the shape in format 2, and gives the same words.
use Rattle.std.proofs.Common.{◌≡◌, ℕ, ◌+◌, ◌*◌, Bool, true, false, List, length, refl, ap, ap₂, sym, ◌∙◌, eqb-true}
use Rattle.std.specs.Prelude.{◌==◌}
use Rattle.tk_shape.specs.declared.shape.Shape.{Shape}
use Rattle.tk_shape.specs.Lengths.{turn_count, cell_len, tape_len}
use Rattle.tk_shape.specs.Lifting.{lifted_shape}
use Rattle.tk_shape.proofs.Offers.{one_shape}
use Rattle.tk_words.specs.Pieces.{piece}
use Rattle.tk_words.specs.Words.{WordBook, keyed, drawn, IsBook, words_of, pair_of, hits_of, pad_of, tag_of, fresh_write, fresh_pair}
use Rattle.tk_words.specs.Words.{write_cell, keyed_cell, cell_pair, cell_hits, cell_pad, cell_tag, cell_write}
use Rattle.tk_words.specs.Lifting.{lifted_tape, lifted_book}
use Rattle.tk_words.proofs.LiftedTape.{lifted_two, lifted-write_part, lifted-keyed_part, lifted-pair, length-lifted}

-- a shape of format 2 stays
stays : (shape : Shape) → (shape.format == 2) ≡ true → lifted_shape shape ≡ shape
stays shape two = one_shape (lifted_shape shape) shape (sym (eqb-true shape.format 2 two)) refl

tape_whole : (shape : Shape) (tape : List ℕ) → length tape ≡ tape_len shape → (two : Bool) → (shape.format == 2) ≡ two →
    length (lifted_tape shape tape) ≡ tape_len (lifted_shape shape)
tape_whole shape tape whole true two =
    ap length (lifted_two shape tape two) ∙ whole ∙ ap tape_len (sym (stays shape two))
tape_whole shape tape whole false one = length-lifted shape tape one whole

-- a lifted tape has the length that the lifted shape wants
pub length-lifted_tape : (shape : Shape) (tape : List ℕ) → length tape ≡ tape_len shape →
    length (lifted_tape shape tape) ≡ tape_len (lifted_shape shape)
length-lifted_tape shape tape whole = tape_whole shape tape whole (shape.format == 2) refl

tape_words : (shape : Shape) (tape : List ℕ) → length tape ≡ tape_len shape → (two : Bool) → (shape.format == 2) ≡ two →
    words_of (lifted_shape shape) (drawn (lifted_tape shape tape)) ≡ words_of shape (drawn tape)
unfolding pair_of hits_of pad_of tag_of fresh_write fresh_pair
tape_words shape tape whole true two =
    ap₂ (λ (s : Shape) (t : List ℕ). words_of s (drawn t)) (stays shape two) (lifted_two shape tape two)
tape_words shape tape whole false one =
    let lifted = lifted_tape shape tape in
    let write : (g c : ℕ) → write_cell (lifted_shape shape) lifted g c ≡ write_cell shape tape g c =
    λ g c. ap (piece (cell_len shape) (g * shape.clients + c)) (lifted-write_part shape tape one whole)
    in
    let keyed : (log s : ℕ) → keyed_cell (lifted_shape shape) lifted log s ≡ keyed_cell shape tape log s =
    λ log s. ap (piece (cell_len shape) (log * turn_count shape + s)) (lifted-keyed_part shape tape one whole)
    in
    λ i. record {
      pair = λ log s. cell_pair shape (keyed log s i);
      hits = λ log s. cell_hits shape (keyed log s i);
      pad = λ log s. cell_pad shape (keyed log s i);
      tag = λ log s masked. cell_tag shape (keyed log s i);
      fresh_write = λ g c. cell_write shape (write g c i);
      fresh_pair = λ g c. lifted-pair shape tape g c one whole i;
    }

-- the words of a book in format 2 are its words
pub lifted-words : (shape : Shape) (b : WordBook) → IsBook shape b →
    words_of (lifted_shape shape) (lifted_book shape b) ≡ words_of shape b
unfolding pair_of hits_of pad_of tag_of fresh_write fresh_pair
lifted-words shape (keyed handles seeds) served = refl
lifted-words shape (drawn tape) whole = tape_words shape tape whole (shape.format == 2) refl
