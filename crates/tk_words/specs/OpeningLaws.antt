-- Which text a block opens to, over a book that serves the shape.
use Rattle.std.proofs.Common.{◌≡◌, ℕ, ◌+◌, ◌-◌, ◌*◌, ◌≤◌, List, length, refl, sym, ◌∙◌, arith, length-drop, Option, Some}
use Rattle.std.proofs.lemmas.List.{length-take-le}
use Rattle.tk_shape.specs.declared.shape.Shape.{Shape}
use Rattle.tk_shape.specs.Lengths.{cell_len}
use Rattle.tk_seal.proofs.Offers.{opened_with-sealed, opened_with-is}
use Rattle.tk_handle.proofs.Offers.{length-key_bytes}
use Rattle.tk_words.specs.Words.{WordBook, keyed, drawn, IsBook, words_of, pad_of, tag_of, sealed, opened, keyed_cell, cell_block}
use Rattle.tk_words.specs.Opening.{IsNumber, OpensWhatSeals, OpensSealed, OneTextSeals}
use Rattle.tk_words.specs.CellLaws.{length-keyed_cell}

-- the pad masks all of a block but its tag
pub length-pad_of : (shape : Shape) (b : WordBook) (log s : ℕ) → IsBook shape b → IsNumber shape log s → length (pad_of shape b log s) ≡ shape.block - 16
unfolding pad_of
length-pad_of shape (keyed handles seeds) log s served number = length-key_bytes _ s 16 (shape.block - 16)
length-pad_of shape (drawn tape) log s whole number =
    let cell = keyed_cell shape tape log s in
    let long : length cell ≡ cell_len shape = length-keyed_cell shape tape log s whole number.log_in number.number_in in
    length-take-le (shape.block - 16) (cell_block shape cell) (omega (arith, length-drop (8 + 4 * shape.hits) cell))

pub opens_what_seals : (shape : Shape) (b : WordBook) → IsBook shape b → OpensWhatSeals shape (words_of shape b)
unfolding opened
opens_what_seals shape b served log s block text number =
    let pad = pad_of shape b log s in
    let tag = tag_of shape b log s in
    let long : length pad ≡ shape.block - 16 = length-pad_of shape b log s served number in
    let low : 24 ≤ shape.block = shape.in_range.block_low in
    let high : shape.block ≤ 1024 = shape.in_range.block_high in (
      λ e. let o = opened_with-is pad tag block text e in
          record { allowed = o.0; fits = omega (arith, o.1); seals = o.2 },
      λ o. let fits : length text + 18 ≤ shape.block = o.fits in
          opened_with-sealed pad tag text block o.allowed (omega arith) (omega arith) o.seals,
    )

pub opens_sealed : (shape : Shape) (b : WordBook) → IsBook shape b → OpensSealed shape (words_of shape b)
opens_sealed shape b served log s text number allowed fits =
    (opens_what_seals shape b served log s (sealed (words_of shape b) log s text) text number).1
    (record { allowed = allowed; fits = fits; seals = refl })

pub one_text_seals : OneTextSeals
one_text_seals shape b log s block one other served number opens opens_other =
    let first = (opens_what_seals shape b served log s block one number).1 opens in
    let second = (opens_what_seals shape b served log s block other number).1 opens_other in
    same (sym first ∙ second)
  where
    same : ◌≡◌ {A = Option (List ℕ)} (Some one) (Some other) → one ≡ other
    same e = cc e
