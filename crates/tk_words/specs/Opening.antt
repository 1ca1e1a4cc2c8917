-- Which text a block opens to.
use Rattle.std.specs.Prelude.{◌≡◌, ℕ, ◌+◌, ◌<◌, ◌≤◌, ◌↔◌, IsTrue, List, length, Some}
use Rattle.tk_shape.specs.declared.shape.Shape.{Shape}
use Rattle.tk_shape.specs.Lengths.{turn_count}
use Rattle.tk_seal.specs.Texts.{is_allowed}
use Rattle.tk_words.specs.Words.{WordBook, BookWords, IsBook, words_of, sealed, opened}

-- the block opens to this text: the text is allowed, it fits, and it seals to the block
pub record Opens (shape : Shape) (w : BookWords) (log s : ℕ) (block text : List ℕ) : Type 0 where
  pub allowed : IsTrue (is_allowed text)
  pub fits : length text + 18 ≤ shape.block
  pub seals : sealed w log s text ≡ block

-- a log of the shape, and one of its numbers
pub record IsNumber (shape : Shape) (log s : ℕ) : Type 0 where
  pub log_in : log < shape.logs
  pub number_in : s < turn_count shape

-- a block opens to the text that is allowed, fits and seals to it, and to no other
abbrev pub OpensWhatSeals : Shape → BookWords → Type 0
OpensWhatSeals shape w =
    (log s : ℕ) (block text : List ℕ) → IsNumber shape log s →
    (opened w log s block ≡ Some text) ↔ (Opens shape w log s block text)

-- what a text was sealed to opens to it
abbrev pub OpensSealed : Shape → BookWords → Type 0
OpensSealed shape w =
    (log s : ℕ) (text : List ℕ) → IsNumber shape log s → IsTrue (is_allowed text) → length text + 18 ≤ shape.block →
    opened w log s (sealed w log s text) ≡ Some text

-- at most one text seals to a block
abbrev pub OneTextSeals : Type 0
OneTextSeals =
    (shape : Shape) (b : WordBook) (log s : ℕ) (block one other : List ℕ) → IsBook shape b → IsNumber shape log s →
    Opens shape (words_of shape b) log s block one → Opens shape (words_of shape b) log s block other → one ≡ other
