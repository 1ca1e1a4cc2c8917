-- What a contract sees of a book.
use Rattle.tk_shape.specs.declared.shape.Shape.{Shape}
use Rattle.tk_words.specs.declared.book.Book.{Book}
use Rattle.tk_words.specs.declared.book.Book.TheVariants.{Keyed, Drawn}
use Rattle.tk_words.specs.Words.{WordBook, keyed, drawn}

abbrev pub shape_of : Book → Shape
shape_of (Keyed draws) = draws.shape
shape_of (Drawn draws) = draws.shape

abbrev pub words_in : Book → WordBook
words_in (Keyed draws) = keyed draws.handles.items draws.seeds.items
words_in (Drawn draws) = drawn draws.tape
