-- Where a reader stands, in lines.
use Rattle.tk_script.specs.declared.place.Place.{Place as Here}
use Rattle.tk_script.specs.Grammar.{lines_of}
use Rattle.tk_script.specs.Reading.{Place}

-- the number of the next line, and the lines from it on
abbrev pub stands : Here → Place
stands here = record { line = here.line; rest = lines_of here.rest.now }
