-- What the process ends with, and the line that tells why.
use Rattle.std.specs.Prelude.{ℕ, List, [], ◌++◌, codes, decimal}
use Rattle.tk_shape.specs.declared.field.Field.{Field}
use Rattle.tk_shape.specs.Names.{field_name}
use Rattle.tk_script.specs.CauseText.{cause_text, spaced}
use Rattle.tk_cli.specs.declared.status.Status.{Status}
use Rattle.tk_cli.specs.declared.status.Status.TheVariants.{Done, Memory, Usage, Script, Read, Write, TooLong, History, Shapes, Tape, Hidden, Wide, Phase}

abbrev pub code_of : Status → ℕ
code_of Done = 0
code_of Memory = 1
code_of Usage = 2
code_of (Script line c) = 3
code_of Read = 4
code_of Write = 5
code_of TooLong = 6
code_of (History at) = 7
code_of (Shapes field a b) = 8
code_of (Tape want got) = 9
code_of (Hidden got servers) = 10
code_of (Wide want) = 12
code_of (Phase got phases) = 13

abbrev pub differing_text : Field → List ℕ
differing_text field = codes "talek: shapes " ++ field_name field

abbrev pub shapes_text : Field → ℕ → ℕ → List ℕ
shapes_text field a b = differing_text field ++ spaced a ++ spaced b

abbrev pub hidden_text : ℕ → ℕ → List ℕ
hidden_text got servers = codes "talek: server" ++ spaced got ++ codes " of" ++ spaced servers

abbrev pub phase_text : ℕ → ℕ → List ℕ
phase_text got phases = codes "talek: phase" ++ spaced got ++ codes " of" ++ spaced phases

abbrev pub status_text : Status → List ℕ
status_text Done = []
status_text Memory = codes "talek: memory"
status_text Usage = codes "talek: usage"
status_text (Script line c) = codes "talek: line " ++ decimal line ++ codes ": " ++ cause_text c
status_text Read = codes "talek: read"
status_text Write = codes "talek: write"
status_text TooLong = codes "talek: input over 8388608 bytes"
status_text (History at) = codes "talek: history line" ++ spaced at
status_text (Shapes field a b) = shapes_text field a b
status_text (Tape want got) = codes "talek: tape" ++ spaced want ++ spaced got
status_text (Hidden got servers) = hidden_text got servers
status_text (Wide want) = codes "talek: tape over" ++ spaced want
status_text (Phase got phases) = phase_text got phases
