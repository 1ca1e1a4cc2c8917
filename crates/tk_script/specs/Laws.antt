-- What a text spells.
use Rattle.std.specs.Prelude.{◌≡◌, ◌↔◌, ℕ, List, Ok}
use Rattle.tk_script.specs.Grammar.{lines_of, Spells}
use Rattle.tk_script.specs.Reading.{InputLines, read_input, input_lines}
use Rattle.tk_script.specs.declared.form.Form.{Form}
use Rattle.tk_script.specs.declared.input.Input.{Input}

-- a text spells one input of a form at most
abbrev pub SpellsOne : Type 0
SpellsOne = (form : Form) (bytes : List ℕ) (x y : Input) → Spells form bytes x →
    Spells form bytes y → x ≡ y

-- line by line an input is read exactly where the text spells it
abbrev pub ReadsWhatIsSpelled : Type 0
ReadsWhatIsSpelled = (form : Form) (bytes : List ℕ) (input : Input) →
    Spells form bytes input ↔ (read_input form (lines_of bytes) ≡ Ok (input_lines input))

-- what is read line by line is an input that the text spells
abbrev pub GivesInputs : Type 0
GivesInputs = (form : Form) (bytes : List ℕ) (lines : InputLines) →
    read_input form (lines_of bytes) ≡ Ok lines →
    (input : Input) × Spells form bytes input × (lines ≡ input_lines input)
