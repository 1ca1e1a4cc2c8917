-- How the process ends.
use Rattle.std.specs.Prelude.{◌≡◌, List, ℕ, [], ◌∷◌, ◌++◌, IfOk}
use Rattle.tk_cli.specs.declared.status.Status.{Status}
use Rattle.tk_cli.specs.declared.status.Status.TheVariants.{Done}
use Rattle.tk_cli.specs.declared.exit.Exit.{Exit}
use Rattle.tk_cli.specs.StatusLines.{code_of, status_text}

-- the line that tells why not all is done, with its line feed; nothing where all is
abbrev pub exit_line : Status → List ℕ
exit_line Done = []
exit_line s = status_text s ++ 10 ∷ []

-- this is how it ends with a status; without memory its code alone tells it
pub record ExitsWith (s : Status) (x : Exit) : Type 0 where
  pub code : x.code ≡ code_of s
  pub line : IfOk x.line (λ line. line.items ≡ exit_line s)
