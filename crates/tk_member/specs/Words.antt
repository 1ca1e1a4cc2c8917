-- What its host tells a member.
use Rattle.std.specs.Prelude.{ℕ, nat_le, ◌==◌, cond, List, [], ◌∷◌, length, drop, Option, Some, None, option_map}
use Rattle.tk_frames.specs.Fields.{number_at}
use Rattle.tk_member.specs.declared.word.HostWord.{HostWord}
use Rattle.tk_member.specs.declared.word.HostWord.TheVariants.{Say, Tick, Ahead, Has}

-- a log, and the text that is to be said on it
abbrev pub say_in : List ℕ → Option HostWord
say_in rest = cond (nat_le 4 (length rest)) (Some (Say (number_at 0 rest) (drop 4 rest))) None

abbrev pub tick_in : List ℕ → Option HostWord
tick_in [] = Some Tick
tick_in (b ∷ bs) = None

-- the number of four bytes, where there are no more
abbrev pub four_in : List ℕ → Option ℕ
four_in rest = cond (length rest == 4) (Some (number_at 0 rest)) None

-- the word that bytes spell, if they do: its kind is the letter S, T, A or G
abbrev pub word_in : List ℕ → Option HostWord
word_in [] = None
word_in (kind ∷ rest) =
    cond (kind == 0x53) (say_in rest)
    (cond (kind == 0x54) (tick_in rest)
    (cond (kind == 0x41) (option_map Ahead (four_in rest))
    (cond (kind == 0x47) (option_map Has (four_in rest)) None)))
