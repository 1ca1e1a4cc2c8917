-- What a member tells its host.
use Rattle.std.specs.Prelude.{ℕ, ◌+◌, List, [], ◌∷◌, ◌++◌, length, drop, map, flat_map}
use Rattle.std.specs.List.{range_with_len}
use Rattle.tk_shape.specs.declared.shape.Shape.{Shape}
use Rattle.tk_frames.specs.Spelling.{be32}
use Rattle.tk_client.specs.declared.got.Got.{Got}
use Rattle.tk_client.specs.declared.got.Got.TheVariants.{Absent, Text}
use Rattle.tk_client.specs.declared.say_error.SayError.{SayError}
use Rattle.tk_client.specs.declared.say_error.SayError.TheVariants as say_error
use Rattle.tk_client.specs.Reader.{Reader, got_in}
use Rattle.tk_packets.specs.Packets.{PacketView, packet}

abbrev pub to_host : List ℕ → PacketView
to_host bytes = packet 0 bytes

-- the letter t for a text, and a for none
abbrev pub kind_of : Got → ℕ
kind_of (Text text) = 0x74
kind_of Absent = 0x61

abbrev pub text_of : Got → List ℕ
text_of (Text text) = text
text_of Absent = []

-- what a number of a log gave
abbrev pub got_packet : ℕ → ℕ → Got → PacketView
got_packet log number got =
    to_host (kind_of got ∷ (be32 log ++ be32 number ++ text_of got))

-- what the numbers from this one on gave
abbrev pub news_from : ℕ → ℕ → List Got → List PacketView
news_from log number [] = []
news_from log number (got ∷ gots) = got_packet log number got ∷ news_from log (number + 1) gots

-- how many numbers of each log a reader knows
abbrev pub numbers_known : Shape → Reader → List ℕ
numbers_known shape r = map (λ log. length (got_in r.follows log)) (range_with_len 0 shape.logs)

-- what one reader knows of a log that the other didn't
abbrev pub news_of : Reader → Reader → ℕ → List PacketView
news_of before after log =
    let old = length (got_in before.follows log) in
    news_from log old (drop old (got_in after.follows log))

-- and of all logs
abbrev pub news : Shape → Reader → Reader → List PacketView
news shape before after = flat_map (news_of before after) (range_with_len 0 shape.logs)

-- why a text may not be said
abbrev pub cause_of : SayError → ℕ
cause_of say_error.Memory = 0
cause_of (say_error.NotWriter log) = 1
cause_of (say_error.TooLong room) = 2
cause_of (say_error.Text at) = 3

-- that a text on a log is refused: the letter r, the log and the cause
abbrev pub refused_packet : ℕ → SayError → PacketView
refused_packet log error = to_host (0x72 ∷ (be32 log ++ cause_of error ∷ []))
