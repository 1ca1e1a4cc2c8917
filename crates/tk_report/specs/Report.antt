-- What a run delivers, and the report of it.
use Rattle.std.specs.Prelude.{ℕ, zero, suc, ◌+◌, ◌==◌, Bool, cond, List, [], ◌∷◌, ◌++◌, length, map}
use Rattle.std.specs.Prelude.{filter, flat_map, codes, decimal, slice_index_or, Option, option_and_then}
use Rattle.std.specs.List.{range_with_len, list_any, join_with_byte}
use Rattle.tk_shape.specs.declared.shape.Shape.{Shape}
use Rattle.tk_schedule.specs.declared.history.History.{History}
use Rattle.tk_script.specs.declared.script.Script.{Script}
use Rattle.tk_script.specs.Grammar.{item_word}
use Rattle.tk_script.specs.declared.role.Role.{Role}
use Rattle.tk_client.specs.declared.got.Got.{Got}
use Rattle.tk_client.specs.declared.got.Got.TheVariants.{Absent, Text}
use Rattle.tk_frames.specs.Lists.{first_some}
use Rattle.tk_shape.specs.Lengths.{turn_count}
use Rattle.tk_schedule.specs.Schedule.{phase_of, tick_of, is_closing, order_at, epoch_at}
use Rattle.tk_words.specs.Words.{WordBook, BookWords, words_of, opened}
use Rattle.tk_frames.specs.Order.{Record, before}
use Rattle.tk_frames.specs.Slots.{text_in}
use Rattle.tk_table.specs.Table.{retained}
use Rattle.tk_table.specs.Shown.{is_shown}
use Rattle.tk_client.specs.Reader.{got_in, Reader, Follow, new_reader, at_epoch, target, after_read}
use Rattle.tk_client.specs.declared.target.Target.{Target}
use Rattle.tk_script.specs.Sent.{blank_role, unsent_count}
use Rattle.tk_report.specs.Entries.{entries}

-- ---- lookup

-- the text of the earliest record that is retained and gives one; none where the number is absent
unfoldable pub lookup : Shape → BookWords → List Record → ℕ → ℕ → Option (List ℕ)
lookup shape w R log s =
    first_some (text_in (w.pair log s) (opened w log s)) (retained shape R)

-- ---- the reads of a run

abbrev pub role_in : List Role → ℕ → Role
role_in roles log = slice_index_or roles log blank_role

abbrev pub role_at : Script → ℕ → Role
role_at S log = role_in S.roles log

abbrev pub is_follower : Script → ℕ → ℕ → Bool
is_follower S c log = list_any (λ d. d == c) (role_at S log).followers

-- the logs that a client follows, ascending
abbrev pub follows_of : Script → ℕ → List ℕ
follows_of S c = filter (is_follower S c) (range_with_len 0 S.shape.logs)

-- the writes that a client's read in a turn is over: those before the epoch that it reads
abbrev pub read_over : Script → BookWords → History → ℕ → ℕ → List Record
read_over S w H g c = before (entries S w H) (epoch_at H g c)

-- the reader's target in a turn, before which the reader is r
abbrev pub target_for : Script → BookWords → History → ℕ → ℕ → Reader → Option Target
target_for S w H g c r =
    target S.shape (λ log s. is_shown S.shape (read_over S w H g c) (w.hits log s))
    (at_epoch (epoch_at H g c) r)

-- what a target's number gives over these writes; nothing where there is no target
abbrev pub answered : Shape → BookWords → List Record → Option Target → Option (List ℕ)
answered shape w R t = option_and_then (λ (x : Target). lookup shape w R x.log x.number) t

-- the answer to a read of a target
abbrev pub answer_for : Script → BookWords → History → ℕ → ℕ → Option Target → Option (List ℕ)
answer_for S w H g c t = answered S.shape w (read_over S w H g c) t

-- the reader after a turn, before which it is r
abbrev pub reader_step : Script → BookWords → History → ℕ → ℕ → Reader → Reader
reader_step S w H g c r =
    let t = target_for S w H g c r in
    after_read S.shape (at_epoch (epoch_at H g c) r) t (answer_for S w H g c t)

-- a client as a reader before turn g
unfoldable pub reader_before : Script → BookWords → History → ℕ → ℕ → Reader
reader_before S w H c zero = new_reader (follows_of S c)
reader_before S w H c (suc g) = reader_step S w H g c (reader_before S w H c g)

-- what a client's read in a turn is for
abbrev pub target_at : Script → BookWords → History → ℕ → ℕ → Option Target
target_at S w H g c = target_for S w H g c (reader_before S w H c g)

-- what each log gave to a client in the whole run
abbrev pub logs : Script → BookWords → History → ℕ → List Follow
logs S w H c = (reader_before S w H c (turn_count S.shape)).follows

-- what a log gave to a client
abbrev pub got_of : Script → BookWords → History → ℕ → ℕ → List Got
got_of S w H c log = got_in (logs S w H c) log

-- ---- the text

-- a line of fields, one space between
abbrev pub line : List (List ℕ) → List ℕ
line fields = join_with_byte 0x20 fields ++ 0x0A ∷ []

-- a turn's order, and its epochs
abbrev pub order_line : Shape → History → ℕ → List ℕ
order_line shape H g =
    line (codes "order" ∷ decimal (phase_of shape g) ∷ decimal (tick_of shape g)
    ∷ map item_word (order_at H g))

abbrev pub reads_line : Shape → History → ℕ → List ℕ
reads_line shape H g =
    line (codes "reads" ∷ decimal (phase_of shape g) ∷ decimal (tick_of shape g)
    ∷ map (λ c. decimal (epoch_at H g c)) (range_with_len 0 shape.clients))

-- the order, and where the turn closes a phase the epochs
abbrev pub turn_lines : Shape → History → ℕ → List ℕ
turn_lines shape H g =
    order_line shape H g ++ cond (is_closing shape g) (reads_line shape H g) []

unfoldable pub history_lines : Shape → History → List ℕ
history_lines shape H = flat_map (turn_lines shape H) (range_with_len 0 (turn_count shape))

-- what a number gave
abbrev pub got_line : ℕ → Got → List ℕ
got_line s Absent = line (codes "absent" ∷ decimal s ∷ [])
got_line s (Text text) = line (codes "text" ∷ decimal s ∷ text ∷ [])

abbrev pub got_lines : ℕ → List Got → List ℕ
got_lines s [] = []
got_lines s (x ∷ xs) = got_line s x ++ got_lines (s + 1) xs

-- what a log gave to a follower
abbrev pub log_lines : ℕ → ℕ → List Got → List ℕ
log_lines log c got =
    line (codes "log" ∷ decimal log ∷ decimal c ∷ decimal (length got) ∷ []) ++ got_lines 0 got

-- what a log gave to each of its followers, and what each of so many logs did
abbrev pub followers_lines : List Role → (ℕ → ℕ → List Got) → ℕ → List ℕ
followers_lines roles got log = flat_map (λ c. log_lines log c (got c log)) (role_in roles log).followers

abbrev pub logs_lines : ℕ → List Role → (ℕ → ℕ → List Got) → List ℕ
logs_lines count roles got = flat_map (followers_lines roles got) (range_with_len 0 count)

-- how many texts a client has left, and each of so many
abbrev pub unsent_line : ℕ → ℕ → List ℕ
unsent_line c count = line (codes "unsent" ∷ decimal c ∷ decimal count ∷ [])

abbrev pub unsent_lines : ℕ → (ℕ → ℕ) → List ℕ
unsent_lines count unsent = flat_map (λ c. unsent_line c (unsent c)) (range_with_len 0 count)

-- the report of a history of these roles: its turns, what each log gave to each follower, and how
-- many texts each client has left
unfoldable pub report_text :
    Shape → List Role → History → (ℕ → ℕ → List Got) → (ℕ → ℕ) → List ℕ
report_text shape roles H got unsent =
    line (codes "report" ∷ [])
    ++ history_lines shape H
    ++ logs_lines shape.logs roles got
    ++ unsent_lines shape.clients unsent
    ++ line (codes "end" ∷ [])

-- the report of a script's run
unfoldable pub report_of : Script → BookWords → History → List ℕ
report_of S w H = report_text S.shape S.roles H (got_of S w H) (unsent_count S)

abbrev pub report : Script → WordBook → History → List ℕ
report S b H = report_of S (words_of S.shape b) H
