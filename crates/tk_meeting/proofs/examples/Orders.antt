-- A group apart of two clients and two servers, computed: what is delivered in three orders.
use Rattle.std.specs.Prelude.{◌≡◌, ⊤, ℕ, zero, suc, List, [], ◌∷◌, ◌++◌, map, take, drop, codes, filter, None}
use Rattle.std.proofs.Common.{refl, arith}
use Rattle.tk_shape.specs.Lengths.{turn_count}
use Rattle.tk_schedule.specs.declared.history.History.{History}
use Rattle.tk_schedule.specs.Schedule.{serial_history}
use Rattle.tk_words.specs.Words.{WordBook, drawn, words_of}
use Rattle.tk_frames.specs.Fields.{numbers}
use Rattle.tk_frames.specs.Spelling.{be32, read_frame}
use Rattle.tk_kernel.specs.Chosen.{chosen_sum}
use Rattle.tk_place.specs.Place.{levels_from, search_end}
use Rattle.tk_table.specs.Table.{layout_with, layout_on}
use Rattle.tk_packets.specs.Packets.{PacketView}
use Rattle.tk_packets.specs.Marks.{bits_from, mark_bytes}
use Rattle.tk_client.specs.Asked.{frame_with}
use Rattle.tk_report.specs.Queues.{with_says, writing_before}
use Rattle.tk_report.specs.Exchange.{read_pair, read_at, frames_before, view}
use Rattle.tk_report.specs.Report.{got_of}
use Rattle.tk_report.proofs.Computing as of_report
use Rattle.tk_report.proofs.examples.OrdinaryRun.{script, tape}
use Rattle.tk_serve.specs.Seats.{empty_seats, turns_written, seat_of, taken_write}
use Rattle.tk_serve.specs.Refusals.{write_refusal, read_refusal, refusal_by}
use Rattle.tk_serve.specs.Told.{epoch_bytes, reply_told, told_in}
use Rattle.tk_serve.specs.Steps.{gain, all_gained, with_frame, step}
use Rattle.tk_member.specs.News.{to_host, news_from}
use Rattle.tk_member.specs.Acting.{wrote, acts}
use Rattle.tk_meeting.specs.Meeting.{Meeting}
use Rattle.tk_meeting.specs.Events.{Event, Said, Ticked, WentAhead, Greeted, Up, Down, happens, after_events, met}
use Rattle.tk_meeting.specs.Laws.{sayings, HasWhatWasSaid, news_before, tells_read}

unfoldable pub computing : ⊤
unfolding of_report.computing numbers chosen_sum levels_from search_end
    layout_with layout_on bits_from mark_bytes frame_with with_says writing_before read_pair read_at
    frames_before empty_seats turns_written write_refusal read_refusal refusal_by
    epoch_bytes reply_told told_in gain all_gained with_frame step wrote acts happens after_events
computing = tt

abbrev pub book : WordBook
book = drawn tape

abbrev after : List Event → Meeting
after events = met script (λ c. book) events

-- ---- what the serial run has

abbrev history : History
history = serial_history script.shape

-- the text of number 0 of log 0, told to a host
abbrev heard_hi : List PacketView
heard_hi = to_host (0x74 ∷ (be32 0 ++ be32 0 ++ codes "hi")) ∷ []

pub report-hi : news_from 0 0 (got_of script (words_of script.shape book) history 1 0) ≡ heard_hi
unfolding computing
report-hi = refl

pub news-hi : news_before script book 1 2 ≡ heard_hi
unfolding computing
news-hi = refl

-- the frames that server j has, in the order of the serial run
abbrev seen_by : Meeting → ℕ → List (List ℕ)
seen_by m j =
    frames_before script.shape history (taken_write (m.seats j))
    (λ g c. map read_frame (take 1 (drop g (seat_of (m.seats j) c).reads))) (turn_count script.shape)

-- all frames on their way
abbrev on_their_way : Meeting → List (List ℕ)
on_their_way m =
    m.up 0 1 ++ m.up 0 2 ++ m.up 1 1 ++ m.up 1 2 ++ m.down 1 0 ++ m.down 1 1 ++ m.down 2 0 ++ m.down 2 1

-- The script has what was said; the second client told its host the text, and the first nothing; each
-- server has what the serial run has it see; no member has ended, and nothing is left on its way.
pub record IsAsSerial (m : Meeting) : Type 0 where
  pub tells : HasWhatWasSaid script m
  pub told : filter tells_read (m.told 1) ≡ heard_hi
  pub none_told : filter tells_read (m.told 0) ≡ []
  pub first_sees : seen_by m 1 ≡ view script book history 1
  pub second_sees : seen_by m 2 ≡ view script book history 2
  pub first_goes_on : m.ended 0 ≡ None
  pub second_goes_on : m.ended 1 ≡ None
  pub nothing_left : on_their_way m ≡ []

-- two clients, and two turns
tells-all : (m : Meeting) → m.said 0 0 ≡ sayings script 0 0 → m.said 0 1 ≡ sayings script 0 1 →
    m.said 1 0 ≡ sayings script 1 0 → m.said 1 1 ≡ sayings script 1 1 → HasWhatWasSaid script m
unfolding computing
tells-all m a b c d zero zero low turn = a
tells-all m a b c d zero (suc zero) low turn = b
tells-all m a b c d zero (suc (suc g)) low turn = absurd (omega (arith, turn))
tells-all m a b c d (suc zero) zero low turn = c
tells-all m a b c d (suc zero) (suc zero) low turn = d
tells-all m a b c d (suc zero) (suc (suc g)) low turn = absurd (omega (arith, turn))
tells-all m a b c d (suc (suc k)) g low turn = absurd (omega (arith, low))

-- ---- frames on each link

-- the next frame of each client to each server, and of each server to each client
abbrev up_once : List Event
up_once = Up 0 1 ∷ Up 1 1 ∷ Up 0 2 ∷ Up 1 2 ∷ []

abbrev down_once : List Event
down_once = Down 1 0 ∷ Down 2 0 ∷ Down 1 1 ∷ Down 2 1 ∷ []

abbrev says_hi : Event
says_hi = Said 0 0 (codes "hi")

-- ---- as in the serial run

-- turn by turn: the writes, the reads, the replies, and the epoch that the turn makes
abbrev serially : List Event
serially =
    says_hi ∷ Ticked 0 ∷ Ticked 1 ∷ [] ++ up_once ++ up_once ++ down_once ++ down_once
    ++ Ticked 0 ∷ Ticked 1 ∷ [] ++ up_once ++ up_once ++ down_once ++ down_once

pub serially-serial : IsAsSerial (after serially)
unfolding computing
serially-serial =
    record {
      tells = tells-all (after serially) refl refl refl refl;
      told = refl;
      none_told = refl;
      first_sees = refl;
      second_sees = refl;
      first_goes_on = refl;
      second_goes_on = refl;
      nothing_left = refl;
    }

-- ---- replies come late

-- all that both clients may send without a reply comes to the servers before any reply comes
abbrev late : List Event
late =
    says_hi ∷ Ticked 0 ∷ Ticked 1 ∷ WentAhead 0 1 ∷ WentAhead 1 1 ∷ [] ++ up_once ++ up_once ++ up_once
    ++ down_once ++ down_once ++ up_once ++ down_once ++ down_once

pub late-serial : IsAsSerial (after late)
unfolding computing
late-serial =
    record {
      tells = tells-all (after late) refl refl refl refl;
      told = refl;
      none_told = refl;
      first_sees = refl;
      second_sees = refl;
      first_goes_on = refl;
      second_goes_on = refl;
      nothing_left = refl;
    }

-- ---- a client is ahead

-- The first client writes both turns before the second one writes any, and the first server has all of it
-- before the second server has any.
abbrev ahead : List Event
ahead =
    says_hi ∷ WentAhead 0 2 ∷ Up 0 1 ∷ Up 0 1 ∷ Up 0 1 ∷ Down 1 0 ∷ Ticked 1 ∷ Up 1 1 ∷ Greeted 1 1 1
    ∷ Down 1 0 ∷ Up 0 2 ∷ Up 0 2 ∷ Up 1 2 ∷ Up 0 2 ∷ Up 1 1 ∷ Up 1 2 ∷ Down 2 0 ∷ Down 2 0 ∷ Greeted 0 2 2
    ∷ Down 2 1 ∷ Down 2 1 ∷ Down 1 1 ∷ Down 1 1 ∷ Ticked 1 ∷ Up 0 1 ∷ Up 0 2 ∷ [] ++ Up 1 1 ∷ Up 1 1
    ∷ Up 1 2 ∷ Up 1 2 ∷ [] ++ down_once ++ down_once

pub ahead-serial : IsAsSerial (after ahead)
unfolding computing
ahead-serial =
    record {
      tells = tells-all (after ahead) refl refl refl refl;
      told = refl;
      none_told = refl;
      first_sees = refl;
      second_sees = refl;
      first_goes_on = refl;
      second_goes_on = refl;
      nothing_left = refl;
    }
