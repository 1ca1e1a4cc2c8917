-- The members of a group apart whose servers lie. One server is hidden: it tells nobody what it gets, and answers each
-- read over the writes that it holds. Whatever else comes to a member is what those like who have the other servers
-- and the network.
use Rattle.std.specs.Prelude.{◌≡◌, ◌≢◌, ℕ, ◌≤◌, ◌<◌, cond, List, [], ◌∷◌, ◌++◌, map, Option, Some, None, Result, Ok}
use Rattle.std.specs.Prelude.{Err}
use Rattle.tk_shape.specs.declared.shape.Shape.{Shape}
use Rattle.tk_shape.specs.Lengths.{width}
use Rattle.tk_kernel.specs.Pieces.{AllSized}
use Rattle.tk_script.specs.declared.script.Script.{Script}
use Rattle.tk_words.specs.Words.{WordBook, words_of}
use Rattle.tk_frames.specs.declared.read_frame.ReadFrame.{ReadFrame}
use Rattle.tk_frames.specs.Order.{Record}
use Rattle.tk_frames.specs.Spelling.{reply_frame}
use Rattle.tk_table.specs.Table.{layout, blocks_of}
use Rattle.tk_table.specs.Replies.{reply_to}
use Rattle.tk_client.specs.declared.open_read.OpenRead.{OpenRead}
use Rattle.tk_client.specs.Asked.{pair_for, frame_for}
use Rattle.tk_client.specs.declared.say_error.SayError.{SayError}
use Rattle.tk_member.specs.declared.fault.Fault.{Fault}
use Rattle.tk_member.specs.declared.fault.Fault.TheVariants.{Peer}
use Rattle.tk_member.specs.declared.word.HostWord.TheVariants.{Say, Tick, Ahead, Has}
use Rattle.tk_member.specs.Members.{MemberState}
use Rattle.tk_member.specs.Acting.{ActedMember}
use Rattle.tk_member.specs.Steps.{heard, served}
use Rattle.tk_meeting.specs.Meeting.{Meeting, Saying, opening, changed, member_went}
use Rattle.tk_meeting.specs.Events.{say_fault, is_server, client_does}
use Rattle.tk_meeting.specs.Shown.{stand}

-- A host says a text to a client, its clock ticks, or so many of its writes go ahead. A client is told that a server
-- has so many packets of it, or any frame comes to it as one of a server. Or the hidden server answers the read that a
-- client has open, over one of the tables that it may have.
pub data Deed : Type 0 where
  Says : ℕ → ℕ → List ℕ → Deed
  Ticks : ℕ → Deed
  GoesAhead : ℕ → ℕ → Deed
  Claims : ℕ → ℕ → Deed
  Sends : ℕ → ℕ → List ℕ → Deed
  Answers : ℕ → ℕ → Deed

abbrev pub doer : Deed → ℕ
doer (Says c log text) = c
doer (Ticks c) = c
doer (GoesAhead c turns) = c
doer (Claims c count) = c
doer (Sends c j frame) = c
doer (Answers c table) = c

-- ---- the hidden server

-- which server is hidden, and the writes of each table over which it may answer, by numbers: of one for each epoch,
-- say, or of all that there may be
pub record Hidden : Type 0 where
  pub server : ℕ
  pub held : ℕ → List Record

-- the buckets of a read that is open, and the frame of it for a server
abbrev pub pair_open : Shape → WordBook → ℕ → OpenRead → ℕ × ℕ
pair_open shape b c read = pair_for (words_of shape b) read.turn c read.target

abbrev pub frame_open : Shape → WordBook → ℕ → ℕ → OpenRead → ReadFrame
frame_open shape b c j read = frame_for shape b read.turn c read.epoch (pair_open shape b c read) j

-- its answer over a table; nothing where no read is open
abbrev pub answer_to : Hidden → WordBook → ℕ → Shape → ℕ → Option OpenRead → List ℕ
answer_to h b table shape c None = []
answer_to h b table shape c (Some read) =
    reply_frame (reply_to shape (h.held table) (frame_open shape b c h.server read))

-- ---- what is done

-- what becomes of the client's member
abbrev pub member_does : Hidden → WordBook → MemberState → Deed → Result ActedMember Fault
member_does h b m (Says c log text) = heard b m (Some (Say log text))
member_does h b m (Ticks c) = heard b m (Some Tick)
member_does h b m (GoesAhead c turns) = heard b m (Some (Ahead turns))
member_does h b m (Claims c count) = heard b m (Some (Has count))
member_does h b m (Sends c j frame) = cond (is_server m.client.shape j) (served b m j frame) (Err Peer)
member_does h b m (Answers c table) =
    served b m h.server (answer_to h b table m.client.shape m.client.number m.client.read)

-- the texts that were said, with one more, where the client may say it
abbrev pub said_more : Meeting → ℕ → Saying → Option SayError → ℕ → ℕ → List Saying
said_more m c y (Some error) = m.said
said_more m c y None =
    let g = (m.members c).written in
    changed c (changed g (m.said c g ++ y ∷ []) (m.said c)) m.said

abbrev pub said_after : Meeting → Deed → ℕ → ℕ → List Saying
said_after m (Says c log text) = said_more m c (record { log = log; text = text }) (say_fault m c log text)
said_after m (Ticks c) = m.said
said_after m (GoesAhead c turns) = m.said
said_after m (Claims c count) = m.said
said_after m (Sends c j frame) = m.said
said_after m (Answers c table) = m.said

-- a text is noted where the member goes on
abbrev pub went_on : Meeting → Deed → Result ActedMember Fault → Meeting
went_on m d (Ok t) = record (member_went m (doer d) (Ok t)) { said = said_after m d }
went_on m d (Err fault) = member_went m (doer d) (Err fault)

-- No server takes a frame here: what is on its way to one is all that this one gets.
unfoldable pub does : Shape → Hidden → WordBook → Meeting → Deed → Meeting
does shape h b m d =
    let c = doer d in
    client_does shape m c (went_on m d (member_does h b (m.members c) d))

unfoldable pub after_deeds : Shape → Hidden → WordBook → Meeting → List Deed → Meeting
after_deeds shape h b m [] = m
after_deeds shape h b m (d ∷ ds) = after_deeds shape h b (does shape h b m d) ds

-- a group after these deeds, from its opening on
abbrev pub lied : Script → Hidden → WordBook → List Deed → Meeting
lied S h b deeds = after_deeds S.shape h b (opening S) deeds

-- ---- two groups

-- a deed but for what is said
abbrev pub deed_shown : Deed → Deed
deed_shown (Says c log text) = Says c 0 []
deed_shown (Ticks c) = Ticks c
deed_shown (GoesAhead c turns) = GoesAhead c turns
deed_shown (Claims c count) = Claims c count
deed_shown (Sends c j frame) = Sends c j frame
deed_shown (Answers c table) = Answers c table

-- the same is done in both but for what is said
abbrev pub DoAlike : List Deed → List Deed → Type 0
DoAlike deeds others = map deed_shown deeds ≡ map deed_shown others

-- each client stands alike or has ended for the same fault, and each server but the hidden one got the same frames
pub record StandAlike (shape : Shape) (h : Hidden) (m n : Meeting) : Type 0 where
  pub stands : (c : ℕ) → c < shape.clients → stand (m.members c) ≡ stand (n.members c)
  pub ended : (c : ℕ) → c < shape.clients → m.ended c ≡ n.ended c
  pub sent : (c j : ℕ) → c < shape.clients → 1 ≤ j → j ≤ shape.servers → j ≢ h.server →
      m.up c j ≡ n.up c j

-- each table has blocks of the shape's width
abbrev pub HoldsBlocks : Shape → Hidden → Type 0
HoldsBlocks shape h = (table : ℕ) → AllSized (width shape) (blocks_of (layout shape (h.held table)))
