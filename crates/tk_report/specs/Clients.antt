-- The clients of a run: what each has to write and knows before a turn, and within it.
use Rattle.std.specs.Prelude.{◌≡◌, ℕ, ◌+◌, ◌<◌, Bool, cond, List, [], ◌∷◌, length, slice_index_or, None}
use Rattle.std.specs.List.{list_any}
use Rattle.tk_shape.specs.declared.shape.Shape.{Shape}
use Rattle.tk_shape.specs.Lengths.{turn_count}
use Rattle.tk_schedule.specs.declared.history.History.{History}
use Rattle.tk_schedule.specs.declared.item.Item.{Item}
use Rattle.tk_schedule.specs.Schedule.{is_of}
use Rattle.tk_script.specs.declared.script.Script.{Script}
use Rattle.tk_words.specs.Words.{BookWords}
use Rattle.tk_client.specs.Reader.{Reader, new_reader}
use Rattle.tk_client.specs.Writing.{Writing}
use Rattle.tk_client.specs.Client.{ClientState}
use Rattle.tk_client.specs.Looking.{FollowerState}
use Rattle.tk_report.specs.Queues.{writing_before, writing_said}
use Rattle.tk_report.specs.Report.{follows_of, reader_before}

-- a client that waits for no replies
abbrev pub idle : Shape → ℕ → Writing → Reader → ClientState
idle shape c writing reader =
    record { shape = shape; number = c; writing = writing; reader = reader; read = None }

-- client c before turn g
unfoldable pub client_before : Script → BookWords → History → ℕ → ℕ → ClientState
client_before S w H g c = idle S.shape c (writing_before S c g) (reader_before S w H c g)

-- a client for each number from 0 on, each as it is told
pub record AreClients (count : ℕ) (state : ℕ → ClientState) (clients : List ClientState)
    : Type 0 where
  pub counted : length clients ≡ count
  pub each : (c : ℕ) (d : ClientState) → c < length clients →
      slice_index_or clients c d ≡ state c

-- the clients at the end of a run
abbrev pub AreClientsAtEnd : Script → BookWords → History → List ClientState → Type 0
AreClientsAtEnd S w H clients =
    AreClients S.shape.clients (client_before S w H (turn_count S.shape)) clients

-- ---- what clients write, whatever each knows as a reader

-- what each client knows before turn g, and what each knows first
abbrev pub known_before : Script → BookWords → History → ℕ → ℕ → Reader
known_before S w H g c = reader_before S w H c g

abbrev pub known_first : Script → ℕ → Reader
known_first S c = new_reader (follows_of S c)

-- client c before turn g, where this is what each client knows
unfoldable pub client_knowing : Script → (ℕ → Reader) → ℕ → ℕ → ClientState
client_knowing S knows g c = idle S.shape c (writing_before S c g) (knows c)

-- and after the texts of turn g were said
unfoldable pub client_told : Script → (ℕ → Reader) → ℕ → ℕ → ClientState
client_told S knows g c = idle S.shape c (writing_said S c g) (knows c)

-- all clients before turn g, and after its texts were said
abbrev pub AreKnowing : Script → (ℕ → Reader) → ℕ → List ClientState → Type 0
AreKnowing S knows g clients = AreClients S.shape.clients (client_knowing S knows g) clients

abbrev pub HaveSaid : Script → (ℕ → Reader) → ℕ → List ClientState → Type 0
HaveSaid S knows g clients = AreClients S.shape.clients (client_told S knows g) clients

-- clients that are so, whatever each knows
pub record AreTold (S : Script) (g : ℕ) (clients : List ClientState) : Type 0 where
  pub knows : ℕ → Reader
  pub are : HaveSaid S knows g clients

-- a client that is so, whatever it knows
pub record IsTold (S : Script) (g c : ℕ) (client : ClientState) : Type 0 where
  pub knows : ℕ → Reader
  pub is : client ≡ client_told S knows g c

-- whether one of these items is the write of client c
abbrev pub has_written : List Item → ℕ → Bool
has_written items c = list_any (is_of c) items

-- after these items of turn g
abbrev pub client_after : Script → (ℕ → Reader) → ℕ → List Item → ℕ → ClientState
client_after S knows g items c =
    cond (has_written items c) (client_knowing S knows (g + 1) c) (client_told S knows g c)

-- ---- followers, which read in place of clients

-- one who knows before turn g what client c does
abbrev pub follower_before : Script → BookWords → History → ℕ → ℕ → FollowerState
follower_before S w H g c = record { shape = S.shape; reader = reader_before S w H c g }

-- one for each number from 0 on, each as it is told
pub record AreFollowers (count : ℕ) (state : ℕ → FollowerState) (followers : List FollowerState)
    : Type 0 where
  pub counted : length followers ≡ count
  pub each : (c : ℕ) (d : FollowerState) → c < length followers →
      slice_index_or followers c d ≡ state c

-- clients of which each knows what one of these does
abbrev pub joined : List ClientState → List FollowerState → List ClientState
joined [] followers = []
joined (client ∷ clients) [] = []
joined (client ∷ clients) (follower ∷ followers) =
    record client { reader = follower.reader } ∷ joined clients followers
