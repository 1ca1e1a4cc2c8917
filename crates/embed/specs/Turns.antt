-- What a turn of a client leaves, to the servers and to the client.
use Rattle.std.specs.Prelude.{◌≡◌, ℕ, ◌+◌, ◌*◌, List, [], ◌∷◌, ◌++◌, length, map, Option}
use Rattle.tk_shape.specs.declared.shape.Shape.{Shape}
use Rattle.tk_words.specs.Words.{WordBook, words_of}
use Rattle.tk_frames.specs.declared.entry.Placed.{Placed}
use Rattle.tk_frames.specs.declared.entry.Entry.TheVariants.{Write, Mark}
use Rattle.tk_frames.specs.Order.{before}
use Rattle.tk_frames.specs.InOrder.{mark_count}
use Rattle.tk_frames.specs.Spelling.{read_frame}
use Rattle.tk_replica.specs.Epochs.{filter_of}
use Rattle.tk_replica.specs.Replies.{reply_bytes}
use Rattle.tk_client.specs.Writing.{first_waiting, after_write, with_text}
use Rattle.tk_client.specs.Writes.{write_of}
use Rattle.tk_client.specs.Asked.{asked}
use Rattle.tk_client.specs.declared.target.Target.{Target}
use Rattle.tk_client.specs.Client.{ClientState, new_client, target_over, opened, after_replies}

-- ---- what is written

-- the record of what the client writes in turn g
abbrev pub record_of : WordBook → ℕ → ClientState → Placed
record_of b g s =
    record {
      position = 2 * g + 1;
      entry = Write (write_of (words_of s.shape b) g s.number (first_waiting s.writing));
    }

-- the mark that closes turn g
abbrev pub mark_of : ℕ → Placed
mark_of g = record { position = 2 * g + 2; entry = Mark (g + 1) }

-- these entries came before turn g: a record and a mark in each turn
pub record IsBeforeTurn (g : ℕ) (E : List Placed) : Type 0 where
  pub entries : length E ≡ 2 * g
  pub marks : mark_count E ≡ g

-- the client after its write
abbrev pub written : ClientState → ClientState
written s = record s { writing = after_write s.writing }

-- the entries after turn g, where these came before it
unfoldable pub with_turn : WordBook → ℕ → ClientState → List Placed → List Placed
with_turn b g s E = (E ++ record_of b g s ∷ []) ++ mark_of g ∷ []

-- ---- what is read

-- what the client's read over epoch e of these entries is for
abbrev pub target_in : WordBook → List Placed → ℕ → ClientState → Option Target
target_in b E e s = target_over (words_of s.shape b) (filter_of s.shape (before E e)) e s

-- the replies to its read in turn g over epoch e, by servers that have these entries
abbrev pub replies_to : WordBook → ℕ → ℕ → List Placed → ClientState → List (List ℕ)
replies_to b g e E s =
    map (reply_bytes s.shape E)
    (map read_frame (asked s.shape b g s.number e (target_in b E e s)))

-- the client after the replies to its read in turn g, which is over the epoch of the turn's mark
unfoldable pub after_read : WordBook → ℕ → List Placed → ClientState → ClientState
after_read b g E s =
    after_replies (words_of s.shape b) (replies_to b g (g + 1) E s)
    (opened g (g + 1) (target_in b E (g + 1) s) s)

-- the client after turn g, where servers had these entries before it
unfoldable pub after_turn : WordBook → ℕ → List Placed → ClientState → ClientState
after_turn b g E s = after_read b g (with_turn b g s E) (written s)

-- ---- a client that talks with itself

-- it writes log 0, and follows it
abbrev pub new_writer : Shape → ClientState
new_writer shape = new_client shape 0 (0 ∷ []) (0 ∷ [])

-- it has said a text on log 0
abbrev pub with_said : List ℕ → ClientState → ClientState
with_said text s = record s { writing = with_text 0 text s.writing }
