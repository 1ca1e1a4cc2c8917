-- What sets a member up.
use Rattle.std.specs.Prelude.{◌≡◌, ℕ, ◌<◌, List, [], ◌++◌}
use Rattle.tk_words.specs.Words.{WordBook}
use Rattle.tk_frames.specs.Spelling.{be32}
use Rattle.tk_script.specs.declared.script.Script.{Script}
use Rattle.tk_script.specs.declared.input.Input.{Input}
use Rattle.tk_script.specs.declared.form.Form.TheVariants.{Relay}
use Rattle.tk_script.specs.Grammar.{Spells}
use Rattle.tk_script.specs.Book.{book_of}
use Rattle.tk_client.specs.Client.{new_client}
use Rattle.tk_packets.specs.Packets.{PacketView}
use Rattle.tk_report.specs.Queues.{writes_of}
use Rattle.tk_report.specs.Report.{follows_of}
use Rattle.tk_member.specs.Members.{MemberState, new_member}

-- a text spells a keyed script
abbrev pub SpellsKeyed : List ℕ → Input → Type 0
SpellsKeyed text input = Spells Relay text input

-- Bytes spell the number of a client, and behind it a keyed script that says nothing. The keys that
-- the client has not are zeros, or any others: it is meant to use none of them.
pub record SetsUp (bytes : List ℕ) (number : ℕ) (input : Input) : Type 0 where
  pub text : List ℕ
  pub whole : bytes ≡ be32 number ++ text
  pub spelled : SpellsKeyed text input
  pub silent : input.first.says ≡ []
  pub number_in : number < input.first.shape.clients

-- a member of a script that has written and asked nothing
abbrev pub member_of : Script → ℕ → MemberState
member_of S number =
    new_member (new_client S.shape number (writes_of S number) (follows_of S number))

-- a packet of the host sets up this member with these words
pub record IsSetUp (first : PacketView) (b : WordBook) (m : MemberState) : Type 0 where
  pub of_host : first.peer ≡ 0
  pub number : ℕ
  pub input : Input
  pub sets : SetsUp first.bytes number input
  pub words : b ≡ book_of input
  pub member : m ≡ member_of input.first number
