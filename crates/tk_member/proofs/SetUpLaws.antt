-- What sets a member up, by its parts.
use Rattle.std.proofs.Common.{◌≡◌, refl, ap, sym, ◌∙◌, subst, arith, ℕ, ◌^◌, ◌<◌, ◌≤◌, List, [], ◌++◌}
use Rattle.std.proofs.Common.{length, take, drop, length-take}
use Rattle.std.specs.Prelude.{Option, Some}
use Rattle.std.proofs.lemmas.Nat.{be_bytes_4, from_be_bytes-to_be_bytes_4}
use Rattle.std.proofs.lemmas.List.{take-append-drop}
use Rattle.tk_shape.specs.declared.shape.Shape.{Shape}
use Rattle.tk_words.specs.Words.{WordBook, keyed}
use Rattle.tk_frames.specs.Spelling.{be32}
use Rattle.tk_frames.specs.Fields.{number_at}
use Rattle.tk_frames.proofs.Offers.{IsBytes, IsBytes-take}
use Rattle.tk_script.specs.declared.keys.Keys.{Keys}
use Rattle.tk_script.specs.declared.script.Script.{Script}
use Rattle.tk_script.specs.declared.input.Input.{Input}
use Rattle.tk_script.specs.Book.{book_from, book_of}
use Rattle.tk_client.specs.Client.{new_client}
use Rattle.tk_packets.specs.Packets.{PacketView}
use Rattle.tk_report.specs.Queues.{writes_of, writing_before}
use Rattle.tk_report.specs.Report.{follows_of}
use Rattle.tk_report.specs.Clients.{client_knowing, known_first}
use Rattle.tk_member.specs.Members.{MemberState}
use Rattle.tk_member.specs.Pacing.{IsFresh}
use Rattle.tk_member.specs.SetUp.{SpellsKeyed, IsSetUp, member_of}
use Rattle.tk_member.proofs.PacingLaws.{counts-none}

-- four bytes are a number's spelling, and others stand behind it
pub front-joined : (bytes : List ℕ) → IsBytes bytes → 4 ≤ length bytes →
    be32 (number_at 0 bytes) ++ drop 4 bytes ≡ bytes
front-joined bytes fits long =
    let front : be32 (number_at 0 bytes) ≡ take 4 bytes =
    be_bytes_4 (take 4 bytes) _ (omega (arith, long, length-take 4 bytes)) (IsBytes-take 4 bytes fits) refl
    in
    ap (λ xs. xs ++ drop 4 bytes) front ∙ take-append-drop 4 bytes

-- the number in front of a text, and the text, as they are read
pub record IsRead (bytes : List ℕ) (number : ℕ) (text : List ℕ) : Type 0 where
  pub number_is : number_at 0 bytes ≡ number
  pub text_is : drop 4 bytes ≡ text

-- in a packet that sets a member up
pub set-up-read : (first : PacketView) (bytes : List ℕ) (b : WordBook) (m : MemberState) →
    bytes ≡ first.bytes → (is : IsSetUp first b m) → IsRead bytes is.number is.sets.text
set-up-read first bytes b m same is =
    let whole : bytes ≡ be32 is.number ++ is.sets.text = same ∙ is.sets.whole in
    let low : is.number < 2 ^ 32 =
    omega (arith, is.sets.number_in, is.input.first.shape.in_range.clients_high)
    in
    record {
      number_is = ap (number_at 0) whole ∙ from_be_bytes-to_be_bytes_4 is.number low;
      text_is = ap (λ (bs : List ℕ). drop 4 bs) whole;
    }

-- the words of a keyed script
keyed-book : (input : Input) (keys : Keys) → input.first.keys ≡ Some keys →
    keyed keys.handles keys.seeds ≡ book_of input
keyed-book input keys is = ap (λ (k : Option Keys). book_from k input.tape) (sym is)

pub sets-up : (first : PacketView) (text : List ℕ) (number : ℕ) (script : Script) (input : Input)
    (b : WordBook) (m : MemberState) → first.peer ≡ 0 → first.bytes ≡ be32 number ++ text →
    SpellsKeyed text input → script ≡ input.first → script.says ≡ [] → number < script.shape.clients →
    ((keys : Keys) → script.keys ≡ Some keys → b ≡ keyed keys.handles keys.seeds) →
    m ≡ member_of script number → IsSetUp first b m
sets-up first text number script input b m host whole spelled is silent low words member =
    record {
      of_host = host;
      number = number;
      input = input;
      sets =
          record {
            text = text;
            whole = whole;
            spelled = spelled;
            silent = subst (λ (S : Script). S.says ≡ []) is silent;
            number_in = subst (λ (S : Script). number < S.shape.clients) is low;
          };
      words =
          words spelled.keys (ap (λ (S : Script). S.keys) is ∙ spelled.keyed)
          ∙ keyed-book input spelled.keys spelled.keyed;
      member = member ∙ ap (λ (S : Script). member_of S number) is;
    }

-- ---- a client of a script

pub knowing-first : (S : Script) (number : ℕ) →
    client_knowing S (known_first S) 0 number
    ≡ new_client S.shape number (writes_of S number) (follows_of S number)
unfolding client_knowing writing_before
knowing-first S number = refl

pub fresh-new : (shape : Shape) (number : ℕ) (writes follows : List ℕ) →
    IsFresh (new_client shape number writes follows)
fresh-new shape number writes follows =
    record { silent = refl; counts = counts-none writes; closed = refl }
