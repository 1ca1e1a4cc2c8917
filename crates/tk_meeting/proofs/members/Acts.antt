-- What any member does when it acts: it writes what the serial run has it write, and then asks if a read is due.
use Rattle.tk_meeting.proofs.Terms.{◌≡◌, ℕ, ◌≤◌, List, ◌+◌, ◌-◌, ◌∙◌, refl, ap, sym, zero, suc, arith, ap₂, turn_count}
use Rattle.tk_meeting.proofs.Terms.{WordBook, words_of, Script, Writing, PacketView, ActedMember, acts, behind, wrote}
use Rattle.tk_meeting.proofs.Terms.{asks_if_due, goes_ahead, goes_by_ticks, followed_by, MemberState, sayings, Saying}
use Rattle.tk_meeting.proofs.Terms.{stand}
use Rattle.tk_meeting.proofs.Standing.{IsForetold, said_on}
use Rattle.tk_meeting.proofs.members.Writing.{packets_on, packets-both, queue, with_writing, turned_with, wrote-so}
use Rattle.tk_meeting.proofs.members.Writing.{nothing-said, said-later, said-still}
use Rattle.tk_meeting.proofs.shown.Steps.{gone_ahead, gone_by_ticks, ahead_of, ticks_of}

-- ---- what is said and foretold, in two steps

pub said-both : (g n k : ℕ) (saids : List Saying) →
    said_on (g + n) (g + n + k) (said_on g (g + n) saids) ≡ said_on g (g + n + k) saids
said-both g zero k saids =
    let e : g ≡ g + 0 = omega arith in
    ap₂ (λ x ys. said_on x (g + 0 + k) ys) (sym e) (said-still g (g + 0) saids e)
said-both g (suc n) k saids =
    ap (said_on (g + suc n) (g + suc n + k)) (said-later g (g + suc n) saids (omega arith))
    ∙ nothing-said (g + suc n) (g + suc n + k)
    ∙ sym (said-later g (g + suc n + k) saids (omega arith))

pub foretold-front : (S : Script) (c g n k : ℕ) (saids : List Saying) → k ≤ n →
    IsForetold S c g n saids → IsForetold S c g k saids
foretold-front S c g n k saids within told =
    record {
      here = λ low. told.here (omega (arith, low, within));
      behind = λ i above low. told.behind i above (omega (arith, low, within));
    }

pub foretold-on : (S : Script) (c g n k : ℕ) (saids : List Saying) → IsForetold S c g (g + n + k) saids →
    IsForetold S c (g + n) (g + n + k) (said_on g (g + n) saids)
foretold-on S c g zero k saids told =
    let e : g ≡ g + 0 = omega arith in
    record {
      here = λ low. said-still g (g + 0) saids e ∙ told.here (omega (arith, low)) ∙ ap (sayings S c) e;
      behind = λ i above low. told.behind i (omega (arith, above)) low;
    }
foretold-on S c g (suc n) k saids told =
    record {
      here = λ low.
          said-later g (g + suc n) saids (omega arith) ∙ sym (told.behind (g + suc n) (omega arith) low);
      behind = λ i above low. told.behind i (omega (arith, above)) low;
    }

-- ---- acting

-- a member after its writes, before it asks, and the packets of these writes
pub record Written (S : Script) (b : WordBook) (c : ℕ) (m : MemberState) (saids : List Saying) : Type 0 where
  pub last : MemberState
  pub acts_are : acts b m
      ≡ behind (packets_on S b c m.written (ahead_of (stand m) + ticks_of (stand m))) (asks_if_due b last)
  pub shape : last.client.shape ≡ S.shape
  pub number : last.client.number ≡ c
  pub stands : stand last ≡ gone_by_ticks (gone_ahead (stand m))
  pub writing : let n = m.written + ahead_of (stand m) + ticks_of (stand m) in
      last.client.writing ≡ queue S c n (said_on m.written n saids)

module _ (S : Script) (b : WordBook) (c : ℕ) (m : MemberState) (saids : List Saying)
    (shape : m.client.shape ≡ S.shape) (number : m.client.number ≡ c)
    (writing : m.client.writing ≡ queue S c m.written saids)
    (within : m.written + ahead_of (stand m) + ticks_of (stand m) ≤ turn_count S.shape)
    (told : IsForetold S c m.written (m.written + ahead_of (stand m) + ticks_of (stand m)) saids) where
  abbrev ahead : ℕ
  ahead = ahead_of (stand m)

  abbrev ticking : ℕ
  ticking = ticks_of (stand m)

  abbrev fewer_ahead : MemberState
  fewer_ahead = record m { ahead = m.ahead - ahead }

  abbrev said_then : List Saying
  said_then = said_on m.written (m.written + ahead) saids

  abbrev fewer_ticks : MemberState
  fewer_ticks = record fewer_ahead { ticks = m.ticks - ticking }

  first-goes : goes_ahead (words_of S.shape b) m
      ≡ turned_with fewer_ahead (queue S c (m.written + ahead) said_then) (m.written + ahead)
      (packets_on S b c m.written ahead)
  first-goes =
      ap (λ (w : Writing). wrote (words_of S.shape b) ahead (with_writing fewer_ahead w m.written)) writing
      ∙ wrote-so S b c fewer_ahead shape number ahead m.written saids (omega (arith, within))
      (foretold-front S c m.written (m.written + ahead + ticking) (m.written + ahead) saids (omega arith) told)

  abbrev left_then : Writing
  left_then =
      queue S c (m.written + ahead + ticking)
      (said_on (m.written + ahead) (m.written + ahead + ticking) said_then)

  abbrev turned_then : List PacketView → ActedMember
  turned_then packets = turned_with fewer_ticks left_then (m.written + ahead + ticking) packets

  second-goes :
      goes_by_ticks (words_of S.shape b)
      (with_writing fewer_ahead (queue S c (m.written + ahead) said_then) (m.written + ahead))
      ≡ turned_then (packets_on S b c (m.written + ahead) ticking)
  second-goes =
      wrote-so S b c fewer_ticks shape number ticking (m.written + ahead) said_then within
      (foretold-on S c m.written ahead ticking saids told)

  pub both-go : followed_by (goes_ahead (words_of S.shape b) m) (goes_by_ticks (words_of S.shape b))
      ≡ turned_then (packets_on S b c m.written (ahead + ticking))
  both-go =
      ap (λ (t : ActedMember). followed_by t (goes_by_ticks (words_of S.shape b))) first-goes
      ∙ ap (behind (packets_on S b c m.written ahead)) second-goes
      ∙ ap turned_then (packets-both S b c m.written ahead ticking)

  pub acts-so : Written S b c m saids
  unfolding acts
  acts-so =
      record {
        last = with_writing fewer_ticks left_then (m.written + ahead + ticking);
        acts_are =
            (λ i. followed_by
            (followed_by (goes_ahead (words_of (shape i) b) m) (goes_by_ticks (words_of (shape i) b)))
            (asks_if_due b))
            ∙ ap (λ (t : ActedMember). followed_by t (asks_if_due b)) both-go;
        shape = shape;
        number = number;
        stands = refl;
        writing = ap (queue S c (m.written + ahead + ticking)) (said-both m.written ahead ticking saids);
      }
