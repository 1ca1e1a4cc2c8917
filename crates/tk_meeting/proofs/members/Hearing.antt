-- What becomes of a member when its host tells it something.
use Rattle.tk_meeting.proofs.Terms.{◌≡◌, ℕ, ◌≤◌, min, List, [], ◌∷◌, ◌+◌, cond, ◌++◌, Some, None, ◌∙◌, refl, ap, arith}
use Rattle.tk_meeting.proofs.Terms.{Err, le-ltb, turn_count, WordBook, Script, fault_of, Writing, with_text, SayError}
use Rattle.tk_meeting.proofs.Terms.{writing_before, MemberState, refused_packet, tells_and_acts, heard, said, Older}
use Rattle.tk_meeting.proofs.Terms.{Say, Tick, Ahead, Has, Saying}
use Rattle.tk_meeting.proofs.Canonical.{with_sayings}
use Rattle.tk_meeting.proofs.Pace.{Pace, ticked, sent_ahead}
use Rattle.tk_meeting.proofs.Standing.{IsAt, Readies}
use Rattle.tk_meeting.proofs.members.Members.{member_at, client_at, at-is, at-from}

abbrev pub say_of : ℕ → List ℕ → Saying
say_of log text = record { log = log; text = text }

-- one text more
pub said-one : (saids : List Saying) (log : ℕ) (text : List ℕ) (w : Writing) →
    with_text log text (with_sayings saids w) ≡ with_sayings (saids ++ say_of log text ∷ []) w
unfolding with_sayings
said-one [] log text w = refl
said-one (y ∷ ys) log text w = said-one ys log text (with_text y.log y.text w)

module _ {S : Script} {b : WordBook} {c : ℕ} {p : Pace} {saids : List Saying} {m : MemberState}
    (at : IsAt S b c p saids m) where
  -- a text that the client may say waits from then on
  pub say-readies : (log : ℕ) (text : List ℕ) →
      fault_of m.client.shape m.client.writing.logs log text ≡ None →
      Readies S b c p (saids ++ say_of log text ∷ []) [] (heard b m (Some (Say log text)))
  say-readies log text may =
      let writing = with_text log text m.client.writing in
      record {
        member = record m { client = record m.client { writing = writing } };
        told = [];
        is = ap (said b m log text) may;
        at =
            at-from
            (ap (λ (x : MemberState). record x {
              client = record x.client { writing = with_text log text x.client.writing };
            }) (at-is at)
            ∙ ap (λ (w : Writing). record (member_at S b c p saids) {
              client = record (client_at S b c p saids) { writing = w };
            }) (said-one saids log text (writing_before S c p.written)));
        to_host = tt;
        host = refl;
      }

  -- of one that it may not say its host is told, and nothing else changes
  pub refused-readies : (log : ℕ) (text : List ℕ) (error : SayError) →
      fault_of m.client.shape m.client.writing.logs log text ≡ Some error →
      Readies S b c p saids [] (heard b m (Some (Say log text)))
  refused-readies log text error refused =
      record {
        member = m;
        told = refused_packet log error ∷ [];
        is = ap (said b m log text) refused;
        at = at;
        to_host = (refl, tt);
        host = refl;
      }

  pub tick-readies : Readies S b c (ticked S.shape p) saids [] (heard b m (Some Tick))
  tick-readies =
      record {
        member = record m { ticks = min (m.ticks + 1) (turn_count m.client.shape) };
        told = [];
        is = refl;
        at =
            at-from
            (ap (λ (x : MemberState). record x { ticks = min (x.ticks + 1) (turn_count x.client.shape) }) (at-is at));
        to_host = tt;
        host = refl;
      }

  pub ahead-readies : (turns : ℕ) →
      Readies S b c (sent_ahead S.shape turns p) saids [] (heard b m (Some (Ahead turns)))
  ahead-readies turns =
      record {
        member = record m { ahead = min (m.ahead + turns) (turn_count m.client.shape) };
        told = [];
        is = refl;
        at =
            at-from
            (ap (λ (x : MemberState). record x { ahead = min (x.ahead + turns) (turn_count x.client.shape) })
            (at-is at));
        to_host = tt;
        host = refl;
      }

  -- a server has no more packets of it than it sent
  pub greeted-readies : (packets : ℕ) → packets ≤ p.written + p.asked →
      Readies S b c p saids [] (heard b m (Some (Has packets)))
  greeted-readies packets few =
      let sent : packets ≤ m.written + m.asked = omega (arith, few, at.written_is, at.asked_is) in
      record {
        member = m;
        told = [];
        is =
            ap (λ x. cond x (Err Older) (tells_and_acts b [] m))
            (le-ltb (m.written + m.asked) packets sent);
        at = at;
        to_host = tt;
        host = refl;
      }
