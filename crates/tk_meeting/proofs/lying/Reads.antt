-- A member keeps the read that it has open, closes it, or opens that of the next turn.
use Rattle.tk_meeting.proofs.Terms.{◌≡◌, ℕ, ◌≤◌, ◌<◌, List, ◌+◌, cond, ◌-◌, Bool, true, false, Option, Some, None}
use Rattle.tk_meeting.proofs.Terms.{Result, Ok, ◌∙◌, refl, sym, arith, subst, ltb-true, ◌⊎◌, inl, inr, Err, and_parts}
use Rattle.tk_meeting.proofs.Terms.{is_none, nat_lt, ◌&&◌, nat_le, turn_count, Shape, WordBook, words_of, BookWords}
use Rattle.tk_meeting.proofs.Terms.{Writing, OpenRead, ActedMember, acts, may_ask, asks, asks_if_due, unmoved, epoch_due}
use Rattle.tk_meeting.proofs.Terms.{goes_ahead, goes_by_ticks, ahead_due, ticks_due, MemberState, known_to, served}
use Rattle.tk_meeting.proofs.Terms.{heard, Fault, Peer, HostWord, Say, Tick, Ahead, Has, is_server, Deed, Ticks, Claims}
use Rattle.tk_meeting.proofs.Terms.{Sends, Answers, Says, GoesAhead, stand, Stand, frame_shown, word_shown}
use Rattle.tk_meeting.proofs.telling.Rising.{cond-has}
use Rattle.tk_meeting.proofs.members.Wrote.{wrote-so}
use Rattle.tk_meeting.proofs.lying.Cores.{does_with}
use Rattle.tk_meeting.proofs.shown.Steps.{ahead_of, written_then, acts-written, EndsOrReadies, heard_so, served_so}
use Rattle.tk_meeting.proofs.shown.Steps.{heard_writing, heard-readies, served-readies}

-- a read that is open is of a turn from this one on, or below it
abbrev pub IsFrom : ℕ → Option OpenRead → Type 0
IsFrom n None = Unit {0}
IsFrom n (Some read) = n ≤ read.turn

abbrev pub IsBelow : ℕ → Option OpenRead → Type 0
IsBelow n None = Unit {0}
IsBelow n (Some read) = read.turn < n

-- a member as it is in a run: it writes before it asks, and the turn of its read is one that it asked
pub record InRun (m : MemberState) : Type 0 where
  pub below : IsBelow m.asked m.client.read
  pub behind : m.asked ≤ m.written
  pub within : m.written ≤ turn_count m.client.shape

-- a member that asked in so many turns and had this read open, later
pub record Moves (asked : ℕ) (read : Option OpenRead) (shape : Shape) (number : ℕ) (m : MemberState) : Type 0 where
  pub rises : asked ≤ m.asked
  pub reads : (m.client.read ≡ read) ⊎ IsFrom asked m.client.read
  pub run : InRun m
  pub shape_is : m.client.shape ≡ shape
  pub number_is : m.client.number ≡ number

-- ---- acting

-- one that it was as
pub record Keeps (asked : ℕ) (read : Option OpenRead) (shape : Shape) (number : ℕ) (m : MemberState) : Type 0 where
  pub asked_is : m.asked ≡ asked
  pub read_is : m.client.read ≡ read
  pub shape_is : m.client.shape ≡ shape
  pub number_is : m.client.number ≡ number

keeps-moves : (asked : ℕ) (read : Option OpenRead) (shape : Shape) (number : ℕ) (m n : MemberState) →
    Keeps asked read shape number m → Moves m.asked m.client.read m.client.shape m.client.number n →
    Moves asked read shape number n
keeps-moves asked read shape number m n keeps moves =
    record {
      rises = omega (arith, moves.rises, keeps.asked_is);
      reads = from moves.reads;
      run = moves.run;
      shape_is = moves.shape_is ∙ keeps.shape_is;
      number_is = moves.number_is ∙ keeps.number_is;
    }
  where
    from : (n.client.read ≡ m.client.read) ⊎ IsFrom m.asked n.client.read →
        (n.client.read ≡ read) ⊎ IsFrom asked n.client.read
    from (inl same) = inl (same ∙ keeps.read_is)
    from (inr later) = inr (subst (λ (k : ℕ). IsFrom k n.client.read) keeps.asked_is later)

asked-moves : (b : WordBook) (m : MemberState) → InRun m →
    Moves m.asked m.client.read m.client.shape m.client.number (asks_if_due b m).member
asked-moves b m run = either (may_ask m) refl
  where
    either : (t : Bool) → may_ask m ≡ t →
        Moves m.asked m.client.read m.client.shape m.client.number (cond t (asks b m) (unmoved m)).member
    either true is =
        let known = nat_le (epoch_due m.client.shape m.asked) (known_to m) in
        let both = and_parts (nat_lt m.asked m.written && is_none m.client.read) known is in
        let low : m.asked < m.written =
        ltb-true m.asked m.written (and_parts (nat_lt m.asked m.written) (is_none m.client.read) both.0).0
        in
        record {
          rises = omega arith;
          reads = inr (omega arith);
          run = record { below = omega arith; behind = omega (arith, low); within = run.within };
          shape_is = refl;
          number_is = refl;
        }
    either false is =
        record { rises = omega arith; reads = inl refl; run = run; shape_is = refl; number_is = refl }

asked-written : (b : WordBook) (m : MemberState) → (asks_if_due b m).member.written ≡ m.written
asked-written b m =
    cond-has (λ (t : ActedMember). t.member.written ≡ m.written) (may_ask m) (asks b m) (unmoved m) refl refl

-- once it has written
pub writes-keep : (w : BookWords) (m : MemberState) →
    Keeps m.asked m.client.read m.client.shape m.client.number (goes_by_ticks w (goes_ahead w m).member).member
writes-keep w m =
    let first : MemberState = (goes_ahead w m).member in
    let one = wrote-so w (ahead_due m) (record m { ahead = m.ahead - ahead_due m }) in
    let two = wrote-so w (ticks_due first) (record first { ticks = first.ticks - ticks_due first }) in
    record {
      asked_is = two.asked ∙ one.asked;
      read_is = two.read ∙ one.read;
      shape_is = two.shape ∙ one.shape;
      number_is = two.number ∙ one.number;
    }

acts-moves : (b : WordBook) (m : MemberState) → InRun m →
    Moves m.asked m.client.read m.client.shape m.client.number (acts b m).member
unfolding acts
acts-moves b m run =
    let w = words_of m.client.shape b in
    let second : MemberState = (goes_by_ticks w (goes_ahead w m).member).member in
    let keeps : Keeps m.asked m.client.read m.client.shape m.client.number second = writes-keep w m in
    let last : second.written ≡ written_then m = sym (asked-written b second) ∙ acts-written b m in
    let ahead : m.written + ahead_of (stand m) ≤ turn_count m.client.shape = omega (arith, run.within) in
    let most : written_then m ≤ turn_count m.client.shape = omega (arith, ahead) in
    let there : InRun second =
    record {
      below =
          subst (λ (n : ℕ). IsBelow n second.client.read) (sym keeps.asked_is)
          (subst (IsBelow m.asked) (sym keeps.read_is) run.below);
      behind = omega (arith, keeps.asked_is, run.behind, last);
      within =
          subst (λ (k : Shape). second.written ≤ turn_count k) (sym keeps.shape_is)
          (subst (λ (n : ℕ). n ≤ turn_count m.client.shape) (sym last) most);
    }
    in
    keeps-moves m.asked m.client.read m.client.shape m.client.number second (asks_if_due b second).member keeps
    (asked-moves b second there)

-- after its read is closed
closed-moves : (asked : ℕ) (read : Option OpenRead) (shape : Shape) (number : ℕ) (m : MemberState) →
    Moves asked None shape number m → Moves asked read shape number m
closed-moves asked read shape number m moves =
    record {
      rises = moves.rises;
      reads = inr (from moves.reads);
      run = moves.run;
      shape_is = moves.shape_is;
      number_is = moves.number_is;
    }
  where
    from : (m.client.read ≡ None) ⊎ IsFrom asked m.client.read → IsFrom asked m.client.read
    from (inl none) = subst (IsFrom asked) (sym none) tt
    from (inr later) = later

-- ---- results

abbrev pub MovesIn : ℕ → Option OpenRead → Shape → ℕ → Result ActedMember Fault → Type 0
MovesIn asked read shape number (Ok t) = Moves asked read shape number t.member
MovesIn asked read shape number (Err fault) = Unit {0}

-- from a member on
abbrev pub MovesOn : MemberState → Result ActedMember Fault → Type 0
MovesOn m result = MovesIn m.asked m.client.read m.client.shape m.client.number result

module _ (b : WordBook) where
  -- a member that goes on to act from one that is in a run
  goes-moves : (writing : Writing) (m : MemberState) (r : Result ActedMember Fault) (s : Result Stand Fault) → InRun m →
      EndsOrReadies b writing m r s → MovesOn m r
  goes-moves writing m r s run (inl e) = subst (MovesOn m) (sym e.is) tt
  goes-moves writing m r s run (inr e) = subst (MovesOn m) (sym e.is) (either e.read_is)
    where
      n : MemberState
      n = e.first

      at : IsBelow n.asked n.client.read → InRun n
      at below =
          record {
            below = below;
            behind = omega (arith, run.behind, e.asked_is, e.written_is);
            within =
                subst (λ (k : Shape). n.written ≤ turn_count k) (sym e.shape_is)
                (subst (λ (g : ℕ). g ≤ turn_count m.client.shape) (sym e.written_is) run.within);
          }

      from : (read : Option OpenRead) → n.client.read ≡ read → IsBelow n.asked n.client.read →
          Moves m.asked read m.client.shape m.client.number (acts b n).member
      from read read_is below =
          keeps-moves m.asked read m.client.shape m.client.number n (acts b n).member
          (record { asked_is = e.asked_is; read_is = read_is; shape_is = e.shape_is; number_is = e.number_is })
          (acts-moves b n (at below))

      either : (n.client.read ≡ m.client.read) ⊎ (n.client.read ≡ None) →
          Moves m.asked m.client.read m.client.shape m.client.number (acts b n).member
      either (inl same) =
          from m.client.read same
          (subst (λ (g : ℕ). IsBelow g n.client.read) (sym e.asked_is) (subst (IsBelow m.asked) (sym same) run.below))
      either (inr none) =
          closed-moves m.asked m.client.read m.client.shape m.client.number (acts b n).member
          (from None none (subst (IsBelow n.asked) (sym none) tt))

  heard-moves : (m : MemberState) (o : Option HostWord) → InRun m → MovesOn m (heard b m o)
  heard-moves m o run =
      goes-moves (heard_writing m o) m (heard b m o) (heard_so (stand m) (word_shown o)) run (heard-readies b m o)

  served-moves : (m : MemberState) (j : ℕ) (frame : List ℕ) → InRun m → MovesOn m (served b m j frame)
  served-moves m j frame run =
      goes-moves m.client.writing m (served b m j frame) (served_so (stand m) j (frame_shown m.client.shape frame)) run
      (served-readies b m j frame)

  pub does-moves : (j : ℕ) (answer : List ℕ) (m : MemberState) (d : Deed) → InRun m →
      MovesOn m (does_with j answer b m d)
  does-moves j answer m (Says c log text) run = heard-moves m (Some (Say log text)) run
  does-moves j answer m (Ticks c) run = heard-moves m (Some Tick) run
  does-moves j answer m (GoesAhead c turns) run = heard-moves m (Some (Ahead turns)) run
  does-moves j answer m (Claims c count) run = heard-moves m (Some (Has count)) run
  does-moves j answer m (Sends c i frame) run =
      cond-has (MovesOn m) (is_server m.client.shape i) (served b m i frame) (Err Peer) (served-moves m i frame run) tt
  does-moves j answer m (Answers c table) run = served-moves m j answer run
