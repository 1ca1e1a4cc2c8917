-- Runs under attack: what stays from move to move, and which runs are the same.
use Rattle.std.proofs.Common.{◌≡◌, ◌≢◌, refl, ap, ap₂, ◌∙◌, subst, arith, le_trans, inl, inr}
use Rattle.std.proofs.Common.{ℕ, zero, suc, ◌+◌, ◌<◌, ◌≤◌, ◌==◌, Bool, true, false, cond}
use Rattle.std.specs.Prelude.{nat_lt, ◌&&◌}
use Rattle.std.proofs.lemmas.Bool.{cases_lt, and_parts, eqb-true, eq-eqb, ltb-true, false_from_ne_true}
use Rattle.tk_shape.specs.declared.shape.Shape.{Shape}
use Rattle.tk_shape.specs.Lengths.{turn_count}
use Rattle.tk_script.specs.declared.script.Script.{Script}
use Rattle.tk_words.specs.Words.{BookWords}
use Rattle.tk_frames.specs.declared.write_frame.WriteFrame.{WriteFrame}
use Rattle.tk_frames.specs.declared.read_frame.ReadFrame.{ReadFrame}
use Rattle.tk_report.specs.Entries.{write_at}
use Rattle.tk_privacy.specs.Privacy.{Pairs}
use Rattle.tk_hostile.specs.Attack.{Adversary, Acting, Attacked, Ask, Frames, Move, Writes, Reads}
use Rattle.tk_hostile.specs.Attack.{ask_of, after_write, after_ask, is_due, moved, attacked}

-- ---- a choice

-- what stands on either side of it
pub cond-either : {X : Type 0} (P : X → Type 0) (t : Bool) (a b : X) → P a → P b → P (cond t a b)
cond-either P true a b one other = one
cond-either P false a b one other = other

-- sides that agree where it holds
pub cond-same : {X : Type 0} (t : Bool) (a b c : X) → (t ≡ true → a ≡ b) → cond t a c ≡ cond t b c
cond-same true a b c same = same refl
cond-same false a b c same = refl

-- such a turn and such a client
pub record IsDue (shape : Shape) (g c : ℕ) : Type 0 where
  pub turn : g < turn_count shape
  pub client : c < shape.clients

pub due-from : (shape : Shape) (g c : ℕ) → is_due shape g c ≡ true → IsDue shape g c
due-from shape g c e =
    let parts = and_parts (nat_lt g (turn_count shape)) (nat_lt c shape.clients) e in
    record {
      turn = ltb-true g (turn_count shape) parts.0;
      client = ltb-true c shape.clients parts.1;
    }

-- ---- what stays

-- no client has asked less, and the buckets of reads that were asked are as they were
record Keeps (x y : Attacked) : Type 0 where
  asked : (c : ℕ) → (x.clients c).asked ≤ (y.clients c).asked
  pairs : (g c : ℕ) → g < (x.clients c).asked → y.pairs g c ≡ x.pairs g c

keeps-self : (x : Attacked) → Keeps x x
keeps-self x = record { asked = λ c. omega arith; pairs = λ g c low. refl }

keeps-both : (x y z : Attacked) → Keeps x y → Keeps y z → Keeps x z
keeps-both x y z p q =
    record {
      asked = λ c. le_trans (p.asked c) (q.asked c);
      pairs = λ g c low. q.pairs g c (omega (arith, low, p.asked c)) ∙ p.pairs g c low;
    }

asked-more : (clients : ℕ → Acting) (c d : ℕ) (is : Acting) → (clients c).asked ≤ is.asked →
    (clients d).asked ≤ (cond (d == c) is (clients d)).asked
asked-more clients c d is more =
    elim (d == c) as (λ t. d == c ≡ t → (clients d).asked ≤ (cond t is (clients d)).asked) [
      | true ↦ λ e.
          let one : (clients d).asked ≡ (clients c).asked =
          ap (λ k. (clients k).asked) (eqb-true d c e)
          in
          omega (arith, one, more)
      | false ↦ λ e. omega arith
    ] refl

keeps-write : (c : ℕ) (write : WriteFrame) (x : Attacked) → Keeps x (after_write c write x)
unfolding after_write
keeps-write c write x =
    record {
      asked = λ d. asked-more x.clients c d _ (omega arith);
      pairs = λ g d low. refl;
    }

pairs-stay : (pairs : Pairs) (g c f d : ℕ) (pair : ℕ × ℕ) → (f ≡ g → d ≢ c) →
    cond (f == g && d == c) pair (pairs f d) ≡ pairs f d
pairs-stay pairs g c f d pair apart =
    ap (λ t. cond t pair (pairs f d))
    (false_from_ne_true (f == g && d == c) (λ e.
    let both = and_parts (f == g) (d == c) e in
    apart (eqb-true f g both.0) (eqb-true d c both.1)))

module _ (shape : Shape) (h c : ℕ) (ask : Ask) (frame : ℕ → ReadFrame) (x : Attacked) where
  keeps-ask : Keeps x (after_ask shape h c ask frame x)
  unfolding after_ask
  keeps-ask =
      record {
        asked = λ d. asked-more x.clients c d _ (omega arith);
        pairs = λ f d low.
            pairs-stay x.pairs (x.clients c).asked c f d ask.pair (λ same_turn same_client.
            let at : (x.clients d).asked ≡ (x.clients c).asked =
            ap (λ k. (x.clients k).asked) same_client
            in
            absurd (omega (arith, low, same_turn, at)));
      }

  -- the read is asked, in its buckets
  asked-now : (x.clients c).asked < ((after_ask shape h c ask frame x).clients c).asked
  unfolding after_ask
  asked-now =
      let is : Acting = record {
        written = (x.clients c).written;
        asked = (x.clients c).asked + 1;
        reader = ask.reader;
        target = ask.target;
        hidden = frame h;
      } in
      let same : (cond (c == c) is (x.clients c)).asked ≡ (x.clients c).asked + 1 =
      ap (λ t. (cond t is (x.clients c)).asked) (eq-eqb c c refl)
      in
      omega (arith, same)

  pair-now : (after_ask shape h c ask frame x).pairs (x.clients c).asked c ≡ ask.pair
  unfolding after_ask
  pair-now =
      let g = (x.clients c).asked in
      ap₂ (λ (s t : Bool). cond (s && t) ask.pair (x.pairs g c)) (eq-eqb g g refl)
      (eq-eqb c c refl)

-- ---- the moves of a run

module _ (S : Script) (w : BookWords) (h : ℕ) (adversary : Adversary) (frames : Frames) where
  -- the run once client c has asked
  abbrev pub asks : Attacked → ℕ → Attacked
  asks x c =
      let ask = ask_of S w adversary c x in
      after_ask S.shape h c ask (frames (x.clients c).asked c ask.epoch ask.pair) x

  keeps-moved : (x : Attacked) (move : Move) → Keeps x (moved S w h adversary frames x move)
  unfolding moved
  keeps-moved x (Writes c) =
      let g = (x.clients c).written in
      let write = write_at S w g c in
      cond-either (Keeps x) (is_due S.shape g c) (after_write c write x) x (keeps-write c write x)
      (keeps-self x)
  keeps-moved x (Reads c) =
      let g = (x.clients c).asked in
      let ask = ask_of S w adversary c x in
      cond-either (Keeps x) (is_due S.shape g c) (asks x c) x
      (keeps-ask S.shape h c ask (frames g c ask.epoch ask.pair) x) (keeps-self x)

  keeps-till : (k n : ℕ) → k ≤ n →
      Keeps (attacked S w h adversary frames k) (attacked S w h adversary frames n)
  unfolding attacked
  keeps-till k zero low =
      let none : 0 ≡ k = omega (arith, low) in
      subst (λ m. Keeps (attacked S w h adversary frames m) (attacked S w h adversary frames 0)) none
      (keeps-self (attacked S w h adversary frames 0))
  keeps-till k (suc n) low =
      let x = attacked S w h adversary frames n in
      elim (cases_lt k (suc n)) [
        | inl less ↦
            keeps-both (attacked S w h adversary frames k) x
            (attacked S w h adversary frames (suc n)) (keeps-till k n (omega (arith, less)))
            (keeps-moved x (adversary.next x.seen))
        | inr at ↦
            let last : suc n ≡ k = omega (arith, low, at) in
            subst (λ m. Keeps (attacked S w h adversary frames m)
            (attacked S w h adversary frames (suc n))) last
            (keeps-self (attacked S w h adversary frames (suc n)))
      ]

  -- the buckets of a read are those that the whole run tells for its turn
  pub pair-kept : (k n c : ℕ) → suc k ≤ n →
      let x = attacked S w h adversary frames k in
      adversary.next x.seen ≡ Reads c → is_due S.shape (x.clients c).asked c ≡ true →
      (attacked S w h adversary frames n).pairs (x.clients c).asked c
      ≡ (ask_of S w adversary c x).pair
  unfolding attacked moved
  pair-kept k n c low move due =
      let x = attacked S w h adversary frames k in
      let g = (x.clients c).asked in
      let ask = ask_of S w adversary c x in
      let frame = frames g c ask.epoch ask.pair in
      let here : attacked S w h adversary frames (suc k) ≡ asks x c =
      ap (moved S w h adversary frames x) move ∙ ap (λ t. cond t (asks x c) x) due
      in
      let kept = subst (λ y. Keeps y (attacked S w h adversary frames n)) here
      (keeps-till (suc k) n low) in
      kept.pairs g c (asked-now S.shape h c ask frame x) ∙ pair-now S.shape h c ask frame x

-- ---- runs with frames that agree

module _ (S : Script) (w : BookWords) (h : ℕ) (adversary : Adversary) (frames frames' : Frames)
    (n : ℕ) where
  -- in the buckets of the whole run
  abbrev Agree : Type 0
  Agree =
      let pairs = (attacked S w h adversary frames n).pairs in
      (g c e j : ℕ) → g < turn_count S.shape → c < S.shape.clients →
      frames g c e (pairs g c) j ≡ frames' g c e (pairs g c) j

  module _ (agree : Agree) where
    moved-same : (k : ℕ) (move : Move) → suc k ≤ n →
        let x = attacked S w h adversary frames k in
        adversary.next x.seen ≡ move →
        moved S w h adversary frames x move ≡ moved S w h adversary frames' x move
    unfolding moved
    moved-same k (Writes c) low is = refl
    moved-same k (Reads c) low is =
        let x = attacked S w h adversary frames k in
        let g = (x.clients c).asked in
        let ask = ask_of S w adversary c x in
        cond-same (is_due S.shape g c) (asks S w h adversary frames x c)
        (asks S w h adversary frames' x c) x
        (λ e.
        let due = due-from S.shape g c e in
        let frame : frames g c ask.epoch ask.pair ≡ frames' g c ask.epoch ask.pair =
        λ i j. subst (λ (pair : ℕ × ℕ). frames g c ask.epoch pair j
        ≡ frames' g c ask.epoch pair j) (pair-kept S w h adversary frames k n c low is e)
        (agree g c ask.epoch j due.turn due.client) i
        in
        ap (λ (f : ℕ → ReadFrame). after_ask S.shape h c ask f x) frame)

    runs-same : (k : ℕ) → k ≤ n →
        attacked S w h adversary frames k ≡ attacked S w h adversary frames' k
    unfolding attacked
    runs-same zero low = refl
    runs-same (suc k) low =
        let x = attacked S w h adversary frames k in
        moved-same k (adversary.next x.seen) low refl
        ∙ ap (λ (y : Attacked). moved S w h adversary frames' y (adversary.next y.seen))
        (runs-same k (omega (arith, low)))

    pub pairs-same : (attacked S w h adversary frames n).pairs
        ≡ (attacked S w h adversary frames' n).pairs
    pairs-same = ap (λ (x : Attacked). x.pairs) (runs-same n (omega arith))
