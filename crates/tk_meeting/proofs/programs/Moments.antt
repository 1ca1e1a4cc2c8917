-- What a program that answers packets has put at any moment, and what it has taken.
use Rattle.tk_meeting.proofs.Terms.{◌≡◌, ℕ, List, [], ◌∷◌, map, ◌++◌, Option, Some, None, ◌∙◌, refl, ap, sym, subst}
use Rattle.tk_meeting.proofs.Terms.{append-nil, drop, append_assoc, take, take-append-drop, Passing, taken, Took, Put}
use Rattle.tk_meeting.proofs.Terms.{exchanges, PacketView, taken_in, put_in, IsFront, state_after}

pub taken-append : (xs ys : List Passing) → taken_in (xs ++ ys) ≡ taken_in xs ++ taken_in ys
taken-append [] ys = refl
taken-append (Took p ∷ xs) ys = ap (λ ps. p ∷ ps) (taken-append xs ys)
taken-append (Put p ∷ xs) ys = taken-append xs ys

-- ---- lists

-- the packet that was taken last, if one was
abbrev pub last_of : Option PacketView → List PacketView
last_of None = []
last_of (Some p) = p ∷ []

pub nothing-some : {X : Type 0} (xs : List X) (y : X) (rest : List X) → (xs ++ y ∷ []) ++ rest ≡ [] → ⊥
nothing-some [] y rest is = absurd (cc (is))
nothing-some (x ∷ xs) y rest is = absurd (cc (is))

pub none-first : {X : Type 0} (xs rest : List X) → xs ++ rest ≡ [] → xs ≡ []
none-first [] rest is = refl
none-first (x ∷ xs) rest is = absurd (cc (is))

-- all but the last of a front of some and one more are a front of the some
pub front-before : (xs : List PacketView) (p : PacketView) (rest ps : List PacketView) (o : Option PacketView) →
    (xs ++ p ∷ []) ++ rest ≡ ps ++ last_of o → IsFront xs ps
front-before [] p rest ps o is = record { rest = ps; whole = refl }
front-before (x ∷ xs) p rest [] None is = absurd (cc (is))
front-before (x ∷ xs) p rest [] (Some q) is =
    let none : (xs ++ p ∷ []) ++ rest ≡ [] = cc (is) in absurd (nothing-some xs p rest none)
front-before (x ∷ xs) p rest (q ∷ ps) o is =
    let same : x ≡ q = cc (is) in
    let more : (xs ++ p ∷ []) ++ rest ≡ ps ++ last_of o = cc (is) in
    let front = front-before xs p rest ps o more in
    record { rest = front.rest; whole = ap (λ ys. x ∷ ys) front.whole ∙ ap (λ y. y ∷ ps) same }

-- ---- what passed

-- what passed up to then is a front of all that passes
pub up-to : (xs ys zs past : List Passing) (count : ℕ) → xs ++ ys ≡ past → past ≡ take count zs →
    (rest : List Passing) × (xs ++ rest ≡ zs)
up-to xs ys zs past count first all = (
  ys ++ drop count zs,
  sym (append_assoc xs ys (drop count zs)) ∙ ap (λ l. l ++ drop count zs) (first ∙ all)
      ∙ take-append-drop count zs,
)

-- ---- a program

module _ {X : Type 0} (next : X → PacketView → X) (answers : X → PacketView → List PacketView) where
  -- all that it puts for packets
  abbrev pub sent_after : X → List PacketView → List PacketView
  sent_after x [] = []
  sent_after x (p ∷ ps) = answers x p ++ sent_after (next x p) ps

  pub state-one : (x : X) (ps : List PacketView) (p : PacketView) →
      state_after next x (ps ++ p ∷ []) ≡ next (state_after next x ps) p
  state-one x [] p = refl
  state-one x (q ∷ ps) p = state-one (next x q) ps p

  pub sent-one : (x : X) (ps : List PacketView) (p : PacketView) →
      sent_after x (ps ++ p ∷ []) ≡ sent_after x ps ++ answers (state_after next x ps) p
  sent-one x [] p = append-nil (answers x p)
  sent-one x (q ∷ ps) p =
      ap (λ zs. answers x q ++ zs) (sent-one (next x q) ps p)
      ∙ sym (append_assoc (answers x q) (sent_after (next x q) ps) (answers (state_after next (next x q) ps) p))

  -- What it put is a front of what it puts for what it took; at first it still has these to put.
  pub record Moment (x : X) (ps : List PacketView) (o : Option PacketView) (due : List PacketView)
      (xs : List Passing) : Type 0 where
    pub puts : IsFront (put_in xs) (due ++ sent_after x (taken_in xs))
    pub tooks : IsFront (taken_in xs) (ps ++ last_of o)

  pub moment : (xs rest : List Passing) (x : X) (ps : List PacketView) (o : Option PacketView)
      (due : List PacketView) → xs ++ rest ≡ map Put due ++ (exchanges next answers x ps ++ taken o) →
      Moment x ps o due xs
  moment [] rest x ps o due is =
      record {
        puts = record { rest = due ++ []; whole = refl };
        tooks = record { rest = ps ++ last_of o; whole = refl };
      }
  moment (y ∷ xs) rest x ps o (a ∷ due) is =
      let same : y ≡ Put a = cc (is) in
      let more : xs ++ rest ≡ map Put due ++ (exchanges next answers x ps ++ taken o) = cc (is) in
      let m = moment xs rest x ps o due more in
      subst (λ z. Moment x ps o (a ∷ due) (z ∷ xs)) (sym same) (record {
        puts = record { rest = m.puts.rest; whole = ap (λ zs. a ∷ zs) m.puts.whole };
        tooks = m.tooks;
      })
  moment (y ∷ xs) rest x [] None [] is = absurd (cc (is))
  moment (y ∷ xs) rest x [] (Some p) [] is =
      let same : y ≡ Took p = cc (is) in
      let none : xs ++ rest ≡ [] = cc (is) in
      subst (λ z. Moment x [] (Some p) [] (z ∷ xs)) (sym same)
      (subst (λ zs. Moment x [] (Some p) [] (Took p ∷ zs)) (sym (none-first xs rest none)) (record {
        puts = record { rest = answers x p ++ []; whole = refl };
        tooks = record { rest = []; whole = refl };
      }))
  moment (y ∷ xs) rest x (p ∷ ps) o [] is =
      let later = exchanges next answers (next x p) ps in
      let same : y ≡ Took p = cc (is) in
      let more : xs ++ rest ≡ (map Put (answers x p) ++ later) ++ taken o = cc (is) in
      let m = moment xs rest (next x p) ps o (answers x p)
      (more ∙ append_assoc (map Put (answers x p)) later (taken o))
      in
      subst (λ z. Moment x (p ∷ ps) o [] (z ∷ xs)) (sym same) (record {
        puts = m.puts;
        tooks = record { rest = m.tooks.rest; whole = ap (λ zs. p ∷ zs) m.tooks.whole };
      })
