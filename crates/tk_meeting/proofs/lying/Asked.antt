-- Each read of a run is for the buckets that are noted for it.
use Rattle.tk_meeting.proofs.Terms.{◌≡◌, ℕ, ◌<◌, List, [], ◌∷◌, ◌==◌, cond, ◌++◌, Bool, Option, Some, None, Result, Ok}
use Rattle.tk_meeting.proofs.Terms.{◌∙◌, refl, ap, sym, arith, subst, eqb-true, ◌⊎◌, inl, inr, eq-eqb, append_assoc}
use Rattle.tk_meeting.proofs.Terms.{ne_eqb, Err, Shape, WordBook, Script, OpenRead, Pairs, ActedMember, MemberState, Fault}
use Rattle.tk_meeting.proofs.Terms.{is_client, Deed, Hidden, doer, pair_open, pair_noted, no_pairs, pairs_of, opening}
use Rattle.tk_meeting.proofs.lying.Outcomes.{table_of}
use Rattle.tk_meeting.proofs.lying.Books.{IsOf, AreAsked}
use Rattle.tk_meeting.proofs.courses.Picks.{at-place, pick}
use Rattle.tk_meeting.proofs.telling.Rising.{cond-has}
use Rattle.tk_meeting.proofs.lying.Cores.{Core, core, left, does_with, own_answer, went_core, unless_core, core_step}
use Rattle.tk_meeting.proofs.lying.Cores.{core_run, core_noted, core_pairs, run-core, pairs-core}
use Rattle.tk_meeting.proofs.lying.Reads.{IsFrom, IsBelow, InRun, Moves, MovesOn, does-moves}

-- ---- each member moves

abbrev pub AllInRun : Core → Type 0
AllInRun k = (c : ℕ) → InRun (k.members c)

-- a member from another one on
abbrev pub MovesFrom : MemberState → MemberState → Type 0
MovesFrom x y = Moves x.asked x.client.read x.client.shape x.client.number y

abbrev pub AllMove : Core → Core → Type 0
AllMove k n = (c : ℕ) → MovesFrom (k.members c) (n.members c)

stays : (k : Core) → AllInRun k → AllMove k k
stays k run c =
    record { rises = omega arith; reads = inl refl; run = run c; shape_is = refl; number_is = refl }

pub opening-runs : (S : Script) → AllInRun (core (opening S))
opening-runs S c = record { below = tt; behind = omega arith; within = omega arith }

went-moves : (k : Core) (c : ℕ) (r : Result ActedMember Fault) → AllInRun k → MovesOn (k.members c) r →
    AllMove k (went_core c (left r) k)
went-moves k c (Ok t) run moves x =
    at-place (λ y e. MovesFrom (k.members y) (cond e t.member (k.members y))) c x moves (λ e. stays k run x)
went-moves k c (Err fault) run moves x = stays k run x

module _ (shape : Shape) (j : ℕ) (answers : ℕ → MemberState → List ℕ) (b : WordBook) where
  pub step-moves : (k : Core) (d : Deed) → AllInRun k → AllMove k (core_step shape j answers b k d)
  step-moves k d run =
      let c = doer d in
      let m = k.members c in
      let r = does_with j (answers (table_of d) m) b m d in
      cond-has (AllMove k) (is_client shape c) (unless_core (k.ended c) k (went_core c (left r) k)) k
      (unless (k.ended c) (went_core c (left r) k)
      (went-moves k c r run (does-moves b j (answers (table_of d) m) m d (run c))))
      (stays k run)
    where
      unless : (o : Option Fault) (after : Core) → AllMove k after → AllMove k (unless_core o k after)
      unless None after moves = moves
      unless (Some fault) after moves = stays k run

  -- ---- what is noted stays

  -- a read that is open is for the buckets that are noted
  abbrev pub AreNoted : Core → Pairs → Type 0
  AreNoted k pairs = (c : ℕ) → IsOf shape b pairs c (k.members c).client.read

  own-noted : (g c : ℕ) (old : ℕ × ℕ) (read : OpenRead) → read.turn ≡ g →
      pair_noted shape b g c old (Some read) ≡ pair_open shape b c read
  own-noted g c old read is = ap (λ (t : Bool). cond t (pair_open shape b c read) old) (eq-eqb read.turn g is)

  pub all-noted : (k : Core) (pairs : Pairs) → AreNoted k (core_noted shape b k pairs)
  all-noted k pairs c = at (k.members c).client.read refl
    where
      at : (o : Option OpenRead) → (k.members c).client.read ≡ o → IsOf shape b (core_noted shape b k pairs) c o
      at None is = tt
      at (Some read) is =
          sym (ap (pair_noted shape b read.turn c (pairs read.turn c)) is
          ∙ own-noted read.turn c (pairs read.turn c) read refl)

  -- of turns that were asked before
  one-stays : (c g n : ℕ) (pairs : Pairs) (o p : Option OpenRead) → g < n → IsOf shape b pairs c o →
      (p ≡ o) ⊎ IsFrom n p → pair_noted shape b g c (pairs g c) p ≡ pairs g c
  one-stays c g n pairs o None low noted moved = refl
  one-stays c g n pairs o (Some read) low noted (inl same) =
      pick (λ t. cond t (pair_open shape b c read) (pairs g c) ≡ pairs g c) (read.turn == g)
      (λ e. subst (IsOf shape b pairs c) (sym same) noted ∙ ap (λ (k : ℕ). pairs k c) (eqb-true read.turn g e))
      (λ e. refl)
  one-stays c g n pairs o (Some read) low noted (inr later) =
      ap (λ (t : Bool). cond t (pair_open shape b c read) (pairs g c))
      (ne_eqb read.turn g (λ e. omega (arith, e, later, low)))

  pub pairs-stay : (ds : List Deed) (k : Core) (pairs : Pairs) → AllInRun k → AreNoted k pairs → (g c : ℕ) →
      g < (k.members c).asked → core_pairs shape j answers b k pairs ds g c ≡ pairs g c
  unfolding core_pairs
  pairs-stay [] k pairs run noted g c low = refl
  pairs-stay (d ∷ ds) k pairs run noted g c low =
      let next = core_step shape j answers b k d in
      let moves : AllMove k next = step-moves k d run in
      pairs-stay ds next (core_noted shape b next pairs) (λ x. (moves x).run) (all-noted next pairs) g c
      (omega (arith, low, (moves c).rises))
      ∙ one-stays c g (k.members c).asked pairs (k.members c).client.read (next.members c).client.read low
      (noted c) (moves c).reads

  -- at any time of a run from here on reads are for the buckets that the whole run notes
  pub asked-from : (front back : List Deed) (k : Core) (pairs : Pairs) → AllInRun k → AreNoted k pairs → (c : ℕ) →
      IsOf shape b (core_pairs shape j answers b k pairs (front ++ back)) c
      ((core_run shape j answers b k front).members c).client.read
  unfolding core_pairs core_run
  asked-from [] back k pairs run noted c = at (k.members c).client.read refl
    where
      at : (o : Option OpenRead) → (k.members c).client.read ≡ o →
          IsOf shape b (core_pairs shape j answers b k pairs back) c o
      at None is = tt
      at (Some read) is =
          let of : pair_open shape b c read ≡ pairs read.turn c = subst (IsOf shape b pairs c) is (noted c) in
          let low : read.turn < (k.members c).asked = subst (IsBelow (k.members c).asked) is (run c).below in
          of ∙ sym (pairs-stay back k pairs run noted read.turn c low)
  asked-from (d ∷ ds) back k pairs run noted c =
      let next = core_step shape j answers b k d in
      let moves : AllMove k next = step-moves k d run in
      asked-from ds back next (core_noted shape b next pairs) (λ x. (moves x).run) (all-noted next pairs) c

pub are-asked : (S : Script) (h : Hidden) (b : WordBook) (deeds more : List Deed) →
    AreAsked S h b (pairs_of S h b (deeds ++ more)) deeds
are-asked S h b deeds more done rest is c client =
    let shape = S.shape in
    let answers = own_answer h b in
    let whole : deeds ++ more ≡ done ++ (rest ++ more) =
    ap (λ (xs : List Deed). xs ++ more) is ∙ append_assoc done rest more
    in
    let pairs : core_pairs shape h.server answers b (core (opening S)) no_pairs (done ++ (rest ++ more))
    ≡ pairs_of S h b (deeds ++ more) =
    sym (pairs-core shape h b (opening S) no_pairs (done ++ (rest ++ more))) ∙ ap (pairs_of S h b) (sym whole)
    in
    subst (λ (k : Core). IsOf shape b (pairs_of S h b (deeds ++ more)) c (k.members c).client.read)
    (sym (run-core shape h b (opening S) done))
    (subst (λ (p : Pairs).
    IsOf shape b p c ((core_run shape h.server answers b (core (opening S)) done).members c).client.read) pairs
    (asked-from shape h.server answers b done (rest ++ more) (core (opening S)) no_pairs (opening-runs S) (λ x. tt) c))
