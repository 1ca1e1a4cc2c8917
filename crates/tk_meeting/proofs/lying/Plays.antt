-- Liars see the same of two groups over matched tapes, step by step.
use Rattle.tk_meeting.proofs.Terms.{◌≡◌, ℕ, List, [], ◌∷◌, length, map, ◌+◌, ◌++◌, ◌∙◌, refl, ap, sym, zero, suc, arith}
use Rattle.tk_meeting.proofs.Terms.{subst, append-nil, append_assoc, ap₂, length-append, range_with_len, Shape}
use Rattle.tk_meeting.proofs.Terms.{WordBook, drawn, Script, map-range_same, sight, JointSight, Liars, with_text_of, Play}
use Rattle.tk_meeting.proofs.Terms.{play, retold, PlayAlike, LiarsPlayAlike, HasWhatWasSaid, Deed, Ticks, Claims, Sends, Answers}
use Rattle.tk_meeting.proofs.Terms.{Hidden, lied, Says, GoesAhead, deed_shown, DoAlike, StandAlike, AreGroups, AreMatched}
use Rattle.tk_meeting.proofs.Terms.{Saying, Meeting}
use Rattle.tk_meeting.proofs.lying.Tapes.{liars-see-alike}
use Rattle.tk_privacy.proofs.Offers as privacy

-- ---- the same is seen

pub same-sight : (shape : Shape) (h : Hidden) (m n : Meeting) → StandAlike shape h m n →
    sight shape h m ≡ sight shape h n
same-sight shape h m n alike =
    let sent =
    privacy.others-same (λ j. map (λ c. m.up c j) (range_with_len 0 shape.clients))
    (λ j. map (λ c. n.up c j) (range_with_len 0 shape.clients)) shape h.server
    (λ j low high differ. map-range_same (λ c. m.up c j) (λ c. n.up c j) 0 shape.clients
    (λ c less. alike.sent c j (omega (arith, less)) low high differ))
    in
    let ended = map-range_same m.ended n.ended 0 shape.clients (λ c less. alike.ended c (omega (arith, less))) in
    λ i. record { sent = sent i; ended = ended i }

-- ---- deeds with other texts

retold-shown : (texts : ℕ → Saying) (k : ℕ) (d : Deed) → deed_shown (with_text_of texts k d) ≡ deed_shown d
retold-shown texts k (Says c log text) = refl
retold-shown texts k (Ticks c) = refl
retold-shown texts k (GoesAhead c turns) = refl
retold-shown texts k (Claims c count) = refl
retold-shown texts k (Sends c j frame) = refl
retold-shown texts k (Answers c table) = refl

retold-twice : (texts others : ℕ → Saying) (k : ℕ) (d : Deed) →
    with_text_of others k (with_text_of texts k d) ≡ with_text_of others k d
retold-twice texts others k (Says c log text) = refl
retold-twice texts others k (Ticks c) = refl
retold-twice texts others k (GoesAhead c turns) = refl
retold-twice texts others k (Claims c count) = refl
retold-twice texts others k (Sends c j frame) = refl
retold-twice texts others k (Answers c table) = refl

retold-alike : (texts : ℕ → Saying) (k : ℕ) (ds : List Deed) → DoAlike ds (retold texts k ds)
unfolding retold
retold-alike texts k [] = refl
retold-alike texts k (d ∷ ds) =
    ap₂ (λ (x : Deed) (xs : List Deed). x ∷ xs) (sym (retold-shown texts k d)) (retold-alike texts (k + 1) ds)

retold-append : (texts : ℕ → Saying) (k : ℕ) (ds es : List Deed) →
    retold texts k (ds ++ es) ≡ retold texts k ds ++ retold texts (k + length ds) es
unfolding retold
retold-append texts k [] es = ap (λ (n : ℕ). retold texts n es) (omega arith)
retold-append texts k (d ∷ ds) es =
    let place : k + 1 + length ds ≡ k + suc (length ds) = omega arith in
    ap (λ (xs : List Deed). with_text_of texts k d ∷ xs)
    (retold-append texts (k + 1) ds es ∙ ap (λ (n : ℕ). retold texts (k + 1) ds ++ retold texts n es) place)

-- ---- steps

module _ (S : Script) (h : Hidden) (b : WordBook) (liars : Liars) (texts : ℕ → Saying) where
  abbrev deeds_at : ℕ → List Deed
  deeds_at k = (play S h b liars texts k).deeds

  counted : (k : ℕ) → length (deeds_at k) ≡ k
  unfolding play
  counted zero = refl
  counted (suc k) =
      let one = length-append (deeds_at k) (with_text_of texts k (liars (play S h b liars texts k).seen) ∷ []) in
      let so_far = counted k in
      omega (arith, one, so_far)

  -- what is done later begins with what was done so far
  pub record Begins (k n : ℕ) : Type 0 where
    pub more : List Deed
    pub is : deeds_at n ≡ deeds_at k ++ more

  begins : (k n : ℕ) → Begins k (k + n)
  unfolding play
  begins k zero =
      let same : k + 0 ≡ k = omega arith in
      record { more = []; is = ap deeds_at same ∙ sym (append-nil (deeds_at k)) }
  begins k (suc n) =
      let before = begins k n in
      let next : k + suc n ≡ suc (k + n) = omega arith in
      let last = with_text_of texts (k + n) (liars (play S h b liars texts (k + n)).seen) ∷ [] in
      record {
        more = before.more ++ last;
        is =
            ap deeds_at next ∙ ap (λ (xs : List Deed). xs ++ last) before.is
            ∙ append_assoc (deeds_at k) before.more last;
      }

module _ (A B : Script) (h : Hidden) (are : AreGroups A B h) (liars : Liars) (texts others : ℕ → Saying)
    (steps : ℕ) (u v : List ℕ) where
  abbrev all : List Deed
  all = (play A h (drawn u) liars texts steps).deeds

  abbrev one : ℕ → Play
  one k = play A h (drawn u) liars texts k

  abbrev other : ℕ → Play
  other k = play B h (drawn v) liars others k

  module _ (matched : AreMatched A B h (play A h (drawn u) liars texts steps).deeds
      (retold others 0 (play A h (drawn u) liars texts steps).deeds) u v)
      (tells : HasWhatWasSaid A (lied A h (drawn u) (play A h (drawn u) liars texts steps).deeds))
      (other_tells : HasWhatWasSaid B (lied B h (drawn v) (retold others 0 (play A h (drawn u) liars texts steps).deeds))) where
    -- after so many steps the same is seen
    sight-at : (k n : ℕ) → k + n ≡ steps →
        sight A.shape h (lied A h (drawn u) (one k).deeds)
        ≡ sight B.shape h (lied B h (drawn v) (retold others 0 (one k).deeds))
    sight-at k n sum =
        let so_far = (one k).deeds in
        let b : Begins A h (drawn u) liars texts k (k + n) = begins A h (drawn u) liars texts k n in
        let whole : all ≡ so_far ++ b.more = ap (λ (s : ℕ). (one s).deeds) (sym sum) ∙ b.is in
        let later = retold others (0 + length so_far) b.more in
        let other_whole : retold others 0 all ≡ retold others 0 so_far ++ later =
        ap (retold others 0) whole ∙ retold-append others 0 so_far b.more
        in
        same-sight A.shape h (lied A h (drawn u) so_far) (lied B h (drawn v) (retold others 0 so_far))
        (liars-see-alike A B h are so_far b.more (retold others 0 so_far) later u v
        (subst (λ (es : List Deed). AreMatched A B h (so_far ++ b.more) es u v) other_whole
        (subst (λ (ds : List Deed). AreMatched A B h ds (retold others 0 all) u v) whole matched))
        (retold-alike others 0 so_far)
        (subst (λ (ds : List Deed). HasWhatWasSaid A (lied A h (drawn u) ds)) whole tells)
        (subst (λ (es : List Deed). HasWhatWasSaid B (lied B h (drawn v) es)) other_whole other_tells))
        ∙ ap (λ (shape : Shape). sight shape h (lied B h (drawn v) (retold others 0 so_far))) are.one_shape

    pub steps-alike : (k n : ℕ) → k + n ≡ steps → PlayAlike (one k) (other k) (retold others 0 (one k).deeds)
    unfolding play retold
    steps-alike zero n sum =
        record {
          done = refl;
          seen = ap (λ (s : JointSight). s ∷ []) (sight-at zero n sum);
        }
    steps-alike (suc k) n sum =
        let before = steps-alike k (suc n) (omega (arith, sum)) in
        let d = with_text_of texts k (liars (one k).seen) in
        let e = with_text_of others k (liars (other k).seen) in
        let place : 0 + length (one k).deeds ≡ k =
        let c = counted A h (drawn u) liars texts k in omega (arith, c)
        in
        let last : with_text_of others (0 + length (one k).deeds) d ≡ e =
        ap (λ (i : ℕ). with_text_of others i d) place
        ∙ retold-twice texts others k (liars (one k).seen)
        ∙ ap (λ (s : List JointSight). with_text_of others k (liars s)) before.seen
        in
        let deeds : retold others 0 ((one k).deeds ++ d ∷ []) ≡ (other k).deeds ++ e ∷ [] =
        retold-append others 0 (one k).deeds (d ∷ [])
        ∙ ap₂ (λ (xs : List Deed) (x : Deed). xs ++ x ∷ []) (sym before.done) last
        in
        record {
          done = sym deeds;
          seen =
              ap₂ (λ (xs : List JointSight) (x : JointSight). xs ++ x ∷ []) before.seen
              (sight-at (suc k) n sum
              ∙ ap (λ (ds : List Deed). sight B.shape h (lied B h (drawn v) ds)) deeds);
        }

pub liars-play-alike : LiarsPlayAlike
liars-play-alike A B h are liars texts others steps u v matched tells other_tells =
    steps-alike A B h are liars texts others steps u v matched tells other_tells steps 0 (omega arith)
