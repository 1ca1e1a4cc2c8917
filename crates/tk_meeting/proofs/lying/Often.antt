-- Liars whose deeds are settled beforehand find what they look for over as many tapes of either group.
use Rattle.tk_meeting.proofs.Terms.{◌≡◌, ℕ, ◌≤◌, List, length, ◌++◌, ◌∙◌, refl, ap, sym, subst, tape_len, Shape, drawn}
use Rattle.tk_meeting.proofs.Terms.{shown-as_often, AreBytes, Script, count_tapes, sight, LiarsAsOften, Deed, Hidden}
use Rattle.tk_meeting.proofs.Terms.{lied, HoldsBlocks, pairs_of, shown_tape, AreGroups, AreMatched}
use Rattle.tk_counts.specs.Counts.{IsUndoneBy}
use Rattle.tk_meeting.proofs.lying.Matches.{found_pairs, found_tape, found-shows, found-long, found-only}
use Rattle.tk_meeting.proofs.lying.Plays.{same-sight}
use Rattle.tk_meeting.proofs.lying.Tapes.{liars-see-alike}
use Rattle.tk_privacy.proofs.Offers as privacy

-- the groups the other way round
turned : (A B : Script) (h : Hidden) → AreGroups A B h → AreGroups B A h
turned A B h are =
    record {
      one_shape = sym are.one_shape;
      hidden_low = are.hidden_low;
      hidden_high = subst (λ (shape : Shape). h.server ≤ shape.servers) are.one_shape are.hidden_high;
      holds = subst (λ (shape : Shape). HoldsBlocks shape h) are.one_shape are.holds;
    }

module _ (A B : Script) (h : Hidden) (are : AreGroups A B h) (deeds others : List Deed) where
  -- the tape that is matched with one
  abbrev match_of : List ℕ → List ℕ
  match_of u = found_tape B h (shown_tape A h deeds u) others

  shown-long : (u : List ℕ) → length u ≡ tape_len A.shape → length (shown_tape A h deeds u) ≡ tape_len B.shape
  shown-long u whole =
      (privacy.normal-IsTape A u whole h.server (pairs_of A h (drawn u) deeds)).whole ∙ ap tape_len are.one_shape

  match-long : (u : List ℕ) → length u ≡ tape_len A.shape → length (match_of u) ≡ tape_len B.shape
  match-long u whole = found-long B h (shown_tape A h deeds u) are.hidden_low (shown-long u whole) others

  match-shows : (u : List ℕ) → length u ≡ tape_len A.shape → shown_tape B h others (match_of u) ≡ shown_tape A h deeds u
  match-shows u whole = found-shows B h (shown_tape A h deeds u) are.hidden_low (shown-long u whole) others

  match-back : (u : List ℕ) → length u ≡ tape_len A.shape →
      found_tape A h (shown_tape B h others (match_of u)) deeds ≡ u
  match-back u whole =
      ap (λ (z : List ℕ). found_tape A h z deeds) (match-shows u whole)
      ∙ sym (found-only A h (shown_tape A h deeds u) are.hidden_low
      (shown-long u whole ∙ sym (ap tape_len are.one_shape)) deeds u whole refl)

  match-bytes : (u : List ℕ) → AreBytes u → AreBytes (match_of u)
  match-bytes u bytes =
      let z = shown_tape A h deeds u in
      privacy.bytes-unnormal_for B z
      (privacy.bytes-normal_for A u bytes h.server (pairs_of A h (drawn u) deeds)) h.server (found_pairs B h z others)

  match-undone : (n : ℕ) → n ≡ tape_len A.shape →
      IsUndoneBy 256 n match_of (λ v. found_tape A h (shown_tape B h others v) deeds)
  match-undone n same =
      record {
        stays = λ u tape. record {
          counted = match-long u (tape.counted ∙ same) ∙ sym (ap tape_len are.one_shape) ∙ sym same;
          below = match-bytes u tape.below;
        };
        back = λ u tape. match-back u (tape.counted ∙ same);
      }

pub liars-as-often : LiarsAsOften
liars-as-often A B h are deeds more others rest same tells other_tells test =
    let n = tape_len A.shape in
    let all = deeds ++ more in
    let all_others = others ++ rest in
    shown-as_often 256 n (match_of A B h are all all_others) (match_of B A h (turned A B h are) all_others all)
    (match-undone A B h are all all_others n refl)
    (match-undone B A h (turned A B h are) all_others all n (ap tape_len are.one_shape))
    (λ u. sight A.shape h (lied A h (drawn u) deeds)) (λ v. sight B.shape h (lied B h (drawn v) others))
    (λ u tape.
    let v = match_of A B h are all all_others u in
    let long = match-long A B h are all all_others u tape.counted in
    let matched : AreMatched A B h all all_others u v =
    record {
      tape = tape.counted;
      other_tape = long;
      shown = sym (match-shows A B h are all all_others u tape.counted);
    }
    in
    same-sight A.shape h (lied A h (drawn u) deeds) (lied B h (drawn v) others)
    (liars-see-alike A B h are deeds more others rest u v matched same (tells u tape.counted) (other_tells v long))
    ∙ ap (λ (shape : Shape). sight shape h (lied B h (drawn v) others)) are.one_shape)
    test
    ∙ ap (λ (k : ℕ). count_tapes k (λ v. test (sight B.shape h (lied B h (drawn v) others))))
    (ap tape_len are.one_shape)
