-- The laws of privacy, by counting.
use Rattle.std.proofs.Common.{◌≡◌, ◌≢◌, ℕ, zero, suc, ◌+◌, ◌≤◌, ◌<◌, true, false, cond}
use Rattle.std.proofs.Common.{List, ◌∷◌, length, map, refl, ap, ap₂, sym, ◌∙◌, subst, arith}
use Rattle.std.specs.Prelude.{◌==◌, not, filter}
use Rattle.std.specs.List.{range_with_len}
use Rattle.std.proofs.lemmas.Bool.{eqb-false}
use Rattle.tk_shape.specs.declared.shape.Shape.{Shape}
use Rattle.tk_shape.specs.Lengths.{tape_len}
use Rattle.tk_schedule.specs.declared.history.History.{History}
use Rattle.tk_schedule.specs.Schedule.{IsLegal}
use Rattle.tk_script.specs.declared.script.Script.{Script}
use Rattle.tk_words.specs.Words.{drawn}
use Rattle.tk_report.specs.Exchange.{view}
use Rattle.tk_counts.specs.Counts.{IsListBelow, IsUndoneBy}
use Rattle.tk_counts.proofs.Offers.{shown-as_often}
use Rattle.tk_privacy.specs.Privacy.{regained, normal, unnormal, mirror, pairs_read, cells_view}
use Rattle.tk_privacy.specs.Counts.{count_tapes, all_but, joint_view, joint_cells, is_view}
use Rattle.tk_privacy.specs.Laws.{AreMirrored, AreCompared, AsManyTapes, EachAsOften, AsManyCells}
use Rattle.tk_privacy.proofs.ByteCells.{bytes-normal_for, bytes-unnormal_for}
use Rattle.tk_privacy.proofs.PrivacyLaws.{length-normal, length-unnormal, unnormal-normal}
use Rattle.tk_privacy.proofs.PrivacyLaws.{normal-unnormal, made_of_cells, one_to_one}

-- what is made of each server but one, where it is the same for each
others-same_from : {X : Type 0} (f g : ℕ → X) (h a n : ℕ) →
    ((j : ℕ) → a ≤ j → j < a + n → j ≢ h → f j ≡ g j) →
    map f (filter (λ j. not (j == h)) (range_with_len a n))
    ≡ map g (filter (λ j. not (j == h)) (range_with_len a n))
others-same_from f g h a zero same = refl
others-same_from f g h a (suc n) same =
    let rest : List ℕ = filter (λ j. not (j == h)) (range_with_len (a + 1) n) in
    let later = others-same_from f g h (a + 1) n
    (λ j low high differ. same j (omega (arith, low)) (omega (arith, high)) differ) in
    elim (a == h) as (λ b. (a == h) ≡ b →
    map f (cond (not b) (a ∷ rest) rest) ≡ map g (cond (not b) (a ∷ rest) rest)) [
      | true ↦ λ e. later
      | false ↦ λ e.
          ap₂ (λ x xs. x ∷ xs) (same a (omega arith) (omega arith) (eqb-false a h e)) later
    ] refl

pub others-same : {X : Type 0} (f g : ℕ → X) (shape : Shape) (h : ℕ) →
    ((j : ℕ) → 1 ≤ j → j ≤ shape.servers → j ≢ h → f j ≡ g j) →
    map f (all_but shape h) ≡ map g (all_but shape h)
others-same f g shape h same =
    others-same_from f g h 1 shape.servers
    (λ j low high differ. same j low (omega (arith, high)) differ)

-- the premises at one script, the other way round, and at a tape
first-alone : (A B : Script) (H : History) (h : ℕ) → AreCompared A B H h → AreCompared A A H h
first-alone A B H h is =
    record {
      one_shape = refl;
      legal = is.legal;
      hidden_low = is.hidden_low;
      hidden_high = is.hidden_high;
    }

pub turned : (A B : Script) (H : History) (h : ℕ) → AreCompared A B H h → AreCompared B A H h
turned A B H h is =
    record {
      one_shape = sym is.one_shape;
      legal = subst (λ (shape : Shape). IsLegal shape H) is.one_shape is.legal;
      hidden_low = is.hidden_low;
      hidden_high = subst (λ (shape : Shape). h ≤ shape.servers) is.one_shape is.hidden_high;
    }

pub at-tape : (A B : Script) (H : History) (h : ℕ) (u : List ℕ) → AreCompared A B H h →
    length u ≡ tape_len A.shape → AreMirrored A B H h u
at-tape A B H h u is whole =
    record {
      one_shape = is.one_shape;
      legal = is.legal;
      hidden_low = is.hidden_low;
      hidden_high = is.hidden_high;
      tape = whole;
    }

-- a mirrored tape is one of bytes, and mirrored back it is the first
pub mirror-undone : (A B : Script) (H : History) (h n : ℕ) → AreCompared A B H h →
    n ≡ tape_len A.shape → IsUndoneBy 256 n (mirror A B H h) (mirror B A H h)
unfolding normal unnormal
mirror-undone A B H h n is same =
    record {
      stays = λ u tape.
          let at = at-tape A B H h u is (tape.counted ∙ same) in
          let shown : List ℕ = normal A H h u in
          record {
            counted = (one_to_one A B H h u at).1 ∙ tape.counted;
            below = bytes-unnormal_for B shown
                (bytes-normal_for A u tape.below h (pairs_read A (drawn u) H)) h
                (pairs_read B (drawn (regained B shown)) H);
          };
      back = λ u tape. (one_to_one A B H h u (at-tape A B H h u is (tape.counted ∙ same))).0;
    }

module _ (S : Script) (H : History) (h : ℕ) (is : AreCompared S S H h) where
  there : IsUndoneBy 256 (tape_len S.shape) (normal S H h) (unnormal S H h)
  unfolding normal
  there =
      record {
        stays = λ u tape. record {
          counted = length-normal S H h u tape.counted;
          below = bytes-normal_for S u tape.below h (pairs_read S (drawn u) H);
        };
        back = λ u tape. unnormal-normal S H h is.hidden_low u tape.counted;
      }

  back : IsUndoneBy 256 (tape_len S.shape) (unnormal S H h) (normal S H h)
  unfolding unnormal
  back =
      record {
        stays = λ v tape. record {
          counted = length-unnormal S H h is.hidden_low v tape.counted;
          below = bytes-unnormal_for S v tape.below h (pairs_read S (drawn (regained S v)) H);
        };
        back = λ v tape. normal-unnormal S H h is.hidden_low v tape.counted;
      }

  joint : (u : List ℕ) → IsListBelow 256 (tape_len S.shape) u →
      joint_view S H h u ≡ joint_cells S.shape H h (normal S H h u)
  joint u tape =
      others-same (view S (drawn u) H) (cells_view S.shape H h (normal S H h u)) S.shape h
      (λ j low high differ. made_of_cells S H h j u (record {
        one_shape = refl;
        legal = is.legal;
        hidden_low = is.hidden_low;
        hidden_high = is.hidden_high;
        tape = tape.counted;
      }) low high differ)

pub as_many_cells : AsManyCells
as_many_cells S H h test is =
    shown-as_often 256 (tape_len S.shape) (normal S H h) (unnormal S H h) (there S H h is) (back S H h is)
    (joint_view S H h) (joint_cells S.shape H h) (joint S H h is) test

pub as_many_tapes : AsManyTapes
as_many_tapes A B H h test is =
    as_many_cells A H h test (first-alone A B H h is)
    ∙ ap (λ (shape : Shape). count_tapes (tape_len shape) (λ v. test (joint_cells shape H h v)))
    is.one_shape
    ∙ sym (as_many_cells B H h test (first-alone B A H h (turned A B H h is)))

pub each_as_often : EachAsOften
each_as_often A B H h seen is = as_many_tapes A B H h (λ x. is_view x seen) is
