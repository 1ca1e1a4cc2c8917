-- The law of privacy under attack, by counting.
use Rattle.std.proofs.Common.{◌≡◌, ℕ, ◌≤◌, ◌<◌, List, refl, ap, sym, ◌∙◌, subst}
use Rattle.tk_shape.specs.declared.shape.Shape.{Shape}
use Rattle.tk_shape.specs.Lengths.{turn_count, tape_len}
use Rattle.tk_script.specs.declared.script.Script.{Script}
use Rattle.tk_words.specs.Words.{drawn}
use Rattle.tk_counts.specs.Counts.{IsUndoneBy}
use Rattle.tk_counts.proofs.Offers.{AreBytes, shown-as_often}
use Rattle.tk_privacy.specs.Privacy.{regained}
use Rattle.tk_privacy.specs.Counts.{count_tapes}
use Rattle.tk_privacy.proofs.Offers as privacy
use Rattle.tk_hostile.specs.Attack.{Adversary, under_attack, seen_by, attack_normal, attack_regained}
use Rattle.tk_hostile.specs.Attack.{attack_unnormal, attack_mirror}
use Rattle.tk_hostile.specs.Laws.{AreTargets, AreAttacked, AsManyTapes}
use Rattle.tk_hostile.proofs.AttackLaws.{same_seen, one_to_one_attacked}

-- the premises the other way round
turned : (A B : Script) (h : ℕ) (adversary : Adversary) → AreTargets A B h adversary →
    AreTargets B A h adversary
turned A B h adversary are =
    let same : B.shape ≡ A.shape = sym are.one_shape in
    record {
      one_shape = same;
      hidden_low = are.hidden_low;
      hidden_high = subst (λ (shape : Shape). h ≤ shape.servers) are.one_shape are.hidden_high;
      one_writer = λ log held low.
          sym (are.one_writer log held (subst (λ (shape : Shape). log < shape.logs) same low));
      sent_alike = λ log s held low less.
          sym (are.sent_alike log s held (subst (λ (shape : Shape). log < shape.logs) same low)
          (subst (λ (shape : Shape). s < turn_count shape) same less));
    }

-- a mirrored tape is one of bytes
bytes-mirror : (A B : Script) (h : ℕ) (adversary : Adversary) (moves : ℕ) (u : List ℕ) →
    AreBytes u → AreBytes (attack_mirror A B h adversary moves u)
unfolding attack_normal attack_unnormal
bytes-mirror A B h adversary moves u are =
    let shown : List ℕ = attack_normal A h adversary moves u in
    privacy.bytes-unnormal_for B shown
    (privacy.bytes-normal_for A u are h (under_attack A (drawn u) h adversary moves).pairs) h
    (attack_regained B h adversary moves (regained B shown)).pairs

-- and mirrored back it is the first
mirror-undone : (A B : Script) (h : ℕ) (adversary : Adversary) (moves n : ℕ) →
    AreTargets A B h adversary → n ≡ tape_len A.shape →
    IsUndoneBy 256 n (attack_mirror A B h adversary moves) (attack_mirror B A h adversary moves)
mirror-undone A B h adversary moves n are whole =
    record {
      stays = λ u tape.
          let at : AreAttacked A B h adversary u =
          record { targets = are; tape = tape.counted ∙ whole }
          in
          record {
            counted = (one_to_one_attacked A B h adversary moves u at).1 ∙ tape.counted;
            below = bytes-mirror A B h adversary moves u tape.below;
          };
      back = λ u tape.
          (one_to_one_attacked A B h adversary moves u
          (record { targets = are; tape = tape.counted ∙ whole })).0;
    }

pub as_many_tapes : AsManyTapes
as_many_tapes A B h adversary moves test are =
    let same : A.shape ≡ B.shape = are.one_shape in
    let n = tape_len A.shape in
    shown-as_often 256 n (attack_mirror A B h adversary moves) (attack_mirror B A h adversary moves)
    (mirror-undone A B h adversary moves n are refl)
    (mirror-undone B A h adversary moves n (turned A B h adversary are) (ap tape_len same))
    (λ u. seen_by A (drawn u) h adversary moves) (λ u. seen_by B (drawn u) h adversary moves)
    (λ u tape. same_seen A B h adversary moves u (record { targets = are; tape = tape.counted })) test
    ∙ ap (λ (shape : Shape). count_tapes (tape_len shape)
    (λ u. test (seen_by B (drawn u) h adversary moves))) same
