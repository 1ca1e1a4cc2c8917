-- The laws of privacy, whatever all servers but the hidden one reply.
use Rattle.std.proofs.Common.{◌≡◌, ◌≢◌, ℕ, ◌≤◌, List, length, ap, sym, ◌∙◌, subst}
use Rattle.tk_shape.specs.declared.shape.Shape.{Shape}
use Rattle.tk_shape.specs.Lengths.{tape_len}
use Rattle.tk_schedule.specs.declared.history.History.{History}
use Rattle.tk_schedule.specs.Schedule.{IsLegal}
use Rattle.tk_script.specs.declared.script.Script.{Script}
use Rattle.tk_words.specs.Words.{drawn}
use Rattle.tk_privacy.specs.Laws.{AreMirrored}
use Rattle.tk_privacy.specs.Privacy.{cells_view, regained}
use Rattle.tk_privacy.proofs.Offers as privacy
use Rattle.tk_hostile.specs.Choice.{Choice}
use Rattle.tk_hostile.specs.Wrong.{wrong_pair, pair_regained, wrong_view, wrong_normal, wrong_unnormal, wrong_mirror}
use Rattle.tk_hostile.specs.Laws.{SameView, OneToOne}
use Rattle.tk_hostile.proofs.Regained.{unnormal-normal, normal-unnormal}

pub length-normal : (S : Script) (H : History) (h : ℕ) (F : Choice) (u : List ℕ) →
    length u ≡ tape_len S.shape → length (wrong_normal S H h F u) ≡ tape_len S.shape
unfolding wrong_normal
length-normal S H h F u whole =
    (privacy.normal-IsTape S u whole h (wrong_pair S (drawn u) H h F)).whole

pub length-unnormal : (S : Script) (H : History) (h : ℕ) → 1 ≤ h → (F : Choice) (v : List ℕ) →
    length v ≡ tape_len S.shape → length (wrong_unnormal S H h F v) ≡ tape_len S.shape
unfolding wrong_unnormal
length-unnormal S H h low F v whole =
    privacy.length-unnormal S h low (pair_regained S H h F (regained S v)) v whole

-- what a server sees is made of the cells of the changed tape, and names no script
made-of_cells : (S : Script) (H : History) (h j : ℕ) (F : Choice) (u : List ℕ) →
    IsLegal S.shape H → length u ≡ tape_len S.shape → 1 ≤ h → h ≤ S.shape.servers → 1 ≤ j →
    j ≤ S.shape.servers → j ≢ h →
    wrong_view S (drawn u) H h F j ≡ cells_view S.shape H h (wrong_normal S H h F u) j
unfolding wrong_normal
made-of_cells S H h j F u legal whole low high j_low j_high differ =
    privacy.view-is S H h j (wrong_pair S (drawn u) H h F) u legal whole low high j_low j_high differ

module _ (A B : Script) (H : History) (h : ℕ) (F : Choice) (u : List ℕ)
    (is : AreMirrored A B H h u) where
  -- what A shows has the length of a tape of B
  length-shown : length (wrong_normal A H h F u) ≡ tape_len B.shape
  length-shown = length-normal A H h F u is.tape ∙ ap tape_len is.one_shape

  pub length-mirror : length (wrong_mirror A B H h F u) ≡ tape_len B.shape
  length-mirror = length-unnormal B H h is.hidden_low F (wrong_normal A H h F u) length-shown

  -- B shows over the mirrored tape what A shows
  same-normal : wrong_normal B H h F (wrong_mirror A B H h F u) ≡ wrong_normal A H h F u
  same-normal = normal-unnormal B H h is.hidden_low F (wrong_normal A H h F u) length-shown

pub one_to_one : OneToOne
one_to_one A B H h F u is = (
  ap (wrong_unnormal A H h F) (same-normal A B H h F u is)
      ∙ unnormal-normal A H h is.hidden_low F u is.tape,
  length-mirror A B H h F u is ∙ sym (ap tape_len is.one_shape) ∙ sym is.tape,
)

pub same_view : SameView
same_view A B H h j F u is j_low j_high differ =
    let same : A.shape ≡ B.shape = is.one_shape in
    made-of_cells A H h j F u is.legal is.tape is.hidden_low is.hidden_high j_low j_high differ
    ∙ ap (λ (shape : Shape). cells_view shape H h (wrong_normal A H h F u) j) same
    ∙ ap (λ v. cells_view B.shape H h v j) (sym (same-normal A B H h F u is))
    ∙ sym (made-of_cells B H h j F (wrong_mirror A B H h F u)
    (subst (λ (shape : Shape). IsLegal shape H) same is.legal) (length-mirror A B H h F u is)
    is.hidden_low (subst (λ (shape : Shape). h ≤ shape.servers) same is.hidden_high) j_low
    (subst (λ (shape : Shape). j ≤ shape.servers) same j_high) differ)
