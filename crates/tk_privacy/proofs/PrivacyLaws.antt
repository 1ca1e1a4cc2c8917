-- The laws of privacy.
use Rattle.std.proofs.Common.{◌≡◌, ℕ, ◌≤◌, List, length, refl, ap, sym, ◌∙◌, subst}
use Rattle.tk_shape.specs.declared.shape.Shape.{Shape}
use Rattle.tk_shape.specs.Lengths.{tape_len}
use Rattle.tk_schedule.specs.declared.history.History.{History}
use Rattle.tk_schedule.specs.Schedule.{IsLegal}
use Rattle.tk_script.specs.declared.script.Script.{Script}
use Rattle.tk_words.specs.Words.{BookWords, drawn}
use Rattle.tk_report.specs.Exchange.{read_pair}
use Rattle.tk_privacy.specs.Privacy.{Pairs, normal, regained, unnormal, mirror, cells_view}
use Rattle.tk_privacy.specs.Privacy.{normal_for, unnormal_for, pairs_read}
use Rattle.tk_privacy.specs.Laws.{AreMirrored, SameView, OneToOne, MadeOfCells}
use Rattle.tk_privacy.proofs.Changes as changes
use Rattle.tk_privacy.proofs.EnteringLaws.{view-for}
use Rattle.tk_privacy.proofs.Seen as seen

-- ---- the change where the buckets are those that are read over the tape

pub length-normal : (S : Script) (H : History) (h : ℕ) (u : List ℕ) → length u ≡ tape_len S.shape →
    length (normal S H h u) ≡ tape_len S.shape
unfolding normal
length-normal S H h u whole = (changes.normal-IsTape S u whole h (pairs_read S (drawn u) H)).whole

pub length-unnormal : (S : Script) (H : History) (h : ℕ) → 1 ≤ h → (v : List ℕ) →
    length v ≡ tape_len S.shape → length (unnormal S H h v) ≡ tape_len S.shape
unfolding unnormal
length-unnormal S H h low v whole =
    changes.length-unnormal S h low (pairs_read S (drawn (regained S v)) H) v whole

pub unnormal-normal : (S : Script) (H : History) (h : ℕ) → 1 ≤ h → (u : List ℕ) →
    length u ≡ tape_len S.shape → unnormal S H h (normal S H h u) ≡ u
unfolding unnormal normal
unnormal-normal S H h low u whole =
    let v : List ℕ = normal_for S h (pairs_read S (drawn u) H) u in
    ap (λ (w : BookWords). unnormal_for S h (λ g c. read_pair S w H g c) v)
    (changes.words-regained S h low (pairs_read S (drawn u) H) u whole)
    ∙ changes.unnormal-normal S h low (pairs_read S (drawn u) H) u whole

pub normal-unnormal : (S : Script) (H : History) (h : ℕ) → 1 ≤ h → (v : List ℕ) →
    length v ≡ tape_len S.shape → normal S H h (unnormal S H h v) ≡ v
unfolding unnormal normal
normal-unnormal S H h low v whole =
    let pairs : Pairs = pairs_read S (drawn (regained S v)) H in
    let w : List ℕ = unnormal_for S h pairs v in
    ap (λ (x : BookWords). normal_for S h (λ g c. read_pair S x H g c) w)
    (changes.words-undone S h low pairs v whole)
    ∙ changes.normal-unnormal S h low pairs v whole

-- ---- the laws

pub made_of_cells : MadeOfCells
unfolding normal
made_of_cells S H h j u is j_low j_high differ =
    view-for S (drawn u) H j
    ∙ seen.view-is S H h j (pairs_read S (drawn u) H) u is.legal is.tape is.hidden_low is.hidden_high j_low
    j_high differ

module _ (A B : Script) (H : History) (h : ℕ) (u : List ℕ) (is : AreMirrored A B H h u) where
  -- what A shows has the length of a tape of B
  length-shown : length (normal A H h u) ≡ tape_len B.shape
  length-shown = length-normal A H h u is.tape ∙ ap tape_len is.one_shape

  pub length-mirror : length (mirror A B H h u) ≡ tape_len B.shape
  length-mirror = length-unnormal B H h is.hidden_low (normal A H h u) length-shown

  -- B shows over the mirrored tape what A shows
  pub same-normal : normal B H h (mirror A B H h u) ≡ normal A H h u
  same-normal = normal-unnormal B H h is.hidden_low (normal A H h u) length-shown

pub one_to_one : OneToOne
one_to_one A B H h u is = (
  ap (unnormal A H h) (same-normal A B H h u is) ∙ unnormal-normal A H h is.hidden_low u is.tape,
  length-mirror A B H h u is ∙ sym (ap tape_len is.one_shape) ∙ sym is.tape,
)

-- the premises at the other script and its tape
mirrored : (A B : Script) (H : History) (h : ℕ) (u : List ℕ) → AreMirrored A B H h u →
    AreMirrored B B H h (mirror A B H h u)
mirrored A B H h u is =
    record {
      one_shape = refl;
      legal = subst (λ (shape : Shape). IsLegal shape H) is.one_shape is.legal;
      hidden_low = is.hidden_low;
      hidden_high = subst (λ (shape : Shape). h ≤ shape.servers) is.one_shape is.hidden_high;
      tape = length-mirror A B H h u is;
    }

-- the premises at the first alone
alone : (A B : Script) (H : History) (h : ℕ) (u : List ℕ) → AreMirrored A B H h u →
    AreMirrored A A H h u
alone A B H h u is =
    record {
      one_shape = refl;
      legal = is.legal;
      hidden_low = is.hidden_low;
      hidden_high = is.hidden_high;
      tape = is.tape;
    }

pub same_view : SameView
same_view A B H h j u is j_low j_high differ =
    let same : A.shape ≡ B.shape = is.one_shape in
    made_of_cells A H h j u (alone A B H h u is) j_low j_high differ
    ∙ ap (λ (shape : Shape). cells_view shape H h (normal A H h u) j) same
    ∙ ap (λ v. cells_view B.shape H h v j) (sym (same-normal A B H h u is))
    ∙ sym (made_of_cells B H h j (mirror A B H h u) (mirrored A B H h u is) j_low
    (subst (λ (shape : Shape). j ≤ shape.servers) same j_high) differ)
