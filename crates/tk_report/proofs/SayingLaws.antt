-- The clients while the texts of a turn are said.
use Rattle.std.proofs.Common.{◌≡◌, ◌≢◌, ◌∙◌, refl, ap, sym, arith, inl, inr}
use Rattle.std.proofs.Common.{ℕ, ◌+◌, ◌<◌, ◌≤◌, List, [], ◌∷◌, ◌++◌, length, take, set, filter, cond}
use Rattle.std.proofs.Common.{eq-eqb, ne_eqb, length-set, get_or-set_same, get_or-set_other}
use Rattle.std.specs.Prelude.{◌==◌, slice_index_or}
use Rattle.std.proofs.lemmas.Bool.{cases_eq}
use Rattle.std.proofs.lemmas.List.{take_more}
use Rattle.std.proofs.lemmas.List.Elements.{filter-append}
use Rattle.tk_script.specs.declared.script.Script.{Script}
use Rattle.tk_script.specs.declared.say.Say.{Say}
use Rattle.tk_script.specs.Sent.{writer_of}
use Rattle.tk_client.specs.Reader.{Reader}
use Rattle.tk_client.specs.Client.{ClientState}
use Rattle.tk_client.specs.Writing.{Writing, with_text}
use Rattle.tk_report.specs.Clients.{AreClients, idle, client_knowing, client_told}
use Rattle.tk_report.specs.Queues.{turn_said, says_in, said_before, with_says, writing_before}
use Rattle.tk_report.proofs.SayOrder.{none-earlier, all-now, other-above}

-- the texts of turn g among the first ones
abbrev pub said_of : Script → ℕ → ℕ → List Say
said_of S g place = filter (λ y. turn_said S.shape y == g) (take place S.says)

-- a client in turn g, after these texts of the turn were said
abbrev pub told_of : Script → (ℕ → Reader) → ℕ → List Say → ℕ → ClientState
told_of S knows g says c =
    idle S.shape c (with_says S c says (writing_before S c g)) (knows c)

-- one text more
with_says-more : (S : Script) (c : ℕ) (says : List Say) (y : Say) (w : Writing) →
    let before = with_says S c says w in
    with_says S c (says ++ y ∷ []) w
    ≡ cond (writer_of S y.log == c) (with_text y.log y.text before) before
unfolding with_says
with_says-more S c [] y w = refl
with_says-more S c (x ∷ says) y w =
    with_says-more S c says y (cond (writer_of S x.log == c) (with_text x.log x.text w) w)

said-next : (S : Script) (g place : ℕ) (d : Say) → place < length S.says →
    turn_said S.shape (slice_index_or S.says place d) ≡ g →
    said_of S g (place + 1) ≡ said_of S g place ++ slice_index_or S.says place d ∷ []
said-next S g place d within now =
    let y = slice_index_or S.says place d in
    let is_now = λ (z : Say). turn_said S.shape z == g in
    ap (filter is_now) (take_more S.says place d within)
    ∙ filter-append is_now (take place S.says) (y ∷ [])
    ∙ ap (λ b. said_of S g place ++ cond b (y ∷ []) []) (eq-eqb (turn_said S.shape y) g now)

-- where a text of another turn stands, all texts of the turn are said
pub said-all : (S : Script) (g place : ℕ) (y : Say) → said_before S g ≤ place →
    place ≤ said_before S (g + 1) → place < length S.says → slice_index_or S.says place y ≡ y →
    turn_said S.shape y ≢ g → place ≡ said_before S (g + 1)
said-all S g place y from up_to within here other =
    let past =
    other-above S g place y from within (λ e. other (ap (turn_said S.shape) (sym here) ∙ e))
    in
    omega (arith, past, up_to)

module _ (S : Script) (knows : ℕ → Reader) (g : ℕ) where
  before-any : (c : ℕ) → client_knowing S knows g c ≡ told_of S knows g [] c
  unfolding client_knowing with_says
  before-any c = refl

  after-every : (c : ℕ) → told_of S knows g (says_in S g) c ≡ client_told S knows g c
  unfolding client_told
  after-every c = refl

  -- before any text of the turn is said
  pub told-none : (place : ℕ) (clients : List ClientState) → place ≡ said_before S g →
      AreClients S.shape.clients (client_knowing S knows g) clients →
      AreClients S.shape.clients (told_of S knows g (said_of S g place)) clients
  told-none place clients at are =
      record {
        counted = are.counted;
        each = λ c d low.
            are.each c d low ∙ before-any c
            ∙ ap (λ says. told_of S knows g says c)
            (sym (ap (said_of S g) at ∙ none-earlier S g));
      }

  -- and when all are
  pub told-all : (place : ℕ) (clients : List ClientState) → place ≡ said_before S (g + 1) →
      AreClients S.shape.clients (told_of S knows g (said_of S g place)) clients →
      AreClients S.shape.clients (client_told S knows g) clients
  told-all place clients at are =
      record {
        counted = are.counted;
        each = λ c d low.
            are.each c d low
            ∙ ap (λ says. told_of S knows g says c) (ap (said_of S g) at ∙ all-now S g)
            ∙ after-every c;
      }

  -- one client more knows of a text
  with-text : (c : ℕ) (says : List Say) (y : Say) → writer_of S y.log ≡ c →
      let before = told_of S knows g says c in
      told_of S knows g (says ++ y ∷ []) c
      ≡ record before { writing = with_text y.log y.text before.writing }
  with-text c says y mine =
      let old = with_says S c says (writing_before S c g) in
      ap (λ writing. idle S.shape c writing (knows c))
      (with_says-more S c says y (writing_before S c g)
      ∙ ap (λ b. cond b (with_text y.log y.text old) old) (eq-eqb (writer_of S y.log) c mine))

  without-text : (c : ℕ) (says : List Say) (y : Say) → writer_of S y.log ≢ c →
      told_of S knows g (says ++ y ∷ []) c ≡ told_of S knows g says c
  without-text c says y other =
      let old = with_says S c says (writing_before S c g) in
      ap (λ writing. idle S.shape c writing (knows c))
      (with_says-more S c says y (writing_before S c g)
      ∙ ap (λ b. cond b (with_text y.log y.text old) old) (ne_eqb (writer_of S y.log) c other))

  -- a text of the turn is said
  pub told-next : (place k : ℕ) (y : Say) (clients : List ClientState) (e new : ClientState) →
      place < length S.says → slice_index_or S.says place y ≡ y → turn_said S.shape y ≡ g →
      writer_of S y.log ≡ k → k < length clients →
      let one = slice_index_or clients k e in
      new ≡ record one { writing = with_text y.log y.text one.writing } →
      AreClients S.shape.clients (told_of S knows g (said_of S g place)) clients →
      AreClients S.shape.clients (told_of S knows g (said_of S g (place + 1))) (set clients k new)
  told-next place k y clients e new within here now mine low is are =
      let says = said_of S g place in
      let more : said_of S g (place + 1) ≡ says ++ y ∷ [] =
      said-next S g place y within (ap (turn_said S.shape) here ∙ now)
      ∙ ap (λ (z : Say). says ++ z ∷ []) here
      in
      let says_text =
      λ (s : ClientState). record s { writing = with_text y.log y.text s.writing }
      in
      let was = are.each k e low in
      let then : new ≡ told_of S knows g (says ++ y ∷ []) k =
      is ∙ ap says_text was ∙ sym (with-text k says y mine)
      in
      record {
        counted = length-set clients k new ∙ are.counted;
        each = λ c d inside. elim (cases_eq c k) [
          | inl same ↦
              ap (λ n. slice_index_or (set clients k new) n d) same
              ∙ get_or-set_same clients k new d low ∙ then
              ∙ ap (λ n. told_of S knows g (says ++ y ∷ []) n) (sym same)
              ∙ ap (λ all. told_of S knows g all c) (sym more)
          | inr other ↦
              get_or-set_other clients k c new d other
              ∙ are.each c d (omega (arith, inside, length-set clients k new))
              ∙ sym (without-text c says y (λ same. other (sym same ∙ mine)))
              ∙ ap (λ all. told_of S knows g all c) (sym more)
        ];
      }
