-- An input of two scripts, and the tape that is made of its parts.
use Rattle.std.proofs.Common.{◌≡◌, ◌∙◌, refl, ap, sym, subst, ℕ, List, Option, Some}
use Rattle.std.specs.Prelude.{IsSome, None}
use Rattle.tk_shape.specs.declared.shape.Shape.{Shape}
use Rattle.tk_schedule.specs.declared.history.History.{History}
use Rattle.tk_schedule.specs.declared.raw.RawLine.{RawLine}
use Rattle.tk_schedule.specs.Schedule.{IsLegal}
use Rattle.tk_script.specs.declared.form.Form.{Form}
use Rattle.tk_script.specs.declared.form.Form.TheVariants as form
use Rattle.tk_script.specs.declared.input.Input.{Input}
use Rattle.tk_script.specs.declared.reply.RawReply.{RawReply}
use Rattle.tk_script.specs.declared.script.Script.{Script}
use Rattle.tk_script.specs.Book.{HasTape}
use Rattle.tk_script.specs.Grammar.{Spells}
use Rattle.tk_script.specs.Printing.{printed_tape}
use Rattle.tk_script.proofs.Offers.{spelled-HasTape, zip-replies}
use Rattle.tk_privacy.specs.Privacy.{mirror}
use Rattle.tk_hostile.specs.Choice.{Choice}
use Rattle.tk_hostile.specs.Wrong.{wrong_mirror}
use Rattle.tk_cli.specs.declared.hiding.Hiding.{Hiding}
use Rattle.tk_cli.specs.declared.request.Request.TheVariants as request
use Rattle.tk_cli.specs.Chosen.{HasReplies, chosen}
use Rattle.tk_cli.specs.Endings.{IsTextFor, mirror_of, wrong_of}
use Rattle.tk_cli.specs.Hidings.{IsHiding, IsOfTwo}
use Rattle.tk_cli.specs.Inputs.{HasHistory}

-- ---- what is spelled

pub drawn-tape : (f : Form) (bytes : List ℕ) (input : Input) → Spells f bytes input →
    input.first.keys ≡ None → HasTape input.first.shape None input.tape
drawn-tape f bytes input spelled drawn =
    subst (λ k. HasTape input.first.shape k input.tape) drawn (spelled-HasTape f bytes input spelled)

there : {X : Type 0} (o : Option X) (x : X) → o ≡ Some x → IsSome o
there o x is = subst IsSome (sym is) refl

pub mirror-two : (bytes : List ℕ) (input : Input) → Spells form.Mirror bytes input → IsOfTwo input
mirror-two bytes input spelled = record {
  drawn = spelled.two.first_drawn;
  tape = drawn-tape form.Mirror bytes input spelled spelled.two.first_drawn;
  second = there input.second spelled.other spelled.has_second;
  history = there input.history spelled.raw spelled.has_history;
}

pub wrong-two : (bytes : List ℕ) (input : Input) → Spells form.Wrong bytes input → IsOfTwo input
wrong-two bytes input spelled = record {
  drawn = spelled.two.first_drawn;
  tape = drawn-tape form.Wrong bytes input spelled spelled.two.first_drawn;
  second = there input.second spelled.other spelled.has_second;
  history = there input.history spelled.raw spelled.has_history;
}

pub wrong-replies : (bytes : List ℕ) (input : Input) → Spells form.Wrong bytes input →
    HasReplies input.first.shape input.replies
wrong-replies bytes input spelled =
    subst (HasReplies input.first.shape) (sym spelled.has_replies)
    (zip-replies input.first.shape spelled.replies.reply_lines spelled.answers spelled.replies.each)

-- ---- its parts

pub told-legal : (shape : Shape) (raw : Option (List RawLine)) (H : History) →
    HasHistory shape raw H → IsLegal shape H
told-legal shape None H told = absurd told
told-legal shape (Some raw) H told = told.legal

-- its replies are those of its shape
pub with-parts : (hidden : ℕ) (input : Input) (x : Hiding) → IsHiding hidden input x →
    HasReplies input.first.shape input.replies → HasReplies x.first.shape x.replies
with-parts hidden input x is has =
    subst (λ (o : Option (List RawReply)). HasReplies x.first.shape o) (sym is.replies)
    (subst (λ (S : Script). HasReplies S.shape input.replies) (sym is.first) has)

-- ---- what is made of it

module _ (hidden : ℕ) (input : Input) (x : Hiding) (is : IsHiding hidden input x)
    (v : List ℕ) {text : List ℕ} (printed : text ≡ printed_tape v) where
  pub mirror-answers : v ≡ mirror x.first x.second x.history hidden x.tape →
      IsTextFor (request.Mirror hidden) input text
  mirror-answers made = record {
    history = x.history;
    accepted = is.accepted;
    due = is.told;
    made = printed ∙ ap printed_tape made
        ∙ (λ i. mirror_of hidden (is.first i) (sym is.second i) x.history (is.kept i));
  }

  pub wrong-answers : (F : Choice) → F ≡ chosen x.first.shape x.replies →
      v ≡ wrong_mirror x.first x.second x.history hidden F x.tape →
      IsTextFor (request.Wrong hidden) input text
  wrong-answers F choice made = record {
    history = x.history;
    accepted = is.accepted;
    due = is.told;
    made = printed ∙ ap printed_tape made
        ∙ ap (λ G. wrong_of hidden x.first (Some x.second) x.history G x.tape) choice
        ∙ (λ i. wrong_of hidden (is.first i) (sym is.second i) x.history
        (chosen (is.first i).shape (is.replies i)) (is.kept i));
  }
