-- A member is set up by its number and the script behind it, and by nothing else.
use Rattle.std.proofs.Common.{◌≡◌, ◌∙◌, ap, sym, subst, arith, rules, ℕ, List, [], length, Err}
use Rattle.std.proofs.lemmas.Bool.{eqb-true, eqb-false}
use Rattle.std.proofs.lemmas.List.{nil_from_length}
use Rattle.tk_script.specs.declared.script.Script.{Script}
use Rattle.tk_script.specs.declared.say.Say.{Say}
use Rattle.tk_member.specs.SetUp.{SpellsKeyed}
use Rattle.tk_member.proofs.SetUpLaws.{set-up-read, sets-up}
use Rattle.tk_member.proofs.setup.set_up.Goals as goal
use Rattle.tk_member.proofs.setup.set_up.Goals.{then-number-script-via-then-number-script}
use Rattle.tk_member.proofs.setup.set_up.Goals.{then-number-script-via-else-number-script+then-not-is_empty}

pub returns-in_err-script-clause-only : goal.returns-in_err-script-clause-only
returns-in_err-script-clause-only c = λ b m is.
    let bytes = c.bytes-bytes.result.now in
    let read = set-up-read c.args.first.now bytes b m c.bytes-bytes.ensures is in
    let e = c.in_err-script.field-0.0 in
    let out : c.from_residual.result ≡ Err e = search rules in
    rw out
    (c.in_err-script.ensures.refused is.input
    (subst (λ (text : List ℕ). SpellsKeyed text is.input)
    (sym (c.parts_of-number.ensures.text ∙ read.text_is)) is.sets.spelled))

pub returns-then-number-script-clause-only : goal.returns-then-number-script-clause-only
returns-then-number-script-clause-only c = λ b m is.
    let bytes = c.bytes-bytes.result.now in
    let read = set-up-read c.args.first.now bytes b m c.bytes-bytes.ensures is in
    let same : c.in_ok-script.script ≡ is.input.first =
    c.in_ok-script.ensures.only is.input
    (subst (λ (text : List ℕ). SpellsKeyed text is.input)
    (sym (c.parts_of-number.ensures.text ∙ read.text_is)) is.sets.spelled)
    in
    elim c.then-number-script.branch [
      | then-number-script-via-then-number-script w ↦
          let clients : c.in_ok-script.script.shape.clients ≡ is.input.first.shape.clients =
          ap (λ (S : Script). S.shape.clients) same
          in
          let number : c.parts_of-number.result.0 ≡ is.number = c.parts_of-number.ensures.number ∙ read.number_is in
          absurd (omega (arith, clients, number, is.sets.number_in, w.if-number-script.true))
      | then-number-script-via-else-number-script+then-not-is_empty w ↦
          let none : length w.as_slice.result.now ≡ 0 =
          ap (λ (ys : List Say). length ys)
          (w.as_slice.ensures ∙ ap (λ (S : Script). S.says) same ∙ is.sets.silent)
          in
          absurd
          (eqb-false (length w.as_slice.result.now) 0
          (sym w.is_empty.ensures ∙ w.if-not-is_empty.true) none)
    ]

pub returns-clause-found : goal.returns-clause-found
returns-clause-found c =
    let script = c.in_ok-script.script in
    let found = c.in_ok-script.ensures.found in
    let silent : script.says ≡ [] =
    sym c.as_slice.ensures
    ∙ nil_from_length c.as_slice.result.now
    (eqb-true (length c.as_slice.result.now) 0 (sym c.is_empty.ensures ∙ c.if-not-is_empty.false))
    in
    sets-up c.args.first.now c.parts_of-number.result.1.now c.parts_of-number.result.0 script found.0 _
    c.in_ok-member.member (sym c.peer.ensures ∙ c.if-peer-ne0.false)
    (sym (c.parts_of-number.ensures.whole ∙ c.bytes-bytes.ensures)) found.1 found.2 silent
    c.if-number-script.false c.in_ok-draws.ensures.words c.in_ok-member.ensures
