-- A slot whose buckets are the pair gives what its block opens to.
use Rattle.std.proofs.Common.{◌∙◌, ap, sym, ℕ, Some}
use Rattle.std.specs.Prelude.{Option}
use Rattle.std.proofs.lemmas.List.{take_rest}
use Rattle.tk_words.specs.Words.{words_of, opened}
use Rattle.tk_frames.specs.Slots.{Accepted, slot_from}
use Rattle.tk_client.proofs.TakingLaws.{accepted_text, accepted_nothing}
use Rattle.tk_client.proofs.wanted.accepted_in.Goals as goal

pub returns-in-Some : goal.returns-in-Some
returns-in-Some g c =
    let wanted = c.args.wanted in
    let slot = c.args.slot.now in
    let words = words_of c.args.shape.now (g.D.Draws.book c.args.draws.now) in
    let opens = opened words wanted.log wanted.number in
    let text = c.in-Some.text in
    let some : ℕ → Option Accepted = λ position. Some (position, text) in
    let opened_is = sym (c.in_ok-text.ensures.text ∙ ap opens (take_rest slot 16)) ∙ c.in-Some.is in
    record {
      accepted =
          ap some c.u64_at-position.ensures
          ∙ sym
          (accepted_text wanted.pair opens (slot_from slot) text
          (λ e. c.if-position-eq0.false (c.u64_at-position.ensures ∙ e))
          (sym c.u32_at.ensures ∙ c.if-u32_at-wanted.false)
          (sym c.u32_at-else-u32_at-wanted.ensures ∙ c.if-u32_at-wanted-2.false)
          opened_is);
    }

pub returns-in-None : goal.returns-in-None
returns-in-None g c =
    let wanted = c.args.wanted in
    let slot = c.args.slot.now in
    let words = words_of c.args.shape.now (g.D.Draws.book c.args.draws.now) in
    let opens = opened words wanted.log wanted.number in
    let closed = sym (c.in_ok-text.ensures.text ∙ ap opens (take_rest slot 16)) ∙ c.in-None.is in
    record { accepted = sym (accepted_nothing wanted.pair opens (slot_from slot) closed) }
