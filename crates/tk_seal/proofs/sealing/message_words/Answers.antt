-- The key's words come first, and after the next eight those of the pad.
use Rattle.std.proofs.Common.{ℕ, ap, ◌∙◌, arith}
use Rattle.tk_handle.specs.Handle.{Place, key_bytes}
use Rattle.tk_handle.proofs.Offers.{placed}
use Rattle.tk_seal.proofs.sealing.message_words.Goals as goal

pub fill-requires-clause-low : goal.fill-requires-clause-low
fill-requires-clause-low c = omega (arith, ap (λ (p : Place). p.place) c.at-words.ensures)

pub skip-requires : goal.skip-requires
skip-requires c =
    omega (arith, ap (λ (p : Place). p.place) c.fill.ensures.next, ap (λ (p : Place). p.place) c.at-words.ensures)

pub returns-clause-key : goal.returns-clause-key
returns-clause-key c =
    (rw c.at-words.ensures at c.fill.ensures.bytes)
    ∙ ap (λ n. key_bytes c.args.handle.now.key n 0 32) c.from.ensures

pub returns-clause-words : goal.returns-clause-words
returns-clause-words c =
    let h = c.args.handle.now in
    (rw (c.fill.ensures.next, c.at-words.ensures) at c.skip.ensures) ∙ ap (λ (n : ℕ). placed h.key n 16) c.from.ensures
