-- One more word is passed over.
use Rattle.std.proofs.Common.{◌≡◌, ◌+◌, ap, ◌∙◌, arith}
use Rattle.tk_handle.specs.Handle.{Place}
use Rattle.tk_handle.proofs.KeyBytes.{placed}
use Rattle.tk_handle.proofs.stream.Stream.skip.Goals as goal

pub next_word-requires : goal.next_word-requires
next_word-requires c = omega (arith, c.requires, ap (λ (p : Place). p.place) c.loop.invariant)

pub loop-preserved : goal.loop-preserved
loop-preserved c =
    let at = c.args.self.now in
    let i = c.loop.counter in
    let next : at.place + i + 1 ≡ at.place + (i + 1) = omega arith in
    (rw c.loop.invariant at c.next_word.ensures.next) ∙ ap (placed at.key at.stream) next
