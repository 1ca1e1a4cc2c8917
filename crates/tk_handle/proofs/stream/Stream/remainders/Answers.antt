-- One more word is written.
use Rattle.std.proofs.Common.{◌≡◌, ◌∙◌, ℕ, ◌+◌, ◌%◌, ◌<◌, List, [], ◌∷◌, ◌++◌, length, ap, ap₂, sym, arith, refl, subst}
use Rattle.std.proofs.lemmas.List.FromFn.{map-range_with_len_more}
use Rattle.std.proofs.lemmas.Grind.{take-set_at}
use Rattle.std.proofs.lemmas.List.{take_all}
use Rattle.std.specs.List.{AllByRecursion}
use Rattle.tk_handle.specs.Handle.{Place, word}
use Rattle.tk_handle.proofs.Below.{remainders_below}
use Rattle.tk_handle.proofs.KeyBytes.{placed}
use Rattle.tk_handle.proofs.stream.Stream.remainders.Goals as goal

pub next_word-requires : goal.next_word-requires
next_word-requires c =
    omega (arith, c.requires.low, c.requires.short, ap (λ (p : Place). p.place) c.loop-i.invariant.0, c.loop-i-test.true)

pub loop-i-preserved : goal.loop-i-preserved
loop-i-preserved c =
    let i = c.loop-i.i in
    let at = c.args.self.now in
    let f = λ (i : ℕ). word at.key at.stream i % c.args.below in
    let here = rw c.loop-i.invariant.0 at c.next_word.ensures.word in
    let moved = rw c.loop-i.invariant.0 at c.next_word.ensures.next in
    let within : i < length c.loop-i.out = omega arith in
    let next : at.place + i + 1 ≡ at.place + (i + 1) = omega arith in (
      moved ∙ ap (placed at.key at.stream) next,
      take-set_at c.loop-i.out i (i + 1) (c.next_word.result % c.args.below) refl within
          ∙ ap₂ (λ (xs : List ℕ) (x : ℕ). xs ++ x ∷ []) c.loop-i.invariant.1 (ap (λ n. n % c.args.below) here)
          ∙ sym (map-range_with_len_more f at.place i (at.place + i) refl),
    )

pub returns-clause-below : goal.returns-clause-below
returns-clause-below c =
    let at = c.args.self.now in
    let f = λ (i : ℕ). word at.key at.stream i in
    let all = c.loop-i.invariant.1 in
    subst (AllByRecursion (λ rest. rest < c.args.below)) (sym all ∙ take_all c.loop-i.i c.loop-i.out (omega arith))
    (remainders_below f c.args.below at.place c.loop-i.i c.requires.some)
