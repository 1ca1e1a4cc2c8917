-- The word at the place, and the place after it.
use Rattle.std.proofs.Common.{◌≡◌, ℕ, ◌+◌, ◌%◌, ◌^◌, ap, ap₂, ◌∙◌, arith}
use Rattle.rand_chacha.specs.ChaCha.{ChaCha, word_at}
use Rattle.tk_handle.specs.Handle.{Place, word}
use Rattle.tk_handle.proofs.KeyBytes.{placed}
use Rattle.tk_handle.proofs.stream.Stream.next_word.Goals as goal

pub invariant_of-self : goal.invariant_of-self
invariant_of-self c =
    let stepped = c.next_word.ensures in (
      ap (λ (p : ℕ × ChaCha). p.1.key) stepped ∙ c.self.invariant.0,
      ap (λ (p : ℕ × ChaCha). p.1.stream) stepped ∙ c.self.invariant.1,
    )

pub returns-clause-word : goal.returns-clause-word
unfolding word
returns-clause-word c =
    let words = c.self.inside.words in
    rw (← c.self.view_is)
    (ap (λ (p : ℕ × ChaCha). p.0) c.next_word.ensures
    ∙ ap₂ (λ k s. word_at 10 k s words.word_pos) c.self.invariant.0 c.self.invariant.1)

pub returns-clause-next : goal.returns-clause-next
returns-clause-next c =
    let inside = c.self.inside in
    let small : (inside.words.word_pos + 1) % 2 ^ 68 ≡ inside.words.word_pos + 1 =
    omega (arith, c.requires, ap (λ (p : Place). p.place) c.self.view_is)
    in
    rw (← c.self.view_is)
    (ap (placed inside.key inside.stream) (ap (λ (p : ℕ × ChaCha). p.1.word_pos) c.next_word.ensures ∙ small))
