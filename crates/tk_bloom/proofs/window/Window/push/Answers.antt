use Rattle.std.proofs.Common.{List, ℕ, ap}
use Rattle.tk_bloom.specs.Windows.{Kept}
use Rattle.tk_bloom.proofs.Windowing.{whole_after_push, pushes_in-window, count_times}
use Rattle.tk_bloom.proofs.window.Window.push.Goals as goal

-- a window with these pushes
abbrev with_pushes : ℕ → ℕ → ℕ → List (List ℕ) → Kept
with_pushes bits hits retained pushes =
    record { bits = bits; hits = hits; retained = retained; pushes = pushes }

pub returns : goal.returns
returns c =
    let are = c.self.invariant in
    let times = count_times _ _ are.whole in
    let one = rw (← c.self.view_is) at c.requires.whole in
    rw (c.append.ensures, c.keep_last.ensures, ← c.self.view_is)
    (ap (with_pushes c.self.inside.tally.bits c.self.inside.hits c.self.inside.retained)
    (pushes_in-window _ _ _ _ _ are.some_hits are.some_retained times one))

pub invariant_of-self : goal.invariant_of-self
invariant_of-self c =
    let one = rw (← c.self.view_is) at c.requires.whole in
    let below = rw (← c.self.view_is) at c.requires.in_range in
    rw (c.append.ensures, c.keep_last.ensures)
    (whole_after_push _ _ _ _ _ _ c.self.invariant one below)
