use Rattle.std.proofs.Common.{◌∙◌, ◌/◌, ap, sym}
use Rattle.tk_kernel.proofs.Offers.{length-pieces}
use Rattle.tk_bloom.proofs.window.Window.pushes.Goals as goal

pub returns : goal.returns
returns c =
    let positions = c.self.inside.tally.positions in
    rw (← c.self.view_is)
    (ap (λ n. n / c.self.inside.hits) c.len.ensures ∙ sym (length-pieces c.self.inside.hits _ positions))
