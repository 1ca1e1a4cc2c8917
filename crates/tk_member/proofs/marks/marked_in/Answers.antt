-- A position that is marked comes behind the earlier ones, and another changes nothing.
use Rattle.std.proofs.Common.{◌∙◌, sym, ap, List, ℕ, [], ◌∷◌, ◌++◌, Vec, Global}
use Rattle.tk_kernel.specs.Chosen.{has_bit}
use Rattle.tk_report.proofs.Offers.{passes-next, fails-next}
use Rattle.tk_member.proofs.marks.marked_in.Goals as goal
use Rattle.tk_member.proofs.marks.marked_in.Goals.{then-bit+in_ok-push, else-bit}

pub places-preserved : goal.places-preserved
places-preserved c =
    let marks = c.args.marks.now in
    let place = c.places.place in
    let so_far = c.places.invariant in
    let items = λ (v : Vec ℕ Global). v.items in
    elim c.if-bit.branch [
      | then-bit+in_ok-push w ↦
          ap items w.marked-is ∙ w.in_ok-push.ensures.items
          ∙ ap (λ (ps : List ℕ). ps ++ place ∷ []) so_far
          ∙ passes-next (has_bit marks) place (sym c.bit.ensures ∙ w.if-bit.true)
      | else-bit w ↦
          ap items w.marked-is ∙ so_far
          ∙ fails-next (has_bit marks) place (sym c.bit.ensures ∙ w.if-bit.false)
    ]
