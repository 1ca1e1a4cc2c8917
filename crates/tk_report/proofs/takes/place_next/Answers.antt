-- The entry stands after those that were taken.
use Rattle.std.proofs.Common.{◌++◌, ◌∷◌, [], sym, subst, arith}
use Rattle.std.specs.Prelude.{OnOk}
use Rattle.tk_frames.specs.declared.entry.Placed.{Placed}
use Rattle.tk_frames.specs.InOrder.{IsNext}
use Rattle.tk_report.proofs.PlacingLaws.{place-room, placed-same}
use Rattle.tk_report.proofs.takes.place_next.Goals as goal

pub taken-position-requires : goal.taken-position-requires
taken-position-requires g c =
    let may = c.requires in
    record { was = may.was; shape = may.shape; E = may.E; F = may.F; has = may.has }

pub overflow_add-position : goal.overflow_add-position
overflow_add-position g c =
    let may = c.requires in
    let taken = c.taken-position.ensures may.was may.shape may.E may.F may.has in
    omega (arith, taken, place-room may.shape (may.E ++ may.F) c.args.entry may.next)

pub take-requires : goal.take-requires
take-requires g c =
    let may = c.requires in
    let taken = c.taken-position.ensures may.was may.shape may.E may.F may.has in
    record {
      was = may.was;
      shape = may.shape;
      E = may.E;
      F = may.F;
      has = may.has;
      next =
          subst (IsNext may.shape (may.E ++ may.F))
          (sym (placed-same (may.E ++ may.F) c.args.entry c.taken-position.result taken)) may.next;
    }

pub returns : goal.returns
returns g c = λ was shape E F has next.
    let taken = c.taken-position.ensures was shape E F has in
    let same = placed-same (E ++ F) c.args.entry c.taken-position.result taken in
    subst (λ (p : Placed). OnOk c.take.result
    (g.T.Takes.took was shape E (F ++ p ∷ []) c.take.new.self)) same
    (c.take.ensures was shape E F has (subst (IsNext shape (E ++ F)) (sym same) next))
