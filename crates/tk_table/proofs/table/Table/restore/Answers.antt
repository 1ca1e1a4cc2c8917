use Rattle.std.proofs.Common.{◌∙◌, inl, inr, ap, sym, subst, arith, length}
use Rattle.std.specs.List.{All}
use Rattle.tk_table.specs.Table.{SlotTable}
use Rattle.tk_table.specs.Stands.{IsPair}
use Rattle.tk_table.specs.Inside.{Laid, IsSlotIn, IsKnown, EachHas}
use Rattle.tk_table.proofs.Spelled.{length-slots_spelled, each_spelled}
use Rattle.tk_table.proofs.table.Table.restore.Goals as goal

pub restore-requires-clause-own : goal.restore-requires-clause-own
restore-requires-clause-own c =
    let shape = c.args.shape.now in
    let bytes = c.args.bytes.now in
    each_spelled shape bytes (IsSlotIn shape) (λ n low.
    elim (c.requires.sound n (omega (arith, low, length-slots_spelled shape bytes))) [
      | inl empty ↦ inl empty
      | inr new ↦ inr new.entry
    ])

pub invariant_of-result : goal.invariant_of-result
invariant_of-result c =
    let shape = c.args.shape.now in
    let bytes = c.args.bytes.now in
    let at = c.in_ok-of.ensures in
    let kept = at.pairs ∙ c.as_slice.ensures.value in
    record {
      same = ap (λ (g : Laid). g.shape) c.in_ok-restore.ensures;
      whole = c.in_ok-scratch_for.ensures;
      space = at.room;
      few = rw at.positions c.requires.few;
      beside = ap length kept ∙ c.in_ok-pairs.ensures.beside ∙ sym (ap length at.positions);
      pairs = subst (All (IsPair shape)) (sym kept) c.in_ok-pairs.ensures.pairs;
      known = subst (λ (T : SlotTable). EachHas (IsKnown c.in_ok-of.field-0.positions c.in_ok-of.field-0.pairs) T)
          (sym (ap (λ (g : Laid). g.slots) c.in_ok-restore.ensures))
          (rw (at.positions, kept)
          (each_spelled shape bytes (λ _. IsKnown c.args.positions.now c.in_ok-pairs.pairs.items)
          (λ n low. c.in_ok-pairs.ensures.known n (omega (arith, low, length-slots_spelled shape bytes)))));
    }
