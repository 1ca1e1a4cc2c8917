-- One more entry is seen.
use Rattle.std.proofs.Common.{◌≡◌, ◌+◌, ◌++◌, ◌∷◌, ◌<◌, [], ap, ap₂, sym, subst, ◌∙◌, arith, ℕ, List, suc, length, drop}
use Rattle.std.proofs.Common.{drop-cons}
use Rattle.std.proofs.lemmas.List.{drop_all}
use Rattle.std.specs.Prelude.{IsTrue, flat_map, slice_index_or}
use Rattle.tk_schedule.specs.declared.item.Item.{Item}
use Rattle.tk_schedule.specs.declared.item.Item.TheVariants.{Client}
use Rattle.tk_schedule.specs.Schedule.{phase_of, is_within}
use Rattle.tk_frames.specs.Spelling.{placed_frame}
use Rattle.tk_report.specs.Entries.{placed_from}
use Rattle.tk_report.specs.Turns.{entry_due}
use Rattle.tk_report.proofs.Offers.{list_all-at}
use Rattle.tk_run.specs.Courses.{entries_behind}
use Rattle.tk_run.proofs.Entering.{SeenTo, at_place, seen-none, seen-next, seen-all}
use Rattle.tk_run.proofs.tap_bytes.entries_from.Goals as goal

pub items-init : goal.items-init
items-init c write are =
    let order = c.args.order.now in
    let phase = phase_of c.args.shape.now c.args.turn in
    let start = entries_behind c.args.shape.now c.args.turn + 1 in
    let whole = flat_map placed_frame (placed_from write start phase order) in
    let here : start ≡ start + 0 = omega arith in
    subst (λ (bytes : List ℕ). SeenTo write phase (start + 0) order bytes whole)
    (sym c.new-bytes.ensures.items)
    (subst (λ (p : ℕ). SeenTo write phase p order [] whole) here
    (seen-none write phase start order c.requires.marks))

pub put_entry-requires : goal.put_entry-requires
put_entry-requires c =
    let shape = c.args.shape.now in
    let low : c.items.i < length c.args.order.now = omega (arith, c.items-test.true) in (
      shape,
      c.requires.frames.0,
      c.requires.frames.1,
      list_all-at (is_within shape.clients) c.args.order.now c.items.i (Client 0) low c.requires.within,
    )

pub items-preserved : goal.items-preserved
items-preserved c write are =
    let order = c.args.order.now in
    let phase = phase_of c.args.shape.now c.args.turn in
    let start = entries_behind c.args.shape.now c.args.turn + 1 in
    let whole = flat_map placed_frame (placed_from write start phase order) in
    let i = c.items.i in
    let low : i < length order = omega (arith, c.items-test.true) in
    let item = slice_index_or order i (Client 0) in
    let bytes = c.items.bytes.items in
    let more = c.put_entry.new.out.items in
    let within : IsTrue (is_within c.args.shape.now.clients item) =
    list_all-at (is_within c.args.shape.now.clients) order i (Client 0) low c.requires.within
    in
    let next : suc i ≡ i + 1 = omega arith in
    let place : start + i + 1 ≡ start + (i + 1) = omega arith in
    let position : c.behind-start.result + i + 1 ≡ start + i = omega (arith, c.behind-start.ensures) in
    subst (λ (p : ℕ). SeenTo write phase p (drop (i + 1) order) more whole) place
    (seen-next write phase (start + i) item (drop (i + 1) order) bytes more whole
    (c.in_ok-put_entry.ensures c.args.shape.now write are within
    ∙ ap₂ (λ (p n : ℕ). bytes ++ placed_frame (at_place p (entry_due write n item))) position c.place-phase.ensures.phase)
    (subst (λ (items : List Item). SeenTo write phase (start + i) items bytes whole)
    (drop-cons order i (Client 0) low ∙ ap (λ (n : ℕ). item ∷ drop n order) next)
    (c.items.invariant write are)))

pub returns : goal.returns
returns c write are =
    let order = c.args.order.now in
    let phase = phase_of c.args.shape.now c.args.turn in
    let start = entries_behind c.args.shape.now c.args.turn + 1 in
    let whole = flat_map placed_frame (placed_from write start phase order) in
    seen-all write phase (start + c.items.i) c.items.bytes.items whole
    (subst (λ (items : List Item). SeenTo write phase (start + c.items.i) items c.items.bytes.items whole)
    (drop_all c.items.i order (omega (arith, c.items-test.false))) (c.items.invariant write are))
