-- The last epoch of the state, and what is appended.
use Rattle.std.proofs.Common.{◌∙◌, ◌++◌, List, ℕ, length, refl, ap, sym}
use Rattle.std.proofs.lemmas.Result.{err_from_is_err_and}
use Rattle.tk_bucket.specs.Bytes.{BlockList}
use Rattle.tk_bloom.specs.Windows.{Kept as KeptPushes}
use Rattle.tk_table.specs.Stands.{Kept}
use Rattle.tk_checkpoint.specs.Saved.{head_with}
use Rattle.tk_checkpoint.proofs.Written.{last-found, refusal-none, refused, parts-joined, saved-written}
use Rattle.tk_checkpoint.proofs.save.checkpoint.Goals as goal

pub returns-then-upto-applied-clause-refused : goal.returns-then-upto-applied-clause-refused
returns-then-upto-applied-clause-refused c =
    let last = last-found c.args.state.now _ _ c.matched.ensures.epochs c.last.ensures c.epoch-epoch.ensures.at in
    refused c.args.state.now c.applied-applied.result c.upto-upto.result c.applied-applied.ensures
    (c.upto-upto.ensures ∙ sym last.upto) c.if-upto-applied.true

pub returns-clause-at_mark : goal.returns-clause-at_mark
returns-clause-at_mark c =
    let last = last-found c.args.state.now _ _ c.matched.ensures.epochs c.last.ensures c.epoch-epoch.ensures.at in
    refusal-none c.args.state.now
    (last.upto ∙ sym c.upto-upto.ensures ∙ c.if-upto-applied.false ∙ c.applied-applied.ensures)

pub returns-in_err-reserve-clause-refused : goal.returns-in_err-reserve-clause-refused
returns-in_err-reserve-clause-refused c =
    let last = last-found c.args.state.now _ _ c.matched.ensures.epochs c.last.ensures c.epoch-epoch.ensures.at in
    let same = last.upto ∙ sym c.upto-upto.ensures ∙ c.if-upto-applied.false ∙ c.applied-applied.ensures in
    let p = err_from_is_err_and c.from_residual.result c.from_residual.ensures.1 in
    rw (p.1, p.2, refusal-none c.args.state.now same) refl

pub returns-clause-written : goal.returns-clause-written
returns-clause-written c =
    let s = c.args.state.now in
    let last = last-found c.args.state.now _ _ c.matched.ensures.epochs c.last.ensures c.epoch-epoch.ensures.at in
    let window = c.window-window.ensures in
    parts-joined s c.pushes-2.result c.positions.result.now c.window-window.result.now.pushes
    c.blocks-2.result.now.blocks
    c.args.out.now.items c.put_head.new.out.items c.put_window.new.out.items c.put_blocks.new.out.items
    (c.pushes-2.ensures ∙ ap (λ (w : KeptPushes). length w.pushes) window)
    (c.positions.ensures ∙ ap (λ (t : Kept). t.positions) c.slots.ensures)
    (ap (λ (w : KeptPushes). w.pushes) window)
    (ap (λ (b : BlockList). b.blocks) c.blocks-2.ensures ∙ sym last.blocks)
    (c.put_head.ensures.items
    ∙ ap (λ (x : List ℕ). x ++ head_with s.shape s.applied s.last c.pushes-2.result) c.in_ok-reserve.ensures.items)
    c.put_window.ensures.items
    c.put_blocks.ensures

pub returns-clause-saved : goal.returns-clause-saved
returns-clause-saved c = λ shape E stands.
    let last = last-found c.args.state.now _ _ c.matched.ensures.epochs c.last.ensures c.epoch-epoch.ensures.at in
    let same = last.upto ∙ sym c.upto-upto.ensures ∙ c.if-upto-applied.false ∙ c.applied-applied.ensures in
    saved-written shape E c.args.state.now stands c.args.out.now.items c.put_blocks.new.out.items same
    (returns-clause-written c)
