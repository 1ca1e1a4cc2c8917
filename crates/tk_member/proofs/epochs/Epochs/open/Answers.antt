-- No server told anything.
use Rattle.std.proofs.Common.{◌∙◌, ap, List, ℕ, []}
use Rattle.tk_shape.specs.declared.shape.Shape.{Shape}
use Rattle.tk_member.specs.Epochs.{Marks, ToldMarks}
use Rattle.tk_member.specs.Keeping.{EpochsState, told_so_far}
use Rattle.tk_member.proofs.Tellings.{none-told}
use Rattle.tk_member.proofs.epochs.Epochs.open.Goals as goal

abbrev state_of : Shape → List ToldMarks → EpochsState
state_of shape told = record { shape = shape; told = told }

pub returns : goal.returns
returns c =
    let shape = c.args.shape.now in
    let last = c.in_ok-vec.field-0.items in
    let state = λ (told : List ToldMarks). state_of shape told in
    ap (λ (marks : List Marks). state (told_so_far marks last)) c.new.ensures.items
    ∙ ap (λ (ls : List ℕ). state (told_so_far [] ls))
    (c.in_ok-vec.ensures.items_if_clones_equal (λ y e. e))
    ∙ ap state (none-told shape.servers)
