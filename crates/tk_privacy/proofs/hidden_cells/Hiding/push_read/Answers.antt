-- The read frame of the client's turn lies at its place.
use Rattle.std.proofs.Common.{◌≡◌, ◌∙◌, ◌<◌, ◌++◌, ap, ap₂, subst, arith, List, ℕ, length, get_or, OnOk}
use Rattle.std.proofs.lemmas.List.{get_or_default}
use Rattle.tk_shape.specs.Lengths.{turn_count}
use Rattle.tk_frames.specs.declared.read_frame.ReadFrame.{ReadFrame}
use Rattle.tk_words.specs.CellLaws.{place_within}
use Rattle.tk_report.specs.Exchange.{blank_read}
use Rattle.tk_privacy.specs.Hiding.{cell_with, read_in}
use Rattle.tk_privacy.proofs.hidden_cells.Hiding.push_read.Goals as goal

pub bounds-self-place : goal.bounds-self-place
bounds-self-place c =
    let e = c.args.self.now in
    let shape = e.cells.now.shape.now in
    let within =
    place_within c.args.turn c.args.client (turn_count shape) shape.clients 1 c.requires.turn_in
    c.requires.client_in
    in
    omega (arith, within, e.counted, c.place.ensures)

pub returns : goal.returns
returns c =
    let e = c.args.self.now in
    let shape = e.cells.now.shape.now in
    let reads = e.reads.now in
    let read = c.index-self-place.result in
    let within : c.place.result < length reads =
    omega (
      arith,
      place_within c.args.turn c.args.client (turn_count shape) shape.clients 1
          c.requires.turn_in c.requires.client_in,
      e.counted,
      c.place.ensures,
    )
    in
    let read_is : get_or reads c.place.result read ≡ read_in shape reads c.args.turn c.args.client =
    get_or_default reads c.place.result read blank_read within
    ∙ ap (λ k. get_or reads k blank_read) c.place.ensures
    in
    let cell =
    ap₂ (λ (r : ReadFrame) (bytes : List ℕ). cell_with shape e.hidden r.first r.second bytes)
    read_is c.read_cell.ensures.cell
    in
    subst (λ (bytes : List ℕ). OnOk c.push_hidden.result
    (c.push_hidden.new.out.items ≡ c.args.out.now.items ++ bytes)) cell c.push_hidden.ensures
