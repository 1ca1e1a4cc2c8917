-- What is known to find nothing finds nothing; else the places from the cursor on come first.
use Rattle.std.proofs.Common.{◌∙◌, sym, ap, ◌-◌, List, length}
use Rattle.std.specs.Prelude.{◌==◌, not}
use Rattle.std.specs.List.{range_with_len}
use Rattle.std.specs.Option.{option_or}
use Rattle.tk_frames.specs.Lists.{first_some}
use Rattle.tk_words.specs.Words.{words_of}
use Rattle.tk_client.specs.Asked.{shown_by}
use Rattle.tk_client.specs.Reader.{Follow, Reader, target_in}
use Rattle.tk_client.specs.Searching.{follows_anew}
use Rattle.tk_client.proofs.ReaderLaws.{target-anew}
use Rattle.tk_client.proofs.reader.Reader.target.Goals as goal

pub returns-clause-target : goal.returns-clause-target
returns-clause-target g c =
    let sight = c.args.sight.now in
    let shape = sight.shape.now in
    let shown = shown_by sight.filter.now (words_of shape (g.D.Draws.book sight.draws.now)) in
    let was = c.self.inside in
    let items = was.follows.items in
    let i = was.cursor in
    let r : Reader = record { follows = items; cursor = i; last = was.last } in
    let anew = not (c.args.epoch == was.last) in
    let first = λ (fs : List Follow). first_some (target_in shape shown (follows_anew anew fs)) in
    let all = λ (fs : List Follow). option_or (first fs (range_with_len i (length fs - i)))
    (first fs (range_with_len 0 (i - 0)))
    in
    rw (← c.self.view_is)
    (c.first_from-found.ensures.first ∙ ap all c.as_slice.ensures.value
    ∙ sym (target-anew shape shown c.args.epoch r))
