-- The logs are as the answer has them, and the cursor stands after the place.
use Rattle.std.proofs.Common.{◌≡◌, ◌∙◌, ap, ◌+◌, ◌%◌, arith, rules, List, length}
use Rattle.std.specs.Prelude.{◌==◌, not, slice_set}
use Rattle.tk_client.specs.Reader.{Follow, Reader, follow_after, follow_in}
use Rattle.tk_client.specs.Searching.{follows_anew}
use Rattle.tk_client.proofs.AskingLaws.{written_back}
use Rattle.tk_client.proofs.ReaderLaws.{after-nothing, after-target}
use Rattle.tk_client.proofs.reader.Reader.take.Goals as goal

pub returns-in_default-clause-taken : goal.returns-in_default-clause-taken
returns-in_default-clause-taken c =
    let was = c.self.inside in
    let items = was.follows.items in
    let r : Reader = record { follows = items; cursor = was.cursor; last = was.last } in
    let anew = not (c.args.epoch == was.last) in
    let new = c.renew.new.follows in
    let same : was.follows.len ≡ length new = search rules in
    let renewed =
    written_back was.follows.len items new same
    ∙ c.renew.ensures ∙ ap (follows_anew anew) c.as_mut_slice.ensures.value
    in
    let with : List Follow → Reader =
    λ fs. record { follows = fs; cursor = was.cursor; last = c.args.epoch }
    in
    rw (← c.self.view_is, c.in_default.is)
    (after-nothing c.args.shape.now c.args.epoch r c.args.answer _ (ap with renewed))

pub returns-clause-taken : goal.returns-clause-taken
returns-clause-taken c =
    let was = c.self.inside in
    let items = was.follows.items in
    let r : Reader = record { follows = items; cursor = was.cursor; last = was.last } in
    let anew = not (c.args.epoch == was.last) in
    let t = c.in-Some.target in
    let new = c.record_answer.new.follows in
    let same : was.follows.len ≡ length new = search rules in
    let counted : was.follows.len ≡ length items = omega (arith, was.follows.ok.0) in
    let known = λ (fs : List Follow). follows_anew anew fs in
    let recorded =
    written_back was.follows.len items new same
    ∙ c.in_ok-record_answer.ensures.recorded
    ∙ ap (λ (fs : List Follow). slice_set (known fs) t.place
    (follow_after c.args.shape.now t.ahead c.args.answer (follow_in (known fs) t.place)))
    c.as_mut_slice-2.ensures.value
    in
    let with : List Follow → Reader =
    λ fs. record { follows = fs; cursor = (t.place + 1) % c.len.result; last = c.args.epoch }
    in
    let behind : Reader =
    record {
      follows = slice_set (known items) t.place
          (follow_after c.args.shape.now t.ahead c.args.answer (follow_in (known items) t.place));
      cursor = (t.place + 1) % length items;
      last = c.args.epoch;
    }
    in
    rw (← c.self.view_is, c.in-Some.is)
    (after-target c.args.shape.now c.args.epoch r t c.args.answer _
    (ap with recorded ∙ ap (λ n. record behind { cursor = (t.place + 1) % n })
    (c.len.ensures ∙ counted)))
