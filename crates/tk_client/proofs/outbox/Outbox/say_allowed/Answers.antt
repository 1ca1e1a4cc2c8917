-- A text that may be said waits after the others.
use Rattle.std.proofs.Common.{◌≡◌, sym, ap, subst, ◌∙◌, map, List, arith}
use Rattle.std.specs.Prelude.{position, Some, None, set}
use Rattle.tk_client.specs.declared.waiting.Waiting.{Waiting}
use Rattle.tk_client.specs.declared.written.Written.{Written}
use Rattle.tk_client.specs.Writing.{Writing, one_more_of, with_text}
use Rattle.tk_client.specs.Saying.{text_fault, fault_of}
use Rattle.tk_client.specs.Outboxes.{OutboxState, IsOutbox}
use Rattle.tk_client.proofs.LogPlaces.{is_log, written-at, more-read, count-read}
use Rattle.tk_client.proofs.Keeping.{said, with_text-sound, fault-mine, can_wait}
use Rattle.tk_client.proofs.outbox.Outbox.say_allowed.Goals as goal

pub invariant_of-self-2 : goal.invariant_of-self-2
invariant_of-self-2 c =
    let shape = c.self.inside.shape in
    let logs = c.self.inside.logs.items in
    let waiting = c.self.inside.waiting.items in
    let at : Some c.in_ok-place.place ≡ position (is_log c.args.log) logs =
    c.in_ok-place.ensures.place ∙ ap (position (is_log c.args.log)) c.as_slice.ensures.value in
    let mine = written-at c.args.log logs c.in_ok-place.place at in
    let none : text_fault shape c.args.text.now ≡ None =
    sym (fault-mine shape logs c.args.log c.args.text.now mine)
    ∙ ap (λ (l : List Written). fault_of shape l c.args.log c.args.text.now) (sym c.as_slice.ensures.value)
    ∙ c.in_ok-place.ensures.may in
    let y : Waiting = record {
      log = c.args.log;
      number = c.index.result.now.count;
      text = c.in_ok-text.text;
    } in
    let can = can_wait shape logs c.args.log c.index.result.now.count c.args.text.now
    c.in_ok-text.text mine none c.in_ok-text.ensures in
    let sound = with_text-sound shape logs waiting y c.self.invariant can (omega arith) in
    let more = more-read c.args.log logs c.in_ok-place.place c.index_mut.result.now c.index.result.now
    c.in-Some.count c.self.invariant.ascending at c.index_mut.ensures.value
    c.index.ensures (omega (arith, c.in-Some.ensures)) in
    subst (λ l. IsOutbox shape l c.push_back.new.self.items) (sym more)
    (subst (λ w. IsOutbox shape (map (one_more_of c.args.log) logs) w)
    (sym c.in_ok-push_back.ensures.items) sound)

pub returns-clause-said : goal.returns-clause-said
returns-clause-said c =
    let logs = c.self.inside.logs.items in
    let waiting = c.self.inside.waiting.items in
    let at : Some c.in_ok-place.place ≡ position (is_log c.args.log) logs =
    c.in_ok-place.ensures.place ∙ ap (position (is_log c.args.log)) c.as_slice.ensures.value in
    let more = more-read c.args.log logs c.in_ok-place.place c.index_mut.result.now c.index.result.now
    c.in-Some.count c.self.invariant.ascending at c.index_mut.ensures.value
    c.index.ensures (omega (arith, c.in-Some.ensures)) in
    let count = count-read c.args.log logs c.in_ok-place.place c.index.result.now at c.index.ensures in
    subst
    (λ (v : OutboxState). ◌≡◌ {A = Writing}
    (record {
      logs = set logs c.in_ok-place.place
          (record { log = c.index_mut.result.now.log; count = c.in-Some.count });
      waiting = c.push_back.new.self.items;
    })
    (with_text c.args.log c.args.text.now v.writing))
    c.self.view_is
    (said c.args.log c.index.result.now.count logs _ waiting c.push_back.new.self.items
    c.args.text.now c.in_ok-text.text more c.in_ok-push_back.ensures.items count
    c.in_ok-text.ensures)
