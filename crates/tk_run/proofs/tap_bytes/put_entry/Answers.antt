-- The frame that a client sent spells its write.
use Rattle.std.proofs.Common.{◌≡◌, ◌<◌, ◌++◌, ◌∙◌, length, sym, subst, arith}
use Rattle.std.proofs.lemmas.Bool.{ltb-true}
use Rattle.std.specs.Prelude.{IsTrue, OnOk}
use Rattle.tk_schedule.specs.declared.item.Item.{Item}
use Rattle.tk_schedule.specs.Schedule.{is_within}
use Rattle.tk_frames.specs.Spelling.{placed_frame}
use Rattle.tk_report.specs.Turns.{entry_due}
use Rattle.tk_run.proofs.tap_bytes.put_entry.Goals as goal

pub returns-in-Client : goal.returns-in-Client
returns-in-Client c shape write are within =
    let client = c.in-Client.client in
    let frame = c.index-frames-client.result in
    let inside = subst (λ (x : Item). IsTrue (is_within shape.clients x)) c.in-Client.is within in
    let below = ltb-true client shape.clients inside in
    let low : client < length c.args.frames.now = omega (arith, below, are.counted) in
    let spelled = c.as_slice.ensures ∙ c.index-frames-client.is ∙ (are.each client frame low).spelled in
    subst (λ (x : Item). OnOk c.encode_record.result (c.encode_record.new.out.items ≡ c.args.out.now.items
    ++ placed_frame (record { position = c.args.position; entry = entry_due write c.args.phase x })))
    (sym c.in-Client.is) (c.encode_record.ensures.ok (write client) spelled)
