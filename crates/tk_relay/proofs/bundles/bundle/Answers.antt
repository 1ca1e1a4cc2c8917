-- The head and the first server's vectors, and then those of each other server.
use Rattle.std.proofs.Common.{◌≡◌, ◌∙◌, ◌-◌, ◌*◌, ◌≤◌, ◌<◌, ◌++◌, [], List, ℕ, length, ap, ap₂, arith, vec_len, vec_capacity}
use Rattle.std.proofs.lemmas.List.{get_or_default}
use Rattle.std.proofs.lemmas.List.Elements.{All-from_recursion}
use Rattle.std.specs.List.{range_with_len, flat_map}
use Rattle.tk_shape.specs.Lengths.{vector_len}
use Rattle.tk_frames.specs.declared.read_frame.ReadFrame.{ReadFrame}
use Rattle.tk_frames.specs.Spelling.{asked_frame}
use Rattle.tk_report.specs.Exchange.{blank_read}
use Rattle.tk_relay.specs.Halves.{halves_bytes}
use Rattle.tk_relay.specs.Pads.{masked}
use Rattle.tk_relay.specs.Bundles.{IsAlong, frame_of, vectors_of}
use Rattle.tk_relay.proofs.Bundling.{front-appended, vectors-appended, bundle-appended, bytes_for}
use Rattle.tk_relay.proofs.Bundling.{room-first, room-next}
use Rattle.tk_relay.proofs.bundles.bundle.Goals as goal

pub loop-server-init : goal.loop-server-init
unfolding bytes_for
loop-server-init c =
    let shape = c.args.shape.now in
    let frames = c.args.frames.now in
    let old = c.args.out.now.items in
    let several = shape.in_range.servers_low in
    let counted = c.requires.one_read.counted in
    let x = c.index-frames-0.result in
    let here : x ≡ frame_of frames 1 =
    c.index-frames-0.is ∙ get_or_default frames 0 x blank_read (omega (arith, counted, several))
    in
    let sized = (All-from_recursion (IsAlong shape (frame_of frames 1)) frames
    c.requires.one_read.along 0 blank_read (omega (arith, counted, several))).vectors
    in
    let first_long = ap length c.as_slice.ensures ∙ ap (λ (r : ReadFrame). length r.first) here ∙ sized.first in
    let second_long = ap length c.as_slice-2.ensures ∙ ap (λ (r : ReadFrame). length r.second) here ∙ sized.second in
    record {
      items =
          front-appended x.client x.turn x.epoch old c.reserve.new.self.items c.append.new.out.items
          c.append-2.new.out.items c.append-3.new.out.items c.head_of.result c.as_slice.result.now
          c.as_slice-2.result.now c.in_ok-reserve.ensures.items c.append.ensures.items
          c.append-2.ensures.items c.append-3.ensures.items c.head_of.ensures
          ∙ ap₂ (λ (v w : List ℕ). old ++ asked_frame 8 x.client x.turn x.epoch ((v ++ w) ++ []))
          c.as_slice.ensures c.as_slice-2.ensures
          ∙ ap (λ (r : ReadFrame). old
          ++ asked_frame 8 r.client r.turn r.epoch ((r.first ++ r.second) ++ [])) here;
      room =
          let size = vector_len shape in
          let head_long = ap length c.head_of.ensures in
          let len_is = c.bundle_len.ensures.len in
          let whole = room-first shape.servers size (vec_len c.reserve.new.self)
          (vec_capacity c.append-3.new.out) several
          (omega (arith, len_is, c.in_ok-reserve.ensures.ok))
          in
          omega (arith, whole, head_long, first_long, second_long);
    }

pub loop-server-preserved : goal.loop-server-preserved
unfolding bytes_for
loop-server-preserved c =
    let shape = c.args.shape.now in
    let frames = c.args.frames.now in
    let pads = c.args.pads.now.pads in
    let first = frame_of frames 1 in
    let server = c.loop-server.server in
    let counted = c.requires.one_read.counted in
    let x = c.index-frames-server.result in
    let low : 2 ≤ server = omega arith in
    let within : server - 1 < length frames = omega (arith, counted, low) in
    let here : x ≡ frame_of frames server =
    c.index-frames-server.is ∙ get_or_default frames (server - 1) x blank_read within
    in
    record {
      items =
          vectors-appended pads frames first.client first.turn first.epoch server
          c.args.out.now.items c.loop-server.out.items c.append_vectors.new.out.items
          (omega (arith, low)) c.loop-server.invariant.items
          (c.append_vectors.ensures.items
          ∙ ap (λ (r : ReadFrame). c.loop-server.out.items
          ++ halves_bytes (masked pads.requests server (vectors_of r))) here);
      room =
          let size = vector_len shape in
          let same = ap vector_len c.requires.one_shape in
          let whole = room-next shape.servers server (2 * size) (vec_len c.loop-server.out)
          (vec_capacity c.append_vectors.new.out) (omega arith)
          (omega (arith, c.loop-server.invariant.room))
          in
          omega (arith, whole, same);
    }

pub returns-clause-ok : goal.returns-clause-ok
returns-clause-ok c =
    let shape = c.args.shape.now in
    let frames = c.args.frames.now in
    let pads = c.args.pads.now.pads in
    let old = c.args.out.now.items in
    let first = frame_of frames 1 in
    let all : c.loop-server.server - 1 ≡ shape.servers = omega arith in
    c.loop-server.invariant.items
    ∙ ap (λ n. old ++ asked_frame 8 first.client first.turn first.epoch
    (flat_map (bytes_for pads frames) (range_with_len 1 n))) all
    ∙ ap (λ (xs : List ℕ). old ++ xs) (bundle-appended pads frames shape)
