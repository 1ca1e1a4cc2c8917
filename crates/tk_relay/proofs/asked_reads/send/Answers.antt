-- What is bundled is split into the same parts.
use Rattle.std.proofs.Common.{◌≡◌, ◌∙◌, ◌++◌, List, ℕ, ap}
use Rattle.tk_relay.specs.Bundles.{bundle_frame, parts_for}
use Rattle.tk_relay.proofs.Parting.{parts-are}
use Rattle.tk_relay.proofs.asked_reads.send.Goals as goal

pub returns : goal.returns
returns c =
    let shape = c.args.shape.now in
    let frames = c.args.frames.now in
    let pads = c.args.pads.now.pads in
    let spelled : c.bundle.new.out.items ≡ bundle_frame (parts_for shape pads frames) =
    c.in_ok-bundle.ensures.ok
    ∙ ap (λ (xs : List ℕ). xs ++ bundle_frame (parts_for shape pads frames))
    c.new-bytes.ensures.items
    in
    record {
      bundle = c.from_vec.ensures ∙ spelled;
      parts =
          c.in-Ok.ensures.only (parts_for shape pads frames)
          (parts-are shape pads frames c.requires.masks c.requires.one_read c.requires.in_range)
          (c.as_slice.ensures.value ∙ spelled);
      replies = c.new.ensures.items;
    }
