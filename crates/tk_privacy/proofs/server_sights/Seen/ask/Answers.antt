-- The read frame of the client's turn lies at its place.
use Rattle.std.proofs.Common.{◌≡◌, ◌∙◌, ◌<◌, ◌++◌, ◌∷◌, [], ap, ap₂, sym, subst, arith, List, ℕ, length}
use Rattle.std.proofs.Common.{get_or, flat_map, append_assoc}
use Rattle.std.specs.List.{range_with_len}
use Rattle.std.proofs.lemmas.List.{get_or_default}
use Rattle.std.proofs.lemmas.List.Elements.{All-from_recursion, All-get_or}
use Rattle.tk_shape.specs.Lengths.{turn_count}
use Rattle.tk_frames.specs.declared.read_frame.ReadFrame.{ReadFrame}
use Rattle.tk_frames.specs.Spelling.{read_frame}
use Rattle.tk_frames.specs.Ranges.{AreTold}
use Rattle.tk_words.specs.CellLaws.{place_within}
use Rattle.tk_privacy.specs.Hiding.{read_in}
use Rattle.tk_privacy.specs.Views.{frame_in}
use Rattle.tk_report.proofs.Offers.{flat_map-next}
use Rattle.tk_report.specs.Exchange.{blank_read}
use Rattle.tk_privacy.proofs.server_sights.Seen.ask.Goals as goal

pub bounds-reads-place : goal.bounds-reads-place
bounds-reads-place c =
    let shape = c.args.shape.now in
    let within =
    place_within c.args.turn c.loop-client.client (turn_count shape) shape.clients 1
    c.requires.turn_in c.loop-client-test.true
    in
    omega (arith, within, c.requires.counted, c.place.ensures)

pub read-requires : goal.read-requires
read-requires c =
    let shape = c.args.shape.now in
    let reads = c.args.reads.now in
    let at = c.place.result in
    let read = c.index-reads-place.result in
    let IsTold = λ (r : ReadFrame). AreTold r.seeds r.first r.second in
    let within : at < length reads =
    omega (
      arith,
      place_within c.args.turn c.loop-client.client (turn_count shape) shape.clients 1
          c.requires.turn_in c.loop-client-test.true,
      c.requires.counted,
      c.place.ensures,
    )
    in
    let told : IsTold (get_or reads at read) =
    All-get_or IsTold reads at read within (All-from_recursion IsTold reads c.requires.told)
    in
    record { told = subst IsTold (sym c.index-reads-place.is) told }

pub loop-client-preserved : goal.loop-client-preserved
loop-client-preserved c =
    let shape = c.args.shape.now in
    let reads = c.args.reads.now in
    let turn = c.args.turn in
    let client = c.loop-client.client in
    let old = c.args.self.now.frames.items in
    let so_far = c.loop-client.invariant in
    let read = c.index-reads-place.result in
    let frame = frame_in shape reads turn in
    let within : c.place.result < length reads =
    omega (
      arith,
      place_within turn client (turn_count shape) shape.clients 1 c.requires.turn_in
          c.loop-client-test.true,
      c.requires.counted,
      c.place.ensures,
    )
    in
    let read_is : read ≡ read_in shape reads turn client =
    c.index-reads-place.is
    ∙ get_or_default reads c.place.result read blank_read within
    ∙ ap (λ k. get_or reads k blank_read) c.place.ensures
    in
    record {
      entries = c.in_ok-read.ensures.entries ∙ so_far.entries;
      frames =
          c.in_ok-read.ensures.frames
          ∙ ap₂ (λ (xs : List (List ℕ)) (r : ReadFrame). xs ++ read_frame r ∷ []) so_far.frames
          read_is
          ∙ append_assoc old (flat_map frame (range_with_len 0 client)) (frame client)
          ∙ ap (λ (xs : List (List ℕ)). old ++ xs) (sym (flat_map-next frame client));
    }
