-- A frame for each server comes after the others, and a search leaves the logs that are followed.
use Rattle.std.proofs.Common.{◌∙◌, ap, sym, subst, ◌+◌, List, ℕ, length, map, length-append}
use Rattle.std.proofs.lemmas.List.{length-map}
use Rattle.tk_frames.specs.declared.read_frame.ReadFrame.{ReadFrame}
use Rattle.tk_frames.specs.Spelling.{read_frame}
use Rattle.tk_client.specs.Client.{ClientState}
use Rattle.tk_client.specs.Reader.{Reader}
use Rattle.tk_client.specs.Searching.{AreBelow, IsTargetOrNone}
use Rattle.tk_client.specs.Framing.{query_frames}
use Rattle.tk_client.proofs.InRangeLaws.{length-asked}
use Rattle.tk_client.proofs.client.Client.read_frames.Goals as goal

pub returns-clause-counted : goal.returns-clause-counted
returns-clause-counted g c =
    let was = c.self.inside in
    let book = g.D.Draws.book c.args.draws.now in
    let target = c.target-target.result in
    let out = c.args.out.now.items in
    let frames = query_frames was.shape c.in_ok-query.query in
    ap (λ (all : List (List ℕ)). length all) c.in_ok-append_spelled.ensures.appended
    ∙ length-append out (map read_frame frames)
    ∙ ap (λ n. length out + n)
    (length-map frames read_frame
    ∙ ap (λ (fs : List ReadFrame). length fs)
    c.in_ok-query.ensures.asked
    ∙ length-asked was.shape book c.args.turn was.number c.args.epoch target
    ∙ ap (λ (s : ClientState). s.shape.servers) c.self.view_is)

pub invariant_of-self-2 : goal.invariant_of-self-2
invariant_of-self-2 g c =
    let was = c.self.inside in
    let same = sym c.target-target.ensures.same in
    record {
      one_shape = c.self.invariant.one_shape;
      number_in = c.self.invariant.number_in;
      follows_in =
          subst (λ (r : Reader). AreBelow was.shape.logs r.follows) same c.self.invariant.follows_in;
      read_in =
          subst (λ (r : Reader). IsTargetOrNone was.shape (length r.follows) c.target-target.result) same
          c.target-target.ensures.in_range;
    }
