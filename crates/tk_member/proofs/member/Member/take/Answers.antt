-- A packet is for the part that its peer says.
use Rattle.std.proofs.Common.{◌≡◌, ◌≢◌, ◌∙◌, ◌<◌, ◌≤◌, ap, sym, subst, inr, ℕ, Vec, Global, Some}
use Rattle.std.specs.Prelude.{Result, IfOk, IfErr}
use Rattle.tk_shape.specs.declared.shape.Shape.{Shape}
use Rattle.tk_packets.specs.Packets.{PacketView}
use Rattle.tk_member.specs.declared.fault.Fault.{Fault}
use Rattle.tk_member.specs.Members.{MemberState}
use Rattle.tk_member.specs.Acting.{ActedMember}
use Rattle.tk_member.specs.Words.{word_in}
use Rattle.tk_member.specs.Steps.{step, heard, served, IsTurned, IsEnded}
use Rattle.tk_member.proofs.StepLaws.{step-host, step-server, step-none}
use Rattle.tk_member.proofs.member.Member.take.Goals as goal

pub returns-in_default-clause-ended : goal.returns-in_default-clause-ended
returns-in_default-clause-ended g c =
    let b = g.D.Draws.book c.args.draws.now in
    let m = c.args.self.now in
    let p = c.args.packet.now in
    inr
    (step-host b m p (sym c.peer-peer.ensures ∙ c.if-peer-eq0.true)
    ∙ ap (heard b m)
    (ap word_in (sym c.bytes-bytes.ensures) ∙ sym c.in_ok-word.ensures ∙ c.in_default.is))

pub returns-then-peer-eq0-clause-sent : goal.returns-then-peer-eq0-clause-sent
returns-then-peer-eq0-clause-sent g c =
    let b = g.D.Draws.book c.args.draws.now in
    let m = c.args.self.now in
    let p = c.args.packet.now in
    let is : step b m p ≡ heard b m (Some c.in-Some.word) =
    step-host b m p (sym c.peer-peer.ensures ∙ c.if-peer-eq0.true)
    ∙ ap (heard b m)
    (ap word_in (sym c.bytes-bytes.ensures) ∙ sym c.in_ok-word.ensures ∙ c.in-Some.is)
    in
    subst (λ (r : Result ActedMember Fault). IfOk c.hear.result
    (λ (sent : Vec PacketView Global). IsTurned r c.hear.new.self sent.items)) (sym is)
    c.hear.ensures.sent

pub returns-then-peer-eq0-clause-ended : goal.returns-then-peer-eq0-clause-ended
returns-then-peer-eq0-clause-ended g c =
    let b = g.D.Draws.book c.args.draws.now in
    let m = c.args.self.now in
    let p = c.args.packet.now in
    let is : step b m p ≡ heard b m (Some c.in-Some.word) =
    step-host b m p (sym c.peer-peer.ensures ∙ c.if-peer-eq0.true)
    ∙ ap (heard b m)
    (ap word_in (sym c.bytes-bytes.ensures) ∙ sym c.in_ok-word.ensures ∙ c.in-Some.is)
    in
    subst (λ (r : Result ActedMember Fault). IfErr c.hear.result (IsEnded r)) (sym is) c.hear.ensures.ended

-- a server's packet
of-server : (b : _) (m : MemberState) (p : PacketView) (peer : ℕ) (shape : Shape) (frame : _) →
    peer ≡ p.peer → frame ≡ p.bytes → shape ≡ m.client.shape → peer ≢ 0 → peer ≤ shape.servers →
    step b m p ≡ served b m peer frame
of-server b m p peer shape frame peer_is frame_is shape_is other near =
    step-server b m p (λ e. other (peer_is ∙ e))
    (subst (λ (n : ℕ). n ≤ m.client.shape.servers) peer_is
    (subst (λ (s : Shape). peer ≤ s.servers) shape_is near))
    ∙ ap (λ (j : ℕ). served b m j p.bytes) (sym peer_is)
    ∙ ap (served b m peer) (sym frame_is)

pub returns-then-peer-shape-clause-sent : goal.returns-then-peer-shape-clause-sent
returns-then-peer-shape-clause-sent g c =
    let m = c.args.self.now in
    let shape = c.shape.ensures ∙ ap (λ (x : MemberState). x.client.shape) c.self.view_is in
    let is =
    of-server (g.D.Draws.book c.args.draws.now) m c.args.packet.now c.peer-peer.result
    c.shape.result.now c.bytes-bytes.result.now c.peer-peer.ensures c.bytes-bytes.ensures shape
    c.if-peer-eq0.false c.if-peer-shape.true
    in
    subst (λ (r : Result ActedMember Fault). IfOk c.serve.result
    (λ (sent : Vec PacketView Global). IsTurned r c.serve.new.self sent.items)) (sym is)
    c.serve.ensures.sent

pub returns-then-peer-shape-clause-ended : goal.returns-then-peer-shape-clause-ended
returns-then-peer-shape-clause-ended g c =
    let m = c.args.self.now in
    let shape = c.shape.ensures ∙ ap (λ (x : MemberState). x.client.shape) c.self.view_is in
    let is =
    of-server (g.D.Draws.book c.args.draws.now) m c.args.packet.now c.peer-peer.result
    c.shape.result.now c.bytes-bytes.result.now c.peer-peer.ensures c.bytes-bytes.ensures shape
    c.if-peer-eq0.false c.if-peer-shape.true
    in
    subst (λ (r : Result ActedMember Fault). IfErr c.serve.result (IsEnded r)) (sym is)
    c.serve.ensures.ended

pub returns-clause-ended : goal.returns-clause-ended
returns-clause-ended g c =
    let m = c.args.self.now in
    let p = c.args.packet.now in
    let shape = c.shape.ensures ∙ ap (λ (x : MemberState). x.client.shape) c.self.view_is in
    let far : m.client.shape.servers < p.peer =
    subst (λ (n : ℕ). m.client.shape.servers < n) c.peer-peer.ensures
    (subst (λ (s : Shape). s.servers < c.peer-peer.result) shape c.if-peer-shape.false)
    in
    inr
    (step-none (g.D.Draws.book c.args.draws.now) m p
    (λ e. c.if-peer-eq0.false (c.peer-peer.ensures ∙ e)) far)
