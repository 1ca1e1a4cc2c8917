-- What is next for a server its replica may take, and then it keeps no epoch before the last two.
use Rattle.std.proofs.Common.{◌≡◌, ◌∙◌, ◌+◌, ◌-◌, ◌≤◌, ◌++◌, ◌∷◌, [], ℕ, List, ap, sym, subst, arith, length-append}
use Rattle.tk_frames.specs.Spelling.{placed_frame}
use Rattle.tk_frames.specs.InOrder.{mark_count}
use Rattle.tk_frames.proofs.Offers.{marks-push}
use Rattle.tk_report.proofs.Offers.{next-few}
use Rattle.tk_run.proofs.ServerLaws.{floor-next, last-next, ready-next}
use Rattle.tk_run.proofs.server.Server.take.Goals as goal

pub make_room-requires : goal.make_room-requires
make_room-requires c = c.requires.is.some

pub apply_and_tell-requires : goal.apply_and_tell-requires
apply_and_tell-requires c =
    let may = c.requires in
    let room = c.make_room.ensures in
    ready-next may.shape may.E c.make_room.new.state c.args.placed.now (room.same ∙ may.is.same)
    (room.last ∙ may.is.last) (omega (arith, room.applied)) may.next

pub counted_on-self-requires : goal.counted_on-self-requires
counted_on-self-requires c =
    let may = c.requires in
    omega (arith, may.is.displaced, next-few may.shape may.E c.args.placed.now may.next)

pub returns-clause-ready : goal.returns-clause-ready
returns-clause-ready c shape E is next =
    let p = c.args.placed.now in
    let room = c.make_room.ensures in
    let last : c.apply_and_tell.new.self.last ≡ mark_count (E ++ p ∷ []) =
    last-next E p c.make_room.new.state c.apply_and_tell.new.self (room.last ∙ is.last) next.number
    c.in_ok-put.ensures.numbers
    in
    record {
      same = c.apply_and_tell.ensures.shape ∙ room.same ∙ is.same;
      last = last;
      some =
          omega (
            arith,
            c.apply_and_tell.ensures.floor,
            room.some,
            room.last,
            is.last,
            last,
            marks-push E p,
          );
      displaced =
          omega (
            arith,
            c.counted_on-self.ensures.most,
            is.displaced,
            length-append E (p ∷ []),
          );
    }

pub returns-clause-server : goal.returns-clause-server
returns-clause-server c shape E bytes is =
    let p = c.args.placed.now in
    let kept = c.make_room.ensures.stands shape E is.state in
    record {
      state = c.in_ok-put.ensures.stands shape E kept;
      floor = subst (λ n. mark_count (E ++ p ∷ []) - 1 ≤ n) (sym (c.apply_and_tell.ensures.floor ∙ c.make_room.ensures.floor))
          (floor-next E p c.args.self.now.state.floor c.args.self.now.state.last is.floor is.state.last);
      seen =
          c.in_ok-encode_placed.ensures.ok
          ∙ ap (λ (xs : List ℕ). xs ++ placed_frame p) is.seen;
      displaced = c.counted_on-self.ensures.counts shape E p is.displaced (c.in_ok-put.ensures.put shape E kept);
    }
