-- Each server takes the entry.
use Rattle.std.proofs.Common.{◌≡◌, ◌+◌, ◌++◌, ◌∷◌, [], sym, subst, arith, length, refl}
use Rattle.std.proofs.lemmas.List.{with_items_is}
use Rattle.tk_frames.specs.Spelling.{placed_frame}
use Rattle.tk_report.proofs.Offers.{next-few}
use Rattle.tk_run.specs.Servers.{AreReady, AreServers, taken_seen, with_more}
use Rattle.tk_run.proofs.PlacingLaws.{taken-more}
use Rattle.tk_run.proofs.servers.ServersTakes.take.Goals as goal

pub take_all-requires : goal.take_all-requires
take_all-requires c =
    let may = c.requires in
    record {
      shape = may.shape;
      E = may.E ++ may.F;
      are =
          subst (AreReady may.shape (may.E ++ may.F)) (sym c.as_mut_slice.ensures.value)
          may.has.ready;
      next = may.next;
    }

pub overflow_add-self : goal.overflow_add-self
overflow_add-self c =
    let may = c.requires in
    omega (arith, may.has.taken, next-few may.shape (may.E ++ may.F) c.args.placed.now may.next)

pub returns : goal.returns
returns c = λ was shape E F have next.
    let p = c.args.placed.now in
    let list = c.args.self.now.list in
    let servers = c.take_all.new.servers in
    let counted : length servers ≡ list.len =
    omega (arith, c.take_all.auto.servers, c.as_mut_slice.ensures.len)
    in
    let back = sym (with_items_is list servers counted) in
    let took = c.in_ok-take_all.ensures in
    taken-more was shape E F p c.args.self.now _ have refl
    (subst (AreReady shape ((E ++ F) ++ p ∷ [])) back
    (took.ready shape (E ++ F)
    (subst (AreReady shape (E ++ F)) (sym c.as_mut_slice.ensures.value) have.ready) next))
    (λ Es are.
    subst (AreServers shape (with_more (with_more Es F) (p ∷ []))
    (λ j. taken_seen F j ++ placed_frame p)) back
    (took.servers shape (with_more Es F) (taken_seen F)
    (subst (AreServers shape (with_more Es F) (taken_seen F)) (sym c.as_mut_slice.ensures.value)
    are)))
