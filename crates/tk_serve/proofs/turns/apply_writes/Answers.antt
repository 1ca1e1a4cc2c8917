-- The next client's write is the one that waits first, and it may come next.
use Rattle.std.proofs.Common.{◌≡◌, ◌<◌, refl, ap, sym, ◌∙◌, subst, rules, ◌∷◌, length}
use Rattle.std.proofs.lemmas.List.{get_or_default}
use Rattle.std.proofs.lemmas.List.Edits.{map_over_more}
use Rattle.std.specs.Prelude.{slice_index_or, slice_set}
use Rattle.tk_frames.specs.declared.entry.Entry.TheVariants.{Write}
use Rattle.tk_replica.specs.Replica.{StandsFor}
use Rattle.tk_serve.specs.Desks.{MayComeNext, with_writes, desk, desk_behind, empty_desk}
use Rattle.tk_serve.proofs.EntryLaws.{writes-none}
use Rattle.tk_serve.proofs.LoopLaws.{unchanged-at, taken-write, taken-next, taken-stands, behind-is}
use Rattle.tk_serve.proofs.turns.apply_writes.Goals as goal

pub clients-init : goal.clients-init
clients-init c =
    record {
      stands = λ shape E write may. subst (λ F. StandsFor shape F c.args.state.now)
          (sym (writes-none E write)) may.stands;
      behind = refl;
      floor = refl;
    }

pub apply-requires : goal.apply-requires
apply-requires c =
    let i = c.clients.desk-index in
    let low : i < length c.args.desks.now = search rules in
    let there : i < length c.clients.desks = search rules in
    let at : c.desk-item.result ≡ slice_index_or c.args.desks.now i empty_desk =
    c.desk-item.is ∙ get_or_default c.clients.desks i c.desk-item.result empty_desk there
    ∙ ap (λ ds. slice_index_or ds i empty_desk) c.clients.invariant.behind
    ∙ unchanged-at desk_behind c.args.desks.now i empty_desk
    in
    let taken : c.desk-item.result
    ≡ desk (c.in-Some.write ∷ c.next_write.new.self.waiting) c.next_write.new.self.asking c.next_write.new.self.asked =
    c.desk-item.is ∙ c.in-Some.ensures.some
    in
    let same = taken-write c.requires.shape_of c.requires.entries_of c.requires.write_of c.args.state.now
    c.args.desks.now c.requires.may i low c.in-Some.write empty_desk c.desk-item.result c.next_write.new.self at
    taken
    in
    subst (λ w. MayComeNext c.clients.state (Write w)) (sym same)
    (taken-next c.requires.shape_of c.requires.entries_of c.requires.write_of c.args.state.now
    c.args.desks.now c.requires.may i low c.clients.state
    (c.clients.invariant.stands c.requires.shape_of c.requires.entries_of c.requires.write_of c.requires.may))

pub clients-preserved : goal.clients-preserved
clients-preserved c =
    let i = c.clients.desk-index in
    let low : i < length c.args.desks.now = search rules in
    let there : i < length c.clients.desks = search rules in
    let at : c.desk-item.result ≡ slice_index_or c.args.desks.now i empty_desk =
    c.desk-item.is ∙ get_or_default c.clients.desks i c.desk-item.result empty_desk there
    ∙ ap (λ ds. slice_index_or ds i empty_desk) c.clients.invariant.behind
    ∙ unchanged-at desk_behind c.args.desks.now i empty_desk
    in
    let taken : c.desk-item.result
    ≡ desk (c.in-Some.write ∷ c.next_write.new.self.waiting) c.next_write.new.self.asking c.next_write.new.self.asked =
    c.desk-item.is ∙ c.in-Some.ensures.some
    in
    record {
      stands = λ shape E write may.
          let same = taken-write shape E write c.args.state.now c.args.desks.now may i low c.in-Some.write empty_desk
          c.desk-item.result c.next_write.new.self at taken
          in
          taken-stands shape E write c.args.state.now c.args.desks.now may i low c.in-Some.write c.apply.new.state same
          (c.in_ok-apply.ensures.stands shape (with_writes E write i) (c.clients.invariant.stands shape E write may));
      behind =
          ap (slice_set c.clients.desks i)
          (behind-is c.in-Some.write c.desk-item.result c.next_write.new.self taken)
          ∙ map_over_more desk_behind c.args.desks.now c.clients.desks i c.desk-item.result low
          c.clients.invariant.behind c.desk-item.is;
      floor = c.apply.ensures.floor ∙ c.clients.invariant.floor;
    }

pub returns-clause-stands : goal.returns-clause-stands
returns-clause-stands c = λ shape E write may.
    let all : c.clients.desk-index ≡ length c.args.desks.now = search rules in
    subst (λ k. StandsFor shape (with_writes E write k) c.clients.state) all
    (c.clients.invariant.stands shape E write may)
