-- An entry is counted. A write goes into the window too, and a mark takes what table and window are.
use Rattle.std.proofs.Common.{◌++◌, ◌∷◌, [], ◌<◌, ◌∙◌, List, length, ap, sym, subst, append_assoc}
use Rattle.std.specs.Prelude.{All}
use Rattle.std.proofs.lemmas.List.Elements.{All-from_recursion}
use Rattle.tk_frames.specs.declared.entry.Placed.{Placed}
use Rattle.tk_table.specs.Shown.{pushed}
use Rattle.tk_report.specs.Ledgers.{Keeps}
use Rattle.tk_report.proofs.LedgerLaws.{keeps-write, keeps-mark, hits-counted, hits-in_range}
use Rattle.tk_report.proofs.ReadingLaws.{on-ok}
use Rattle.tk_report.proofs.ledger.LedgerTakes.take.Goals as goal

pub take-requires : goal.take-requires
take-requires c =
    let may = c.requires in
    record {
      shape = may.shape;
      E = may.E ++ may.F;
      counted = may.has.count;
      next = may.next;
    }

pub push-requires-clause-whole : goal.push-requires-clause-whole
push-requires-clause-whole c =
    let may = c.requires in
    ap length c.as_slice.ensures
    ∙ hits-counted may.shape (may.E ++ may.F) c.args.self.now c.args.placed.now c.in-Write.write may.has
    may.next c.in-Write.is

pub push-requires-clause-in_range : goal.push-requires-clause-in_range
push-requires-clause-in_range c =
    let may = c.requires in
    subst (All (λ h. h < c.args.self.now.window.bits)) (sym c.as_slice.ensures)
    (All-from_recursion (λ h. h < c.args.self.now.window.bits) c.in-Write.write.hits
    (hits-in_range may.shape (may.E ++ may.F) c.args.self.now c.args.placed.now c.in-Write.write may.has
    may.next c.in-Write.is))

pub returns-in-Write : goal.returns-in-Write
returns-in-Write c = λ was shape E F is next.
    let p = c.args.placed.now in
    subst (λ (ps : List Placed). Keeps shape ps
    (record c.args.self.now { count = c.take.new.self; window = c.push.new.self }))
    (append_assoc E F (p ∷ []))
    (keeps-write shape (E ++ F) c.args.self.now c.take.new.self c.push.new.self p c.in-Write.write is
    (c.take.ensures shape (E ++ F) is.count next) c.in-Write.is
    (c.push.ensures ∙ ap (pushed c.args.self.now.window) c.as_slice.ensures))

pub returns-in-Mark : goal.returns-in-Mark
returns-in-Mark c = λ was shape E F is next.
    let p = c.args.placed.now in
    on-ok c.mark.result _ (Keeps shape (E ++ (F ++ p ∷ [])) c.mark.new.self)
    (λ made. subst (λ (ps : List Placed). Keeps shape ps c.mark.new.self) (append_assoc E F (p ∷ []))
    (subst (Keeps shape ((E ++ F) ++ p ∷ [])) (sym made.2)
    (keeps-mark shape (E ++ F) c.args.self.now c.take.new.self p c.in-Mark.number made.0 is next
    (c.take.ensures shape (E ++ F) is.count next) c.in-Mark.is made.1)))
    c.mark.ensures
