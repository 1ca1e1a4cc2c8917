-- Each part of a run is opened as it is before the first turn.
use Rattle.std.proofs.Common.{◌≡◌, ◌∙◌, ◌<◌, ◌++◌, ◌∷◌, [], ℕ, List, ap, arith, inl, inr, length, subst, sym}
use Rattle.std.proofs.Common.{append-nil}
use Rattle.std.proofs.lemmas.Bool.{cases_Bool, false≢true}
use Rattle.tk_words.specs.Words.{words_of}
use Rattle.tk_frames.specs.declared.entry.Placed.{Placed}
use Rattle.tk_checkpoint.specs.Saved.{saved}
use Rattle.tk_report.specs.Turns.{placed_before}
use Rattle.tk_report.proofs.Offers.{group-first}
use Rattle.tk_run.specs.declared.resume_error.ResumeError.TheVariants as resume
use Rattle.tk_run.specs.Keeping.{AreAccepted, AreGiven, IsAccepted, OneRefuses, is_due, saved_before, turn_due}
use Rattle.tk_run.specs.declared.servers.Servers.{Servers}
use Rattle.tk_run.specs.Servers.{AreServers, alike, nothing_seen}
use Rattle.tk_run.proofs.HoldingLaws.{run-due, run-first}
use Rattle.tk_run.proofs.ErrorLaws.{no-memory, passed-on}
use Rattle.tk_run.proofs.KeepingLaws.{is-due, not-due, kept-none, kept-since, refused-when-due}
use Rattle.tk_run.proofs.UnderLaws.{clients-first, placed-first, ready-first, saved-first}
use Rattle.tk_run.proofs.turns.open_run.Goals as goal

pub go_on_before-requires : goal.go_on_before-requires
go_on_before-requires g c =
    let range = c.args.script.now.shape.in_range in
    let counted = c.in_ok-servers.ensures.ready.counted in
    (omega (arith, range.servers_low, counted), omega (arith, range.servers_high, counted))

pub returns-clause-running : goal.returns-clause-running
returns-clause-running g c b H =
    let S = c.args.script.now in
    record {
      group = record {
        knows = _;
        is = group-first S c.in_ok-group.group c.in_ok-group.ensures.said c.in_ok-group.ensures.clients;
      };
      servers = ready-first S b H c.go_on_before.new.servers.list.items
          (c.in_ok-go_on_before.ensures.ready [] c.in_ok-servers.ensures.ready);
      taken = c.go_on_before.ensures.taken ∙ c.in_ok-servers.ensures.taken
          ∙ ap length (sym (placed-first S b H));
    }

pub returns-clause-kept : goal.returns-clause-kept
returns-clause-kept g c b H =
    let S = c.args.script.now in
    let due = c.args.due in
    let kept = g.K.Keeper.kept in
    let first = kept c.args.keeper.now in
    let at = saved_before S b H in
    elim (cases_Bool (is_due due 0)) [
      | inl is ↦
          let begin = is-due S due 0 is in
          c.in_ok-go_on_before.ensures.kept is [] nothing_seen c.in_ok-servers.ensures.servers
          ∙ ap (λ (bytes : List ℕ). first ++ bytes ∷ []) (saved-first S b H ∙ ap at (sym begin))
          ∙ ap (λ (xs : List (List ℕ)). first ++ xs)
          (sym (kept-since S due at 0 (omega arith) (omega (arith, begin))))
      | inr isnt ↦
          ap kept (c.go_on_before.ensures.same isnt) ∙ sym (append-nil first)
          ∙ ap (λ (xs : List (List ℕ)). first ++ xs)
          (sym (kept-none S due at 0 (later (turn_due S due) (not-due S due 0 (omega arith) isnt))))
    ]
  where
    later : (n : ℕ) → (n ≡ 0 → ⊥) → 0 < n
    later n isnt = omega (arith, isnt)

pub returns-clause-accepted : goal.returns-clause-accepted
returns-clause-accepted g c b H low =
    let S = c.args.script.now in
    let due = c.args.due in
    elim (cases_Bool (is_due due 0)) [
      | inl is ↦
          subst (λ (E : List Placed). AreAccepted S.shape E (g.K.Keeper.gives c.go_on_before.new.keeper))
          (sym (ap (placed_before S (words_of S.shape b) H) (is-due S due 0 is) ∙ placed-first S b H))
          (c.in_ok-go_on_before.ensures.accepted is [] c.in_ok-servers.ensures.servers)
      | inr isnt ↦ absurd (not-due S due 0 (omega arith) isnt (omega (arith, low)))
    ]

pub returns-in_err-group-clause-refused : goal.returns-in_err-group-clause-refused
returns-in_err-group-clause-refused g c b H =
    no-memory c.from_residual.result _ c.from_residual.ensures.1

pub returns-in_err-servers-clause-refused : goal.returns-in_err-servers-clause-refused
returns-in_err-servers-clause-refused g c b H =
    no-memory c.from_residual-in_err-servers.result _ c.from_residual-in_err-servers.ensures.1

pub returns-in_err-go_on_before-clause-refused : goal.returns-in_err-go_on_before-clause-refused
returns-in_err-go_on_before-clause-refused g c b H =
    let S = c.args.script.now in
    let due = c.args.due in
    let kept = g.K.Keeper.kept in
    let gives = g.K.Keeper.gives c.go_on_before.new.keeper in
    let first = kept c.args.keeper.now in
    let went = c.in_err-go_on_before.ensures in
    elim (cases_Bool (is_due due 0)) [
      | inl is ↦
          passed-on c.from_residual-in_err-go_on_before.result _ resume.Refused _
          c.from_residual-in_err-go_on_before.ensures.1
          (λ refused.
          let said = went.refused is [] c.in_ok-servers.ensures.servers refused in
          refused-when-due S b H (turn_due S due) 0 first (kept c.go_on_before.new.keeper) gives
          (is-due S due 0 is) (omega arith)
          (said.0 ∙ ap (λ (bytes : List ℕ). first ++ bytes ∷ []) (saved-first S b H))
          (subst (λ (E : List Placed). IsAccepted S.shape E (saved S.shape E)) (sym (placed-first S b H))
          said.1)
          (subst (λ (E : List Placed). OneRefuses S.shape E gives) (sym (placed-first S b H)) said.2))
      | inr isnt ↦ absurd (false≢true (went.nothing isnt))
    ]

pub returns-clause-run : goal.returns-clause-run
returns-clause-run g c b H given may =
    let S = c.args.script.now in
    let due = c.args.due in
    let begin = turn_due S due in
    let clients = clients-first S b H _ c.in_ok-group.group.clients.items c.in_ok-group.ensures.clients in
    elim (cases_Bool (is_due due 0)) [
      | inl is ↦
          let same = is-due S due 0 is in
          run-due S b H begin given 0 _ same clients
          (c.in_ok-go_on_before.ensures.stand is [] given c.in_ok-servers.ensures.servers
          (subst (λ (E : List Placed). AreGiven S.shape E (g.K.Keeper.gives c.go_on_before.new.keeper) given)
          (ap (placed_before S (words_of S.shape b) H) same ∙ placed-first S b H)
          (may (omega (arith, same)))))
      | inr isnt ↦
          run-first S b H begin given _
          (later (turn_due S due) (not-due S due 0 (omega arith) isnt)) clients
          (subst (λ (s : Servers). AreServers S.shape (alike []) nothing_seen s.list.items)
          (sym (c.go_on_before.ensures.left isnt)) c.in_ok-servers.ensures.servers)
    ]
  where
    later : (n : ℕ) → (n ≡ 0 → ⊥) → 0 < n
    later n isnt = omega (arith, isnt)
