-- Turn after turn the taps gain what the servers see.
use Rattle.std.proofs.Common.{◌≡◌, ◌∙◌, ◌+◌, ◌++◌, ◌∷◌, [], ◌<◌, ◌≤◌, ℕ, List, ap, arith, inl, inr, refl, subst, sym}
use Rattle.std.proofs.Common.{le_trans, true}
use Rattle.std.proofs.lemmas.Bool.{cases_Bool, false≢true}
use Rattle.tk_shape.specs.Lengths.{turn_count}
use Rattle.tk_words.specs.Words.{words_of}
use Rattle.tk_frames.specs.declared.entry.Placed.{Placed}
use Rattle.tk_report.specs.Serving.{read_replied}
use Rattle.tk_report.specs.Turns.{placed_before}
use Rattle.tk_run.specs.declared.resume_error.ResumeError.TheVariants as resume
use Rattle.tk_run.specs.Keeping.{AreAccepted, AreGiven, begun_anew, held_now, is_due, kept_up_to}
use Rattle.tk_run.specs.Keeping.{saved_before, turn_due}
use Rattle.tk_run.specs.Servers.{alike, nothing_seen}
use Rattle.tk_run.specs.Under.{IsRunning, IsRunUnder}
use Rattle.tk_io.proofs.Offers.{on_err}
use Rattle.tk_run.proofs.ErrorLaws.{passed-on}
use Rattle.tk_run.proofs.HoldingLaws.{run-due, run-last, run-next, run-with, serves-anew}
use Rattle.tk_run.proofs.KeepingLaws.{came-if-kept, is-due, not-due, kept-since, kept-still, kept-then}
use Rattle.tk_run.proofs.KeepingLaws.{none-before, refused-when-due, still-before}
use Rattle.tk_run.proofs.SeenLaws.{taps-first, taps-next, taps-all, fronts-before, fronts-next}
use Rattle.tk_run.proofs.turns.take_all_turns.Goals as goal

pub turns-init : goal.turns-init
turns-init g c =
    let S = c.args.plan.now.script.now in
    let book = g.D.Draws.book c.args.plan.now.draws.now in
    let H = c.args.plan.now.history.now in
    let begin = turn_due S c.args.due in
    record {
      kept = λ before is. is;
      accepted = c.requires.accepted;
      running = c.requires.running;
      run = c.requires.run;
      taps = λ given may.
          taps-first S book H (read_replied S book H (begun_anew S book H begin given))
          (g.T.Taps.tap c.args.taps.now);
      others = λ j out. refl;
      counts = omega arith;
    }

pub go_on_before-requires : goal.go_on_before-requires
go_on_before-requires g c =
    let range = c.args.plan.now.script.now.shape.in_range in
    let counted = c.in_ok-take_turn.ensures.running.servers.counted in
    (omega (arith, range.servers_low, counted), omega (arith, range.servers_high, counted))

pub turns-preserved : goal.turns-preserved
turns-preserved g c =
    let S = c.args.plan.now.script.now in
    let book = g.D.Draws.book c.args.plan.now.draws.now in
    let H = c.args.plan.now.history.now in
    let words = words_of S.shape book in
    let due = c.args.due in
    let begin = turn_due S due in
    let at = saved_before S book H in
    let kept = g.K.Keeper.kept in
    let gives = g.K.Keeper.gives in
    let tap = g.T.Taps.tap in
    let turn = c.turns.turn in
    let so_far = c.turns.invariant in
    let took = c.in_ok-take_turn.ensures in
    let went = c.in_ok-go_on_before.ensures in
    let was = c.turns.keeper in
    let now = c.go_on_before.new.keeper in
    let mid = c.take_turn.new.run in
    let within : turn + 1 ≤ turn_count S.shape = omega (arith, c.turns-test.true) in
    let E = placed_before S words H (turn + 1) in
    -- what each is given is known before, if it was due before
    let may-before = λ (given : ℕ → List Placed) (may : begin ≤ turn + 1 →
    AreGiven S.shape (placed_before S words H begin) (gives now) given).
    still-before S due turn within was now
    (λ k. AreGiven S.shape (placed_before S words H begin) (gives k) given)
    (λ isnt. went.same isnt) may
    in
    let before_it = λ (given : ℕ → List Placed) (may : begin ≤ turn + 1 →
    AreGiven S.shape (placed_before S words H begin) (gives now) given).
    so_far.run given (may-before given may)
    in
    let after_it = λ (given : ℕ → List Placed) (may : begin ≤ turn + 1 →
    AreGiven S.shape (placed_before S words H begin) (gives now) given).
    took.run (begun_anew S book H begin given) (held_now S words H begin given turn)
    (serves-anew S book H begin given turn) (before_it given may)
    in
    let fresh = λ (given : ℕ → List Placed) (is : is_due due (turn + 1) ≡ true).
    let here = is-due S due (turn + 1) is in
    run-last S book H begin given turn mid here
    (took.run (begun_anew S book H begin given) (held_now S words H begin given turn)
    (serves-anew S book H begin given turn)
    (so_far.run given (λ low. absurd (omega (arith, low, here)))))
    in
    record {
      kept = λ before first. elim (cases_Bool (is_due due (turn + 1))) [
        | inl is ↦
            kept-then S due at turn before (kept was) (kept now) within is (so_far.kept before first)
            (went.kept is E nothing_seen (fresh (alike []) is))
        | inr isnt ↦
            ap kept (went.same isnt) ∙ so_far.kept before first
            ∙ ap (λ (xs : List (List ℕ)). before ++ xs) (kept-still S due at turn within isnt)
      ];
      accepted = λ low. elim (cases_Bool (is_due due (turn + 1))) [
        | inl is ↦
            subst (λ (n : ℕ). AreAccepted S.shape (placed_before S words H n) (gives now))
            (sym (is-due S due (turn + 1) is)) (went.accepted is E (fresh (alike []) is))
        | inr isnt ↦
            subst (λ k. AreAccepted S.shape (placed_before S words H begin) (gives k))
            (sym (went.same isnt)) (so_far.accepted (none-before S due turn within isnt low))
      ];
      running = record {
        group = took.running.group;
        servers = went.ready E took.running.servers;
        taken = went.taken ∙ took.running.taken;
      };
      run = λ given may. elim (cases_Bool (is_due due (turn + 1))) [
        | inl is ↦
            let here = is-due S due (turn + 1) is in
            run-due S book H begin given (turn + 1) _ here (after_it given may).clients
            (went.stand is E given (fresh given is)
            (subst (λ (n : ℕ). AreGiven S.shape (placed_before S words H n) (gives now) given) here
            (may (omega (arith, here)))))
        | inr isnt ↦
            run-with S book H (begun_anew S book H begin given) (turn + 1)
            (held_now S words H begin given (turn + 1)) mid _ (sym (went.left isnt))
            (run-next S book H begin given turn mid (not-due S due (turn + 1) within isnt)
            (after_it given may))
      ];
      taps = λ given may.
          let V = begun_anew S book H begin given in
          taps-next S book H (read_replied S book H V) turn
          (tap c.args.taps.now) (tap c.turns.taps) (tap c.take_turn.new.taps)
          (so_far.taps given (may-before given may))
          (took.ok V (held_now S words H begin given turn) (serves-anew S book H begin given turn)
          (before_it given may));
      others = λ j out. took.others j out ∙ so_far.others j out;
      counts = le_trans so_far.counts took.counts;
    }

pub returns-in_err-take_turn-clause-err : goal.returns-in_err-take_turn-clause-err
returns-in_err-take_turn-clause-err g c before first given begins =
    let S = c.args.plan.now.script.now in
    let book = g.D.Draws.book c.args.plan.now.draws.now in
    let H = c.args.plan.now.history.now in
    let words = words_of S.shape book in
    let due = c.args.due in
    let begin = turn_due S due in
    let at = saved_before S book H in
    let V = begun_anew S book H begin given in
    let tap = g.T.Taps.tap in
    let turn = c.turns.turn in
    let so_far = c.turns.invariant in
    let within : turn < turn_count S.shape = omega (arith, c.turns-test.true) in
    let may = λ (low : begin ≤ turn).
    begins (omega (arith, low, within))
    (so_far.kept before first
    ∙ ap (λ (xs : List (List ℕ)). before ++ xs)
    (kept-since S due at turn (omega (arith, within)) low))
    in
    on_err _ c.from_residual.result
    (fronts-next S book H (read_replied S book H V) turn
    (tap c.args.taps.now) (tap c.turns.taps) (tap c.take_turn.new.taps) within
    (so_far.taps given may)
    (c.in_err-take_turn.ensures.err V (held_now S words H begin given turn)
    (serves-anew S book H begin given turn) (so_far.run given may)))

pub returns-in_err-go_on_before-clause-err : goal.returns-in_err-go_on_before-clause-err
returns-in_err-go_on_before-clause-err g c before first given begins =
    let S = c.args.plan.now.script.now in
    let book = g.D.Draws.book c.args.plan.now.draws.now in
    let H = c.args.plan.now.history.now in
    let words = words_of S.shape book in
    let due = c.args.due in
    let begin = turn_due S due in
    let at = saved_before S book H in
    let V = begun_anew S book H begin given in
    let kept = g.K.Keeper.kept in
    let gives = g.K.Keeper.gives in
    let tap = g.T.Taps.tap in
    let turn = c.turns.turn in
    let so_far = c.turns.invariant in
    let took = c.in_ok-take_turn.ensures in
    let was = c.turns.keeper in
    let now = c.go_on_before.new.keeper in
    let within : turn + 1 ≤ turn_count S.shape = omega (arith, c.turns-test.true) in
    let may = λ (low : begin ≤ turn).
    elim (cases_Bool (is_due due (turn + 1))) as (λ _. AreGiven S.shape
    (placed_before S words H begin) (gives was) given) [
      | inl is ↦ absurd (omega (arith, low, is-due S due (turn + 1) is))
      | inr isnt ↦
          let same = c.in_err-go_on_before.ensures.same isnt in
          subst (λ k. AreGiven S.shape (placed_before S words H begin) (gives k) given) same
          (begins (omega (arith, low, within))
          (ap kept same ∙ so_far.kept before first
          ∙ ap (λ (xs : List (List ℕ)). before ++ xs)
          (kept-since S due at turn (omega (arith, within)) low)))
    ]
    in
    on_err _ c.from_residual-in_err-go_on_before.result
    (fronts-before S book H (read_replied S book H V) (turn + 1) (tap c.args.taps.now)
    (tap c.take_turn.new.taps) within
    (taps-next S book H (read_replied S book H V) turn
    (tap c.args.taps.now) (tap c.turns.taps) (tap c.take_turn.new.taps) (so_far.taps given may)
    (took.ok V (held_now S words H begin given turn) (serves-anew S book H begin given turn)
    (so_far.run given may))))

pub returns-in_err-take_turn-clause-refused : goal.returns-in_err-take_turn-clause-refused
returns-in_err-take_turn-clause-refused g c before first =
    passed-on c.from_residual.result _ resume.Refused _ c.from_residual.ensures.1
    (λ is. absurd (c.in_err-take_turn.ensures.not_refused is))

pub returns-in_err-take_turn-clause-failed : goal.returns-in_err-take_turn-clause-failed
returns-in_err-take_turn-clause-failed g c before first =
    let S = c.args.plan.now.script.now in
    let book = g.D.Draws.book c.args.plan.now.draws.now in
    let at = saved_before S book c.args.plan.now.history.now in
    let so_far = c.turns.invariant in
    passed-on c.from_residual.result _ resume.Taps _ c.from_residual.ensures.1
    (λ is low kept. so_far.accepted
    (came-if-kept S c.args.due at c.turns.turn before (g.K.Keeper.kept c.turns.keeper) _
    (so_far.kept before first) kept))

pub returns-in_err-go_on_before-clause-refused : goal.returns-in_err-go_on_before-clause-refused
returns-in_err-go_on_before-clause-refused g c before first =
    let S = c.args.plan.now.script.now in
    let book = g.D.Draws.book c.args.plan.now.draws.now in
    let H = c.args.plan.now.history.now in
    let words = words_of S.shape book in
    let due = c.args.due in
    let begin = turn_due S due in
    let at = saved_before S book H in
    let kept = g.K.Keeper.kept in
    let gives = g.K.Keeper.gives in
    let turn = c.turns.turn in
    let so_far = c.turns.invariant in
    let was = c.turns.keeper in
    let now = c.go_on_before.new.keeper in
    let went = c.in_err-go_on_before.ensures in
    let within : turn + 1 ≤ turn_count S.shape = omega (arith, c.turns-test.true) in
    let fresh = λ (is : is_due due (turn + 1) ≡ true).
    let here = is-due S due (turn + 1) is in
    run-last S book H begin (alike []) turn c.take_turn.new.run here
    (c.in_ok-take_turn.ensures.run (begun_anew S book H begin (alike []))
    (held_now S words H begin (alike []) turn) (serves-anew S book H begin (alike []) turn)
    (so_far.run (alike []) (λ low. absurd (omega (arith, low, here)))))
    in
    elim (cases_Bool (is_due due (turn + 1))) [
      | inl is ↦
          let here = is-due S due (turn + 1) is in
          passed-on c.from_residual-in_err-go_on_before.result _ resume.Refused _
          c.from_residual-in_err-go_on_before.ensures.1
          (λ refused.
          let said = went.refused is (placed_before S words H (turn + 1)) (fresh is) refused in
          refused-when-due S book H begin (turn + 1) before (kept now) (gives now) here within
          (kept-then S due at turn before (kept was) (kept now) within is (so_far.kept before first)
          said.0
          ∙ ap (λ (xs : List (List ℕ)). before ++ xs)
          (kept-since S due at (turn + 1) within (omega (arith, here))
          ∙ ap (λ (n : ℕ). at n ∷ []) here))
          said.1 said.2)
      | inr isnt ↦ absurd (false≢true (went.nothing isnt))
    ]

pub returns-in_err-go_on_before-clause-others : goal.returns-in_err-go_on_before-clause-others
returns-in_err-go_on_before-clause-others g c = λ j out.
    c.in_ok-take_turn.ensures.others j out ∙ c.turns.invariant.others j out

pub returns-in_err-go_on_before-clause-failed : goal.returns-in_err-go_on_before-clause-failed
returns-in_err-go_on_before-clause-failed g c before first =
    passed-on c.from_residual-in_err-go_on_before.result _ resume.Taps _
    c.from_residual-in_err-go_on_before.ensures.1
    (λ is. absurd (c.in_err-go_on_before.ensures.not_taps is))

pub returns-clause-kept : goal.returns-clause-kept
returns-clause-kept g c before is =
    let S = c.args.plan.now.script.now in
    let at = saved_before S (g.D.Draws.book c.args.plan.now.draws.now) c.args.plan.now.history.now in
    let all : c.turns.turn ≡ turn_count S.shape = omega arith in
    subst (λ n. g.K.Keeper.kept c.turns.keeper ≡ before ++ kept_up_to c.args.due at n) all
    (c.turns.invariant.kept before is)

pub returns-clause-accepted : goal.returns-clause-accepted
returns-clause-accepted g c low =
    let all : c.turns.turn ≡ turn_count c.args.plan.now.script.now.shape = omega arith in
    c.turns.invariant.accepted (omega (arith, low, all))

pub returns-clause-running : goal.returns-clause-running
returns-clause-running g c =
    let S = c.args.plan.now.script.now in
    let book = g.D.Draws.book c.args.plan.now.draws.now in
    let all : c.turns.turn ≡ turn_count S.shape = omega arith in
    subst (λ n. IsRunning S book c.args.plan.now.history.now n c.turns.run) all
    c.turns.invariant.running

pub returns-clause-run : goal.returns-clause-run
returns-clause-run g c given may =
    let S = c.args.plan.now.script.now in
    let book = g.D.Draws.book c.args.plan.now.draws.now in
    let H = c.args.plan.now.history.now in
    let begin = turn_due S c.args.due in
    let all : c.turns.turn ≡ turn_count S.shape = omega arith in
    subst (λ n. IsRunUnder S book H (begun_anew S book H begin given) n
    (held_now S (words_of S.shape book) H begin given n) nothing_seen c.turns.run) all
    (c.turns.invariant.run given (λ low. may (omega (arith, low, all))))

pub returns-clause-ok : goal.returns-clause-ok
returns-clause-ok g c given may =
    let S = c.args.plan.now.script.now in
    let book = g.D.Draws.book c.args.plan.now.draws.now in
    let H = c.args.plan.now.history.now in
    let begin = turn_due S c.args.due in
    let tap = g.T.Taps.tap in
    let all : c.turns.turn ≡ turn_count S.shape = omega arith in
    taps-all S book H (read_replied S book H (begun_anew S book H begin given)) c.turns.turn
    (tap c.args.taps.now) (tap c.turns.taps) all
    (c.turns.invariant.taps given (λ low. may (omega (arith, low, all))))
