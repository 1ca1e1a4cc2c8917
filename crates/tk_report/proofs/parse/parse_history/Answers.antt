-- What the lines tell is what the bytes show.
use Rattle.std.proofs.Common.{◌≡◌, ◌∙◌, ap, sym, subst, List, ℕ, Bool, true, false, codes, Option, None, refl}
use Rattle.std.specs.Prelude.{not}
use Rattle.std.specs.Str.{bytes_eq}
use Rattle.std.proofs.lemmas.Bool.{true≢false}
use Rattle.std.proofs.lemmas.Slice.Eq.{bytes_eq-Decides}
use Rattle.tk_schedule.specs.declared.raw.RawLine.{RawLine}
use Rattle.tk_schedule.specs.Due.{bad_line}
use Rattle.tk_schedule.specs.Told.{Tells, Names}
use Rattle.tk_script.specs.Grammar.{lines_of}
use Rattle.tk_report.specs.ReportLines.{bad_report_line}
use Rattle.std.proofs.lemmas.Result.{IfOk-weaker}
use Rattle.tk_report.proofs.RawLaws.{bad-none, bad-first, bad-behind, shows-first, shows-some, shown-told}
use Rattle.tk_report.proofs.parse.parse_history.Goals as goal

pub returns-in_default-clause-only : goal.returns-in_default-clause-only
returns-in_default-clause-only c = λ h shows.
    shows-some c.args.shape.now c.args.bytes.now h shows c.in_default.ensures.none

pub returns-in_default-clause-bad : goal.returns-in_default-clause-bad
returns-in_default-clause-bad c =
    ap (bad_report_line c.args.shape.now) c.in_default.ensures.none ∙ bad-none c.args.shape.now

-- a line that isn't a report's first
other-line : (line word : List ℕ) (same : Bool) → same ≡ not (bytes_eq line word) → same ≡ true →
    word ≡ codes "report" → bytes_eq line (codes "report") ≡ false
other-line line word same is other at =
    ap (λ (w : List ℕ). bytes_eq line w) (sym at)
    ∙ turn (bytes_eq line word) (sym is ∙ other)
  where
    turn : (b : Bool) → not b ≡ true → b ≡ false
    turn true e = cc e
    turn false e = refl

report-line : (line word : List ℕ) (same : Bool) → same ≡ not (bytes_eq line word) → same ≡ false →
    word ≡ codes "report" → bytes_eq line (codes "report") ≡ true
report-line line word same is other at =
    ap (λ (w : List ℕ). bytes_eq line w) (sym at)
    ∙ turn (bytes_eq line word) (sym is ∙ other)
  where
    turn : (b : Bool) → not b ≡ false → b ≡ true
    turn true e = refl
    turn false e = cc e

pub returns-then-ne-clause-only : goal.returns-then-ne-clause-only
returns-then-ne-clause-only c = λ h shows.
    let first = c.in-Some.first.now in
    let other = other-line first c.as_slice.result.now c.ne.result c.ne.ensures c.if-ne.true
    c.as_slice.ensures
    in
    let is = (shows-first c.args.shape.now c.args.bytes.now h first (lines_of c.in-Some.rest.now)
    shows c.in-Some.ensures.line).0
    in
    true≢false (sym ((bytes_eq-Decides first (codes "report")).1 is) ∙ other)

pub returns-then-ne-clause-bad : goal.returns-then-ne-clause-bad
returns-then-ne-clause-bad c =
    let first = c.in-Some.first.now in
    let other = other-line first c.as_slice.result.now c.ne.result c.ne.ensures c.if-ne.true
    c.as_slice.ensures
    in
    ap (bad_report_line c.args.shape.now) c.in-Some.ensures.line
    ∙ bad-first c.args.shape.now first (lines_of c.in-Some.rest.now) other

pub returns-clause-shown : goal.returns-clause-shown
returns-clause-shown c =
    let shape = c.args.shape.now in
    let first = c.in-Some.first.now in
    let rest = c.in-Some.rest.now in
    let same = report-line first c.as_slice.result.now c.ne.result c.ne.ensures c.if-ne.false
    c.as_slice.ensures
    in
    let is = (bytes_eq-Decides first (codes "report")).0 same in
    IfOk-weaker c.from_raw.result _ _
    (λ h tells. shown-told shape c.args.bytes.now first rest h c.in-Some.ensures.line is
    (subst (λ (raw : List RawLine). Tells shape raw h) c.in_ok-raw.ensures tells))
    c.from_raw.ensures.told

pub returns-clause-only : goal.returns-clause-only
returns-clause-only c = λ h shows.
    let shape = c.args.shape.now in
    let told = (shows-first shape c.args.bytes.now h c.in-Some.first.now
    (lines_of c.in-Some.rest.now) shows c.in-Some.ensures.line).1
    in
    c.from_raw.ensures.only h
    (subst (λ (raw : List RawLine). Tells shape raw h) (sym c.in_ok-raw.ensures) told)

pub returns-clause-bad : goal.returns-clause-bad
returns-clause-bad c =
    let shape = c.args.shape.now in
    let first = c.in-Some.first.now in
    let same = report-line first c.as_slice.result.now c.ne.result c.ne.ensures c.if-ne.false
    c.as_slice.ensures
    in
    subst (λ (bad : Option ℕ). Names (λ h. None) c.from_raw.result bad)
    (ap (bad_line shape) c.in_ok-raw.ensures
    ∙ sym (ap (bad_report_line shape) c.in-Some.ensures.line
    ∙ bad-behind shape first (lines_of c.in-Some.rest.now) same))
    c.from_raw.ensures.bad
