-- One line more is told, and at one that stops, or after all, the end.
use Rattle.std.proofs.Common.{◌≡◌, ◌∙◌, ◌+◌, ap, sym, subst, ◌∷◌, ◌++◌, [], List, ℕ, arith, append_assoc, IsTrue}
use Rattle.tk_schedule.specs.declared.raw.RawLine.{RawLine}
use Rattle.tk_schedule.specs.declared.raw.RawKind.{RawKind}
use Rattle.tk_schedule.specs.declared.raw.RawKind.TheVariants.{End}
use Rattle.tk_schedule.specs.Raw.{ends_once}
use Rattle.tk_script.specs.Grammar.{Line, lines_of}
use Rattle.tk_report.specs.ReportLines.{no_line, kind_said, raw_from}
use Rattle.tk_report.proofs.RawLaws.{ends-once, stop-end, goes-on, no-more}
use Rattle.tk_report.proofs.report_lines.raw_lines.Goals as goal

-- at a line that stops
stopped : (old new : List RawLine) (n : ℕ) (line : Line) (rest behind text : List ℕ) →
    new ≡ old ++ record { line = n; kind = End } ∷ [] →
    raw_from n (line ∷ lines_of behind) ≡ record { line = n; kind = End } ∷ [] →
    lines_of rest ≡ line ∷ lines_of behind →
    old ++ raw_from n (lines_of rest) ≡ raw_from 2 (lines_of text) →
    new ≡ raw_from 2 (lines_of text)
stopped old new n line rest behind text pushed stop lines told =
    pushed
    ∙ ap (λ (xs : List RawLine). old ++ xs) (sym (ap (raw_from n) lines ∙ stop))
    ∙ told

-- after all lines
ended : (old more new : List RawLine) (n : ℕ) (kind : RawKind) (rest text : List ℕ) →
    more ≡ old ++ record { line = n; kind = kind } ∷ [] → kind ≡ no_line →
    new ≡ more ++ record { line = n; kind = End } ∷ [] → lines_of rest ≡ [] →
    old ++ raw_from n (lines_of rest) ≡ raw_from 2 (lines_of text) →
    new ≡ raw_from 2 (lines_of text)
ended old more new n kind rest text first is pushed none told =
    let line : RawKind → RawLine = λ k. record { line = n; kind = k } in
    pushed
    ∙ ap (λ (xs : List RawLine). xs ++ line End ∷ [])
    (first ∙ ap (λ (k : RawKind). old ++ line k ∷ []) is)
    ∙ append_assoc old (line no_line ∷ []) (line End ∷ [])
    ∙ ap (λ (xs : List RawLine). old ++ xs) (sym (ap (raw_from n) none ∙ no-more n))
    ∙ told

-- at a line that goes on
told-next : (old new : List RawLine) (n : ℕ) (line : Line) (kind : RawKind)
    (rest behind text : List ℕ) →
    new ≡ old ++ record { line = n; kind = kind } ∷ [] → kind ≡ kind_said line →
    raw_from n (line ∷ lines_of behind)
    ≡ record { line = n; kind = kind_said line } ∷ raw_from (n + 1) (lines_of behind) →
    lines_of rest ≡ line ∷ lines_of behind →
    old ++ raw_from n (lines_of rest) ≡ raw_from 2 (lines_of text) →
    new ++ raw_from (n + 1) (lines_of behind) ≡ raw_from 2 (lines_of text)
told-next old new n line kind rest behind text pushed is goes lines told =
    let here : RawKind → RawLine = λ k. record { line = n; kind = k } in
    let later = raw_from (n + 1) (lines_of behind) in
    ap (λ (xs : List RawLine). xs ++ later)
    (pushed ∙ ap (λ (k : RawKind). old ++ here k ∷ []) is)
    ∙ append_assoc old (here (kind_said line) ∷ []) later
    ∙ ap (λ (xs : List RawLine). old ++ xs) (sym (ap (raw_from n) lines ∙ goes))
    ∙ told

pub from_vec-requires : goal.from_vec-requires
from_vec-requires c =
    let line = c.in-Some.line.now in
    let n = c.lines.number in
    let behind = c.in-Some.behind.now in
    let whole = stopped c.lines.lines.items c.push.new.self.items n line c.lines.rest.now behind
    c.args.text.now c.in_ok-push.ensures.items
    (stop-end n line (lines_of behind) (sym c.is_behind.ensures ∙ c.if-is_behind.true))
    c.in-Some.ensures.line c.lines.invariant.told
    in
    subst (λ (xs : List RawLine). IsTrue (ends_once xs)) (sym whole)
    (ends-once 2 (lines_of c.args.text.now))

pub returns-then-is_behind : goal.returns-then-is_behind
returns-then-is_behind c =
    let line = c.in-Some.line.now in
    let n = c.lines.number in
    let behind = c.in-Some.behind.now in
    c.from_vec.ensures
    ∙ stopped c.lines.lines.items c.push.new.self.items n line c.lines.rest.now behind
    c.args.text.now c.in_ok-push.ensures.items
    (stop-end n line (lines_of behind) (sym c.is_behind.ensures ∙ c.if-is_behind.true))
    c.in-Some.ensures.line c.lines.invariant.told

pub lines-preserved : goal.lines-preserved
lines-preserved c =
    let line = c.in-Some.line.now in
    let n = c.lines.number in
    let behind = c.in-Some.behind.now in
    record {
      told = told-next c.lines.lines.items c.push-in-Some.new.self.items n line c.in_ok-kind.kind
          c.lines.rest.now behind c.args.text.now c.in_ok-push-2.ensures.items c.in_ok-kind.ensures
          (goes-on n line (lines_of behind) (sym c.is_behind.ensures ∙ c.if-is_behind.false))
          c.in-Some.ensures.line c.lines.invariant.told;
      small = omega (arith, c.in-Some.ensures.shorter, c.lines.invariant.small);
    }

pub from_vec-requires-2 : goal.from_vec-requires-2
from_vec-requires-2 c =
    let whole = ended c.lines.lines.items c.push-2.new.self.items c.push-3.new.self.items
    c.lines.number c.no_line.result c.lines.rest.now c.args.text.now c.in_ok-push-3.ensures.items
    c.no_line.ensures c.in_ok-push-4.ensures.items c.in_default.ensures.none
    c.lines.invariant.told
    in
    subst (λ (xs : List RawLine). IsTrue (ends_once xs)) (sym whole)
    (ends-once 2 (lines_of c.args.text.now))

pub returns : goal.returns
returns c =
    c.from_vec-2.ensures
    ∙ ended c.lines.lines.items c.push-2.new.self.items c.push-3.new.self.items
    c.lines.number c.no_line.result c.lines.rest.now c.args.text.now c.in_ok-push-3.ensures.items
    c.no_line.ensures c.in_ok-push-4.ensures.items c.in_default.ensures.none
    c.lines.invariant.told
