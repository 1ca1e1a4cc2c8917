-- A script that is read line by line is the one that the lines spell.
use Rattle.std.proofs.Common.{◌≡◌, ◌∙◌, ℕ, ◌+◌, List, [], ◌∷◌, ◌++◌, length, map, codes, Bool, true, false, Option, Some, None, Result, Ok, refl, ap, sym, subst, IsTrue, append_assoc, eq-eqb}
use Rattle.std.specs.Prelude.{is_some, ◌==◌}
use Rattle.std.specs.List.{AllZip}
use Rattle.std.proofs.lemmas.Bool.{and_from}
use Rattle.tk_shape.specs.declared.shape.Shape.{Shape}
use Rattle.tk_shape.specs.Limits.{Numbers}
use Rattle.tk_script.specs.declared.keys.Keys.{Keys}
use Rattle.tk_script.specs.declared.kinds.Kinds.{Kinds}
use Rattle.tk_script.specs.declared.role.Role.{Role}
use Rattle.tk_script.specs.declared.say.Say.{Say}
use Rattle.tk_script.specs.declared.script.Script.{Script}
use Rattle.tk_script.specs.Grammar.{Line, format_line, shape_line, role_line, say_line, SpellsKeys, BeginsWithScript}
use Rattle.tk_script.specs.Reading.{Place, Refusal, ◌>>=◌, alone, named, next_line, next_lines, to_end, read_format, read_shape, read_kind, read_role, read_handle, read_seed, read_next_say}
use Rattle.tk_script.specs.Reading.{ScriptLines, read_head, read_keys, read_script, script_lines}
use Rattle.tk_script.specs.SoundScript.{IsScript, is_role, is_say, has_keys, are_in_order}
use Rattle.tk_script.proofs.AnswerLaws.{then_said}
use Rattle.tk_script.proofs.CauseLaws.{IsDue, read_kind-is, read_kind-whole}
use Rattle.tk_script.proofs.FormatLaws.{line_of, format_is, format_whole}
use Rattle.tk_script.proofs.KeyLaws.{handle_is, handle_whole, seed_is, seed_whole, keys_spelled, the_keys}
use Rattle.tk_script.proofs.KeyLines.{kind_words, MayBeOfKind, IsHandleLine, IsSeedLine}
use Rattle.tk_script.proofs.OptionLaws.{ok_same}
use Rattle.tk_script.proofs.PlaceLaws.{next_taken}
use Rattle.tk_script.proofs.RoleLaws.{IsRoleLine, role_is, role_whole}
use Rattle.tk_script.proofs.RowLaws.{Steps, no_step, then_steps, then_from, next_from, lines_are, lines_whole, end_are, end_whole, zip-lines, lines-zip}
use Rattle.tk_script.proofs.SayLaws.{IsSayLine, say_line-goes_on, say_is, say_whole}
use Rattle.tk_script.proofs.ScriptLaws.{behind_head, lines_are as script_lines_are, script_begins, may_be, tape_fits_kind}
use Rattle.tk_script.proofs.ShapeLaws.{shape_is, shape_whole, same_named}
use Rattle.tk_script.proofs.WordLaws.{at, Comes}

-- ---- the three lines at the front

head_whole : (kinds : Kinds) (line : ℕ) (lines behind : List Line) (shape : Shape) (keyed : Bool) →
    MayBeOfKind shape keyed → IsDue kinds keyed →
    lines ≡ format_line shape ∷ shape_line shape ∷ kind_words keyed ∷ behind →
    read_head kinds (at line lines) ≡ Ok (named shape, keyed, at (line + 1 + 1 + 1) behind)
unfolding read_head
head_whole kinds line lines behind shape keyed may due whole =
    let second = at (line + 1) (shape_line shape ∷ kind_words keyed ∷ behind) in
    let third = at (line + 1 + 1) (kind_words keyed ∷ behind) in
    then_said _ (next_taken read_format (at line lines) (format_line shape) second shape.format
    (record { number = refl; lines = whole }) (format_whole shape))
    (then_said _ (next_taken (read_shape shape.format) second (shape_line shape) third (named shape)
    (record { number = refl; lines = refl }) (shape_whole shape (shape_line shape) refl))
    (then_said _ (next_taken (read_kind kinds (named shape)) third (kind_words keyed)
    (at (line + 1 + 1 + 1) behind) keyed (record { number = refl; lines = refl })
    (read_kind-whole kinds shape keyed may due)) refl))

-- the lines that were read at the front, whose format and numbers are a shape's
record Head (kinds : Kinds) (p : Place) (x : Numbers × Bool × Place) : Type 0 where
  pub shape : Shape
  pub is : x.0 ≡ named shape
  pub whole : p.rest ≡ format_line shape ∷ shape_line shape ∷ kind_words x.1 ∷ x.2.rest
  pub may : MayBeOfKind shape x.1
  pub due : IsDue kinds x.1
  pub steps : Steps p x.2

three : (a x b y c z : Line) (ls ms ns os : List Line) → ls ≡ a ∷ ms → ms ≡ b ∷ ns → ns ≡ c ∷ os →
    a ≡ x → b ≡ y → c ≡ z → ls ≡ x ∷ y ∷ z ∷ os
three a x b y c z ls ms ns os p q r s t u = cc (p, q, r, s, t, u)

head_from : (kinds : Kinds) (p : Place) (x : Numbers × Bool × Place) → read_head kinds p ≡ Ok x → Head kinds p x
unfolding read_head
head_from kinds p x e =
    let first = then_from (next_line read_format p) _ x e in
    let second = then_from (next_line (read_shape first.0.0) first.0.1) _ x first.2 in
    let n = second.0.0 in
    let third = then_from (next_line (read_kind kinds n) second.0.1) _ x second.2 in
    let one = next_from read_format p first.0 first.1 in
    let two = next_from (read_shape first.0.0) first.0.1 second.0 second.1 in
    let last = next_from (read_kind kinds n) second.0.1 third.0 third.1 in
    let format = format_is one.line first.0.0 one.read_is in
    let here = shape_is first.0.0 two.line n format.known two.read_is in
    let kind = read_kind-is kinds here.shape last.line third.0.0
    (ap (λ k. read_kind kinds k last.line) (sym here.is) ∙ last.read_is) in
    subst (Head kinds p) (ok_same (n, third.0.0, third.0.1) x third.2) (record {
      shape = here.shape;
      is = here.is;
      whole = three one.line (format_line here.shape) two.line (shape_line here.shape) last.line
          (kind_words third.0.0) p.rest first.0.1.rest second.0.1.rest third.0.1.rest one.whole
          two.whole last.whole (format.whole ∙ ap line_of (sym here.of_format)) here.whole kind.word;
      may = kind.may;
      due = kind.due;
      steps = then_steps p second.0.1 third.0.1
          (then_steps p first.0.1 second.0.1 one.steps two.steps) last.steps;
    })

-- ---- the keys

record KeysRead (shape : Shape) (p : Place) (keyed : Bool) (keys : Option Keys) (q : Place)
    : Type 0 where
  pub own : List Line
  pub spelled : SpellsKeys own keys
  pub whole : p.rest ≡ own ++ q.rest
  pub kind : is_some keys ≡ keyed
  pub counted : IsTrue (has_keys shape keys)
  pub steps : Steps p q

counted_so : (shape : Shape) (keys : Keys) → length keys.handles ≡ shape.logs →
    length keys.seeds ≡ shape.clients → IsTrue (has_keys shape (Some keys))
counted_so shape keys handles seeds =
    and_from (length keys.handles == shape.logs) (length keys.seeds == shape.clients)
    (eq-eqb (length keys.handles) shape.logs handles)
    (eq-eqb (length keys.seeds) shape.clients seeds)

keys_from : (shape : Shape) (keyed : Bool) (p : Place) (x : Option Keys × Place) →
    read_keys (named shape) keyed p ≡ Ok x → KeysRead shape p keyed x.0 x.1
unfolding read_keys
keys_from shape false p x e =
    subst (λ (z : Option Keys × Place). KeysRead shape p false z.0 z.1) (ok_same (None, p) x e)
    (record {
      own = [];
      spelled = refl;
      whole = refl;
      kind = refl;
      counted = refl;
      steps = no_step p p refl;
    })
keys_from shape true p x e =
    let first = then_from (next_lines shape.logs (alone read_handle) [] p) _ x e in
    let second = then_from (next_lines shape.clients (alone read_seed) [] first.0.1) _ x first.2 in
    let keys : Keys = record { handles = first.0.0; seeds = second.0.0 } in
    let handles = lines_are read_handle IsHandleLine handle_is shape.logs p.line p.rest []
    first.0.0 first.0.1 first.1 in
    let seeds = lines_are read_seed IsSeedLine seed_is shape.clients first.0.1.line
    first.0.1.rest [] second.0.0 second.0.1 second.1 in
    let each_handle = subst (AllZip IsHandleLine handles.0.own) (sym handles.0.all_is)
    handles.0.each in
    let each_seed = subst (AllZip IsSeedLine seeds.0.own) (sym seeds.0.all_is) seeds.0.each in
    subst (λ (z : Option Keys × Place). KeysRead shape p true z.0 z.1)
    (ok_same (Some keys, second.0.1) x second.2) (record {
      own = handles.0.own ++ seeds.0.own;
      spelled = keys_spelled handles.0.own seeds.0.own keys each_handle each_seed;
      whole = handles.0.whole ∙ ap (λ t. handles.0.own ++ t) seeds.0.whole
          ∙ sym (append_assoc handles.0.own seeds.0.own second.0.1.rest);
      kind = refl;
      counted = counted_so shape keys (ap length handles.0.all_is ∙ handles.1)
          (ap length seeds.0.all_is ∙ seeds.1);
      steps = then_steps p first.0.1 second.0.1 handles.2 seeds.2;
    })

keys_whole : (shape : Shape) (keys : Option Keys) (own : List Line) (line : ℕ)
    (behind : List Line) → SpellsKeys own keys → IsTrue (has_keys shape keys) →
    Comes (read_keys (named shape) (is_some keys) (at line (own ++ behind))) keys behind
unfolding read_keys
keys_whole shape None own line behind spelled counted =
    (line, ap (λ ls. Ok (None, at line (ls ++ behind))) spelled)
keys_whole shape (Some keys) own line behind spelled counted =
    let k = the_keys shape keys own spelled counted in
    let handles = lines_whole read_handle IsHandleLine handle_whole k.first keys.handles line []
    (k.second ++ behind) k.handles in
    let seeds = lines_whole read_seed IsSeedLine seed_whole k.second keys.seeds handles.0 []
    behind k.seeds in
    let lines = ap (λ t. t ++ behind) k.whole ∙ append_assoc k.first k.second behind in
    let first = ap (λ ls. next_lines shape.logs (alone read_handle) [] (at line ls)) lines
    ∙ ap (λ count. next_lines count (alone read_handle) []
    (at line (k.first ++ (k.second ++ behind)))) (sym k.handles_counted) ∙ handles.1 in
    let second = ap (λ count. next_lines count (alone read_seed) []
    (at handles.0 (k.second ++ behind))) (sym k.seeds_counted) ∙ seeds.1 in
    (seeds.0, then_said _ first (then_said _ second refl))

-- ---- a script

-- what reads the sections after the head
abbrev read_rest : Numbers → Bool → Place → Result (ScriptLines × Place) Refusal
read_rest n keyed p = do
  roles ← next_lines n.logs (alone (read_role n)) [] p
  keys ← read_keys n keyed roles.1
  says ← to_end (read_next_say n) [] keys.1.line keys.1.rest
  Ok (record { numbers = n; keys = keys.0; roles = roles.0; says = says.0 }, says.1)

-- the script that was read
pub record ScriptOf (kinds : Kinds) (p : Place) (t : ScriptLines) (q : Place) : Type 0 where
  pub script : Script
  pub is : t ≡ script_lines script
  pub begins : BeginsWithScript p.rest script q.rest
  pub due : IsDue kinds (is_some script.keys)
  pub steps : Steps p q

pub script_read : (kinds : Kinds) (p : Place) (x : ScriptLines × Place) → read_script kinds p ≡ Ok x →
    ScriptOf kinds p x.0 x.1
unfolding read_script
script_read kinds p x e =
    let first = then_from (read_head kinds p) _ x e in
    let head = head_from kinds p first.0 first.1 in
    let shape = head.shape in
    let keyed = first.0.1 in
    let q = first.0.2 in
    let rest : read_rest (named shape) keyed q ≡ Ok x =
    subst (λ n. read_rest n keyed q ≡ Ok x) head.is first.2 in
    let second = then_from (next_lines shape.logs (alone (read_role (named shape))) [] q) _ x rest in
    let third = then_from (read_keys (named shape) keyed second.0.1) _ x second.2 in
    let fourth = then_from (to_end (read_next_say (named shape)) [] third.0.1.line third.0.1.rest) _
    x third.2 in
    let roles = second.0.0 in
    let keys = third.0.0 in
    let says = fourth.0.0 in
    let behind = fourth.0.1 in
    let rows = lines_are (read_role (named shape)) (IsRoleLine shape) (role_is shape) shape.logs
    q.line q.rest [] roles second.0.1 second.1 in
    let role_lines = lines-zip role_line (is_role shape) rows.0.own roles
    (subst (AllZip (IsRoleLine shape) rows.0.own) (sym rows.0.all_is) rows.0.each) in
    let k = keys_from shape keyed second.0.1 third.0 third.1 in
    let texts = end_are (read_next_say (named shape)) (IsSayLine shape)
    (λ ys. IsTrue (are_in_order ys)) (say_is shape) third.0.1.rest third.0.1.line [] says behind refl
    fourth.1 in
    let text_lines = lines-zip say_line (is_say shape) texts.0.own says
    (subst (AllZip (IsSayLine shape) texts.0.own) (sym texts.0.all_is) texts.0.each) in
    let S : Script = record {
      shape = shape;
      keys = keys;
      roles = roles;
      says = says;
      sound = record {
        keys_counted = k.counted;
        tape_fits = tape_fits_kind shape keys keyed k.kind head.may;
        roles_counted = ap length rows.0.all_is ∙ rows.1;
        roles_sound = role_lines.1;
        says_sound = text_lines.1;
        says_ordered = texts.1;
      };
    } in
    let says_whole = texts.0.whole ∙ ap (λ ls. ls ++ codes "end" ∷ behind.rest) text_lines.0 in
    let roles_whole = rows.0.whole ∙ ap (λ ls. ls ++ second.0.1.rest) role_lines.0
    ∙ ap (λ ls. map role_line roles ++ ls) (k.whole ∙ ap (λ ls. k.own ++ ls) says_whole) in
    let whole = head.whole
    ∙ ap (λ ls. format_line shape ∷ shape_line shape ∷ kind_words keyed ∷ ls) roles_whole
    ∙ ap (λ b. format_line shape ∷ shape_line shape ∷ kind_words b ∷ behind_head S k.own behind.rest)
    (sym k.kind) in
    let steps = then_steps p third.0.1 behind
    (then_steps p second.0.1 third.0.1 (then_steps p q second.0.1 head.steps rows.2) k.steps)
    texts.2 in
    subst (λ (z : ScriptLines × Place). ScriptOf kinds p z.0 z.1)
    (ok_same (script_lines S, behind) x fourth.2) (record {
      script = S;
      is = refl;
      begins = script_begins p.rest S k.own behind.rest k.spelled whole;
      due = subst (IsDue kinds) (sym k.kind) head.due;
      steps = steps;
    })

-- what is read as a script of a shape is sound
pub script_sound : (kinds : Kinds) (p q : Place) (shape : Shape) (keys : Option Keys)
    (roles : List Role) (says : List Say) →
    read_script kinds p
    ≡ Ok (record { numbers = named shape; keys = keys; roles = roles; says = says }, q) →
    IsScript shape keys roles says
script_sound kinds p q shape keys roles says e =
    let t : ScriptLines =
    record { numbers = named shape; keys = keys; roles = roles; says = says } in
    let read = script_read kinds p (t, q) e in
    let S = read.script in
    let same = same_named shape S.shape (ap (λ (z : ScriptLines). z.numbers) read.is) in
    subst (λ (z : Shape × Option Keys × List Role × List Say). IsScript z.0 z.1 z.2 z.3)
    (λ i. (sym same i, (sym read.is i).keys, (sym read.is i).roles, (sym read.is i).says)) S.sound

pub script_whole : (kinds : Kinds) (line : ℕ) (lines : List Line) (S : Script) (behind : List Line) →
    BeginsWithScript lines S behind → IsDue kinds (is_some S.keys) →
    Comes (read_script kinds (at line lines)) (script_lines S) behind
unfolding read_script
script_whole kinds line lines S behind s due =
    let tail = map say_line S.says ++ codes "end" ∷ behind in
    let third = line + 1 + 1 + 1 in
    let head = head_whole kinds line lines (behind_head S s.key_lines behind) S.shape (is_some S.keys)
    (may_be S.shape S.keys S.sound.tape_fits) due (script_lines_are lines S behind s) in
    let roles = lines_whole (read_role (named S.shape)) (IsRoleLine S.shape) (role_whole S.shape)
    (map role_line S.roles) S.roles third [] (s.key_lines ++ tail)
    (zip-lines role_line (is_role S.shape) S.roles S.sound.roles_sound) in
    let roles_read = ap (λ count. next_lines count (alone (read_role (named S.shape))) []
    (at third (map role_line S.roles ++ (s.key_lines ++ tail)))) (sym S.sound.roles_counted)
    ∙ roles.1 in
    let keys = keys_whole S.shape S.keys s.key_lines roles.0 tail s.keys S.sound.keys_counted in
    let says = end_whole (read_next_say (named S.shape)) (IsSayLine S.shape)
    (λ ys. IsTrue (are_in_order ys)) (say_is S.shape) (λ y h. say_line-goes_on y h.0)
    (say_whole S.shape) (map say_line S.says) S.says keys.0 [] behind refl S.sound.says_ordered
    (zip-lines say_line (is_say S.shape) S.says S.sound.says_sound) in (
      says.0,
      then_said _ head (then_said _ roles_read (then_said _ keys.1 (then_said _ says.1 refl))),
    )
