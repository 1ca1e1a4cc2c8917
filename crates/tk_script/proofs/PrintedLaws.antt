-- What is printed is read back.
use Rattle.std.proofs.Common.{ℕ, List, [], ◌∷◌, ◌++◌, map, codes, inl, Option, Some, None, refl, ap, sym, ◌∙◌, subst, append_assoc, append-nil}
use Rattle.std.specs.Prelude.{is_some}
use Rattle.std.specs.List.{AllByRecursion, AllZip}
use Rattle.hex.specs.Hex.{IsBytes, encode_lower}
use Rattle.hex.proofs.HexLemmas.{decode_of-encode_lower}
use Rattle.tk_handle.specs.declared.handle.Handle.{Handle}
use Rattle.tk_handle.specs.Handle.{handle_bytes}
use Rattle.tk_script.specs.declared.script.Script.{Script}
use Rattle.tk_script.specs.declared.keys.Keys.{Keys}
use Rattle.tk_script.specs.Grammar.{Line, lines_of, format_line, shape_line, kind_line, role_line, say_line, SpellsBytes, SpellsKeys, SpellsPiece, BeginsWithScript, BeginsWithTape, kept_of}
use Rattle.tk_script.proofs.KeyLines.{IsHandleLine, IsSeedLine}
use Rattle.tk_script.specs.SoundScript.{is_role, is_say}
use Rattle.tk_script.specs.Printing.{bytes_line, handle_line, seed_line, lines_of_keys, lines_of_script, lines_of_pieces, lines_of_tape, piece_line, pieces, printed, printed_tape, HasHandle, HasSeed, HasKeys}
use Rattle.tk_script.specs.PrintLaws.{ReadsPrinted, ReadsPrintedTape, PrintsScripts, PrintsTapes, PrintsKeyed, PrintsRelayed, PrintsDrawn}
use Rattle.tk_script.proofs.LineLaws.{lines_of-empty}
use Rattle.tk_script.proofs.KeyLaws.{keys_spelled}
use Rattle.tk_script.proofs.ScriptLaws.{tape_of_keyed, tape_of_drawn}
use Rattle.tk_script.proofs.FeedLaws.{LacksFeed, each-append, feed_by_test, bytes_line_lacks, format_line_lacks, shape_line_lacks, kind_line_lacks, role_line_lacks, say_line_lacks, passing_lack, all_lack, lines_of-text_of}
use Rattle.tk_script.proofs.PiecesLaws.{IsPiece, are_pieces, pieces-joined}

-- each line spells its item
zip_all : {X : Type 0} (f : X → Line) (P : X → Type 0) (R : Line → X → Type 0) →
    ((x : X) → P x → R (f x) x) → (xs : List X) → AllByRecursion P xs → AllZip R (map f xs) xs
zip_all f P R spells [] all = tt
zip_all f P R spells (x ∷ xs) all = (spells x all.0, zip_all f P R spells xs all.1)

-- a word and bytes are spelled by their line
spells_bytes : (word bytes : List ℕ) → IsBytes bytes →
    SpellsBytes (bytes_line word bytes) (word, bytes)
spells_bytes word bytes are = (encode_lower bytes, refl, decode_of-encode_lower bytes are)

-- ---- the keys

handle_spelled : (h : Handle) → HasHandle h → IsHandleLine (handle_line h) h
handle_spelled h has = (spells_bytes (codes "handle") (handle_bytes h) has.bytes, has.is)

seed_spelled : (seed : List ℕ) → HasSeed seed → IsSeedLine (seed_line seed) seed
seed_spelled seed has = (spells_bytes (codes "seed") seed has.bytes, has.is)

keys_printed : (keys : Option Keys) → HasKeys keys → SpellsKeys (lines_of_keys keys) keys
keys_printed None has = refl
keys_printed (Some keys) has =
    keys_spelled (map handle_line keys.handles) (map seed_line keys.seeds) keys
    (zip_all handle_line HasHandle IsHandleLine handle_spelled keys.handles has.0)
    (zip_all seed_line HasSeed IsSeedLine seed_spelled keys.seeds has.1)

keys_lack : (keys : Option Keys) → HasKeys keys → AllByRecursion LacksFeed (lines_of_keys keys)
keys_lack None has = tt
keys_lack (Some keys) has =
    each-append LacksFeed (map handle_line keys.handles) (map seed_line keys.seeds)
    (all_lack handle_line HasHandle (λ h own. bytes_line_lacks (codes "handle") (handle_bytes h)
    (feed_by_test (codes "handle") refl) own.bytes) keys.handles has.0)
    (all_lack seed_line HasSeed (λ seed own. bytes_line_lacks (codes "seed") seed
    (feed_by_test (codes "seed") refl) own.bytes) keys.seeds has.1)

-- ---- a script

pub script_lacks : (S : Script) → HasKeys S.keys → AllByRecursion LacksFeed (lines_of_script S)
script_lacks S has =
    let logs = map role_line S.roles in
    let keys = lines_of_keys S.keys in
    let texts = map say_line S.says in
    let end = codes "end" ∷ [] in
    let first = passing_lack role_line (is_role S.shape) (role_line_lacks S.shape) S.roles
    S.sound.roles_sound in
    let third = passing_lack say_line (is_say S.shape) (say_line_lacks S.shape) S.says
    S.sound.says_sound in
    let two = each-append LacksFeed logs keys first (keys_lack S.keys has) in
    let three = each-append LacksFeed (logs ++ keys) texts two third in
    let all = each-append LacksFeed (logs ++ keys ++ texts) end three
    (feed_by_test (codes "end") refl, tt) in
    (format_line_lacks S.shape, (shape_line_lacks S.shape, (kind_line_lacks S.keys, all)))

pub prints_scripts : PrintsScripts
unfolding printed
prints_scripts S has rest = record {
  key_lines = lines_of_keys S.keys;
  keys = keys_printed S.keys has;
  whole =
      lines_of-text_of (lines_of_script S) rest (script_lacks S has)
      ∙ ap (λ t. format_line S.shape ∷ shape_line S.shape ∷ kind_line S.keys ∷ t)
      (append_assoc (map role_line S.roles ++ lines_of_keys S.keys ++ map say_line S.says)
      (codes "end" ∷ []) (lines_of rest));
}

-- ---- a tape

piece_spelled : (bytes : List ℕ) → IsPiece bytes → SpellsPiece (piece_line bytes) bytes
piece_spelled bytes p = inl (spells_bytes (codes "x") bytes p.are, p.low, p.high)

tape_lacks : (bytes : List ℕ) → IsBytes bytes → AllByRecursion LacksFeed (lines_of_tape bytes)
tape_lacks bytes are =
    let lines = all_lack piece_line IsPiece (λ p own. bytes_line_lacks (codes "x") p
    (feed_by_test (codes "x") refl) own.are) (pieces 32 bytes) (are_pieces bytes are) in
    let all = each-append LacksFeed (lines_of_pieces bytes) (codes "end" ∷ []) lines
    (feed_by_test (codes "end") refl, tt) in
    (feed_by_test (codes "tape") refl, all)

pub prints_tapes : PrintsTapes
unfolding printed_tape
prints_tapes bytes are rest = record {
  piece_lines = lines_of_pieces bytes;
  parts = pieces 32 bytes;
  each = zip_all piece_line IsPiece SpellsPiece piece_spelled (pieces 32 bytes)
      (are_pieces bytes are);
  joined = pieces-joined bytes;
  whole =
      lines_of-text_of (lines_of_tape bytes) rest (tape_lacks bytes are)
      ∙ ap (λ t. codes "tape" ∷ t)
      (append_assoc (lines_of_pieces bytes) (codes "end" ∷ []) (lines_of rest));
}

-- ---- inputs

-- nothing stands after what is printed
script_alone : (S : Script) → ReadsPrinted S → BeginsWithScript (lines_of (printed S)) S []
script_alone S reads =
    subst (λ r. BeginsWithScript (lines_of (printed S)) S r) lines_of-empty
    (subst (λ t. BeginsWithScript (lines_of t) S (lines_of [])) (append-nil (printed S)) (reads []))

pub tape_alone : (bytes : List ℕ) → ReadsPrintedTape bytes →
    BeginsWithTape (lines_of (printed_tape bytes)) bytes []
tape_alone bytes reads =
    subst (λ r. BeginsWithTape (lines_of (printed_tape bytes)) bytes r) lines_of-empty
    (subst (λ t. BeginsWithTape (lines_of t) bytes (lines_of [])) (append-nil (printed_tape bytes))
    (reads []))

pub prints_keyed : PrintsKeyed
prints_keyed S keys keyed has = record {
  rest = [];
  script = script_alone S (prints_scripts S has);
  no_second = refl;
  no_history = refl;
  no_replies = refl;
  tape = tape_of_keyed S.shape S.keys [] (ap is_some keyed) refl;
}

pub prints_relayed : PrintsRelayed
prints_relayed S keys keyed has =
    record { keys = keys; keyed = keyed; run = prints_keyed S keys keyed has }

pub prints_drawn : PrintsDrawn
prints_drawn S bytes drawn are =
    let has : HasKeys S.keys = subst HasKeys (sym drawn) tt in
    record {
      rest = lines_of (printed_tape bytes);
      script = prints_scripts S has (printed_tape bytes);
      no_second = refl;
      no_history = refl;
      no_replies = refl;
      tape = tape_of_drawn S.shape S.keys (lines_of (printed_tape bytes)) (kept_of S.shape bytes)
          (ap is_some drawn) (bytes, tape_alone bytes (prints_tapes bytes are), refl);
    }
