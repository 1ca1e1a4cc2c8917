-- The lines of the keys.
use Rattle.std.proofs.Common.{◌≡◌, ◌<◌, ◌^◌, ℕ, List, [], ◌∷◌, ◌++◌, length, take, drop, get_or, map, codes, Option, Some, None, Ok, refl, ap, sym, subst, ◌∙◌, arith, IsTrue}
use Rattle.std.specs.Prelude.{IsSome, IfSome, ◌==◌}
use Rattle.std.specs.Int.{w64, to_be_bytes, from_be_bytes}
use Rattle.std.specs.List.{AllZip, AllByRecursion}
use Rattle.std.proofs.lemmas.Bool.{and_parts, eqb-true}
use Rattle.std.proofs.lemmas.List.{length-append, length-drop, length-take-le, take-append-drop}
use Rattle.std.proofs.lemmas.Nat.{be_bytes_8, from_be_bytes-to_be_bytes_8}
use Rattle.hex.specs.Hex.{IsBytes}
use Rattle.hex.proofs.HexLemmas.{decode_of-ok}
use Rattle.tk_shape.specs.declared.shape.Shape.{Shape}
use Rattle.tk_handle.specs.declared.handle.Handle.{Handle}
use Rattle.tk_handle.specs.Handle.{handle_bytes}
use Rattle.tk_script.specs.declared.keys.Keys.{Keys}
use Rattle.tk_script.specs.Grammar.{Line, SpellsBytes, SpellsKeys, IsHandle, IsSeed, worded}
use Rattle.tk_script.specs.Reading.{seen_as, handle_in, read_bytes, read_handle, read_seed}
use Rattle.tk_script.specs.SoundScript.{has_keys}
use Rattle.tk_script.proofs.CauseLaws.{lacks_by_test}
use Rattle.tk_script.proofs.HexLaws.{read_bytes-taken, read_bytes-is}
use Rattle.tk_script.proofs.KeyLines.{IsHandleLine, IsSeedLine}
use Rattle.tk_script.proofs.ListLaws.{cons_both}
use Rattle.tk_script.proofs.OptionLaws.{seen_from}
use Rattle.tk_script.proofs.PiecesLaws.{IsBytes-take}
use Rattle.tk_script.proofs.ScriptLaws.{from_end}

-- ---- one handle

pub handle_long : (h : Handle) → IsHandle h → length (handle_bytes h) ≡ 104
handle_long h s =
    let id : length (to_be_bytes w64 h.id) ≡ 8 = refl in
    omega (
      arith,
      id,
      s.seed1,
      s.seed2,
      s.key,
      length-append (to_be_bytes w64 h.id) h.seed1,
      length-append (to_be_bytes w64 h.id ++ h.seed1) h.seed2,
      length-append (to_be_bytes w64 h.id ++ h.seed1 ++ h.seed2) h.key,
    )

append_same : (a b x y : List ℕ) → length a ≡ length b → a ++ x ≡ b ++ y → (a ≡ b) × (x ≡ y)
append_same [] [] x y long e = (refl, e)
append_same [] (c ∷ b) x y long e = absurd (omega (arith, long))
append_same (c ∷ a) [] x y long e = absurd (omega (arith, long))
append_same (c ∷ a) (d ∷ b) x y long e =
    let rest = append_same a b x y (omega (arith, long)) (cc e) in
    (cons_both c d a b (cc e) rest.0, rest.1)

same_handle : (g h : Handle) → g.id ≡ h.id → g.seed1 ≡ h.seed1 → g.seed2 ≡ h.seed2 → g.key ≡ h.key →
    g ≡ h
same_handle g h a b c d = λ i. record { id = a i; seed1 = b i; seed2 = c i; key = d i }

pub one_handle : (g h : Handle) → IsHandle g → IsHandle h → handle_bytes g ≡ handle_bytes h → g ≡ h
one_handle g h p q e =
    let id = append_same (to_be_bytes w64 g.id) (to_be_bytes w64 h.id)
    (g.seed1 ++ (g.seed2 ++ g.key)) (h.seed1 ++ (h.seed2 ++ h.key)) refl
    (sym (from_end (to_be_bytes w64 g.id) g.seed1 g.seed2 g.key) ∙ e
    ∙ from_end (to_be_bytes w64 h.id) h.seed1 h.seed2 h.key)
    in
    let seed1 = append_same g.seed1 h.seed1 (g.seed2 ++ g.key) (h.seed2 ++ h.key) (p.seed1
    ∙ sym q.seed1) id.1 in
    let seed2 = append_same g.seed2 h.seed2 g.key h.key (p.seed2 ∙ sym q.seed2) seed1.1 in
    let number = sym (from_be_bytes-to_be_bytes_8 g.id p.id) ∙ ap (from_be_bytes w64) id.0
    ∙ from_be_bytes-to_be_bytes_8 h.id q.id in
    same_handle g h number seed1.0 seed2.0 seed2.1

-- the parts of 104 bytes are those of their handle
parts_joined : (bytes : List ℕ) →
    take 8 bytes ++ (take 32 (drop 8 bytes) ++ (take 32 (drop 32 (drop 8 bytes))
    ++ drop 32 (drop 32 (drop 8 bytes)))) ≡ bytes
parts_joined bytes =
    ap (λ t. take 8 bytes ++ (take 32 (drop 8 bytes) ++ t))
    (take-append-drop 32 (drop 32 (drop 8 bytes)))
    ∙ ap (λ t. take 8 bytes ++ t) (take-append-drop 32 (drop 8 bytes))
    ∙ take-append-drop 8 bytes

pub handle_in-bytes : (bytes : List ℕ) → length bytes ≡ 104 → IsBytes bytes →
    handle_bytes (handle_in bytes) ≡ bytes
handle_in-bytes bytes long are =
    let id = be_bytes_8 (take 8 bytes) (from_be_bytes w64 (take 8 bytes))
    (length-take-le 8 bytes (omega (arith, long))) (IsBytes-take 8 bytes are) refl in
    let h = handle_in bytes in
    from_end (to_be_bytes w64 h.id) h.seed1 h.seed2 h.key
    ∙ ap (λ t. t ++ (h.seed1 ++ (h.seed2 ++ h.key))) id
    ∙ parts_joined bytes

id_small : (bs : List ℕ) → ((i : ℕ) → get_or bs i 0 < 256) → from_be_bytes w64 bs < 2 ^ 64
id_small bs small =
    omega (
      arith,
      small 0,
      small 1,
      small 2,
      small 3,
      small 4,
      small 5,
      small 6,
      small 7,
    )

pub handle_in-is : (bytes : List ℕ) → length bytes ≡ 104 → IsBytes bytes →
    IsHandle (handle_in bytes)
handle_in-is bytes long are =
    let first = length-drop 8 bytes in
    let second = length-drop 32 (drop 8 bytes) in
    let third = length-drop 32 (drop 32 (drop 8 bytes)) in
    record {
      id = id_small (take 8 bytes) (IsBytes-take 8 bytes are);
      seed1 = length-take-le 32 (drop 8 bytes) (omega (arith, first, long));
      seed2 = length-take-le 32 (drop 32 (drop 8 bytes)) (omega (arith, second, first, long));
      key = omega (arith, third, second, first, long);
    }

-- the handle of its own bytes
pub handle_in-own : (h : Handle) → IsHandle h → IsBytes (handle_bytes h) →
    handle_in (handle_bytes h) ≡ h
handle_in-own h is are =
    let long = handle_long h is in
    one_handle (handle_in (handle_bytes h)) h (handle_in-is (handle_bytes h) long are) is
    (handle_in-bytes (handle_bytes h) long are)

-- the handle of 104 bytes is the one that has them
pub the_handle : (o : Option Handle) (bytes : List ℕ) → IsSome o → IfSome o IsHandle →
    IfSome o (λ g. handle_bytes g ≡ bytes) → IsBytes bytes → o ≡ Some (handle_in bytes)
the_handle None bytes some is has are = absurd (cc some)
the_handle (Some g) bytes some is has are =
    ap Some (sym (handle_in-own g is (subst IsBytes (sym has) are)) ∙ ap handle_in has)

-- ---- a line gives its handle, or its seed

pub handle_whole : (line : Line) (h : Handle) → IsHandleLine line h → read_handle line ≡ Ok h
handle_whole line h spelled =
    let bytes = handle_bytes h in
    let are = (decode_of-ok spelled.0.0 bytes spelled.0.2).3 in
    ap (seen_as handle_in) (read_bytes-taken (codes "handle") line spelled.0.0 bytes 104
    (lacks_by_test (codes "handle") refl) spelled.0.1 spelled.0.2 (handle_long h spelled.1))
    ∙ ap Ok (handle_in-own h spelled.1 are)

pub handle_is : (line : Line) (h : Handle) → read_handle line ≡ Ok h → IsHandleLine line h
handle_is line h e =
    let seen = seen_from handle_in (read_bytes (codes "handle") 104 line) h e in
    let t = read_bytes-is (codes "handle") line 104 seen.0 seen.1 in
    let are = (decode_of-ok t.digits seen.0 t.decoded).3 in
    subst (IsHandleLine line) seen.2 (
      (t.digits, t.spelled, t.decoded ∙ ap Ok (sym (handle_in-bytes seen.0 t.counted are))),
      handle_in-is seen.0 t.counted are,
    )

pub seed_whole : (line : Line) (seed : List ℕ) → IsSeedLine line seed → read_seed line ≡ Ok seed
seed_whole line seed spelled =
    read_bytes-taken (codes "seed") line spelled.0.0 seed 32 (lacks_by_test (codes "seed") refl)
    spelled.0.1 spelled.0.2 spelled.1

pub seed_is : (line : Line) (seed : List ℕ) → read_seed line ≡ Ok seed → IsSeedLine line seed
seed_is line seed e =
    let t = read_bytes-is (codes "seed") line 32 seed e in
    ((t.digits, t.spelled, t.decoded), t.counted)

-- ---- all of them

zip-append : {A B : Type 0} (R : A → B → Type 0) (a b : List A) (x y : List B) → AllZip R a x →
    AllZip R b y → AllZip R (a ++ b) (x ++ y)
zip-append R [] b [] y p q = q
zip-append R [] b (x ∷ xs) y p q = absurd p
zip-append R (a ∷ more) b [] y p q = absurd p
zip-append R (a ∷ more) b (x ∷ xs) y p q = (p.0, zip-append R more b xs y p.1 q)

handles_worded : (lines : List Line) (hs : List Handle) → AllZip IsHandleLine lines hs →
    AllZip SpellsBytes lines (worded (codes "handle") (map handle_bytes hs))
handles_worded [] [] each = tt
handles_worded [] (h ∷ hs) each = absurd each
handles_worded (l ∷ lines) [] each = absurd each
handles_worded (l ∷ lines) (h ∷ hs) each = (each.0.0, handles_worded lines hs each.1)

are_handles : (lines : List Line) (hs : List Handle) → AllZip IsHandleLine lines hs →
    AllByRecursion IsHandle hs
are_handles [] [] each = tt
are_handles [] (h ∷ hs) each = absurd each
are_handles (l ∷ lines) [] each = absurd each
are_handles (l ∷ lines) (h ∷ hs) each = (each.0.1, are_handles lines hs each.1)

handle_lines : (lines : List Line) (hs : List Handle) →
    AllZip SpellsBytes lines (worded (codes "handle") (map handle_bytes hs)) →
    AllByRecursion IsHandle hs → AllZip IsHandleLine lines hs
handle_lines [] [] each are = tt
handle_lines [] (h ∷ hs) each are = absurd each
handle_lines (l ∷ lines) [] each are = absurd each
handle_lines (l ∷ lines) (h ∷ hs) each are =
    ((each.0, are.0), handle_lines lines hs each.1 are.1)

seeds_worded : (lines : List Line) (seeds : List (List ℕ)) → AllZip IsSeedLine lines seeds →
    AllZip SpellsBytes lines (worded (codes "seed") seeds)
seeds_worded [] [] each = tt
seeds_worded [] (s ∷ seeds) each = absurd each
seeds_worded (l ∷ lines) [] each = absurd each
seeds_worded (l ∷ lines) (s ∷ seeds) each = (each.0.0, seeds_worded lines seeds each.1)

are_seeds : (lines : List Line) (seeds : List (List ℕ)) → AllZip IsSeedLine lines seeds →
    AllByRecursion IsSeed seeds
are_seeds [] [] each = tt
are_seeds [] (s ∷ seeds) each = absurd each
are_seeds (l ∷ lines) [] each = absurd each
are_seeds (l ∷ lines) (s ∷ seeds) each = (each.0.1, are_seeds lines seeds each.1)

seed_lines : (lines : List Line) (seeds : List (List ℕ)) →
    AllZip SpellsBytes lines (worded (codes "seed") seeds) → AllByRecursion IsSeed seeds →
    AllZip IsSeedLine lines seeds
seed_lines [] [] each are = tt
seed_lines [] (s ∷ seeds) each are = absurd each
seed_lines (l ∷ lines) [] each are = absurd each
seed_lines (l ∷ lines) (s ∷ seeds) each are =
    ((each.0, are.0), seed_lines lines seeds each.1 are.1)

-- the lines of handles, and of seeds after them, spell keys
pub keys_spelled : (first second : List Line) (keys : Keys) →
    AllZip IsHandleLine first keys.handles → AllZip IsSeedLine second keys.seeds →
    SpellsKeys (first ++ second) (Some keys)
keys_spelled first second keys handles seeds = (
  zip-append SpellsBytes first second (worded (codes "handle") (map handle_bytes keys.handles))
      (worded (codes "seed") keys.seeds)
      (handles_worded first keys.handles handles)
      (seeds_worded second keys.seeds seeds),
  are_handles first keys.handles handles,
  are_seeds second keys.seeds seeds,
)

-- the lines of two kinds of items
pub record Split (lines : List Line) (xs ys : List (List ℕ × List ℕ)) : Type 0 where
  pub first : List Line
  pub second : List Line
  pub whole : lines ≡ first ++ second
  pub firsts : AllZip SpellsBytes first xs
  pub seconds : AllZip SpellsBytes second ys

pub split_lines : (lines : List Line) (xs ys : List (List ℕ × List ℕ)) →
    AllZip SpellsBytes lines (xs ++ ys) → Split lines xs ys
split_lines lines [] ys each = record {
  first = [];
  second = lines;
  whole = refl;
  firsts =
      tt;
  seconds = each;
}
split_lines [] (x ∷ xs) ys each = absurd each
split_lines (l ∷ lines) (x ∷ xs) ys each =
    let rest = split_lines lines xs ys each.1 in
    record {
      first = l ∷ rest.first;
      second = rest.second;
      whole = ap (λ ls. l ∷ ls) rest.whole;
      firsts = (each.0, rest.firsts);
      seconds = rest.seconds;
    }

pub keys_counted : (shape : Shape) (k : Keys) → IsTrue (has_keys shape (Some k)) →
    (length k.handles ≡ shape.logs) × (length k.seeds ≡ shape.clients)
keys_counted shape k e =
    let both = and_parts (length k.handles == shape.logs) (length k.seeds == shape.clients) e in
    (eqb-true (length k.handles) shape.logs both.0, eqb-true (length k.seeds) shape.clients both.1)

-- the handles and the seeds of keys, with their lines
pub record TheKeys (shape : Shape) (keys : Keys) (lines : List Line) : Type 0 where
  pub first : List Line
  pub second : List Line
  pub whole : lines ≡ first ++ second
  pub handles : AllZip IsHandleLine first keys.handles
  pub seeds : AllZip IsSeedLine second keys.seeds
  pub handles_counted : length keys.handles ≡ shape.logs
  pub seeds_counted : length keys.seeds ≡ shape.clients

pub the_keys : (shape : Shape) (keys : Keys) (lines : List Line) → SpellsKeys lines (Some keys) →
    IsTrue (has_keys shape (Some keys)) → TheKeys shape keys lines
the_keys shape keys lines spelled counted =
    let split = split_lines lines (worded (codes "handle") (map handle_bytes keys.handles))
    (worded (codes "seed") keys.seeds) spelled.0 in
    let count = keys_counted shape keys counted in
    record {
      first = split.first;
      second = split.second;
      whole = split.whole;
      handles = handle_lines split.first keys.handles split.firsts spelled.1;
      seeds = seed_lines split.second keys.seeds split.seconds spelled.2;
      handles_counted = count.0;
      seeds_counted = count.1;
    }
