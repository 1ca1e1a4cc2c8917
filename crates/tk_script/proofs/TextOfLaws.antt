-- What is printed, one line after the other.
use Rattle.std.proofs.Common.{◌≡◌, ℕ, ◌+◌, ◌<◌, List, [], ◌∷◌, ◌++◌, length, map, take, get_or, codes, decimal, Option, Some, refl, ap, sym, ◌∙◌, append_assoc, append-nil}
use Rattle.std.specs.List.{AllByRecursion}
use Rattle.std.proofs.lemmas.List.{take_more, map-append}
use Rattle.tk_handle.specs.declared.handle.Handle.{Handle}
use Rattle.tk_script.specs.declared.script.Script.{Script}
use Rattle.tk_script.specs.declared.role.Role.{Role}
use Rattle.tk_script.specs.declared.say.Say.{Say}
use Rattle.tk_script.specs.declared.keys.Keys.{Keys}
use Rattle.tk_script.specs.Grammar.{Line, fields, format_line, shape_line, kind_line, role_line, say_line}
use Rattle.tk_script.specs.Printing.{text_of, number_fields, handle_line, seed_line, lines_of_keys, lines_of_pieces, printed, printed_tape}
use Rattle.tk_script.proofs.FeedLaws.{each-append}

pub text_of-append : (xs ys : List Line) → text_of (xs ++ ys) ≡ text_of xs ++ text_of ys
text_of-append [] ys = refl
text_of-append (l ∷ ls) ys =
    ap (λ t. l ++ 0x0A ∷ t) (text_of-append ls ys)
    ∙ sym (append_assoc l (0x0A ∷ text_of ls) (text_of ys))

-- more lines after some
pub text_of-behind : (xs ys : List Line) (old : List ℕ) {before new : List ℕ} →
    before ≡ old ++ text_of xs → new ≡ before ++ text_of ys → new ≡ old ++ text_of (xs ++ ys)
text_of-behind xs ys old before_is new_is =
    new_is ∙ ap (λ t. t ++ text_of ys) before_is ∙ append_assoc old (text_of xs) (text_of ys)
    ∙ ap (λ t. old ++ t) (sym (text_of-append xs ys))

-- ---- items, one by one

-- the items up to one more
take_next : {X : Type 0} (xs : List X) (i : ℕ) (x : X) → i < length xs → x ≡ get_or xs i x →
    take (i + 1) xs ≡ take i xs ++ x ∷ []
take_next xs i x within here =
    take_more xs i x within ∙ ap (λ y. take i xs ++ y ∷ []) (sym here)

-- the line of one more item
pub text_of-next : {X : Type 0} (f : X → Line) (xs : List X) (i : ℕ) (x : X) (old : List ℕ)
    {before new : List ℕ} → i < length xs → x ≡ get_or xs i x →
    before ≡ old ++ text_of (map f (take i xs)) → new ≡ before ++ text_of (f x ∷ []) →
    new ≡ old ++ text_of (map f (take (i + 1) xs))
text_of-next f xs i x old within here before_is new_is =
    text_of-behind (map f (take i xs)) (f x ∷ []) old before_is new_is
    ∙ ap (λ ls. old ++ text_of ls) (sym (map-append f (take i xs) (x ∷ [])))
    ∙ ap (λ ys. old ++ text_of (map f ys)) (sym (take_next xs i x within here))

-- what holds of the items so far and of one more
pub all_next : {X : Type 0} (P : X → Type 0) (xs : List X) (i : ℕ) (x : X) → i < length xs →
    x ≡ get_or xs i x → AllByRecursion P (take i xs) → P x → AllByRecursion P (take (i + 1) xs)
all_next P xs i x within at all here =
    rw (take_next xs i x within at) (each-append P (take i xs) (x ∷ []) all (here, tt))

-- ---- a line of numbers

fields_of : (word : List ℕ) (ns : List ℕ) →
    fields (word ∷ map decimal ns) ≡ word ++ number_fields ns
fields_of word [] = sym (append-nil word)
fields_of word (n ∷ ns) = ap (λ t. word ++ 0x20 ∷ t) (fields_of (decimal n) ns)

-- numbers after a word
pub word_numbers : (word ns old : List ℕ) {new : List ℕ} →
    new ≡ (old ++ word) ++ number_fields ns → new ≡ old ++ fields (word ∷ map decimal ns)
word_numbers word ns old new_is =
    new_is ∙ append_assoc old word (number_fields ns)
    ∙ ap (λ t. old ++ t) (sym (fields_of word ns))

pub numbers_text : (word ns old : List ℕ) {to_word to_numbers new : List ℕ} →
    to_word ≡ old ++ word → to_numbers ≡ to_word ++ number_fields ns →
    new ≡ to_numbers ++ 0x0A ∷ [] →
    new ≡ old ++ text_of (fields (word ∷ map decimal ns) ∷ [])
numbers_text word ns old {to_numbers = to_numbers} word_is numbers_is new_is =
    let line = fields (word ∷ map decimal ns) in
    let whole : to_numbers ≡ old ++ line =
    word_numbers word ns old (numbers_is ∙ ap (λ t. t ++ number_fields ns) word_is)
    in
    new_is ∙ ap (λ t. t ++ 0x0A ∷ []) whole ∙ append_assoc old line (0x0A ∷ [])

-- a number, and more of them
pub role_text : (writer : ℕ) (followers seen old : List ℕ)
    {to_word to_writer to_followers new : List ℕ} → seen ≡ followers →
    to_word ≡ old ++ codes "log" → to_writer ≡ to_word ++ 0x20 ∷ decimal writer →
    to_followers ≡ to_writer ++ number_fields seen → new ≡ to_followers ++ 0x0A ∷ [] →
    new ≡ old ++ text_of (fields (codes "log" ∷ decimal writer ∷ map decimal followers) ∷ [])
role_text writer followers seen old {to_word = to_word} {to_followers = to_followers} seen_is
    word_is writer_is followers_is new_is =
    let numbers : to_followers ≡ to_word ++ number_fields (writer ∷ followers) =
    followers_is ∙ ap (λ t. t ++ number_fields seen) writer_is
    ∙ append_assoc to_word (0x20 ∷ decimal writer) (number_fields seen)
    ∙ ap (λ ns. to_word ++ number_fields (writer ∷ ns)) seen_is
    in
    numbers_text (codes "log") (writer ∷ followers) old word_is numbers new_is

-- ---- parts, one after the other

-- the lines of handles, then those of seeds
pub keys_text : (keys : Option Keys) (k : Keys) (handles : List Handle) (seeds : List (List ℕ))
    (old : List ℕ) {before new : List ℕ} → keys ≡ Some k → handles ≡ k.handles → seeds ≡ k.seeds →
    before ≡ old ++ text_of (map handle_line handles) →
    new ≡ before ++ text_of (map seed_line seeds) →
    new ≡ old ++ text_of (lines_of_keys keys)
keys_text keys k handles seeds old is handles_is seeds_is before_is new_is =
    text_of-behind (map handle_line handles) (map seed_line seeds) old before_is new_is
    ∙ ap (λ hs. old ++ text_of (map handle_line hs ++ map seed_line seeds)) handles_is
    ∙ ap (λ ss. old ++ text_of (map handle_line k.handles ++ map seed_line ss)) seeds_is
    ∙ ap (λ o. old ++ text_of (lines_of_keys o)) (sym is)

-- the parts of a script
pub script_text : (S : Script) (roles : List Role) (says : List Say) (old : List ℕ)
    {a b d e f g new : List ℕ} → roles ≡ S.roles → says ≡ S.says →
    a ≡ old ++ text_of (format_line S.shape ∷ []) → b ≡ a ++ text_of (shape_line S.shape ∷ []) →
    d ≡ b ++ text_of (kind_line S.keys ∷ []) → e ≡ d ++ text_of (map role_line roles) →
    f ≡ e ++ text_of (lines_of_keys S.keys) → g ≡ f ++ text_of (map say_line says) →
    new ≡ g ++ text_of (codes "end" ∷ []) → new ≡ old ++ printed S
unfolding printed
script_text S roles says old {d = d} {f = f} roles_is says_is a_is b_is d_is e_is f_is g_is new_is =
    let first = format_line S.shape in
    let shape = shape_line S.shape in
    let kind = kind_line S.keys in
    let logs = map role_line S.roles in
    let keys = lines_of_keys S.keys in
    let texts = map say_line S.says in
    let logs_is = e_is ∙ ap (λ xs. d ++ text_of (map role_line xs)) roles_is in
    let texts_is = g_is ∙ ap (λ xs. f ++ text_of (map say_line xs)) says_is in
    let two = text_of-behind (first ∷ []) (shape ∷ []) old a_is b_is in
    let three = text_of-behind (first ∷ shape ∷ []) (kind ∷ []) old two d_is in
    let four = text_of-behind (first ∷ shape ∷ kind ∷ []) logs old three logs_is in
    let five = text_of-behind (first ∷ shape ∷ kind ∷ logs) keys old four f_is in
    let six = text_of-behind (first ∷ shape ∷ kind ∷ (logs ++ keys)) texts old five texts_is in
    text_of-behind (first ∷ shape ∷ kind ∷ (logs ++ keys ++ texts)) (codes "end" ∷ []) old six
    new_is

-- the parts of a tape
pub tape_text : (bytes old : List ℕ) {a b new : List ℕ} →
    a ≡ old ++ text_of (codes "tape" ∷ []) → b ≡ a ++ text_of (lines_of_pieces bytes) →
    new ≡ b ++ text_of (codes "end" ∷ []) → new ≡ old ++ printed_tape bytes
unfolding printed_tape
tape_text bytes old a_is b_is new_is =
    let first = codes "tape" in
    let two = text_of-behind (first ∷ []) (lines_of_pieces bytes) old a_is b_is in
    text_of-behind (first ∷ lines_of_pieces bytes) (codes "end" ∷ []) old two new_is
