-- Words ask for one thing.
use Rattle.std.proofs.Common.{◌≡◌, ◌∙◌, ◌≤◌, ◌⊎◌, refl, ap, sym, subst, inl, inr, ℕ, List, [], ◌∷◌}
use Rattle.std.proofs.Common.{codes, cond, arith, rules}
use Rattle.std.specs.Str.{bytes_eq}
use Rattle.std.proofs.lemmas.Fmt.{decimal_injective}
use Rattle.tk_cli.specs.declared.request.Request.{Request}
use Rattle.tk_cli.specs.declared.request.Request.TheVariants.{Serial, Relay, Resume, Run, View, Mirror, Wrong, Handle, Make, Tally, Lift, Nothing}
use Rattle.tk_cli.specs.Requests.{Words, Asks, AsksNothing, AsksRun, IsCrew, IsNumeral, IsSmall, SpellsRoot}

-- a number is 1 to 64
abbrev IsTo64 : ℕ → Type 0
IsTo64 n = (1 ≤ n) × (n ≤ 64)

one_to_64 : (n : ℕ) → n ≡ 1 → IsTo64 n
one_to_64 n is = (omega (arith, is), omega (arith, is))

-- a run has 1 to 64 workers, and as many shards
pub crew-of : (words : Words) (workers shards : ℕ) → AsksRun words workers shards →
    IsTo64 workers × IsTo64 shards
crew-of [] workers shards asks = absurd asks
crew-of (word ∷ []) workers shards asks =
    (one_to_64 workers asks.1, one_to_64 shards asks.2)
crew-of (word ∷ number ∷ []) workers shards asks = (asks.1.0, one_to_64 shards asks.2)
crew-of (word ∷ number ∷ more ∷ []) workers shards asks = (asks.1.0, asks.2.0)
crew-of (word ∷ number ∷ more ∷ last ∷ words) workers shards asks = absurd asks

-- what asks for nothing asks for nothing else
nothing-alone : (words : Words) (r : Request) → AsksNothing words → Asks words r → Nothing ≡ r
nothing-alone words Serial nothing asks = absurd (nothing (inl asks))
nothing-alone words (Run n m) nothing asks = absurd (nothing (inr (inl (n, m, asks))))
nothing-alone words (View j) nothing asks = absurd (nothing (inr (inr (inl (j, asks)))))
nothing-alone words (Mirror h) nothing asks = absurd (nothing (inr (inr (inr (inl (h, asks))))))
nothing-alone words (Handle id root) nothing asks =
    absurd (nothing (inr (inr (inr (inr (inl (id, root, asks)))))))
nothing-alone words (Make n) nothing asks =
    absurd (nothing (inr (inr (inr (inr (inr (inl (n, asks))))))))
nothing-alone words (Tally n) nothing asks =
    absurd (nothing (inr (inr (inr (inr (inr (inr (inl (n, asks)))))))))
nothing-alone words Lift nothing asks =
    absurd (nothing (inr (inr (inr (inr (inr (inr (inr (inl asks)))))))))
nothing-alone words (Wrong h) nothing asks =
    absurd (nothing (inr (inr (inr (inr (inr (inr (inr (inr (inl (h, asks)))))))))))
nothing-alone words Relay nothing asks =
    absurd (nothing (inr (inr (inr (inr (inr (inr (inr (inr (inr (inl asks)))))))))))
nothing-alone words (Resume e) nothing asks =
    absurd (nothing (inr (inr (inr (inr (inr (inr (inr (inr (inr (inr (e, asks))))))))))))
nothing-alone words Nothing nothing asks = refl

-- ---- numbers

one_long : (m n : ℕ) (text : List ℕ) → IsNumeral m text → IsNumeral n text → m ≡ n
one_long m n text a b = decimal_injective m n a.0 b.0 (sym a.1 ∙ b.1)

crew_long : (n : ℕ) (text : List ℕ) → IsCrew n text → IsNumeral n text
crew_long n text a = (omega (arith, a.0.1), a.1)

small_long : (n : ℕ) (text : List ℕ) → IsSmall n text → IsNumeral n text
small_long n text a = (omega (arith, a.0), a.1)

-- ---- by the count of words

no_words : (q r : Request) → Asks [] q → Asks [] r → q ≡ r
no_words Nothing r a b = nothing-alone [] r a b
no_words Serial r a b = absurd a
no_words Relay r a b = absurd a
no_words (Resume e) r a b = absurd a
no_words (Run n m) r a b = absurd a
no_words (View j) r a b = absurd a
no_words (Mirror h) r a b = absurd a
no_words (Wrong h) r a b = absurd a
no_words (Handle id root) r a b = absurd a
no_words (Make n) r a b = absurd a
no_words (Tally n) r a b = absurd a
no_words Lift r a b = absurd a

-- what a word asks for alone
abbrev by_word : List ℕ → Request
by_word w =
    cond (bytes_eq w (codes "serial")) Serial
    (cond (bytes_eq w (codes "run")) (Run 1 1)
    (cond (bytes_eq w (codes "lift")) Lift (cond (bytes_eq w (codes "relay")) Relay Nothing)))

word_asks : (w : List ℕ) (r : Request) → Asks (w ∷ []) r →
    (r ≡ Nothing) ⊎ (r ≡ by_word w)
word_asks w Nothing a = inl refl
word_asks w Serial a = inr (ap by_word (sym a))
word_asks w Lift a = inr (ap by_word (sym a))
word_asks w Relay a = inr (ap by_word (sym a))
word_asks w (Run n m) a =
    inr (ap (λ k. Run k m) a.1 ∙ ap (Run 1) a.2 ∙ ap by_word (sym a.0))
word_asks w r a = absurd a

-- and before a number
abbrev by_number : List ℕ → ℕ → Request
by_number w n =
    cond (bytes_eq w (codes "run")) (Run n 1)
    (cond (bytes_eq w (codes "view")) (View n)
    (cond (bytes_eq w (codes "mirror")) (Mirror n)
    (cond (bytes_eq w (codes "wrong")) (Wrong n)
    (cond (bytes_eq w (codes "make")) (Make n)
    (cond (bytes_eq w (codes "tally")) (Tally n)
    (cond (bytes_eq w (codes "resume")) (Resume n) Nothing))))))

-- the number of a request of a word and a number
record ByNumber (w text : List ℕ) (r : Request) : Type 0 where
  pub number : ℕ
  pub long : IsNumeral number text
  pub is : r ≡ by_number w number

number_asks : (w text : List ℕ) (r : Request) → Asks (w ∷ text ∷ []) r →
    (r ≡ Nothing) ⊎ ByNumber w text r
number_asks w text Nothing a = inl refl
number_asks w text (Run n m) a = inr (record {
  number = n;
  long = crew_long n text a.1;
  is = ap (Run n) a.2 ∙ ap (λ v. by_number v n) (sym a.0);
})
number_asks w text (Resume n) a = inr (record {
  number = n;
  long = small_long n text a.1;
  is = ap (λ v. by_number v n) (sym a.0);
})
number_asks w text (View n) a = inr (record {
  number = n;
  long = small_long n text a.1;
  is = ap (λ v. by_number v n) (sym a.0);
})
number_asks w text (Mirror n) a = inr (record {
  number = n;
  long = small_long n text a.1;
  is = ap (λ v. by_number v n) (sym a.0);
})
number_asks w text (Wrong n) a = inr (record {
  number = n;
  long = small_long n text a.1;
  is = ap (λ v. by_number v n) (sym a.0);
})
number_asks w text (Make n) a = inr (record {
  number = n;
  long = a.1;
  is = ap (λ v. by_number v n) (sym a.0);
})
number_asks w text (Tally n) a = inr (record {
  number = n;
  long = a.1;
  is = ap (λ v. by_number v n) (sym a.0);
})
number_asks w text r a = absurd a

-- two requests of words, of which each asks for nothing or for what these say
either_way : (words : Words) (q r : Request) (P : Request → Type 0) →
    ((x y : Request) → P x → P y → x ≡ y) → Asks words q → Asks words r →
    (q ≡ Nothing) ⊎ P q → (r ≡ Nothing) ⊎ P r → q ≡ r
either_way words q r P one a b (inl none) y =
    none ∙ nothing-alone words r (subst (Asks words) none a) b
either_way words q r P one a b (inr x) (inl none) =
    sym (nothing-alone words q (subst (Asks words) none b) a) ∙ sym none
either_way words q r P one a b (inr x) (inr y) = one q r x y

one_word : (w : List ℕ) (q r : Request) → Asks (w ∷ []) q → Asks (w ∷ []) r → q ≡ r
one_word w q r a b =
    either_way (w ∷ []) q r (λ x. x ≡ by_word w) (λ x y is same. is ∙ sym same) a b
    (word_asks w q a) (word_asks w r b)

two_words : (w n : List ℕ) (q r : Request) → Asks (w ∷ n ∷ []) q → Asks (w ∷ n ∷ []) r → q ≡ r
two_words w n q r a b =
    either_way (w ∷ n ∷ []) q r (ByNumber w n) (λ x y is same.
    is.is ∙ ap (by_number w) (one_long is.number same.number n is.long same.long)
    ∙ sym same.is) a b (number_asks w n q a) (number_asks w n r b)

one_root : (digits x y : List ℕ) → SpellsRoot digits x → SpellsRoot digits y → x ≡ y
one_root digits x y a b = search (rules, a.1, b.1)

no_handle : (w : List ℕ) → w ≡ codes "run" → w ≡ codes "handle" → ⊥
no_handle w run handle = cc

three_words : (w n d : List ℕ) (q r : Request) →
    Asks (w ∷ n ∷ d ∷ []) q → Asks (w ∷ n ∷ d ∷ []) r → q ≡ r
three_words w n d Nothing r a b = nothing-alone (w ∷ n ∷ d ∷ []) r a b
three_words w n d (Handle i x) (Handle k y) a b =
    ap (λ m. Handle m x) (one_long i k n a.1 b.1)
    ∙ ap (λ z. Handle k z) (one_root d x y a.2 b.2)
three_words w n d (Run i j) (Run k l) a b =
    ap (λ m. Run m j) (one_long i k n (crew_long i n a.1) (crew_long k n b.1))
    ∙ ap (Run k) (one_long j l d (crew_long j d a.2) (crew_long l d b.2))
three_words w n d (Handle i x) (Run k l) a b = absurd (no_handle w b.0 a.0)
three_words w n d (Run i j) (Handle k y) a b = absurd (no_handle w a.0 b.0)
three_words w n d Serial r a b = absurd a
three_words w n d Lift r a b = absurd a
three_words w n d Relay r a b = absurd a
three_words w n d (Resume e) r a b = absurd a
three_words w n d (View j) r a b = absurd a
three_words w n d (Mirror h) r a b = absurd a
three_words w n d (Wrong h) r a b = absurd a
three_words w n d (Make m) r a b = absurd a
three_words w n d (Tally m) r a b = absurd a
three_words w n d q Nothing a b = sym (nothing-alone (w ∷ n ∷ d ∷ []) q b a)
three_words w n d q Serial a b = absurd b
three_words w n d q Lift a b = absurd b
three_words w n d q Relay a b = absurd b
three_words w n d q (Resume e) a b = absurd b
three_words w n d q (View j) a b = absurd b
three_words w n d q (Mirror h) a b = absurd b
three_words w n d q (Wrong h) a b = absurd b
three_words w n d q (Make m) a b = absurd b
three_words w n d q (Tally m) a b = absurd b

more_words : (w n d m : List ℕ) (ws : Words) (q r : Request) →
    Asks (w ∷ n ∷ d ∷ m ∷ ws) q → Asks (w ∷ n ∷ d ∷ m ∷ ws) r → q ≡ r
more_words w n d m ws Nothing r a b = nothing-alone (w ∷ n ∷ d ∷ m ∷ ws) r a b
more_words w n d m ws Serial r a b = absurd a
more_words w n d m ws Lift r a b = absurd a
more_words w n d m ws Relay r a b = absurd a
more_words w n d m ws (Resume e) r a b = absurd a
more_words w n d m ws (Run k l) r a b = absurd a
more_words w n d m ws (View j) r a b = absurd a
more_words w n d m ws (Mirror h) r a b = absurd a
more_words w n d m ws (Wrong h) r a b = absurd a
more_words w n d m ws (Handle id root) r a b = absurd a
more_words w n d m ws (Make k) r a b = absurd a
more_words w n d m ws (Tally k) r a b = absurd a

-- words ask for one thing
pub asks-one : (words : Words) (q r : Request) → Asks words q → Asks words r → q ≡ r
asks-one [] q r a b = no_words q r a b
asks-one (w ∷ []) q r a b = one_word w q r a b
asks-one (w ∷ n ∷ []) q r a b = two_words w n q r a b
asks-one (w ∷ n ∷ d ∷ []) q r a b = three_words w n d q r a b
asks-one (w ∷ n ∷ d ∷ m ∷ ws) q r a b = more_words w n d m ws q r a b
