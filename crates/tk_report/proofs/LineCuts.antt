-- Where a line ends and its fields do.
use Rattle.std.proofs.Common.{◌≡◌, ◌≢◌, refl, ap, sym, ◌∙◌, arith, ℕ, ◌<◌, ◌^◌}
use Rattle.std.proofs.Common.{List, [], ◌∷◌, ◌++◌, decimal, append_assoc}
use Rattle.std.specs.List.{AllByRecursion}
use Rattle.tk_script.specs.Fields.{LacksSpace}
use Rattle.tk_script.specs.Grammar.{fields}
use Rattle.tk_script.specs.Reading.{parts_of}
use Rattle.tk_script.proofs.Offers.{LacksFeed, feed_by_index, each-append, same_first, same_rest, cons_both, all_digits}
use Rattle.tk_script.proofs.Offers.{split_field, one_field}
use Rattle.tk_report.specs.Report.{line}

-- a text without a space or a line feed
pub record IsField (text : List ℕ) : Type 0 where
  pub no_space : LacksSpace text
  pub no_feed : LacksFeed text

pub decimal-field : (n : ℕ) → n < 2 ^ 64 → IsField (decimal n)
decimal-field n small =
    record {
      no_space = λ k within e.
          let digit = all_digits (decimal n) n small refl k within in
          omega (arith, digit.0, e);
      no_feed = feed_by_index (decimal n) (λ k within e.
          let digit = all_digits (decimal n) n small refl k within in
          omega (arith, digit.0, e));
    }

-- ---- lines

pub fields-lack : (fs : List (List ℕ)) → AllByRecursion IsField fs → LacksFeed (fields fs)
fields-lack [] are = tt
fields-lack (f ∷ []) are = are.0.no_feed
fields-lack (f ∷ g ∷ fs) are =
    let space : 0x20 ≢ 0x0A = λ e. omega (arith, e) in
    each-append (λ b. b ≢ 0x0A) f (0x20 ∷ fields (g ∷ fs)) are.0.no_feed
    (space, fields-lack (g ∷ fs) are.1)

-- a text has one first line
pub cut_feed : (a b x y : List ℕ) → LacksFeed a → LacksFeed b → a ++ 0x0A ∷ x ≡ b ++ 0x0A ∷ y →
    (a ≡ b) × (x ≡ y)
cut_feed [] [] x y p q e = (refl, same_rest 0x0A 0x0A x y e)
cut_feed [] (d ∷ b) x y p q e = absurd (q.0 (sym (same_first 0x0A d x (b ++ 0x0A ∷ y) e)))
cut_feed (d ∷ a) [] x y p q e = absurd (p.0 (same_first d 0x0A (a ++ 0x0A ∷ x) y e))
cut_feed (c ∷ a) (d ∷ b) x y p q e =
    let first = same_first c d (a ++ 0x0A ∷ x) (b ++ 0x0A ∷ y) e in
    let rest = cut_feed a b x y p.1 q.1 (same_rest c d (a ++ 0x0A ∷ x) (b ++ 0x0A ∷ y) e) in
    (cons_both c d a b first rest.0, rest.1)

-- ---- fields

pub parts_of-fields : (f : List ℕ) (fs : List (List ℕ)) → IsField f → AllByRecursion IsField fs →
    parts_of (fields (f ∷ fs)) ≡ f ∷ fs
parts_of-fields f [] is are = one_field f is.no_space
parts_of-fields f (g ∷ fs) is are =
    split_field f (fields (g ∷ fs)) is.no_space
    ∙ ap (λ t. f ∷ t) (parts_of-fields g fs are.0 are.1)

-- ---- a text has one first line, and it one list of fields

pub cut_line : (f g : List ℕ) (fs gs : List (List ℕ)) (x y : List ℕ) →
    AllByRecursion IsField (f ∷ fs) → AllByRecursion IsField (g ∷ gs) →
    line (f ∷ fs) ++ x ≡ line (g ∷ gs) ++ y → (f ∷ fs ≡ g ∷ gs) × (x ≡ y)
cut_line f g fs gs x y are others e =
    let cut = cut_feed (fields (f ∷ fs)) (fields (g ∷ gs)) x y (fields-lack (f ∷ fs) are)
    (fields-lack (g ∷ gs) others)
    (sym (append_assoc (fields (f ∷ fs)) (0x0A ∷ []) x) ∙ e
    ∙ append_assoc (fields (g ∷ gs)) (0x0A ∷ []) y)
    in (
      sym (parts_of-fields f fs are.0 are.1) ∙ ap parts_of cut.0
          ∙ parts_of-fields g gs others.0 others.1,
      cut.1,
    )
