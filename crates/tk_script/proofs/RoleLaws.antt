-- The lines of the logs.
use Rattle.std.proofs.Common.{◌≡◌, ◌∙◌, ℕ, ◌≤◌, List, [], ◌∷◌, codes, true, IsTrue, Option, Some, None, Ok, refl, ap, subst, arith}
use Rattle.std.specs.Prelude.{nat_lt, ◌&&◌}
use Rattle.std.specs.List.{list_all, AllByRecursion}
use Rattle.std.proofs.lemmas.Bool.Decides.{nat_tests}
use Rattle.std.proofs.lemmas.Bool.{and_parts}
use Rattle.tk_shape.specs.declared.shape.Shape.{Shape}
use Rattle.tk_script.specs.declared.cause.Cause.TheVariants as cause
use Rattle.tk_script.specs.declared.role.Role.{Role}
use Rattle.tk_script.specs.Grammar.{Line, role_line, IsNumber}
use Rattle.tk_script.specs.Reading.{Verdict, named, numbers_after, first_from, in_order, read_clients, read_role}
use Rattle.tk_script.specs.SoundScript.{is_ascending, is_role}
use Rattle.tk_script.proofs.CauseLaws.{lacks_by_test, role_sound, role_parts, read_clients-role}
use Rattle.tk_script.proofs.OptionLaws.{ok_if}
use Rattle.tk_script.proofs.PartLaws.{numbers_after-are, numbers_after-some}
use Rattle.tk_script.proofs.RowLaws.{IsLineOf}

abbrev pub IsRoleLine : Shape → Line → Role → Type 0
IsRoleLine shape = IsLineOf role_line (is_role shape)

client_is_word : (clients n : ℕ) → clients ≤ 64 → IsTrue (nat_lt n clients) → IsNumber n
client_is_word clients n few low = grind (arith, nat_tests)

clients_are_words : (clients : ℕ) (ns : List ℕ) → clients ≤ 64 →
    IsTrue (list_all (λ n. nat_lt n clients) ns) → AllByRecursion IsNumber ns
clients_are_words clients [] few all = tt
clients_are_words clients (n ∷ ns) few all =
    let split = and_parts (nat_lt n clients) (list_all (λ k. nat_lt k clients) ns) all in
    (client_is_word clients n few split.0, clients_are_words clients ns few split.1)

-- a role's numbers are words
pub role_words : (shape : Shape) (role : Role) → IsTrue (is_role shape role) →
    AllByRecursion IsNumber (role.writer ∷ role.followers)
role_words shape role sound =
    let few = shape.in_range.clients_high in
    let writer = nat_lt role.writer shape.clients in
    let followers = list_all (λ c. nat_lt c shape.clients) role.followers in
    let first = and_parts (writer && followers) (is_ascending role.followers) sound in
    let second = and_parts writer followers first.0 in (
      client_is_word shape.clients role.writer few second.0,
      clients_are_words shape.clients role.followers few second.1,
    )

-- ---- a line gives its role

abbrev pub ok_role : ℕ → List ℕ → Verdict Role
ok_role writer followers = Ok (record { writer = writer; followers = followers })

pub role_whole : (shape : Shape) (line : Line) (role : Role) → IsRoleLine shape line role →
    read_role (named shape) line ≡ Ok role
role_whole shape line role h =
    let ns = role.writer ∷ role.followers in
    let parts = role_parts shape role ns refl h.1 in
    ap (read_clients (named shape)) (numbers_after-some (codes "log") line ns
    (lacks_by_test (codes "log") refl) (role_words shape role h.1) h.0)
    ∙ read_clients-role (named shape) ns role.writer role.followers refl parts.0 parts.1

order_test : (r role : Role) (o : Option ℕ) → in_order r o ≡ Ok role →
    (o ≡ None) × (is_ascending r.followers ≡ true) × (r ≡ role)
order_test r role (Some k) e = absurd (cc e)
order_test r role None e =
    let test = ok_if (is_ascending r.followers) r role cause.Order e in
    (refl, test.0, test.1)

role_from : (shape : Shape) (line : Line) (role : Role) (o : Option (List ℕ)) →
    numbers_after (codes "log") line ≡ o → read_clients (named shape) o ≡ Ok role →
    IsRoleLine shape line role
role_from shape line role None e said = absurd (cc said)
role_from shape line role (Some []) e said = absurd (cc said)
role_from shape line role (Some (w ∷ fs)) e said =
    let test = order_test (record { writer = w; followers = fs }) role
    (first_from shape.clients (w ∷ fs)) said in
    subst (IsRoleLine shape line) test.2
    ((numbers_after-are (codes "log") line (w ∷ fs) e).0, role_sound shape w fs test.0 test.1)

pub role_is : (shape : Shape) (line : Line) (role : Role) →
    read_role (named shape) line ≡ Ok role → IsRoleLine shape line role
role_is shape line role e = role_from shape line role (numbers_after (codes "log") line) refl e
