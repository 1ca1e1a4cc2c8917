-- What servers hold that begin anew before a turn.
use Rattle.std.proofs.Common.{◌≡◌, refl, ap, sym, subst, ◌∙◌, arith, inl, inr, ℕ, ◌+◌, ◌-◌, ◌<◌, ◌≤◌}
use Rattle.std.proofs.Common.{List, [], ◌++◌, length, drop, Bool, cond, le-leb, append_assoc, append-nil}
use Rattle.std.proofs.lemmas.Bool.{cases_lt, lt-leb}
use Rattle.std.proofs.lemmas.List.{drop_at}
use Rattle.tk_schedule.specs.declared.history.History.{History}
use Rattle.tk_script.specs.declared.script.Script.{Script}
use Rattle.tk_words.specs.Words.{WordBook, words_of}
use Rattle.tk_frames.specs.declared.entry.Placed.{Placed}
use Rattle.tk_report.specs.Anew.{held_anew}
use Rattle.tk_report.specs.Clients.{AreClients}
use Rattle.tk_report.specs.Serving.{Serving}
use Rattle.tk_report.specs.Entries.{write_at, entries_at, entries_before}
use Rattle.tk_report.specs.Turns.{placed_before}
use Rattle.tk_report.proofs.Offers.{more-entries, turn-done}
use Rattle.tk_run.specs.Keeping.{begun_anew, held_now}
use Rattle.tk_run.specs.Servers.{AreServers, alike, nothing_seen, with_more}
use Rattle.tk_run.specs.declared.run.Run.{Run}
use Rattle.tk_run.specs.declared.servers.Servers.{Servers}
use Rattle.tk_run.specs.Under.{ServesAs, IsRunUnder, client_under}

-- what is behind the front of a list that begins with it
drop-front : (E F all : List Placed) → all ≡ E ++ F → drop (length E) all ≡ F
drop-front E F all is = ap (drop (length E)) is ∙ drop_at E F (length E) refl

module _ (S : Script) (b : WordBook) (H : History) (due : ℕ) (given : ℕ → List Placed) where
  abbrev all : ℕ → List Placed
  all g = placed_before S (words_of S.shape b) H g

  abbrev holds : ℕ → ℕ → List Placed
  holds g = held_now S (words_of S.shape b) H due given g

  abbrev more : ℕ → List Placed
  more g = entries_at (write_at S (words_of S.shape b)) H g

  abbrev behind : ℕ → List Placed
  behind g = drop (length (all due)) (all g)

  abbrev either : Bool → ℕ → List Placed → List Placed
  either test j xs = cond test (given j ++ drop (length (all due)) xs) xs

  pub held-since : (g j : ℕ) → due ≤ g → holds g j ≡ given j ++ behind g
  held-since g j low = ap (λ (p : Bool). either p j (all g)) (le-leb due g low)

  pub held-before : (g j : ℕ) → g < due → holds g j ≡ all g
  held-before g j later = ap (λ (p : Bool). either p j (all g)) (lt-leb due g later)

  -- when it is due each holds what it was given
  pub held-due : (j : ℕ) → holds due j ≡ given j
  held-due j =
      held-since due j (omega arith)
      ∙ ap (λ (xs : List Placed). given j ++ xs)
      (drop-front (all due) [] (all due) (sym (append-nil (all due))))
      ∙ append-nil (given j)

  -- the entries since it was due, and those of one turn more
  behind-next : (g : ℕ) → due ≤ g → behind g ++ more g ≡ behind (g + 1)
  behind-next g low =
      let past = more-entries S (words_of S.shape b) H due (g - due) in
      let there : g - due + due ≡ g = omega (arith, low) in
      let now : all g ≡ all due ++ past.0 = sym (ap all there) ∙ past.1 in
      let next : all (g + 1) ≡ all due ++ (past.0 ++ more g) =
      sym (turn-done S (words_of S.shape b) H g)
      ∙ ap (λ (xs : List Placed). xs ++ more g) now ∙ append_assoc (all due) past.0 (more g)
      in
      ap (λ (xs : List Placed). xs ++ more g) (drop-front (all due) past.0 (all g) now)
      ∙ sym (drop-front (all due) (past.0 ++ more g) (all (g + 1)) next)

  -- with the entries of a turn each holds what its replies in the turn are over
  pub held-more : (g j : ℕ) →
      with_more (holds g) (more g) j ≡ held_anew S (words_of S.shape b) H due given j g
  held-more g j =
      elim (cases_lt g due) [
        | inl later ↦
            ap (λ (xs : List Placed). xs ++ more g) (held-before g j later)
            ∙ turn-done S (words_of S.shape b) H g
            ∙ sym (ap (λ (p : Bool). either p j (all (g + 1))) (lt-leb due g later))
        | inr earlier ↦
            ap (λ (xs : List Placed). xs ++ more g) (held-since g j (omega (arith, earlier)))
            ∙ append_assoc (given j) (behind g) (more g)
            ∙ ap (λ (xs : List Placed). given j ++ xs) (behind-next g (omega (arith, earlier)))
            ∙ sym (ap (λ (p : Bool). either p j (all (g + 1))) (le-leb due g (omega (arith, earlier))))
      ]

  -- those it holds before the next turn, if that isn't due
  pub held-next : (g j : ℕ) → (due ≡ g + 1 → ⊥) → with_more (holds g) (more g) j ≡ holds (g + 1) j
  held-next g j isnt =
      held-more g j
      ∙ elim (cases_lt g due) [
        | inl later ↦
            let after : g + 1 < due = later-still g later isnt in
            ap (λ (p : Bool). either p j (all (g + 1))) (lt-leb due g later)
            ∙ sym (held-before (g + 1) j after)
        | inr earlier ↦
            ap (λ (p : Bool). either p j (all (g + 1))) (le-leb due g (omega (arith, earlier)))
            ∙ sym (held-since (g + 1) j (omega (arith, earlier)))
      ]
    where
      later-still : (g : ℕ) → g < due → (due ≡ g + 1 → ⊥) → g + 1 < due
      later-still g later isnt =
          elim (cases_lt (g + 1) due) [
            | inl after ↦ after
            | inr here ↦ absurd (isnt (omega (arith, later, here)))
          ]

  -- and if it is, all have had the same so far
  pub held-last : (g j : ℕ) → due ≡ g + 1 → with_more (holds g) (more g) j ≡ alike (all (g + 1)) j
  held-last g j is =
      held-more g j
      ∙ ap (λ (p : Bool). either p j (all (g + 1))) (lt-leb due g (omega (arith, is)))

  -- in each turn they tell and reply so
  pub serves-anew : (g : ℕ) → ServesAs S b H (begun_anew S b H due given) g (with_more (holds g) (more g))
  serves-anew g =
      subst (ServesAs S b H (begun_anew S b H due given) g)
      (λ i j. sym (held-more g j) i)
      (record { shows = λ c low. refl; reply = λ c j r low. refl })

  -- ---- the run

  abbrev under : Serving
  under = begun_anew S b H due given

  -- before the first turn nothing is held
  pub run-first : (run : Run) → 0 < due →
      AreClients S.shape.clients (client_under S b H under 0) run.group.clients.items →
      AreServers S.shape (alike []) nothing_seen run.servers.list.items →
      IsRunUnder S b H under 0 (holds 0) nothing_seen run
  unfolding entries_before
  run-first run later clients servers =
      record {
        clients = clients;
        servers =
            subst (λ (Es : ℕ → List Placed). AreServers S.shape Es nothing_seen run.servers.list.items)
            (λ i j. sym (held-before 0 j later) i) servers;
      }

  -- and where a turn is due what was given
  pub run-due : (g : ℕ) (run : Run) → due ≡ g →
      AreClients S.shape.clients (client_under S b H under g) run.group.clients.items →
      AreServers S.shape given nothing_seen run.servers.list.items →
      IsRunUnder S b H under g (holds g) nothing_seen run
  run-due g run is clients servers =
      record {
        clients = clients;
        servers =
            subst (λ (Es : ℕ → List Placed). AreServers S.shape Es nothing_seen run.servers.list.items)
            (λ i j. sym (ap (λ (n : ℕ). holds n j) (sym is) ∙ held-due j) i) servers;
      }

  -- after a turn behind which none is due
  pub run-next : (g : ℕ) (run : Run) → (due ≡ g + 1 → ⊥) →
      IsRunUnder S b H under (g + 1) (with_more (holds g) (more g)) nothing_seen run →
      IsRunUnder S b H under (g + 1) (holds (g + 1)) nothing_seen run
  run-next g run isnt is =
      subst (λ (Es : ℕ → List Placed). IsRunUnder S b H under (g + 1) Es nothing_seen run)
      (λ i j. held-next g j isnt i) is

  -- where one is due all have had the same
  pub run-last : (g : ℕ) (run : Run) → due ≡ g + 1 →
      IsRunUnder S b H under (g + 1) (with_more (holds g) (more g)) nothing_seen run →
      AreServers S.shape (alike (all (g + 1))) nothing_seen run.servers.list.items
  run-last g run due_is is =
      subst (λ (Es : ℕ → List Placed). AreServers S.shape Es nothing_seen run.servers.list.items)
      (λ i j. held-last g j due_is i) is.servers

-- a run with the same servers
pub run-with : (S : Script) (b : WordBook) (H : History) (V : Serving) (g : ℕ)
    (Es : ℕ → List Placed) (run : Run) (servers : Servers) → run.servers ≡ servers →
    IsRunUnder S b H V g Es nothing_seen run →
    IsRunUnder S b H V g Es nothing_seen (record run { servers = servers })
run-with S b H V g Es run servers same is =
    record {
      clients = is.clients;
      servers = subst (λ (s : Servers). AreServers S.shape Es nothing_seen s.list.items) same is.servers;
    }

-- who was given the entries so far holds all
pub held-own : (S : Script) (b : WordBook) (H : History) (due g j : ℕ) →
    held_now S (words_of S.shape b) H due (λ i. placed_before S (words_of S.shape b) H due) g j
    ≡ placed_before S (words_of S.shape b) H g
held-own S b H due g j =
    let own = λ (i : ℕ). placed_before S (words_of S.shape b) H due in
    let all = placed_before S (words_of S.shape b) H in
    elim (cases_lt g due) [
      | inl later ↦ held-before S b H due own g j later
      | inr earlier ↦
          let past = more-entries S (words_of S.shape b) H due (g - due) in
          let there : g - due + due ≡ g = omega (arith, earlier) in
          let now : all g ≡ all due ++ past.0 = sym (ap all there) ∙ past.1 in
          held-since S b H due own g j (omega (arith, earlier))
          ∙ ap (λ (xs : List Placed). all due ++ xs) (drop-front (all due) past.0 (all g) now) ∙ sym now
    ]
