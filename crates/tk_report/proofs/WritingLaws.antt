-- Which clients of a turn have written, and what each of them is then.
use Rattle.std.proofs.Common.{◌≡◌, ◌≢◌, ◌∙◌, refl, ap, sym, subst, arith, inl, inr, eq-eqb, ne_eqb}
use Rattle.std.proofs.Common.{true, false, Bool, ◌||◌, cond}
use Rattle.std.proofs.Common.{ℕ, zero, suc, ◌+◌, ◌<◌, ◌≤◌, List, [], ◌∷◌, length, take, get_or, set, count_by, IsTrue}
use Rattle.std.proofs.Common.{length-set, get_or-set_same, get_or-set_other, add-one}
use Rattle.std.specs.Prelude.{slice_index_or}
use Rattle.std.specs.List.{list_all}
use Rattle.std.specs.Option.{ForSome}
use Rattle.std.proofs.lemmas.Bool.{cases_eq}
use Rattle.std.proofs.lemmas.Bool.Decides.{nat_tests}
use Rattle.std.proofs.lemmas.List.{take_all}
use Rattle.std.proofs.lemmas.List.Folds.{list_any_more}
use Rattle.std.proofs.lemmas.List.Sums.{sum_by-cons}
use Rattle.tk_schedule.specs.declared.item.Item.{Item}
use Rattle.tk_schedule.specs.declared.item.Item.TheVariants.{Client, Publish}
use Rattle.tk_schedule.specs.Schedule.{is_of, is_within}
use Rattle.tk_script.specs.declared.script.Script.{Script}
use Rattle.tk_words.specs.Words.{BookWords}
use Rattle.tk_shape.specs.Lengths.{turn_count}
use Rattle.tk_client.specs.Reader.{Reader}
use Rattle.tk_client.specs.Client.{ClientState}
use Rattle.tk_client.specs.Writing.{first_waiting, after_write}
use Rattle.tk_client.specs.Writes.{write_of}
use Rattle.tk_report.specs.Clients.{AreClients, idle, client_told, client_knowing, client_after, has_written}
use Rattle.tk_report.specs.Entries.{write_at}
use Rattle.tk_report.specs.Queues.{writing_before}
use Rattle.tk_frames.specs.declared.write_frame.WriteFrame.{WriteFrame}
use Rattle.tk_frames.specs.declared.entry.Entry.TheVariants.{Write, Mark}
use Rattle.tk_report.specs.Turns.{entry_due}
use Rattle.tk_report.proofs.ListTests.{list_all-at}
use Rattle.tk_report.proofs.QueueLaws.{queues-send}

-- ---- lists of items

one_of : (c : ℕ) (x : Item) (xs : List Item) →
    count_by (is_of c) (x ∷ xs) ≡ cond (is_of c x) 1 0 + count_by (is_of c) xs
one_of c x xs = sum_by-cons (λ y. cond (is_of c y) 1 0) x xs

none_left : (c : ℕ) (xs : List Item) → count_by (is_of c) xs ≡ 0 → has_written xs c ≡ false
none_left c [] none = refl
none_left c (x ∷ xs) none =
    elim (is_of c x) as (λ b. cond b 1 0 + count_by (is_of c) xs ≡ 0 → (b || has_written xs c)
    ≡ false)
    [ true ↦ λ n. absurd (omega (arith, n)) | false ↦ λ n. none_left c xs (omega (arith, n)) ]
    (sym (one_of c x xs) ∙ none)

-- before its one write a client has none
pub not_written : (c : ℕ) (items : List Item) (i : ℕ) (d : Item) → count_by (is_of c) items ≡ 1 →
    i < length items → is_of c (get_or items i d) ≡ true → has_written (take i items) c ≡ false
not_written c [] i d one within here = absurd (omega (arith, within))
not_written c (x ∷ xs) zero d one within here = refl
not_written c (x ∷ xs) (suc i) d one within here =
    elim (is_of c x) as (λ b. cond b 1 0 + count_by (is_of c) xs ≡ 1 →
    (b || has_written (take i xs) c) ≡ false) [
      | true ↦ λ n. absurd (some_left xs i (omega (arith, within)) here (omega (arith, n)))
      | false ↦ λ n. not_written c xs i d (omega (arith, n)) (omega (arith, within)) here
    ]
    (sym (one_of c x xs) ∙ one)
  where
    some_left : (ys : List Item) (k : ℕ) → k < length ys → is_of c (get_or ys k d) ≡ true →
        count_by (is_of c) ys ≡ 0 → ⊥
    some_left [] k within here none = omega (arith, within)
    some_left (y ∷ ys) zero within here none =
        let counted = one_of c y ys in
        let one : cond {A = ℕ} (is_of c y) 1 0 ≡ 1 = ap (λ b. cond b 1 0) here in
        omega (arith, counted, one, none)
    some_left (y ∷ ys) (suc k) within here none =
        let counted = one_of c y ys in
        some_left ys k (omega (arith, within)) here (omega (arith, counted, none))

-- when all items are done it has
pub written_once : (c : ℕ) (items : List Item) → count_by (is_of c) items ≡ 1 →
    has_written items c ≡ true
written_once c [] one = absurd (omega (arith, one))
written_once c (x ∷ xs) one =
    elim (is_of c x) as (λ b. cond b 1 0 + count_by (is_of c) xs ≡ 1 → (b || has_written xs c)
    ≡ true)
    [ true ↦ λ n. refl | false ↦ λ n. written_once c xs (omega (arith, n)) ]
    (sym (one_of c x xs) ∙ one)

-- ---- clients in a turn

module _ (S : Script) (knows : ℕ → Reader) (g : ℕ) where
  -- before any item each has only been told its texts
  pub after-none : (clients : List ClientState) →
      AreClients S.shape.clients (client_told S knows g) clients →
      AreClients S.shape.clients (client_after S knows g []) clients
  after-none clients are = record { counted = are.counted; each = are.each }

  -- a client whose write is next has only been told its texts
  pub after-next : (items : List Item) (i c : ℕ) (d : Item) (clients : List ClientState)
      (e : ClientState) → count_by (is_of c) items ≡ 1 → i < length items →
      get_or items i d ≡ Client c → c < length clients →
      AreClients S.shape.clients (client_after S knows g (take i items)) clients →
      slice_index_or clients c e ≡ client_told S knows g c
  after-next items i c d clients e one within here low are =
      let of : is_of c (get_or items i d) ≡ true = ap (is_of c) here ∙ eq-eqb c c refl in
      are.each c e low
      ∙ ap (λ b. cond b (client_knowing S knows (g + 1) c) (client_told S knows g c))
      (not_written c items i d one within of)

  -- and when it has written the next item is done
  pub after-write : (items : List Item) (i c : ℕ) (d : Item) (clients : List ClientState)
      (new : ClientState) → i < length items → get_or items i d ≡ Client c → c < length clients →
      new ≡ client_knowing S knows (g + 1) c →
      AreClients S.shape.clients (client_after S knows g (take i items)) clients →
      AreClients S.shape.clients (client_after S knows g (take (i + 1) items)) (set clients c new)
  after-write items i c d clients new within here low is are =
      record {
        counted = length-set clients c new ∙ are.counted;
        each = λ k e inside. elim (cases_eq k c) [
          | inl same ↦
              let at : slice_index_or (set clients c new) k e ≡ new =
              ap (λ n. slice_index_or (set clients c new) n e) same
              ∙ get_or-set_same clients c new e low
              in
              at ∙ is ∙ ap (client_knowing S knows (g + 1)) (sym same)
              ∙ ap (λ b. cond b (client_knowing S knows (g + 1) k) (client_told S knows g k))
              (sym (done k same))
          | inr other ↦
              get_or-set_other clients c k new e other
              ∙ are.each k e (omega (arith, inside, length-set clients c new))
              ∙ ap (λ b. cond b (client_knowing S knows (g + 1) k) (client_told S knows g k))
              (sym (kept k other))
        ];
      }
    where
      at_item : (k : ℕ) → has_written (take (i + 1) items) k
          ≡ (has_written (take i items) k || is_of k (Client c))
      at_item k =
          list_any_more (is_of k) items i d within
          ∙ ap (λ x. has_written (take i items) k || is_of k x) here

      or_true : (b : Bool) → (b || true) ≡ true
      or_true true = refl
      or_true false = refl

      or_false : (b : Bool) → (b || false) ≡ b
      or_false true = refl
      or_false false = refl

      done : (k : ℕ) → k ≡ c → has_written (take (i + 1) items) k ≡ true
      done k same =
          at_item k ∙ ap (λ b. has_written (take i items) k || b) (eq-eqb k c same)
          ∙ or_true (has_written (take i items) k)

      kept : (k : ℕ) → k ≢ c →
          has_written (take (i + 1) items) k ≡ has_written (take i items) k
      kept k other =
          at_item k ∙ ap (λ b. has_written (take i items) k || b) (ne_eqb k c other)
          ∙ or_false (has_written (take i items) k)

  -- a mark changes no client
  pub after-mark : (items : List Item) (i : ℕ) (d : Item) (clients : List ClientState) →
      i < length items → get_or items i d ≡ Publish →
      AreClients S.shape.clients (client_after S knows g (take i items)) clients →
      AreClients S.shape.clients (client_after S knows g (take (i + 1) items)) clients
  after-mark items i d clients within here are =
      record {
        counted = are.counted;
        each = λ k e inside.
            are.each k e inside
            ∙ ap (λ b. cond b (client_knowing S knows (g + 1) k) (client_told S knows g k))
            (sym (same k));
      }
    where
      or_false : (b : Bool) → (b || false) ≡ b
      or_false true = refl
      or_false false = refl

      same : (k : ℕ) → has_written (take (i + 1) items) k ≡ has_written (take i items) k
      same k =
          list_any_more (is_of k) items i d within
          ∙ ap (λ x. has_written (take i items) k || is_of k x) here
          ∙ or_false (has_written (take i items) k)

  -- at the end of the turn's order each has written
  pub after-all : (items : List Item) (i : ℕ) (clients : List ClientState) → length items ≤ i →
      ((c : ℕ) → c < S.shape.clients → count_by (is_of c) items ≡ 1) →
      AreClients S.shape.clients (client_after S knows g (take i items)) clients →
      AreClients S.shape.clients (client_knowing S knows (g + 1)) clients
  after-all items i clients past once are =
      record {
        counted = are.counted;
        each = λ k e inside.
            are.each k e inside
            ∙ ap (λ b. cond b (client_knowing S knows (g + 1) k) (client_told S knows g k))
            (ap (λ (xs : List Item). has_written xs k) (take_all i items past)
            ∙ written_once k items (once k (omega (arith, inside, are.counted))));
      }

  -- so after each item
  pub after-item : (items : List Item) (i : ℕ) (x : Item) (clients new : List ClientState) →
      i < length items → x ≡ get_or items i x → IsTrue (is_within S.shape.clients x) →
      ((c : ℕ) → x ≡ Client c → new ≡ set clients c (client_knowing S knows (g + 1) c)) →
      (x ≡ Publish → new ≡ clients) →
      AreClients S.shape.clients (client_after S knows g (take i items)) clients →
      AreClients S.shape.clients (client_after S knows g (take (i + 1) items)) new
  after-item items i (Client c) clients new within here low wrote marked are =
      let inside : c < length clients = grind (arith, nat_tests, low, are.counted) in
      subst (AreClients S.shape.clients (client_after S knows g (take (i + 1) items)))
      (sym (wrote c refl))
      (after-write items i c (Client c) clients (client_knowing S knows (g + 1) c) within
      (sym here) inside refl are)
  after-item items i Publish clients new within here low wrote marked are =
      subst (AreClients S.shape.clients (client_after S knows g (take (i + 1) items)))
      (sym (marked refl))
      (after-mark items i Publish clients within (sym here) are)

-- ---- the write of a client

module _ (S : Script) (knows : ℕ → Reader) (g c : ℕ) (client : ClientState)
    (said : client ≡ client_told S knows g c) where
  pub said-shape : client.shape ≡ S.shape
  unfolding client_told
  said-shape = ap (λ (s : ClientState). s.shape) said

  -- what waits first has a number of the run
  pub said-number : g < turn_count S.shape →
      ForSome (first_waiting client.writing) (λ y. y.number < turn_count S.shape)
  unfolding client_told
  said-number turn_in =
      subst (λ (s : ClientState).
      ForSome (first_waiting s.writing) (λ y. y.number < turn_count S.shape))
      (sym said) (queues-send.in_range S c g turn_in)

  -- what is written is what is sent in the turn
  pub said-write : (w : BookWords) → g < turn_count S.shape →
      write_of w g client.number (first_waiting client.writing) ≡ write_at S w g c
  unfolding client_told write_at
  said-write w turn_in =
      ap (λ (s : ClientState). write_of w g s.number (first_waiting s.writing)) said
      ∙ ap (write_of w g c) (queues-send.sends S c g turn_in)

  -- and then the client has written
  pub said-then : record client { writing = after_write client.writing }
      ≡ client_knowing S knows (g + 1) c
  unfolding client_told client_knowing writing_before
  said-then =
      ap (λ (s : ClientState). record s { writing = after_write s.writing }) said
      ∙ ap (λ n. idle S.shape c (writing_before S c n) (knows c)) (sym (add-one g))

pub same_writer : (a b : ℕ) (x : Item) → x ≡ Client a → x ≡ Client b → b ≡ a
same_writer a b x is also = named (sym also ∙ is)
  where
    named : Client b ≡ Client a → b ≡ a
    named e = cc e

-- an item of a list that is within has a client that is
pub client-below : (n : ℕ) (items : List Item) (i k : ℕ) → i < length items →
    get_or items i (Client 0) ≡ Client k → IsTrue (list_all (is_within n) items) → k < n
client-below n items i k within here all =
    below (subst (λ (x : Item). IsTrue (is_within n x)) here
    (list_all-at (is_within n) items i (Client 0) within all))
  where
    below : IsTrue (is_within n (Client k)) → k < n
    below low = grind (arith, nat_tests, low)

-- a client's write is the entry of its item
pub write-due : (write : ℕ → WriteFrame) (e : ℕ) (x : Item) (c : ℕ) (frame : WriteFrame) →
    x ≡ Client c → frame ≡ write c → Write frame ≡ entry_due write e x
write-due write e x c frame is same =
    ap (λ (w : WriteFrame). Write w) same ∙ ap (entry_due write e) (sym is)

-- and the mark of this number that of the publisher's
pub mark-due : (write : ℕ → WriteFrame) (e n : ℕ) (x : Item) → x ≡ Publish → n ≡ e →
    Mark n ≡ entry_due write e x
mark-due write e n x is same = ap (λ (k : ℕ). Mark k) same ∙ ap (entry_due write e) (sym is)
