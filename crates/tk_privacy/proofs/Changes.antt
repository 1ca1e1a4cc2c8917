-- The change of drawn words and its undoing, cell by cell: each undoes the other.
use Rattle.std.proofs.Common.{◌≡◌, ℕ, zero, suc, ◌≤◌, ◌<◌, List, [], ◌∷◌, length, take, get_or}
use Rattle.std.proofs.Common.{refl, ap, ap₂, ◌∙◌, arith, Option, Some, None, ltb-true, IsTrue}
use Rattle.std.specs.Prelude.{nat_lt, ◌&&◌}
use Rattle.std.specs.List.{list_all}
use Rattle.std.proofs.lemmas.Bool.{and_parts}
use Rattle.tk_shape.specs.declared.shape.Shape.{Shape}
use Rattle.tk_shape.specs.Lengths.{turn_count, cell_len, read_cell_len, tape_len}
use Rattle.tk_script.specs.declared.script.Script.{Script}
use Rattle.tk_script.specs.declared.role.Role.{Role}
use Rattle.tk_script.specs.SoundScript.{is_role, is_ascending}
use Rattle.tk_script.specs.Sent.{Sending, sent, sent_as, writer_of, blank_role}
use Rattle.tk_script.proofs.Offers.{sent-is, sent-found, sent_as-is}
use Rattle.tk_words.specs.Words.{drawn, words_of, write_cell, read_cell, keyed_cell}
use Rattle.tk_words.specs.CellLaws.{length-keyed_cell}
use Rattle.tk_privacy.specs.Privacy.{Pairs, masked_cell, shown_write_cell, shown_keyed_cell}
use Rattle.tk_privacy.specs.Privacy.{hidden_write_cell, hidden_keyed_cell, shown_read_cell}
use Rattle.tk_privacy.specs.Privacy.{read_cell_for, normal_for, regained, with_reads_for, unnormal_for}
use Rattle.tk_privacy.proofs.Tapes.{IsTape, tape_of-IsTape, tape_of-own, same-tape_of}
use Rattle.tk_privacy.proofs.Masks.{length-masked_cell, masked_twice}
use Rattle.tk_privacy.proofs.ReadCells.{length-shown, front-shown, shown-twice}
use Rattle.tk_privacy.proofs.SameWords.{length-write_cell, length-read_cell, words-same}

-- a log's writer is a client
writers-in : (shape : Shape) (roles : List Role) (log : ℕ) →
    IsTrue (list_all (is_role shape) roles) → log < length roles →
    (get_or roles log blank_role).writer < shape.clients
writers-in shape [] log sound low = absurd (omega arith)
writers-in shape (role ∷ roles) zero sound low =
    let split = and_parts (is_role shape role) (list_all (is_role shape) roles) sound in
    let first = and_parts (nat_lt role.writer shape.clients && list_all
    (λ c. nat_lt c shape.clients) role.followers) (is_ascending role.followers) split.0 in
    let second = and_parts (nat_lt role.writer shape.clients)
    (list_all (λ c. nat_lt c shape.clients) role.followers) first.0 in
    ltb-true role.writer shape.clients second.0
writers-in shape (role ∷ roles) (suc log) sound low =
    let split = and_parts (is_role shape role) (list_all (is_role shape) roles) sound in
    writers-in shape roles log split.1 (omega arith)

pub writer-in : (S : Script) (log : ℕ) → log < S.shape.logs → writer_of S log < S.shape.clients
writer-in S log low = writers-in S.shape S.roles log S.sound.roles_sound
    (omega (arith, S.sound.roles_counted))

-- ---- the sizes of the cells

module _ (S : Script) (u : List ℕ) (whole : length u ≡ tape_len S.shape) where
  write_len : (g c : ℕ) → g < turn_count S.shape → c < S.shape.clients →
      length (write_cell S.shape u g c) ≡ cell_len S.shape
  write_len g c turn client = length-write_cell S.shape u g c whole turn client

  read_len : (g c : ℕ) → g < turn_count S.shape → c < S.shape.clients →
      length (read_cell S.shape u g c) ≡ read_cell_len S.shape
  read_len g c turn client = length-read_cell S.shape u g c whole turn client

  keyed_len : (log s : ℕ) → log < S.shape.logs → s < turn_count S.shape →
      length (keyed_cell S.shape u log s) ≡ cell_len S.shape
  keyed_len log s low less = length-keyed_cell S.shape u log s whole low less

  -- the keyed cell of what is sent
  pub sent_len : (g c : ℕ) (y : Sending) → sent S g c ≡ Some y →
      length (keyed_cell S.shape u y.log y.number) ≡ cell_len S.shape
  sent_len g c y e = let is = sent-is S g c y e in keyed_len y.log y.number is.log_in is.number_in

  -- the write cell of the turn in which a number is sent
  turn_len : (log s : ℕ) (y : Sending) → log < S.shape.logs → sent_as S log s ≡ Some y →
      length (write_cell S.shape u y.turn (writer_of S log)) ≡ cell_len S.shape
  turn_len log s y low e = let is =
      sent-is S y.turn (writer_of S log) y (sent_as-is S log s y e).sends in
      write_len y.turn (writer_of S log) is.turn_in (writer-in S log low)

  shown_write_len : (g c : ℕ) (o : Option Sending) → sent S g c ≡ o → g < turn_count S.shape →
      c < S.shape.clients →
      length (shown_write_cell S.shape u g c o) ≡ cell_len S.shape
  shown_write_len g c None e turn client = write_len g c turn client
  shown_write_len g c (Some y) e turn client =
      length-masked_cell S.shape y.text (keyed_cell S.shape u y.log y.number) (sent_len g c y e)

  shown_keyed_len : (log s : ℕ) (o : Option Sending) → sent_as S log s ≡ o → log < S.shape.logs →
      s < turn_count S.shape →
      length (shown_keyed_cell S.shape u (writer_of S log) log s o) ≡ cell_len S.shape
  shown_keyed_len log s None e low less = keyed_len log s low less
  shown_keyed_len log s (Some y) e low less = turn_len log s y low e

  hidden_write_len : (g c : ℕ) (o : Option Sending) → sent S g c ≡ o → g < turn_count S.shape →
      c < S.shape.clients →
      length (hidden_write_cell S.shape u g c o) ≡ cell_len S.shape
  hidden_write_len g c None e turn client = write_len g c turn client
  hidden_write_len g c (Some y) e turn client = sent_len g c y e

  hidden_keyed_len : (log s : ℕ) (o : Option Sending) → sent_as S log s ≡ o → log < S.shape.logs →
      s < turn_count S.shape →
      length (hidden_keyed_cell S.shape u (writer_of S log) log s o) ≡ cell_len S.shape
  hidden_keyed_len log s None e low less = keyed_len log s low less
  hidden_keyed_len log s (Some y) e low less =
      length-masked_cell S.shape y.text (write_cell S.shape u y.turn (writer_of S log))
      (turn_len log s y low e)

  changed_len : (h : ℕ) (pairs : Pairs) (g c : ℕ) → g < turn_count S.shape →
      c < S.shape.clients →
      length (read_cell_for S.shape h pairs u g c) ≡ read_cell_len S.shape
  changed_len h pairs g c turn client =
      length-shown S.shape (read_cell S.shape u g c) (read_len g c turn client) h (pairs g c)

  -- ---- the tapes

  pub normal-IsTape : (h : ℕ) (pairs : Pairs) →
      IsTape S.shape (λ g c. shown_write_cell S.shape u g c (sent S g c))
      (read_cell_for S.shape h pairs u)
      (λ log s. shown_keyed_cell S.shape u (writer_of S log) log s (sent_as S log s))
      (normal_for S h pairs u)
  unfolding normal_for
  normal-IsTape h pairs =
      tape_of-IsTape S.shape (λ g c. shown_write_cell S.shape u g c (sent S g c))
      (read_cell_for S.shape h pairs u)
      (λ log s. shown_keyed_cell S.shape u (writer_of S log) log s (sent_as S log s))
      (record {
        write_sized = λ g turn c client. shown_write_len g c (sent S g c) refl turn client;
        read_sized = λ g turn c client. changed_len h pairs g c turn client;
        keyed_sized = λ log low s less. shown_keyed_len log s (sent_as S log s) refl low less;
      })

  pub regained-IsTape :
      IsTape S.shape (λ g c. hidden_write_cell S.shape u g c (sent S g c)) (read_cell S.shape u)
      (λ log s. hidden_keyed_cell S.shape u (writer_of S log) log s (sent_as S log s))
      (regained S u)
  unfolding regained
  regained-IsTape =
      tape_of-IsTape S.shape (λ g c. hidden_write_cell S.shape u g c (sent S g c))
      (read_cell S.shape u)
      (λ log s. hidden_keyed_cell S.shape u (writer_of S log) log s (sent_as S log s))
      (record {
        write_sized = λ g turn c client. hidden_write_len g c (sent S g c) refl turn client;
        read_sized = λ g turn c client. read_len g c turn client;
        keyed_sized = λ log low s less. hidden_keyed_len log s (sent_as S log s) refl low less;
      })

-- the tape with the reads of another changed
abbrev pub IsUndone : Script → ℕ → Pairs → List ℕ → List ℕ → Type 0
IsUndone S h pairs r w = IsTape S.shape (write_cell S.shape r) (read_cell_for S.shape h pairs r)
    (keyed_cell S.shape r) w

unnormal-IsTape : (S : Script) (h : ℕ) (pairs : Pairs) (v : List ℕ) →
    length v ≡ tape_len S.shape →
    IsUndone S h pairs (regained S v) (unnormal_for S h pairs v)
unfolding with_reads_for
unnormal-IsTape S h pairs v whole =
    let r : List ℕ = regained S v in
    let kept : length r ≡ tape_len S.shape = (regained-IsTape S v whole).whole in
    tape_of-IsTape S.shape (write_cell S.shape r) (read_cell_for S.shape h pairs r)
    (keyed_cell S.shape r)
    (record {
      write_sized = λ g turn c client. write_len S r kept g c turn client;
      read_sized = λ g turn c client. changed_len S r kept h pairs g c turn client;
      keyed_sized = λ log low s less. keyed_len S r kept log s low less;
    })

-- ---- undone after the change

module _ (S : Script) (h : ℕ) (low : 1 ≤ h) (pairs : Pairs) (u : List ℕ)
    (whole : length u ≡ tape_len S.shape) where
  v : List ℕ
  v = normal_for S h pairs u

  tv : IsTape S.shape (λ g c. shown_write_cell S.shape u g c (sent S g c))
      (read_cell_for S.shape h pairs u)
      (λ log s. shown_keyed_cell S.shape u (writer_of S log) log s (sent_as S log s)) v
  unfolding v
  tv = normal-IsTape S u whole h pairs

  r : List ℕ
  r = regained S v

  tr : IsTape S.shape (λ g c. hidden_write_cell S.shape v g c (sent S g c)) (read_cell S.shape v)
      (λ log s. hidden_keyed_cell S.shape v (writer_of S log) log s (sent_as S log s)) r
  unfolding r
  tr = regained-IsTape S v tv.whole

  write_back : (g c : ℕ) (o : Option Sending) → sent S g c ≡ o → g < turn_count S.shape →
      c < S.shape.clients →
      hidden_write_cell S.shape v g c o ≡ write_cell S.shape u g c
  write_back g c None e turn client = tv.writes g c turn client
      ∙ ap (shown_write_cell S.shape u g c) e
  write_back g c (Some y) e turn client =
      let is = sent-is S g c y e in
      tv.keyeds y.log y.number is.log_in is.number_in
      ∙ ap (shown_keyed_cell S.shape u (writer_of S y.log) y.log y.number) (sent-found S g c y e)
      ∙ ap₂ (write_cell S.shape u) is.turn is.writer

  keyed_back : (log s : ℕ) (o : Option Sending) → sent_as S log s ≡ o → log < S.shape.logs →
      s < turn_count S.shape →
      hidden_keyed_cell S.shape v (writer_of S log) log s o ≡ keyed_cell S.shape u log s
  keyed_back log s None e in_logs less = tv.keyeds log s in_logs less
      ∙ ap (shown_keyed_cell S.shape u (writer_of S log) log s) e
  keyed_back log s (Some y) e in_logs less =
      let found = sent_as-is S log s y e in
      let is = sent-is S y.turn (writer_of S log) y found.sends in
      ap (masked_cell S.shape y.text)
      (tv.writes y.turn (writer_of S log) is.turn_in (writer-in S log in_logs)
      ∙ ap (shown_write_cell S.shape u y.turn (writer_of S log)) found.sends)
      ∙ masked_twice S.shape y.text (keyed_cell S.shape u y.log y.number)
      (keyed_len S u whole y.log y.number is.log_in is.number_in)
      ∙ ap₂ (keyed_cell S.shape u) found.of_log found.of_number

  writes_back : (g c : ℕ) → g < turn_count S.shape → c < S.shape.clients → write_cell S.shape r g c
      ≡ write_cell S.shape u g c
  writes_back g c turn client = tr.writes g c turn client
      ∙ write_back g c (sent S g c) refl turn client

  keyeds_back : (log s : ℕ) → log < S.shape.logs → s < turn_count S.shape →
      keyed_cell S.shape r log s ≡ keyed_cell S.shape u log s
  keyeds_back log s in_logs less = tr.keyeds log s in_logs less
      ∙ keyed_back log s (sent_as S log s) refl in_logs less

  reads_kept : (g c : ℕ) → g < turn_count S.shape → c < S.shape.clients → read_cell S.shape r g c
      ≡ read_cell_for S.shape h pairs u g c
  reads_kept g c turn client = tr.reads g c turn client ∙ tv.reads g c turn client

  fronts_kept : (g c : ℕ) → g < turn_count S.shape → c < S.shape.clients →
      take 8 (read_cell S.shape r g c) ≡ take 8 (read_cell S.shape u g c)
  fronts_kept g c turn client =
      ap (take 8) (reads_kept g c turn client)
      ∙ front-shown S.shape (read_cell S.shape u g c) (read_len S u whole g c turn client) h
      (pairs g c)

  words_back : words_of S.shape (drawn r) ≡ words_of S.shape (drawn u)
  words_back = words-same S.shape r u tr.whole whole writes_back fronts_kept keyeds_back

  reads_back : (g c : ℕ) → g < turn_count S.shape → c < S.shape.clients →
      read_cell_for S.shape h pairs r g c ≡ read_cell S.shape u g c
  reads_back g c turn client =
      ap (shown_read_cell S.shape h (pairs g c)) (reads_kept g c turn client)
      ∙ shown-twice S.shape (read_cell S.shape u g c) (read_len S u whole g c turn client) h
      (pairs g c) low

  -- what is regained has the words that were drawn
  pub words-regained : words_of S.shape (drawn (regained S (normal_for S h pairs u)))
      ≡ words_of S.shape (drawn u)
  unfolding v r
  words-regained = words_back

  -- and its read cells, changed again, are those that were drawn
  pub reads-regained : (g c : ℕ) → g < turn_count S.shape → c < S.shape.clients →
      read_cell_for S.shape h pairs (regained S (normal_for S h pairs u)) g c
      ≡ read_cell S.shape u g c
  unfolding v r
  reads-regained = reads_back

  pub unnormal-normal : unnormal_for S h pairs (normal_for S h pairs u) ≡ u
  unfolding with_reads_for v r
  unnormal-normal =
      same-tape_of S.shape (write_cell S.shape r) (read_cell_for S.shape h pairs r)
      (keyed_cell S.shape r)
      (write_cell S.shape u) (read_cell S.shape u) (keyed_cell S.shape u) writes_back reads_back
      keyeds_back
      ∙ tape_of-own S.shape u whole

-- ---- changed after the undoing

module _ (S : Script) (h : ℕ) (low : 1 ≤ h) (pairs : Pairs) (z : List ℕ)
    (whole : length z ≡ tape_len S.shape) where
  q : List ℕ
  q = regained S z

  tq : IsTape S.shape (λ g c. hidden_write_cell S.shape z g c (sent S g c)) (read_cell S.shape z)
      (λ log s. hidden_keyed_cell S.shape z (writer_of S log) log s (sent_as S log s)) q
  unfolding q
  tq = regained-IsTape S z whole

  w : List ℕ
  w = unnormal_for S h pairs z

  tw : IsUndone S h pairs q w
  unfolding w q
  tw = unnormal-IsTape S h pairs z whole

  fronts_same : (g c : ℕ) → g < turn_count S.shape → c < S.shape.clients →
      take 8 (read_cell S.shape w g c) ≡ take 8 (read_cell S.shape q g c)
  fronts_same g c turn client =
      ap (take 8) (tw.reads g c turn client)
      ∙ front-shown S.shape (read_cell S.shape q g c) (read_len S q tq.whole g c turn client) h
      (pairs g c)

  words_kept : words_of S.shape (drawn w) ≡ words_of S.shape (drawn q)
  words_kept = words-same S.shape w q tw.whole tq.whole tw.writes fronts_same tw.keyeds

  write_again : (g c : ℕ) (o : Option Sending) → sent S g c ≡ o → g < turn_count S.shape →
      c < S.shape.clients →
      shown_write_cell S.shape w g c o ≡ write_cell S.shape z g c
  write_again g c None e turn client =
      tw.writes g c turn client ∙ tq.writes g c turn client ∙ ap (hidden_write_cell S.shape z g c) e
  write_again g c (Some y) e turn client =
      let is = sent-is S g c y e in
      ap (masked_cell S.shape y.text)
      (tw.keyeds y.log y.number is.log_in is.number_in
      ∙ tq.keyeds y.log y.number is.log_in is.number_in
      ∙ ap (hidden_keyed_cell S.shape z (writer_of S y.log) y.log y.number) (sent-found S g c y e)
      ∙ ap (masked_cell S.shape y.text) (ap₂ (write_cell S.shape z) is.turn is.writer))
      ∙ masked_twice S.shape y.text (write_cell S.shape z g c) (write_len S z whole g c turn client)

  keyed_again : (log s : ℕ) (o : Option Sending) → sent_as S log s ≡ o → log < S.shape.logs →
      s < turn_count S.shape →
      shown_keyed_cell S.shape w (writer_of S log) log s o ≡ keyed_cell S.shape z log s
  keyed_again log s None e in_logs less =
      tw.keyeds log s in_logs less ∙ tq.keyeds log s in_logs less
      ∙ ap (hidden_keyed_cell S.shape z (writer_of S log) log s) e
  keyed_again log s (Some y) e in_logs less =
      let found = sent_as-is S log s y e in
      let is = sent-is S y.turn (writer_of S log) y found.sends in
      let writer : writer_of S log < S.shape.clients = writer-in S log in_logs in
      tw.writes y.turn (writer_of S log) is.turn_in writer
      ∙ tq.writes y.turn (writer_of S log) is.turn_in writer
      ∙ ap (hidden_write_cell S.shape z y.turn (writer_of S log)) found.sends
      ∙ ap₂ (keyed_cell S.shape z) found.of_log found.of_number

  reads_again : (g c : ℕ) → g < turn_count S.shape → c < S.shape.clients →
      read_cell_for S.shape h pairs w g c ≡ read_cell S.shape z g c
  reads_again g c turn client =
      ap (shown_read_cell S.shape h (pairs g c)) (tw.reads g c turn client)
      ∙ shown-twice S.shape (read_cell S.shape q g c) (read_len S q tq.whole g c turn client) h
      (pairs g c) low
      ∙ tq.reads g c turn client

  -- the tape has the words that were regained
  pub words-undone : words_of S.shape (drawn (unnormal_for S h pairs z))
      ≡ words_of S.shape (drawn (regained S z))
  unfolding w q
  words-undone = words_kept

  -- and the read cells that were regained, changed
  pub reads-undone : (g c : ℕ) → g < turn_count S.shape → c < S.shape.clients →
      read_cell S.shape (unnormal_for S h pairs z) g c
      ≡ read_cell_for S.shape h pairs (regained S z) g c
  unfolding w q
  reads-undone = tw.reads

  pub length-unnormal : length (unnormal_for S h pairs z) ≡ tape_len S.shape
  unfolding w
  length-unnormal = tw.whole

  pub normal-unnormal : normal_for S h pairs (unnormal_for S h pairs z) ≡ z
  unfolding normal_for w
  normal-unnormal =
      same-tape_of S.shape (λ g c. shown_write_cell S.shape w g c (sent S g c))
      (read_cell_for S.shape h pairs w)
      (λ log s. shown_keyed_cell S.shape w (writer_of S log) log s (sent_as S log s))
      (write_cell S.shape z) (read_cell S.shape z) (keyed_cell S.shape z)
      (λ g c turn client. write_again g c (sent S g c) refl turn client) reads_again
      (λ log s in_logs less. keyed_again log s (sent_as S log s) refl in_logs less)
      ∙ tape_of-own S.shape z whole

-- ---- only the buckets of the run matter

abbrev SameIn : Shape → Pairs → Pairs → Type 0
SameIn shape pairs pairs' =
    (g c : ℕ) → g < turn_count shape → c < shape.clients → pairs g c ≡ pairs' g c

pub same-normal_for : (S : Script) (h : ℕ) (pairs pairs' : Pairs) (u : List ℕ) →
    SameIn S.shape pairs pairs' → normal_for S h pairs u ≡ normal_for S h pairs' u
unfolding normal_for
same-normal_for S h pairs pairs' u same =
    let write : ℕ → ℕ → List ℕ = λ g c. shown_write_cell S.shape u g c (sent S g c) in
    let keyed : ℕ → ℕ → List ℕ =
    λ log s. shown_keyed_cell S.shape u (writer_of S log) log s (sent_as S log s) in
    same-tape_of S.shape write (read_cell_for S.shape h pairs u) keyed write
    (read_cell_for S.shape h pairs' u) keyed (λ g c turn client. refl)
    (λ g c turn client. ap (λ (pair : ℕ × ℕ). shown_read_cell S.shape h pair
    (read_cell S.shape u g c)) (same g c turn client))
    (λ log s low less. refl)

pub same-unnormal_for : (S : Script) (h : ℕ) (pairs pairs' : Pairs) (v : List ℕ) →
    SameIn S.shape pairs pairs' → unnormal_for S h pairs v ≡ unnormal_for S h pairs' v
unfolding with_reads_for
same-unnormal_for S h pairs pairs' v same =
    let r : List ℕ = regained S v in
    same-tape_of S.shape (write_cell S.shape r) (read_cell_for S.shape h pairs r)
    (keyed_cell S.shape r) (write_cell S.shape r) (read_cell_for S.shape h pairs' r)
    (keyed_cell S.shape r) (λ g c turn client. refl)
    (λ g c turn client. ap (λ (pair : ℕ × ℕ). shown_read_cell S.shape h pair
    (read_cell S.shape r g c)) (same g c turn client))
    (λ log s low less. refl)
