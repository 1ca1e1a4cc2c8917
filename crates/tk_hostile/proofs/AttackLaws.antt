-- The laws of privacy, whatever an adversary does that has all servers but one.
use Rattle.std.proofs.Common.{◌≡◌, ℕ, ◌≤◌, ◌<◌, Bool, true, cond, List, length, ap, sym, ◌∙◌, subst, Some, None}
use Rattle.std.specs.Prelude.{nat_lt, ◌&&◌}
use Rattle.std.proofs.lemmas.Bool.{and_parts, ltb-true}
use Rattle.tk_shape.specs.declared.shape.Shape.{Shape}
use Rattle.tk_shape.specs.Lengths.{turn_count, tape_len}
use Rattle.tk_script.specs.declared.script.Script.{Script}
use Rattle.tk_script.specs.Sent.{sent_as, writer_of}
use Rattle.tk_words.specs.Words.{BookWords, drawn, words_of, keyed_cell, cell_pair, cell_hits, cell_pad, cell_tag}
use Rattle.tk_words.specs.Words.{pair_of, hits_of, pad_of, tag_of}
use Rattle.tk_client.specs.Asked.{frame_for}
use Rattle.tk_privacy.specs.Privacy.{Pairs, normal_for, regained, unnormal_for, hidden_keyed_cell}
use Rattle.tk_privacy.proofs.Offers as privacy
use Rattle.tk_hostile.specs.Attack.{Adversary, KeyWords, Keys, Seen, keys_of, attacked, under_attack}
use Rattle.tk_hostile.specs.Wrong.{read_regained}
use Rattle.tk_hostile.specs.Attack.{attack_regained, attack_normal, attack_unnormal, attack_mirror, seen_by}
use Rattle.tk_hostile.specs.Laws.{AreAttacked, SameSeen, OneToOneAttacked, ChosenAlike}
use Rattle.tk_hostile.proofs.Regained.{read-back, read-again}
use Rattle.tk_hostile.proofs.Attacks.{cond-same, pairs-same}
use Rattle.tk_hostile.proofs.Sighted.{shown, seen-is}

-- ---- what is regained from a changed tape

module _ (S : Script) (h : ℕ) (low : 1 ≤ h) (adversary : Adversary) (n : ℕ) where
  module _ (u : List ℕ) (whole : length u ≡ tape_len S.shape) where
    pairs : Pairs
    pairs = (under_attack S (drawn u) h adversary n).pairs

    r : List ℕ
    r = regained S (normal_for S h pairs u)

    frames-back : (g c e j : ℕ) → g < turn_count S.shape → c < S.shape.clients →
        frame_for S.shape (drawn u) g c e
        ((under_attack S (drawn u) h adversary n).pairs g c) j
        ≡ read_regained S.shape h r g c e
        ((under_attack S (drawn u) h adversary n).pairs g c) j
    unfolding pairs r
    frames-back = read-back S h low (under_attack S (drawn u) h adversary n).pairs u whole

    pairs-back : (attack_regained S h adversary n r).pairs ≡ pairs
    unfolding pairs r
    pairs-back =
        ap (λ (w : BookWords). (attacked S w h adversary (read_regained S.shape h r) n).pairs)
        (privacy.words-regained S h low pairs u whole)
        ∙ sym (pairs-same S (words_of S.shape (drawn u)) h adversary (frame_for S.shape (drawn u))
        (read_regained S.shape h r) n frames-back)

    pub unnormal-normal : attack_unnormal S h adversary n (attack_normal S h adversary n u) ≡ u
    unfolding attack_unnormal attack_normal pairs r
    unnormal-normal =
        ap (λ (p : Pairs). unnormal_for S h p (normal_for S h pairs u)) pairs-back
        ∙ privacy.unnormal-normal S h low pairs u whole

  -- ---- over a tape whose change is undone

  module _ (z : List ℕ) (whole : length z ≡ tape_len S.shape) where
    found : Pairs
    found = (attack_regained S h adversary n (regained S z)).pairs

    undone : List ℕ
    undone = unnormal_for S h found z

    frames-again : (g c e j : ℕ) → g < turn_count S.shape → c < S.shape.clients →
        read_regained S.shape h (regained S z) g c e
        ((attack_regained S h adversary n (regained S z)).pairs g c) j
        ≡ frame_for S.shape (drawn undone) g c e
        ((attack_regained S h adversary n (regained S z)).pairs g c) j
    unfolding found undone
    frames-again =
        read-again S h low (attack_regained S h adversary n (regained S z)).pairs z whole

    pairs-again : (under_attack S (drawn undone) h adversary n).pairs ≡ found
    unfolding found undone
    pairs-again =
        ap (λ (w : BookWords). (attacked S w h adversary (frame_for S.shape (drawn undone)) n).pairs)
        (privacy.words-undone S h low found z whole)
        ∙ sym (pairs-same S (words_of S.shape (drawn (regained S z))) h adversary
        (read_regained S.shape h (regained S z)) (frame_for S.shape (drawn undone)) n
        frames-again)

    pub normal-unnormal : attack_normal S h adversary n (attack_unnormal S h adversary n z) ≡ z
    unfolding attack_unnormal attack_normal found undone
    normal-unnormal =
        ap (λ (p : Pairs). normal_for S h p undone) pairs-again
        ∙ privacy.normal-unnormal S h low found z whole

    pub length-unnormal : length (attack_unnormal S h adversary n z) ≡ tape_len S.shape
    unfolding attack_unnormal
    length-unnormal =
        privacy.length-unnormal S h low (attack_regained S h adversary n (regained S z)).pairs z whole

pub length-normal : (S : Script) (h : ℕ) (adversary : Adversary) (n : ℕ) (u : List ℕ) →
    length u ≡ tape_len S.shape → length (attack_normal S h adversary n u) ≡ tape_len S.shape
unfolding attack_normal
length-normal S h adversary n u whole =
    (privacy.normal-IsTape S u whole h (under_attack S (drawn u) h adversary n).pairs).whole

-- ---- keys of logs on which two scripts send the same

-- what a keyed cell gives
abbrev in_cell : Shape → List ℕ → KeyWords
in_cell shape cell =
    record {
      pair = cell_pair shape cell;
      hits = cell_hits shape cell;
      pad = cell_pad shape cell;
      tag = λ masked. cell_tag shape cell;
    }

-- in a tape whose writes are regained it is the cell that was hidden
abbrev regained_cell : Script → List ℕ → ℕ → ℕ → List ℕ
regained_cell S v log s =
    hidden_keyed_cell S.shape v (writer_of S log) log s (sent_as S log s)

abbrev regained_keys : Script → (ℕ → Bool) → List ℕ → Keys
regained_keys S holds v log s =
    cond (holds log && (nat_lt log S.shape.logs && nat_lt s (turn_count S.shape)))
    (Some (in_cell S.shape (regained_cell S v log s))) None

record IsHeld (shape : Shape) (holds : ℕ → Bool) (log s : ℕ) : Type 0 where
  held : holds log ≡ true
  log_in : log < shape.logs
  number_in : s < turn_count shape

held-from : (shape : Shape) (holds : ℕ → Bool) (log s : ℕ) →
    (holds log && (nat_lt log shape.logs && nat_lt s (turn_count shape))) ≡ true →
    IsHeld shape holds log s
held-from shape holds log s e =
    let two = and_parts (holds log) (nat_lt log shape.logs && nat_lt s (turn_count shape)) e in
    let one = and_parts (nat_lt log shape.logs) (nat_lt s (turn_count shape)) two.1 in
    record {
      held = two.0;
      log_in = ltb-true log shape.logs one.0;
      number_in = ltb-true s (turn_count shape) one.1;
    }

keys-regained : (S : Script) (holds : ℕ → Bool) (v : List ℕ) → length v ≡ tape_len S.shape →
    keys_of S.shape (words_of S.shape (drawn (regained S v))) holds ≡ regained_keys S holds v
unfolding keys_of pair_of hits_of pad_of tag_of
keys-regained S holds v whole = λ i log s. at log s i
  where
    at : (log s : ℕ) →
        keys_of S.shape (words_of S.shape (drawn (regained S v))) holds log s
        ≡ regained_keys S holds v log s
    at log s =
        cond-same (holds log && (nat_lt log S.shape.logs && nat_lt s (turn_count S.shape)))
        (Some (in_cell S.shape (keyed_cell S.shape (regained S v) log s)))
        (Some (in_cell S.shape (regained_cell S v log s))) None
        (λ e.
        let is = held-from S.shape holds log s e in
        ap (λ (cell : List ℕ). Some (in_cell S.shape cell))
        ((privacy.regained-IsTape S v whole).keyeds log s is.log_in is.number_in))

-- ---- the laws

module _ (A B : Script) (h : ℕ) (adversary : Adversary) (n : ℕ) (u : List ℕ)
    (is : AreAttacked A B h adversary u) where
  -- what A shows has the length of a tape of B
  length-shown : length (attack_normal A h adversary n u) ≡ tape_len B.shape
  length-shown = length-normal A h adversary n u is.tape ∙ ap tape_len is.targets.one_shape

  length-mirror : length (attack_mirror A B h adversary n u) ≡ tape_len B.shape
  length-mirror =
      length-unnormal B h is.targets.hidden_low adversary n (attack_normal A h adversary n u) length-shown

  -- B shows over the mirrored tape what A shows
  same-normal : attack_normal B h adversary n (attack_mirror A B h adversary n u)
      ≡ attack_normal A h adversary n u
  same-normal =
      normal-unnormal B h is.targets.hidden_low adversary n (attack_normal A h adversary n u) length-shown

pub one_to_one_attacked : OneToOneAttacked
one_to_one_attacked A B h adversary n u is = (
  ap (attack_unnormal A h adversary n) (same-normal A B h adversary n u is)
      ∙ unnormal-normal A h is.targets.hidden_low adversary n u is.tape,
  length-mirror A B h adversary n u is ∙ sym (ap tape_len is.targets.one_shape) ∙ sym is.tape,
)

-- the keys that the adversary holds
module _ (A B : Script) (h : ℕ) (adversary : Adversary) (n : ℕ) (u : List ℕ)
    (is : AreAttacked A B h adversary u) where
  abbrev v : List ℕ
  v = attack_normal A h adversary n u

  keys-first : keys_of A.shape (words_of A.shape (drawn u)) adversary.holds
      ≡ regained_keys A adversary.holds v
  unfolding attack_normal
  keys-first =
      ap (λ (w : BookWords). keys_of A.shape w adversary.holds)
      (sym (privacy.words-regained A h is.targets.hidden_low (under_attack A (drawn u) h adversary n).pairs u
      is.tape))
      ∙ keys-regained A adversary.holds v (length-normal A h adversary n u is.tape)

  keys-second : keys_of B.shape
      (words_of B.shape (drawn (attack_mirror A B h adversary n u))) adversary.holds
      ≡ regained_keys B adversary.holds v
  unfolding attack_unnormal
  keys-second =
      let whole = length-shown A B h adversary n u is in
      ap (λ (w : BookWords). keys_of B.shape w adversary.holds)
      (privacy.words-undone B h is.targets.hidden_low (attack_regained B h adversary n (regained B v)).pairs v
      whole)
      ∙ keys-regained B adversary.holds v whole

  keys-alike : regained_keys A adversary.holds v ≡ regained_keys B adversary.holds v
  keys-alike = λ i log s. at log s i
    where
      at : (log s : ℕ) →
          regained_keys A adversary.holds v log s ≡ regained_keys B adversary.holds v log s
      at log s =
          let shape = is.targets.one_shape in
          let holds = adversary.holds in
          let guard : Shape → Bool = λ x. holds log
          && (nat_lt log x.logs && nat_lt s (turn_count x)) in
          cond-same (guard A.shape) (Some (in_cell A.shape (regained_cell A v log s)))
          (Some (in_cell B.shape (regained_cell B v log s))) None
          (λ e.
          let held = held-from A.shape holds log s e in
          let writer = is.targets.one_writer log held.held held.log_in in
          let sends = is.targets.sent_alike log s held.held held.log_in held.number_in in
          λ i. Some (in_cell (shape i)
          (hidden_keyed_cell (shape i) v (writer i) log s (sends i))))
          ∙ ap (λ (x : Shape). cond (guard x) (Some (in_cell B.shape (regained_cell B v log s))) None)
          shape

  keys-same : keys_of A.shape (words_of A.shape (drawn u)) adversary.holds
      ≡ keys_of B.shape (words_of B.shape (drawn (attack_mirror A B h adversary n u)))
      adversary.holds
  keys-same = keys-first ∙ keys-alike ∙ sym keys-second

pub same_seen : SameSeen
same_seen A B h adversary n u is =
    let same : A.shape ≡ B.shape = is.targets.one_shape in
    let mirrored = attack_mirror A B h adversary n u in
    let shows : Shape → Keys → List ℕ → Seen =
    λ shape keys v. (shown shape h adversary keys v n).seen
    in
    let keys = keys_of A.shape (words_of A.shape (drawn u)) adversary.holds in
    let keys' = keys_of B.shape (words_of B.shape (drawn mirrored)) adversary.holds in
    let shown_by_both = attack_normal A h adversary n u in
    seen-is A h adversary n u is.tape is.targets.hidden_low is.targets.hidden_high
    ∙ ap (λ (shape : Shape). shows shape keys shown_by_both) same
    ∙ ap (λ (k : Keys). shows B.shape k shown_by_both) (keys-same A B h adversary n u is)
    ∙ ap (shows B.shape keys') (sym (same-normal A B h adversary n u is))
    ∙ sym (seen-is B h adversary n mirrored
    (length-mirror A B h adversary n u is) is.targets.hidden_low
    (subst (λ (shape : Shape). h ≤ shape.servers) same is.targets.hidden_high))

pub chosen_alike : ChosenAlike
chosen_alike choose other h adversary n A u chosen is =
    ap other (same_seen A (other (seen_by A (drawn u) h adversary n)) h adversary n u is)
