-- The reads of a run: what each is over, that it is in range, and what a client takes from replies.
use Rattle.std.proofs.Common.{◌≡◌, refl, ap, ap₂, sym, subst, ◌∙◌, arith, ℕ, ◌+◌, ◌<◌, List, [], ◌++◌}
use Rattle.std.proofs.Common.{length, map, Option, Some, ◌≤◌, le_trans, div-mul-le_self, le_of_mul-le-mul_right}
use Rattle.std.specs.List.{AllByRecursion, range_with_len}
use Rattle.std.proofs.lemmas.List.{length-map}
use Rattle.std.proofs.lemmas.List.Elements.{recursion_from_All, All-from_get_or}
use Rattle.tk_shape.specs.declared.shape.Shape.{Shape}
use Rattle.tk_shape.specs.Lengths.{width, turn_count}
use Rattle.tk_kernel.specs.Xor.{xor_all}
use Rattle.tk_schedule.specs.declared.history.History.{History}
use Rattle.tk_schedule.specs.Schedule.{IsLegal, epoch_at, phases_over}
use Rattle.tk_script.specs.declared.script.Script.{Script}
use Rattle.tk_words.specs.Words.{WordBook, words_of, opened as opens_to, fresh_vectors, IsBook}
use Rattle.tk_frames.specs.declared.read_frame.ReadFrame.{ReadFrame}
use Rattle.tk_frames.specs.declared.reply_frame.ReplyFrame.{ReplyFrame}
use Rattle.tk_frames.specs.Ranges.{IsRead}
use Rattle.tk_frames.specs.Order.{Record, before}
use Rattle.tk_frames.specs.Slots.{slots_in, text_among}
use Rattle.tk_table.specs.Ordered.{AreOrdered}
use Rattle.tk_table.specs.Stands.{IsPair}
use Rattle.tk_table.specs.Table.{layout}
use Rattle.tk_table.specs.Laws.{IsStorable, block_at}
use Rattle.tk_table.proofs.Offers.{layout-laid_out, layout-read_back, layout-as_read}
use Rattle.tk_table.specs.Replies.{reply_to}
use Rattle.tk_bucket.specs.Bytes.{blocks_of}
use Rattle.tk_client.specs.declared.target.Target.{Target}
use Rattle.tk_client.proofs.Offers.{asked-in_range, pair-in_range, fresh-whole}
use Rattle.tk_client.specs.Asked.{asked, AreWhole, pair_for, frame_for}
use Rattle.tk_report.proofs.WrittenLaws.{epochs-ordered}
use Rattle.tk_report.proofs.StorableLaws.{epochs-storable}
use Rattle.tk_report.specs.Report.{lookup, read_over, target_at}
use Rattle.tk_report.specs.Exchange.{read_at, read_pair}
use Rattle.tk_report.specs.Entries.{write_at}
use Rattle.tk_report.proofs.MarkedLaws.{before-over}
use Rattle.tk_report.specs.Turns.{placed_before}
use Rattle.tk_report.proofs.JoiningLaws.{AreBlocks, replies_join}
use Rattle.tk_report.proofs.Lists.{map_same}

-- ---- what a read is over

-- In a turn each read is over the writes before the mark of its epoch among the entries so far.
abbrev pub AreMade : Script → WordBook → History → ℕ → Type 0
AreMade S b H g =
    (c : ℕ) → c < S.shape.clients →
    before (placed_before S (words_of S.shape b) H (g + 1)) (epoch_at H g c)
    ≡ read_over S (words_of S.shape b) H g c

-- what stands before the mark of an epoch that is read in a turn stands there when its entries do
pub all-made : (S : Script) (b : WordBook) (H : History) (g : ℕ) → IsLegal S.shape H →
    g < turn_count S.shape → AreMade S b H g
all-made S b H g legal low c client_in =
    let ahead = (legal.each_turn g low).none_ahead c client_in in
    sym (before-over S.shape (write_at S (words_of S.shape b)) H (g + 1) (turn_count S.shape)
    (epoch_at H g c) legal (omega (arith, low)) (omega arith) ahead)

-- no epoch is read that has no phase
pub epoch-most : (S : Script) (H : History) (g c : ℕ) → IsLegal S.shape H →
    g < turn_count S.shape → c < S.shape.clients → epoch_at H g c ≤ S.shape.phases
epoch-most S H g c legal low client_in =
    let ahead = (legal.each_turn g low).none_ahead c client_in in
    let most : phases_over S.shape (g + 1) ≤ S.shape.phases =
    le_of_mul-le-mul_right
    (le_trans (div-mul-le_self (g + 1) S.shape.ticks) (omega (arith, low)))
    S.shape.in_range.ticks_low
    in
    omega (arith, ahead, most)

-- ---- what is taken of replies

-- the blocks of a table: one for each bucket, each of a bucket's width
pub blocks-whole : (shape : Shape) (R : List Record) → AreOrdered shape R →
    AllByRecursion (IsStorable shape) R → AreBlocks shape (blocks_of (layout shape R))
blocks-whole shape R ordered storable =
    let blocks = blocks_of (layout shape R) in
    let each : length blocks ≡ shape.buckets =
    length-map (layout shape R) _ ∙ (layout-laid_out shape R ordered).wide
    in
    record {
      each = each;
      sized =
          recursion_from_All (λ v. length v ≡ width shape) blocks
          (All-from_get_or (λ v. length v ≡ width shape) blocks [] (λ k low.
          (layout-read_back shape R k ordered storable (omega (arith, low, each))).long));
    }

-- what is taken from the sums of the replies is what is looked up
pub text-taken : (shape : Shape) (b : WordBook) (R : List Record) (g c e : ℕ) (t : Target)
    (reads : List ReadFrame) (replies : List ReplyFrame) (first second : List ℕ)
    (o : Option (List ℕ)) → let w = words_of shape b in
    AreOrdered shape R → AllByRecursion (IsStorable shape) R →
    AreWhole shape (fresh_vectors shape b g c) → IsPair shape (pair_for w g c (Some t)) →
    reads ≡ asked shape b g c e (Some t) → replies ≡ map (reply_to shape R) reads →
    first ≡ xor_all (width shape) (map (λ (r : ReplyFrame). r.first) replies) →
    second ≡ xor_all (width shape) (map (λ (r : ReplyFrame). r.second) replies) →
    o
    ≡ text_among (w.pair t.log t.number) (opens_to w t.log t.number)
    (slots_in shape first ++ slots_in shape second) →
    o ≡ lookup shape w R t.log t.number
unfolding lookup
text-taken shape b R g c e t reads replies first second o
    ordered storable whole within reads_are replies_are first_is second_is text_is =
    let w = words_of shape b in
    let pair = w.pair t.log t.number in
    let opens = opens_to w t.log t.number in
    let T = layout shape R in
    let sum = xor_all (width shape) in
    let join =
    replies_join shape b R g c e (Some t) whole (blocks-whole shape R ordered storable) within
    in
    let all = replies_are ∙ ap (map (reply_to shape R)) reads_are in
    let first_block : first ≡ block_at T pair.0 =
    first_is ∙ ap (λ rs. sum (map (λ (r : ReplyFrame). r.first) rs)) all ∙ join.first
    in
    let second_block : second ≡ block_at T pair.1 =
    second_is ∙ ap (λ rs. sum (map (λ (r : ReplyFrame). r.second) rs)) all ∙ join.second
    in
    text_is
    ∙ ap₂ (λ (x y : List ℕ). text_among pair opens (slots_in shape x ++ slots_in shape y))
    first_block second_block
    ∙ layout-as_read shape R pair opens ordered storable within.0 within.1

-- ---- the reads of a run

-- what is asked in a run's turn is what each server reads
pub asked-read_at : (S : Script) (b : WordBook) (H : History) (g c : ℕ) →
    asked S.shape b g c (epoch_at H g c) (target_at S (words_of S.shape b) H g c)
    ≡ map (read_at S b H g c) (range_with_len 1 S.shape.servers)
unfolding read_at read_pair
asked-read_at S b H g c =
    let pair = read_pair S (words_of S.shape b) H g c in
    map_same (frame_for S.shape b g c (epoch_at H g c) pair) (read_at S b H g c) (λ j. refl)
    (range_with_len 1 S.shape.servers)

-- the facts of a client's read in a turn
pub record IsSound (S : Script) (b : WordBook) (H : History) (g c : ℕ) : Type 0 where
  pub ordered : AreOrdered S.shape (read_over S (words_of S.shape b) H g c)
  pub storable : AllByRecursion (IsStorable S.shape) (read_over S (words_of S.shape b) H g c)
  pub whole : AreWhole S.shape (fresh_vectors S.shape b g c)
  pub pair : IsPair S.shape
      (pair_for (words_of S.shape b) g c (target_at S (words_of S.shape b) H g c))
  pub reads : AllByRecursion (IsRead S.shape)
      (map (read_at S b H g c) (range_with_len 1 S.shape.servers))

-- every read of a legal history is sound
pub all-sound : (S : Script) (b : WordBook) (H : History) (g c : ℕ) → IsBook S.shape b →
    IsLegal S.shape H → g < turn_count S.shape → c < S.shape.clients → IsSound S b H g c
all-sound S b H g c serves legal turn_in client_in =
    let e = epoch_at H g c in
    let t = target_at S (words_of S.shape b) H g c in
    record {
      ordered = epochs-ordered S b H e;
      storable = epochs-storable S b H e serves legal;
      whole = fresh-whole S.shape b g c serves turn_in client_in;
      pair = pair-in_range S.shape b g c t;
      reads =
          subst (AllByRecursion (IsRead S.shape)) (asked-read_at S b H g c)
          (asked-in_range S.shape b g c e t serves turn_in client_in
          (epoch-most S H g c legal turn_in client_in));
    }
