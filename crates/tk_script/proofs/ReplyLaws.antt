-- The lines of the replies, and their section.
use Rattle.std.proofs.Common.{◌≡◌, ◌≢◌, ◌∙◌, ℕ, ◌+◌, ◌*◌, List, [], ◌∷◌, ◌++◌, length, take, drop, codes, Bool, true, false, IsTrue, Option, Some, None, Ok, Err, refl, ap, ap₂, sym, subst, arith}
use Rattle.std.specs.Prelude.{nat_lt}
use Rattle.std.specs.List.{AllZip, AllByRecursion}
use Rattle.std.proofs.lemmas.Bool.{ltb-true, lt-ltb}
use Rattle.std.proofs.lemmas.List.{length-append, length-drop, length-take-le, take-append-drop}
use Rattle.std.proofs.lemmas.Nat.{mul-le}
use Rattle.std.proofs.Math.Seq.{take-append_seam, drop-append_seam}
use Rattle.hex.specs.Hex.{decode_of}
use Rattle.tk_shape.specs.declared.shape.Shape.{Shape}
use Rattle.tk_shape.specs.Lengths.{turn_count, width}
use Rattle.tk_shape.specs.Limits.{is_between}
use Rattle.tk_shape.proofs.Offers.{between-parts, between-from}
use Rattle.tk_script.specs.declared.cause.Cause.TheVariants as cause
use Rattle.tk_script.specs.declared.reply.RawReply.{RawReply}
use Rattle.tk_script.specs.Grammar.{Line, SpellsReply, IsReplyLine, BeginsWithReplies}
use Rattle.tk_script.specs.Reading.{Place, Verdict, ThreeAndText, Whose, named, counted, bytes_in, next_line, read_words, three_after, unless, whose_out, why_unanswered, reply_with, reply_sums, reply_fields, read_reply, read_replies}
use Rattle.tk_script.specs.SoundReplies.{IsReply, are_ascending, is_before, may_follow}
use Rattle.tk_script.proofs.AnswerLaws.{then_said}
use Rattle.tk_script.proofs.CauseLaws.{lacks_by_test}
use Rattle.tk_script.proofs.HexLaws.{counted_taken, counted_form, found_is}
use Rattle.tk_script.proofs.OptionLaws.{unless_from}
use Rattle.tk_script.proofs.OrderedLaws.{follows-push, ordered-front}
use Rattle.tk_script.proofs.PlaceLaws.{next_taken}
use Rattle.tk_script.proofs.RowLaws.{then_from, next_from, end_are, end_whole}
use Rattle.tk_script.proofs.SaidLaws.{range_test, in_range}
use Rattle.tk_script.proofs.ThreeLaws.{IsThree, HasNoThree, three_taken, three_is, three_none}
use Rattle.tk_script.proofs.WordLaws.{at, Comes, words_own, words_from}

abbrev Ascend : List RawReply → Type 0
Ascend replies = IsTrue (are_ascending replies)

abbrev whose_of : RawReply → Whose
whose_of r = (r.turn, r.client, r.server)

-- the line of a reply doesn't end them
pub reply_line-goes_on : (r : RawReply) → SpellsReply (codes "end") r → ⊥
reply_line-goes_on r s = cc s.whole

-- ---- the numbers

answered : (b : Bool) (o : Option ℕ) → why_unanswered b o ≡ None → IsTrue b × (o ≡ None)
answered true None e = (refl, refl)
answered false None e = absurd (cc e)
answered b (Some k) e = absurd (cc e)

-- two sums in range are a reply
range_is : (shape : Shape) (whose : Whose) (sums : List ℕ) →
    whose_out (named shape) whose ≡ None → length sums ≡ 2 * width shape →
    IsReply shape (reply_with (named shape) whose sums)
range_is shape whose sums none long =
    let test = range_test (nat_lt whose.0 (turn_count shape)) (nat_lt whose.1 shape.clients)
    (is_between 1 shape.servers whose.2) whose.0 whose.1 whose.2 none in
    let server = between-parts 1 shape.servers whose.2 test.2 in
    record {
      turn = ltb-true whose.0 (turn_count shape) test.0;
      client = ltb-true whose.1 shape.clients test.1;
      server_low = server.0;
      server_high = server.1;
      first = length-take-le (width shape) sums (omega (arith, long));
      second = omega (arith, length-drop (width shape) sums, long);
    }

range_of : (shape : Shape) (r : RawReply) → IsReply shape r →
    whose_out (named shape) (whose_of r) ≡ None
range_of shape r is =
    in_range (nat_lt r.turn (turn_count shape)) (nat_lt r.client shape.clients)
    (is_between 1 shape.servers r.server) r.turn r.client r.server
    (lt-ltb r.turn (turn_count shape) is.turn) (lt-ltb r.client shape.clients is.client)
    (between-from 1 shape.servers r.server is.server_low is.server_high)

-- ---- a line gives its reply

sums_give : (shape : Shape) (before : List RawReply) (line : Line) (x : ThreeAndText)
    (v : Verdict (List ℕ)) (r : RawReply) → Ascend before → IsThree (codes "reply") line x →
    counted (2 * width shape) (bytes_in x.3) ≡ v →
    reply_sums (named shape) before (x.0, x.1, x.2) v ≡ Ok r →
    IsReplyLine shape line r × Ascend (before ++ r ∷ [])
sums_give shape before line x (Err c) r ascend three e f = absurd (cc f)
sums_give shape before line x (Ok sums) r ascend three e f =
    let whose : Whose = (x.0, x.1, x.2) in
    let reply = reply_with (named shape) whose sums in
    let test = unless_from (why_unanswered (may_follow before reply) (whose_out (named shape) whose))
    reply r f in
    let may = answered (may_follow before reply) (whose_out (named shape) whose) test.0 in
    let found = found_is (2 * width shape) (decode_of x.3) sums e in
    subst (λ q. IsReplyLine shape line q × Ascend (before ++ q ∷ [])) test.1 (
      (
        record {
          digits = x.3;
          whole = three.whole;
          sums = found.0 ∙ ap Ok (sym (take-append-drop (width shape) sums));
        },
        range_is shape whose sums may.1 found.1,
      ),
      sym (follows-push is_before before reply ascend) ∙ may.0,
    )

fields_give : (shape : Shape) (before : List RawReply) (line : Line) (o : Option ThreeAndText)
    (r : RawReply) → Ascend before → three_after (codes "reply") line ≡ o →
    reply_fields (named shape) before o ≡ Ok r →
    IsReplyLine shape line r × Ascend (before ++ r ∷ [])
fields_give shape before line None r ascend e f = absurd (cc f)
fields_give shape before line (Some x) r ascend e f =
    sums_give shape before line x (counted (2 * width shape) (bytes_in x.3)) r ascend
    (three_is (codes "reply") line x e) refl f

pub reply_is : (shape : Shape) (before : List RawReply) (line : Line) (r : RawReply) →
    Ascend before → read_reply (named shape) before line ≡ Ok r →
    IsReplyLine shape line r × Ascend (before ++ r ∷ [])
reply_is shape before line r ascend e =
    fields_give shape before line (three_after (codes "reply") line) r ascend refl e

same_reply : (shape : Shape) (r : RawReply) → length r.first ≡ width shape →
    reply_with (named shape) (whose_of r) (r.first ++ r.second) ≡ r
same_reply shape r long =
    let first : take (width shape) (r.first ++ r.second) ≡ r.first
    = ap (λ n. take n (r.first ++ r.second)) (sym long) ∙ take-append_seam r.first r.second in
    let second : drop (width shape) (r.first ++ r.second) ≡ r.second
    = ap (λ n. drop n (r.first ++ r.second)) (sym long) ∙ drop-append_seam r.first r.second in
    λ i. record {
      turn = r.turn;
      client = r.client;
      server = r.server;
      first = first i;
      second = second i;
    }

-- ---- what is said of a line

pub reply_form : (shape : Shape) (before : List RawReply) (line : Line) →
    HasNoThree (codes "reply") line → read_reply (named shape) before line ≡ Err cause.Form
reply_form shape before line never =
    ap (reply_fields (named shape) before) (three_none (codes "reply") line never)

three_said : (shape : Shape) (before : List RawReply) (line : Line) (x : ThreeAndText) →
    IsThree (codes "reply") line x →
    read_reply (named shape) before line
    ≡ reply_sums (named shape) before (x.0, x.1, x.2) (counted (2 * width shape) (bytes_in x.3))
three_said shape before line x three =
    ap (reply_fields (named shape) before)
    (three_taken (codes "reply") line x.0 x.1 x.2 x.3 (lacks_by_test (codes "reply") refl)
    three.first three.second three.third three.whole)

-- digits of no two sums
pub sums_form : (shape : Shape) (before : List RawReply) (line : Line) (x : ThreeAndText) →
    IsThree (codes "reply") line x →
    ((bytes : List ℕ) → decode_of x.3 ≡ Ok bytes → length bytes ≢ 2 * width shape) →
    read_reply (named shape) before line ≡ Err cause.Form
sums_form shape before line x three never =
    three_said shape before line x three
    ∙ ap (reply_sums (named shape) before (x.0, x.1, x.2))
    (counted_form (2 * width shape) (bytes_in x.3) (λ bytes e.
    let found = found_is (2 * width shape) (decode_of x.3) bytes e in
    never bytes found.0 found.1))

-- the line of two sums
pub reply_said : (shape : Shape) (before : List RawReply) (line digits : List ℕ) (r : RawReply) →
    IsThree (codes "reply") line (r.turn, r.client, r.server, digits) →
    decode_of digits ≡ Ok (r.first ++ r.second) → length r.first ≡ width shape →
    length r.second ≡ width shape →
    read_reply (named shape) before line
    ≡ unless (why_unanswered (may_follow before r) (whose_out (named shape) (whose_of r))) r
reply_said shape before line digits r three decoded first second =
    let long : length (r.first ++ r.second) ≡ 2 * width shape
    = omega (arith, length-append r.first r.second, first, second) in
    three_said shape before line (r.turn, r.client, r.server, digits) three
    ∙ ap (reply_sums (named shape) before (whose_of r))
    (counted_taken digits (r.first ++ r.second) (2 * width shape) decoded long)
    ∙ ap (λ q. unless (why_unanswered (may_follow before q)
    (whose_out (named shape) (whose_of r))) q) (same_reply shape r first)

pub reply_whole : (shape : Shape) (before : List RawReply) (line : Line) (r : RawReply)
    (more : List RawReply) → Ascend before → IsReplyLine shape line r →
    Ascend (before ++ r ∷ more) → read_reply (named shape) before line ≡ Ok r
reply_whole shape before line r more ascend h later =
    let s = h.0 in
    let is = h.1 in
    let range = shape.in_range in
    let few = mul-le shape.phases shape.ticks 256 64 range.phases_high range.ticks_high in
    let follows = follows-push is_before before r ascend ∙ ordered-front is_before before r more later in
    reply_said shape before line s.digits r (record {
      whole = s.whole;
      first = omega (arith, is.turn, few);
      second = omega (arith, is.client, range.clients_high);
      third = omega (arith, is.server_high, range.servers_high);
    }) s.sums is.first is.second
    ∙ ap₂ (λ (b : Bool) (o : Option ℕ). unless (why_unanswered b o) r) follows (range_of shape r is)

-- ---- the section

pub replies_whole : (shape : Shape) (line : ℕ) (lines : List Line) (replies : List RawReply)
    (behind : List Line) → BeginsWithReplies shape lines replies behind →
    Comes (read_replies (named shape) (at line lines)) replies behind
unfolding read_replies
replies_whole shape line lines replies behind b =
    let each = end_whole (read_reply (named shape)) (IsReplyLine shape) Ascend (reply_is shape)
    (λ r h. reply_line-goes_on r h.0) (reply_whole shape) b.reply_lines replies (line + 1) [] behind
    refl b.ascend b.each in
    let first = next_taken (read_words (codes "replies")) (at line lines) (codes "replies")
    (at (line + 1) (b.reply_lines ++ codes "end" ∷ behind)) tt
    (record { number = refl; lines = b.whole }) (words_own (codes "replies")) in
    (each.0, then_said _ first each.1)

pub replies_from : (shape : Shape) (p : Place) (x : List RawReply × Place) →
    read_replies (named shape) p ≡ Ok x → BeginsWithReplies shape p.rest x.0 x.1.rest
unfolding read_replies
replies_from shape p x e =
    let first = then_from (next_line (read_words (codes "replies")) p) _ x e in
    let here = next_from (read_words (codes "replies")) p first.0 first.1 in
    let row = end_are (read_reply (named shape)) (IsReplyLine shape) Ascend (reply_is shape)
    first.0.1.rest first.0.1.line [] x.0 x.1 refl first.2 in
    let word = words_from (codes "replies") here.line first.0.0 here.read_is in
    record {
      reply_lines = row.0.own;
      each = subst (AllZip (IsReplyLine shape) row.0.own) (sym row.0.all_is) row.0.each;
      ascend = row.1;
      whole = here.whole ∙ ap (λ l. l ∷ first.0.1.rest) word
          ∙ ap (λ ls. codes "replies" ∷ ls) row.0.whole;
    }

-- what the lines of replies give are replies
pub zip-replies : (shape : Shape) (lines : List Line) (replies : List RawReply) →
    AllZip (IsReplyLine shape) lines replies → AllByRecursion (IsReply shape) replies
zip-replies shape [] [] each = tt
zip-replies shape [] (r ∷ replies) each = absurd each
zip-replies shape (l ∷ lines) [] each = absurd each
zip-replies shape (l ∷ lines) (r ∷ replies) each =
    (each.0.1, zip-replies shape lines replies each.1)
