-- A keyed book with a client's keys is one that serves the client.
use Rattle.tk_meeting.proofs.Terms.{ℕ, List, ◌+◌, ◌==◌, cond, ◌*◌, refl, ap, ◌%◌, vector_len, seed_len, keyed_pad}
use Rattle.tk_meeting.proofs.Terms.{keyed_tag, for_each, fresh_seeds, fresh_vectors, hits_of, fresh_write, pair_of}
use Rattle.tk_meeting.proofs.Terms.{pad_of, tag_of, fresh_pair, keyed_write, keyed_for_both, OwnKeysServe}
use Rattle.tk_handle.specs.declared.handle.Handle.{Handle}
use Rattle.tk_choice.specs.Choice.{keyed_pair, keyed_hits}
use Rattle.tk_handle.specs.Handle.{word, expanded}

pub own-keys-serve : OwnKeysServe
unfolding pair_of hits_of pad_of tag_of fresh_write fresh_pair fresh_seeds fresh_vectors
own-keys-serve S handles own_handles seeds own_seeds c has =
    let shape = S.shape in
    record {
      pairs = λ log s low uses.
          ap (λ (h : Handle). keyed_pair shape.buckets h s) (has.of_logs log low uses);
      hits = λ log s low uses.
          ap (λ (h : Handle). keyed_hits shape.filter_bits shape.hits h s) (has.of_logs log low uses);
      pads = λ log s low uses. ap (λ (h : Handle). keyed_pad shape.block h s) (has.of_logs log low uses);
      tags = λ log s masked low uses. ap (λ (h : Handle). keyed_tag h s masked) (has.of_logs log low uses);
      writes = λ g. ap (λ (seed : List ℕ). keyed_write shape seed g) has.of_client;
      targets = λ g.
          ap
          (λ (seed : List ℕ). (
            word seed (2 * g + 1) 0 % shape.buckets,
            word seed (2 * g + 1) 1 % shape.buckets,
          ))
          has.of_client;
      seeds = λ g. ap (λ (seed : List ℕ). keyed_for_both shape (seed_len shape) seed g) has.of_client;
      vectors = λ g.
          ap
          (λ (seed : List ℕ). cond (shape.format == 2)
          (for_each (expanded (vector_len shape)) (keyed_for_both shape (seed_len shape) seed g))
          (keyed_for_both shape (vector_len shape) seed g))
          has.of_client;
      shows = refl;
    }
