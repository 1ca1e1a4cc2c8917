-- What is new of the logs so far.
use Rattle.std.proofs.Common.{◌≡◌, flat_map}
use Rattle.std.specs.List.{range_with_len}
use Rattle.tk_client.specs.Reader.{Reader}
use Rattle.tk_member.specs.News.{news_of, numbers_known}
use Rattle.tk_member.proofs.news.tell_news.Given as goal

abbrev pub invariant-logs : goal.invariant-logs
invariant-logs l =
    (before : Reader) → l.fn.known ≡ numbers_known l.fn.client.shape before →
    l.told.items ≡ flat_map (news_of before l.fn.client.reader) (range_with_len 0 l.log)
