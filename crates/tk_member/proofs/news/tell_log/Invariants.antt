-- What was told so far, and what is left to be told.
use Rattle.std.proofs.Common.{◌≡◌, ◌++◌, drop}
use Rattle.tk_member.specs.News.{news_from}
use Rattle.tk_member.proofs.news.tell_log.Given as goal

abbrev pub invariant-numbers : goal.invariant-numbers
invariant-numbers l =
    l.told.items ++ news_from l.log l.number (drop l.number l.gots)
    ≡ l.fn.told.items ++ news_from l.log l.known (drop l.known l.gots)
