-- The table's two buckets of a number give what is looked up.
use Rattle.tk_words.specs.Words.{words_of, opened}
use Rattle.tk_frames.specs.Order.{before}
use Rattle.tk_table.proofs.Offers.{layout-as_written, layout-as_read}
use Rattle.tk_report.specs.Entries.{entries}
use Rattle.tk_report.specs.Report.{lookup}
use Rattle.tk_report.specs.Delivered.{LayoutGivesLookup, BytesGiveLookup}
use Rattle.tk_report.proofs.StorableLaws.{epochs-storable}
use Rattle.tk_report.proofs.WrittenLaws.{epochs-ordered, pair-low}

pub layout-gives-lookup : LayoutGivesLookup
unfolding lookup
layout-gives-lookup S b H e log s =
    let w = words_of S.shape b in
    layout-as_written S.shape (before (entries S w H) e) (w.pair log s) (opened w log s)
    (epochs-ordered S b H e)

pub bytes-give-lookup : BytesGiveLookup
unfolding lookup
bytes-give-lookup S b H e log s served legal =
    let w = words_of S.shape b in
    let low = pair-low S.shape b log s in
    layout-as_read S.shape (before (entries S w H) e) (w.pair log s) (opened w log s)
    (epochs-ordered S b H e) (epochs-storable S b H e served legal) low.0 low.1
