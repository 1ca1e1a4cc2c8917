use Rattle.tk_report.proofs.LaidOutLaws.{layout-gives-lookup, bytes-give-lookup}
use Rattle.tk_report.proofs.WrittenLaws.{epochs-ordered}
use Rattle.tk_report.proofs.StorableLaws.{epochs-storable}
use Rattle.tk_report.proofs.laws.laid_out.Goals as goal

pub returns-clause-ordered : goal.returns-clause-ordered
returns-clause-ordered c = epochs-ordered

pub returns-clause-lookup : goal.returns-clause-lookup
returns-clause-lookup c = layout-gives-lookup

pub returns-clause-storable : goal.returns-clause-storable
returns-clause-storable c = epochs-storable

pub returns-clause-bytes : goal.returns-clause-bytes
returns-clause-bytes c = bytes-give-lookup
