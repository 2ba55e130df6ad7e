use Rattle.law_read.proofs.Numbering.{first_few}
use Rattle.law_read.proofs.Peeling.{begins, fails, finishes, turns}
use Rattle.law_read.proofs.Shortening.{shorter}
use Rattle.law_read.proofs.Quiet.{quiet_reads}
use Rattle.law_read.proofs.Showing.{match_rows, reading_of}
use Rattle.law_read.proofs.Undoing.{allows, passes_by, starts_running, taken_back, taken_whole}
use Rattle.law_read.proofs.Watching.{quiet_late, watch_begins, watch_ends, watched_over, watches}
use Rattle.law_read.proofs.laws.rebuild_laws.Goals as goal

pub returns-clause-shorter : goal.returns-clause-shorter
returns-clause-shorter c = shorter

pub returns-clause-read : goal.returns-clause-read
returns-clause-read c = (reading_of, first_few)

pub returns-clause-live : goal.returns-clause-live
returns-clause-live c = (
  λ env base rows list lives r mine upto n m start runs. starts_running env base rows list lives r mine upto n start m runs,
  λ env base rows list lives r mine upto n k steps f start b run quiet. passes_by env base rows list lives r mine upto n start k steps f b run quiet,
)

pub returns-clause-active : goal.returns-clause-active
returns-clause-active c env base rows list lives r mine upto n k steps f start b distinct alone run active =
    let a = allows env base rows list lives distinct r mine upto n start k steps f b alone run active in
    (taken_whole env base rows list lives distinct r mine upto n start k steps f b alone run active, a.0, a.1)

pub returns-clause-taken_back : goal.returns-clause-taken_back
returns-clause-taken_back c env base rows list lives r mine upto n k steps f start b distinct run all =
    let t = taken_back env base rows list lives distinct r mine upto n start k steps f b run all in
    (t.0, t.1, t.2, t.3, t.4)

pub returns-clause-commits : goal.returns-clause-commits
returns-clause-commits c = begins

pub returns-clause-commit : goal.returns-clause-commit
returns-clause-commit c env base rows mine upto n below steps list f start b honest low p i number lt most is =
    let t = turns env base rows mine upto n 0 list honest low below steps f start b p i number lt most is in
    (t.0, t.1.0, t.1.1, t.2)

pub returns-clause-answered : goal.returns-clause-answered
returns-clause-answered c env base rows mine upto n below steps list f start b honest low p most = finishes env base rows mine upto n 0 list honest low below steps f start b p most

pub returns-clause-bound : goal.returns-clause-bound
returns-clause-bound c env base rows mine upto n below steps list f start b honest low p i over = fails env base rows mine upto n 0 list honest low below steps f start b p i over

pub returns-clause-shown : goal.returns-clause-shown
returns-clause-shown c = match_rows

pub returns-clause-quiet : goal.returns-clause-quiet
returns-clause-quiet c = quiet_reads

pub returns-clause-watch : goal.returns-clause-watch
returns-clause-watch c = (
  λ env base rows n key limit list b starts. watch_begins env base rows n key list limit b starts,
  λ env base rows n key below least list start b p i over. watched_over env base rows n key list below least start b p i over,
)

pub returns-clause-watched : goal.returns-clause-watched
returns-clause-watched c env base rows n key below least list start b honest low p i number lt most is = watches env base rows n key list below least start b p honest low i number lt most is

pub returns-clause-late : goal.returns-clause-late
returns-clause-late c = (
  λ env base rows n key below least list start b p most. watch_ends env base rows n key list below least start b p most,
  quiet_late,
)
