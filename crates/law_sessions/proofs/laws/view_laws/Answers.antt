use Rattle.std.proofs.Common.{arith}
use Rattle.rb_model.specs.NextState.{change_in}
use Rattle.law_blocks.specs.Standing.{env_of}
use Rattle.law_sessions.proofs.Cursors as cursors
use Rattle.law_sessions.proofs.Cursors.{named_is}
use Rattle.law_sessions.proofs.Ended.{back_remembered, committed_remembered, end_remembered}
use Rattle.law_sessions.proofs.Fetching.{ends, gives, reads}
use Rattle.law_sessions.proofs.Late.{late_is}
use Rattle.law_sessions.proofs.Lost.{lost_is}
use Rattle.law_sessions.proofs.Modes.{isolated_remembered}
use Rattle.law_sessions.proofs.Opened.{first_remembered}
use Rattle.law_sessions.proofs.Queues.{held_remembered, queue_remembered}
use Rattle.law_sessions.proofs.Readable.{write_read}
use Rattle.law_sessions.proofs.Savepoints.{cut_remembered, savepoint_remembered}
use Rattle.law_sessions.proofs.Taken as given
use Rattle.law_sessions.proofs.Telling.{told}
use Rattle.law_sessions.proofs.Written.{written_remembered}
use Rattle.law_sessions.proofs.laws.view_laws.Goals as goal
use Rattle.law_sessions.specs.Views.{home_in}

pub returns-clause-first : goal.returns-clause-first
returns-clause-first c = first_remembered

pub returns-clause-written : goal.returns-clause-written
returns-clause-written c = λ h xids blocks now table_of s g i table key action x stand is low high writes stands id ids.
    written_remembered h xids blocks now s g i (change_in h g table key action) x stand low (let n = is.as_many in omega (arith, n, high)) writes stands id ids table_of high is

pub returns-clause-committed : goal.returns-clause-committed
returns-clause-committed c = λ h xids blocks now table_of s x stand is low high own ids. committed_remembered h xids blocks now table_of s x stand is low high own ids

pub returns-clause-ended : goal.returns-clause-ended
returns-clause-ended c = λ h h2 xids blocks now table_of s stand is low high empty is_end ids. end_remembered h h2 xids blocks (env_of h.shape now) table_of s stand is low high empty is_end ids

pub returns-clause-rolled_back : goal.returns-clause-rolled_back
returns-clause-rolled_back c = λ h h2 xids blocks now table_of s stand is low high is_end ids. back_remembered h h2 xids blocks (env_of h.shape now) table_of s stand is low high is_end ids

pub returns-clause-isolated : goal.returns-clause-isolated
returns-clause-isolated c = isolated_remembered

pub returns-clause-savepoint : goal.returns-clause-savepoint
returns-clause-savepoint c = savepoint_remembered

pub returns-clause-cut : goal.returns-clause-cut
returns-clause-cut c = λ h xids blocks now table_of s name first stand is low high ids. cut_remembered h xids (env_of h.shape blocks) (env_of h.shape now) s name first low ids table_of high is

pub returns-clause-queue : goal.returns-clause-queue
returns-clause-queue c = queue_remembered

pub returns-clause-held : goal.returns-clause-held
returns-clause-held c = held_remembered

pub returns-clause-opened : goal.returns-clause-opened
returns-clause-opened c = λ h xids blocks table_of s name table lo hi stand is low high there. cursors.opened h xids blocks table_of s name table lo hi stand is low high there

pub returns-clause-taken : goal.returns-clause-taken
returns-clause-taken c = λ h xids blocks table_of s name m g key value stand is low high at g_in before found. given.taken h xids blocks stand s name m g key value before found table_of is low high at

pub returns-clause-closed : goal.returns-clause-closed
returns-clause-closed c = λ h xids env table_of s name is low high. cursors.closed h xids env table_of s name is low high

pub returns-clause-named : goal.returns-clause-named
returns-clause-named c = λ h xids env table_of s name is low high. named_is h xids env s name table_of is low high

pub returns-clause-reads : goal.returns-clause-reads
returns-clause-reads c = λ h xids blocks s name m cursor g stand is low g_in. reads h xids blocks stand s (record { name = name; cursor = m }) cursor is g g_in

pub returns-clause-told : goal.returns-clause-told
returns-clause-told c = λ h xids blocks s name m cursor g stand is low g_in. told h xids blocks stand s (record { name = name; cursor = m }) cursor is (home_in h.shape m.table g)

pub returns-clause-gives : goal.returns-clause-gives
returns-clause-gives c = λ h xids blocks s name m cursor g key value stand is low g_in before found. gives h xids blocks stand s (record { name = name; cursor = m }) cursor is g key value before found

pub returns-clause-ends : goal.returns-clause-ends
returns-clause-ends c = λ h xids blocks s name m cursor stand is low nowhere. ends h xids blocks stand s (record { name = name; cursor = m }) cursor is nowhere

pub returns-clause-write : goal.returns-clause-write
returns-clause-write c = λ h xids blocks table key n stand first within low high. write_read h xids blocks stand table key n first within low

pub returns-clause-late : goal.returns-clause-late
returns-clause-late c = λ h xids blocks table key n stand first within low high. late_is h xids blocks table key n stand first low

pub returns-clause-lost : goal.returns-clause-lost
returns-clause-lost c = lost_is
