use Rattle.law_home.proofs.Bottom.{one_bottom}
use Rattle.law_home.proofs.Changes.{write_stands}
use Rattle.law_home.proofs.Cleaning.{ages_by_looks}
use Rattle.law_home.proofs.Holding.{held_cell, one_slot_names, holder}
use Rattle.law_home.proofs.Homes.{rows_here, lives_here, live_here, live_elsewhere}
use Rattle.law_home.proofs.Showing.{shows_live}
use Rattle.law_home.proofs.Standing.{stands_age, stands_clean, stands_back, stands_commit}
use Rattle.law_home.proofs.Turning.{stands_fresh, stands_anew, shows_rows}
use Rattle.law_home.specs.Walk.{Walk}
use Rattle.law_home.proofs.laws.walk_laws.Goals as goal

pub returns-clause-fresh : goal.returns-clause-fresh
returns-clause-fresh c = stands_fresh

pub returns-clause-cleaned : goal.returns-clause-cleaned
returns-clause-cleaned c = stands_clean

pub returns-clause-written : goal.returns-clause-written
returns-clause-written c w base rows list env lives b stands s s_in active r kind place there xid here sort seg entry_was cell_was fits =
    write_stands w base rows list env lives b stands s s_in active r kind place there xid here sort seg entry_was cell_was fits

pub returns-clause-put_back : goal.returns-clause-put_back
returns-clause-put_back c = stands_back

pub returns-clause-committed : goal.returns-clause-committed
returns-clause-committed c = stands_commit

pub returns-clause-aged : goal.returns-clause-aged
returns-clause-aged c = stands_age

pub returns-clause-looks : goal.returns-clause-looks
returns-clause-looks c = ages_by_looks

pub returns-clause-end : goal.returns-clause-end
returns-clause-end c env w v base start rows others list commits lives others_live b one two =
    one_bottom env one.distinct one.m two.m lives others_live b (Walk env base rows list) (Walk env start others commits) one.tree two.tree

pub returns-clause-rows : goal.returns-clause-rows
returns-clause-rows c = (shows_live, shows_rows)

pub returns-clause-anew : goal.returns-clause-anew
returns-clause-anew c = stands_anew

pub returns-clause-held : goal.returns-clause-held
returns-clause-held c = (
  λ env w base rows list lives b stands. held_cell env (Walk env base rows list) stands.m lives b stands.tree,
  λ env w base rows list lives b stands. one_slot_names env (Walk env base rows list) stands.m lives b stands.distinct stands.unique stands.tree,
  λ env w base rows list lives b stands. holder env base rows list stands.m lives b stands.distinct stands.tree,
)

pub returns-clause-home : goal.returns-clause-home
returns-clause-home c = (rows_here, lives_here, λ b chs ch. (live_here b chs ch, live_elsewhere b chs ch))
