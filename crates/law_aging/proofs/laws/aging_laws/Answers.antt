use Rattle.law_aging.proofs.Aging.{done, joined, over, put_back, same, written}
use Rattle.law_aging.proofs.Keeping.{ages_keep, commit_keeps}
use Rattle.law_aging.proofs.laws.aging_laws.Goals as goal

pub returns-clause-written : goal.returns-clause-written
returns-clause-written c = written

pub returns-clause-put_back : goal.returns-clause-put_back
returns-clause-put_back c = put_back

pub returns-clause-committed : goal.returns-clause-committed
returns-clause-committed c = done

pub returns-clause-ended : goal.returns-clause-ended
returns-clause-ended c = over

pub returns-clause-same : goal.returns-clause-same
returns-clause-same c = same

pub returns-clause-joined : goal.returns-clause-joined
returns-clause-joined c = joined

pub returns-clause-kept : goal.returns-clause-kept
returns-clause-kept c h h2 xids commit logged segments after homes b n home stand shape commits ages kept = ages_keep h h2 xids commit logged segments after homes stand shape ages b n home kept commits

pub returns-clause-outlives : goal.returns-clause-outlives
returns-clause-outlives c h h2 xids x commit logged s segments after homes b n home stand shape commits ages kept = commit_keeps h h2 xids commit logged segments after homes stand shape ages b n home kept s x commits
