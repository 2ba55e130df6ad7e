use Rattle.law_read.proofs.Copying.{copy_ages, copy_begins, copy_outlives, copy_read, copy_shows, copy_worn, end_copied}
use Rattle.law_read.proofs.Unseen.{none_unseen, unseen_plain}
use Rattle.law_read.proofs.laws.copy_laws.Goals as goal

pub returns-clause-made : goal.returns-clause-made
returns-clause-made c = end_copied

pub returns-clause-shown : goal.returns-clause-shown
returns-clause-shown c env base rows list n b copied = copy_shows env base rows list n b copied

pub returns-clause-begins : goal.returns-clause-begins
returns-clause-begins c env base rows n m limit list b honest low lower copied = copy_begins env base rows list n m limit b honest low lower copied

pub returns-clause-read : goal.returns-clause-read
returns-clause-read c env base rows mine upto n m below steps list f start b honest low le copied p most = copy_read env base rows list mine upto n m below steps f start b honest low le copied p most

pub returns-clause-worn : goal.returns-clause-worn
returns-clause-worn c = copy_worn

pub returns-clause-aged : goal.returns-clause-aged
returns-clause-aged c w env env2 base rows list n b ages old copied = copy_ages env base rows list w env2 n b ages old copied

pub returns-clause-committed : goal.returns-clause-committed
returns-clause-committed c env base rows t list n b later copied = copy_outlives env base rows list t n b later copied

pub returns-clause-plain : goal.returns-clause-plain
returns-clause-plain c = unseen_plain

pub returns-clause-unseen : goal.returns-clause-unseen
returns-clause-unseen c env h mine upto n b reading told none = none_unseen env h mine upto n b reading told none
