use Rattle.law_copies.proofs.Ages.{back_ages, end_ages, write_ages}
use Rattle.law_copies.proofs.Outliving.{build_keeps, commit_keeps_all, none_stand, older_keeps, same_keeps, stands_for}
use Rattle.law_copies.proofs.laws.outliving_laws.Goals as goal

pub returns-clause-none : goal.returns-clause-none
returns-clause-none c = none_stand

pub returns-clause-same : goal.returns-clause-same
returns-clause-same c h h2 xids blocks blocks2 kept shape commits segments copies = same_keeps h h2 shape xids blocks blocks2 kept commits segments copies

pub returns-clause-aged : goal.returns-clause-aged
returns-clause-aged c h h2 xids before now kept stand ages shape commits copies = older_keeps h h2 shape xids before now kept stand ages commits copies

pub returns-clause-back_ages : goal.returns-clause-back_ages
returns-clause-back_ages c h xids s front before now stand made = back_ages h xids before now stand s front made

pub returns-clause-end_ages : goal.returns-clause-end_ages
returns-clause-end_ages c h xids s x before now stand owned made = end_ages h xids before now stand s x owned made

pub returns-clause-written : goal.returns-clause-written
returns-clause-written c h h2 xids s table key action x before now kept stand first few made shape commits copies =
    older_keeps h h2 shape xids before now kept stand (write_ages h xids before now stand s table key action x first few made) commits copies

pub returns-clause-put_back : goal.returns-clause-put_back
returns-clause-put_back c h h2 xids s front before now kept stand made shape commits copies =
    older_keeps h h2 shape xids before now kept stand (back_ages h xids before now stand s front made) commits copies

pub returns-clause-committed : goal.returns-clause-committed
returns-clause-committed c h h2 xids s x before now kept stand owned made shape commits copies = commit_keeps_all h h2 shape xids before now kept stand s x owned made commits copies

pub returns-clause-ended : goal.returns-clause-ended
returns-clause-ended c h h2 xids s x before now kept stand owned made shape commits copies =
    older_keeps h h2 shape xids before now kept stand (end_ages h xids before now stand s x owned made) commits copies

pub returns-clause-built : goal.returns-clause-built
returns-clause-built c h xids blocks kept kept2 b hist snap b_in tells read low keeps copies = build_keeps h xids blocks b hist tells kept kept2 snap b_in read low keeps copies

pub returns-clause-stands : goal.returns-clause-stands
returns-clause-stands c h xids blocks kept b hist tells copies = stands_for h xids blocks b hist tells kept copies
