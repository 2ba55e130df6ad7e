use Rattle.rb_base.specs.declared.sizes.TheConstants.{SLOTS}
use Rattle.law_crash.proofs.Kept.{back_entry, back_kept, clean_kept, rows_kept, write_kept}
use Rattle.std.proofs.Common.{◌+◌, ◌*◌, ◌/◌}
use Rattle.law_crash.proofs.laws.keep_laws.Goals as goal

pub returns-clause-commit : goal.returns-clause-commit
returns-clause-commit c = λ h xids s x before now made. rows_kept h.shape ((SLOTS * x.seg + x.slot) / SLOTS) before now made.group.group

pub returns-clause-end : goal.returns-clause-end
returns-clause-end c = λ h xids s x before now made. rows_kept h.shape ((SLOTS * x.seg + x.slot) / SLOTS) before now made.group.group

pub returns-clause-back : goal.returns-clause-back
returns-clause-back c = λ h xids s front before now made few. (back_kept h xids s front before now made few, back_entry h xids s front before now made few)

pub returns-clause-write : goal.returns-clause-write
returns-clause-write c = λ h xids s table key action x before now stand t_in made. write_kept h xids s table key action x before now stand t_in made

pub returns-clause-clean : goal.returns-clause-clean
returns-clause-clean c = clean_kept
