use Rattle.rb_store.proofs.store.LogStore.open.Goals as goal

pub returns-in-Ok-clause-stable : goal.returns-in-Ok-clause-stable
returns-in-Ok-clause-stable g c told = (c.in-Ok.ensures.opened told).stable

pub returns-in-Err-clause-none : goal.returns-in-Err-clause-none
returns-in-Err-clause-none g c told e l b n opens = c.in-Err.ensures.none told (cc e) l b n opens
