use Rattle.std.proofs.Common.{◌≡◌, ◌++◌, ◌∷◌, [], refl, inl, arith, ap, sym, ◌∙◌}
use Rattle.rb_cleanout.proofs.Cleaning.{same_entry, not_open, runs, ends}
use Rattle.rb_cleanout.proofs.Copies.{one_set}
use Rattle.rb_cleanout.proofs.Looking.{looks}
use Rattle.rb_heap.proofs.Patching.{entry_written}
use Rattle.rb_heap.proofs.Reading.{entry_read}
use Rattle.rb_heap.specs.Cleaning.{cleaned_entry, to_clean}
use Rattle.rb_heap.specs.Homes.{entry_patch, home_of, with_home_entry}
use Rattle.rb_itl.specs.Entries.{entry_bytes, entry_place, free_entry, with_entry}
use Rattle.rb_cleanout.proofs.entries.clean_entry.Goals as goal

pub returns-then-found-ne-OPEN-clause-told : goal.returns-then-found-ne-OPEN-clause-told
returns-then-found-ne-OPEN-clause-told g c = λ told.
    let look = looks g.S.Store c.args.store.now in
    let read = entry_read c.args.copy.now c.args.i free_entry c.requires.place ∙ sym c.entry-found.ensures in
    sym (ap (to_clean look) read ∙ (not_open look c.entry-found.result c.if-found-ne-OPEN.true).0)

pub returns-then-found-ne-OPEN-clause-cleaned : goal.returns-then-found-ne-OPEN-clause-cleaned
returns-then-found-ne-OPEN-clause-cleaned g c = λ told.
    let look = looks g.S.Store c.args.store.now in
    let read = entry_read c.args.copy.now c.args.i free_entry c.requires.place ∙ sym c.entry-found.ensures in
    same_entry (home_of c.args.copy.now) c.args.i _ (ap (cleaned_entry look) read ∙ (not_open look c.entry-found.result c.if-found-ne-OPEN.true).1 ∙ sym read)

pub returns-in_default-clause-told : goal.returns-in_default-clause-told
returns-in_default-clause-told g c = λ told.
    let look = looks g.S.Store c.args.store.now in
    let read = entry_read c.args.copy.now c.args.i free_entry c.requires.place ∙ sym c.entry-found.ensures in
    sym (ap (to_clean look) read ∙ (runs look c.entry-found.result c.in_ok-look.look (c.in_ok-look.ensures.look told) c.in_default.ensures).0)

pub returns-in_default-clause-cleaned : goal.returns-in_default-clause-cleaned
returns-in_default-clause-cleaned g c = λ told.
    let look = looks g.S.Store c.args.store.now in
    let read = entry_read c.args.copy.now c.args.i free_entry c.requires.place ∙ sym c.entry-found.ensures in
    same_entry (home_of c.args.copy.now) c.args.i _ (ap (cleaned_entry look) read ∙ (runs look c.entry-found.result c.in_ok-look.look (c.in_ok-look.ensures.look told) c.in_default.ensures).1 ∙ sym read)

pub returns-clause-made : goal.returns-clause-made
returns-clause-made g c =
    let no = c.args.no in
    let i = c.args.i in
    let copy = c.args.copy.now in
    let cleaned = c.in-Some.cleaned in
    let set : c.set.new.copy ≡ with_entry copy i cleaned = c.set.ensures.copy ∙ rw (c.entry_place.ensures, c.entry_bytes.ensures.bytes) refl in
    let put : c.set.new.group ≡ c.args.group.now ++ entry_patch no i cleaned ∷ [] = c.set.ensures.patch ∙ rw (c.entry_place.ensures, c.entry_bytes.ensures.bytes) refl in
    one_set no copy c.set.new.copy c.args.group.now c.set.new.group (entry_place i) (entry_bytes cleaned) (inl (i, cleaned, c.requires.place, c.entry_bytes.ensures.sound, refl)) set put

pub returns-clause-told : goal.returns-clause-told
returns-clause-told g c = λ told.
    let look = looks g.S.Store c.args.store.now in
    let read = entry_read c.args.copy.now c.args.i free_entry c.requires.place ∙ sym c.entry-found.ensures in
    sym (ap (to_clean look) read ∙ (ends look c.entry-found.result c.in_ok-look.look (omega arith) (c.in_ok-look.ensures.look told) c.in-Some.ensures.0).0)

pub returns-clause-cleaned : goal.returns-clause-cleaned
returns-clause-cleaned g c = λ told.
    let look = looks g.S.Store c.args.store.now in
    let read = entry_read c.args.copy.now c.args.i free_entry c.requires.place ∙ sym c.entry-found.ensures in
    let set : c.set.new.copy ≡ with_entry c.args.copy.now c.args.i c.in-Some.cleaned = c.set.ensures.copy ∙ rw (c.entry_place.ensures, c.entry_bytes.ensures.bytes) refl in
    ap home_of set ∙ entry_written c.args.copy.now c.args.i c.in-Some.cleaned c.requires.block c.requires.place c.entry_bytes.ensures.sound ∙ ap (with_home_entry (home_of c.args.copy.now) c.args.i)
    (c.in-Some.ensures.1 ∙ sym (ap (cleaned_entry look) read ∙ (ends look c.entry-found.result c.in_ok-look.look (omega arith) (c.in_ok-look.ensures.look told) c.in-Some.ensures.0).1))
