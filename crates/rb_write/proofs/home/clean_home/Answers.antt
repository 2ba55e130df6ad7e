use Rattle.std.proofs.Common.{◌≡◌, ℕ, List, [], true, false, Ok, ap, ◌∙◌, refl}
use Rattle.rb_base.specs.Blocks.{block_of}
use Rattle.rb_base.specs.Logs.{load_logs, more_logs}
use Rattle.rb_base.specs.declared.ids.Xid.{Xid}
use Rattle.rb_cleanout.proofs.Looking.{looks, same_looks}
use Rattle.rb_heap.specs.Cleaning.{cleaned_home}
use Rattle.rb_heap.specs.Homes.{home_of}
use Rattle.rb_txntable.specs.declared.looks.Look.{Look}
use Rattle.rb_write.proofs.Looks.{block_same}
use Rattle.rb_write.proofs.home.clean_home.Goals as goal

pub returns-in-Ok-clean_copy-clause-cleaned : goal.returns-in-Ok-clean_copy-clause-cleaned
returns-in-Ok-clean_copy-clause-cleaned g c told young =
    let s = g.S.Store in
    let old = c.args.store.now in
    let loaded = c.load.new.self in
    let load = c.in-Ok.ensures in
    let loads = load_logs s old loaded (Ok c.in-Ok.field-0) load.shape load.slots load.failed load.counted load.lsn load.blocks load.settles load.any_moment load.holds_back in
    let copied : c.copy_from_slice.new.self ≡ block_of (s.blocks loaded) c.args.no = c.copy_from_slice.ensures.after ∙ c.block.ensures.block told c.args.no load.loaded in
    c.in-Ok-clean_copy.ensures.cleaned told
    ∙ ap (λ (look : Xid → Look). cleaned_home look (home_of c.copy_from_slice.new.self)) (same_looks s old loaded loads told)
    ∙ ap (λ (l : List ℕ). cleaned_home (looks s old) (home_of l)) (copied ∙ ap (λ (l : List (List ℕ)). block_of l c.args.no) (loads.blocks told refl))
    ∙ block_same (s.shape_of old) (s.blocks old) c.args.no c.requires.there young

pub returns-in-Ok-clean_copy-clause-logs : goal.returns-in-Ok-clean_copy-clause-logs
returns-in-Ok-clean_copy-clause-logs g c =
    let s = g.S.Store in
    let old = c.args.store.now in
    let loaded = c.load.new.self in
    let load = c.in-Ok.ensures in
    more_logs s old loaded c.clean_copy.new.store [] [] true (load_logs s old loaded (Ok c.in-Ok.field-0) load.shape load.slots load.failed load.counted load.lsn load.blocks load.settles load.any_moment load.holds_back) c.in-Ok-clean_copy.ensures.logs

pub returns-in-Err-clause-logs : goal.returns-in-Err-clause-logs
returns-in-Err-clause-logs g c =
    let s = g.S.Store in
    let old = c.args.store.now in
    let loaded = c.load.new.self in
    let load = c.in-Ok.ensures in
    more_logs s old loaded c.clean_copy.new.store [] [] false (load_logs s old loaded (Ok c.in-Ok.field-0) load.shape load.slots load.failed load.counted load.lsn load.blocks load.settles load.any_moment load.holds_back) c.in-Err.ensures.logs
