use Rattle.std.proofs.Common.{rules, ◌≡◌, ℕ, List, [], Ok, not, sym, subst}
use Rattle.std.specs.Result.{is_err}
use Rattle.rb_base.specs.Blocks.{block_of}
use Rattle.rb_base.specs.Logs.{load_logs, more_logs}
use Rattle.rb_cr.proofs.Tops.{still_busy}
use Rattle.rb_cr.specs.Scratches.{scratch_home}
use Rattle.rb_heap.specs.Homes.{home_of}
use Rattle.law_read.specs.Heights.{AtMost}
use Rattle.law_blocks.specs.Says.{walk_home}
use Rattle.law_blocks.specs.Standing.{env_of, homes_of}
use Rattle.law_home.specs.Walk.{Home, entry_at}
use Rattle.rb_cr.proofs.visible.changes_visible.Goals as goal

pub returns-then-all_told_visible-clause-told : goal.returns-then-all_told_visible-clause-told
returns-then-all_told_visible-clause-told g c = λ tells yes j.
    let s = g.S.Store in
    let old = c.args.store.now in
    let env = env_of (s.shape_of old) (s.blocks old) in
    let same : c.block.result.now ≡ block_of (s.blocks old) c.args.block = search rules in
    subst (λ (l : List ℕ). AtMost env c.args.scn c.args.scn (entry_at (walk_home (s.shape_of old) c.args.block (home_of l)) j)) same (c.all_told_visible.ensures.most c.if-all_told_visible.true (s.shape_of old) env c.args.block j)

pub returns-then-any_told_hidden-clause-busy : goal.returns-then-any_told_hidden-clause-busy
returns-then-any_told_hidden-clause-busy g c = λ tells no quiet.
    let s = g.S.Store in
    let old = c.args.store.now in
    let env = env_of (s.shape_of old) (s.blocks old) in
    let same : c.block-2.result.now ≡ block_of (s.blocks old) c.args.block = search rules in
    c.any_told_hidden.ensures c.if-any_told_hidden.true (s.shape_of old) env c.args.block
    (λ j. subst (λ (l : List ℕ). AtMost env c.args.scn c.args.scn (entry_at (walk_home (s.shape_of old) c.args.block (home_of l)) j)) (sym same) (quiet j))

pub returns-clause-logs : goal.returns-clause-logs
returns-clause-logs g c =
    let s = g.S.Store in
    let old = c.args.store.now in
    let loaded = c.load.new.self in
    let load = c.in_ok-load.ensures in
    more_logs s old loaded c.is_home_visible.new.segments [] [] (not (is_err c.is_home_visible.result)) (load_logs s old loaded (Ok c.in_ok-load.field-0) load.shape load.slots load.failed load.counted load.lsn load.blocks load.settles load.any_moment load.holds_back) c.is_home_visible.ensures.reads.made

pub returns-clause-busy : goal.returns-clause-busy
returns-clause-busy g c tells =
    let s = g.S.Store in
    let old = c.args.store.now in
    let loaded = c.load.new.self in
    let load = c.in_ok-load.ensures in
    let home : Home = homes_of (s.shape_of old) (s.blocks old) c.args.block in
    let read : Home = scratch_home (s.shape_of loaded) c.decode_entries.new.self in
    let same : env_of (s.shape_of loaded) (s.blocks loaded) ≡ env_of (s.shape_of old) (s.blocks old) = search rules in
    let each : (j : ℕ) → entry_at read j ≡ entry_at home j = search rules in
    still_busy (env_of (s.shape_of old) (s.blocks old)) (env_of (s.shape_of loaded) (s.blocks loaded)) c.args.scn home read c.is_home_visible.result same each (c.is_home_visible.ensures.busy tells)
