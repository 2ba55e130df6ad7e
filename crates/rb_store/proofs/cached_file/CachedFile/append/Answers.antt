use Rattle.std.proofs.Common.{◌+◌, ◌<◌, length, subst, sym}
use Rattle.rb_base.specs.Blocks.{AreWithin}
use Rattle.rb_layout.specs.Regions.{shape_of}
use Rattle.rb_log.specs.GroupSlots.{IsLoggable, LogState}
use Rattle.rb_store.specs.CachedFiles.{CachedState, IsCachedFile, IsCachedMemory}
use Rattle.rb_store.proofs.CachedLemmas.{append_memory}
use Rattle.rb_store.proofs.cached_file.CachedFile.append.Goals.{After-append}
use Rattle.rb_store.proofs.cached_file.CachedFile.append.Goals as goal

-- the file once its log is this one
abbrev with_log : (c : After-append) (log : LogState) → CachedState
with_log c log = record {
  layout = c.self.inside.layout;
  head = log.head;
  used = log.used;
  pending = log.pending;
  frames = c.self.inside.cache.frames;
  held = c.self.inside.cache.held;
  batch = c.self.inside.twin.batch;
}

memory : (c : After-append) → IsCachedMemory (with_log c c.append.new.self)
memory c =
    let valid : IsLoggable c.self.inside.layout c.args.group.now = record {
      valid = c.patches.ensures.valid;
      some = c.requires.some;
      within = subst (λ (v : CachedState). AreWithin (shape_of v.layout) c.args.group.now) (sym c.self.view_is) c.requires.within;
    } in
    subst (λ (log : LogState). IsCachedMemory (with_log c log)) (sym c.append.ensures)
    (append_memory (with_log c c.self.inside.log) c.args.group.now c.self.invariant.memory valid
    (subst (λ (v : CachedState). v.used + length v.pending + 1 < v.layout.log) (sym c.self.view_is) c.requires.room))

pub invariant_of-self : goal.invariant_of-self
invariant_of-self c =
    let i = c.self.invariant in
    let old = c.self.inside.log in
    subst (λ (log : LogState). IsCachedFile c.self.inside.layout log c.self.inside.twin (with_log c log)) (sym c.append.ensures)
    (record {
      log_layout = i.log_layout;
      twin_layout = i.twin_layout;
      scanned = i.scanned;
      memory = subst (λ (log : LogState). IsCachedMemory (with_log c log)) c.append.ensures (memory c);
    })

pub returns-clause-memory : goal.returns-clause-memory
returns-clause-memory c = memory c
