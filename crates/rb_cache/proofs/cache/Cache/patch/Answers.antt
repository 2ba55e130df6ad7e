use Rattle.std.proofs.Common.{◌-◌, ◌==◌, if◌then◌else◌, List, ◌∷◌, length, take, ap, sym, ◌∙◌, subst}
use Rattle.rb_layout.specs.Regions.{block_count}
use Rattle.law_redo.specs.Rolled.{step}
use Rattle.rb_cache.specs.Frames.{AreBelow, AreClean, CacheState, has_number, numbers_of, seen, without}
use Rattle.rb_cache.specs.Slots.{held_in}
use Rattle.rb_cache.specs.declared.frame.Frame.{Frame}
use Rattle.rb_cache.proofs.CallLemmas.{below_by, first_frame, patched_clean, patched_order, patched_others, patched_own}
use Rattle.rb_cache.proofs.cache.Cache.patch.Goals as goal

pub returns-clause-order : goal.returns-clause-order
returns-clause-order g c =
    let f = first_frame c.args.no (if has_number c.args.no (numbers_of c.args.self.now.held) then without c.args.no (numbers_of c.args.self.now.held) else if length (numbers_of c.args.self.now.held) == c.args.self.now.frames then take (c.args.self.now.frames - 1) (numbers_of c.args.self.now.held) else numbers_of c.args.self.now.held) (held_in c.self.inside.frames) (ap numbers_of (ap (λ (s : CacheState). s.held) c.self.view_is) ∙ c.in_ok-get.ensures.order) in
    let p = c.patch_front.ensures.patched f.0 f.1 f.2 in
    patched_order c.args.number c.args.group.now f.0 f.1 (held_in c.patch_front.new.self) p ∙ ap numbers_of (sym f.2 ∙ (ap (λ (s : CacheState). s.held) c.self.view_is)) ∙ c.in_ok-get.ensures.order

pub returns-clause-own : goal.returns-clause-own
returns-clause-own g c = λ told.
    let f = first_frame c.args.no (if has_number c.args.no (numbers_of c.args.self.now.held) then without c.args.no (numbers_of c.args.self.now.held) else if length (numbers_of c.args.self.now.held) == c.args.self.now.frames then take (c.args.self.now.frames - 1) (numbers_of c.args.self.now.held) else numbers_of c.args.self.now.held) (held_in c.self.inside.frames) (ap numbers_of (ap (λ (s : CacheState). s.held) c.self.view_is) ∙ c.in_ok-get.ensures.order) in
    let p = c.patch_front.ensures.patched f.0 f.1 f.2 in
    patched_own c.args.number c.args.group.now f.0 f.1 (held_in c.patch_front.new.self) p c.args.layout.now (g.D.Disk.content c.get.new.disk) c.args.no f.3
    ∙ ap (step c.args.number c.args.group.now c.args.no) (ap (λ (h : List Frame). seen c.args.layout.now (g.D.Disk.content c.get.new.disk) h c.args.no) (sym f.2 ∙ (ap (λ (s : CacheState). s.held) c.self.view_is)) ∙ c.in_ok-get.ensures.seen told c.args.no)

pub returns-clause-others : goal.returns-clause-others
returns-clause-others g c = λ told k differ.
    let f = first_frame c.args.no (if has_number c.args.no (numbers_of c.args.self.now.held) then without c.args.no (numbers_of c.args.self.now.held) else if length (numbers_of c.args.self.now.held) == c.args.self.now.frames then take (c.args.self.now.frames - 1) (numbers_of c.args.self.now.held) else numbers_of c.args.self.now.held) (held_in c.self.inside.frames) (ap numbers_of (ap (λ (s : CacheState). s.held) c.self.view_is) ∙ c.in_ok-get.ensures.order) in
    let p = c.patch_front.ensures.patched f.0 f.1 f.2 in
    patched_others c.args.number c.args.group.now f.0 f.1 (held_in c.patch_front.new.self) p c.args.layout.now (g.D.Disk.content c.get.new.disk) c.args.no k f.3 differ
    ∙ ap (λ (h : List Frame). seen c.args.layout.now (g.D.Disk.content c.get.new.disk) h k) (sym f.2 ∙ (ap (λ (s : CacheState). s.held) c.self.view_is)) ∙ c.in_ok-get.ensures.seen told k

pub returns-clause-settled : goal.returns-clause-settled
returns-clause-settled g c = λ told.
    let f = first_frame c.args.no (if has_number c.args.no (numbers_of c.args.self.now.held) then without c.args.no (numbers_of c.args.self.now.held) else if length (numbers_of c.args.self.now.held) == c.args.self.now.frames then take (c.args.self.now.frames - 1) (numbers_of c.args.self.now.held) else numbers_of c.args.self.now.held) (held_in c.self.inside.frames) (ap numbers_of (ap (λ (s : CacheState). s.held) c.self.view_is) ∙ c.in_ok-get.ensures.order) in
    let p = c.patch_front.ensures.patched f.0 f.1 f.2 in
    let settled = c.in_ok-get.ensures.settled told in
    record {
      calm = settled.calm;
      clean = patched_clean c.args.number c.args.group.now f.0 f.1 (held_in c.patch_front.new.self) p c.args.layout.now (g.D.Disk.content c.get.new.disk) (subst (AreClean c.args.layout.now (g.D.Disk.content c.get.new.disk)) (sym (sym f.2 ∙ (ap (λ (s : CacheState). s.held) c.self.view_is))) settled.clean);
      only = settled.only;
      shut = settled.shut;
    }

pub returns-clause-within : goal.returns-clause-within
returns-clause-within g c =
    let f = first_frame c.args.no (if has_number c.args.no (numbers_of c.args.self.now.held) then without c.args.no (numbers_of c.args.self.now.held) else if length (numbers_of c.args.self.now.held) == c.args.self.now.frames then take (c.args.self.now.frames - 1) (numbers_of c.args.self.now.held) else numbers_of c.args.self.now.held) (held_in c.self.inside.frames) (ap numbers_of (ap (λ (s : CacheState). s.held) c.self.view_is) ∙ c.in_ok-get.ensures.order) in
    let p = c.patch_front.ensures.patched f.0 f.1 f.2 in
    below_by (block_count c.args.layout.now) (f.0 ∷ f.1) (held_in c.patch_front.new.self) (patched_order c.args.number c.args.group.now f.0 f.1 (held_in c.patch_front.new.self) p) (subst (AreBelow (block_count c.args.layout.now)) (sym (sym f.2 ∙ (ap (λ (s : CacheState). s.held) c.self.view_is))) c.in_ok-get.ensures.within)
