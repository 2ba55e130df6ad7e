use Rattle.std.proofs.Common.{◌≡◌, ◌+◌, ◌++◌, ◌∷◌, [], true, None, ℕ, List, length, sym, ap, ◌∙◌, subst, arith, length-append, ◌<◌, ◌^◌, inl, inr}
use Rattle.std.proofs.lemmas.Bool.{cases_eq}
use Rattle.rb_base.specs.Groups.{Patch}
use Rattle.rb_layout.specs.Regions.{block_count}
use Rattle.rb_layout.specs.declared.layout.Head.{Head}
use Rattle.law_redo.specs.Rolled.{step}
use Rattle.rb_cache.specs.Frames.{seen}
use Rattle.rb_log.specs.GroupSlots.{GroupsAre}
use Rattle.rb_store.specs.CachedFiles.{CachedState, Done, FlushesFull, Keeps, Leaving, SameNumbers, SeenOrPatched, Settled, StaysOrNone}
use Rattle.rb_store.proofs.StoreLemmas.{apply_moments, apply_settles, patched_blocks, patched_low, quiet_again, waits_on}
use Rattle.rb_store.proofs.store.LogStore.take_group.Given.{Over}
use Rattle.rb_store.proofs.store.LogStore.take_group.Goals.{After-patch_all, In-Ok}
use Rattle.rb_store.proofs.store.LogStore.take_group.Goals as goal

module _ (g : Over) (c : After-patch_all g) where
  abbrev before : CachedState
  before = c.self.inside.cache

  abbrev given : CachedState
  given = record before { pending = before.pending ++ c.args.group.now ∷ [] }

  abbrev after : CachedState
  after = c.patch_all.new.cache

  keeps : Keeps before after
  keeps = let k = subst (λ (x : CachedState). Keeps x after) c.append.ensures.after c.patch_all.ensures.keeps in record { layout = k.layout; head = k.head }

  leaving : g.D.Disk.tells → (groups : List (List Patch)) → length groups ≡ before.used → GroupsAre before.layout before.head (g.D.Disk.content c.self.inside.disk) 0 groups
      → Leaving g.D.Disk given c.self.inside.disk c.patch_all.new.disk groups (SeenOrPatched before (g.D.Disk.content c.self.inside.disk) (c.self.inside.lsn + 1) c.args.group.now)
  leaving told = subst (λ (x : CachedState). (groups : List (List Patch)) → length groups ≡ x.used → GroupsAre x.layout x.head (g.D.Disk.content c.self.inside.disk) 0 groups
      → Leaving g.D.Disk x c.self.inside.disk c.patch_all.new.disk groups (SeenOrPatched x (g.D.Disk.content c.self.inside.disk) (c.self.inside.lsn + 1) c.args.group.now)) c.append.ensures.after (c.patch_all.ensures.any_moment told)

module _ (g : Over) (c : In-Ok g) where
  abbrev at : After-patch_all g
  at = c.before

  patched : g.D.Disk.tells → (i : ℕ) → i < block_count (before g at).layout
      → seen (before g at).layout (g.D.Disk.content c.patch_all.new.disk) (after g at).held i ≡ step (c.self.inside.lsn + 1) c.args.group.now i (seen (before g at).layout (g.D.Disk.content c.self.inside.disk) (before g at).held i)
  patched told = subst (λ (x : CachedState). (i : ℕ) → i < block_count x.layout → seen x.layout (g.D.Disk.content c.patch_all.new.disk) (after g at).held i ≡ step (c.self.inside.lsn + 1) c.args.group.now i (seen x.layout (g.D.Disk.content c.self.inside.disk) x.held i))
      c.append.ensures.after (c.in-Ok.ensures.seen told)

  settled : g.D.Disk.tells → Settled g.D.Disk (given g at) (after g at) c.self.inside.disk c.patch_all.new.disk
  settled told = subst (λ (x : CachedState). Settled g.D.Disk x (after g at) c.self.inside.disk c.patch_all.new.disk) c.append.ensures.after (c.in-Ok.ensures.settled told)

  done : g.D.Disk.tells → (groups : List (List Patch)) → length groups ≡ (before g at).used → GroupsAre (before g at).layout (before g at).head (g.D.Disk.content c.self.inside.disk) 0 groups
      → Done g.D.Disk (given g at) (after g at) c.self.inside.disk c.patch_all.new.disk groups (SeenOrPatched (before g at) (g.D.Disk.content c.self.inside.disk) (c.self.inside.lsn + 1) c.args.group.now)
  done told = subst (λ (x : CachedState). (groups : List (List Patch)) → length groups ≡ x.used → GroupsAre x.layout x.head (g.D.Disk.content c.self.inside.disk) 0 groups
      → Done g.D.Disk x (after g at) c.self.inside.disk c.patch_all.new.disk groups (SeenOrPatched x (g.D.Disk.content c.self.inside.disk) (c.self.inside.lsn + 1) c.args.group.now)) c.append.ensures.after (c.in-Ok.ensures.done told)

  numbers : SameNumbers (given g at) (after g at)
  numbers = subst (λ (x : CachedState). SameNumbers x (after g at)) c.append.ensures.after c.in-Ok.ensures.numbers

small : (g : Over) (c : After-patch_all g) → c.self.inside.lsn < 2 ^ 62
small g c = subst (λ (k : ℕ). k < 2 ^ 62) (sym (ap (λ v. v.number) c.self.view_is)) c.requires.few

pub invariant_of-self : goal.invariant_of-self
invariant_of-self g c =
    let at = (goal.at.invariant_of-self g c).In-Ok in
    let first = (goal.at.invariant_of-self g c).After-patch_all in
    let a = c.self.inside in
    let m = c.self.invariant.0 in
    let k = keeps g first in
    let few = small g first in
    let more = numbers g at in
    let long = length-append (before g first).pending (c.args.group.now ∷ []) in (
      record {
        numbered = λ going. let was = m.numbered going in let head = ap (λ (h : Head). h.number) k.head in omega (arith, was, head, more, long);
        few = omega (arith, few);
        cached = c.patch_all.ensures.memory;
        empty = λ going. c.in-Ok.ensures.batch;
        front = λ which is. cc;
      },
      λ told going. quiet_again g.D.Disk (given g first) (after g first) a.lsn (a.lsn + 1) a.disk c.patch_all.new.disk (g.met.D.Disk.reads_an_image c.patch_all.new.disk told) (record { layout = k.layout; head = k.head }) (c.self.invariant.1 told going) (settled g at told)
          (patched_low g.D.Disk (before g first) a.lsn a.loaded a.failed a.forced a.disk c.self.invariant.0.cached c.args.group.now c.patches-count.ensures.valid (c.self.invariant.1 told going) few (after g first) c.patch_all.new.disk None a.failed c.more_forced-self-inside.result k (patched g at told)),
    )

pub returns-in-Ok-clause-blocks : goal.returns-in-Ok-clause-blocks
returns-in-Ok-clause-blocks g c told =
    let going = ap (λ v. v.failed) c.self.view_is ∙ c.requires.going in
    let at = (goal.at.returns-in-Ok-clause-blocks g c).In-Ok in
    let first = (goal.at.returns-in-Ok-clause-blocks g c).After-patch_all in
    rw (← c.self.view_is) (
    let a = c.self.inside in
    patched_blocks g.D.Disk (before g first) a.lsn a.loaded a.failed a.forced a.disk c.self.invariant.0.cached c.args.group.now c.patches-count.ensures.valid (c.self.invariant.1 told going) (small g first) (after g first) c.patch_all.new.disk None a.failed c.more_forced-self-inside.result (keeps g first) (patched g at told))

pub returns-in-Ok-clause-settles : goal.returns-in-Ok-clause-settles
returns-in-Ok-clause-settles g c told b n =
    let going = ap (λ v. v.failed) c.self.view_is ∙ c.requires.going in
    let ok = (goal.at.returns-in-Ok-clause-settles g c).In-Ok in
    let at = (goal.at.returns-in-Ok-clause-settles g c).After-patch_all in
    let few = small g at in
    rw (← c.self.view_is) (λ st.
    let a = c.self.inside in
    apply_settles g.D.Disk (before g at) a.lsn a.loaded a.failed a.forced a.disk c.self.invariant.0.cached c.args.group.now c.patches-count.ensures.valid (c.self.invariant.1 told going) few (after g at) c.patch_all.new.disk None a.failed c.more_forced-self-inside.result (keeps g at) (patched g ok told)
    b n st (g.met.D.Disk.reads_an_image c.patch_all.new.disk told) (settled g ok told) (done g ok told))

pub returns-in-Ok-clause-any_moment : goal.returns-in-Ok-clause-any_moment
returns-in-Ok-clause-any_moment g c told b n =
    let going = ap (λ v. v.failed) c.self.view_is ∙ c.requires.going in
    let at = (goal.at.returns-in-Ok-clause-any_moment g c).In-Ok in
    let first = (goal.at.returns-in-Ok-clause-any_moment g c).After-patch_all in
    let few = small g first in
    rw (← c.self.view_is) (λ st.
    let a = c.self.inside in
    apply_moments g.D.Disk (before g first) a.lsn a.loaded a.failed a.forced a.disk c.self.invariant.0.cached c.args.group.now c.patches-count.ensures.valid (c.self.invariant.1 told going) few (after g first) c.patch_all.new.disk None a.failed c.more_forced-self-inside.result (keeps g first)
    b n st (leaving g first told))

pub returns-in-Err-clause-any_moment : goal.returns-in-Err-clause-any_moment
returns-in-Err-clause-any_moment g c told b n =
    let going = ap (λ v. v.failed) c.self.view_is ∙ c.requires.going in
    let first = (goal.at.returns-in-Err-clause-any_moment g c).After-patch_all in
    let few = small g first in
    rw (← c.self.view_is) (λ st.
    let a = c.self.inside in
    apply_moments g.D.Disk (before g first) a.lsn a.loaded a.failed a.forced a.disk c.self.invariant.0.cached c.args.group.now c.patches-count.ensures.valid (c.self.invariant.1 told going) few (after g first) c.patch_all.new.disk None true a.forced (keeps g first)
    b n st (leaving g first told))

pub returns-in-Ok-clause-holds_back : goal.returns-in-Ok-clause-holds_back
returns-in-Ok-clause-holds_back g c =
    let ok = (goal.at.returns-in-Ok-clause-holds_back g c).In-Ok in
    let at = (goal.at.returns-in-Ok-clause-holds_back g c).After-patch_all in
    let forced = c.more_forced-self-inside.ensures in
    let now : (after g at).used ≡ c.used-used_now.result = sym c.used-used_now.ensures in
    let was : c.used-used.result ≡ (before g at).used = c.used-used.ensures in
    let fills : FlushesFull (given g at) (after g at) = subst (λ (x : CachedState). FlushesFull x (after g at)) c.append.ensures.after c.in-Ok.ensures.fills in
    let waits : StaysOrNone (given g at) (after g at) = subst (λ (x : CachedState). StaysOrNone x (after g at)) c.append.ensures.after c.in-Ok.ensures.waits in
    rw (← c.self.view_is) (record {
      no_fewer = forced.no_less;
      waits = λ same few. elim (cases_eq c.used-used.result c.used-used_now.result) [
        | inl is ↦ waits_on (before g at) (after g at) c.args.group.now (numbers g ok) waits (now ∙ sym is ∙ was)
        | inr differ ↦ let up = forced.more differ few in absurd (omega (arith, up, same))
      ];
      cause = λ more. elim (cases_eq c.used-used.result c.used-used_now.result) [
        | inl is ↦ let same = forced.same is in absurd (omega (arith, more, same))
        | inr differ ↦ inl (fills.cause (λ is. differ (was ∙ sym is ∙ now)))
      ];
      full = fills.full;
      no_back = let head = ap (λ (h : Head). h.number) (keeps g at).head in omega (arith, head);
      moves = λ more. let head = ap (λ (h : Head). h.number) (keeps g at).head in absurd (omega (arith, more, head));
      layout = (keeps g at).layout;
    })
