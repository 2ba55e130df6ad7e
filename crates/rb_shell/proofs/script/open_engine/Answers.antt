use Rattle.std.proofs.Common.{◌≡◌, ◌≤◌, ◌+◌, ℕ, Bool, true, List, [], ◌++◌, length, take, Some, arith, ap, sym, subst, refl, Result, Ok, Err, IsErrAnd, IfErr}
use Rattle.std.proofs.lemmas.Option.{same_Some}
use Rattle.rb_base.specs.Logs.{Laws, Logs}
use Rattle.rb_base.specs.Moments.{weaker}
use Rattle.rb_base.specs.Settling.{told_same}
use Rattle.rb_base.specs.Stores.{OpensToSome}
use Rattle.rb_base.specs.Blocks.{after_groups}
use Rattle.rb_base.specs.Groups.{Patch}
use Rattle.rb_base.specs.declared.shape.Shape.{Shape}
use Rattle.rb_engine.specs.Opened.{OpensTo}
use Rattle.rb_layout.specs.Regions.{shape_of}
use Rattle.rb_layout.specs.declared.layout.Layout.{Layout}
use Rattle.rb_model.specs.State.{State}
use Rattle.rb_store.proofs.SameLayout.{same_layout}
use Rattle.rb_store.specs.Meaning.{Means, Opens, OpensAt}
use Rattle.rb_store.specs.Openings.{LeftAlone}
use Rattle.rb_store.specs.StoreLaws.{held_back_joined, held_back_same, stable_left}
use Rattle.rb_store.specs.StoreStates.{IsStable, blocks_in}
use Rattle.rb_store.specs.contracts.store.LogStoreStore.TheImpl.{ghosts}
use Rattle.rb_shell.specs.Runs.{IsSound, WasStopped}
use Rattle.rb_calls.specs.Since.{image_has}
use Rattle.rb_disk.specs.Moments.{Leaves}
use Rattle.rb_shell.proofs.RunLemmas.{Found, alone_same, disk_leaves, has_opened, in_range, is_store, no_opening, not_store, opens_same, same_of, stays_alone, stays_damaged}
use Rattle.rb_shell.proofs.script.open_engine.Given.{Over}
use Rattle.rb_shell.proofs.script.open_engine.Goals.{After-close, After-from_residual, In_ok-store}
use Rattle.rb_shell.proofs.script.open_engine.Goals as goal

-- an error that is handed on has what its own has
handed_on : {T E : Type 0} (r : Result T E) (x : E) (P : E → Type 0) → IsErrAnd r (λ e. e ≡ x) → P x → IfErr r P
handed_on (Ok value) x P same has = absurd same
handed_on (Err e) x P same has = subst P (sym same) has

-- what the opening of the store gave
found : (g : Over) (c : In_ok-store g) → g.D.Disk.tells → Found g.D.Disk c.args.disk c.in_ok-store.store
found g c told = record {
  opens = c.in_ok-store.ensures.found told;
  stable = c.in_ok-store.ensures.stable told;
  none_waits = c.in_ok-store.ensures.pending;
  small = c.in_ok-store.ensures.small told;
  kept = c.in_ok-store.ensures.kept_ok told;
}

-- the laws of a store over that disk
laws : (g : Over) → g.D.Disk.tells → Laws (ghosts g.row.D g.D.Disk g.D.Disk-dict)
laws g told = record {
  stable_left = λ s b n i kept stands here. stable_left i stands here;
  stable_numbered = λ s b n kept stands. stands.numbered;
  stable_patched = λ s b n kept stands. stands.reads;
  now_counts = λ s t i kept le here. g.met.D.Disk.now_counts s.disk t i told le here;
  only_now = λ s i kept left. g.met.D.Disk.only_now s.disk i told left;
  holds_back_same = λ s. held_back_same s;
  holds_back_joined = λ a b c first second. held_back_joined a b c first second;
}

-- the state that a sound file opens to is that of the blocks that were found
opens_to : (g : Over) (c : In_ok-store g) → g.D.Disk.tells → (sound : IsSound (g.D.Disk.content c.args.disk)) → OpensTo (ghosts g.row.D g.D.Disk g.D.Disk-dict) sound.state c.in_ok-store.store
opens_to g c told sound =
    let s = c.in_ok-store.store in
    let same = same_of sound s.layout (blocks_in g.D.Disk s) s.number (c.in_ok-store.ensures.found told) in
    record {
      in_range = in_range s.layout;
      opening = same.opening;
      logged = same.logged;
      none_waits = λ kept. c.in_ok-store.ensures.pending;
      stable = λ kept. c.in_ok-store.ensures.stable told;
    }

-- an opening by a layout of the same numbers
as_found : (l : Layout) (blocks : List (List ℕ)) (lsn : ℕ) (c : List ℕ) (m : Layout) → shape_of m ≡ shape_of l → m.log ≡ l.log → OpensAt m c blocks lsn → Means l c blocks lsn
as_found l blocks lsn c m shape log opens =
    let same : m ≡ l = same_layout m l (record { tables = ap (λ (x : Shape). x.tables) shape; blocks = ap (λ (x : Shape). x.blocks) shape; segments = ap (λ (x : Shape). x.segments) shape; log = log }) in
    subst (λ (x : Layout). Means x c blocks lsn) same opens.means

-- calls that gave no group leave what each image means
images_alone : (g : Over) (c : After-close g) (going : Bool) → g.D.Disk.tells → Logs (ghosts g.row.D g.D.Disk g.D.Disk-dict) (c.in_ok-store.store) c.in-Err.store [] going
    → Leaves g.D.Disk c.in_ok-store.store.disk c.in-Err.store.disk (λ c2. Means c.in_ok-store.store.layout c2 (blocks_in g.D.Disk c.in_ok-store.store) c.in_ok-store.store.number)
images_alone g c going told logs =
    let s = c.in_ok-store.store in
    let read = blocks_in g.D.Disk s in
    let new = c.in-Err.store in
    let l = s.layout in
    let stands = c.in_ok-store.ensures.stable told in
    let groups = s.pending ++ [] in
    let none : length groups ≡ 0 = ap (λ (l : List (List Patch)). length (l ++ [])) c.in_ok-store.ensures.pending in
    let means : (c2 : List ℕ) → OpensToSome (Opens (shape_of l) (Some l.log)) s.number groups read c2 → Means l c2 read s.number =
    λ c2 some.
    let o = some.opening in
    let few = some.few in
    let z : some.count ≡ 0 = omega (arith, few, none) in
    as_found l read s.number c2 o.layout o.shape_is (same_Some o.layout.log l.log o.slots_are)
    (told_same (OpensAt o.layout c2) _ _ _ _ (ap (λ (j : ℕ). after_groups (s.number + 1) (take j groups) read) z) (omega (arith, z)) o.opens) in
    weaker g.D.Disk.moment g.D.Disk.image_since s.disk new.disk _ (λ c2. Means l c2 read s.number) means
    (disk_leaves g.D.Disk (ghosts g.row.D g.D.Disk g.D.Disk-dict) s new (OpensToSome (Opens (shape_of l) (Some l.log)) s.number groups read)
    (logs.any_moment told (laws g told) read s.number stands))

-- and of the file too, where nothing failed
unchanged : (g : Over) (c : After-close g) → g.D.Disk.tells → Logs (ghosts g.row.D g.D.Disk g.D.Disk-dict) (c.in_ok-store.store) c.in-Err.store [] true → LeftAlone g.D.Disk c.args.disk c.in-Err.store.disk
unchanged g c told logs =
    let s = c.in_ok-store.store in
    let read = blocks_in g.D.Disk s in
    let new = c.in-Err.store in
    let l = s.layout in
    let stands = c.in_ok-store.ensures.stable told in
    let none : length (s.pending ++ []) ≡ 0 = ap (λ (l : List (List Patch)). length (l ++ [])) c.in_ok-store.ensures.pending in
    let back : (k : ℕ) → k ≤ length (s.pending ++ []) → k ≡ 0 = λ k few. omega (arith, few, none) in
    let groups = s.pending ++ [] in
    let made : (k : ℕ) → k ≡ 0 → after_groups (s.number + 1) (take k groups) read ≡ read = λ k z. ap (λ (j : ℕ). after_groups (s.number + 1) (take j groups) read) z in
    let number : (k : ℕ) → k ≡ 0 → s.number + k ≡ s.number = λ k z. omega (arith, z) in
    let settled = logs.settles told refl read s.number stands in
    let zero_settled = back settled.count settled.few in
    let after : IsStable g.D.Disk new read s.number = told_same (IsStable g.D.Disk new) _ _ _ _ (made settled.count zero_settled) (number settled.count zero_settled) settled.settled in
    stays_alone g.D.Disk c.args.disk s new (found g (goal.at.returns-in-Err-clause-none g c).In_ok-store told)
    (as_found l read s.number (g.D.Disk.content new.disk) new.layout logs.same_shape (same_Some new.layout.log l.log logs.same_slots) after.opens)
    (images_alone g c true told logs)

pub returns-in-Ok-clause-opened : goal.returns-in-Ok-clause-opened
returns-in-Ok-clause-opened g c = λ told sound.
    let a = (goal.at.returns-in-Ok-clause-opened g c).In_ok-store in
    let o = c.in-Ok.ensures.opened told sound.state (opens_to g a told sound) in
    let stays = o.stays told in
    has_opened g.D.Disk c.args.disk (ghosts g.row.D g.D.Disk g.D.Disk-dict) c.in_ok-store.store c.in-Ok.engine sound (found g a told) (same_Some _ _ c.in-Ok.ensures.same_ok.slots) o.stands o.lsn o.back
    (record { later = stays.later; each = stays.each; earlier = stays.earlier })
    (λ im here. image_has (laws g told) c.in-Ok.engine sound.state o.stands (ap (λ (h : State). h.stopped) sound.opening.state) told im here)

pub returns-in-Ok-clause-store : goal.returns-in-Ok-clause-store
returns-in-Ok-clause-store g c = λ told.
    is_store g.D.Disk c.args.disk c.in_ok-store.store (found g (goal.at.returns-in-Ok-clause-store g c).In_ok-store told) (c.in-Ok.ensures.sound told)

pub returns-in-Err-clause-none : goal.returns-in-Err-clause-none
returns-in-Err-clause-none g c = λ told is st.
    not_store g.D.Disk c.args.disk c.in_ok-store.store (found g (goal.at.returns-in-Err-clause-none g c).In_ok-store told) (c.in-Err.ensures.none told is) st

pub returns-in-Err-clause-images : goal.returns-in-Err-clause-images
returns-in-Err-clause-images g c = λ told.
    let a = (goal.at.returns-in-Err-clause-images g c).In_ok-store in
    subst (λ d. WasStopped g.D.Disk c.args.disk d) (sym c.close.ensures) (record {
      images = λ sound. let stays = c.in-Err.ensures.stays told sound.state (opens_to g a told sound) told in
          opens_same g.D.Disk c.args.disk c.in_ok-store.store c.in-Err.store.disk sound (found g a told) (record { later = stays.later; each = stays.each; earlier = stays.earlier });
      damaged = λ no_store.
          let logs = c.in-Err.ensures.untouched told (λ can. no_store (is_store g.D.Disk c.args.disk c.in_ok-store.store (found g a told) can)) in
          stays_damaged g.D.Disk c.args.disk c.in_ok-store.store c.in-Err.store (found g a told) (images_alone g c logs.0 told logs.1);
      none = λ nothing. absurd (nothing c.in_ok-store.store.layout (blocks_in g.D.Disk c.in_ok-store.store) c.in_ok-store.store.number (c.in_ok-store.ensures.found told).means);
    })

pub returns-in-Err-clause-left_alone : goal.returns-in-Err-clause-left_alone
returns-in-Err-clause-left_alone g c = λ told other.
    subst (λ d. LeftAlone g.D.Disk c.args.disk d) (sym c.close.ensures) (unchanged g c told (c.in-Err.ensures.unchanged other))

pub returns-in_err-store-clause-none : goal.returns-in_err-store-clause-none
returns-in_err-store-clause-none g c = λ told. handed_on _ c.in_err-store.field-0.0 _ c.from_residual.ensures.1
    (λ is st. no_opening (g.D.Disk.content c.args.disk) (c.in_err-store.ensures.none told is) st)

pub returns-in_err-store-clause-images : goal.returns-in_err-store-clause-images
returns-in_err-store-clause-images g c = λ told. handed_on _ c.in_err-store.field-0.0 _ c.from_residual.ensures.1
    (let alone = c.in_err-store.ensures.kept_err told in record {
      images = λ sound. alone_same g.D.Disk c.args.disk c.in_err-store.field-0.0.1 sound alone;
      damaged = λ no_store l blocks lsn means. alone.images l blocks lsn means;
      none = alone.none;
    })

pub returns-in_err-store-clause-left_alone : goal.returns-in_err-store-clause-left_alone
returns-in_err-store-clause-left_alone g c = λ told. handed_on _ c.in_err-store.field-0.0 _ c.from_residual.ensures.1
    (λ other. c.in_err-store.ensures.kept_err told)
