-- The live records of a slot are those on its chain, and so the committed cells of a home are told by the blocks.
use Rattle.std.proofs.Common.{◌≡◌, inl, inr, ⊎_elim, ◌<◌, ◌≤◌, ◌*◌, ◌/◌, ◌%◌, ℕ, List, [], ◌∷◌, length, map, Some, refl, sym, ◌∙◌, ap, subst, arith}
use Rattle.std.proofs.lemmas.Bool.{cases_eq}
use Rattle.rb_base.specs.Blocks.{block_of}
use Rattle.rb_base.specs.declared.ids.Uba.{Uba}
use Rattle.rb_base.specs.declared.ids.Xid.{Xid}
use Rattle.rb_base.specs.declared.shape.Shape.{Shape}
use Rattle.rb_base.specs.declared.sizes.TheConstants.{ACTIVE, SLOTS}
use Rattle.law_committed.proofs.Numbers.{in_here}
use Rattle.law_committed.specs.Files.{CommittedAt, LiveRecord, OnChain}
use Rattle.law_committed.specs.First.{CommittedCell, IsLive}
use Rattle.rb_segment.specs.Header.{Segment, record_in, slot_in}
use Rattle.law_blocks.proofs.Addresses.{listed_reads}
use Rattle.law_blocks.proofs.Homes.{own_here}
use Rattle.law_blocks.specs.Says.{walk_record, walk_undo}
use Rattle.law_blocks.specs.Standing.{Standing, env_of, homes_of, segments_of}
use Rattle.law_blocks.specs.Values.{Listed, Past, SlotStands, slot_of, wraps_of}
use Rattle.rb_segment.specs.Segments.{commit_scn}
use Rattle.rb_undoblock.specs.Undo.{undo_at}
use Rattle.rb_undoblock.specs.declared.record.UndoRecord.{UndoRecord}
use Rattle.law_home.proofs.Homes.{live_elsewhere, live_here}
use Rattle.law_home.proofs.Lives.{own_within}
use Rattle.law_home.specs.Homes.{here}
use Rattle.law_home.specs.Kinds.{Cell, Undo}
use Rattle.law_home.specs.Walk.{Change, Env, In, own}

home_here : (b : ℕ) (chs : List Change) (c : Change) → In c (here b chs) → c.home ≡ b
home_here b [] c named = absurd named
home_here b (ch ∷ more) c named = elim (cases_eq ch.home b) [
  | inl is ↦
      let n : In c (ch ∷ here b more) = subst (λ (z : List Change). In c z) (live_here b more ch is) named in
      ⊎_elim (λ first. ap (λ (z : Change). z.home) (sym first) ∙ is) (λ later. home_here b more c later) n
  | inr ne ↦ home_here b more c (subst (λ (z : List Change). In c z) (live_elsewhere b more ch ne) named)
]

here_in : (b : ℕ) (chs : List Change) (c : Change) → In c chs → c.home ≡ b → In c (here b chs)
here_in b [] c named at = named
here_in b (ch ∷ more) c named at = elim (cases_eq ch.home b) [
  | inl is ↦
      let n : In c (ch ∷ here b more) = ⊎_elim (λ first. inl first) (λ later. inr (here_in b more c later at)) named in
      subst (λ (z : List Change). In c z) (sym (live_here b more ch is)) n
  | inr ne ↦ ⊎_elim
      (λ first. absurd (ne (ap (λ (z : Change). z.home) first ∙ at)))
      (λ later. subst (λ (z : List Change). In c z) (sym (live_elsewhere b more ch ne)) (here_in b more c later at))
      named
]

module _ (shape : Shape) (blocks : List (List ℕ)) (x : Xid) (Saved : UndoRecord → Type 0) where
  abbrev Seen : Env
  Seen = env_of shape blocks

  -- the record of a change in a list
  abbrev Told : Change → UndoRecord → Type 0
  Told c u = (Seen.store c.place ≡ Some (walk_undo shape x.seg u)) × (u.home ≡ c.home)

  told_first : (uba : Uba) (ch : Change) (more : List Change) (listed : Listed shape (segments_of shape blocks x.seg) x Saved uba (ch ∷ more))
      → Told ch listed.4.0
  told_first uba ch more listed = (
    ap (λ (g : ℕ). walk_record shape g (record_in (segments_of shape blocks g) ch.place.index)) listed.3
        ∙ ap (walk_record shape x.seg) listed.4.1,
    listed.4.5,
  )

  reads : (uba : Uba) (ch : Change) (more : List Change) (listed : Listed shape (segments_of shape blocks x.seg) x Saved uba (ch ∷ more))
      → undo_at (block_of blocks uba.block) uba.rec ≡ listed.4.0
  reads uba ch more listed = listed_reads shape blocks x Saved uba ch more listed.4.0 listed listed.4.1

  pub chain_to : (chs : List Change) (uba : Uba) → Listed shape (segments_of shape blocks x.seg) x Saved uba chs → (c : Change) → In c chs
      → (u : UndoRecord) × OnChain blocks (length chs) uba u × Told c u
  chain_to [] uba listed c named = absurd named
  chain_to (ch ∷ more) uba listed c named = ⊎_elim
      (λ first. (listed.4.0, inl (reads uba ch more listed), subst (λ (z : Change). Told z listed.4.0) first (told_first uba ch more listed)))
      (λ later.
      let deep : (u : UndoRecord) × OnChain blocks (length more) listed.4.0.previous u × Told c u = chain_to more listed.4.0.previous listed.4.7 c later in
      (deep.0, inr (subst (λ (z : UndoRecord). OnChain blocks (length more) z.previous deep.0) (sym (reads uba ch more listed)) deep.1), deep.2))
      named

  pub chain_from : (chs : List Change) (uba : Uba) → Listed shape (segments_of shape blocks x.seg) x Saved uba chs → (u : UndoRecord)
      → OnChain blocks (length chs) uba u → (c : Change) × In c chs × Told c u
  chain_from [] uba listed u on = absurd on
  chain_from (ch ∷ more) uba listed u on = ⊎_elim
      (λ first. (ch, inl refl, subst (λ (z : UndoRecord). Told ch z) (sym (reads uba ch more listed) ∙ first) (told_first uba ch more listed)))
      (λ later.
      let deep : (c : Change) × In c more × Told c u = chain_from more listed.4.0.previous listed.4.7 u
      (subst (λ (z : UndoRecord). OnChain blocks (length more) z.previous u) (reads uba ch more listed) later) in
      (deep.0, inr deep.1, deep.2))
      on

module _ (shape : Shape) (blocks : List (List ℕ)) (past : Past) (lives : List (List Change)) (stand : Standing shape blocks past lives) (b : ℕ) where
  abbrev Seg : ℕ → Segment
  Seg = segments_of shape blocks

  abbrev Here : List (List Change)
  Here = map (here b) lives

  some_of : (chs : List Change) (c : Change) → In c chs → (h : Change) × (more : List Change) × (chs ≡ h ∷ more)
  some_of [] c named = absurd named
  some_of (h ∷ more) c named = (h, more, refl)

  slot_stands : (t : ℕ) → t < SLOTS * shape.segments → SlotStands shape (commit_scn shape blocks) (wraps_of Seg) (t / SLOTS) (Seg (t / SLOTS)) (t % SLOTS) (own lives t)
  slot_stands t within = stand.stands.slots t within

  -- a live record of the home is one on the chain
  to_chain : (t j : ℕ) (r : Undo) → IsLive (env_of shape blocks) Here t r → r.cell ≡ j
      → (u : UndoRecord) × LiveRecord shape blocks t b j u × (walk_undo shape (t / SLOTS) u ≡ r)
  to_chain t j r live at =
      let named : In live.change (here b (own lives t)) = subst (λ (z : List Change). In live.change z) (own_here b lives t) live.live in
      let one : In live.change (own lives t) = in_here b (own lives t) live.change named in
      let f : (h : Change) × (more : List Change) × (own lives t ≡ h ∷ more) = some_of (own lives t) live.change one in
      let counted : length lives ≡ SLOTS * shape.segments = stand.stands.slots_counted in
      let in_lives : t < length lives = own_within lives t f.0 f.1 f.2 in
      let within : t < SLOTS * shape.segments = omega (arith, counted, in_lives) in
      elim (cases_eq (slot_in (Seg (t / SLOTS)).header (t % SLOTS)).state ACTIVE) [
        | inl active ↦
            let slot = (slot_stands t within).active active in
            let c = chain_to shape blocks _ _ (own lives t) _ slot.listed live.change one in
            let same : walk_undo shape (t / SLOTS) c.0 ≡ r =
            let a : (env_of shape blocks).store live.change.place ≡ Some (walk_undo shape (t / SLOTS) c.0) = c.2.0 in
            let e : (env_of shape blocks).store live.change.place ≡ Some r = live.there in cc in
            let at_home : c.0.home ≡ b = c.2.1 ∙ home_here b (own lives t) live.change named in
            let runs : (slot_of Seg t).state ≡ ACTIVE = active in (
              c.0,
              record {
                slot = within;
                active = cc;
                on_chain = subst (λ (n : ℕ). OnChain blocks n (slot_of Seg t).newest_at c.0) (sym slot.count) c.1;
                home = cc;
                cell = ap (λ (z : Undo). z.cell) same ∙ at;
              },
              same,
            )
        | inr idle ↦
            let none : own lives t ≡ [] = (slot_stands t within).idle idle in
            let some : own lives t ≡ f.0 ∷ f.1 = f.2 in
            absurd (cc)
      ]

  from_chain : (t j : ℕ) (u : UndoRecord) → LiveRecord shape blocks t b j u → IsLive (env_of shape blocks) Here t (walk_undo shape (t / SLOTS) u)
  from_chain t j u live =
      let slot = (slot_stands t live.slot).active live.active in
      let c = chain_from shape blocks _ _ (own lives t) _ slot.listed u
      (subst (λ (n : ℕ). OnChain blocks n (slot_of Seg t).newest_at u) slot.count live.on_chain) in
      record {
        change = c.0;
        live = subst (λ (z : List Change). In c.0 z) (sym (own_here b lives t)) (here_in b (own lives t) c.0 c.1 (sym c.2.1 ∙ live.home));
        there = c.2.0;
      }

  pub told_by_blocks : (j : ℕ) (x : Cell) → CommittedCell (env_of shape blocks) Here (homes_of shape blocks b) j x → CommittedAt shape blocks b j x
  told_by_blocks j x is = ⊎_elim
      (λ stays. inl (λ t u live. stays.0 t (walk_undo shape (t / SLOTS) u) (from_chain t j u live) live.cell, stays.1))
      (λ f.
      let first = f.2 in
      let c = to_chain f.0 j f.1 first.live first.cell in
      let number : c.0.number ≡ f.1.number = ap (λ (z : Undo). z.number) c.2 in
      inr (
        f.0,
        c.0,
        record {
          live = c.1;
          lowest = λ q live.
              let low : f.1.number ≤ q.number = first.lowest (walk_undo shape (f.0 / SLOTS) q) (from_chain f.0 j q live) live.cell in
              omega (arith, number, low);
        },
        ap (λ (z : Undo). z.cell_before) c.2 ∙ f.3,
      ))
      is

  pub tells_blocks : (j : ℕ) (x : Cell) → CommittedAt shape blocks b j x → CommittedCell (env_of shape blocks) Here (homes_of shape blocks b) j x
  tells_blocks j x is = ⊎_elim
      (λ stays. inl (λ t r live at. let c = to_chain t j r live at in stays.0 t c.0 c.1, stays.1))
      (λ f.
      let first = f.2 in
      inr (
        f.0,
        walk_undo shape (f.0 / SLOTS) f.1,
        record {
          live = from_chain f.0 j f.1 first.live;
          cell = first.live.cell;
          lowest = λ q live at.
              let c = to_chain f.0 j q live at in
              let low : f.1.number ≤ c.0.number = first.lowest c.0 c.1 in
              let number : c.0.number ≡ q.number = ap (λ (z : Undo). z.number) c.2 in
              omega (arith, low, number);
        },
        f.3,
      ))
      is
