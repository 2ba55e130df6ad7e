-- Which transaction a table slot is of, read in the header of its segment: the dead one of a slot, and how many changes it has.
use Rattle.std.proofs.Common.{nat_lt, ◌&&◌, IfNone, IfSome, ◌≡◌, ◌≢◌, inl, inr, ◌<◌, ◌≤◌, ◌+◌, ◌*◌, ◌/◌, ◌%◌, ℕ, true, false, List, [], length, Option, Some, None, refl, sym, ◌∙◌, ap, subst, arith}
use Rattle.std.proofs.lemmas.Bool.{and_from, cases_lt, cond-true, cond-false, false≢true}
use Rattle.std.proofs.lemmas.Bool.Decides.{nat_tests}
use Rattle.std.proofs.lemmas.List.FromFn.{get_or-map-range_with_len}
use Rattle.std.specs.Option.{is_some}
use Rattle.rb_base.specs.Blocks.{block_of, header_block}
use Rattle.rb_base.specs.declared.ids.Xid.{Xid}
use Rattle.rb_base.specs.declared.shape.Shape.{Shape}
use Rattle.rb_base.specs.declared.sizes.TheConstants.{ACTIVE, SLOTS}
use Rattle.rb_cleanout.specs.Cleaned.{look_of}
use Rattle.rb_dead.specs.Takes.{FoundDead}
use Rattle.rb_model.specs.Book.{Owner, book_at, slot_owner}
use Rattle.rb_model.specs.State.{State, owner_at, session_count, session_own}
use Rattle.rb_segment.specs.Books.{IsOwned}
use Rattle.rb_segment.specs.Header.{Header, header_of, slot_in}
use Rattle.rb_sessions.specs.Kept.{KeptSession, kept_at}
use Rattle.rb_sessions.specs.declared.sessions.TheConstants.{SESSIONS}
use Rattle.rb_txntable.specs.Looks.{slot_look}
use Rattle.rb_txntable.specs.declared.looks.Look.TheVariants.{Active}
use Rattle.rb_txntable.specs.Slots.{no_slot, slot_at}
use Rattle.rb_txntable.specs.declared.slots.TableSlot.{TableSlot}
use Rattle.law_blocks.proofs.SegmentRead.{header_is}
use Rattle.law_blocks.proofs.States.{length_newest, lives_owned}
use Rattle.law_blocks.specs.Standing.{env_of, segments_of}
use Rattle.law_blocks.specs.States.{BlocksStand, Owns}
use Rattle.law_dead.proofs.Cleared.{dead_owns}
use Rattle.rb_model.specs.Dead.{dead_at, dead_owner, is_dead}
use Rattle.law_sessions.proofs.Few.{own_few}
use Rattle.law_sessions.specs.Views.{Remembers}

slot_is : (block : List ℕ) (i : ℕ) → i < SLOTS → slot_in (header_of block) i ≡ slot_at block i
unfolding header_of
slot_is block i few = get_or-map-range_with_len (slot_at block) 0 SLOTS i i no_slot few (omega arith)

-- the look at a transaction of a slot that there is
pub look_same : (shape : Shape) (blocks : List (List ℕ)) (x : Xid) → x.seg < shape.segments → x.slot < SLOTS → look_of shape blocks x ≡ (env_of shape blocks).look x
look_same shape blocks x there few =
    let seg : nat_lt x.seg shape.segments ≡ true = grind (arith, nat_tests, there) in
    let slot : nat_lt x.slot SLOTS ≡ true = grind (arith, nat_tests, few) in
    let read : slot_in (segments_of shape blocks x.seg).header x.slot ≡ slot_at (block_of blocks (header_block shape x.seg)) x.slot = ap (λ (z : Header). slot_in z x.slot) (header_is shape blocks x.seg) ∙ slot_is (block_of blocks (header_block shape x.seg)) x.slot few in
    cond-true (nat_lt x.seg shape.segments && nat_lt x.slot SLOTS) (slot_look (slot_at (block_of blocks (header_block shape x.seg)) x.slot) x.wrap) Active (and_from (nat_lt x.seg shape.segments) (nat_lt x.slot SLOTS) seg slot)
    ∙ ap (λ (z : TableSlot). slot_look z x.wrap) (sym read)

module _ (h : State) (xids : List Xid) (blocks : List (List ℕ)) (stand : BlocksStand h xids blocks) (g i : ℕ) (there : g < h.shape.segments) (few : i < SLOTS) where
  abbrev pub Here : ℕ
  Here = SLOTS * g + i

  seg_is : Here / 16 ≡ g
  seg_is = omega (arith, few)

  place_is : Here % 16 ≡ i
  place_is = omega (arith, few)

  within : Here < 16 * h.shape.segments
  within = omega (arith, few, there)

  abbrev pub InHeader : TableSlot
  InHeader = slot_in (segments_of h.shape blocks g).header i

  -- what the header's bytes say is the slot of the segment
  pub slot_read : (slot : TableSlot) (block : List ℕ) → block ≡ block_of blocks (header_block h.shape g) → slot ≡ slot_at block i → InHeader ≡ slot
  slot_read slot block read is =
      ap (λ (z : Header). slot_in z i) (header_is h.shape blocks g)
      ∙ (slot_is (block_of blocks (header_block h.shape g)) i few
      ∙ (ap (λ (b : List ℕ). slot_at b i) (sym read) ∙ sym is))

  owner_here : owner_at h Here ≡ slot_owner (book_at h.books g) i
  owner_here = ap (λ (z : ℕ). slot_owner (book_at h.books z) (Here % 16)) seg_is ∙ ap (λ (z : ℕ). slot_owner (book_at h.books g) z) place_is

  owned_here : IsOwned (segments_of h.shape blocks g).header InHeader (owner_at h Here)
  owned_here = subst (λ (o : Option Owner). IsOwned (segments_of h.shape blocks g).header InHeader o) (sym owner_here) ((stand.tell.books g there).owners i few)

  -- a slot that no transaction has
  idle_none : InHeader.state ≢ ACTIVE → dead_at h Here ≡ None
  idle_none idle = by (owner_at h Here) owned_here
    where
      by : (o : Option Owner) → IsOwned (segments_of h.shape blocks g).header InHeader o → dead_owner o ≡ None
      by None is = refl
      by (Some o) is = absurd (idle is.state)

  -- one of a living session
  living_none : (s : ℕ) → Owns h s Here → s ≤ session_count → dead_at h Here ≡ None
  living_none s owns few_s =
      let alive : is_dead owns.owner.session ≡ false = (let n = owns.session in let less : owns.owner.session ≤ session_count = omega (arith, n, few_s) in grind (arith, nat_tests, less)) in
      ap dead_owner owns.at ∙ cond-false (is_dead owns.owner.session) (Some owns.owner.session) None alive

  abbrev pub Id : Xid
  Id = record { seg = g; slot = i; wrap = InHeader.wrap }

  id_here : (env_of h.shape blocks).xid Here ≡ Id
  id_here =
      ap (λ (z : ℕ). let x : Xid = record { seg = z; slot = Here % 16; wrap = (slot_in (segments_of h.shape blocks z).header (Here % 16)).wrap } in x) seg_is
      ∙ ap (λ (z : ℕ). let x : Xid = record { seg = g; slot = z; wrap = (slot_in (segments_of h.shape blocks g).header z).wrap } in x) place_is

  slot_named : (t : ℕ) → Id ≡ (env_of h.shape blocks).xid t → t ≡ Here
  slot_named t is =
      let seg : g ≡ t / 16 = ap (λ (z : Xid). z.seg) is in
      let place : i ≡ t % 16 = ap (λ (z : Xid). z.slot) is in
      omega (arith, seg, place)

  module _ (sessions : List KeptSession) (remembers : Remembers h xids (env_of h.shape blocks) sessions) where
    -- a session of the table has the slot
    known_none : (s : ℕ) → 1 ≤ s → s ≤ SESSIONS → (kept_at sessions s).own ≡ Some Id → dead_at h Here ≡ None
    known_none s low high own =
        let found : (t : ℕ) × Owns h s t × (Id ≡ (env_of h.shape blocks).xid t) = (remembers.each s low high).id.owned Id own in
        let at : found.0 ≡ Here = slot_named found.0 found.2 in
        living_none s (subst (λ (t : ℕ). Owns h s t) at found.1) high

    changes_here : (who : ℕ) → Owns h who Here → InHeader.state ≡ ACTIVE → length (session_own h who) ≡ InHeader.live
    changes_here who owns active =
        let slot = (stand.standing.stands.slots Here within) in
        let same : slot_in (segments_of h.shape blocks (Here / 16)).header (Here % 16) ≡ InHeader = ap (λ (z : ℕ). slot_in (segments_of h.shape blocks z).header (Here % 16)) seg_is ∙ ap (λ (z : ℕ). slot_in (segments_of h.shape blocks g).header z) place_is in
        let count = (slot.active (ap (λ (z : TableSlot). z.state) same ∙ active)).count in
        let mine = lives_owned h (env_of h.shape blocks) who Here within owns in
        let long = length_newest h.shape ((env_of h.shape blocks).xid Here) 1 (session_own h who) [] in
        let live = ap (λ (z : TableSlot). z.live) same in
        let as_long = ap (λ (l : List _). length l) mine in
        omega (arith, count, long, live, as_long)

    -- and no session of the table has it
    found_dead : InHeader.state ≡ ACTIVE → ((s : ℕ) → 1 ≤ s → s ≤ SESSIONS → (kept_at sessions s).own ≢ Some Id) → FoundDead h blocks Here (Some (record { xid = Id; live = InHeader.live }))
    found_dead active nobody = by (owner_at h Here) refl owned_here
      where
        by : (o : Option Owner) → owner_at h Here ≡ o → IsOwned (segments_of h.shape blocks g).header InHeader o → FoundDead h blocks Here (Some (record { xid = Id; live = InHeader.live }))
        by None at is = absurd (is active)
        by (Some o) at is =
            let owns : Owns h o.session Here = record { owner = o; at = at; session = refl } in
            elim (cases_lt session_count o.session) [
              | inr alive ↦
                  let low = (stand.tell.owner_there o.session Here owns).0 in
                  absurd (nobody o.session low alive ((remembers.each o.session low alive).id.owns Here owns ∙ ap (λ (x : Xid). Some x) id_here))
              | inl more ↦
                  let number : is_dead o.session ≡ true = grind (arith, nat_tests, more) in (
                    o.session,
                    ap dead_owner at ∙ cond-true (is_dead o.session) (Some o.session) None number,
                    record {
                      owns = λ t other. ap (λ (x : Xid). Some x) (sym id_here ∙ ap (env_of h.shape blocks).xid (stand.tell.one_slot o.session Here t owns other));
                      owned = λ x own. (Here, owns, (let same : x ≡ Id = (let e : Some Id ≡ Some x = own in cc) in same ∙ sym id_here));
                    },
                    changes_here o.session owns active,
                  )
            ]

  -- The same of what was read.
  module _ (slot : TableSlot) (at : InHeader ≡ slot) where
    abbrev ReadId : Xid
    ReadId = record { seg = g; slot = i; wrap = slot.wrap }

    pub none_if_idle : slot.state ≢ ACTIVE → dead_at h Here ≡ None
    none_if_idle idle = idle_none (λ is. idle (ap (λ (z : TableSlot). z.state) (sym at) ∙ is))

    module _ (sessions : List KeptSession) (remembers : Remembers h xids (env_of h.shape blocks) sessions) (o : Option ℕ) where
      pub none_if_owned : is_some o ≡ true → IfSome o (λ s. (1 ≤ s) × (s ≤ SESSIONS) × ((kept_at sessions s).own ≡ Some ReadId)) → dead_at h Here ≡ None
      none_if_owned some owner = by o some owner
        where
          by : (o : Option ℕ) → is_some o ≡ true → IfSome o (λ s. (1 ≤ s) × (s ≤ SESSIONS) × ((kept_at sessions s).own ≡ Some ReadId)) → dead_at h Here ≡ None
          by None some owner = absurd (false≢true some)
          by (Some s) some owner = known_none sessions remembers s owner.0 owner.1 (subst (λ (z : TableSlot). (kept_at sessions s).own ≡ Some (record { seg = g; slot = i; wrap = z.wrap })) (sym at) owner.2)

      pub found_if_none : is_some o ≡ false → slot.state ≡ ACTIVE → IfNone o ((s : ℕ) → 1 ≤ s → s ≤ SESSIONS → (kept_at sessions s).own ≢ Some ReadId) → FoundDead h blocks Here (Some (record { xid = ReadId; live = slot.live }))
      found_if_none none active nobody = by o none nobody
        where
          by : (o : Option ℕ) → is_some o ≡ false → IfNone o ((s : ℕ) → 1 ≤ s → s ≤ SESSIONS → (kept_at sessions s).own ≢ Some ReadId) → FoundDead h blocks Here (Some (record { xid = ReadId; live = slot.live }))
          by (Some s) none nobody = absurd (false≢true (sym none))
          by None none nobody =
              subst (λ (z : TableSlot). FoundDead h blocks Here (Some (record { xid = record { seg = g; slot = i; wrap = z.wrap }; live = z.live }))) at
              (found_dead sessions remembers (ap (λ (z : TableSlot). z.state) at ∙ active)
              (subst (λ (z : TableSlot). (s : ℕ) → 1 ≤ s → s ≤ SESSIONS → (kept_at sessions s).own ≢ Some (record { seg = g; slot = i; wrap = z.wrap })) (sym at) nobody))

-- A dead transaction has no more changes than its segment has records.
pub few_changes : (h : State) (xids : List Xid) (blocks : List (List ℕ)) → BlocksStand h xids blocks → (t d : ℕ) → dead_at h t ≡ Some d → length (session_own h d) ≤ 320
few_changes h xids blocks stand t d dead = own_few h xids blocks stand d t (dead_owns h t d dead).0
