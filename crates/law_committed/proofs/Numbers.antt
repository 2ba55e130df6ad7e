-- The numbers of a slot's live records fall, over all homes and so in each.
use Rattle.std.proofs.Common.{◌≡◌, inl, inr, ⊎_elim, ◌<◌, ◌≤◌, ◌/◌, ◌%◌, ◌*◌, ℕ, suc, List, [], ◌∷◌, length, map, Some, refl, sym, ◌∙◌, ap, subst, arith}
use Rattle.std.proofs.lemmas.Bool.{cases_eq}
use Rattle.rb_base.specs.declared.ids.Uba.{Uba}
use Rattle.rb_base.specs.declared.ids.Xid.{Xid}
use Rattle.rb_base.specs.declared.shape.Shape.{Shape}
use Rattle.law_committed.specs.First.{Falls}
use Rattle.rb_segment.specs.Header.{Segment, record_in, slot_in}
use Rattle.law_blocks.proofs.Homes.{own_here}
use Rattle.law_blocks.proofs.Seen.{recorded}
use Rattle.law_blocks.specs.Says.{says, walk_undo}
use Rattle.law_blocks.specs.Values.{Listed, Past, SlotStands, StandingAs, wraps_of}
use Rattle.rb_base.specs.declared.sizes.TheConstants.{ACTIVE, SLOTS}
use Rattle.rb_undoblock.specs.declared.record.UndoRecord.{UndoRecord}
use Rattle.law_home.proofs.Homes.{live_elsewhere, live_here}
use Rattle.law_home.proofs.Lives.{own_within}
use Rattle.law_home.specs.Homes.{here}
use Rattle.law_home.specs.Kinds.{Undo}
use Rattle.law_home.specs.Walk.{Change, Env, Home, In, own}

module _ (shape : Shape) (segments : ℕ → Segment) (x : Xid) (Saved : UndoRecord → Type 0) where
  abbrev Seen : Env
  Seen = says shape segments

  numbered : (uba : Uba) (ch : Change) (more : List Change) → Listed shape (segments x.seg) x Saved uba (ch ∷ more) → (r : Undo)
      → Seen.store ch.place ≡ Some r → r.number ≡ suc (length more)
  numbered uba ch more listed r there =
      let u : UndoRecord = listed.4.0 in
      let at : record_in (segments ch.place.seg) ch.place.index ≡ Some u =
      ap (λ (g : ℕ). record_in (segments g) ch.place.index) listed.3 ∙ listed.4.1 in
      let f : (u : UndoRecord) × (record_in (segments ch.place.seg) ch.place.index ≡ Some u) × (walk_undo shape ch.place.seg u ≡ r) =
      recorded shape ch.place.seg (record_in (segments ch.place.seg) ch.place.index) r there in
      let is : record_in (segments ch.place.seg) ch.place.index ≡ Some f.0 = f.1 in
      let same : u ≡ f.0 = cc in
      ap (λ (z : Undo). z.number) (sym f.2) ∙ (ap (λ (z : UndoRecord). z.number) (sym same) ∙ listed.4.4)

  counted : (chs : List Change) (uba : Uba) → Listed shape (segments x.seg) x Saved uba chs → (c : Change) (q : Undo) → In c chs
      → Seen.store c.place ≡ Some q → q.number ≤ length chs
  counted [] uba listed c q named there = absurd named
  counted (ch ∷ more) uba listed c q named there = ⊎_elim
      (λ first.
      let n : q.number ≡ suc (length more) = numbered uba ch more listed q (ap (λ (z : Change). Seen.store z.place) first ∙ there) in
      omega (arith, n))
      (λ later.
      let n : q.number ≤ length more = counted more listed.4.0.previous listed.4.7 c q later there in
      omega (arith, n))
      named

  listed_falls : (chs : List Change) (uba : Uba) → Listed shape (segments x.seg) x Saved uba chs → Falls Seen chs
  listed_falls [] uba listed = tt
  listed_falls (ch ∷ more) uba listed = (
    λ c r q later at there.
        let n : r.number ≡ suc (length more) = numbered uba ch more listed r at in
        let k : q.number ≤ length more = counted more listed.4.0.previous listed.4.7 c q later there in
        omega (arith, n, k),
    listed_falls more listed.4.0.previous listed.4.7,
  )

pub in_here : (b : ℕ) (chs : List Change) (c : Change) → In c (here b chs) → In c chs
in_here b [] c named = named
in_here b (ch ∷ more) c named = elim (cases_eq ch.home b) [
  | inl is ↦
      let n : In c (ch ∷ here b more) = subst (λ (z : List Change). In c z) (live_here b more ch is) named in
      ⊎_elim (λ first. inl first) (λ later. inr (in_here b more c later)) n
  | inr ne ↦ inr (in_here b more c (subst (λ (z : List Change). In c z) (live_elsewhere b more ch ne) named))
]

here_falls : (env : Env) (b : ℕ) (chs : List Change) → Falls env chs → Falls env (here b chs)
here_falls env b [] falls = tt
here_falls env b (ch ∷ more) falls = elim (cases_eq ch.home b) [
  | inl is ↦
      let all : Falls env (ch ∷ here b more) = (λ c r q later at there. falls.0 c r q (in_here b more c later) at there, here_falls env b more falls.1) in
      subst (λ (z : List Change). Falls env z) (sym (live_here b more ch is)) all
  | inr ne ↦ subst (λ (z : List Change). Falls env z) (sym (live_elsewhere b more ch ne)) (here_falls env b more falls.1)
]

module _ (shape : Shape) (commit logged : ℕ) (segments : ℕ → Segment) (homes : ℕ → Home) (past : Past) (lives : List (List Change))
    (stand : StandingAs shape commit logged segments homes past lives) where
  slot_falls : (t : ℕ) (chs : List Change) → own lives t ≡ chs → Falls (says shape segments) chs
  slot_falls t [] is = tt
  slot_falls t (ch ∷ more) is =
      let counted : length lives ≡ SLOTS * shape.segments = stand.slots_counted in
      let within : t < length lives = own_within lives t ch more is in
      let slot : SlotStands shape commit (wraps_of segments) (t / SLOTS) (segments (t / SLOTS)) (t % SLOTS) (own lives t) = stand.slots t (omega (arith, counted, within)) in
      elim (cases_eq (slot_in (segments (t / SLOTS)).header (t % SLOTS)).state ACTIVE) [
        | inl active ↦ subst (λ (z : List Change). Falls (says shape segments) z) is
            (listed_falls shape segments _ _ (own lives t) _ (slot.active active).listed)
        | inr idle ↦ let none : own lives t ≡ [] = slot.idle idle in absurd (cc)
      ]

  pub standing_falls : (b t : ℕ) → Falls (says shape segments) (own (map (here b) lives) t)
  standing_falls b t = subst (λ (z : List Change). Falls (says shape segments) z) (sym (own_here b lives t))
      (here_falls (says shape segments) b (own lives t) (slot_falls t (own lives t) refl))
