-- Live records that are listed make a chain, as an opening tests it.
use Rattle.std.proofs.Common.{◌≡◌, ◌<◌, ◌+◌, ◌-◌, ◌*◌, ◌/◌, ◌%◌, ℕ, suc, List, [], ◌∷◌, length, get_or, Option, Some, None, refl, sym, ◌∙◌, ap, subst, arith}
use Rattle.std.proofs.Math.Nat.{div-add-mod, mod-lt}
use Rattle.rb_undoblock.specs.declared.record.TheConstants.{UNDO_RECORDS}
use Rattle.rb_ring.specs.declared.extents.TheConstants.{EXTENT_BLOCKS, EXTENT_RECORDS}
use Rattle.rb_itl.specs.declared.slots.TheConstants.{ENTRIES}
use Rattle.rb_cell.specs.declared.cell.TheConstants.{CELLS}
use Rattle.rb_base.specs.Blocks.{header_block, table_blocks}
use Rattle.rb_base.specs.declared.ids.Uba.{Uba}
use Rattle.rb_base.specs.declared.ids.Xid.{Xid}
use Rattle.rb_base.specs.declared.shape.Shape.{Shape}
use Rattle.rb_model.specs.Book.{turn_of}
use Rattle.rb_model.specs.Change.{Place}
use Rattle.rb_segment.proofs.Addresses.{address_reads}
use Rattle.rb_segment.proofs.Records.{found, made_of}
use Rattle.rb_segment.specs.Header.{Segment, extent_with, head_turn, ord_in, position_of, record_in, undo_in}
use Rattle.rb_segment.specs.Moves.{IsAddress}
use Rattle.rb_sound.specs.Active.{Chain, IsLive, IsValid, extent_named, undo_named}
use Rattle.law_blocks.proofs.Addresses.{place_turn}
use Rattle.law_blocks.specs.Says.{place_of}
use Rattle.law_blocks.specs.Values.{Listed}
use Rattle.rb_undoblock.specs.Undo.{no_undo}
use Rattle.rb_undoblock.specs.declared.record.UndoRecord.{UndoRecord}
use Rattle.law_home.specs.Walk.{Change}

joined : (a b c : ℕ) → a + (b + c) ≡ a + b + c
joined a b c = omega arith

forty : 0 < EXTENT_RECORDS
forty = omega arith

-- The segment's head and its records tell how many were made.
module _ (shape : Shape) (s : Segment) (x : Xid) (count : s.header.writes + 2 * EXTENT_RECORDS ≡ EXTENT_RECORDS * head_turn s.header + s.header.records) where
  -- where a record is found, an extent has its turn
  turn_kept : (position : ℕ) (r : UndoRecord) (o : Option ℕ) → undo_in s.undo position o ≡ Some r → (e : ℕ) × (o ≡ Some e)
  turn_kept position r None is = let none : None ≡ Some r = is in absurd (cc)
  turn_kept position r (Some e) is = (e, refl)

  module _ (at : Uba) (k : ℕ) (r : UndoRecord) (a : IsAddress shape x.seg s.header at) (place : k ≡ (place_of shape at).index) (is : record_in s k ≡ Some r) where
    abbrev D : ℕ
    D = at.block - header_block shape x.seg - 1

    tells : (turn_of k ≡ at.ord) × (position_of k ≡ UNDO_RECORDS * (D % EXTENT_BLOCKS) + at.rec)
    tells = place_turn shape x.seg D k at (omega (arith, a.behind)) (omega (arith, a.behind, a.within)) a.rec a.first place

    kept : (e : ℕ) × (extent_with s.header.extents at.ord ≡ Some e)
    kept =
        let m = made_of s k r is in
        subst (λ (turn : ℕ). (e : ℕ) × (extent_with s.header.extents turn ≡ Some e)) tells.0 (turn_kept (position_of k) r (extent_with s.header.extents (turn_of k)) m.2)

    turn : ord_in s.header (extent_named shape x.seg at) ≡ at.ord
    turn = ap (ord_in s.header) (sym (a.extent kept.0 kept.1)) ∙ (found s.header.extents at.ord kept.0 kept.1).1

    pub valid : IsValid shape x.seg s.header at
    valid = record {
      some = omega (arith, a.first);
      behind = a.behind;
      within = a.within;
      rec = a.rec;
      turn = turn;
      made = λ head.
          let m = made_of s k r is in
          let newest : at.ord ≡ head_turn s.header = sym turn ∙ ap (ord_in s.header) head in
          let p = div-add-mod (k - 1) EXTENT_RECORDS in
          let q = mod-lt (k - 1) (forty) in
          omega (arith, m.0, m.1, count, newest, tells.0, tells.1, p, q);
    }

    pub named : undo_named shape x.seg s at ≡ r
    named =
        ap (λ (i : ℕ). get_or s.undo i no_undo) (joined (EXTENT_RECORDS * (D / EXTENT_BLOCKS)) (UNDO_RECORDS * (D % EXTENT_BLOCKS)) at.rec)
        ∙ address_reads shape x.seg s at k r a tells.0 tells.1 is

  -- a record that may be written back names what there is, and keeps what could stand there
  module _ (Saved Kept : UndoRecord → Type 0) (saved : (r : UndoRecord) → Saved r → (r.home < table_blocks shape) × (r.entry < ENTRIES) × (r.cell < CELLS)) (kept : (r : UndoRecord) → Saved r → Kept r) where
    pub listed_chain : (at : Uba) (chs : List Change) → Listed shape s x Saved at chs → Chain Kept shape s x (length chs) at
    listed_chain at [] listed = listed
    listed_chain at (ch ∷ more) listed =
        let r = listed.4.0 in
        let place = ap (λ (p : Place). p.index) (sym listed.2) in
        let is = named at ch.place.index r listed.1 place listed.4.1 in
        let there = saved r listed.4.6 in
        let live : IsLive shape x (suc (length more)) r = record {
          slot = listed.4.2;
          wrap = listed.4.3;
          number = listed.4.4;
          home = there.0;
          entry = there.1;
          cell = there.2;
        } in (
          valid at ch.place.index r listed.1 place listed.4.1,
          subst (λ (z : UndoRecord). IsLive shape x (suc (length more)) z × Kept z) (sym is) (live, kept r listed.4.6),
          subst (λ (z : UndoRecord). Chain Kept shape s x (length more) z.previous) (sym is) (listed_chain r.previous more listed.4.7),
        )
