-- One record taken back in a decoded home is one step of the walk's home.
use Rattle.std.proofs.Common.{◌≡◌, ◌||◌, inr, ◌<◌, ℕ, Bool, true, false, if◌then◌else◌, length, get_or}
use Rattle.std.proofs.Common.{Option, Some, None, refl, sym, ◌∙◌, ap, subst, arith}
use Rattle.rb_cell.specs.declared.cell.TheConstants.{CELLS}
use Rattle.rb_base.specs.declared.ids.Xid.{Xid}
use Rattle.rb_base.specs.declared.shape.Shape.{Shape}
use Rattle.rb_cr.specs.Parts.{Took}
use Rattle.rb_cr.specs.Records.{record_of, walk_found}
use Rattle.rb_cr.specs.Scratches.{kept_with, scratch_home}
use Rattle.rb_cr.specs.declared.records.SegmentRecord.{SegmentRecord}
use Rattle.rb_cr.specs.declared.scratch.Scratch.{Scratch}
use Rattle.rb_cr.specs.declared.scratch.Snapshot.{Snapshot}
use Rattle.rb_itl.specs.Entries.{free_entry as zero_entry}
use Rattle.law_read.specs.Chains.{fits, applied, stepped}
use Rattle.law_read.specs.Keeping.{Kept, keep, kept_one, kept_room}
use Rattle.law_read.specs.Late.{touches}
use Rattle.law_blocks.specs.Says.{place_of}
use Rattle.law_home.specs.Kinds.{Entry, Undo}
use Rattle.law_home.specs.Walk.{Env, Home, entry_at, back}
use Rattle.rb_cr.proofs.Tops.{entry_is}

module _ (shape : Shape) (env : Env) (s : Scratch) (i : ℕ) (xid : Xid) (eight : length s.entries ≡ 8) (sixteen : length s.cells ≡ CELLS) (there : i < 8) (found : SegmentRecord)
    (told : walk_found shape (Some found) ≡ env.store (place_of shape (get_or s.entries i zero_entry).newest)) where
  abbrev b : Home
  b = scratch_home shape s

  abbrev r : Undo
  r = record_of shape found

  stored : env.store (entry_at b i).newest ≡ Some r
  stored = ap (λ (e : Entry). env.store e.newest) (entry_is shape s.entries i (omega (arith, eight, there))) ∙ sym told

  pub noted : (key : ℕ) (was now : Bool) → now ≡ was || touches key (Some r) → now ≡ was || touches key (env.store (entry_at b i).newest)
  noted key was now is = is ∙ ap (λ (o : Option Undo). was || touches key o) (sym stored)

  pub unfit : fits i xid b r ≡ false → stepped env i xid b ≡ None
  unfit not = ap (applied i xid b) stored ∙ ap (λ (t : Bool). if t then Some (back r b) else None) not

  module _ (yes_fits : fits i xid b r ≡ true) where
    stepped_is : stepped env i xid b ≡ Some (back r b)
    stepped_is = ap (applied i xid b) stored ∙ ap (λ (t : Bool). if t then Some (back r b) else None) yes_fits

    kept_is : (snap : Snapshot) → kept_one snap.own snap.upto i xid b (env.store (entry_at b i).newest) s.kept ≡ kept_with snap found s
    kept_is snap = ap (λ (o : Option Undo). kept_one snap.own snap.upto i xid b o s.kept) stored ∙ ap (λ (t : Bool). if t then keep snap.own snap.upto r b s.kept else s.kept) yes_fits

    pub took : (snap : Snapshot) (t : Bool) (s2 : Scratch) → scratch_home shape s2 ≡ back r b → (t ≡ true → s2.kept ≡ kept_with snap found s) → (t ≡ false → kept_room < length (kept_with snap found s))
        → Took env snap.own snap.upto i xid b s.kept (scratch_home shape s2) s2.kept t
    took snap true s2 home kept full = (stepped_is ∙ ap Some (sym home), kept refl ∙ sym (kept_is snap))
    took snap false s2 home kept full = inr (subst (λ (z : Kept). kept_room < length z) (sym (kept_is snap)) (full refl))
