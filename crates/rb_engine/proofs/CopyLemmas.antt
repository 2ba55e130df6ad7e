-- The homes that are kept for readers, as calls change what they stand for.
use Rattle.std.proofs.Common.{◌≡◌, ◌≤◌, ◌++◌, ℕ, List, [], ◌∷◌, sym, ap, subst}
use Rattle.law_aging.specs.Kept.{SegmentsAge}
use Rattle.rb_base.specs.declared.ids.Xid.{Xid}
use Rattle.rb_copies.specs.Copies.{CopyTable}
use Rattle.rb_engine.specs.Does.{Kept, Knows, with_copies}
use Rattle.law_crash.specs.Made.{CommitMade, WriteMade}
use Rattle.rb_model.specs.Calls.{Action, Owned}
use Rattle.rb_model.specs.NextState.{committed}
use Rattle.rb_model.specs.State.{State}
use Rattle.law_copies.specs.Copies.{CopiesStand}
use Rattle.law_copies.proofs.Ages.{write_ages}
use Rattle.law_copies.proofs.Outliving.{commit_keeps_all, older_keeps, same_keeps}
use Rattle.law_blocks.specs.Standing.{segments_of}
use Rattle.law_blocks.specs.States.{BlocksStand}

-- over calls that change no block
pub copies_same : (h h2 : State) (xids : List Xid) (before now : List (List ℕ)) (old new : CopyTable) → h2.shape ≡ h.shape → h2.commits ≡ h.commits → now ≡ before → new ≡ old → CopiesStand h xids before old.kept → CopiesStand h2 xids now new.kept
copies_same h h2 xids before now old new shape commits same is copies = subst (λ (z : CopyTable). CopiesStand h2 xids now z.kept) (sym is) (same_keeps h h2 shape xids before now old.kept commits (ap (segments_of h.shape) same) copies)

-- over those after which the segments are older
pub copies_aged : (h h2 : State) (xids : List Xid) (before now : List (List ℕ)) (old new : CopyTable) → h2.shape ≡ h.shape → h2.commits ≡ h.commits → BlocksStand h xids before → SegmentsAge (segments_of h.shape before) (segments_of h.shape now)
    → new ≡ old → CopiesStand h xids before old.kept → CopiesStand h2 xids now new.kept
copies_aged h h2 xids before now old new shape commits stand ages is copies = subst (λ (z : CopyTable). CopiesStand h2 xids now z.kept) (sym is) (older_keeps h h2 shape xids before now old.kept stand ages commits copies)

-- over a write
pub copies_written : (h h2 : State) (xids : List Xid) (who table key : ℕ) (action : Action) (x : Xid) (before now : List (List ℕ)) (old new : CopyTable) → h2.shape ≡ h.shape → h2.commits ≡ h.commits → BlocksStand h xids before → (1 ≤ table) × (table ≤ h.shape.tables)
    → WriteMade h xids who table key action x before now → new ≡ old → CopiesStand h xids before old.kept → CopiesStand h2 xids now new.kept
copies_written h h2 xids who table key action x before now old new shape commits stand there made is copies =
    copies_aged h h2 xids before now old new shape commits stand (write_ages h xids before now stand who table key action x there.0 there.1 made) is copies

-- and over a commit
pub copies_committed : (h h2 : State) (xids : List Xid) (before now : List (List ℕ)) (who : ℕ) (x : Xid) (old new : CopyTable) → h2.shape ≡ h.shape → h2.commits ≡ (committed h who x.seg x.slot).commits → BlocksStand h xids before → Owned h who x.seg x.slot
    → CommitMade h xids who x before now → new ≡ old → CopiesStand h xids before old.kept → CopiesStand h2 (xids ++ x ∷ []) now new.kept
copies_committed h h2 xids before now who x old new shape commits stand owned made is copies = subst (λ (z : CopyTable). CopiesStand h2 (xids ++ x ∷ []) now z.kept) (sym is) (commit_keeps_all h h2 shape xids before now old.kept stand who x owned made commits copies)

-- what memory knows of a state doesn't hang on the homes that are kept
pub knows_copies : (h : State) (kept : Kept) (copies : CopyTable) → Knows h kept → Knows h (with_copies copies kept)
knows_copies h kept copies knows = record {
  sixteen = knows.sixteen;
  stopped = knows.stopped;
  scn = knows.scn;
  queue = λ going. record { waits = (knows.queue going).waits; asked = (knows.queue going).asked };
}
