-- A home that a cursor may share with other readers: what its history tells, and what is kept of it.
use Rattle.std.proofs.Common.{◌≡◌, ◌<◌, ◌≤◌, ℕ, List, [], ◌∷◌, map, refl, sym, subst, arith}
use Rattle.rb_base.specs.Blocks.{table_blocks}
use Rattle.rb_base.specs.declared.ids.Xid.{Xid}
use Rattle.rb_base.specs.declared.shape.Shape.{Shape}
use Rattle.rb_copies.specs.Copies.{KeptHomes}
use Rattle.rb_cr.specs.Copies.{IsReadWith, Keeps}
use Rattle.rb_cr.specs.declared.scratch.Snapshot.{Snapshot}
use Rattle.rb_engine.specs.Scanning.{IsReader}
use Rattle.rb_engine.proofs.FetchLemmas.{home_read}
use Rattle.rb_model.specs.State.{State}
use Rattle.law_copies.specs.Copies.{CopiesStand, TellsOf}
use Rattle.law_copies.proofs.Outliving.{build_keeps, stands_for}
use Rattle.law_read.specs.Reading.{History}
use Rattle.rb_sessions.specs.declared.cursor.Cursor.{Cursor}
use Rattle.law_blocks.specs.States.{past_of}
use Rattle.law_blocks.proofs.MachineDone.{last_commits}
use Rattle.law_sessions.specs.Views.{history, home_in}
use Rattle.law_sessions.proofs.Telling.{told}
use Rattle.law_home.specs.Homes.{narrow}
use Rattle.law_home.specs.Walk.{Commit, last}

last_narrow : (base b : ℕ) (list : List Commit) → last base (map (narrow b) list) ≡ last base list
last_narrow base b [] = refl
last_narrow base b (t ∷ older) = refl

module _ (h : State) (xids : List Xid) (blocks : List (List ℕ)) (m : Cursor) (reader : IsReader h xids blocks m) (g : ℕ) (g_in : g < h.shape.blocks) where
  abbrev Block : ℕ
  Block = home_in h.shape m.table g

  abbrev Hist : History
  Hist = history h xids blocks Block m.own

  abbrev Snap : Snapshot
  Snap = record { scn = m.scn; own = m.own; upto = m.upto }

  tells : TellsOf h xids Block Hist
  tells = record { base = refl; rows = refl; list = refl }

  -- its snapshot isn't above the last commit
  low : m.scn ≤ last Hist.base Hist.list
  low =
      let narrowed = last_narrow h.commits.base Block (past_of h xids).list in
      let all = last_commits h.shape h.commits.base h.commits.list xids [] reader.stand.tell.counted refl in
      omega (arith, narrowed, all, reader.is.number, reader.is.below)

  pub read_with : (shape : Shape) → shape ≡ h.shape → (block : ℕ) → block ≡ Block → (kept : KeptHomes) → CopiesStand h xids blocks kept → IsReadWith shape blocks kept block Hist Snap
  read_with shape same block at kept copies =
      subst (λ (k : Shape). IsReadWith k blocks kept block Hist Snap) (sym same) (subst (λ (n : ℕ). IsReadWith h.shape blocks kept n Hist Snap) (sym at) (record {
        read = home_read h xids blocks m reader g g_in h.shape refl Block refl;
        told = told h xids blocks reader.stand reader.session (record { name = reader.name; cursor = m }) reader.cursor reader.is Block;
        copies = stands_for h xids blocks Block Hist tells kept copies;
      }))

  -- what a read of the home leaves
  pub reads_keep : (shape : Shape) → shape ≡ h.shape → (block : ℕ) → block ≡ Block → (kept kept2 : KeptHomes) → Block < table_blocks h.shape → CopiesStand h xids blocks kept → Keeps shape blocks block Snap kept kept2 → CopiesStand h xids blocks kept2
  reads_keep shape same block at kept kept2 b_in copies keeps =
      build_keeps h xids blocks Block Hist tells kept kept2 Snap b_in (read_with h.shape refl Block refl kept copies) low
      (subst (λ (k : Shape). Keeps k blocks Block Snap kept kept2) same (subst (λ (n : ℕ). Keeps shape blocks n Snap kept kept2) at keeps)) copies
