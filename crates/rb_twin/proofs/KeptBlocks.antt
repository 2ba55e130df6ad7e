-- What blocks the images of a write and of a repair keep, step by step.
use Rattle.std.proofs.Common.{◌≡◌, ◌≢◌, ℕ, ◌-◌, ◌≤◌, ◌==◌, if◌then◌else◌, List, length, take, drop, slice_index, sym, ◌∙◌, ap, subst, arith, inl, inr}
use Rattle.std.proofs.lemmas.List.{take_rest}
use Rattle.rb_base.specs.Fields.{part}
use Rattle.rb_base.proofs.Fronts.{byte_of_part}
use Rattle.rb_base.specs.declared.sizes.TheConstants.{UNIT}
use Rattle.rb_disk.specs.DiskModel.{Only}
use Rattle.rb_disk.specs.Ranges.{SameBut, SamePart}
use Rattle.rb_layout.specs.Regions.{file_length, twin_offset, block_offset, block_count}
use Rattle.rb_layout.specs.declared.layout.Layout.{Layout}
use Rattle.rb_twin.specs.Batches.{Image, IsBatch, IsSpareZero, with_batch, batch_in}
use Rattle.rb_twin.specs.Twins.{home, twin_area, twin_gate, kept, IsTwin, TwinSome, Repaired, SameBehindGate, SameButHomes, StagedFrom, GateFrom, HomesFrom}
use Rattle.rb_twin.specs.TwinLaws.{area_stays, batch_same, behind_same, front_stays, homes_stay, kept_one, kept_two, kept_three, kept_four, kept_open, take_earlier}
use Rattle.rb_twin.proofs.HomeSteps.{but_both, but_none}
use Rattle.rb_twin.proofs.Spares.{spare_same}
use Rattle.rb_twin.specs.declared.batch.TheConstants.{AREA}

-- Files that are the same from a place to the end
pub same_end : (f d : List ℕ) (a n : ℕ) → length f ≡ n → SamePart a n f d → drop a d ≡ drop a f
same_end f d a n long same = sym (rest d (same.long ∙ long)) ∙ same.same ∙ rest f long
  where
    rest : (h : List ℕ) → length h ≡ n → part h a (n - a) ≡ drop a h
    rest h is = ap (λ (k : ℕ). take (k - a) (drop a h)) (sym is) ∙ take_rest h a

-- have the same homes, and the same twin area where they are the same from there on.
pub home_end : (l : Layout) (f d : List ℕ) (n : ℕ) → n ≤ block_offset l 0 → drop n d ≡ drop n f → (which : ℕ) → home l d which ≡ home l f which
home_end l f d n le same which = behind_same f d n (block_offset l which) UNIT same (omega (arith, le))

area_end : (l : Layout) (f d : List ℕ) → drop (twin_offset l 0) d ≡ drop (twin_offset l 0) f → twin_area l d ≡ twin_area l f
area_end l f d same = ap (take AREA) same

gate_end : (l : Layout) (f d : List ℕ) → drop (twin_offset l 0) d ≡ drop (twin_offset l 0) f → twin_gate l d ≡ twin_gate l f
gate_end l f d same = sym (byte_of_part d (twin_offset l 0) 1 (omega arith)) ∙ ap (λ (h : List ℕ). slice_index (take 1 h) 0) same ∙ byte_of_part f (twin_offset l 0) 1 (omega arith)

pub kept_end : (l : Layout) (f d : List ℕ) → drop (twin_offset l 0) d ≡ drop (twin_offset l 0) f → (which : ℕ) → kept l d which ≡ kept l f which
kept_end l f d same which =
    ap (λ (g : ℕ). if g == 1 then with_batch (batch_in (twin_area l d)) which (home l d which) else home l d which) (gate_end l f d same)
    ∙ ap (λ (a : List ℕ). if twin_gate l f == 1 then with_batch (batch_in a) which (home l d which) else home l d which) (area_end l f d same)
    ∙ ap (λ (h : List ℕ). if twin_gate l f == 1 then with_batch (batch_in (twin_area l f)) which h else h) (home_end l f d (twin_offset l 0) (omega arith) same which)

twin_end : (l : Layout) (f d : List ℕ) → drop (twin_offset l 0) d ≡ drop (twin_offset l 0) f → IsTwin l f → IsTwin l d
twin_end l f d same twin opened = subst (λ (a : List ℕ). IsBatch (block_count l) (batch_in a)) (sym (area_end l f d same)) (twin (sym (gate_end l f d same) ∙ opened))

-- The blocks lie behind the twin area.
pub home_front : (l : Layout) (f g : List ℕ) → SameBut (block_offset l 0) (file_length l) f g → SameBut (twin_offset l 0) (file_length l) f g
home_front l f g same = record {
  long = same.long;
  before = take_earlier f g (block_offset l 0) (twin_offset l 0) same.before (omega arith);
  behind = same.behind;
}

-- The batch stands behind the gate, and so do the spare bytes of the header.
module _ (l : Layout) (f g : List ℕ) (batch : List Image) (few : length batch ≤ 8) (same : SameBehindGate l f g) (is : batch_in (twin_area l f) ≡ batch) where
  short : length (batch_in (twin_area l f)) ≤ 8
  short = omega (arith, few, ap length is)

  pub gate_batch : batch_in (twin_area l g) ≡ batch
  gate_batch = batch_same (twin_area l f) (twin_area l g) (AREA - 1) (sym same.area) short (omega (arith, short)) ∙ is

  pub gate_spare : IsSpareZero (twin_area l f) → IsSpareZero (twin_area l g)
  gate_spare spare = spare_same (twin_area l f) (twin_area l g) (AREA - 1) (sym same.area) short (omega (arith, short)) spare

-- A repair that hasn't begun
pub repair_still : (l : Layout) (image : List ℕ → Type 0) (f : List ℕ) → length f ≡ file_length l → ((c : List ℕ) → image c → SamePart (twin_offset l 0) (file_length l) f c) → IsTwin l f → (c : List ℕ) → image c → Repaired image l f c
repair_still l image f whole synced twin c here =
    let end = same_end f c (twin_offset l 0) (file_length l) whole (synced c here) in record {
      outside = (c, here, but_none (twin_offset l 0) (file_length l) c);
      twin = twin_end l f c end twin;
      blocks = kept_end l f c end;
    }

-- or begins after calls that change nothing.
pub repair_later : (l : Layout) (old mid : List ℕ → Type 0) (f g : List ℕ) → ((c : List ℕ) → mid c → old c) → g ≡ f → (c : List ℕ) → Repaired mid l g c → Repaired old l f c
repair_later l old mid f g no_more is c left = record {
  outside = (left.outside.0, no_more left.outside.0 left.outside.1, left.outside.2);
  twin = left.twin;
  blocks = λ which. left.blocks which ∙ ap (λ (h : List ℕ). kept l h which) is;
}

-- The last two steps, over an open gate.
module _ (l : Layout) (batch : List Image) (f : List ℕ) (valid : IsBatch (block_count l) batch) (whole : length f ≡ file_length l) (is : batch_in (twin_area l f) ≡ batch) (opened : twin_gate l f ≡ 1) (image : List ℕ → Type 0) where
  pub kept_before : (which : ℕ) → kept l f which ≡ with_batch batch which (home l f which)
  kept_before which = kept_open l f which opened ∙ ap (λ (b : List Image). with_batch b which (home l f which)) is

  pub repair_homes : ((c : List ℕ) → image c → SamePart (twin_offset l 0) (file_length l) f c) → (c : List ℕ) → HomesFrom l batch image c → Repaired image l f c
  repair_homes synced c from =
      let d = from.0 in
      let end = same_end f d (twin_offset l 0) (file_length l) whole (synced d from.1) in
      let stay = area_stays l d c from.2.front in
      let now = kept_three l batch f c valid (ap batch_in (stay.0 ∙ area_end l f d end) ∙ is) (stay.1 ∙ gate_end l f d end ∙ opened) (λ which none. from.2.homes which none ∙ home_end l f d (twin_offset l 0) (omega arith) end which) in record {
        outside = (d, from.1, home_front l d c from.2.front);
        twin = now.0;
        blocks = λ which. now.1 which ∙ sym (kept_before which);
      }

  pub repair_gate : image f → (m : List ℕ) → SameButHomes l batch f m → ((which : ℕ) → home l m which ≡ with_batch batch which (home l f which)) → (later : List ℕ → Type 0) → Only m later → (c : List ℕ) → GateFrom l later c → Repaired image l f c
  repair_gate here m was homes later only c from =
      let same : SameBehindGate l m c = subst (λ (h : List ℕ). SameBehindGate l h c) (only from.0 from.1) from.2 in
      let stay = area_stays l f m was.front in
      let now = kept_four l batch f c valid (gate_batch l m c batch valid.few same (ap batch_in stay.0 ∙ is)) (λ which. homes_stay l m c same.others which ∙ homes which) in record {
        outside = (f, here, but_both (twin_offset l 0) (file_length l) f m c (home_front l f m was.front) (front_stays l m c same.others));
        twin = now.0;
        blocks = λ which. now.1 which ∙ sym (kept_before which);
      }

-- All four, over a shut one.
module _ (l : Layout) (batch : List Image) (f : List ℕ) (valid : IsBatch (block_count l) batch) (whole : length f ≡ file_length l) (image : List ℕ → Type 0) where
  pub write_stage : ((c : List ℕ) → image c → twin_gate l c ≢ 1) → ((c : List ℕ) → image c → SamePart (block_offset l 0) (file_length l) f c) → (c : List ℕ) → StagedFrom l image c → TwinSome image l batch f c
  write_stage shut synced c from =
      let d = from.0 in
      let end = same_end f d (block_offset l 0) (file_length l) whole (synced d from.1) in
      let now = kept_one l f c (λ opened. shut d from.1 (sym from.3 ∙ opened)) (λ which. homes_stay l d c from.2 which ∙ home_end l f d (block_offset l 0) (omega arith) end which) in record {
        outside = (d, from.1, front_stays l d c from.2);
        twin = now.0;
        blocks = inl now.1;
      }

  module _ (here : image f) (m : List ℕ) (was : SameBut (twin_offset l 0) (block_offset l 0) f m) (is : batch_in (twin_area l m) ≡ batch) (later : List ℕ → Type 0) (only : Only m later) where
    pub write_opened : (c : List ℕ) → GateFrom l later c → TwinSome image l batch f c
    write_opened c from =
        let same : SameBehindGate l m c = subst (λ (h : List ℕ). SameBehindGate l h c) (only from.0 from.1) from.2 in
        let all = but_both (twin_offset l 0) (block_offset l 0) f m c was same.others in
        let now = kept_two l batch f c valid (gate_batch l m c batch valid.few same is) (homes_stay l f c all) in record {
          outside = (f, here, front_stays l f c all);
          twin = now.0;
          blocks = now.1;
        }

    pub write_finished : twin_gate l m ≡ 1 → (c : List ℕ) → Repaired later l m c → TwinSome image l batch f c
    write_finished opened c left =
        let from = left.outside in
        let same : SameBut (twin_offset l 0) (file_length l) m c = subst (λ (h : List ℕ). SameBut (twin_offset l 0) (file_length l) h c) (only from.0 from.1) from.2 in
        record {
          outside = (f, here, but_both (twin_offset l 0) (file_length l) f m c (front_stays l f m was) same);
          twin = left.twin;
          blocks = inr (λ which. left.blocks which ∙ kept_open l m which opened ∙ ap (λ (b : List Image). with_batch b which (home l m which)) is ∙ ap (with_batch batch which) (homes_stay l f m was which));
        }
