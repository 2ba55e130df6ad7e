-- What a write's tests before those of the log find, by what the key's cleaned home and the segment's header say.
use Rattle.std.proofs.Common.{◌≡◌, inl, inr, ◌≤◌, ℕ, Bool, true, false, if◌then◌else◌, List, refl, sym, ap, ◌∙◌}
use Rattle.std.proofs.lemmas.Bool.{cases_Bool}
use Rattle.rb_write.specs.Asks.{IsWriterOf, adds_in, adds_row, home_for}
use Rattle.rb_write.specs.Refusals.{AreOpen, HasNoCell, HasNoRow, HasRow, LacksEntry, TakesWrite, TakesWriter}
use Rattle.rb_write.specs.declared.ask.Ask.{Ask}
use Rattle.rb_base.specs.declared.ids.Xid.{Xid}
use Rattle.rb_heap.specs.Homes.{Home, home_entry}
use Rattle.rb_model.specs.Answers.{action_by}
use Rattle.rb_model.specs.Book.{book_at, is_full}
use Rattle.rb_model.specs.Full.{full_block}
use Rattle.rb_model.specs.State.{State}
use Rattle.rb_model.specs.Calls.{adds_now, key_tests, none_applies, rows_now}
use Rattle.rb_model.specs.Rows.{has_row}
use Rattle.rb_model.specs.Tests.{full_slots}
use Rattle.rb_segment.specs.Header.{Header}
use Rattle.rb_segment.specs.Moves.{NoneMayTurn}
use Rattle.rb_steps.specs.Steps.{IsAbout, MayWrite}
use Rattle.rb_steps.proofs.Firsts as firsts
use Rattle.rb_steps.proofs.HomeWords as home
use Rattle.rb_steps.proofs.WriterWords as words
use Rattle.rb_steps.proofs.Writers as writers
use Rattle.law_write.specs.Verdict.{Verdict, Duplicate, NotFound, BlockFull, SlotsFull, RollbackFull, Fine, tested}
use Rattle.law_write.proofs.Told.{full_none, none_full}

module _ (h : State) (xids : List Xid) (blocks : List (List ℕ)) (s : ℕ) (ask : Ask) (about : IsAbout h xids s ask.own blocks) (first : 1 ≤ ask.table) (last : ask.table ≤ h.shape.tables) (mine : MayWrite h s ask.table ask.key) where
  abbrev Cleaned : Home
  Cleaned = home_for h.shape blocks ask

  abbrev pub Adds : Bool
  Adds = adds_in Cleaned ask

  abbrev Present : Bool
  Present = has_row ask.table ask.key (rows_now h s)

  abbrev Now : Bool
  Now = adds_now h s ask.table ask.key (action_by ask.op)

  abbrev Full : Bool
  Full = full_block h ask.table ask.key

  abbrev Slots : Bool
  Slots = full_slots h s ask.table ask.key

  there : HasRow Cleaned ask.key → Present ≡ true
  there = home.row_there h xids blocks about.stand ask.table ask.key first last s about.session mine.0

  not_there : HasNoRow Cleaned ask.key → Present ≡ false
  not_there = home.no_row h xids blocks about.stand ask.table ask.key first last s about.session mine.0

  -- the write adds a row to the home where the machine says so
  pub adds_same : Adds ≡ Now
  adds_same = ap (adds_row ask.op) (home.shows_is h xids blocks about.stand ask.table ask.key first last s about.session mine.0) ∙ sym (firsts.adds_is ask.op Present)

  -- where the home takes the write, the tests of its transaction are left, by whether its segment is full
  rest : (ring : Bool) → TakesWrite Cleaned Adds ask.key → tested Now Present Full Slots ring ≡ (if Slots then SlotsFull else if ring then RollbackFull else Fine)
  rest ring takes = ap (λ (b : Bool). tested b Present Full Slots ring) (sym adds_same) ∙ by Adds refl
    where
      by : (a : Bool) → Adds ≡ a → tested a Present Full Slots ring ≡ (if Slots then SlotsFull else if ring then RollbackFull else Fine)
      by true adds =
          let p = not_there (takes.no_row adds) in
          let f = home.some_cell h xids blocks about.stand ask.table ask.key first last (takes.cell adds) in
          rw (p, f) refl
      by false adds = let p = there (takes.row adds) in rw p refl

  -- none of the tests of the key and its home applies, also where there is no slot for a transaction
  pub none_found : TakesWrite Cleaned Adds ask.key → ¬ AreOpen (home_entry Cleaned) → none_applies (key_tests h s ask.table ask.key (action_by ask.op)) ≡ true
  none_found takes some =
      let e = words.some_left h xids blocks s ask.own about ask.table ask.key first last some in
      firsts.none_before h s ask.table ask.key ask.op mine.0 mine.1 (rest false takes ∙ rw e refl)

  -- in whatever segment
  module _ (g i : ℕ) where
    abbrev Ring : Bool
    Ring = is_full (book_at h.books g)

    abbrev pub Found : Verdict
    Found = firsts.Found h s ask.table ask.key g i ask.op

    pub duplicate : Adds ≡ true → HasRow Cleaned ask.key → Found ≡ Duplicate
    duplicate adds has = let a = sym adds_same ∙ adds in let p = there has in ap (λ (b : Bool). tested b Present Full Slots Ring) a ∙ rw p refl

    pub not_found : Adds ≡ false → HasNoRow Cleaned ask.key → Found ≡ NotFound
    not_found adds none = let a = sym adds_same ∙ adds in let p = not_there none in ap (λ (b : Bool). tested b Present Full Slots Ring) a ∙ rw p refl

    pub block_full : Adds ≡ true → HasNoRow Cleaned ask.key → HasNoCell Cleaned ask.key → Found ≡ BlockFull
    block_full adds none cell =
        let a = sym adds_same ∙ adds in
        let p = not_there none in
        let f = home.no_cell h xids blocks about.stand ask.table ask.key first last cell in
        ap (λ (b : Bool). tested b Present Full Slots Ring) a ∙ rw (p, f) refl

    pub slots_full : TakesWrite Cleaned Adds ask.key → LacksEntry Cleaned ask.own → Found ≡ SlotsFull
    slots_full takes none =
        let e = words.slots_full h xids blocks s ask.own about ask.table ask.key first last none in
        rest Ring takes ∙ rw e refl

  -- in that of the transaction
  module _ (x : Xid) (ready : Header) (writer : IsWriterOf h.shape blocks ask.own x ready) where
    abbrev At : Verdict
    At = Found x.seg x.slot

    abbrev Here : Bool
    Here = is_full (book_at h.books x.seg)

    pub rollback_full : TakesWriter Cleaned Adds ask.key x → NoneMayTurn ready → At ≡ RollbackFull
    rollback_full takes none =
        let e = words.slots_free h xids blocks s ask.own about ask.table ask.key first last x ready writer takes.entry in
        let r = none_full h xids blocks about.stand x.seg (writers.within h xids blocks s ask.own about x ready writer) x.slot ready (writers.is_ready h xids blocks s ask.own about x ready writer) none in
        rest Here takes.takes ∙ rw (e, r) refl

    -- none of these tests applies
    pub fine : TakesWriter Cleaned Adds ask.key x → ¬ NoneMayTurn ready → At ≡ Fine
    fine takes some =
        let e = words.slots_free h xids blocks s ask.own about ask.table ask.key first last x ready writer takes.entry in
        let r : Here ≡ false = elim (cases_Bool Here) [
          | inl is ↦ absurd (some (full_none h xids blocks about.stand x.seg (writers.within h xids blocks s ask.own about x ready writer) x.slot ready (writers.is_ready h xids blocks s ask.own about x ready writer) is))
          | inr not_is ↦ not_is
        ] in
        rest Here takes.takes ∙ rw (e, r) refl
