-- A file that opens to a state restarts to it.
use Rattle.std.proofs.Common.{◌≡◌, ◌+◌, ◌-◌, ◌^◌, ◌<◌, ◌≤◌, ℕ, List, [], Some, refl, sym, ap, subst, arith}
use Rattle.std.proofs.Math.Seq.{take-nil}
use Rattle.std.specs.List.{flat_map}
use Rattle.std.proofs.lemmas.List.FromFn.{get_or-map-range_with_len}
use Rattle.rb_base.specs.declared.shape.Shape.{Shape}
use Rattle.law_crash.specs.Crash.{Restarts}
use Rattle.law_crash.specs.Images.{HasState}
use Rattle.rb_layout.specs.Regions.{shape_of}
use Rattle.rb_control.specs.Heads.{head_of}
use Rattle.rb_layout.specs.declared.layout.Head.{Head}
use Rattle.rb_layout.specs.declared.layout.Layout.{Layout}
use Rattle.rb_model.specs.Book.{Book, book_at, fresh_book}
use Rattle.rb_model.specs.Change.{Change}
use Rattle.rb_model.specs.Rows.{TableRow, last_scn, over, rows_at}
use Rattle.rb_model.specs.State.{State, opened}
use Rattle.rb_recovery.specs.Opens.{OpensAs, books_of}
use Rattle.rb_restart.specs.Rollback.{found_book}
use Rattle.rb_segment.specs.Header.{segment_of}
use Rattle.law_blocks.specs.Standing.{SoundAs, logged_of, segments_of}
use Rattle.rb_store.specs.Meaning.{Means, Opens, OpensAt}

-- the number that a log begins with is small where that of its last group is
pub head_small : (l : Layout) (file : List ℕ) (blocks : List (List ℕ)) (n : ℕ) → Means l file blocks n → n < 2 ^ 61 → (head_of file).number ≤ 2 ^ 61
head_small l file blocks n m few = let same = ap (λ (h : Head). h.number) m.head_is in let last = m.last in omega (arith, same, last, few)

-- the rows of an opened state at its last commit are its base
opened_rows : (shape : Shape) (number : ℕ) (rows : List TableRow) (books : List Book) → rows_at shape.blocks (opened shape number rows books []).commits (last_scn (opened shape number rows books []).commits) ≡ rows
opened_rows shape number rows books = ap (λ (commits : List (List Change)). over shape.blocks rows (flat_map (λ changes. changes) commits)) (take-nil (number + 0 - number))

module _ (shape : Shape) (blocks : List (List ℕ)) (number : ℕ) (rows : List TableRow) where
  abbrev First : State
  First = opened shape number rows (books_of shape blocks) []

  first_has : (lsn : ℕ) → SoundAs shape blocks number rows → lsn ≡ logged_of shape blocks → HasState First First.books (last_scn First.commits) blocks lsn
  first_has lsn sound logged = record {
    logged = logged;
    sound = subst (SoundAs shape blocks (last_scn First.commits)) (sym (opened_rows shape number rows (books_of shape blocks))) (subst (λ (n : ℕ). SoundAs shape blocks n rows) (omega arith) sound);
    marks = record {
      writes = λ g there. let same = ap (λ (b : Book). b.writes) (book_is g there) in omega (arith, same);
      lost = λ g there. let same = ap (λ (b : Book). b.lost) (book_is g there) in omega (arith, same);
    };
  }
    where
      book_is : (g : ℕ) → g < shape.segments → found_book (segments_of shape blocks g).header ≡ book_at (books_of shape blocks) g
      book_is g there = sym (get_or-map-range_with_len (λ (k : ℕ). found_book (segment_of shape blocks k).header) 0 shape.segments g g fresh_book there (omega arith))

pub restarts_found : (h : State) (l : Layout) (blocks : List (List ℕ)) (lsn : ℕ) (file : List ℕ) → OpensAs (shape_of l) blocks h → lsn ≡ logged_of (shape_of l) blocks
    → OpensAt l file blocks lsn → Restarts Opens (Some l.log) h file
restarts_found h l blocks lsn file opening logged opens = subst (λ (x : State). Restarts Opens (Some l.log) x file) (sym opening.state) (record {
  number = last_scn (First (shape_of l) blocks opening.number opening.rows).commits;
  acknowledged = omega arith;
  made = omega arith;
  found = record {
    blocks = blocks;
    lsn = lsn;
    opening = record { layout = l; shape_is = refl; slots_are = refl; opens = opens };
    has = first_has (shape_of l) blocks opening.number opening.rows lsn opening.sound logged;
  };
})
