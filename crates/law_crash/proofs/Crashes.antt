-- What a crash may leave: from state to state, over calls that give a store groups, and over several calls.
use Rattle.std.proofs.Common.{◌≡◌, ◌≢◌, ℕ, ◌-◌, ◌≤◌, false, List, [], ◌++◌, length, take, refl, arith, ap, sym, ◌∙◌, subst, length-append, append_assoc, append-nil, Option, Some}
use Rattle.std.proofs.lemmas.Bool.{false≢true}
use Rattle.std.proofs.lemmas.List.{take-append-le}
use Rattle.std.specs.List.{flat_map}
use Rattle.rb_base.specs.Moments.{joined, weaker}
use Rattle.rb_base.specs.declared.ids.Xid.{Xid}
use Rattle.rb_base.specs.declared.shape.Shape.{Shape}
use Rattle.rb_base.specs.declared.store.Store.{Ghosts}
use Rattle.law_crash.specs.Between.{up_to, one_commit, one_write, reached, at_end, Extends, FoundSome, IsCommit, MarksGrow}
use Rattle.law_crash.specs.Crash.{AtEnd, OnTheWay, Restarts, RestartsAt, Survives}
use Rattle.law_crash.specs.Images.{HasSome, HasState, MarksWithin}
use Rattle.law_crash.proofs.Past.{sound_as}
use Rattle.rb_model.specs.Book.{Book}
use Rattle.rb_model.specs.Calls.{Action, Call, Write}
use Rattle.rb_model.specs.Rows.{Commits, last_scn, over, rows_at}
use Rattle.rb_model.specs.State.{State}
use Rattle.law_blocks.specs.Standing.{SoundAs, logged_of}
use Rattle.law_blocks.specs.States.{BlocksStand}
use Rattle.law_blocks.proofs.MachineDone.{last_commits}

-- marks

pub grow_same : (shape : Shape) (books : List Book) → MarksGrow shape books books
grow_same shape books = record { writes = λ g lt. omega arith; lost = λ g lt. omega arith }

pub grow_on : (shape : Shape) (a b c : List Book) → MarksGrow shape a b → MarksGrow shape b c → MarksGrow shape a c
grow_on shape a b c x y = record {
  writes = λ g lt. omega (arith, x.writes g lt, y.writes g lt);
  lost = λ g lt. omega (arith, x.lost g lt, y.lost g lt);
}

within_grown : (shape : Shape) (a b : List Book) (blocks : List (List ℕ)) → MarksGrow shape a b → MarksWithin shape a blocks → MarksWithin shape b blocks
within_grown shape a b blocks grow within = record {
  writes = λ g lt. omega (arith, within.writes g lt, grow.writes g lt);
  lost = λ g lt. omega (arith, within.lost g lt, grow.lost g lt);
}

-- Blocks that stand for a state have it.
pub has_state : (h : State) (xids : List Xid) (blocks : List (List ℕ)) (lsn : ℕ) → BlocksStand h xids blocks → lsn ≡ logged_of h.shape blocks
    → HasState h h.books (last_scn h.commits) blocks lsn
has_state h xids blocks lsn stand logged = record {
  logged = logged;
  sound = sound_as h xids blocks stand (stand.standing.stands.number ∙ last_commits h.shape h.commits.base h.commits.list xids [] stand.tell.counted refl);
  marks = record {
    writes = λ g lt. let e = (stand.tell.books g lt).writes in omega (arith, e);
    lost = λ g lt. let e = (stand.tell.books g lt).lost in omega (arith, e);
  };
}

-- commits are only added

pub extends_same : (h h2 : State) → h2.shape ≡ h.shape → h2.commits ≡ h.commits → MarksGrow h.shape h.books h2.books → h.safe ≤ h2.safe → Extends h h2
extends_same h h2 shape e marks safe = record {
  shape = shape;
  base = ap (λ (c : Commits). c.base) e;
  rows = ap (λ (c : Commits). c.rows) e;
  more = [];
  list = ap (λ (c : Commits). c.list) e ∙ sym (append-nil h.commits.list);
  marks = marks;
  safe = safe;
}

pub extends_on : (h m h2 : State) → Extends h m → Extends m h2 → Extends h h2
extends_on h m h2 a b = record {
  shape = b.shape ∙ a.shape;
  base = b.base ∙ a.base;
  rows = b.rows ∙ a.rows;
  more = a.more ++ b.more;
  list = b.list ∙ ap (λ xs. xs ++ b.more) a.list ∙ append_assoc h.commits.list a.more b.more;
  marks = grow_on h.shape h.books m.books h2.books a.marks (subst (λ (x : Shape). MarksGrow x m.books h2.books) a.shape b.marks);
  safe = omega (arith, a.safe, b.safe);
}

pub extends_later : (h h2 : State) → Extends h h2 → last_scn h.commits ≤ last_scn h2.commits
extends_later h h2 e =
    let long : length h2.commits.list ≡ length (h.commits.list ++ e.more) = ap length e.list in
    let parts = length-append h.commits.list e.more in
    omega (arith, long, parts, e.base)

-- the rows at an earlier number stay
pub rows_stay : (blocks : ℕ) (h h2 : State) (n : ℕ) → Extends h h2 → n ≤ last_scn h.commits → rows_at blocks h2.commits n ≡ rows_at blocks h.commits n
rows_stay blocks h h2 n e le =
    ap (λ rows. over blocks rows (flat_map (λ changes. changes) (take (n - h2.commits.base) h2.commits.list))) e.rows
    ∙ ap (λ cs. over blocks h.commits.rows (flat_map (λ changes. changes) cs))
    (ap (λ i. take (n - i) h2.commits.list) e.base ∙ ap (take (n - h.commits.base)) e.list ∙ take-append-le (n - h.commits.base) h.commits.list e.more (omega (arith, le)))

-- blocks have the same of a later state
pub has_later : (h h2 : State) (books books2 : List Book) (n : ℕ) (blocks : List (List ℕ)) (lsn : ℕ) → h2.shape ≡ h.shape → rows_at h.shape.blocks h2.commits n ≡ rows_at h.shape.blocks h.commits n
    → MarksGrow h.shape books books2 → HasState h books n blocks lsn → HasState h2 books2 n blocks lsn
has_later h h2 books books2 n blocks lsn shape rows grow has = record {
  logged = has.logged ∙ ap (λ (x : Shape). logged_of x blocks) (sym shape);
  sound = subst (λ (x : Shape). SoundAs x blocks n (rows_at x.blocks h2.commits n)) (sym shape) (subst (SoundAs h.shape blocks n) (sym rows) has.sound);
  marks = subst (λ (x : Shape). MarksWithin x books2 blocks) (sym shape) (within_grown h.shape books books2 blocks grow has.marks);
}

-- Blocks that have a state at some number have a later one there, which acknowledges no more.
pub some_later : (h h2 : State) (books books2 : List Book) (blocks : List (List ℕ)) (lsn : ℕ) → Extends h h2 → h2.safe ≤ h.safe → MarksGrow h.shape books books2 → HasSome h books blocks lsn → HasSome h2 books2 blocks lsn
some_later h h2 books books2 blocks lsn e safe grow some = record {
  number = some.number;
  acknowledged = omega (arith, safe, some.acknowledged);
  made = omega (arith, some.made, extends_later h h2 e);
  found = has_later h h2 books books2 some.number blocks lsn e.shape (rows_stay h.shape.blocks h h2 some.number e some.made) grow some.found;
}

-- and blocks that have it whole
pub some_last : (h : State) (books : List Book) (blocks : List (List ℕ)) (lsn : ℕ) → h.safe ≤ last_scn h.commits → HasState h books (last_scn h.commits) blocks lsn → HasSome h books blocks lsn
some_last h books blocks lsn safe has = record { number = last_scn h.commits; acknowledged = safe; made = omega arith; found = has }

module _ {I : Type 0} (opens : Shape → Option ℕ → I → List (List ℕ) → ℕ → Type 0) (slots : Option ℕ) where
  pub restarts_later : (h h2 : State) (books books2 : List Book) (n : ℕ) (i : I) → Extends h h2 → n ≤ last_scn h.commits → MarksGrow h.shape books books2 → RestartsAt opens slots books h n i → RestartsAt opens slots books2 h2 n i
  restarts_later h h2 books books2 n i e le grow r = record {
    blocks = r.blocks;
    lsn = r.lsn;
    opening = subst (λ (x : Shape). opens x slots i r.blocks r.lsn) (sym e.shape) r.opening;
    has = has_later h h2 books books2 n r.blocks r.lsn e.shape (rows_stay h.shape.blocks h h2 n e le) grow r.has;
  }

  -- the same at some number
  pub some_restarts : (h h2 : State) (books books2 : List Book) (i : I) → Extends h h2 → h2.safe ≤ h.safe → MarksGrow h.shape books books2 → FoundSome (RestartsAt opens slots) books h i → FoundSome (RestartsAt opens slots) books2 h2 i
  some_restarts h h2 books books2 i e safe grow some = record {
    number = some.number;
    acknowledged = omega (arith, safe, some.acknowledged);
    made = omega (arith, some.made, extends_later h h2 e);
    found = restarts_later h h2 books books2 some.number i e some.made grow some.found;
  }

  -- an engine that goes on stands for its state
  pub stands_at_end : (fault : Option Call) (h : State) (i : I) → h.stopped ≡ false → AtEnd opens slots fault h i → Restarts opens slots h i
  stands_at_end fault h i going (up_to r) = r
  stands_at_end fault h i going (one_commit s by stopped some r) = absurd (false≢true (sym going ∙ stopped))
  stands_at_end fault h i going (one_write s table key action g k by stopped writes r) = absurd (false≢true (sym going ∙ stopped))

  -- nor does a fault in a call that neither commits nor writes leave anything else
  pub whole_after : (fault : Option Call) (h : State) (i : I) → ((s : ℕ) → ¬ IsCommit s fault) → ((s table key : ℕ) (action : Action) → fault ≢ Some (Write s table key action)) → AtEnd opens slots fault h i → Restarts opens slots h i
  whole_after fault h i commit write (up_to r) = r
  whole_after fault h i commit write (one_commit s by stopped some r) = absurd (commit s by)
  whole_after fault h i commit write (one_write s table key action g k by stopped writes r) = absurd (write s table key action by)

  way_further : (first fault : Option Call) (h m h2 : State) (i : I) → Extends h m → Extends m h2 → m.stopped ≡ false → OnTheWay opens slots first h m i → OnTheWay opens slots fault h h2 i
  way_further first fault h m h2 i d e going (reached n low high r) = reached n low (omega (arith, high, extends_later m h2 e)) (restarts_later m h2 m.books h2.books n i e high e.marks r)
  way_further first fault h m h2 i d e going (at_end a) =
      let r = stands_at_end first m i going a in
      reached r.number (omega (arith, d.safe, r.acknowledged)) (omega (arith, r.made, extends_later m h2 e)) (restarts_later m h2 m.books h2.books r.number i e r.made e.marks r.found)

  way_longer : (fault : Option Call) (h m h2 : State) (i : I) → Extends h m → OnTheWay opens slots fault m h2 i → OnTheWay opens slots fault h h2 i
  way_longer fault h m h2 i d (reached n low high r) = reached n (omega (arith, low, d.safe)) high r
  way_longer fault h m h2 i d (at_end a) = at_end a

module _ {S : Type 0} (s : Ghosts S) (slots : Option ℕ) where
  -- over calls in which the disk didn't fail, and then others
  pub survives_on : {first fault : Option Call} → (h m h2 : State) (old mid new : S) → m.stopped ≡ false → Survives s slots first h m old mid → Survives s slots fault m h2 mid new → Survives s slots fault h h2 old new
  survives_on {first = first} {fault = fault} h m h2 old mid new going a b = record {
    extends = extends_on h m h2 a.extends b.extends;
    any_moment = joined s.moment s.left_since old mid new (OnTheWay s.opens slots fault h h2)
        (weaker s.moment s.left_since old mid (OnTheWay s.opens slots first h m) (OnTheWay s.opens slots fault h h2) (λ i w. way_further s.opens slots first fault h m h2 i a.extends b.extends going w) a.any_moment)
        (weaker s.moment s.left_since mid new (OnTheWay s.opens slots fault m h2) (OnTheWay s.opens slots fault h h2) (λ i w. way_longer s.opens slots fault h m h2 i a.extends w) b.any_moment);
    now_only = b.now_only;
  }
