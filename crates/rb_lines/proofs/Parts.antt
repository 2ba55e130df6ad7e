-- What a run has done with the bytes taken so far.
use Rattle.std.proofs.Common.{◌≡◌, inl, inr, ℕ, ◌+◌, ◌-◌, ◌<◌, ◌≤◌, false, List, [], ◌∷◌, ◌++◌, length, take, Result, Ok, Err, refl, sym, ◌∙◌, ap, subst, arith, append_assoc, append-nil, length-append}
use Rattle.rb_model.specs.Lines.{lines_of}
use Rattle.rb_model.specs.Out.{Outside, Logged}
use Rattle.rb_lines.specs.declared.runner.StepFault.{StepFault}
use Rattle.rb_lines.specs.declared.runner.StepFault.TheVariants.{Disk, Sink}
use Rattle.rb_lines.specs.Cut.{CutOff}
use Rattle.rb_lines.specs.Ends.{EndsAs, Halted, WholeRan, end_of}
use Rattle.rb_lines.specs.Ran.{CutIn, Did, Ran, RanAs}
use Rattle.rb_lines.specs.Pieces.{lines_from, rest_from, last_of}
use Rattle.rb_lines.specs.Whole.{whole_lines}
use Rattle.rb_lines.proofs.Cuts.{lines-append, rest-append, lines_of-parts, whole_lines-pieces}
use Rattle.rb_lines.proofs.Dids.{did_as, did_on}
use Rattle.rb_lines.proofs.Runs.{ran_none, ran_told, ran-append, as-append, as_more}

-- all lines of the bytes of which one piece was taken and then another
lines_of_pieces : (first piece left : List ℕ)
    → lines_of (first ++ (piece ++ left)) ≡ (lines_from [] first ++ lines_from (rest_from [] first) piece)
    ++ (lines_from (rest_from (rest_from [] first) piece) left ++ last_of (rest_from (rest_from (rest_from [] first) piece) left))
lines_of_pieces first piece left =
    let rest : List ℕ = rest_from [] first in
    let bytes : first ++ (piece ++ left) ≡ (first ++ piece) ++ left = sym (append_assoc first piece left) in
    let restis : rest_from [] (first ++ piece) ≡ rest_from rest piece = rest-append [] first piece in
    let linesare : lines_from [] ((first ++ piece) ++ left) ≡ (lines_from [] first ++ lines_from rest piece) ++ lines_from (rest_from rest piece) left =
    lines-append [] (first ++ piece) left
    ∙ ap (λ (l : List ℕ). lines_from [] (first ++ piece) ++ lines_from l left) restis
    ∙ ap (λ (ls : List (List ℕ)). ls ++ lines_from (rest_from rest piece) left) (lines-append [] first piece) in
    let lastis : rest_from [] ((first ++ piece) ++ left) ≡ rest_from (rest_from rest piece) left =
    rest-append [] (first ++ piece) left ∙ ap (λ (l : List ℕ). rest_from l left) restis in
    ap lines_of bytes ∙ lines_of-parts ((first ++ piece) ++ left)
    ∙ ap (λ (l : List ℕ). lines_from [] ((first ++ piece) ++ left) ++ last_of l) lastis
    ∙ ap (λ (ls : List (List ℕ)). ls ++ last_of (rest_from (rest_from rest piece) left)) linesare
    ∙ append_assoc (lines_from [] first ++ lines_from rest piece) (lines_from (rest_from rest piece) left) (last_of (rest_from (rest_from rest piece) left))

-- a last line is the only one
none_after : (line : List ℕ) (done : List (List ℕ)) (next : List ℕ) (more : List (List ℕ)) → last_of line ≡ done ++ next ∷ more → more ≡ []
none_after line done next [] is = refl
none_after [] done next (other ∷ more) is =
    let some = ap length is ∙ length-append done (next ∷ (other ∷ more)) in
    absurd (omega (arith, some))
none_after (b ∷ line) done next (other ∷ more) is =
    let some = ap length is ∙ length-append done (next ∷ (other ∷ more)) in
    absurd (omega (arith, some))

-- a line among others is before their end
within : (first done : List (List ℕ)) (line : List ℕ) (more all : List (List ℕ)) → all ≡ first ++ (done ++ line ∷ more) → length (first ++ done) < length all
within first done line more all is =
    omega (arith, ap length is, length-append first done, length-append first (done ++ line ∷ more), length-append done (line ∷ more))

-- the whole lines of what was taken, and those of the next piece that were done
cut_ran : (outside : Outside) (m k middle : Logged) (taken : List ℕ) (done : List (List ℕ)) (tells : Type 0) (held held1 held2 : List ℕ) → tells
    → Ran outside m k (lines_from [] taken) tells held held1 → k.state.stopped ≡ false → Ran outside k middle done (Unit {0}) held1 held2
    → Ran outside m middle (whole_lines taken ++ done) (Unit {0}) held held2
cut_ran outside m k middle taken done tells held held1 held2 t ran going next =
    ran-append outside m k middle (whole_lines taken) done (Unit {0}) held held1 held2
    (subst (λ (ls : List (List ℕ)). Ran outside m k ls (Unit {0}) held held1) (whole_lines-pieces taken) (ran_told outside m k (lines_from [] taken) tells held held1 t ran)) going next

module _ {M : Type 0} (stands : M → Logged → Type 0) (since : M → M → Logged → Logged → Type 0) where
  -- `room` more bytes may be taken of a thousand million; `kept` is the front of the line under way
  pub record Part (old new : M) (outside : Outside) (tells : Type 0) (held_before held_now left_before left_now kept : List ℕ) (room : ℕ) : Type 0 where
    pub taken : List ℕ
    pub size : length taken + room ≡ 1000000000
    pub split : left_before ≡ taken ++ left_now
    pub rest : kept ≡ take 513 (rest_from [] taken)
    pub did : (m : Logged) → stands old m → m.state.stopped ≡ false
        → Did stands since old new m (λ now. RanAs outside m now (lines_from [] taken) tells held_before held_now (Ok tt))

  pub part_start : (old : M) (outside : Outside) (tells : Type 0) (held left kept : List ℕ) → ((m : Logged) → stands old m → m.state.stopped ≡ false → since old old m m)
      → kept ≡ [] → Part old old outside tells held held left left kept 1000000000
  part_start old outside tells held left kept same e = record {
    taken = [];
    size = omega arith;
    split = refl;
    rest = e;
    did = λ m is going. record { now = m; reached = is; passed = same m is going; ran = (ran_none outside m tells held, going) };
  }

  -- one more piece of n bytes
  pub part_more : (old mid new : M) (outside : Outside) (tells : Type 0) (held held1 held2 left left1 left2 kept kept2 : List ℕ) (room n : ℕ) (piece : List ℕ)
      → ((a b c : M) (h n k : Logged) → n.state.stopped ≡ false → since a b h n → since b c n k → since a c h k)
      → (p : Part old mid outside tells held held1 left left1 kept room)
      → n ≤ room → length piece ≡ n → left1 ≡ piece ++ left2
      → ((m : Logged) → stands mid m → m.state.stopped ≡ false
      → Did stands since mid new m (λ now. RanAs outside m now (lines_from (rest_from [] p.taken) piece) tells held1 held2 (Ok tt)))
      → kept2 ≡ take 513 (rest_from (rest_from [] p.taken) piece)
      → Part old new outside tells held held2 left left2 kept2 (room - n)
  part_more old mid new outside tells held held1 held2 left left1 left2 kept kept2 room n piece joined p le size split more rest = record {
    taken = p.taken ++ piece;
    size = omega (arith, p.size, length-append p.taken piece);
    split = p.split ∙ ap (λ (l : List ℕ). p.taken ++ l) split ∙ sym (append_assoc p.taken piece left2);
    rest = rest ∙ ap (λ (l : List ℕ). take 513 l) (sym (rest-append [] p.taken piece));
    did = λ m is going. did_on old mid new m _ _ _ joined (p.did m is going) (λ k so_far. so_far.1) more
        (λ k h2 so_far next. subst (λ (ls : List (List ℕ)). RanAs outside m h2 ls tells held held2 (Ok tt)) (sym (lines-append [] p.taken piece))
        (as-append outside m k h2 _ _ tells held held1 held2 (Ok tt) so_far.0 so_far.1 next));
  }

  -- the end of the input, with its last line
  pub part_end : (old mid new : M) (m : Logged) (outside : Outside) (tells : Type 0) (held held1 held2 left left1 kept : List ℕ) (room : ℕ) (r : Result (Unit {0}) StepFault)
      → ((a b c : M) (h n k : Logged) → n.state.stopped ≡ false → since a b h n → since b c n k → since a c h k)
      → (p : Part old mid outside tells held held1 left left1 kept room) → left1 ≡ [] → stands old m → m.state.stopped ≡ false
      → ((k : Logged) → stands mid k → k.state.stopped ≡ false → Did stands since mid new k (λ now. RanAs outside k now (last_of (rest_from [] p.taken)) tells held1 held2 r))
      → Did stands since old new m (λ now. RanAs outside m now (lines_of left) tells held held2 r)
  part_end old mid new m outside tells held held1 held2 left left1 kept room r joined p none is going more =
      let whole : left ≡ p.taken = p.split ∙ ap (λ (l : List ℕ). p.taken ++ l) none ∙ append-nil p.taken in
      did_on old mid new m _ _ _ joined (p.did m is going) (λ k so_far. so_far.1) more
      (λ k h2 so_far next. subst (λ (ls : List (List ℕ)). RanAs outside m h2 ls tells held held2 r) (sym (ap lines_of whole ∙ lines_of-parts p.taken))
      (as-append outside m k h2 _ _ tells held held1 held2 r so_far.0 so_far.1 next))

  -- with a fault of the disk in its last line
  part_halts : (old mid new : M) (m : Logged) (outside : Outside) (most : ℕ) (tells : Type 0) (held held1 held2 left left1 left2 kept : List ℕ) (room : ℕ)
      → ((a b c : M) (h n k : Logged) → n.state.stopped ≡ false → since a b h n → since b c n k → since a c h k)
      → (p : Part old mid outside tells held held1 left left1 kept room) → left1 ≡ [] → left1 ≡ left2 → stands old m → m.state.stopped ≡ false
      → ((k : Logged) → stands mid k → k.state.stopped ≡ false → Did stands since mid new k (λ now. RanAs outside k now (last_of (rest_from [] p.taken)) tells held1 held2 (Err Disk)))
      → Did stands since old new m (λ now. Halted outside most m now left left2 tells held held2)
  part_halts old mid new m outside most tells held held1 held2 left left1 left2 kept room joined p none stays is going more =
      let whole : left ≡ p.taken = p.split ∙ ap (λ (l : List ℕ). p.taken ++ l) none ∙ append-nil p.taken in
      did_on old mid new m _ _ _ joined (p.did m is going) (λ k so_far. so_far.1) more
      (λ k h2 so_far next. record {
        taken = p.taken;
        piece = [];
        few = omega arith;
        split = p.split ∙ ap (λ (l : List ℕ). p.taken ++ l) stays;
        middle = k;
        held = held1;
        done = subst (λ (ls : List (List ℕ)). Ran outside m k ls tells held held1) (whole_lines-pieces p.taken) so_far.0;
        going = so_far.1;
        rest = last_of (rest_from [] p.taken);
        lines = ap lines_of whole ∙ lines_of-parts p.taken ∙ ap (λ (ls : List (List ℕ)). ls ++ last_of (rest_from [] p.taken)) (whole_lines-pieces p.taken);
        fault = next.0;
        stopped = next.1;
      })

  -- with one of the sink in it
  part_last_cut : (old mid new : M) (m : Logged) (outside : Outside) (most : ℕ) (tells : Type 0) (held held1 held2 left left1 left2 kept : List ℕ) (room : ℕ)
      → ((a b c : M) (h n k : Logged) → n.state.stopped ≡ false → since a b h n → since b c n k → since a c h k)
      → (p : Part old mid outside tells held held1 left left1 kept room) → left1 ≡ [] → left1 ≡ left2 → stands old m → m.state.stopped ≡ false
      → ((k : Logged) → stands mid k → k.state.stopped ≡ false → Did stands since mid new k (λ now. RanAs outside k now (last_of (rest_from [] p.taken)) tells held1 held2 (Err Sink)))
      → Did stands since old new m (λ now. tells → CutOff outside most m now left left2 held held2)
  part_last_cut old mid new m outside most tells held held1 held2 left left1 left2 kept room joined p none stays is going more =
      let whole : left ≡ p.taken = p.split ∙ ap (λ (l : List ℕ). p.taken ++ l) none ∙ append-nil p.taken in
      let last : List (List ℕ) = last_of (rest_from [] p.taken) in
      did_on old mid new m _ _ _ joined (p.did m is going) (λ k so_far. so_far.1) more
      (λ k h2 so_far next t.
      let q : CutIn outside k h2 last held1 held2 = next t in
      record {
        taken = p.taken;
        piece = [];
        few = omega arith;
        split = p.split ∙ ap (λ (l : List ℕ). p.taken ++ l) stays;
        done = q.done;
        line = q.line;
        more = q.more;
        lines = ap lines_of whole ∙ lines_of-parts p.taken ∙ ap (λ (ls : List (List ℕ)). ls ++ last) (whole_lines-pieces p.taken)
            ∙ ap (λ (ls : List (List ℕ)). whole_lines p.taken ++ ls) q.split ∙ sym (append_assoc (whole_lines p.taken) q.done (q.line ∷ q.more));
        here = inr (sym stays ∙ none, none_after (rest_from [] p.taken) q.done q.line q.more q.split);
        middle = q.middle;
        held = q.held;
        ran = cut_ran outside m k q.middle p.taken q.done tells held held1 q.held t so_far.0 so_far.1 q.ran;
        going = q.going;
        cut = q.cut;
      })

  -- and in a piece
  part_cut : (old mid new : M) (m : Logged) (outside : Outside) (most : ℕ) (tells : Type 0) (held held1 held2 left left1 left2 kept : List ℕ) (room : ℕ) (piece : List ℕ)
      → ((a b c : M) (h n k : Logged) → n.state.stopped ≡ false → since a b h n → since b c n k → since a c h k)
      → (p : Part old mid outside tells held held1 left left1 kept room) → length piece ≤ most → left1 ≡ piece ++ left2 → stands old m → m.state.stopped ≡ false
      → ((k : Logged) → stands mid k → k.state.stopped ≡ false → Did stands since mid new k (λ now. RanAs outside k now (lines_from (rest_from [] p.taken) piece) tells held1 held2 (Err Sink)))
      → Did stands since old new m (λ now. tells → CutOff outside most m now left left2 held held2)
  part_cut old mid new m outside most tells held held1 held2 left left1 left2 kept room piece joined p few split is going more =
      let bytes : left ≡ p.taken ++ (piece ++ left2) = p.split ∙ ap (λ (l : List ℕ). p.taken ++ l) split in
      let here : List (List ℕ) = lines_from (rest_from [] p.taken) piece in
      let later : List (List ℕ) = lines_from (rest_from (rest_from [] p.taken) piece) left2 ++ last_of (rest_from (rest_from (rest_from [] p.taken) piece) left2) in
      let first : List (List ℕ) = whole_lines p.taken in
      let whole : whole_lines (p.taken ++ piece) ≡ first ++ here =
      sym (whole_lines-pieces (p.taken ++ piece)) ∙ lines-append [] p.taken piece ∙ ap (λ (ls : List (List ℕ)). ls ++ here) (whole_lines-pieces p.taken) in
      did_on old mid new m _ _ _ joined (p.did m is going) (λ k so_far. so_far.1) more
      (λ k h2 so_far next t.
      let q : CutIn outside k h2 here held1 held2 = next t in
      record {
        taken = p.taken;
        piece = piece;
        few = few;
        split = bytes;
        done = q.done;
        line = q.line;
        more = q.more ++ later;
        lines = ap lines_of bytes ∙ lines_of_pieces p.taken piece left2 ∙ append_assoc (lines_from [] p.taken) here later
            ∙ ap (λ (ls : List (List ℕ)). ls ++ (here ++ later)) (whole_lines-pieces p.taken)
            ∙ ap (λ (ls : List (List ℕ)). first ++ (ls ++ later)) q.split
            ∙ ap (λ (ls : List (List ℕ)). first ++ ls) (append_assoc q.done (q.line ∷ q.more) later)
            ∙ sym (append_assoc first q.done (q.line ∷ (q.more ++ later)));
        here = inl (within first q.done q.line q.more (whole_lines (p.taken ++ piece)) (whole ∙ ap (λ (ls : List (List ℕ)). first ++ ls) q.split));
        middle = q.middle;
        held = q.held;
        ran = cut_ran outside m k q.middle p.taken q.done tells held held1 q.held t so_far.0 so_far.1 q.ran;
        going = q.going;
        cut = q.cut;
      })

  -- a fault of the disk in a piece
  part_fault : (old mid new : M) (m : Logged) (outside : Outside) (most : ℕ) (tells : Type 0) (held held1 held2 left left1 left2 kept : List ℕ) (room : ℕ) (piece : List ℕ)
      → ((a b c : M) (h n k : Logged) → n.state.stopped ≡ false → since a b h n → since b c n k → since a c h k)
      → (p : Part old mid outside tells held held1 left left1 kept room) → length piece ≤ most → left1 ≡ piece ++ left2 → stands old m → m.state.stopped ≡ false
      → ((k : Logged) → stands mid k → k.state.stopped ≡ false → Did stands since mid new k (λ now. RanAs outside k now (lines_from (rest_from [] p.taken) piece) tells held1 held2 (Err Disk)))
      → Did stands since old new m (λ now. Halted outside most m now left left2 tells held held2)
  part_fault old mid new m outside most tells held held1 held2 left left1 left2 kept room piece joined p few split is going more =
      let bytes : left ≡ p.taken ++ (piece ++ left2) = p.split ∙ ap (λ (l : List ℕ). p.taken ++ l) split in
      let here : List (List ℕ) = lines_from (rest_from [] p.taken) piece in
      let later : List (List ℕ) = lines_from (rest_from (rest_from [] p.taken) piece) left2 ++ last_of (rest_from (rest_from (rest_from [] p.taken) piece) left2) in
      did_on old mid new m _ _ _ joined (p.did m is going) (λ k so_far. so_far.1) more
      (λ k h2 so_far next.
      let last = as_more outside k h2 here later tells held1 held2 Disk so_far.1 next in
      record {
        taken = p.taken;
        piece = piece;
        few = few;
        split = bytes;
        middle = k;
        held = held1;
        done = subst (λ (ls : List (List ℕ)). Ran outside m k ls tells held held1) (whole_lines-pieces p.taken) so_far.0;
        going = so_far.1;
        rest = here ++ later;
        lines = ap lines_of bytes ∙ lines_of_pieces p.taken piece left2 ∙ append_assoc (lines_from [] p.taken) here later
            ∙ ap (λ (ls : List (List ℕ)). ls ++ (here ++ later)) (whole_lines-pieces p.taken);
        fault = last.0;
        stopped = last.1;
      })

  -- how a fault in the last line ends the lines
  pub last_fails : (old mid new : M) (m : Logged) (outside : Outside) (most : ℕ) (tells : Type 0) (held held1 held2 left left1 left2 kept : List ℕ) (room : ℕ) (fault : StepFault)
      → ((a b c : M) (h n k : Logged) → n.state.stopped ≡ false → since a b h n → since b c n k → since a c h k)
      → (p : Part old mid outside tells held held1 left left1 kept room) → left1 ≡ [] → left1 ≡ left2 → stands old m → m.state.stopped ≡ false
      → ((k : Logged) → stands mid k → k.state.stopped ≡ false → Did stands since mid new k (λ now. RanAs outside k now (last_of (rest_from [] p.taken)) tells held1 held2 (Err fault)))
      → Did stands since old new m (λ now. EndsAs outside most m now left left2 tells held held2 (end_of fault))
  last_fails old mid new m outside most tells held held1 held2 left left1 left2 kept room Disk joined p none stays is going more =
      part_halts old mid new m outside most tells held held1 held2 left left1 left2 kept room joined p none stays is going more
  last_fails old mid new m outside most tells held held1 held2 left left1 left2 kept room Sink joined p none stays is going more =
      part_last_cut old mid new m outside most tells held held1 held2 left left1 left2 kept room joined p none stays is going more

  -- and how one in a piece does
  pub piece_fails : (old mid new : M) (m : Logged) (outside : Outside) (most : ℕ) (tells : Type 0) (held held1 held2 left left1 left2 kept : List ℕ) (room : ℕ) (piece : List ℕ) (fault : StepFault)
      → ((a b c : M) (h n k : Logged) → n.state.stopped ≡ false → since a b h n → since b c n k → since a c h k)
      → (p : Part old mid outside tells held held1 left left1 kept room) → length piece ≤ most → left1 ≡ piece ++ left2 → stands old m → m.state.stopped ≡ false
      → ((k : Logged) → stands mid k → k.state.stopped ≡ false → Did stands since mid new k (λ now. RanAs outside k now (lines_from (rest_from [] p.taken) piece) tells held1 held2 (Err fault)))
      → Did stands since old new m (λ now. EndsAs outside most m now left left2 tells held held2 (end_of fault))
  piece_fails old mid new m outside most tells held held1 held2 left left1 left2 kept room piece Disk joined p few split is going more =
      part_fault old mid new m outside most tells held held1 held2 left left1 left2 kept room piece joined p few split is going more
  piece_fails old mid new m outside most tells held held1 held2 left left1 left2 kept room piece Sink joined p few split is going more =
      part_cut old mid new m outside most tells held held1 held2 left left1 left2 kept room piece joined p few split is going more

  -- the whole lines among the bytes taken
  pub part_whole : (old mid : M) (m : Logged) (outside : Outside) (tells : Type 0) (held held1 left left1 left2 kept : List ℕ) (room : ℕ)
      → (p : Part old mid outside tells held held1 left left1 kept room) → left2 ≡ left1 → stands old m → m.state.stopped ≡ false
      → Did stands since old mid m (λ now. WholeRan outside m now p.taken left left2 tells held held1)
  part_whole old mid m outside tells held held1 left left1 left2 kept room p stays is going =
      did_as old mid m _ _ (λ k so_far. record {
        split = p.split ∙ ap (λ (l : List ℕ). p.taken ++ l) (sym stays);
        ran = subst (λ (ls : List (List ℕ)). Ran outside m k ls tells held held1) (whole_lines-pieces p.taken) so_far.0;
        going = so_far.1;
      }) (p.did m is going)

  -- a piece that was taken, and what it leaves
  pub part_took : (old mid : M) (outside : Outside) (tells : Type 0) (held held1 left left1 left2 kept : List ℕ) (room : ℕ) (piece : List ℕ)
      → Part old mid outside tells held held1 left left1 kept room → length piece ≤ room → left1 ≡ piece ++ left2
      → (taken : List ℕ) × (length taken ≤ 1000000000) × (left ≡ taken ++ left2)
  part_took old mid outside tells held held1 left left1 left2 kept room piece p le split =
      let bound : length (p.taken ++ piece) ≤ 1000000000 = omega (arith, p.size, length-append p.taken piece) in
      (p.taken ++ piece, bound, p.split ∙ ap (λ (l : List ℕ). p.taken ++ l) split ∙ sym (append_assoc p.taken piece left2))
