-- What a line runner did with lines, one piece after another.
use Rattle.std.proofs.Common.{◌≡◌, ℕ, false, List, [], ◌∷◌, ◌++◌, take, Result, Ok, Err, refl, sym, ◌∙◌, ap, append_assoc, append-nil}
use Rattle.rb_model.specs.Out.{Outside, Logged, LineOut}
use Rattle.rb_lines.specs.declared.runner.StepFault.{StepFault}
use Rattle.rb_lines.specs.declared.runner.StepFault.TheVariants.{Disk, Sink}
use Rattle.rb_lines.specs.Ran.{Replied, CutShort, LineBegun, LineRanAs, Ran, CutIn, RanAs}
use Rattle.rb_lines.proofs.Outs.{front_out, front_begun, one_out, append_out, stopped_out}

-- no line
pub ran_none : (outside : Outside) (h : Logged) (tells : Type 0) (held : List ℕ) → Ran outside h h [] tells held held
ran_none outside h tells held = record { out = []; replies = (refl, refl); written = λ t. sym (append-nil held) }

-- one line
ran_one : (outside : Outside) (h h2 : Logged) (line : List ℕ) (tells : Type 0) (held held2 : List ℕ)
    → Replied (LineOut h outside line) h2 tells held held2 → Ran outside h h2 (line ∷ []) tells held held2
ran_one outside h h2 line tells held held2 r = record {
  out = r.out;
  replies = one_out h outside line r.out h2 r.reply;
  written = r.written;
}

-- one that was cut off
cut_one : (outside : Outside) (h h2 : Logged) (line : List ℕ) (held held2 : List ℕ)
    → h.state.stopped ≡ false → CutShort (LineBegun h outside line) h2 held held2 → CutIn outside h h2 (line ∷ []) held held2
cut_one outside h h2 line held held2 going r = record {
  done = [];
  line = line;
  more = [];
  split = refl;
  middle = h;
  held = held;
  ran = ran_none outside h (Unit {0}) held;
  going = going;
  cut = r;
}

pub ran-append : (outside : Outside) (h m h2 : Logged) (xs ys : List (List ℕ)) (tells : Type 0) (held held1 held2 : List ℕ)
    → Ran outside h m xs tells held held1 → m.state.stopped ≡ false → Ran outside m h2 ys tells held1 held2
    → Ran outside h h2 (xs ++ ys) tells held held2
ran-append outside h m h2 xs ys tells held held1 held2 r going q = record {
  out = r.out ++ q.out;
  replies = append_out outside xs ys h m h2 r.out q.out r.replies going q.replies;
  written = λ t. q.written t ∙ ap (λ (o : List ℕ). o ++ q.out) (r.written t) ∙ append_assoc held r.out q.out;
}

-- where the sink tells
pub ran_told : (outside : Outside) (h m : Logged) (xs : List (List ℕ)) (tells : Type 0) (held held1 : List ℕ) → tells → Ran outside h m xs tells held held1 → Ran outside h m xs (Unit {0}) held held1
ran_told outside h m xs tells held held1 t r = record { out = r.out; replies = r.replies; written = λ u. r.written t }

pub cut-append : (outside : Outside) (h m h2 : Logged) (xs ys : List (List ℕ)) (tells : Type 0) (held held1 held2 : List ℕ)
    → Ran outside h m xs tells held held1 → m.state.stopped ≡ false → tells → CutIn outside m h2 ys held1 held2
    → CutIn outside h h2 (xs ++ ys) held held2
cut-append outside h m h2 xs ys tells held held1 held2 r going t q = record {
  done = xs ++ q.done;
  line = q.line;
  more = q.more;
  split = ap (λ (ls : List (List ℕ)). xs ++ ls) q.split ∙ sym (append_assoc xs q.done (q.line ∷ q.more));
  middle = q.middle;
  held = q.held;
  ran = ran-append outside h m q.middle xs q.done (Unit {0}) held held1 q.held (ran_told outside h m xs tells held held1 t r) going q.ran;
  going = q.going;
  cut = q.cut;
}

pub cut_more : (outside : Outside) (h h2 : Logged) (xs ys : List (List ℕ)) (held held2 : List ℕ)
    → CutIn outside h h2 xs held held2 → CutIn outside h h2 (xs ++ ys) held held2
cut_more outside h h2 xs ys held held2 q = record {
  done = q.done;
  line = q.line;
  more = q.more ++ ys;
  split = ap (λ (ls : List (List ℕ)). ls ++ ys) q.split ∙ append_assoc q.done (q.line ∷ q.more) ys;
  middle = q.middle;
  held = q.held;
  ran = q.ran;
  going = q.going;
  cut = q.cut;
}

-- A step over a line, as its clause tells it.
pub step_whole : (outside : Outside) (h h2 : Logged) (line : List ℕ) (tells : Type 0) (held held2 : List ℕ) (result : Result (Unit {0}) StepFault)
    → h.state.stopped ≡ false → LineRanAs outside h h2 line tells held held2 result → RanAs outside h h2 (line ∷ []) tells held held2 result
step_whole outside h h2 line tells held held2 (Ok done) going ran = (ran_one outside h h2 line tells held held2 ran.0, ran.1)
step_whole outside h h2 line tells held held2 (Err Disk) going ran = (ran_one outside h h2 line tells held held2 ran.0, ran.1)
step_whole outside h h2 line tells held held2 (Err Sink) going cut = λ t. cut_one outside h h2 line held held2 going (cut t)

front_replied : (outside : Outside) (h h2 : Logged) (line front : List ℕ) (tells : Type 0) (held held2 : List ℕ)
    → front ≡ take 513 line → Replied (LineOut h outside front) h2 tells held held2 → Replied (LineOut h outside line) h2 tells held held2
front_replied outside h h2 line front tells held held2 e r = record {
  out = r.out;
  reply = front_out h outside line front r.out h2 e r.reply;
  written = r.written;
}

-- The front of a line is done as the line is.
front_as : (outside : Outside) (h h2 : Logged) (line front : List ℕ) (tells : Type 0) (held held2 : List ℕ) (result : Result (Unit {0}) StepFault)
    → front ≡ take 513 line → LineRanAs outside h h2 front tells held held2 result → LineRanAs outside h h2 line tells held held2 result
front_as outside h h2 line front tells held held2 (Ok done) e ran = (front_replied outside h h2 line front tells held held2 e ran.0, ran.1)
front_as outside h h2 line front tells held held2 (Err Disk) e ran = (front_replied outside h h2 line front tells held held2 e ran.0, ran.1)
front_as outside h h2 line front tells held held2 (Err Sink) e cut = λ t.
    let r = cut t in
    record { out = r.out; reply = front_begun h outside line front r.out h2 e r.reply; size = r.size; written = r.written }

-- a step over the front of a line
pub step_as : (outside : Outside) (h h2 : Logged) (line front : List ℕ) (tells : Type 0) (held held2 : List ℕ) (result : Result (Unit {0}) StepFault)
    → h.state.stopped ≡ false → front ≡ take 513 line → LineRanAs outside h h2 front tells held held2 result
    → RanAs outside h h2 (line ∷ []) tells held held2 result
step_as outside h h2 line front tells held held2 result going e ran =
    step_whole outside h h2 line tells held held2 result going (front_as outside h h2 line front tells held held2 result e ran)

-- lines that were done, and then more of them
pub as-append : (outside : Outside) (h m h2 : Logged) (xs ys : List (List ℕ)) (tells : Type 0) (held held1 held2 : List ℕ) (result : Result (Unit {0}) StepFault)
    → Ran outside h m xs tells held held1 → m.state.stopped ≡ false → RanAs outside m h2 ys tells held1 held2 result
    → RanAs outside h h2 (xs ++ ys) tells held held2 result
as-append outside h m h2 xs ys tells held held1 held2 (Ok done) r going q =
    (ran-append outside h m h2 xs ys tells held held1 held2 r going q.0, q.1)
as-append outside h m h2 xs ys tells held held1 held2 (Err Disk) r going q =
    (ran-append outside h m h2 xs ys tells held held1 held2 r going q.0, q.1)
as-append outside h m h2 xs ys tells held held1 held2 (Err Sink) r going q =
    λ t. cut-append outside h m h2 xs ys tells held held1 held2 r going t (q t)

-- a fault, and then lines that were not begun
pub as_more : (outside : Outside) (h h2 : Logged) (xs ys : List (List ℕ)) (tells : Type 0) (held held2 : List ℕ) (fault : StepFault)
    → h.state.stopped ≡ false → RanAs outside h h2 xs tells held held2 (Err fault) → RanAs outside h h2 (xs ++ ys) tells held held2 (Err fault)
as_more outside h h2 xs ys tells held held2 Disk going q =
    let more : Ran outside h h2 (xs ++ ys) tells held held2 =
    record { out = q.0.out; replies = stopped_out outside xs ys h h2 q.0.out going q.0.replies q.1; written = q.0.written } in
    (more, q.1)
as_more outside h h2 xs ys tells held held2 Sink going q = λ t. cut_more outside h h2 xs ys held held2 (q t)
