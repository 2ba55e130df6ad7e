-- Writes that are tried again behind a line, and what becomes of the line with them.
use Rattle.std.proofs.Common.{append_assoc, ◌≡◌, ◌∙◌, inl, refl, sym, ap, arith, ℕ, ◌+◌, ◌-◌, ◌≤◌, Bool, List, [], ◌∷◌, ◌++◌, length, Err, Some}
use Rattle.std.proofs.lemmas.List.{append-nil, length-append, drop-append-le, take-append-le}
use Rattle.std.specs.Prelude.{◌/◌}
use Rattle.rb_calls.specs.Resumes.{AllHeard, AllResumed, HasResumed}
use Rattle.rb_lines.specs.Ran.{LineBegun}
use Rattle.rb_lines.specs.declared.runner.StepFault.{StepFault}
use Rattle.rb_lines.specs.declared.runner.StepFault.TheVariants.{Disk, Sink}
use Rattle.rb_model.specs.Calls.{Answer}
use Rattle.rb_model.specs.Lines.{reply_text}
use Rattle.rb_model.specs.Out.{Logged, LineOut, LineSaid, ResumesOut, Outside}
use Rattle.rb_shell.specs.Steps.{HasReply, Said, SaidAs}
use Rattle.rb_shell.specs.declared.replies.Waiting.{Waiting}

-- the room for replies, by the bytes that wait

pub room_one : (bytes : ℕ) → 1 ≤ (73728 - bytes) / 512 → bytes + 512 ≤ 73728
room_one bytes some = omega (arith, some)

pub room_less : (before after : ℕ) → after ≤ before + 512 → (73728 - before) / 512 ≤ (73728 - after) / 512 + 1
room_less before after few = omega (arith, few)

pub room_all : (bytes : ℕ) → bytes ≤ 65536 → 16 ≤ (73728 - bytes) / 512
room_all bytes few = omega (arith, few)

-- one after another

abbrev texts_of : List (ℕ × Answer) → List ℕ
texts_of [] = []
texts_of (r ∷ more) = reply_text (Some r.0) r.1 ++ texts_of more

resumes_out : (rs : List (ℕ × Answer)) (m now : Logged) (outside : Outside) → AllResumed m outside rs now → ResumesOut m outside (length rs) (texts_of rs) now
resumes_out [] m now outside (settled, is) = (settled, refl, is)
resumes_out (r ∷ more) m now outside (middle, going, again, rest) =
    (r.0, again.asked, r.1, texts_of more, middle, going, again.ready, again.known, again.resumed, refl, resumes_out more middle now outside rest)

texts_wait : (rs : List (ℕ × Answer)) (a b : Waiting) → AllHeard HasReply a rs b → b.bytes.items ≡ a.bytes.items ++ texts_of rs
texts_wait [] a b is = ap (λ (w : Waiting). w.bytes.items) is ∙ sym (append-nil a.bytes.items)
texts_wait (r ∷ more) a b (middle, one, rest) =
    texts_wait more middle b rest ∙ ap (λ (xs : List ℕ). xs ++ texts_of more) one ∙ append_assoc a.bytes.items (reply_text (Some r.0) r.1) (texts_of more)

-- behind a line

said_on : (m mid now : Logged) (outside : Outside) (count : ℕ) (line rest : List ℕ) (tells : Type 0) (before held waiting waiting2 : List ℕ)
    → Said (LineSaid m outside line) mid tells before held waiting → ResumesOut mid outside count rest now → waiting2 ≡ waiting ++ rest → Said (LineOut m outside line) now tells before held waiting2
said_on m mid now outside count line rest tells before held waiting waiting2 said resumed waits = record {
  out = said.out ++ rest;
  reply = (said.out, rest, mid, count, said.reply, refl, resumed);
  sent = said.sent;
  few = omega (arith, said.few, length-append said.out rest);
  holds = λ t. said.holds t ∙ ap (λ (xs : List ℕ). before ++ xs) (sym (take-append-le said.sent said.out rest said.few));
  waits = waits ∙ ap (λ (xs : List ℕ). xs ++ rest) said.waits ∙ sym (drop-append-le said.sent said.out rest said.few);
}

pub line_ends : (m mid now : Logged) (outside : Outside) (line : List ℕ) (tells : Type 0) (before held : List ℕ) (a b : Waiting) (failed : Bool) → Said (LineSaid m outside line) mid tells before held a.bytes.items
    → HasResumed HasReply mid outside now a b failed → Said (LineOut m outside line) now tells before held b.bytes.items × (now.state.stopped ≡ failed)
line_ends m mid now outside line tells before held a b failed said has =
    (said_on m mid now outside (length has.answers) line (texts_of has.answers) tells before held a.bytes.items b.bytes.items said (resumes_out has.answers mid now outside has.resumed) (texts_wait has.answers a b has.all_heard), has.stopped)

-- a fault in the line itself, behind which none is tried
pub line_fails : (m now : Logged) (outside : Outside) (line : List ℕ) (tells : Type 0) (before held waiting : List ℕ) (fault : StepFault)
    → SaidAs (LineSaid m outside line) (LineBegun m outside line) now tells before held waiting (Err fault) → SaidAs (LineOut m outside line) (LineBegun m outside line) now tells before held waiting (Err fault)
line_fails m now outside line tells before held waiting Disk (said, stopped) =
    let none : ◌≡◌ {A = List ℕ} [] [] = refl in
    (said_on m now now outside 0 line [] tells before held waiting waiting said (inl stopped, none, refl) (sym (append-nil waiting)), stopped)
line_fails m now outside line tells before held waiting Sink cut = cut
