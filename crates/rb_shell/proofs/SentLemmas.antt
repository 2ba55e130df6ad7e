-- Replies of which some were sent, while the others wait: one more is added, and at the end all are sent.
use Rattle.std.proofs.Common.{append_assoc, ◌≡◌, ◌∙◌, ⊎_elim, sym, ap, arith, ℕ, ◌+◌, ◌≤◌, List, ◌++◌, length, take, drop, Result, Ok, Err, min}
use Rattle.std.proofs.lemmas.List.{length-append, drop-append-le, take-append-drop, take-append-le, take_all, take_min}
use Rattle.std.proofs.Math.Seq.{drop-append_seam, take-add}
use Rattle.std.specs.Prelude.{IfErr, OnErr, OnOk}
use Rattle.rb_lines.specs.Ran.{CutShort, Replied, RepliedAs}
use Rattle.rb_lines.specs.declared.runner.StepFault.{StepFault}
use Rattle.rb_lines.specs.declared.runner.StepFault.TheVariants.{Disk, Sink}
use Rattle.rb_model.specs.Out.{Logged}
use Rattle.rb_shell.specs.Steps.{Added, Lost, Said, SaidAs}

-- texts that were added, of which some were sent

pub take_within : (n : ℕ) (text more : List ℕ) → take (min n (length text)) (text ++ more) ≡ take n text
take_within n text more = take-append-le (min n (length text)) text more (omega arith) ∙ take_min n text

-- the sink holds the first of them
abbrev pub Holds : Type 0 → (before held waiting out : List ℕ) → ℕ → Type 0
Holds tells before held waiting out sent = (sent ≤ length out) × (tells → held ≡ before ++ take sent out) × (waiting ≡ drop sent out)

pub added_holds : (tells : Type 0) (before held waiting held2 waiting2 out text : List ℕ) (sent : ℕ) → sent ≤ length out → (tells → held ≡ before ++ take sent out) → waiting ≡ drop sent out
    → Added text tells held waiting held2 waiting2 → (sent2 : ℕ) × Holds tells before held2 waiting2 (out ++ text) sent2
added_holds tells before held waiting held2 waiting2 out text sent few holds waits added =
    let long = length-append out text in
    ⊎_elim
    (λ a. (
      sent,
      (
        omega (arith, few, long),
        (λ t. a.1 t ∙ holds t ∙ ap (λ (xs : List ℕ). before ++ xs) (sym (take-append-le sent out text few))),
        a.0 ∙ ap (λ (xs : List ℕ). xs ++ text) waits ∙ sym (drop-append-le sent out text few),
      ),
    ))
    (λ a. (
      length out,
      (
        omega (arith, long),
        (λ t. a.1 t ∙ ap (λ (xs : List ℕ). xs ++ waiting) (holds t) ∙ ap (λ (xs : List ℕ). (before ++ take sent out) ++ xs) waits
            ∙ append_assoc before (take sent out) (drop sent out) ∙ ap (λ (xs : List ℕ). before ++ xs) (take-append-drop sent out ∙ sym (take-append-le (length out) out text (omega arith) ∙ take_all (length out) out (omega arith)))),
        a.0 ∙ sym (drop-append_seam out text),
      ),
    ))
    added

-- what was lost was some of what waited
pub lost_holds : (tells : Type 0) (before held waiting held2 out : List ℕ) (sent : ℕ) → (tells → held ≡ before ++ take sent out) → waiting ≡ drop sent out
    → Lost tells held waiting held2 → tells → (size : ℕ) × (held2 ≡ before ++ take size out)
lost_holds tells before held waiting held2 out sent holds waits lost t =
    let l = lost t in (
      sent + l.0,
      l.1 ∙ ap (λ (xs : List ℕ). xs ++ take l.0 waiting) (holds t) ∙ ap (λ (xs : List ℕ). (before ++ take sent out) ++ take l.0 xs) waits
          ∙ append_assoc before (take sent out) (take l.0 (drop sent out)) ∙ ap (λ (xs : List ℕ). before ++ xs) (sym (take-add sent l.0 out)),
    )

-- what waited is sent

all_sent : (R : List ℕ → Logged → Type 0) (now : Logged) (tells : Type 0) (before held waiting held2 : List ℕ) → Said R now tells before held waiting → (tells → held2 ≡ held ++ waiting) → Replied R now tells before held2
all_sent R now tells before held waiting held2 said sent = record {
  out = said.out;
  reply = said.reply;
  written = λ t. sent t ∙ ap (λ (xs : List ℕ). xs ++ waiting) (said.holds t) ∙ ap (λ (xs : List ℕ). (before ++ take said.sent said.out) ++ xs) said.waits
      ∙ append_assoc before (take said.sent said.out) (drop said.sent said.out) ∙ ap (λ (xs : List ℕ). before ++ xs) (take-append-drop said.sent said.out);
}

-- and where the sink fails then, some of it is
some_sent : (R B : List ℕ → Logged → Type 0) (now : Logged) (tells : Type 0) (before held waiting held2 : List ℕ) → ((out : List ℕ) → R out now → B out now) → Said R now tells before held waiting → Lost tells held waiting held2 → tells → CutShort B now before held2
some_sent R B now tells before held waiting held2 begun said lost t =
    let l = lost_holds tells before held waiting held2 said.out said.sent said.holds said.waits lost t in
    record { out = said.out; reply = begun said.out said.reply; size = l.0; written = l.1 }

-- by the end of the line

module _ (R B : List ℕ → Logged → Type 0) (now : Logged) (tells : Type 0) (before held waiting held2 : List ℕ) (begun : (out : List ℕ) → R out now → B out now) where
  pub ok_sent : (result : Result (Unit {0}) StepFault) → SaidAs R B now tells before held waiting (Ok tt)
      → OnOk result (tells → held2 ≡ held ++ waiting) → OnErr result (Lost tells held waiting held2) → IfErr result (λ fault. fault ≡ Sink) → RepliedAs R B now tells before held2 result
  ok_sent (Ok done) (said, going) sent lost by = (all_sent R now tells before held waiting held2 said sent, going)
  ok_sent (Err Disk) (said, going) sent lost by = cc
  ok_sent (Err Sink) (said, going) sent lost by = λ t. some_sent R B now tells before held waiting held2 begun said lost t

  pub disk_sent : SaidAs R B now tells before held waiting (Err Disk) → (tells → held2 ≡ held ++ waiting) → RepliedAs R B now tells before held2 (Err Disk)
  disk_sent (said, stopped) sent = (all_sent R now tells before held waiting held2 said sent, stopped)

  pub disk_lost : SaidAs R B now tells before held waiting (Err Disk) → Lost tells held waiting held2 → RepliedAs R B now tells before held2 (Err Sink)
  disk_lost (said, stopped) lost = λ t. some_sent R B now tells before held waiting held2 begun said lost t
