-- Which status comes of which end.
use Rattle.std.proofs.lemmas.Bool.{false≢true}
use Rattle.std.proofs.Common.{arith, ◌≡◌, ◌≢◌, ◌⊎◌, ◌∙◌, inl, inr, ap, refl, sym, subst, ℕ, Bool, false}
use Rattle.rb_base.specs.Counts.{IsCountedAs}
use Rattle.rb_lines.specs.declared.lines.LinesEnd.{LinesEnd}
use Rattle.rb_lines.specs.declared.lines.LinesEnd.TheVariants as ends
use Rattle.rb_lines.specs.Ends as lines
use Rattle.rb_lines.specs.Faults.{IsCountedBeside}
use Rattle.rb_shell.specs.Runs.{EndsBy, as_lines, last_fault}
use Rattle.rb_shell.specs.Statuses.{AsksNothing, EndsRun}
use Rattle.rb_shell.specs.Statuses.{EndsFormat, by_disk, by_sink, by_source, status_of}
use Rattle.rb_shell.specs.declared.status.Status.{Status}
use Rattle.rb_shell.specs.declared.status.Status.TheVariants.{Done, Usage, SourceFault, DiskFault, SinkFault, NotAStore, NoMemory, NotEmpty, TooLong}

-- a count by another test that comes to the same
pub counted_as : (before now : ℕ) (a b : Bool) → a ≡ b → IsCountedAs before now a → IsCountedAs before now b
counted_as before now a b same counted = subst (λ (x : Bool). IsCountedAs before now x) same counted

-- lines that were done

pub done_of : (e : LinesEnd) → status_of e ≡ Done → e ≡ ends.Done
done_of ends.Done is = refl
done_of ends.SourceFault is = cc
done_of ends.DiskFault is = cc
done_of ends.SinkFault is = cc
done_of ends.TooLong is = cc

pub source_fault_of : (e : LinesEnd) → status_of e ≡ SourceFault → e ≡ ends.SourceFault
source_fault_of ends.Done is = cc
source_fault_of ends.SourceFault is = refl
source_fault_of ends.DiskFault is = cc
source_fault_of ends.SinkFault is = cc
source_fault_of ends.TooLong is = cc

pub disk_fault_of : (e : LinesEnd) → status_of e ≡ DiskFault → e ≡ ends.DiskFault
disk_fault_of ends.Done is = cc
disk_fault_of ends.SourceFault is = cc
disk_fault_of ends.DiskFault is = refl
disk_fault_of ends.SinkFault is = cc
disk_fault_of ends.TooLong is = cc

pub sink_fault_of : (e : LinesEnd) → status_of e ≡ SinkFault → e ≡ ends.SinkFault
sink_fault_of ends.Done is = cc
sink_fault_of ends.SourceFault is = cc
sink_fault_of ends.DiskFault is = cc
sink_fault_of ends.SinkFault is = refl
sink_fault_of ends.TooLong is = cc

pub too_long_of : (e : LinesEnd) → status_of e ≡ TooLong → e ≡ ends.TooLong
too_long_of ends.Done is = cc
too_long_of ends.SourceFault is = cc
too_long_of ends.DiskFault is = cc
too_long_of ends.SinkFault is = cc
too_long_of ends.TooLong is = refl

pub source_of : (e : LinesEnd) → lines.ends_by_source e ≡ by_source (status_of e)
source_of ends.Done = refl
source_of ends.SourceFault = refl
source_of ends.DiskFault = refl
source_of ends.SinkFault = refl
source_of ends.TooLong = refl

pub disk_of : (e : LinesEnd) → lines.ends_by_disk e ≡ by_disk (status_of e)
disk_of ends.Done = refl
disk_of ends.SourceFault = refl
disk_of ends.DiskFault = refl
disk_of ends.SinkFault = refl
disk_of ends.TooLong = refl

pub sink_of : (e : LinesEnd) → lines.ends_by_sink e ≡ by_sink (status_of e)
sink_of ends.Done = refl
sink_of ends.SourceFault = refl
sink_of ends.DiskFault = refl
sink_of ends.SinkFault = refl
sink_of ends.TooLong = refl

-- all was done only where the lines were
pub done_by : (e : LinesEnd) (s : Status) → s ≡ Done → EndsBy e s → e ≡ ends.Done
done_by e s done (as_lines is) = done_of e (sym is ∙ done)
done_by e s done (last_fault end is) = end

-- the lines ended so

pub source_by : (e : LinesEnd) (s : Status) → s ≡ SourceFault → EndsBy e s → e ≡ ends.SourceFault
source_by e s fault (as_lines is) = source_fault_of e (sym is ∙ fault)
source_by e s fault (last_fault end is) = (let clash : SourceFault ≡ DiskFault = sym fault ∙ is in absurd cc)

pub sink_by : (e : LinesEnd) (s : Status) → s ≡ SinkFault → EndsBy e s → e ≡ ends.SinkFault
sink_by e s fault (as_lines is) = sink_fault_of e (sym is ∙ fault)
sink_by e s fault (last_fault end is) = (let clash : SinkFault ≡ DiskFault = sym fault ∙ is in absurd cc)

pub long_by : (e : LinesEnd) (s : Status) → s ≡ TooLong → EndsBy e s → e ≡ ends.TooLong
long_by e s long (as_lines is) = too_long_of e (sym is ∙ long)
long_by e s long (last_fault end is) = (let clash : TooLong ≡ DiskFault = sym long ∙ is in absurd cc)

-- a fault of the disk came in a line or behind them all
pub disk_by : (e : LinesEnd) (s : Status) → s ≡ DiskFault → EndsBy e s → (e ≡ ends.DiskFault) ⊎ (e ≡ ends.Done)
disk_by e s fault (as_lines is) = inl (disk_fault_of e (sym is ∙ fault))
disk_by e s fault (last_fault end is) = inr end

-- lines came to their own end or not
pub cases_end : (e : LinesEnd) → (e ≡ ends.Done) ⊎ (e ≢ ends.Done)
cases_end ends.Done = inl refl
cases_end ends.SourceFault = inr (λ is. cc)
cases_end ends.DiskFault = inr (λ is. cc)
cases_end ends.SinkFault = inr (λ is. cc)
cases_end ends.TooLong = inr (λ is. cc)

-- where they came to their own end, only the disk may fail behind it
pub fault_behind : (s : Status) → EndsBy ends.Done s → s ≢ Done → s ≡ DiskFault
fault_behind s (as_lines is) other = absurd (other is)
fault_behind s (last_fault end is) other = is

-- the statuses of lines that came to their own end

pub last_source : (e : LinesEnd) (s : Status) → e ≡ ends.Done → EndsBy e s → by_source s ≡ false
last_source e s done (as_lines is) = ap by_source (is ∙ ap status_of done)
last_source e s done (last_fault _ is) = ap by_source is

pub last_sink : (e : LinesEnd) (s : Status) → e ≡ ends.Done → EndsBy e s → by_sink s ≡ false
last_sink e s done (as_lines is) = ap by_sink (is ∙ ap status_of done)
last_sink e s done (last_fault _ is) = ap by_sink is

-- a status of lines, however they ended, is one of a run that asked for the script
pub line_ends : (e : LinesEnd) (s : Status) → EndsBy e s → EndsRun s × (AsksNothing s → ⊥)
line_ends e s (as_lines is) = rw is (by e)
  where
    by : (e : LinesEnd) → EndsRun (status_of e) × (AsksNothing (status_of e) → ⊥)
    by ends.Done = (tt, λ none. none)
    by ends.SourceFault = (tt, λ none. none)
    by ends.DiskFault = (tt, λ none. none)
    by ends.SinkFault = (tt, λ none. none)
    by ends.TooLong = (tt, λ none. none)
line_ends e s (last_fault done is) = rw is (tt, λ none. none)

-- a new file is made without a source or a sink

pub format_source : (s : Status) → EndsFormat s → by_source s ≡ false
format_source Done ends = refl
format_source DiskFault ends = refl
format_source NotEmpty ends = refl
format_source Usage ends = absurd ends
format_source SourceFault ends = absurd ends
format_source SinkFault ends = absurd ends
format_source NotAStore ends = absurd ends
format_source NoMemory ends = refl
format_source TooLong ends = absurd ends

-- one that asked for nothing, with memory enough, found bytes
pub format_refused : (s : Status) → EndsFormat s → s ≢ NoMemory → AsksNothing s → s ≡ NotEmpty
format_refused NotEmpty ends memory none = refl
format_refused NoMemory ends memory none = absurd (memory refl)
format_refused Done ends memory none = absurd none
format_refused DiskFault ends memory none = absurd none
format_refused Usage ends memory none = absurd ends
format_refused SourceFault ends memory none = absurd ends
format_refused SinkFault ends memory none = absurd ends
format_refused NotAStore ends memory none = absurd ends
format_refused TooLong ends memory none = absurd ends

pub format_sink : (s : Status) → EndsFormat s → by_sink s ≡ false
format_sink Done ends = refl
format_sink DiskFault ends = refl
format_sink NotEmpty ends = refl
format_sink Usage ends = absurd ends
format_sink SourceFault ends = absurd ends
format_sink SinkFault ends = absurd ends
format_sink NotAStore ends = absurd ends
format_sink NoMemory ends = refl
format_sink TooLong ends = absurd ends

-- the same count by the same tests

pub counted_beside : (before now : ℕ) (a b hidden hidden2 : Bool) → a ≡ b → hidden ≡ hidden2 → IsCountedBeside before now a hidden → IsCountedBeside before now b hidden2
counted_beside before now a b hidden hidden2 same same2 counted =
    subst (λ (x : Bool). IsCountedBeside before now b x) same2 (subst (λ (x : Bool). IsCountedBeside before now x hidden) same counted)

-- nothing hides it
pub beside : (before now : ℕ) (a hidden : Bool) → IsCountedAs before now a → IsCountedBeside before now a hidden
beside before now a hidden counted = record { no_less = counted.no_less; cause = counted.cause; still = λ other open_. counted.still other }

-- a count that nothing touched
pub uncounted : (before now : ℕ) (a : Bool) → a ≡ false → now ≡ before → IsCountedAs before now a
uncounted before now a none same = record {
  no_less = omega (arith, same);
  cause = λ fault. absurd (false≢true (sym none ∙ fault));
  still = λ other. same;
}

-- a count that stood, and then one that rose just where it says
pub counted_on : (before mid now : ℕ) (fault hidden : Bool) → IsCountedBeside before mid false false → IsCountedAs mid now fault → IsCountedBeside before now fault hidden
counted_on before mid now fault hidden first then =
    let same : mid ≡ before = first.still refl refl in
    beside before now fault hidden (subst (λ (n : ℕ). IsCountedAs n now fault) same then)
