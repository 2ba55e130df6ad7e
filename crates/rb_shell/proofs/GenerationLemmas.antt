-- A run of the generator over an engine, and over the file that the engine was opened with.
use Rattle.std.proofs.Common.{◌≡◌, ◌≢◌, ◌∙◌, refl, ap, subst, ℕ, Bool, true, false, List, ◌++◌, take, Option, Result, Ok, Err}
use Rattle.rb_base.specs.declared.faults.Failed.{Failed}
use Rattle.rb_base.specs.declared.store.Store.{Ghosts}
use Rattle.rb_calls.specs.Since.{IsSince, StandsAs, engine_outside}
use Rattle.rb_disk.specs.declared.disk.Disk.{Ghosts as DiskGhosts}
use Rattle.rb_engine.specs.Does.{EngineView}
use Rattle.rb_generator.specs.Counted.{counts_of}
use Rattle.rb_generator.specs.Ends.{HasGenerated, StopsBy}
use Rattle.rb_generator.specs.Summary.{summary_text}
use Rattle.rb_generator.specs.declared.counts.Counts.{Counts}
use Rattle.law_crash.proofs.Crashes.{survives_on}
use Rattle.law_crash.specs.Crash.{Survives}
use Rattle.rb_lines.specs.Ran.{Did}
use Rattle.rb_model.specs.Out.{Logged}
use Rattle.rb_model.specs.Rows.{last_scn}
use Rattle.rb_base.specs.declared.faults.OpenFault.{OpenFault}
use Rattle.rb_base.specs.declared.faults.OpenFault.TheVariants as faults
use Rattle.rb_shell.specs.Generation.{HasMade, MadeOn, line_of}
use Rattle.rb_shell.specs.Statuses.{EndsGenerator, TellsCounts}
use Rattle.rb_shell.specs.Runs.{HasOpened, IsSound, IsWhole, MadeLast, first_of}
use Rattle.rb_shell.specs.Statuses.{IsDoneOrNoMemory}
use Rattle.rb_shell.specs.declared.status.Status.{Status}
use Rattle.rb_shell.specs.declared.status.Status.TheVariants.{Done, Usage, SourceFault, DiskFault, SinkFault, NotAStore, NoMemory, NotEmpty, TooLong}
use Rattle.rb_shell.specs.Statuses.{by_source, status_of_opening}
use Rattle.rb_store.specs.StoreStates.{StoreState}

-- an opening that was refused makes no line
pub no_counts : (fault : OpenFault) (status : Status) → status ≡ status_of_opening fault → TellsCounts status → ⊥
no_counts faults.Failed status is tells = subst TellsCounts is tells
no_counts faults.NotAStore status is tells = subst TellsCounts is tells
no_counts faults.NoMemory status is tells = subst TellsCounts is tells

module _ {S : Type 0} (s : Ghosts S) (m : Logged) (n : ℕ) (old mid : EngineView S) (tells : Type 0) (before held : List ℕ) where
  abbrev Made : Result Counts Failed → Type 0
  Made result = Did (StandsAs s) (IsSince s) old mid m (λ now. HasGenerated m engine_outside n now result)

  -- a fault of the disk in a command
  pub made_not : (failed : Failed) → Made (Err failed) → MadeOn s old.store mid.store engine_outside n m tells before held DiskFault
  made_not failed d = record {
    fault = true;
    made = record { answers = d.ran.answers; now = d.now; answered = d.ran.answered; stops = d.ran.ends };
    crash = λ kept. d.passed.crash kept;
    last = λ kept other. absurd (other refl);
    all = λ other. absurd (other refl);
    told = λ is. cc;
    cut = λ is. cc;
  }

  pub made_failed : (r : Result Counts Failed) → ((counts : Counts) → r ≡ Ok counts → ⊥) → Made r → MadeOn s old.store mid.store engine_outside n m tells before held DiskFault
  made_failed (Ok counts) none d = absurd (none counts refl)
  made_failed (Err failed) none d = made_not failed d

  -- the line of the counts that were given
  pub line_as : (counts : Counts) (now : ℕ) (d : Made (Ok counts)) → now ≡ last_scn d.now.state.commits → summary_text n counts now ≡ line_of n d.ran.answers d.now
  line_as counts now d is = ap (λ (c : Counts). summary_text n c now) d.ran.ends.0 ∙ ap (summary_text n (counts_of d.ran.answers)) is

  -- all were made, and then what waited was made last
  pub made_all : (counts : Counts) (d : Made (Ok counts)) (new : S) (last status : Status) → MadeLast s mid.store new d.now last → (status ≢ DiskFault → last ≡ Done)
      → (status ≡ Done → tells → held ≡ before ++ line_of n d.ran.answers d.now) → (status ≡ SinkFault → tells → (size : ℕ) × (held ≡ before ++ take size (line_of n d.ran.answers d.now)))
      → MadeOn s old.store new engine_outside n m tells before held status
  made_all counts d new last status made fine told cut = record {
    fault = false;
    made = record { answers = d.ran.answers; now = d.now; answered = d.ran.answered; stops = d.ran.ends.1 };
    crash = λ kept. survives_on s (s.slots old.store) m.state d.now.state d.now.state old.store mid.store new d.ran.ends.1 (d.passed.crash kept)
        (subst (λ (k : Option ℕ). Survives s k d.now.fault d.now.state d.now.state mid.store new) d.passed.same.slots (made.crash d.now.fault kept));
    last = λ kept other i here. subst (λ (k : Option ℕ). IsWhole s.opens k d.now i) d.passed.same.slots (made.last kept (fine other) i here);
    all = λ other. refl;
    told = told;
    cut = cut;
  }

module _ {D : Type 0} (d : DiskGhosts D) (old : D) (g : Ghosts (StoreState D)) (e : EngineView (StoreState D)) (sound : IsSound (d.content old)) (o : HasOpened d g old e sound) where
  -- the same commands over the file
  abbrev pub same_made : (n : ℕ) (had fault : Bool) → had ≡ fault → HasMade engine_outside (first_of sound o.first) n had → HasMade engine_outside (first_of sound o.first) n fault
  same_made n had fault is made = record {
    answers = made.answers;
    now = made.now;
    answered = made.answered;
    stops = subst (λ (v : Bool). StopsBy v made.answers made.now) is made.stops;
  }

-- a run of the generator asks for no script, and has no other faults

pub complete_gen : (status : Status) → EndsGenerator status → (status ≡ DiskFault → ⊥) → (status ≡ SinkFault → ⊥) → (status ≡ NotAStore → ⊥) → IsDoneOrNoMemory status
complete_gen Done ends disk sink store = tt
complete_gen NoMemory ends disk sink store = tt
complete_gen DiskFault ends disk sink store = disk refl
complete_gen SinkFault ends disk sink store = sink refl
complete_gen NotAStore ends disk sink store = store refl
complete_gen Usage ends disk sink store = ends
complete_gen SourceFault ends disk sink store = ends
complete_gen NotEmpty ends disk sink store = ends
complete_gen TooLong ends disk sink store = ends

pub gen_source : (s : Status) → EndsGenerator s → by_source s ≡ false
gen_source Done ends = refl
gen_source DiskFault ends = refl
gen_source SinkFault ends = refl
gen_source NotAStore ends = refl
gen_source NoMemory ends = refl
gen_source Usage ends = absurd ends
gen_source SourceFault ends = absurd ends
gen_source NotEmpty ends = absurd ends
gen_source TooLong ends = absurd ends
