use Rattle.rb_layout.specs.Regions.{file_version}
use Rattle.std.proofs.Common.{◌∙◌, ◌⊎◌, ⊎_elim, inl, inr, ℕ, ◌<◌, Bool, false, length, refl, ap, subst, arith}
use Rattle.rb_layout.specs.declared.layout.Layout.{Layout}
use Rattle.rb_words.specs.Words.{AsksFormat, AsksGen, AsksRun}
use Rattle.rb_words.specs.declared.words.Request.TheVariants.{Format, Gen, Run}
use Rattle.rb_shell.proofs.RunLemmas.{alone_same, complete_format, complete_run, not_longer, rests_alone, rests_itself}
use Rattle.rb_words.proofs.Spelling.{same_file, same_gen, not_both, not_format_and_gen, not_run_and_gen}
use Rattle.rb_shell.proofs.GenerationLemmas.{complete_gen, gen_source}
use Rattle.rb_shell.proofs.StatusLemmas.{beside, format_refused, format_sink, format_source, uncounted}
use Rattle.rb_shell.proofs.LeftLemmas.{halts_over, is_cut_over, leaves_all, leaves_same, leaves_some, opens_with, runs_over, runs_to_end}
use Rattle.rb_shell.specs.Left.{fresh}
use Rattle.rb_shell.specs.Generation.{HasTold, MadeOver, WasNotTold}
use Rattle.rb_shell.specs.Runs.{Endures, IsSound, Lasts, WasStopped}
use Rattle.rb_base.specs.Counts.{Rose}
use Rattle.rb_shell.specs.Statuses.{IsDoneOrNoMemory, by_disk, by_sink, by_source}
use Rattle.rb_shell.proofs.command.run.Given.{Over}
use Rattle.rb_shell.proofs.command.run.Goals.{After-run_format, After-run_generator, After-run_script}
use Rattle.rb_shell.proofs.command.run.Goals as goal

-- what the words ask for

asks_format : (g : Over) (c : After-run_format g) → AsksFormat c.args.words.now c.in-Ok-Some-Format.layout
asks_format g c =
    let request = rw c.in-Ok-Some-Format.field-0-is at c.in-Ok-Some-Format.ensures.found in
    rw c.in-Ok-Some-Format.field-0-0-is at request

asks_run : (g : Over) (c : After-run_script g) → AsksRun c.args.words.now c.in-Ok-Some-Run.frames
asks_run g c =
    let request = rw c.in-Ok-Some-Run.field-0-is at c.in-Ok-Some-Run.ensures.found in
    rw c.in-Ok-Some-Run.field-0-0-is at request

-- words that ask for a new file ask for no run
no_run : (g : Over) (c : After-run_format g) (n : ℕ) → AsksRun c.args.words.now n → ⊥
no_run g c n asked = not_both c.args.words.now c.in-Ok-Some-Format.layout n (asks_format g c) asked

-- nor the other way round
no_format : (g : Over) (c : After-run_script g) (l : Layout) → AsksFormat c.args.words.now l → ⊥
no_format g c l asked = not_both c.args.words.now l c.in-Ok-Some-Run.frames asked (asks_run g c)

-- nor do they ask for a run of the generator
no_gen : (g : Over) (c : After-run_format g) (n : ℕ) → AsksGen c.args.words.now n → ⊥
no_gen g c n asked = not_format_and_gen c.args.words.now c.in-Ok-Some-Format.layout n (asks_format g c) asked

gen_no : (g : Over) (c : After-run_script g) (n : ℕ) → AsksGen c.args.words.now n → ⊥
gen_no g c n asked = not_run_and_gen c.args.words.now c.in-Ok-Some-Run.frames n (asks_run g c) asked

pub returns-in-Ok-Some-Format-clause-usage : goal.returns-in-Ok-Some-Format-clause-usage
returns-in-Ok-Some-Format-clause-usage g c = λ is. absurd (rw is at c.run_format.ensures.ends)

pub returns-in-Ok-Some-Format-clause-other_words : goal.returns-in-Ok-Some-Format-clause-other_words
returns-in-Ok-Some-Format-clause-other_words g c = λ none. absurd (none.0 c.in-Ok-Some-Format.layout (asks_format g c))

pub returns-in-Ok-Some-Format-clause-usage_disk : goal.returns-in-Ok-Some-Format-clause-usage_disk
returns-in-Ok-Some-Format-clause-usage_disk g c = λ none. absurd (none.0 c.in-Ok-Some-Format.layout (asks_format g c))

pub returns-in-Ok-Some-Format-clause-format_memory : goal.returns-in-Ok-Some-Format-clause-format_memory
returns-in-Ok-Some-Format-clause-format_memory g c = λ l asked is. absurd (c.run_format.ensures.memory is)

pub returns-in-Ok-Some-Format-clause-gen_ends : goal.returns-in-Ok-Some-Format-clause-gen_ends
returns-in-Ok-Some-Format-clause-gen_ends g c = λ n asked. absurd (no_gen g c n asked)

pub returns-in-Ok-Some-Format-clause-generated : goal.returns-in-Ok-Some-Format-clause-generated
returns-in-Ok-Some-Format-clause-generated g c = λ told n asked is. absurd (no_gen g c n asked)

pub returns-in-Ok-Some-Format-clause-not_told : goal.returns-in-Ok-Some-Format-clause-not_told
returns-in-Ok-Some-Format-clause-not_told g c = λ told tells n asked is. absurd (no_gen g c n asked)

pub returns-in-Ok-Some-Format-clause-gen_disk : goal.returns-in-Ok-Some-Format-clause-gen_disk
returns-in-Ok-Some-Format-clause-gen_disk g c = λ told n asked is. absurd (no_gen g c n asked)

pub returns-in-Ok-Some-Format-clause-gen_untouched : goal.returns-in-Ok-Some-Format-clause-gen_untouched
returns-in-Ok-Some-Format-clause-gen_untouched g c = λ told n asked is. absurd (no_gen g c n asked)

pub returns-in-Ok-Some-Format-clause-gen_store : goal.returns-in-Ok-Some-Format-clause-gen_store
returns-in-Ok-Some-Format-clause-gen_store g c = λ told n asked is. absurd (no_gen g c n asked)

pub returns-in-Ok-Some-Format-clause-complete_gen : goal.returns-in-Ok-Some-Format-clause-complete_gen
returns-in-Ok-Some-Format-clause-complete_gen g c = λ told n asked sound a b. absurd (no_gen g c n asked)

pub returns-in-Ok-Some-Format-clause-format_ends : goal.returns-in-Ok-Some-Format-clause-format_ends
returns-in-Ok-Some-Format-clause-format_ends g c = λ l asked. c.run_format.ensures.ends

pub returns-in-Ok-Some-Format-clause-run_ends : goal.returns-in-Ok-Some-Format-clause-run_ends
returns-in-Ok-Some-Format-clause-run_ends g c = λ n asked. absurd (no_run g c n asked)

pub returns-in-Ok-Some-Format-clause-formatted : goal.returns-in-Ok-Some-Format-clause-formatted
returns-in-Ok-Some-Format-clause-formatted g c = λ told l asked done.
    c.run_format.ensures.formatted told done ∙ same_file file_version c.args.words.now c.in-Ok-Some-Format.layout l (asks_format g c) asked

pub returns-in-Ok-Some-Format-clause-durable : goal.returns-in-Ok-Some-Format-clause-durable
returns-in-Ok-Some-Format-clause-durable g c = λ told l asked done image left.
    c.run_format.ensures.durable told done image left ∙ same_file file_version c.args.words.now c.in-Ok-Some-Format.layout l (asks_format g c) asked

pub returns-in-Ok-Some-Format-clause-was_empty : goal.returns-in-Ok-Some-Format-clause-was_empty
returns-in-Ok-Some-Format-clause-was_empty g c = λ told l asked is. c.run_format.ensures.was_empty told is

pub returns-in-Ok-Some-Format-clause-not_empty : goal.returns-in-Ok-Some-Format-clause-not_empty
returns-in-Ok-Some-Format-clause-not_empty g c = λ told is. c.run_format.ensures.not_empty told is

pub returns-in-Ok-Some-Format-clause-format_unchanged : goal.returns-in-Ok-Some-Format-clause-format_unchanged
returns-in-Ok-Some-Format-clause-format_unchanged g c = λ told l asked. c.run_format.ensures.unchanged told

pub returns-in-Ok-Some-Format-clause-replies : goal.returns-in-Ok-Some-Format-clause-replies
returns-in-Ok-Some-Format-clause-replies g c = λ disk told n asked is. absurd (no_run g c n asked)

pub returns-in-Ok-Some-Format-clause-at_end : goal.returns-in-Ok-Some-Format-clause-at_end
returns-in-Ok-Some-Format-clause-at_end g c = λ told n asked is. absurd (no_run g c n asked)

pub returns-in-Ok-Some-Format-clause-few : goal.returns-in-Ok-Some-Format-clause-few
returns-in-Ok-Some-Format-clause-few g c = λ told n asked is. absurd (no_run g c n asked)

pub returns-in-Ok-Some-Format-clause-source_done : goal.returns-in-Ok-Some-Format-clause-source_done
returns-in-Ok-Some-Format-clause-source_done g c = λ disk told is. absurd (rw is at c.run_format.ensures.ends)

pub returns-in-Ok-Some-Format-clause-too_long : goal.returns-in-Ok-Some-Format-clause-too_long
returns-in-Ok-Some-Format-clause-too_long g c = λ disk told is. absurd (rw is at c.run_format.ensures.ends)

pub returns-in-Ok-Some-Format-clause-disk_done : goal.returns-in-Ok-Some-Format-clause-disk_done
returns-in-Ok-Some-Format-clause-disk_done g c = λ disk told n asked is. absurd (no_run g c n asked)

pub returns-in-Ok-Some-Format-clause-endures : goal.returns-in-Ok-Some-Format-clause-endures
returns-in-Ok-Some-Format-clause-endures g c = λ disk n asked asks. absurd (no_run g c n asked)

pub returns-in-Ok-Some-Format-clause-endures_disk : goal.returns-in-Ok-Some-Format-clause-endures_disk
returns-in-Ok-Some-Format-clause-endures_disk g c = λ disk n asked is. absurd (no_run g c n asked)

pub returns-in-Ok-Some-Format-clause-gen_count : goal.returns-in-Ok-Some-Format-clause-gen_count
returns-in-Ok-Some-Format-clause-gen_count g c = λ n asked. absurd (no_gen g c n asked)

pub returns-in-Ok-Some-Format-clause-left_new : goal.returns-in-Ok-Some-Format-clause-left_new
returns-in-Ok-Some-Format-clause-left_new g c = λ told l asked done file here.
    fresh l refl file (c.run_format.ensures.durable told done file here ∙ same_file file_version c.args.words.now c.in-Ok-Some-Format.layout l (asks_format g c) asked) _ refl _ refl

pub returns-in-Ok-Some-Format-clause-left : goal.returns-in-Ok-Some-Format-clause-left
returns-in-Ok-Some-Format-clause-left g c = λ disk told n asked is. absurd (no_run g c n asked)

pub returns-in-Ok-Some-Format-clause-left_source : goal.returns-in-Ok-Some-Format-clause-left_source
returns-in-Ok-Some-Format-clause-left_source g c = λ disk told is. absurd (rw is at c.run_format.ensures.ends)

pub returns-in-Ok-Some-Format-clause-left_long : goal.returns-in-Ok-Some-Format-clause-left_long
returns-in-Ok-Some-Format-clause-left_long g c = λ disk told is. absurd (rw is at c.run_format.ensures.ends)

pub returns-in-Ok-Some-Format-clause-left_disk : goal.returns-in-Ok-Some-Format-clause-left_disk
returns-in-Ok-Some-Format-clause-left_disk g c = λ disk told n asked is. absurd (no_run g c n asked)

pub returns-in-Ok-Some-Format-clause-left_cut : goal.returns-in-Ok-Some-Format-clause-left_cut
returns-in-Ok-Some-Format-clause-left_cut g c = λ disk told tells n asked is. absurd (no_run g c n asked)

pub returns-in-Ok-Some-Format-clause-left_some : goal.returns-in-Ok-Some-Format-clause-left_some
returns-in-Ok-Some-Format-clause-left_some g c = λ disk n asked asks. absurd (no_run g c n asked)

pub returns-in-Ok-Some-Format-clause-left_gen : goal.returns-in-Ok-Some-Format-clause-left_gen
returns-in-Ok-Some-Format-clause-left_gen g c = λ disk n asked tells. absurd (no_gen g c n asked)

pub returns-in-Ok-Some-Format-clause-left_fault : goal.returns-in-Ok-Some-Format-clause-left_fault
returns-in-Ok-Some-Format-clause-left_fault g c = λ disk is none. absurd (none c.in-Ok-Some-Format.layout (asks_format g c))

pub returns-in-Ok-Some-Format-clause-left_done : goal.returns-in-Ok-Some-Format-clause-left_done
returns-in-Ok-Some-Format-clause-left_done g c = λ disk n asked is. absurd (no_run g c n asked)

pub returns-in-Ok-Some-Format-clause-endures_done : goal.returns-in-Ok-Some-Format-clause-endures_done
returns-in-Ok-Some-Format-clause-endures_done g c = λ disk n asked is. absurd (no_run g c n asked)

-- a file with bytes is as it was
pub returns-in-Ok-Some-Format-clause-left_alone : goal.returns-in-Ok-Some-Format-clause-left_alone
returns-in-Ok-Some-Format-clause-left_alone g c = λ disk none slots h number left.
    let w = opens_with slots (g.D.Disk.content c.args.disk) h number left in
    let some = format_refused c.run_format.result.0 c.run_format.ensures.ends c.run_format.ensures.memory none in
    leaves_same slots (g.D.Disk.content c.args.disk) h number left g.D.Disk c.args.disk c.run_format.result.1 w (alone_same g.D.Disk c.args.disk c.run_format.result.1 w.sound
    (rests_alone g.D.Disk c.args.disk c.run_format.result.1 (λ im here. g.met.D.Disk.only_now c.args.disk im disk here) (c.run_format.ensures.unchanged disk (c.run_format.ensures.not_empty disk some))))

pub returns-in-Ok-Some-Format-clause-left_store : goal.returns-in-Ok-Some-Format-clause-left_store
returns-in-Ok-Some-Format-clause-left_store g c = λ disk is. absurd (rw is at c.run_format.ensures.ends)

pub returns-in-Ok-Some-Format-clause-left_complete : goal.returns-in-Ok-Some-Format-clause-left_complete
returns-in-Ok-Some-Format-clause-left_complete g c = λ disk told n asked slots h number left few a b d. absurd (no_run g c n asked)

pub returns-in-Ok-Some-Format-clause-left_complete_gen : goal.returns-in-Ok-Some-Format-clause-left_complete_gen
returns-in-Ok-Some-Format-clause-left_complete_gen g c = λ disk n asked slots h number left a b. absurd (no_gen g c n asked)

pub returns-in-Ok-Some-Format-clause-cut_off : goal.returns-in-Ok-Some-Format-clause-cut_off
returns-in-Ok-Some-Format-clause-cut_off g c = λ disk told tells n asked is. absurd (no_run g c n asked)

pub returns-in-Ok-Some-Format-clause-untouched : goal.returns-in-Ok-Some-Format-clause-untouched
returns-in-Ok-Some-Format-clause-untouched g c = λ disk n asked is. absurd (no_run g c n asked)

pub returns-in-Ok-Some-Format-clause-not_a_store : goal.returns-in-Ok-Some-Format-clause-not_a_store
returns-in-Ok-Some-Format-clause-not_a_store g c = λ disk is. absurd (rw is at c.run_format.ensures.ends)

pub returns-in-Ok-Some-Format-clause-store : goal.returns-in-Ok-Some-Format-clause-store
returns-in-Ok-Some-Format-clause-store g c = λ disk n asked is. absurd (no_run g c n asked)

pub returns-in-Ok-Some-Format-clause-complete_format : goal.returns-in-Ok-Some-Format-clause-complete_format
returns-in-Ok-Some-Format-clause-complete_format g c = λ told l asked empty same.
    complete_format c.run_format.result.0 c.run_format.ensures.ends (λ is. same (c.run_format.ensures.disk.cause (ap by_disk is))) (λ is. absurd (omega (arith, empty, c.run_format.ensures.not_empty told is)))

pub returns-in-Ok-Some-Format-clause-complete : goal.returns-in-Ok-Some-Format-clause-complete
returns-in-Ok-Some-Format-clause-complete g c = λ disk told n asked sound few a b d. absurd (no_run g c n asked)

pub returns-in-Ok-Some-Run-clause-usage : goal.returns-in-Ok-Some-Run-clause-usage
returns-in-Ok-Some-Run-clause-usage g c = λ is. absurd (rw is at c.run_script.ensures.ends)

pub returns-in-Ok-Some-Run-clause-other_words : goal.returns-in-Ok-Some-Run-clause-other_words
returns-in-Ok-Some-Run-clause-other_words g c = λ none. absurd (none.1 c.in-Ok-Some-Run.frames (asks_run g c))

pub returns-in-Ok-Some-Run-clause-usage_disk : goal.returns-in-Ok-Some-Run-clause-usage_disk
returns-in-Ok-Some-Run-clause-usage_disk g c = λ none. absurd (none.1 c.in-Ok-Some-Run.frames (asks_run g c))

pub returns-in-Ok-Some-Run-clause-format_memory : goal.returns-in-Ok-Some-Run-clause-format_memory
returns-in-Ok-Some-Run-clause-format_memory g c = λ l asked is. absurd (no_format g c l asked)

pub returns-in-Ok-Some-Run-clause-gen_ends : goal.returns-in-Ok-Some-Run-clause-gen_ends
returns-in-Ok-Some-Run-clause-gen_ends g c = λ n asked. absurd (gen_no g c n asked)

pub returns-in-Ok-Some-Run-clause-generated : goal.returns-in-Ok-Some-Run-clause-generated
returns-in-Ok-Some-Run-clause-generated g c = λ told n asked is. absurd (gen_no g c n asked)

pub returns-in-Ok-Some-Run-clause-not_told : goal.returns-in-Ok-Some-Run-clause-not_told
returns-in-Ok-Some-Run-clause-not_told g c = λ told tells n asked is. absurd (gen_no g c n asked)

pub returns-in-Ok-Some-Run-clause-gen_disk : goal.returns-in-Ok-Some-Run-clause-gen_disk
returns-in-Ok-Some-Run-clause-gen_disk g c = λ told n asked is. absurd (gen_no g c n asked)

pub returns-in-Ok-Some-Run-clause-no_line : goal.returns-in-Ok-Some-Run-clause-no_line
returns-in-Ok-Some-Run-clause-no_line g c = λ n asked is. absurd (gen_no g c n asked)

pub returns-in-Ok-Some-Run-clause-gen_untouched : goal.returns-in-Ok-Some-Run-clause-gen_untouched
returns-in-Ok-Some-Run-clause-gen_untouched g c = λ told n asked is. absurd (gen_no g c n asked)

pub returns-in-Ok-Some-Run-clause-gen_store : goal.returns-in-Ok-Some-Run-clause-gen_store
returns-in-Ok-Some-Run-clause-gen_store g c = λ told n asked is. absurd (gen_no g c n asked)

pub returns-in-Ok-Some-Run-clause-complete_gen : goal.returns-in-Ok-Some-Run-clause-complete_gen
returns-in-Ok-Some-Run-clause-complete_gen g c = λ told n asked sound a b. absurd (gen_no g c n asked)

pub returns-in-Ok-Some-Run-clause-format_ends : goal.returns-in-Ok-Some-Run-clause-format_ends
returns-in-Ok-Some-Run-clause-format_ends g c = λ l asked. absurd (no_format g c l asked)

pub returns-in-Ok-Some-Run-clause-run_ends : goal.returns-in-Ok-Some-Run-clause-run_ends
returns-in-Ok-Some-Run-clause-run_ends g c = λ n asked. c.run_script.ensures.ends

pub returns-in-Ok-Some-Run-clause-formatted : goal.returns-in-Ok-Some-Run-clause-formatted
returns-in-Ok-Some-Run-clause-formatted g c = λ told l asked is. absurd (no_format g c l asked)

pub returns-in-Ok-Some-Run-clause-durable : goal.returns-in-Ok-Some-Run-clause-durable
returns-in-Ok-Some-Run-clause-durable g c = λ told l asked is. absurd (no_format g c l asked)

pub returns-in-Ok-Some-Run-clause-was_empty : goal.returns-in-Ok-Some-Run-clause-was_empty
returns-in-Ok-Some-Run-clause-was_empty g c = λ told l asked is. absurd (no_format g c l asked)

pub returns-in-Ok-Some-Run-clause-not_empty : goal.returns-in-Ok-Some-Run-clause-not_empty
returns-in-Ok-Some-Run-clause-not_empty g c = λ told is. absurd (rw is at c.run_script.ensures.ends)

pub returns-in-Ok-Some-Run-clause-format_unchanged : goal.returns-in-Ok-Some-Run-clause-format_unchanged
returns-in-Ok-Some-Run-clause-format_unchanged g c = λ told l asked some. absurd (no_format g c l asked)

pub returns-in-Ok-Some-Run-clause-format_source : goal.returns-in-Ok-Some-Run-clause-format_source
returns-in-Ok-Some-Run-clause-format_source g c = λ none. absurd (none c.in-Ok-Some-Run.frames (asks_run g c))

pub returns-in-Ok-Some-Run-clause-format_sink : goal.returns-in-Ok-Some-Run-clause-format_sink
returns-in-Ok-Some-Run-clause-format_sink g c = λ none gens. absurd (none c.in-Ok-Some-Run.frames (asks_run g c))

pub returns-in-Ok-Some-Run-clause-replies : goal.returns-in-Ok-Some-Run-clause-replies
returns-in-Ok-Some-Run-clause-replies g c = λ disk told n asked is sound. c.run_script.ensures.done disk told is sound

pub returns-in-Ok-Some-Run-clause-at_end : goal.returns-in-Ok-Some-Run-clause-at_end
returns-in-Ok-Some-Run-clause-at_end g c = λ told n asked is. c.run_script.ensures.at_end told is

pub returns-in-Ok-Some-Run-clause-few : goal.returns-in-Ok-Some-Run-clause-few
returns-in-Ok-Some-Run-clause-few g c = λ told n asked is. c.run_script.ensures.few told is

pub returns-in-Ok-Some-Run-clause-source_done : goal.returns-in-Ok-Some-Run-clause-source_done
returns-in-Ok-Some-Run-clause-source_done g c = λ disk told is sound. c.run_script.ensures.source_done disk told is sound

pub returns-in-Ok-Some-Run-clause-too_long : goal.returns-in-Ok-Some-Run-clause-too_long
returns-in-Ok-Some-Run-clause-too_long g c = λ disk told is sound. c.run_script.ensures.too_long disk told is sound

pub returns-in-Ok-Some-Run-clause-cut_off : goal.returns-in-Ok-Some-Run-clause-cut_off
returns-in-Ok-Some-Run-clause-cut_off g c = λ disk told tells n asked is sound. c.run_script.ensures.cut_off disk told tells is sound

pub returns-in-Ok-Some-Run-clause-source_same : goal.returns-in-Ok-Some-Run-clause-source_same
returns-in-Ok-Some-Run-clause-source_same g c = λ is. c.run_script.ensures.source_same is

pub returns-in-Ok-Some-Run-clause-sink_same : goal.returns-in-Ok-Some-Run-clause-sink_same
returns-in-Ok-Some-Run-clause-sink_same g c = λ is. c.run_script.ensures.sink_same is

pub returns-in-Ok-Some-Run-clause-not_a_store : goal.returns-in-Ok-Some-Run-clause-not_a_store
returns-in-Ok-Some-Run-clause-not_a_store g c = λ disk is. c.run_script.ensures.not_a_store disk is

pub returns-in-Ok-Some-Run-clause-disk_done : goal.returns-in-Ok-Some-Run-clause-disk_done
returns-in-Ok-Some-Run-clause-disk_done g c = λ disk told n asked is. c.run_script.ensures.disk_done disk told is

pub returns-in-Ok-Some-Run-clause-endures : goal.returns-in-Ok-Some-Run-clause-endures
returns-in-Ok-Some-Run-clause-endures g c = λ disk n asked asks sound. c.run_script.ensures.endures disk asks sound

pub returns-in-Ok-Some-Run-clause-endures_disk : goal.returns-in-Ok-Some-Run-clause-endures_disk
returns-in-Ok-Some-Run-clause-endures_disk g c = λ disk n asked is sound. c.run_script.ensures.endures_disk disk is sound

pub returns-in-Ok-Some-Run-clause-gen_count : goal.returns-in-Ok-Some-Run-clause-gen_count
returns-in-Ok-Some-Run-clause-gen_count g c = λ n asked. absurd (gen_no g c n asked)

pub returns-in-Ok-Some-Run-clause-left_new : goal.returns-in-Ok-Some-Run-clause-left_new
returns-in-Ok-Some-Run-clause-left_new g c = λ told l asked. absurd (no_format g c l asked)

pub returns-in-Ok-Some-Run-clause-left : goal.returns-in-Ok-Some-Run-clause-left
returns-in-Ok-Some-Run-clause-left g c = λ disk told n asked is slots h number left.
    let w = opens_with slots (g.D.Disk.content c.args.disk) h number left in
    let all = c.run_script.ensures.done disk told is w.sound in
    let r = all.run in
    runs_to_end slots (g.D.Disk.content c.args.disk) h number left g.D.Disk c.args.disk c.run_script.result.1 w all.first _ g.K.Sink.tells _ _ r.now r.ran all.going r.endured

pub returns-in-Ok-Some-Run-clause-left_source : goal.returns-in-Ok-Some-Run-clause-left_source
returns-in-Ok-Some-Run-clause-left_source g c = λ disk told is slots h number left.
    let w = opens_with slots (g.D.Disk.content c.args.disk) h number left in
    let all = c.run_script.ensures.source_done disk told is w.sound in
    let r = all.2.run in
    (all.0, all.1, runs_over slots (g.D.Disk.content c.args.disk) h number left g.D.Disk c.args.disk c.run_script.result.1 w all.2.first false _ g.K.Sink.tells _ _ r.now r.ran all.2.going r.endured)

pub returns-in-Ok-Some-Run-clause-left_long : goal.returns-in-Ok-Some-Run-clause-left_long
returns-in-Ok-Some-Run-clause-left_long g c = λ disk told is slots h number left.
    let w = opens_with slots (g.D.Disk.content c.args.disk) h number left in
    let all = c.run_script.ensures.too_long disk told is w.sound in
    let r = all.3.run in
    (all.0, all.1, all.2, runs_over slots (g.D.Disk.content c.args.disk) h number left g.D.Disk c.args.disk c.run_script.result.1 w all.3.first false _ g.K.Sink.tells _ _ r.now r.ran all.3.going r.endured)

pub returns-in-Ok-Some-Run-clause-left_disk : goal.returns-in-Ok-Some-Run-clause-left_disk
returns-in-Ok-Some-Run-clause-left_disk g c = λ disk told n asked is slots h number left.
    let w = opens_with slots (g.D.Disk.content c.args.disk) h number left in
    ⊎_elim
    (λ stopped. inl (stopped.0, stopped.1, leaves_same slots (g.D.Disk.content c.args.disk) h number left g.D.Disk c.args.disk c.run_script.result.1 w (stopped.2.images w.sound)))
    (λ on. inr (⊎_elim
    (λ halted. inl (halts_over slots (g.D.Disk.content c.args.disk) h number left g.D.Disk c.args.disk c.run_script.result.1 w halted.first _ _ g.K.Sink.tells _ _ halted.run.now halted.run.ran halted.halted halted.run.endured))
    (λ behind. let r = behind.run.run in inr (behind.all_taken, runs_over slots (g.D.Disk.content c.args.disk) h number left g.D.Disk c.args.disk c.run_script.result.1 w behind.run.first false _ g.K.Sink.tells _ _ r.now r.ran behind.run.going r.endured))
    (on w.sound)))
    (c.run_script.ensures.disk_done disk told is)

pub returns-in-Ok-Some-Run-clause-left_cut : goal.returns-in-Ok-Some-Run-clause-left_cut
returns-in-Ok-Some-Run-clause-left_cut g c = λ disk told tells n asked is slots h number left.
    let w = opens_with slots (g.D.Disk.content c.args.disk) h number left in
    let cut = c.run_script.ensures.cut_off disk told tells is w.sound in
    is_cut_over slots (g.D.Disk.content c.args.disk) h number left g.D.Disk c.args.disk c.run_script.result.1 w cut.first _ _ _ _ cut.now cut.cut cut.endured.endured

pub returns-in-Ok-Some-Run-clause-left_some : goal.returns-in-Ok-Some-Run-clause-left_some
returns-in-Ok-Some-Run-clause-left_some g c = λ disk n asked asks slots h number left.
    let w = opens_with slots (g.D.Disk.content c.args.disk) h number left in
    leaves_some slots (g.D.Disk.content c.args.disk) h number left g.D.Disk c.args.disk c.run_script.result.1 w (c.run_script.ensures.endures disk asks w.sound)

pub returns-in-Ok-Some-Run-clause-left_done : goal.returns-in-Ok-Some-Run-clause-left_done
returns-in-Ok-Some-Run-clause-left_done g c = λ disk n asked is slots h number left.
    let w = opens_with slots (g.D.Disk.content c.args.disk) h number left in
    leaves_all slots (g.D.Disk.content c.args.disk) h number left g.D.Disk c.args.disk c.run_script.result.1 w (c.run_script.ensures.endures_done disk is w.sound)

pub returns-in-Ok-Some-Run-clause-endures_done : goal.returns-in-Ok-Some-Run-clause-endures_done
returns-in-Ok-Some-Run-clause-endures_done g c = λ disk n asked is sound. c.run_script.ensures.endures_done disk is sound

pub returns-in-Ok-Some-Run-clause-left_gen : goal.returns-in-Ok-Some-Run-clause-left_gen
returns-in-Ok-Some-Run-clause-left_gen g c = λ disk n asked tells. absurd (gen_no g c n asked)

pub returns-in-Ok-Some-Run-clause-left_fault : goal.returns-in-Ok-Some-Run-clause-left_fault
returns-in-Ok-Some-Run-clause-left_fault g c = λ disk is none slots h number left.
    let w = opens_with slots (g.D.Disk.content c.args.disk) h number left in
    ⊎_elim
    (λ same. inl (leaves_same slots (g.D.Disk.content c.args.disk) h number left g.D.Disk c.args.disk c.run_script.result.1 w same))
    (λ on. inr (leaves_some slots (g.D.Disk.content c.args.disk) h number left g.D.Disk c.args.disk c.run_script.result.1 w on))
    (c.run_script.ensures.endures_disk disk is w.sound)

pub returns-in-Ok-Some-Run-clause-left_alone : goal.returns-in-Ok-Some-Run-clause-left_alone
returns-in-Ok-Some-Run-clause-left_alone g c = λ disk none slots h number left.
    let w = opens_with slots (g.D.Disk.content c.args.disk) h number left in
    leaves_same slots (g.D.Disk.content c.args.disk) h number left g.D.Disk c.args.disk c.run_script.result.1 w (alone_same g.D.Disk c.args.disk c.run_script.result.1 w.sound (c.run_script.ensures.untouched disk none))

pub returns-in-Ok-Some-Run-clause-left_store : goal.returns-in-Ok-Some-Run-clause-left_store
returns-in-Ok-Some-Run-clause-left_store g c = λ disk is slots h number left.
    c.run_script.ensures.not_a_store disk is (opens_with slots (g.D.Disk.content c.args.disk) h number left).sound.store

-- where no fault comes over a sound file, all is done
all_done : (g : Over) (c : After-run_script g) → g.D.Disk.tells → g.S.Source.tells → IsSound (g.D.Disk.content c.args.disk) → length (g.S.Source.left c.args.source.now) < 1000000000
    → (Rose (g.S.Source.faults c.args.source.now) (g.S.Source.faults c.run_script.new.source) → ⊥) → (Rose (g.D.Disk.faults c.args.disk) (g.D.Disk.faults c.run_script.result.1) → ⊥)
    → (Rose (g.K.Sink.faults c.args.sink.now) (g.K.Sink.faults c.run_script.new.sink) → ⊥) → IsDoneOrNoMemory c.run_script.result.0
all_done g c disk told sound few same_source same_disk same_sink = complete_run c.run_script.result.0 c.run_script.ensures.ends
    (λ is. same_source (c.run_script.ensures.source.cause (ap by_source is)))
    (λ is. same_disk (c.run_script.ensures.disk.cause (ap by_disk is)))
    (λ is. same_sink (c.run_script.ensures.sink.cause (ap by_sink is)))
    (λ is. c.run_script.ensures.not_a_store disk is sound.store)
    (λ is. let all = c.run_script.ensures.too_long disk told is sound in not_longer all.0 _ _ all.2 all.1 few)

pub returns-in-Ok-Some-Run-clause-left_complete : goal.returns-in-Ok-Some-Run-clause-left_complete
returns-in-Ok-Some-Run-clause-left_complete g c = λ disk told n asked slots h number left few same_source same_disk same_sink.
    all_done g c disk told (opens_with slots (g.D.Disk.content c.args.disk) h number left).sound few same_source same_disk same_sink

pub returns-in-Ok-Some-Run-clause-left_complete_gen : goal.returns-in-Ok-Some-Run-clause-left_complete_gen
returns-in-Ok-Some-Run-clause-left_complete_gen g c = λ disk n asked slots h number left a b. absurd (gen_no g c n asked)

pub returns-in-Ok-Some-Run-clause-untouched : goal.returns-in-Ok-Some-Run-clause-untouched
returns-in-Ok-Some-Run-clause-untouched g c = λ disk n asked is. c.run_script.ensures.untouched disk is

pub returns-in-Ok-Some-Run-clause-store : goal.returns-in-Ok-Some-Run-clause-store
returns-in-Ok-Some-Run-clause-store g c = λ disk n asked is. c.run_script.ensures.store disk is

pub returns-in-Ok-Some-Run-clause-complete_format : goal.returns-in-Ok-Some-Run-clause-complete_format
returns-in-Ok-Some-Run-clause-complete_format g c = λ told l asked some same. absurd (no_format g c l asked)

pub returns-in-Ok-Some-Run-clause-complete : goal.returns-in-Ok-Some-Run-clause-complete
returns-in-Ok-Some-Run-clause-complete g c = λ disk told n asked sound few same_source same_disk same_sink. all_done g c disk told sound few same_source same_disk same_sink

pub returns-in-Ok-None-clause-usage : goal.returns-in-Ok-None-clause-usage
returns-in-Ok-None-clause-usage g c = λ is. (λ l asked. (rw c.in-Ok-None.field-0-is at c.in-Ok-None.ensures.none) (Format l) asked, λ n asked. (rw c.in-Ok-None.field-0-is at c.in-Ok-None.ensures.none) (Run n) asked, λ n asked. (rw c.in-Ok-None.field-0-is at c.in-Ok-None.ensures.none) (Gen n) asked)

pub returns-in-Ok-None-clause-gen_ends : goal.returns-in-Ok-None-clause-gen_ends
returns-in-Ok-None-clause-gen_ends g c = λ n asked. (rw c.in-Ok-None.field-0-is at c.in-Ok-None.ensures.none) (Gen n) asked

pub returns-in-Ok-None-clause-gen_untouched : goal.returns-in-Ok-None-clause-gen_untouched
returns-in-Ok-None-clause-gen_untouched g c = λ disk n asked is. absurd ((rw c.in-Ok-None.field-0-is at c.in-Ok-None.ensures.none) (Gen n) asked)

pub returns-in-Ok-None-clause-complete_gen : goal.returns-in-Ok-None-clause-complete_gen
returns-in-Ok-None-clause-complete_gen g c = λ told n asked sound a b. absurd ((rw c.in-Ok-None.field-0-is at c.in-Ok-None.ensures.none) (Gen n) asked)

pub returns-in-Ok-None-clause-format_ends : goal.returns-in-Ok-None-clause-format_ends
returns-in-Ok-None-clause-format_ends g c = λ l asked. (rw c.in-Ok-None.field-0-is at c.in-Ok-None.ensures.none) (Format l) asked

pub returns-in-Ok-None-clause-run_ends : goal.returns-in-Ok-None-clause-run_ends
returns-in-Ok-None-clause-run_ends g c = λ n asked. (rw c.in-Ok-None.field-0-is at c.in-Ok-None.ensures.none) (Run n) asked

pub returns-in-Ok-None-clause-gen_count : goal.returns-in-Ok-None-clause-gen_count
returns-in-Ok-None-clause-gen_count g c = λ n asked. absurd ((rw c.in-Ok-None.field-0-is at c.in-Ok-None.ensures.none) (Gen n) asked)

pub returns-in-Ok-None-clause-left_new : goal.returns-in-Ok-None-clause-left_new
returns-in-Ok-None-clause-left_new g c = λ told l asked is. absurd ((rw c.in-Ok-None.field-0-is at c.in-Ok-None.ensures.none) (Format l) asked)

pub returns-in-Ok-None-clause-untouched : goal.returns-in-Ok-None-clause-untouched
returns-in-Ok-None-clause-untouched g c = λ disk n asked is. absurd ((rw c.in-Ok-None.field-0-is at c.in-Ok-None.ensures.none) (Run n) asked)

pub returns-in-Ok-None-clause-left_alone : goal.returns-in-Ok-None-clause-left_alone
returns-in-Ok-None-clause-left_alone g c = λ disk none slots h number left.
    let w = opens_with slots (g.D.Disk.content c.args.disk) h number left in
    leaves_same slots (g.D.Disk.content c.args.disk) h number left g.D.Disk c.args.disk c.args.disk w (alone_same g.D.Disk c.args.disk c.args.disk w.sound
    (rests_alone g.D.Disk c.args.disk c.args.disk (λ im here. g.met.D.Disk.only_now c.args.disk im disk here) (rests_itself g.D.Disk c.args.disk)))

pub returns-in-Ok-None-clause-left_complete : goal.returns-in-Ok-None-clause-left_complete
returns-in-Ok-None-clause-left_complete g c = λ disk told n asked slots h number left few a b d. absurd ((rw c.in-Ok-None.field-0-is at c.in-Ok-None.ensures.none) (Run n) asked)

pub returns-in-Ok-None-clause-left_complete_gen : goal.returns-in-Ok-None-clause-left_complete_gen
returns-in-Ok-None-clause-left_complete_gen g c = λ disk n asked slots h number left a b. absurd ((rw c.in-Ok-None.field-0-is at c.in-Ok-None.ensures.none) (Gen n) asked)

pub returns-in-Ok-None-clause-format_unchanged : goal.returns-in-Ok-None-clause-format_unchanged
returns-in-Ok-None-clause-format_unchanged g c = λ disk l asked some. absurd ((rw c.in-Ok-None.field-0-is at c.in-Ok-None.ensures.none) (Format l) asked)

pub returns-in-Ok-None-clause-complete_format : goal.returns-in-Ok-None-clause-complete_format
returns-in-Ok-None-clause-complete_format g c = λ disk l asked some same. absurd ((rw c.in-Ok-None.field-0-is at c.in-Ok-None.ensures.none) (Format l) asked)

pub returns-in-Ok-None-clause-complete : goal.returns-in-Ok-None-clause-complete
returns-in-Ok-None-clause-complete g c = λ disk told n asked sound few a b d. absurd ((rw c.in-Ok-None.field-0-is at c.in-Ok-None.ensures.none) (Run n) asked)

pub returns-in-Ok-Some-Format-clause-source : goal.returns-in-Ok-Some-Format-clause-source
returns-in-Ok-Some-Format-clause-source g c = uncounted _ _ _ (format_source c.run_format.result.0 c.run_format.ensures.ends) refl

pub returns-in-Ok-Some-Format-clause-sink : goal.returns-in-Ok-Some-Format-clause-sink
returns-in-Ok-Some-Format-clause-sink g c = uncounted _ _ _ (format_sink c.run_format.result.0 c.run_format.ensures.ends) refl

pub returns-in-Ok-Some-Format-clause-disk : goal.returns-in-Ok-Some-Format-clause-disk
returns-in-Ok-Some-Format-clause-disk g c = beside _ _ _ _ c.run_format.ensures.disk

pub returns-in-Ok-Some-Run-clause-source : goal.returns-in-Ok-Some-Run-clause-source
returns-in-Ok-Some-Run-clause-source g c = c.run_script.ensures.source

pub returns-in-Ok-Some-Run-clause-sink : goal.returns-in-Ok-Some-Run-clause-sink
returns-in-Ok-Some-Run-clause-sink g c = c.run_script.ensures.sink

pub returns-in-Ok-Some-Run-clause-disk : goal.returns-in-Ok-Some-Run-clause-disk
returns-in-Ok-Some-Run-clause-disk g c = c.run_script.ensures.disk

-- words that ask for a run of the generator ask for nothing else

gen_asked : (g : Over) (c : After-run_generator g) → AsksGen c.args.words.now c.in-Ok-Some-Gen.commands
gen_asked g c =
    let request = rw c.in-Ok-Some-Gen.field-0-is at c.in-Ok-Some-Gen.ensures.found in
    rw c.in-Ok-Some-Gen.field-0-0-is at request

not_format : (g : Over) (c : After-run_generator g) (l : Layout) → AsksFormat c.args.words.now l → ⊥
not_format g c l asked = not_format_and_gen c.args.words.now l c.in-Ok-Some-Gen.commands asked (gen_asked g c)

not_run : (g : Over) (c : After-run_generator g) (n : ℕ) → AsksRun c.args.words.now n → ⊥
not_run g c n asked = not_run_and_gen c.args.words.now n c.in-Ok-Some-Gen.commands asked (gen_asked g c)

pub returns-in-Ok-Some-Gen-clause-usage : goal.returns-in-Ok-Some-Gen-clause-usage
returns-in-Ok-Some-Gen-clause-usage g c = λ is. absurd (rw is at c.run_generator.ensures.ends)

pub returns-in-Ok-Some-Gen-clause-other_words : goal.returns-in-Ok-Some-Gen-clause-other_words
returns-in-Ok-Some-Gen-clause-other_words g c = λ none. absurd (none.2 c.in-Ok-Some-Gen.commands (gen_asked g c))

pub returns-in-Ok-Some-Gen-clause-usage_disk : goal.returns-in-Ok-Some-Gen-clause-usage_disk
returns-in-Ok-Some-Gen-clause-usage_disk g c = λ none. absurd (none.2 c.in-Ok-Some-Gen.commands (gen_asked g c))

pub returns-in-Ok-Some-Gen-clause-format_ends : goal.returns-in-Ok-Some-Gen-clause-format_ends
returns-in-Ok-Some-Gen-clause-format_ends g c = λ l asked. absurd (not_format g c l asked)

pub returns-in-Ok-Some-Gen-clause-format_memory : goal.returns-in-Ok-Some-Gen-clause-format_memory
returns-in-Ok-Some-Gen-clause-format_memory g c = λ l asked is. absurd (not_format g c l asked)

pub returns-in-Ok-Some-Gen-clause-run_ends : goal.returns-in-Ok-Some-Gen-clause-run_ends
returns-in-Ok-Some-Gen-clause-run_ends g c = λ n asked. absurd (not_run g c n asked)

pub returns-in-Ok-Some-Gen-clause-gen_ends : goal.returns-in-Ok-Some-Gen-clause-gen_ends
returns-in-Ok-Some-Gen-clause-gen_ends g c = λ n asked. c.run_generator.ensures.ends

pub returns-in-Ok-Some-Gen-clause-formatted : goal.returns-in-Ok-Some-Gen-clause-formatted
returns-in-Ok-Some-Gen-clause-formatted g c = λ told l asked is. absurd (not_format g c l asked)

pub returns-in-Ok-Some-Gen-clause-durable : goal.returns-in-Ok-Some-Gen-clause-durable
returns-in-Ok-Some-Gen-clause-durable g c = λ told l asked is. absurd (not_format g c l asked)

pub returns-in-Ok-Some-Gen-clause-was_empty : goal.returns-in-Ok-Some-Gen-clause-was_empty
returns-in-Ok-Some-Gen-clause-was_empty g c = λ told l asked is. absurd (not_format g c l asked)

pub returns-in-Ok-Some-Gen-clause-not_empty : goal.returns-in-Ok-Some-Gen-clause-not_empty
returns-in-Ok-Some-Gen-clause-not_empty g c = λ told is. absurd (rw is at c.run_generator.ensures.ends)

pub returns-in-Ok-Some-Gen-clause-format_unchanged : goal.returns-in-Ok-Some-Gen-clause-format_unchanged
returns-in-Ok-Some-Gen-clause-format_unchanged g c = λ told l asked some. absurd (not_format g c l asked)

pub returns-in-Ok-Some-Gen-clause-format_sink : goal.returns-in-Ok-Some-Gen-clause-format_sink
returns-in-Ok-Some-Gen-clause-format_sink g c = λ runs gens. absurd (gens c.in-Ok-Some-Gen.commands (gen_asked g c))

pub returns-in-Ok-Some-Gen-clause-replies : goal.returns-in-Ok-Some-Gen-clause-replies
returns-in-Ok-Some-Gen-clause-replies g c = λ disk told n asked is. absurd (not_run g c n asked)

pub returns-in-Ok-Some-Gen-clause-at_end : goal.returns-in-Ok-Some-Gen-clause-at_end
returns-in-Ok-Some-Gen-clause-at_end g c = λ told n asked is. absurd (not_run g c n asked)

pub returns-in-Ok-Some-Gen-clause-few : goal.returns-in-Ok-Some-Gen-clause-few
returns-in-Ok-Some-Gen-clause-few g c = λ told n asked is. absurd (not_run g c n asked)

pub returns-in-Ok-Some-Gen-clause-source_done : goal.returns-in-Ok-Some-Gen-clause-source_done
returns-in-Ok-Some-Gen-clause-source_done g c = λ disk told is. absurd (rw is at c.run_generator.ensures.ends)

pub returns-in-Ok-Some-Gen-clause-too_long : goal.returns-in-Ok-Some-Gen-clause-too_long
returns-in-Ok-Some-Gen-clause-too_long g c = λ disk told is. absurd (rw is at c.run_generator.ensures.ends)

pub returns-in-Ok-Some-Gen-clause-disk_done : goal.returns-in-Ok-Some-Gen-clause-disk_done
returns-in-Ok-Some-Gen-clause-disk_done g c = λ disk told n asked is. absurd (not_run g c n asked)

pub returns-in-Ok-Some-Gen-clause-endures : goal.returns-in-Ok-Some-Gen-clause-endures
returns-in-Ok-Some-Gen-clause-endures g c = λ disk n asked asks. absurd (not_run g c n asked)

pub returns-in-Ok-Some-Gen-clause-endures_disk : goal.returns-in-Ok-Some-Gen-clause-endures_disk
returns-in-Ok-Some-Gen-clause-endures_disk g c = λ disk n asked is. absurd (not_run g c n asked)

pub returns-in-Ok-Some-Gen-clause-gen_count : goal.returns-in-Ok-Some-Gen-clause-gen_count
returns-in-Ok-Some-Gen-clause-gen_count g c = λ n asked. c.run_generator.ensures.disk

pub returns-in-Ok-Some-Gen-clause-left_new : goal.returns-in-Ok-Some-Gen-clause-left_new
returns-in-Ok-Some-Gen-clause-left_new g c = λ told l asked. absurd (not_format g c l asked)

pub returns-in-Ok-Some-Gen-clause-left : goal.returns-in-Ok-Some-Gen-clause-left
returns-in-Ok-Some-Gen-clause-left g c = λ disk told n asked is. absurd (not_run g c n asked)

pub returns-in-Ok-Some-Gen-clause-left_source : goal.returns-in-Ok-Some-Gen-clause-left_source
returns-in-Ok-Some-Gen-clause-left_source g c = λ disk told is. absurd (rw is at c.run_generator.ensures.ends)

pub returns-in-Ok-Some-Gen-clause-left_long : goal.returns-in-Ok-Some-Gen-clause-left_long
returns-in-Ok-Some-Gen-clause-left_long g c = λ disk told is. absurd (rw is at c.run_generator.ensures.ends)

pub returns-in-Ok-Some-Gen-clause-left_disk : goal.returns-in-Ok-Some-Gen-clause-left_disk
returns-in-Ok-Some-Gen-clause-left_disk g c = λ disk told n asked is. absurd (not_run g c n asked)

pub returns-in-Ok-Some-Gen-clause-left_cut : goal.returns-in-Ok-Some-Gen-clause-left_cut
returns-in-Ok-Some-Gen-clause-left_cut g c = λ disk told tells n asked is. absurd (not_run g c n asked)

pub returns-in-Ok-Some-Gen-clause-left_some : goal.returns-in-Ok-Some-Gen-clause-left_some
returns-in-Ok-Some-Gen-clause-left_some g c = λ disk n asked asks. absurd (not_run g c n asked)

pub returns-in-Ok-Some-Gen-clause-left_done : goal.returns-in-Ok-Some-Gen-clause-left_done
returns-in-Ok-Some-Gen-clause-left_done g c = λ disk n asked is. absurd (not_run g c n asked)

pub returns-in-Ok-Some-Gen-clause-endures_done : goal.returns-in-Ok-Some-Gen-clause-endures_done
returns-in-Ok-Some-Gen-clause-endures_done g c = λ disk n asked is. absurd (not_run g c n asked)

pub returns-in-Ok-Some-Gen-clause-left_gen : goal.returns-in-Ok-Some-Gen-clause-left_gen
returns-in-Ok-Some-Gen-clause-left_gen g c = λ disk n asked tells slots h number left.
    let w = opens_with slots (g.D.Disk.content c.args.disk) h number left in
    leaves_all slots (g.D.Disk.content c.args.disk) h number left g.D.Disk c.args.disk c.run_generator.result.1 w (c.run_generator.ensures.endures disk tells w.sound)

pub returns-in-Ok-Some-Gen-clause-left_fault : goal.returns-in-Ok-Some-Gen-clause-left_fault
returns-in-Ok-Some-Gen-clause-left_fault g c = λ disk is none slots h number left.
    let w = opens_with slots (g.D.Disk.content c.args.disk) h number left in
    ⊎_elim
    (λ same. inl (leaves_same slots (g.D.Disk.content c.args.disk) h number left g.D.Disk c.args.disk c.run_generator.result.1 w same))
    (λ on. inr (leaves_some slots (g.D.Disk.content c.args.disk) h number left g.D.Disk c.args.disk c.run_generator.result.1 w on))
    (c.run_generator.ensures.endures_disk disk is w.sound)

pub returns-in-Ok-Some-Gen-clause-left_alone : goal.returns-in-Ok-Some-Gen-clause-left_alone
returns-in-Ok-Some-Gen-clause-left_alone g c = λ disk none slots h number left.
    let w = opens_with slots (g.D.Disk.content c.args.disk) h number left in
    leaves_same slots (g.D.Disk.content c.args.disk) h number left g.D.Disk c.args.disk c.run_generator.result.1 w (alone_same g.D.Disk c.args.disk c.run_generator.result.1 w.sound (c.run_generator.ensures.untouched disk none))

pub returns-in-Ok-Some-Gen-clause-left_store : goal.returns-in-Ok-Some-Gen-clause-left_store
returns-in-Ok-Some-Gen-clause-left_store g c = λ disk is slots h number left.
    c.run_generator.ensures.not_a_store disk is (opens_with slots (g.D.Disk.content c.args.disk) h number left).sound.store

pub returns-in-Ok-Some-Gen-clause-left_complete : goal.returns-in-Ok-Some-Gen-clause-left_complete
returns-in-Ok-Some-Gen-clause-left_complete g c = λ disk told n asked slots h number left few a b d. absurd (not_run g c n asked)

-- where no fault comes over a sound file, all is done
all_made : (g : Over) (c : After-run_generator g) → g.D.Disk.tells → IsSound (g.D.Disk.content c.args.disk) → (Rose (g.D.Disk.faults c.args.disk) (g.D.Disk.faults c.run_generator.result.1) → ⊥)
    → (Rose (g.K.Sink.faults c.args.sink.now) (g.K.Sink.faults c.run_generator.new.sink) → ⊥) → IsDoneOrNoMemory c.run_generator.result.0
all_made g c told sound same_disk same_sink = complete_gen c.run_generator.result.0 c.run_generator.ensures.ends
    (λ is. same_disk (c.run_generator.ensures.disk.cause (ap by_disk is)))
    (λ is. same_sink (c.run_generator.ensures.sink.cause (ap by_sink is)))
    (λ is. c.run_generator.ensures.not_a_store told is sound.store)

pub returns-in-Ok-Some-Gen-clause-left_complete_gen : goal.returns-in-Ok-Some-Gen-clause-left_complete_gen
returns-in-Ok-Some-Gen-clause-left_complete_gen g c = λ disk n asked slots h number left same_disk same_sink.
    all_made g c disk (opens_with slots (g.D.Disk.content c.args.disk) h number left).sound same_disk same_sink

pub returns-in-Ok-Some-Gen-clause-cut_off : goal.returns-in-Ok-Some-Gen-clause-cut_off
returns-in-Ok-Some-Gen-clause-cut_off g c = λ disk told tells n asked is. absurd (not_run g c n asked)

pub returns-in-Ok-Some-Gen-clause-generated : goal.returns-in-Ok-Some-Gen-clause-generated
returns-in-Ok-Some-Gen-clause-generated g c = λ told n asked is sound.
    subst (λ (k : ℕ). HasTold sound k g.K.Sink.tells (g.K.Sink.held c.args.sink.now) (g.K.Sink.held c.run_generator.new.sink) (Lasts g.D.Disk c.args.disk c.run_generator.result.1))
    (same_gen c.args.words.now c.in-Ok-Some-Gen.commands n (gen_asked g c) asked) (c.run_generator.ensures.done told is sound)

pub returns-in-Ok-Some-Gen-clause-not_told : goal.returns-in-Ok-Some-Gen-clause-not_told
returns-in-Ok-Some-Gen-clause-not_told g c = λ told tells n asked is sound.
    subst (λ (k : ℕ). WasNotTold sound k (g.K.Sink.held c.args.sink.now) (g.K.Sink.held c.run_generator.new.sink) (Lasts g.D.Disk c.args.disk c.run_generator.result.1))
    (same_gen c.args.words.now c.in-Ok-Some-Gen.commands n (gen_asked g c) asked) (c.run_generator.ensures.cut_off told tells is sound)

pub returns-in-Ok-Some-Gen-clause-gen_disk : goal.returns-in-Ok-Some-Gen-clause-gen_disk
returns-in-Ok-Some-Gen-clause-gen_disk g c = λ told n asked is.
    subst (λ (k : ℕ). WasStopped g.D.Disk c.args.disk c.run_generator.result.1 ⊎ ((sound : IsSound (g.D.Disk.content c.args.disk)) → (fault : Bool) × MadeOver sound k fault (Endures g.D.Disk c.args.disk c.run_generator.result.1)))
    (same_gen c.args.words.now c.in-Ok-Some-Gen.commands n (gen_asked g c) asked) (c.run_generator.ensures.disk_done told is)

pub returns-in-Ok-Some-Gen-clause-no_line : goal.returns-in-Ok-Some-Gen-clause-no_line
returns-in-Ok-Some-Gen-clause-no_line g c = λ n asked is. c.run_generator.ensures.no_line is

pub returns-in-Ok-Some-Gen-clause-gen_untouched : goal.returns-in-Ok-Some-Gen-clause-gen_untouched
returns-in-Ok-Some-Gen-clause-gen_untouched g c = λ told n asked is. c.run_generator.ensures.untouched told is

pub returns-in-Ok-Some-Gen-clause-gen_store : goal.returns-in-Ok-Some-Gen-clause-gen_store
returns-in-Ok-Some-Gen-clause-gen_store g c = λ told n asked is. c.run_generator.ensures.store told is

pub returns-in-Ok-Some-Gen-clause-sink_same : goal.returns-in-Ok-Some-Gen-clause-sink_same
returns-in-Ok-Some-Gen-clause-sink_same g c = λ is. c.run_generator.ensures.sink_same is

pub returns-in-Ok-Some-Gen-clause-untouched : goal.returns-in-Ok-Some-Gen-clause-untouched
returns-in-Ok-Some-Gen-clause-untouched g c = λ told n asked is. absurd (not_run g c n asked)

pub returns-in-Ok-Some-Gen-clause-not_a_store : goal.returns-in-Ok-Some-Gen-clause-not_a_store
returns-in-Ok-Some-Gen-clause-not_a_store g c = λ told is. c.run_generator.ensures.not_a_store told is

pub returns-in-Ok-Some-Gen-clause-store : goal.returns-in-Ok-Some-Gen-clause-store
returns-in-Ok-Some-Gen-clause-store g c = λ told n asked is. absurd (not_run g c n asked)

pub returns-in-Ok-Some-Gen-clause-source : goal.returns-in-Ok-Some-Gen-clause-source
returns-in-Ok-Some-Gen-clause-source g c = uncounted _ _ _ (gen_source c.run_generator.result.0 c.run_generator.ensures.ends) refl

pub returns-in-Ok-Some-Gen-clause-disk : goal.returns-in-Ok-Some-Gen-clause-disk
returns-in-Ok-Some-Gen-clause-disk g c = beside _ _ _ _ c.run_generator.ensures.disk

pub returns-in-Ok-Some-Gen-clause-sink : goal.returns-in-Ok-Some-Gen-clause-sink
returns-in-Ok-Some-Gen-clause-sink g c = c.run_generator.ensures.sink

pub returns-in-Ok-Some-Gen-clause-complete_format : goal.returns-in-Ok-Some-Gen-clause-complete_format
returns-in-Ok-Some-Gen-clause-complete_format g c = λ told l asked empty same. absurd (not_format g c l asked)

pub returns-in-Ok-Some-Gen-clause-complete : goal.returns-in-Ok-Some-Gen-clause-complete
returns-in-Ok-Some-Gen-clause-complete g c = λ disk told n asked sound few a b d. absurd (not_run g c n asked)

pub returns-in-Ok-Some-Gen-clause-complete_gen : goal.returns-in-Ok-Some-Gen-clause-complete_gen
returns-in-Ok-Some-Gen-clause-complete_gen g c = λ told n asked sound same_disk same_sink. all_made g c told sound same_disk same_sink

-- Memory ran out as the words were read: the disk is as it was.

pub returns-in-Err-clause-format_unchanged : goal.returns-in-Err-clause-format_unchanged
returns-in-Err-clause-format_unchanged g c = λ disk l asked some. rests_itself g.D.Disk c.args.disk

pub returns-in-Err-clause-untouched : goal.returns-in-Err-clause-untouched
returns-in-Err-clause-untouched g c = λ disk n asked is. rests_alone g.D.Disk c.args.disk c.args.disk (λ im left. g.met.D.Disk.only_now c.args.disk im disk left) (rests_itself g.D.Disk c.args.disk)

pub returns-in-Err-clause-gen_untouched : goal.returns-in-Err-clause-gen_untouched
returns-in-Err-clause-gen_untouched g c = λ disk n asked is. rests_alone g.D.Disk c.args.disk c.args.disk (λ im left. g.met.D.Disk.only_now c.args.disk im disk left) (rests_itself g.D.Disk c.args.disk)

pub returns-in-Err-clause-left_alone : goal.returns-in-Err-clause-left_alone
returns-in-Err-clause-left_alone g c = λ disk none slots h number left.
    let w = opens_with slots (g.D.Disk.content c.args.disk) h number left in
    leaves_same slots (g.D.Disk.content c.args.disk) h number left g.D.Disk c.args.disk c.args.disk w (alone_same g.D.Disk c.args.disk c.args.disk w.sound
    (rests_alone g.D.Disk c.args.disk c.args.disk (λ im here. g.met.D.Disk.only_now c.args.disk im disk here) (rests_itself g.D.Disk c.args.disk)))
