-- Each kind of group leaves the segments older.
use Rattle.std.proofs.Common.{◌≡◌, ◌≢◌, ◌<◌, ◌≤◌, ◌*◌, ◌/◌, ◌%◌, ◌+◌, ℕ, List, length, refl, sym, subst, arith}
use Rattle.std.proofs.Math.Nat.{div-add-mod}
use Rattle.rb_base.specs.declared.sizes.TheConstants.{SLOTS}
use Rattle.law_aging.specs.Kept.{SegmentsAge}
use Rattle.rb_base.specs.declared.ids.Uba.{Uba}
use Rattle.rb_base.specs.declared.shape.Shape.{Shape}
use Rattle.rb_model.specs.Change.{Kind}
use Rattle.rb_segment.specs.Header.{Segment, SegmentInOrder, slot_in}
use Rattle.rb_segment.specs.Moves.{SegmentAges, SegmentCommits, committed, ended, taken_back, with_header, with_segment}
use Rattle.law_blocks.specs.StandingLaws.{RunningAs}
use Rattle.law_blocks.specs.Values.{Past, StandingAs, slot_of}
use Rattle.law_blocks.specs.Writes.{Written, PutBack, committed_segments, ended_segments}
use Rattle.rb_undoblock.specs.declared.record.UndoRecord.{UndoRecord}
use Rattle.law_home.specs.Walk.{Change, Home}
use Rattle.rb_segment.proofs.Back.{back_ages}
use Rattle.rb_segment.proofs.CommitOrder.{commits as commits_of}
use Rattle.rb_segment.proofs.Ended.{end_ages}
use Rattle.rb_segment.proofs.Moments.{ages_fewer, ages_joined, ages_same}
use Rattle.rb_segment.proofs.SegmentWritten.{written_ages}
use Rattle.rb_segment.proofs.WithSegment.{one_ages}
use Rattle.law_blocks.proofs.StandingWritten.{slot_few, keeps_of, running_of}

-- a later moment at which no slot is asked to go on
pub anyway : (goes : ℕ → Type 0) (s s2 : Segment) → SegmentAges goes s s2 → SegmentAges (λ i. ⊥) s s2
anyway goes s s2 ages = ages_fewer goes (λ i. ⊥) s s2 (λ i none. absurd none) ages

-- one segment alone moves
pub at_one : (segments after : ℕ → Segment) (g : ℕ) (s : Segment) → ((k : ℕ) → after k ≡ with_segment g s segments k) → SegmentAges (λ i. ⊥) (segments g) s → SegmentsAge segments after
at_one segments after g s others ages k = subst (λ (z : Segment). SegmentAges (λ i. ⊥) (segments k) z) (sym (others k)) (one_ages (λ g i. ⊥) segments g s ages k)

pub written : (shape : Shape) (commit logged t : ℕ) (segments after : ℕ → Segment) (homes homes2 : ℕ → Home) (past : Past) (lives : List (List Change)) (kind : Kind) (address : Uba) (u : UndoRecord)
    → t < SLOTS * shape.segments → RunningAs shape commit logged segments homes past lives → Written shape commit segments after homes homes2 lives t kind address u → SegmentsAge segments after
written shape commit logged t segments after homes homes2 past lives kind address u t_in runs w =
    let g_in : t / SLOTS < shape.segments = let a = div-add-mod t SLOTS in omega (arith, a, t_in) in
    let order : SegmentInOrder commit logged (segments (t / SLOTS)) = runs.stands.in_order (t / SLOTS) g_in in
    let ages : SegmentAges (λ j. (slot_in (segments (t / SLOTS)).header j).state ≡ 1) (segments (t / SLOTS)) w.segment =
    written_ages (segments (t / SLOTS)) (t % SLOTS) address u w.segment w.records commit logged order (slot_few t)
    (keeps_of shape commit logged segments homes past lives runs.stands runs.running (t / SLOTS) g_in)
    (running_of shape commit logged segments homes past lives runs.stands runs.running (t / SLOTS) g_in) w.slot w.wrap in
    at_one segments after (t / SLOTS) w.segment w.others (anyway (λ j. (slot_in (segments (t / SLOTS)).header j).state ≡ 1) (segments (t / SLOTS)) w.segment ages)

-- a slot is one of its header's
within : (shape : Shape) (commit logged t : ℕ) (segments : ℕ → Segment) (homes : ℕ → Home) (past : Past) (lives : List (List Change)) → t < SLOTS * shape.segments → StandingAs shape commit logged segments homes past lives → (t % SLOTS) < length (segments (t / SLOTS)).header.slots
within shape commit logged t segments homes past lives t_in stand =
    let g_in : t / SLOTS < shape.segments = let a = div-add-mod t SLOTS in omega (arith, a, t_in) in
    let few = slot_few t in
    omega (arith, few, (stand.in_order (t / SLOTS) g_in).header.slots_counted)

pub put_back : (shape : Shape) (commit logged t : ℕ) (segments after : ℕ → Segment) (homes homes2 : ℕ → Home) (past : Past) (lives : List (List Change)) (u : UndoRecord)
    → t < SLOTS * shape.segments → StandingAs shape commit logged segments homes past lives → PutBack shape segments after homes homes2 t u → SegmentsAge segments after
put_back shape commit logged t segments after homes homes2 past lives u t_in stand put =
    at_one segments after (t / SLOTS) (with_header (taken_back (t % SLOTS) u.previous (segments (t / SLOTS)).header) (segments (t / SLOTS))) put.others
    (back_ages (segments (t / SLOTS)) (t % SLOTS) u.previous (within shape commit logged t segments homes past lives t_in stand) (λ i. ⊥))

-- a commit
pub done : (shape : Shape) (commit logged t c : ℕ) (segments : ℕ → Segment) (homes : ℕ → Home) (past : Past) (lives : List (List Change))
    → t < SLOTS * shape.segments → RunningAs shape commit logged segments homes past lives → (slot_of segments t).state ≡ 1 → commit < c → c ≤ logged + 1 → SegmentsAge segments (committed_segments c t segments)
done shape commit logged t c segments homes past lives t_in runs active next logs =
    let g_in : t / SLOTS < shape.segments = let a = div-add-mod t SLOTS in omega (arith, a, t_in) in
    let s2 : Segment = with_header (committed c (t % SLOTS) (segments (t / SLOTS)).header) (segments (t / SLOTS)) in
    let order : SegmentInOrder commit logged (segments (t / SLOTS)) = runs.stands.in_order (t / SLOTS) g_in in
    let keeps = keeps_of shape commit logged segments homes past lives runs.stands runs.running (t / SLOTS) g_in (t % SLOTS) active in
    let slot = running_of shape commit logged segments homes past lives runs.stands runs.running (t / SLOTS) g_in (t % SLOTS) active in
    let commits : SegmentCommits (segments (t / SLOTS)) s2 (t % SLOTS) c = commits_of (segments (t / SLOTS)) (t % SLOTS) c commit logged (slot_few t) order active slot.before keeps next logs in
    at_one segments (committed_segments c t segments) (t / SLOTS) s2 (λ k. refl) (anyway (λ j. j ≢ (t % SLOTS)) (segments (t / SLOTS)) s2 commits.ages)

-- and the end of a slot
pub over : (shape : Shape) (commit logged t : ℕ) (segments : ℕ → Segment) (homes : ℕ → Home) (past : Past) (lives : List (List Change))
    → t < SLOTS * shape.segments → StandingAs shape commit logged segments homes past lives → (slot_of segments t).state ≡ 1 → SegmentsAge segments (ended_segments t segments)
over shape commit logged t segments homes past lives t_in stand active =
    let s2 : Segment = with_header (ended (t % SLOTS) (segments (t / SLOTS)).header) (segments (t / SLOTS)) in
    at_one segments (ended_segments t segments) (t / SLOTS) s2 (λ k. refl)
    (anyway (λ j. j ≢ (t % SLOTS)) (segments (t / SLOTS)) s2 (end_ages (segments (t / SLOTS)) (t % SLOTS) (within shape commit logged t segments homes past lives t_in stand) active))

pub joined : (a b c : ℕ → Segment) → SegmentsAge a b → SegmentsAge b c → SegmentsAge a c
joined a b c one two g = ages_joined (λ i. ⊥) (a g) (b g) (c g) (one g) (two g)

pub same : (a : ℕ → Segment) → SegmentsAge a a
same a g = ages_same (λ i. ⊥) (a g)
