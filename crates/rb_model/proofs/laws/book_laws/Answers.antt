use Rattle.rb_model.proofs.BookLemmas.{taken_sound, marked_sound, finished_sound, left_sound, drops_one, turns_kept, reuses_one, begins_at_one, full_since, slots_kept, newest_kept, begins_there}
use Rattle.rb_model.proofs.laws.book_laws.Goals as goal

pub returns-clause-taken : goal.returns-clause-taken
returns-clause-taken c = taken_sound

pub returns-clause-marked : goal.returns-clause-marked
returns-clause-marked c i b sound full = marked_sound b sound i full

pub returns-clause-finished : goal.returns-clause-finished
returns-clause-finished c = finished_sound

pub returns-clause-left : goal.returns-clause-left
returns-clause-left c = left_sound

pub returns-clause-turn : goal.returns-clause-turn
returns-clause-turn c i b sound full rises = drops_one b sound i full rises

pub returns-clause-owned : goal.returns-clause-owned
returns-clause-owned c i b sound full = turns_kept b sound i full

pub returns-clause-slot : goal.returns-clause-slot
returns-clause-slot c = reuses_one

pub returns-clause-one : goal.returns-clause-one
returns-clause-one c = begins_at_one

pub returns-clause-since : goal.returns-clause-since
returns-clause-since c b sound full = full_since b sound full

pub returns-clause-slots : goal.returns-clause-slots
returns-clause-slots c = slots_kept

pub returns-clause-newest : goal.returns-clause-newest
returns-clause-newest c = newest_kept

pub returns-clause-begun : goal.returns-clause-begun
returns-clause-begun c = begins_there
