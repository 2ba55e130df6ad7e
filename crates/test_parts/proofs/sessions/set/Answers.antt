use Rattle.std.proofs.Common.{not, arith}
use Rattle.std.proofs.lemmas.List.Sums.{length-filter, count_by-le-length}
use Rattle.std.specs.Str.{bytes_eq}
use Rattle.rb_model.specs.Names.{name_text}
use Rattle.rb_model.specs.State.{Savepoint}
use Rattle.rb_sessions.specs.Kept.{kept_at}
use Rattle.test_parts.proofs.sessions.set.Goals as goal

pub set_savepoint-requires-clause-room : goal.set_savepoint-requires-clause-room
set_savepoint-requires-clause-room c =
    let all = (kept_at c.args.table.now c.args.s).savepoints in
    let same = length-filter (λ (p : Savepoint). not (bytes_eq p.name (name_text c.args.name.now))) all in
    let few = count_by-le-length (λ (p : Savepoint). not (bytes_eq p.name (name_text c.args.name.now))) all in
    let told = c.session.ensures.savepoints.0 in
    let room = c.if-session-ge16.false in
    omega (arith, same, few, told, room)
