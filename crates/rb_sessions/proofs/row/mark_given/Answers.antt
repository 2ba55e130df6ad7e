use Rattle.std.proofs.Common.{sym}
use Rattle.rb_sessions.proofs.Cursors.{last_there}
use Rattle.rb_sessions.proofs.row.mark_given.Goals as goal

pub returns : goal.returns
returns c = λ name at. sym (last_there name c.args.key c.args.cursors.now c.args.place c.index-cursors-place.result at)
