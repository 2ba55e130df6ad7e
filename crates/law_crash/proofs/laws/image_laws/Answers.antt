use Rattle.std.proofs.Common.{ap, ◌∙◌}
use Rattle.rb_base.specs.declared.shape.Shape.{Shape}
use Rattle.law_crash.proofs.Crashes.{extends_later, has_later, has_state, rows_stay}
use Rattle.law_crash.proofs.Past.{sound_as}
use Rattle.law_crash.proofs.laws.image_laws.Goals as goal
use Rattle.rb_model.specs.Rows.{rows_at}

pub returns : goal.returns
returns c = record {
  sound = sound_as;
  had = has_state;
  later = λ h h2 n blocks lsn e le has. has_later h h2 h.books h2.books n blocks lsn e.shape (rows_stay h.shape.blocks h h2 n e le) e.marks has;
  commits = λ h h2 e. (
    extends_later h h2 e,
    e.safe,
    λ n le. ap (λ (x : Shape). rows_at x.blocks h2.commits n) e.shape ∙ rows_stay h.shape.blocks h h2 n e le,
    λ g lt. (e.marks.writes g lt, e.marks.lost g lt),
  );
  seen = λ h books n blocks lsn has. (has.sound, λ g lt. (has.marks.writes g lt, has.marks.lost g lt));
}
