use Rattle.std.proofs.Common.{◌≡◌, [], Some, refl, ap, sym, subst}
use Rattle.rb_base.specs.declared.shape.Shape.{Shape}
use Rattle.rb_layout.specs.Regions.{shape_of}
use Rattle.rb_model.specs.Rows.{rows_at}
use Rattle.rb_model.specs.State.{opened}
use Rattle.rb_recovery.proofs.Sound.{sound_as}
use Rattle.rb_recovery.specs.Opens.{books_of}
use Rattle.rb_shell.proofs.LeftLemmas.{restart_small}
use Rattle.law_blocks.specs.Standing.{SoundAs, logged_of}
use Rattle.rb_shell.proofs.laws.restarts_sound.Goals as goal

pub returns : goal.returns
returns c = λ l books h n image r.
    let m = r.opening.layout in
    let rows = rows_at h.shape.blocks h.commits n in
    let sound : SoundAs (shape_of m) r.blocks n rows = subst (λ (s : Shape). SoundAs s r.blocks n rows) (sym r.opening.shape_is) r.has.sound in (
      record {
        store = record {
          layout = m;
          blocks = r.blocks;
          lsn = r.lsn;
          opens = r.opening.opens;
          small = restart_small (Some l.log) n books h image r;
          sound = sound_as (shape_of m) r.blocks n rows sound;
        };
        state = opened (shape_of m) n rows (books_of (shape_of m) r.blocks) [];
        opening = record { number = n; rows = rows; sound = sound; state = refl };
        logged = subst (λ (s : Shape). r.lsn ≡ logged_of s r.blocks) (sym r.opening.shape_is) r.has.logged;
      },
      ap (λ (s : Shape). opened s n rows (books_of s r.blocks) []) r.opening.shape_is,
      r.has.marks,
    )
