use Rattle.rb_base.specs.Blocks.{home_block}
use Rattle.rb_model.specs.Book.{book_at}
use Rattle.law_blocks.specs.Standing.{env_of, homes_of, segments_of}
use Rattle.law_write.specs.Chosen.{header_in}
use Rattle.law_write.specs.VerdictLaws.{clean_home}
use Rattle.law_write.proofs.Begun.{begins_there, owners_are}
use Rattle.law_write.proofs.Choices.{free_alike, owners_alike}
use Rattle.law_write.proofs.Cleaned.{is_clean, stood_clean}
use Rattle.law_write.proofs.Since.{since_is, since_range}
use Rattle.law_write.proofs.StoodBlocks.{home_is, stood_of}
use Rattle.law_write.proofs.Told.{book, full_none, full_ready, none_full, slots_counted, sound}
use Rattle.law_write.proofs.Verdicts.{verdict_is}
use Rattle.law_write.proofs.laws.verdict_laws.Goals as goal

pub returns-clause-verdict : goal.returns-clause-verdict
returns-clause-verdict c = λ h xids blocks s table key g i ready own adds stand low first last g_in is_ready id.
    verdict_is h xids (segments_of h.shape blocks) (clean_home h blocks) (stood_clean h xids (segments_of h.shape blocks) (homes_of h.shape blocks) (stood_of h xids blocks stand)) s table key low first last
    (is_clean (env_of h.shape blocks) (homes_of h.shape blocks (home_block h.shape table key))) ready (book_at h.books g) own adds id (full_ready h xids blocks stand g g_in i ready is_ready)

pub returns-clause-clean_verdict : goal.returns-clause-clean_verdict
returns-clause-clean_verdict c = λ h xids segments homes s table key header book own adds stood low first last clean full id.
    verdict_is h xids segments homes stood s table key low first last clean header book own adds id full

pub returns-clause-clean_home : goal.returns-clause-clean_home
returns-clause-clean_home c = λ h xids blocks b stand b_in. home_is h xids blocks stand b b_in

pub returns-clause-full : goal.returns-clause-full
returns-clause-full c = λ h xids blocks g i ready stand g_in is_ready. (none_full h xids blocks stand g g_in i ready is_ready, full_none h xids blocks stand g g_in i ready is_ready)

pub returns-clause-since : goal.returns-clause-since
returns-clause-since c = (
  λ h xids blocks g i since ready stand g_in is_ready is. since_is h xids blocks stand g g_in i since ready is_ready is,
  λ h xids blocks g stand g_in full. since_range h xids blocks stand g g_in full,
)

pub returns-clause-sound : goal.returns-clause-sound
returns-clause-sound c = λ h xids blocks g stand g_in. sound h xids blocks stand g g_in

pub returns-clause-free : goal.returns-clause-free
returns-clause-free c = λ h xids blocks g stand g_in. free_alike (header_in h blocks g) (book_at h.books g) (book h xids blocks stand g g_in) (slots_counted h xids blocks stand g g_in)

pub returns-clause-owners : goal.returns-clause-owners
returns-clause-owners c = λ h xids blocks g stand g_in.
    (owners_alike (header_in h blocks g) (book_at h.books g) (book h xids blocks stand g g_in) (slots_counted h xids blocks stand g g_in), owners_are h xids blocks stand g g_in)

pub returns-clause-begun : goal.returns-clause-begun
returns-clause-begun c = λ h xids blocks g i stand least may. begins_there h xids blocks stand g i least may
