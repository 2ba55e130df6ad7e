use Rattle.rb_steps.proofs.Done.{answered, stands}
use Rattle.rb_steps.proofs.HolderWords.{holder_is}
use Rattle.rb_steps.proofs.May.{living_leave}
use Rattle.rb_steps.proofs.Refused.{refused}
use Rattle.rb_steps.proofs.Somewhere.{slot_is_room, somewhere}
use Rattle.rb_steps.proofs.Writers.{writes_in}
use Rattle.rb_steps.proofs.laws.step_laws.Goals as goal

pub returns-clause-refused : goal.returns-clause-refused
returns-clause-refused c = λ h xids blocks s logged ask fault about first last mine why. refused h xids blocks s logged ask about first last mine fault why

pub returns-clause-done : goal.returns-clause-done
returns-clause-done c = λ h xids before now s ask x ready address u about s_in first last mine writer asked takes is young. (
  writes_in h xids before s ask.own about x ready writer,
  answered h xids before now s ask about s_in first last mine x ready writer address u asked takes is young,
  stands h xids before now s ask about s_in first last mine x ready writer address u asked takes is young,
)

pub returns-clause-holder : goal.returns-clause-holder
returns-clause-holder c = λ h xids blocks table key stand first last. holder_is h xids blocks stand table key first last

pub returns-clause-somewhere : goal.returns-clause-somewhere
returns-clause-somewhere c = λ h xids blocks s own about. somewhere h xids blocks s own about

pub returns-clause-living : goal.returns-clause-living
returns-clause-living c = λ h xids blocks s own about low is g within living. living_leave h xids blocks s own about low is g living within

pub returns-clause-room : goal.returns-clause-room
returns-clause-room c = λ h xids blocks s g i stand writes place. slot_is_room h xids blocks stand s g i writes place
