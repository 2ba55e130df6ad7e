use Rattle.law_blocks.proofs.Addresses.{next_place_is, listed_reads}
use Rattle.law_blocks.proofs.BlocksAs.{blocks_as, commit_logged}
use Rattle.law_blocks.proofs.Choosing.{chosen_reads}
use Rattle.law_blocks.proofs.FirstWrite.{first_write}
use Rattle.law_blocks.proofs.Forgotten.{standing_forgotten}
use Rattle.law_blocks.proofs.Fresh.{fresh_stands, fresh_running, state_fresh, fresh_met}
use Rattle.law_blocks.proofs.MachineBack.{stands_back_as, stands_ended}
use Rattle.law_blocks.proofs.MachineDone.{stands_committed}
use Rattle.law_blocks.proofs.MachineWritten.{stands_written}
use Rattle.law_blocks.proofs.OwedMoves.{owed_written, owed_back, owed_ended, owed_committed}
use Rattle.law_blocks.proofs.StandingBack.{standing_back, running_back}
use Rattle.law_blocks.proofs.StandingDone.{standing_committed, running_committed, standing_ended, running_ended}
use Rattle.law_blocks.proofs.StandingWritten.{standing_written, running_written}
use Rattle.law_blocks.specs.Values.{IsSaved}
use Rattle.law_blocks.proofs.laws.standing_laws.Goals as goal

pub returns-clause-written : goal.returns-clause-written
returns-clause-written c = λ shape commit logged t segments after homes homes2 past lives kind address u t_in both w. record {
  stands = standing_written shape commit logged segments homes past lives both.stands both.running homes2 t kind address u t_in after w;
  running = running_written shape commit logged segments homes past lives both.stands both.running homes2 t kind address u t_in after w;
}

pub returns-clause-put_back : goal.returns-clause-put_back
returns-clause-put_back c = λ shape commit logged t segments after homes homes2 past lives u ch more t_in stand put has. (
  standing_back shape commit logged segments homes past lives stand homes2 t u t_in after put ch more has,
  running_back shape commit logged segments homes past lives stand homes2 t u t_in after put ch more has,
)

pub returns-clause-committed : goal.returns-clause-committed
returns-clause-committed c = λ shape commit logged t n segments homes past lives t_in both active next logs. record {
  stands = standing_committed shape commit logged segments homes past lives both.stands t t_in active both.running n next logs;
  running = running_committed shape commit logged segments homes past lives both.stands t t_in active both.running n next logs;
}

pub returns-clause-ended : goal.returns-clause-ended
returns-clause-ended c = λ shape commit logged t segments homes past lives t_in stand active empty. (
  standing_ended shape commit logged segments homes past lives stand t t_in active empty,
  running_ended shape commit logged segments homes past lives stand t t_in active empty,
)

pub returns-clause-state_written : goal.returns-clause-state_written
returns-clause-state_written c = λ h xids commit logged s t segments after homes homes2 ch kind address u stand t_in s_in s_few takes w same. stands_written h xids commit logged segments homes stand after homes2 s t ch kind address u t_in (s_in, s_few) takes w same

pub returns-clause-write_met : goal.returns-clause-write_met
returns-clause-write_met c = first_write

pub returns-clause-state_put_back : goal.returns-clause-state_put_back
returns-clause-state_put_back c = λ h xids commit logged s t segments after homes homes2 u front ch stand t_in owns put own_is. stands_back_as h xids commit logged segments homes stand s t t_in owns homes2 after u put front ch own_is

pub returns-clause-state_committed : goal.returns-clause-state_committed
returns-clause-state_committed c = λ h xids commit logged s t segments homes cursors stand t_in owns logs. stands_committed h xids commit logged segments homes stand s t t_in owns logs cursors

pub returns-clause-state_ended : goal.returns-clause-state_ended
returns-clause-state_ended c = λ h xids commit logged s t segments homes stand t_in owns empty. stands_ended h xids commit logged segments homes stand s t t_in owns empty

pub returns-clause-forgotten : goal.returns-clause-forgotten
returns-clause-forgotten c = λ shape commit logged segments homes past rows lives is stand. standing_forgotten shape segments homes past rows is lives commit logged stand

pub returns-clause-fresh : goal.returns-clause-fresh
returns-clause-fresh c = λ shape segments homes lives is counted none. record { stands = fresh_stands shape segments homes is lives counted none; running = fresh_running shape segments homes is }

pub returns-clause-state_fresh : goal.returns-clause-state_fresh
returns-clause-state_fresh c = (λ shape segments homes sessions is in_range idle. state_fresh shape segments homes is sessions in_range idle, fresh_met)

pub returns-clause-owed_written : goal.returns-clause-owed_written
returns-clause-owed_written c = λ shape commit logged t segments after homes homes2 past lives kind address u t_in both w. owed_written shape commit logged segments homes past lives both.stands t t_in both.running after homes2 kind address u w

pub returns-clause-owed_put_back : goal.returns-clause-owed_put_back
returns-clause-owed_put_back c = λ shape commit logged t segments after homes homes2 past lives u ch more t_in stand put has. owed_back shape commit logged segments homes past lives stand t t_in after homes2 u put ch more has

pub returns-clause-owed_ended : goal.returns-clause-owed_ended
returns-clause-owed_ended c = λ shape commit logged t segments homes past lives t_in stand active empty. owed_ended shape commit logged segments homes past lives stand t t_in active empty

pub returns-clause-owed_committed : goal.returns-clause-owed_committed
returns-clause-owed_committed c = λ shape commit logged t n segments homes past lives t_in stand active. owed_committed shape commit logged segments homes past lives stand t t_in active n

pub returns-clause-chosen : goal.returns-clause-chosen
returns-clause-chosen c = chosen_reads

pub returns-clause-place : goal.returns-clause-place
returns-clause-place c = next_place_is

pub returns-clause-addresses : goal.returns-clause-addresses
returns-clause-addresses c = λ shape blocks commit wraps x uba ch more r listed is. listed_reads shape blocks x (IsSaved shape commit wraps) uba ch more r listed is

pub returns-clause-blocks : goal.returns-clause-blocks
returns-clause-blocks c = blocks_as

pub returns-clause-logged : goal.returns-clause-logged
returns-clause-logged c = commit_logged
