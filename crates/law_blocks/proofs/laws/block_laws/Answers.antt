use Rattle.law_blocks.proofs.BlocksBack.{blocks_back, blocks_running_back}
use Rattle.law_blocks.proofs.BlocksCleaned.{blocks_cleaned, running_cleaned}
use Rattle.law_blocks.proofs.BlocksDone.{commit_keeps, end_keeps}
use Rattle.law_blocks.proofs.BlocksMachine.{commit_keeps_machine, end_keeps_machine}
use Rattle.law_blocks.proofs.MachineBlocks.{machine_back, machine_cleaned}
use Rattle.law_blocks.proofs.WriteMachine.{write_keeps_machine}
use Rattle.law_blocks.proofs.laws.block_laws.Goals as goal

pub returns-clause-cleaned : goal.returns-clause-cleaned
returns-clause-cleaned c = λ shape before now past lives b in_range b_in next stand is. (
  blocks_cleaned shape before now past lives b in_range b_in next stand is,
  running_cleaned shape before now past lives b in_range b_in next stand is,
)

pub returns-clause-put_back : goal.returns-clause-put_back
returns-clause-put_back c = λ shape before now past lives t u ch more in_range t_in stand has there is. (
  blocks_back shape before now past lives t u ch more in_range t_in stand has there is,
  blocks_running_back shape before now past lives t u ch more in_range t_in stand has there is,
)

pub returns-clause-state_cleaned : goal.returns-clause-state_cleaned
returns-clause-state_cleaned c = machine_cleaned

pub returns-clause-state_put_back : goal.returns-clause-state_put_back
returns-clause-state_put_back c = λ h xids before now s t u front ch t_in stand owns own_is there is. machine_back h xids before now s t u front ch t_in stand owns own_is there is

pub returns-clause-committed : goal.returns-clause-committed
returns-clause-committed c = λ shape before now past lives t n in_range t_in stand running active next logs is. commit_keeps shape before now past lives stand t t_in n next is running active logs

pub returns-clause-ended : goal.returns-clause-ended
returns-clause-ended c = λ shape before now past lives t in_range t_in stand active empty is. end_keeps shape before now past lives stand t t_in active empty is

pub returns-clause-state_committed : goal.returns-clause-state_committed
returns-clause-state_committed c = λ h xids before now s t cursors t_in stand owns is. commit_keeps_machine h xids before now stand s t t_in owns cursors is

pub returns-clause-state_ended : goal.returns-clause-state_ended
returns-clause-state_ended c = λ h xids before now s t t_in stand owns empty is. end_keeps_machine h xids before now stand s t t_in owns empty is

pub returns-clause-state_written : goal.returns-clause-state_written
returns-clause-state_written c = λ h xids before now s t adds ch kind address u t_in s_in s_few stand takes home_in free is same room. write_keeps_machine h xids before now s t adds ch kind address u t_in (s_in, s_few) stand takes home_in free is same room
