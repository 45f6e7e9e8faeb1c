use Rattle.tr_mirror.proofs.FirstFaultLemmas.{fault_is_first, first_is_fault, first_fault_to, first_fault_from}
use Rattle.tr_mirror.proofs.RunLemmas.{reading_stays}
use Rattle.tr_mirror.proofs.laws.faults_are_the_tables.Goals as goal

pub returns : goal.returns
returns c = record {
  whole = λ stream fault k. (first_fault_to stream fault k, first_fault_from stream fault);
  so_far = λ stream fault k. (fault_is_first stream fault k, first_is_fault stream fault);
  stays = λ stream more some. reading_stays stream more some;
}
