use Rattle.pq_schedule.proofs.Readings.{one_schedule, one_fault, schedule_or_fault, schedule_or_full, fault_or_full}
use Rattle.pq_schedule.proofs.schedule.a_text_is_read_one_way.Goals as goal

-- by the first events, one after another
pub returns : goal.returns
returns c = record {
  schedule = one_schedule;
  fault = one_fault;
  schedule_or_fault = schedule_or_fault;
  schedule_or_full = schedule_or_full;
  fault_or_full = fault_or_full;
}
