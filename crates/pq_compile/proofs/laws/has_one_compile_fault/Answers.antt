use Rattle.pq_compile.proofs.OneFault.{no_compile_fault, no_prepare_fault, one_compile_fault, one_prepare_fault}
use Rattle.pq_compile.proofs.laws.has_one_compile_fault.Goals as goal

pub returns : goal.returns
returns c = record {
  prepare_fault = one_prepare_fault;
  no_prepare_fault = no_prepare_fault;
  compile_fault = one_compile_fault;
  no_compile_fault = no_compile_fault;
}
