-- An engine: a document with its install, and what both are made from.
use Rattle.pq_sum.specs.Places.{IsSummed}
use Rattle.pq_compile.specs.Compiled.{IsInstalled, IsWithinLimits}
use Rattle.pq_compile.specs.Documents.{DocumentTree}
use Rattle.pq_compile.specs.Prepared.{AreClassified, IsCompilable, parts_in}
use Rattle.pq_engine.specs.declared.kept.Kept.{Kept}
use Rattle.pq_engine.specs.Codes.{EngineValue}

-- all that it keeps is that of its document
pub record IsEngine (e : EngineValue) : Type 0 where
  pub compilable : IsCompilable e.document
  pub within : IsWithinLimits e.document
  pub installed : IsInstalled e.document e.install
  pub summed : IsSummed e.document.topology e.forward (parts_in e.document) e.sum
  pub classified : AreClassified e.document e.instances e.letters e.classes

-- the engine of a document that keeps this
abbrev pub engine_of : DocumentTree → Kept → EngineValue
engine_of d k = record {
  document = d;
  install = k.install;
  forward = k.forward;
  sum = k.sum;
  instances = k.told.instances.items;
  letters = k.told.letters;
  classes = k.told.classes;
}
