-- What a caller answers where one of its readings is refused, and where it gives a value.
use Rattle.std.specs.Prelude.{◌≡◌, Result, Ok, Err}
use Rattle.std.proofs.Common.{ap, sym, subst}
use Rattle.pq_topo.specs.declared.fault.NameFault.{NameFault}
use Rattle.pq_topo.specs.declared.fault.NameFault.TheVariants.{Name, Memory}
use Rattle.pq_topo.specs.Naming.{Reading, IsAnswer, next}

-- a refused reading refuses all that depends on it
pub passed : {A B C D : Type 0} (v : A → B) (w : C → D) (fault : NameFault) (r : Reading B) (f : B → Reading D) → IsAnswer v (Err fault) r
    → IsAnswer w (Err fault) (next r f)
passed v w (Name at kind) r f h = ap (λ reading. next reading f) h
passed v w Memory r f h = tt

-- what follows a value answers for both
pub followed : {A C D : Type 0} (w : C → D) (result : Result C NameFault) (value : A) (r : Reading A) (f : A → Reading D) → Ok value ≡ r
    → IsAnswer w result (f value) → IsAnswer w result (next r f)
followed w result value r f h answer = subst (IsAnswer w result) (ap (λ reading. next reading f) h) answer

-- a value is handed on
pub handed : {A B D : Type 0} (v : A → B) (value : A) (r : Reading B) (f : B → Reading D) → IsAnswer v (Ok value) r → next r f ≡ f (v value)
handed v value r f h = ap (λ reading. next reading f) (sym h)
