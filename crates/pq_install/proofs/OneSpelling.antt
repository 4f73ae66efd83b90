-- No spelling of an install begins another's.
use Rattle.std.proofs.Common.{◌≡◌, ℕ, ◌≤◌, List, ◌⊎◌, inl, inr, refl, ap, sym, ◌∙◌, length, take, drop, take-append-drop, length-drop, arith}
use Rattle.pq_model.specs.Install.{Install, IsSpelled, IsSpelledOld}
use Rattle.pq_install.specs.Reading.{IsInstallAtFront}
use Rattle.pq_install.proofs.Renamed.{spelled_at_front, spelled_old_at_front}
use Rattle.pq_install.proofs.Exclusion.{one_install}

-- an install that is spelled in front is read there, with the names that reading gives
in_front : (bytes : List ℕ) (i : Install) (n : ℕ) → IsSpelled i (take n bytes) ⊎ IsSpelledOld i (take n bytes)
    → (j : Install) × IsInstallAtFront bytes j (drop n bytes)
in_front bytes i n (inl spelled) = (_, spelled_at_front bytes i (drop n bytes) spelled.lawful (sym (take-append-drop n bytes) ∙ rw spelled.spelled refl))
in_front bytes i n (inr spelled) =
    (_, spelled_old_at_front bytes i (drop n bytes) spelled.lawful spelled.old (sym (take-append-drop n bytes) ∙ rw spelled.spelled refl))

-- two spellings in front leave the same after them
pub same_rest : (bytes : List ℕ) (i j : Install) (m n : ℕ) → IsSpelled i (take m bytes) ⊎ IsSpelledOld i (take m bytes)
    → IsSpelled j (take n bytes) ⊎ IsSpelledOld j (take n bytes) → drop n bytes ≡ drop m bytes
same_rest bytes i j m n first second =
    let one = in_front bytes i m first in
    let other = in_front bytes j n second in
    (one_install bytes other.0 one.0 (drop n bytes) (drop m bytes) other.1 one.1).1

-- so they have one length
pub same_length : (bytes : List ℕ) (i j : Install) (m n : ℕ) → m ≤ length bytes → n ≤ length bytes
    → IsSpelled i (take m bytes) ⊎ IsSpelledOld i (take m bytes) → IsSpelled j (take n bytes) ⊎ IsSpelledOld j (take n bytes) → m ≡ n
same_length bytes i j m n within here first second =
    let same : length (drop n bytes) ≡ length (drop m bytes) = ap length (same_rest bytes i j m n first second) in
    omega (arith, same, length-drop m bytes, length-drop n bytes)
