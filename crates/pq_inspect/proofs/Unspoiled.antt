-- An install alone is inspected, unless memory runs out.
use Rattle.std.proofs.Common.{ℕ, List, ◌⊎◌, inl, inr, sym, subst, length, take, take_all, arith}
use Rattle.pq_model.specs.Install.{Install, IsSpelled, IsSpelledOld}
use Rattle.pq_install.proofs.OneSpelling.{same_length}
use Rattle.pq_install.proofs.Renamed.{spelled_stands}
use Rattle.pq_inspect.specs.Inspected.{IsWholeInstall, IsSpoiledAt}

-- all bytes are a spelling
spelled_whole : (bytes : List ℕ) (i : Install) → IsSpelled i bytes ⊎ IsSpelledOld i bytes
    → IsSpelled i (take (length bytes) bytes) ⊎ IsSpelledOld i (take (length bytes) bytes)
spelled_whole bytes i spelled =
    let P : List ℕ → Type 0 = λ bs. IsSpelled i bs ⊎ IsSpelledOld i bs in
    subst P (sym (take_all (length bytes) bytes (omega arith))) spelled

pub not_spoiled : (bytes : List ℕ) (at : ℕ) → IsWholeInstall bytes → IsSpoiledAt bytes at → ⊥
not_spoiled bytes at (i, spelled) (inl damaged) = spelled_stands bytes at (length bytes) i damaged (spelled_whole bytes i spelled)
not_spoiled bytes at (i, spelled) (inr (j, read, more)) =
    let same = same_length bytes i j (length bytes) at (omega arith) read.within (spelled_whole bytes i spelled) read.spelled in
    absurd (omega arith)
