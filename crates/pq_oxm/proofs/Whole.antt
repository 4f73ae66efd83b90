-- The spelling of a match as a whole: where its parts are.
use Rattle.std.proofs.Common.{◌≡◌, ℕ, ◌+◌, ◌≤◌, List, [], ◌∷◌, ◌++◌, length, get_or, take, drop, replicate}
use Rattle.std.proofs.Common.{refl, sym, ap, ◌∙◌, append_assoc, arith}
use Rattle.std.specs.Int.{w16, to_be_bytes, from_be_bytes}
use Rattle.std.proofs.lemmas.List.{take_at, length-append}
use Rattle.pq_model.specs.MatchFields.{MatchFields, IsLawfulMatch}
use Rattle.pq_model.specs.Spelling.{padding, match_oxms, match_bytes}
use Rattle.pq_model.proofs.Lengths.{oxms_short}
use Rattle.pq_oxm.specs.Reading.{fields_of}
use Rattle.pq_oxm.proofs.Matches.{fields_read}
use Rattle.pq_oxm.proofs.Numbers.{reads_16}

-- what is read of the bytes of a lawful match
pub record IsSpelled (bytes : List ℕ) (m : MatchFields) : Type 0 where
  pub count : from_be_bytes w16 (get_or bytes 2 0 ∷ get_or bytes 3 0 ∷ []) ≡ 4 + length (match_oxms m)
  pub long : 4 + length (match_oxms m) ≤ length bytes
  pub oxms : take (length (match_oxms m)) (drop 4 bytes) ≡ match_oxms m

pub spelled : (bytes : List ℕ) (m : MatchFields) (more : List ℕ) → bytes ≡ match_bytes m ++ more → IsSpelled bytes m
unfolding match_bytes
spelled bytes m more is =
    let oxms : List ℕ = match_oxms m in
    let count : ℕ = 4 + length oxms in
    let zeros : List ℕ = replicate (padding (length (0 ∷ 1 ∷ (to_be_bytes w16 count ++ oxms)))) 0 in
    let parted : match_bytes m ++ more ≡ 0 ∷ 1 ∷ (to_be_bytes w16 count ++ (oxms ++ (zeros ++ more))) = simp append_assoc in
    rw (is, parted) (record {
      count = reads_16.again count (omega (arith, oxms_short m));
      long = omega (arith, length-append oxms (zeros ++ more));
      oxms = take_at oxms (zeros ++ more) (length oxms) refl;
    })

-- one spelling alone begins the bytes
pub one_match : (m n : MatchFields) (more others : List ℕ) → IsLawfulMatch m → IsLawfulMatch n → match_bytes m ++ more ≡ match_bytes n ++ others → m ≡ n
one_match m n more others law other same =
    let first = spelled (match_bytes m ++ more) m more refl in
    let second = spelled (match_bytes m ++ more) n others same in
    let long : length (match_oxms m) ≡ length (match_oxms n) = omega (arith, sym first.count ∙ second.count) in
    let oxms : match_oxms m ≡ match_oxms n = sym first.oxms ∙ ap (λ k. take k (drop 4 (match_bytes m ++ more))) long ∙ second.oxms in
    sym (fields_read m law) ∙ ap fields_of oxms ∙ fields_read n other
