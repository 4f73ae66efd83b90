-- Names are equal where their bytes are.
use Rattle.std.specs.Prelude.{◌≡◌, ℕ, ◌-◌, true, false, ◌&&◌, List, [], ◌∷◌, ◌++◌, length, take, replicate, ◌==◌, bytes_eq}
use Rattle.std.specs.Bool.{Decides}
use Rattle.std.specs.List.{list_any}
use Rattle.std.proofs.Common.{refl, sym, ap, subst, ◌∙◌}
use Rattle.std.proofs.lemmas.Bool.{eq-eqb, eqb-true, and_parts, and_from}
use Rattle.std.proofs.lemmas.Bool.Decides.{same_from_decides}
use Rattle.std.proofs.lemmas.List.{take_at}
use Rattle.std.proofs.lemmas.Slice.Eq.{bytes_eq-Decides}
use Rattle.indexmap.specs.IndexSet.{insert_key}
use Rattle.pq_term.specs.declared.name.Name.{Name}
use Rattle.pq_term.specs.contracts.name.NamePartialEq.TheImpl as equality

-- a name as it is stored
abbrev padded : List ℕ → List ℕ
padded v = v ++ replicate (32 - length v) 0

-- names that are stored alike are equal
stored_alike : (v w : List ℕ) → padded v ≡ padded w → length v ≡ length w → v ≡ w
stored_alike v w same long = sym (take_at v (replicate (32 - length v) 0) (length v) refl) ∙ ap (take (length v)) same
    ∙ take_at w (replicate (32 - length w) 0) (length v) (sym long)

-- whether names are stored alike tells whether they are equal
tells : (v w : List ℕ) → Decides (bytes_eq (padded v) (padded w) && (length v == length w)) (v ≡ w)
tells v w = (apart, λ same. subst (λ w. (bytes_eq (padded v) (padded w) && (length v == length w)) ≡ true) same alike)
  where
    apart : (bytes_eq (padded v) (padded w) && (length v == length w)) ≡ true → v ≡ w
    apart h =
        let p = and_parts (bytes_eq (padded v) (padded w)) (length v == length w) h in
        stored_alike v w ((bytes_eq-Decides (padded v) (padded w)).0 p.0) (eqb-true (length v) (length w) p.1)

    alike : (bytes_eq (padded v) (padded v) && (length v == length v)) ≡ true
    alike = and_from (bytes_eq (padded v) (padded v)) (length v == length v) ((bytes_eq-Decides (padded v) (padded v)).1 refl)
        (eq-eqb (length v) (length v) refl)

-- names are equal where their bytes are
pub same_names : (v w : Name) → (equality.eq-value).it v w ≡ bytes_eq v w
same_names v w = same_from_decides _ (bytes_eq v w) (tells v w) (bytes_eq-Decides v w)

-- a name is among others where its bytes are
pub among_names : (v : Name) (names : List Name) → list_any ((equality.eq-value).it v) names ≡ list_any (λ n. bytes_eq v n) names
among_names v names = ap (λ f. list_any f names) (λ i w. same_names v w i)

-- a new name goes last
pub new_name_last : (v : Name) (names : List Name) → list_any (λ n. bytes_eq v n) names ≡ false → insert_key (equality.eq-value).it names v ≡ names ++ v ∷ []
new_name_last v names none = rw (among_names v names ∙ none) refl
