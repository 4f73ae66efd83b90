-- Units that are cut short.
use Rattle.std.specs.Prelude.{◌≡◌, ℕ, ◌+◌, ◌-◌, ◌<◌, ◌≤◌, ◌⊎◌, true, false, List, [], ◌∷◌, ◌++◌, All, length, map, nat_lt, take}
use Rattle.std.proofs.Common.{drop, arith, refl, sym, ap, ◌∙◌, inl, inr, append_assoc, subst}
use Rattle.std.specs.List.{concat, flat_map}
use Rattle.std.proofs.Math.Seq.{take-append-add}
use Rattle.std.proofs.lemmas.Bool.{cases_lt}
use Rattle.std.proofs.lemmas.Bool.Decides.{nat_tests}
use Rattle.std.proofs.lemmas.List.{append-nil, flat_map_more, length-append, length-take, take-append-drop, take-append-le}
use Rattle.pq_install.specs.Cut.{unit_start}
use Rattle.pq_install.specs.Damage.{FailsOrAfter}
use Rattle.pq_install.specs.Front.{IsAtFront}
use Rattle.pq_install.specs.Units.{ListFails, UnitFails}
use Rattle.pq_install.proofs.Closed.{Closed, up_to}
use Rattle.pq_install.proofs.Front.{Unique}
use Rattle.pq_install.proofs.UnitLists.{all_more}

-- the bytes are those of some units and this many of the next, which is not whole
abbrev pub IsCut : List (List ℕ) → List ℕ → ℕ → Type 0
IsCut [] bytes left = ⊥
IsCut (u ∷ us) bytes left = ((byte : ℕ) × (behind : List ℕ) × (u ≡ bytes ++ byte ∷ behind) × (left ≡ length bytes)) ⊎
    ((rest : List ℕ) × (bytes ≡ u ++ rest) × IsCut us rest left)

-- wherever the units are cut, it fails
abbrev pub CutsFail : (List ℕ → ℕ → Type 0) → List (List ℕ) → Type 0
CutsFail Fails units = (bytes : List ℕ) (left : ℕ) → IsCut units bytes left → Fails bytes left

split_at : (n : ℕ) (u : List ℕ) → n < length u → (byte : ℕ) × (behind : List ℕ) × (u ≡ take n u ++ byte ∷ behind)
split_at n u below = by (drop n u) refl where
  by : (behind : List ℕ) → drop n u ≡ behind → (byte : ℕ) × (more : List ℕ) × (u ≡ take n u ++ byte ∷ more)
  by [] e =
      let whole : u ≡ take n u ++ [] = sym (take-append-drop n u) ∙ ap (λ (more : List ℕ). take n u ++ more) e in
      absurd (omega (arith, below, ap length whole, ap length (append-nil (take n u)), length-take n u))
  by (byte ∷ more) e = (byte, more, sym (take-append-drop n u) ∙ ap (λ (behind : List ℕ). take n u ++ behind) e)

start_here : (u : List ℕ) (us : List (List ℕ)) (n : ℕ) → n < length u → unit_start (u ∷ us) n ≡ 0
start_here u us n below =
    let here : nat_lt n (length u) ≡ true = grind (arith, nat_tests, below) in
    rw here refl

start_behind : (u : List ℕ) (us : List (List ℕ)) (n : ℕ) → length u ≤ n → unit_start (u ∷ us) n ≡ length u + unit_start us (n - length u)
start_behind u us n past =
    let behind : nat_lt n (length u) ≡ false = grind (arith, nat_tests, past) in
    rw behind refl

-- bytes cut short are cut in the unit that has the first byte that is missing
pub cut_at : (us : List (List ℕ)) (n : ℕ) → n < length (concat us) → (left : ℕ) × (unit_start us n + left ≡ n) × IsCut us (take n (concat us)) left
cut_at [] n below = absurd (omega (arith, below))
cut_at (u ∷ us) n below = elim (cases_lt n (length u)) [
  | inl here ↦
      let front : take n (u ++ concat us) ≡ take n u = take-append-le n u (concat us) (omega (arith, here)) in
      let at = split_at n u here in
      (n, omega (arith, start_here u us n here), inl (at.0, at.1, rw front at.2, rw front (omega (arith, here, length-take n u))))
  | inr past ↦
      let later = cut_at us (n - length u) (omega (arith, below, past, length-append u (concat us))) in
      let same : length u + (n - length u) ≡ n = omega (arith, past) in
      let front : take n (u ++ concat us) ≡ u ++ take (n - length u) (concat us) =
      subst (λ (m : ℕ). take m (u ++ concat us) ≡ u ++ take (n - length u) (concat us)) same
      (take-append-add u (concat us) (n - length u)) in
      (later.0, omega (arith, past, start_behind u us n past, later.1), inr (take (n - length u) (concat us), front, later.2))
]

-- a cut is in the first units or after them
pub cut_in : (us vs : List (List ℕ)) → (bytes : List ℕ) (left : ℕ) → IsCut (us ++ vs) bytes left
    → IsCut us bytes left ⊎ ((rest : List ℕ) × (bytes ≡ concat us ++ rest) × IsCut vs rest left)
cut_in [] vs bytes left cut = inr (bytes, refl, cut)
cut_in (u ∷ us) vs bytes left (inl here) = inl (inl here)
cut_in (u ∷ us) vs bytes left (inr (rest, e, cut)) = elim (cut_in us vs rest left cut) [
  | inl first ↦ inl (inr (rest, e, first))
  | inr behind ↦ inr (behind.0, e ∙ (ap (λ (more : List ℕ). u ++ more) behind.1 ∙ sym (append_assoc u (concat us) behind.0)), behind.2)
]

-- where the first units cut fail and those after them too, all fail
pub cut_or_after : {X : Type 0} (Fails : List ℕ → ℕ → Type 0) (P : X → Type 0) (spell : X → List ℕ) (After : X → List ℕ → ℕ
    → Type 0) (us vs : List (List ℕ)) (x : X) → P x → concat us ≡ spell x → CutsFail Fails us → CutsFail (After x) vs
    → CutsFail (FailsOrAfter Fails (IsAtFront P spell) After) (us ++ vs)
cut_or_after Fails P spell After us vs x fit same first second bytes left cut = elim (cut_in us vs bytes left cut) [
  | inl here ↦ inl (first bytes left here)
  | inr behind ↦ inr (x, behind.0, (fit, behind.1 ∙ ap (λ (front : List ℕ). front ++ behind.0) same), second behind.0 left behind.2)
]

pub concat_map : {X : Type 0} (spell : X → List ℕ) (xs : List X) → concat (map spell xs) ≡ flat_map spell xs
concat_map spell [] = refl
concat_map spell (x ∷ xs) = ap (λ (rest : List ℕ). spell x ++ rest) (concat_map spell xs)

module _ {X : Type 0} (P : X → Type 0) (spell : X → List ℕ) (unique : Unique P spell) where
  -- no value is spelled at the front of another's spelling that is cut
  none_cut : (x y : X) (bytes rest behind : List ℕ) (byte : ℕ) → P x → P y → spell y ≡ bytes ++ byte ∷ behind → bytes ≡ spell x ++ rest → ⊥
  none_cut x y bytes rest behind byte px py cut e =
      let whole : spell y ++ [] ≡ spell x ++ (rest ++ byte ∷ behind) = append-nil (spell y)
      ∙ (cut ∙ (ap (λ (front : List ℕ). front ++ byte ∷ behind) e ∙ append_assoc (spell x) rest (byte ∷ behind))) in
      let nothing : [] ≡ rest ++ byte ∷ behind = (unique y x [] (rest ++ byte ∷ behind) py px whole).1 in
      omega (arith, ap length nothing, length-append rest (byte ∷ behind))

  -- a unit that is cut fails
  pub unit_cut : (y : X) → P y → CutsFail (UnitFails P spell) (spell y ∷ [])
  unit_cut y py bytes left (inl (byte, behind, cut, all)) = (all, λ x rest px e. none_cut x y bytes rest behind byte px py cut e)
  unit_cut y py bytes left (inr (rest, e, cut)) = absurd cut

  module _ (Rules : List X → Type 0) (each : (zs : List X) → Rules zs → All P zs) (closed : Closed Rules) where
    -- so does a list
    list_cut : (xs ys : List X) → Rules (xs ++ ys) → (whole bytes : List ℕ) (left : ℕ) → whole ≡ flat_map spell xs ++ bytes
        → IsCut (map spell ys) bytes left → ListFails Rules spell (length (xs ++ ys)) whole left
    list_cut xs [] rules whole bytes left front cut = absurd cut
    list_cut xs (y ∷ ys) rules whole bytes left front (inl (byte, behind, cut, all)) =
        let up = up_to Rules closed xs y ys rules in (
          xs,
          bytes,
          omega (arith, length-append xs (y ∷ ys)),
          (closed xs y up, front),
          (
            all,
            λ x rest kept e. none_cut x y bytes rest behind byte ((all_more P xs x).0 (each (xs ++ x ∷ []) kept)).1
                ((all_more P xs y).0 (each (xs ++ y ∷ []) up)).1 cut e,
          ),
        )
    list_cut xs (y ∷ ys) rules whole bytes left front (inr (rest, e, cut)) =
        let regrouped : (xs ++ y ∷ []) ++ ys ≡ xs ++ y ∷ ys = append_assoc xs (y ∷ []) ys in
        let longer : whole ≡ flat_map spell (xs ++ y ∷ []) ++ rest = front
        ∙ (ap (λ (more : List ℕ). flat_map spell xs ++ more) e
        ∙ (sym (append_assoc (flat_map spell xs) (spell y) rest) ∙ ap (λ (more : List ℕ). more ++ rest) (flat_map_more spell [] xs y)))
        in
        subst (λ (zs : List X). ListFails Rules spell (length zs) whole left) regrouped
        (list_cut (xs ++ y ∷ []) ys (subst Rules (sym regrouped) rules) whole rest left longer cut)

    pub list_cuts : (ys : List X) → Rules ys → CutsFail (ListFails Rules spell (length ys)) (map spell ys)
    list_cuts ys rules bytes left cut = list_cut [] ys rules bytes bytes left refl cut
