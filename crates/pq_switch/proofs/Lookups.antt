-- A look-up among the entries of a map, and in the finite map of the same entries.
use Rattle.std.proofs.Common.{◌≡◌, ℕ, Bool, true, false, cond, List, [], ◌∷◌, map, refl, sym, ap, ◌∙◌, is_some}
use Rattle.std.specs.declared.option.Option.{Option}
use Rattle.std.specs.declared.option.Option.TheVariants.{None, Some}
use Rattle.std.specs.Option.{option_map}
use Rattle.std.specs.Ordering.{nat_cmp, is_eq}
use Rattle.std.specs.Cmp.{nat_cmp_total, eq_by_cmp_equiv}
use Rattle.std.specs.FinMap.{FinMap, find, get, insert, remove, from_entries, get-from_entries, get-insert, get-remove, same_map, nat_cmp-IsAntisymmetric}
use Rattle.std.specs.Map.{lookup}
use Rattle.std.specs.BTreeMap.{BTreeMap, is_at}
use Rattle.std.specs.BTreeMap as tree

-- the entries, each value seen through a function
abbrev pub seen : {X Y : Type 0} → (X → Y) → List (ℕ × X) → List (ℕ × Y)
seen f es = map (λ e. (e.0, f e.1)) es

pub find-seen : {X Y : Type 0} (f : X → Y) (q : ℕ) (es : List (ℕ × X)) → find nat_cmp q (seen f es) ≡ option_map f (lookup (is_at (nat_cmp q)) es)
find-seen f q [] = refl
find-seen f q (e ∷ es) =
    elim (is_eq (nat_cmp q e.0)) as (λ b. cond b (Some (f e.1)) (find nat_cmp q (seen f es))
    ≡ option_map f (cond b (Some e.1) (lookup (is_at (nat_cmp q)) es))) [ true ↦ refl | false ↦ find-seen f q es ]

module _ {X Y : Type 0} (f : X → Y) where
  -- the finite map of a map's entries
  abbrev pub shown : BTreeMap ℕ X → FinMap nat_cmp Y
  shown m = from_entries (seen f m.entries)

  pub get-shown : (m : BTreeMap ℕ X) (q : ℕ) → get (shown m) q ≡ option_map f (tree.get nat_cmp m q)
  get-shown m q = get-from_entries nat_cmp_total (seen f m.entries) q ∙ find-seen f q m.entries

  pub some-shown : (m : BTreeMap ℕ X) (q : ℕ) → is_some (get (shown m) q) ≡ is_some (tree.get nat_cmp m q)
  some-shown m q = ap is_some (get-shown m q) ∙ by (tree.get nat_cmp m q)
    where
      by : (o : Option X) → is_some (option_map f o) ≡ is_some o
      by None = refl
      by (Some x) = refl

  mapped : (b : Bool) (o p : Option X) → option_map f (cond b o p) ≡ cond b (option_map f o) (option_map f p)
  mapped true o p = refl
  mapped false o p = refl

  turned : (k q : ℕ) → is_eq (nat_cmp k q) ≡ is_eq (nat_cmp q k)
  turned k q = (eq_by_cmp_equiv nat_cmp_total).symm k q

  pub shown-insert : (m n : BTreeMap ℕ X) (k : ℕ) (v : X) → tree.Updates nat_cmp m n k (Some v) → shown n ≡ insert (shown m) k (f v)
  shown-insert m n k v h = same_map nat_cmp_total nat_cmp-IsAntisymmetric (shown n) (insert (shown m) k (f v)) (λ q.
      get-shown n q ∙ ap (option_map f) (h.0 q) ∙ mapped (is_at (nat_cmp k) q) (Some v) (tree.get nat_cmp m q)
      ∙ (λ i. cond (turned k q i) (Some (f v)) (sym (get-shown m q) i)) ∙ sym (get-insert nat_cmp_total (shown m) k (f v) q))

  pub shown-remove : (m n : BTreeMap ℕ X) (k : ℕ) → tree.Updates nat_cmp m n k None → shown n ≡ remove (shown m) k
  shown-remove m n k h = same_map nat_cmp_total nat_cmp-IsAntisymmetric (shown n) (remove (shown m) k) (λ q.
      get-shown n q ∙ ap (option_map f) (h.0 q) ∙ mapped (is_at (nat_cmp k) q) None (tree.get nat_cmp m q)
      ∙ (λ i. cond (turned k q i) None (sym (get-shown m q) i)) ∙ sym (get-remove nat_cmp_total (shown m) k q))
