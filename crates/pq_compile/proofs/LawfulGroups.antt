-- Groups that are read are lawful.
use Rattle.std.specs.Prelude.{◌≡◌, ℕ, ◌+◌, ◌≤◌, Bool, true, false, not, ◌&&◌, ◌||◌, List, [], ◌∷◌, ◌++◌, length, map, ◌==◌, nat_eq, Ok}
use Rattle.std.specs.List.{AllByRecursion, IsDistinct, list_any}
use Rattle.std.specs.Cmp.{IsEquivalence, nat_eq_equiv}
use Rattle.std.proofs.Common.{arith, refl, ap, sym, subst, ◌∙◌, length-append}
use Rattle.std.proofs.lemmas.List.{map-append}
use Rattle.std.proofs.lemmas.List.Elements.{All-from_recursion}
use Rattle.std.proofs.lemmas.Map.Keys.{IsDistinct-push}
use Rattle.std.proofs.lemmas.Bool.{not-false}
use Rattle.pq_lists.proofs.Holding.{all_push}
use Rattle.pq_term.specs.declared.token.Token.{Token}
use Rattle.pq_tree.specs.Trees.{Forest, nothing, grown}
use Rattle.pq_tree.specs.Texts.{text_in}
use Rattle.pq_fields.specs.declared.field.Field.{Field}
use Rattle.pq_fields.specs.Packet.{is_wide, rank}
use Rattle.pq_model.specs.Topology.{Topology}
use Rattle.pq_topo.specs.declared.fault.NameKind.TheVariants.{Doubled, NotListed}
use Rattle.pq_topo.specs.Naming.{unless, named}
use Rattle.pq_topo.proofs.Readings.{next_ok, unless_ok}
use Rattle.pq_pred.specs.Values.{field_at, value_of}
use Rattle.pq_query.specs.Groups.{Group}
use Rattle.pq_query.specs.Resolved.{fresh_at, value_at, values_after, is_listed, is_field, is_grouped, grouped_at, unstated, stated}
use Rattle.pq_query.specs.Resolved.{with_values, group_at, groups_after}
use Rattle.pq_query.specs.Lawful.{AreValuesOver, IsGroupOver, AreGroupsOver}
use Rattle.pq_compile.proofs.Fits.{ReadsOver}
use Rattle.pq_compile.proofs.LawfulPreds.{named_ok}

-- Values.

-- values of a list that were read so far
record AreReadValues (V : Field → ℕ → Type 0) (f : Field) (ns : List ℕ) : Type 0 where
  pub fit : AllByRecursion (V f) ns
  pub differ : IsDistinct nat_eq ns

no_values : (V : Field → ℕ → Type 0) (f : Field) → AreReadValues V f []
unfolding IsDistinct
no_values V f = record { fit = tt; differ = tt }

-- the same field has the same place
field_equiv : IsEquivalence is_field
field_equiv = record {
  refl = λ f. nat_eq_equiv.refl (rank f);
  symm = λ f g. nat_eq_equiv.symm (rank f) (rank g);
  congr = λ f g h same. nat_eq_equiv.congr (rank f) (rank g) (rank h) same;
}

-- a field among those of groups
grouped : (f : Field) (gs : List Group) → list_any (is_field f) (map (λ g. g.field) gs) ≡ is_grouped f gs
grouped f [] = refl
grouped f (g ∷ gs) = ap (λ b. is_field f g.field || b) (grouped f gs)

module _ (T : Topology) (V : Field → ℕ → Type 0) (over : ReadsOver T V) (bytes : List ℕ) where
  value_kept : (f : Field) (earlier : List ℕ) (t : Token) (n : ℕ) → value_at T bytes f earlier t ≡ Ok n → AreReadValues V f earlier
      → AreReadValues V f (earlier ++ n ∷ [])
  value_kept f earlier t n e are =
      let value = value_of T f (text_in bytes t) in
      let told = next_ok (named t value) (fresh_at earlier t) n e in
      let m = told.0 in
      let fresh = unless_ok t ((list_any (λ k. m == k) earlier, Doubled) ∷ []) m n told.2 in
      let fits : V f m = over.values f (text_in bytes t) m (named_ok t value m told.1) in
      subst (λ k. AreReadValues V f (earlier ++ k ∷ [])) fresh.1 (record {
        fit = all_push (V f) earlier m are.fit fits;
        differ = IsDistinct-push nat_eq_equiv earlier m are.differ fresh.0.0;
      })

  values_kept : (f : Field) (earlier : List ℕ) (below : Forest) (ns : List ℕ) → values_after T bytes f earlier below ≡ Ok ns
      → AreReadValues V f earlier → AreReadValues V f ns × (length earlier ≤ length ns)
  values_kept f earlier nothing ns e are = let same : earlier ≡ ns = cc in (subst (AreReadValues V f) same are, omega (arith, ap length same))
  values_kept f earlier (grown t below rest) ns e are =
      let told = next_ok (value_at T bytes f earlier t) (λ n. values_after T bytes f (earlier ++ n ∷ []) rest) ns e in
      let later = values_kept f (earlier ++ told.0 ∷ []) rest ns told.2 (value_kept f earlier t told.0 told.1 are) in
      let long : length (earlier ++ told.0 ∷ []) ≡ length earlier + 1 = length-append earlier (told.0 ∷ []) in
      (later.0, omega (arith, later.1, long))

  -- a list with a value gives lawful values
  values_over : (f : Field) (t : Token) (below rest : Forest) (ns : List ℕ) → values_after T bytes f [] (grown t below rest) ≡ Ok ns → AreValuesOver V f ns
  values_over f t below rest ns e =
      let told = next_ok (value_at T bytes f [] t) (λ n. values_after T bytes f (n ∷ []) rest) ns e in
      let later = values_kept f (told.0 ∷ []) rest ns told.2 (value_kept f [] t told.0 told.1 (no_values V f)) in
      record {
        some = λ none. (let zero : length ns ≡ 0 = ap length none in omega (arith, zero, later.1));
        fit = All-from_recursion (V f) ns later.0.fit;
        differ = later.0.differ;
      }

  -- Groups.

  -- a field that may be grouped after earlier ones
  record IsReadField (earlier : List Group) (stated : Bool) (f : Field) : Type 0 where
    pub new : is_grouped f earlier ≡ false
    pub listed : (not stated && not (is_listed f)) ≡ false
    pub narrow : is_wide f ≡ false

  field_read : (earlier : List Group) (stated : Bool) (t : Token) (f : Field) → grouped_at bytes earlier stated t ≡ Ok f → IsReadField earlier stated f
  field_read earlier stated t f e =
      let told = next_ok (field_at bytes t)
      (λ f. unless t ((is_grouped f earlier, Doubled) ∷ (not stated && not (is_listed f), NotListed) ∷ (is_wide f, NotListed) ∷ []) f) f
      e in
      let g = told.0 in
      let rules = unless_ok t ((is_grouped g earlier, Doubled) ∷ (not stated && not (is_listed g), NotListed) ∷ (is_wide g, NotListed) ∷ []) g f told.2 in
      subst (IsReadField earlier stated) rules.1 (record { new = rules.0.0; listed = rules.0.1.0; narrow = rules.0.1.1.0 })

  -- a group whose field is new is lawful
  group_read : (earlier : List Group) (t : Token) (below : Forest) (g : Group) → group_at T bytes earlier t below ≡ Ok g
      → IsGroupOver V g × (is_grouped g.field earlier ≡ false)
  group_read earlier t nothing g e =
      let told = next_ok (grouped_at bytes earlier false t) (λ f. Ok (unstated f)) g e in
      let read = field_read earlier false t told.0 told.1 in
      let same : unstated told.0 ≡ g = cc in
      subst (λ g. IsGroupOver V g × (is_grouped g.field earlier ≡ false)) same ((read.narrow, not-false (is_listed told.0) read.listed), read.new)
  group_read earlier t (grown u below rest) g e =
      let told = next_ok (grouped_at bytes earlier true t) (λ f. with_values T bytes f (grown u below rest)) g e in
      let read = field_read earlier true t told.0 told.1 in
      let valued = next_ok (values_after T bytes told.0 [] (grown u below rest)) (λ ns. Ok (stated told.0 ns)) g told.2 in
      let same : stated told.0 valued.0 ≡ g = cc in
      subst (λ g. IsGroupOver V g × (is_grouped g.field earlier ≡ false)) same ((read.narrow, values_over told.0 u below rest valued.0 valued.1), read.new)

  -- groups of brackets that were read so far
  record AreReadGroups (gs : List Group) : Type 0 where
    pub each : AllByRecursion (IsGroupOver V) gs
    pub differ : IsDistinct is_field (map (λ g. g.field) gs)

  groups_kept : (earlier : List Group) (below : Forest) (gs : List Group) → groups_after T bytes earlier below ≡ Ok gs
      → AreReadGroups earlier → AreReadGroups gs
  groups_kept earlier nothing gs e are = let same : earlier ≡ gs = cc in subst AreReadGroups same are
  groups_kept earlier (grown t below rest) gs e are =
      let told = next_ok (group_at T bytes earlier t below) (λ g. groups_after T bytes (earlier ++ g ∷ []) rest) gs e in
      let g = told.0 in
      let read = group_read earlier t below g told.1 in
      let new : list_any (is_field g.field) (map (λ g. g.field) earlier) ≡ false = grouped g.field earlier ∙ read.1 in
      groups_kept (earlier ++ g ∷ []) rest gs told.2 (record {
        each = all_push (IsGroupOver V) earlier g are.each read.0;
        differ = subst (IsDistinct is_field) (sym (map-append (λ (g : Group). g.field) earlier (g ∷ [])))
            (IsDistinct-push field_equiv (map (λ g. g.field) earlier) g.field are.differ new);
      })

  no_groups : AreReadGroups []
  unfolding IsDistinct
  no_groups = record { each = tt; differ = tt }

  -- the groups of an atom without brackets
  pub none_over : AreGroupsOver V []
  none_over = record { each = All-from_recursion (IsGroupOver V) [] tt; differ = no_groups.differ }

  -- the groups of brackets
  pub groups_over : (below : Forest) (gs : List Group) → groups_after T bytes [] below ≡ Ok gs → AreGroupsOver V gs
  groups_over below gs e =
      let are = groups_kept [] below gs e no_groups in
      record { each = All-from_recursion (IsGroupOver V) gs are.each; differ = are.differ }
