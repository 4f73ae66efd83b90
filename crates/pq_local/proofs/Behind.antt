-- Diagrams after the tests of the switch that they begin with.
use Rattle.std.proofs.Common.{◌≡◌, ◌∙◌, ◌<◌, ℕ, Bool, true, false, List, Some, if◌then◌else◌, refl, sym, ap}
use Rattle.std.specs.Prelude.{length}
use Rattle.std.specs.Option.{option_map}
use Rattle.std.proofs.lemmas.Option.{slice_get_within}
use Rattle.pq_rewrite.proofs.Passed.{side_is}
use Rattle.pq_fields.specs.declared.field.Field.TheVariants.{Switch}
use Rattle.pq_fields.specs.Packet.{Numbers, rank}
use Rattle.pq_store.specs.declared.test.Test.{Test}
use Rattle.pq_store.specs.Test.{field_of}
use Rattle.pq_store.specs.Tree.{Tree, value}
use Rattle.pq_store.specs.Tree.Tree.{Fork}
use Rattle.pq_store.specs.Store.{ShowsBranch}
use Rattle.pq_apply.specs.Restricting.{decides}
use Rattle.pq_apply.proofs.SetNumbers.{passes_set}
use Rattle.pq_layout.specs.Leaves.{at_switch}
use Rattle.pq_local.specs.Local.{AgreeAt}

module _ {L : Type 0} where
  -- the tree at one place says the same of the switch's packets as that at another
  pub record IsBehind (d : ℕ) (ts : List (Tree L)) (from at : ℕ) : Type 0 where
    pub within : at < length ts
    pub agrees : AgreeAt ts d at from

  side_value : (b : Bool) (x : Numbers) (y n : Tree L) → value (if b then y else n) x ≡ (if b then value y x else value n x)
  side_value true x y n = refl
  side_value false x y n = refl

  -- so does the side that the switch's number decides
  pub behind_side : (d : ℕ) (ts : List (Tree L)) (from at : ℕ) (s : Test) (i j next : ℕ) → IsBehind d ts from at → ShowsBranch ts at s i j
      → rank (field_of s) ≡ rank Switch
      → next ≡ (if decides s d then i else j) → IsBehind d ts from next
  behind_side d ts from at s i j next behind shows same is =
      let there = side_is (decides s d) ts i j next shows.yes_tree shows.no_tree shows.yes_is shows.no_is is in
      record {
        within = slice_get_within ts next (if decides s d then shows.yes_tree else shows.no_tree) there;
        agrees = λ x.
            let z = at_switch d x in
            let told : value (if decides s d then shows.yes_tree else shows.no_tree) z ≡ value (Fork s shows.yes_tree shows.no_tree) z =
            side_value (decides s d) z shows.yes_tree shows.no_tree
            ∙ ap (λ b. if b then value shows.yes_tree z else value shows.no_tree z) (sym (passes_set s Switch d x same)) in
            ap (option_map (λ t. value t z)) there ∙ (ap Some told ∙ (ap (option_map (λ t. value t z)) (sym shows.is) ∙ behind.agrees x));
      }
