-- The writes of what leaves at a port, among the writes of all that is yielded.
use Rattle.std.proofs.Common.{◌≡◌, ◌∙◌, Bool, true, false, cond, List, [], ◌∷◌, refl, sym, ap, inl, inr}
use Rattle.std.specs.Prelude.{◌⊎◌, IsTrue}
use Rattle.std.specs.List.{Any, filter}
use Rattle.std.specs.declared.cmp.Ordering.TheVariants.{Less}
use Rattle.std.proofs.lemmas.Bool.{true≢false}
use Rattle.std.proofs.lemmas.List.Elements.{All-filter}
use Rattle.std.proofs.lemmas.List.Kept.{AllPairs-filter}
use Rattle.pq_fields.specs.Order.{writes_cmp}
use Rattle.pq_fields.specs.Packet.{Numbers}
use Rattle.pq_fields.specs.Writes.{Written, AllFit, on}
use Rattle.pq_model.specs.Topology.{Topology, is_port}
use Rattle.pq_policy.specs.Policy.{PolicyTree}
use Rattle.pq_rewrite.specs.Rewriting.{ChangesAll, IsGiven, IsWrittenBy}
use Rattle.pq_rewrite.proofs.Sets.{any_cases, any_first, any_none, any_later}
use Rattle.pq_store.specs.Tree.{Tree, value}
use Rattle.pq_layout.specs.Leaves.{AreDepartures, departing, departs_by}
use Rattle.pq_meaning.specs.Meaning.{departs}
use Rattle.pq_meaning.specs.Parts.{IsUnionOfParts, any_yields}

module _ {A : Type 0} (p : A → Bool) (P : A → Type 0) where
  -- of the values that pass some are such where some are such and pass
  abbrev Passes : A → Type 0
  Passes x = P x × (p x ≡ true)

  any_passes : (xs : List A) → Any P (filter p xs) → Any Passes xs
  any_passes [] some = absurd (any_none P some)
  any_passes (x ∷ xs) some = by (p x) refl some (any_passes xs)
    where
      by : (b : Bool) → p x ≡ b → Any P (cond b (x ∷ filter p xs) (filter p xs)) → (Any P (filter p xs) → Any Passes xs) → Any Passes (x ∷ xs)
      by true e some more = elim (any_cases P x (filter p xs) some) [
        | inl here ↦ any_first Passes x xs (here, e)
        | inr later ↦ any_later Passes x xs (more later)
      ]
      by false e some more = any_later Passes x xs (more some)

  passes_any : (xs : List A) → Any Passes xs → Any P (filter p xs)
  passes_any [] some = absurd (any_none Passes some)
  passes_any (x ∷ xs) some = by (p x) refl (any_cases Passes x xs some) (passes_any xs)
    where
      by : (b : Bool) → p x ≡ b → Passes x ⊎ Any Passes xs → (Any Passes xs → Any P (filter p xs)) → Any P (cond b (x ∷ filter p xs) (filter p xs))
      by true e (inl here) more = any_first P x (filter p xs) here.0
      by true e (inr later) more = any_later P x (filter p xs) (more later)
      by false e (inl here) more = absurd (true≢false (sym here.1 ∙ e))
      by false e (inr later) more = more later

-- writes that give some packets give, filtered, those of them that leave at a port
leaving_given : (T : Topology) (x : Numbers) (P : Numbers → Type 0) (ws : List Written) → IsGiven x P ws
    → IsGiven x (λ y. P y × IsTrue (is_port T x.switch y.port)) (filter (departs_by T x) ws)
leaving_given T x P ws given = record {
  ascend = AllPairs-filter (λ v w. writes_cmp v w ≡ Less) passes ws given.ascend;
  fit = All-filter passes AllFit ws given.fit;
  idle_free = All-filter passes (ChangesAll x) ws given.idle_free;
  gives = λ y. (into y, out y);
}
  where
    passes : Written → Bool
    passes = departs_by T x

    into : (y : Numbers) → IsWrittenBy x (filter passes ws) y → P y × IsTrue (is_port T x.switch y.port)
    into y written =
        let some = any_passes passes (λ w. y ≡ on w x) ws written in
        let is = some.4.0 in
        ((given.gives y).0 (some.0, some.1, some.2, some.3, is), ap (λ z. is_port T x.switch z.port) is ∙ some.4.1)

    out : (y : Numbers) → P y × IsTrue (is_port T x.switch y.port) → IsWrittenBy x (filter passes ws) y
    out y (yielded, port) =
        let some = (given.gives y).1 yielded in
        passes_any passes (λ w. y ≡ on w x) ws (some.0, some.1, some.2, some.3, (some.4, ap (λ z. is_port T x.switch z.port) (sym some.4) ∙ port))

-- so of the diagram of all parts the writes that leave at a port are those of the departures
pub parts_depart : (T : Topology) (ps : List PolicyTree) (t : Tree (List Written)) → IsUnionOfParts T ps t
    → AreDepartures (departs T ps) (departing T (value t))
parts_depart T ps t united x fit = leaving_given T x (any_yields T ps x) (value t x) (united.giving x fit)
